use mathlib.Core.Path.{◌≡◌, sym, ◌∙◌, ap, ap₂}
use mathlib.Core.List.{[], ◌∷◌}
use Prim.Native.Nat.{ℕ}
use native.Mathlib.Omega.{arith}
use lib.IntN.{ℤ, ◌+ℤ◌, ◌-ℤ◌, +ℤ_idr}
use mir.Syntax.{w64}
use mir.Val.{to_z, of_z}
use mir.Facts.{to_z-of_z}
use Rattle.whole.specs.Fold.{sum, dirs}
use Rattle.whole.specs.laws.Bounds.{abs-sub}
use Rattle.whole.specs.laws.Ring.{ring-by, quotes}
use Rattle.whole.specs.laws.Machine.{known, reads_as}
use Rattle.lattice.specs.Cell.{remainder, cut_share}
use Rattle.lattice.specs.inner.Held.{parts_of}
use Rattle.lattice.proofs.Pairs.{off_rest, off-one, off_next, off-dirs}
use Rattle.lattice.proofs.Reading.{reading}
use Rattle.surface.proofs.excess.remainder.Invariants.{part}
use Rattle.surface.proofs.excess.remainder.Goals as goal

taken : (r s x : ℤ) → r -ℤ s -ℤ x ≡ r -ℤ (s +ℤ x)
taken r s x = ring-by (r ∷ s ∷ x ∷ []) (search quotes depth 20) (search quotes depth 20) tt

pub loop-i-init : goal.loop-i-init
loop-i-init c =
    let h = c.requires.0 in
    let e = to_z-of_z c.ranges.e in
    (sym (ap (λ (z : ℤ). to_z w64 (of_z w64 c.args.e) -ℤ z) (off-one _) ∙ +ℤ_idr (to_z w64 (of_z w64 c.args.e))), rw e (omega (arith, h.abs)))

pub loop-i-preserved : goal.loop-i-preserved
loop-i-preserved c =
    let l = c.loop-i in
    let n = c.cut_share-r.result in
    let x = c.cut_share-r.ensures.1 in
    let r = known (to_z w64 l.r-bits) 90000000000000000 (omega arith) in
    let er : to_z w64 (of_z w64 (to_z w64 l.r-bits -ℤ to_z w64 (of_z w64 n))) ≡ to_z w64 l.r-bits -ℤ n = reads_as (search reading depth 20) tt in
    let E = to_z w64 (of_z w64 c.args.e) in
    let F = part E (to_z w64 (of_z w64 c.args.t)) c.args.w in
    let hw = c.requires.1.at l.i (omega arith) (omega arith) in
    let ew : to_z w64 (of_z w64 (parts_of c.args.w l.i)) ≡ parts_of c.args.w l.i = reads_as (search reading depth 20) tt in
    let en : n ≡ F l.i = rw ew at c.cut_share-r.ensures.0 in (
      er ∙ ap₂ ◌-ℤ◌ l.invariant.0 en ∙ taken E (sum l.i (off_rest F)) (F l.i) ∙ ap (λ (z : ℤ). E -ℤ z) (sym (off_next l.i F (omega arith))),
      rw er (omega (arith, abs-sub (to_z w64 l.r-bits) n, x.abs)),
    )

pub returns : goal.returns
unfolding remainder cut_share
returns c =
    let l = c.loop-i in
    let E = to_z w64 (of_z w64 c.args.e) in
    let F = part E (to_z w64 (of_z w64 c.args.t)) c.args.w in
    let k : l.i ≡ 19 = omega arith in (
      l.invariant.0 ∙ ap (λ (n : ℕ). E -ℤ sum n (off_rest F)) k ∙ ap (λ (z : ℤ). E -ℤ z) (off-dirs 18 F)
          ∙ ap₂ (λ (e t : ℤ). e -ℤ dirs 18 (part e t c.args.w)) (to_z-of_z c.ranges.e) (to_z-of_z c.ranges.t ∙ c.requires.3),
      record { abs = omega arith },
    )
