use mathlib.Core.Path.{◌≡◌, refl, sym, ◌∙◌, ap, ap₂, subst}
use mathlib.Core.Bool.{true}
use mathlib.Core.List.{List}
use Prim.Native.Nat.{ℕ, suc, ◌+◌, ◌-◌, ◌*◌, ◌<◌, ◌≤◌}
use native.Mathlib.Omega.{arith}
use lib.ListN.{get_or}
use lib.IntN.{ℤ, pos, ◌+ℤ◌, ◌-ℤ◌}
use mir.Syntax.{w32, w64}
use mir.Val.{to_z, of_z}
use mir.Facts.{to_z-of_z}
use Rattle.whole.specs.laws.Machine.{Within, known, v32, within_by, does-fit, reads_as}
use Rattle.lattice.specs.declared.Flow.{Flow}
use Rattle.lattice.specs.Cell.{relaxation_good}
use Rattle.lattice.specs.inner.Held.{parts_of, Bounded, vec}
use Rattle.lattice.proofs.Ranges.{relaxation-in}
use Rattle.lattice.proofs.Reading.{reading, inside}
use Rattle.lattice.proofs.Tame.{steady-tame}
use Rattle.landings.specs.inner.Estimate.{landed, Mixes}
use Rattle.landings.proofs.Landed.{room, slack}
use Rattle.collision.proofs.Turns.{eighteen, begun, both, all_done}
use Rattle.flume.specs.inner.Spread.{spread_lattice}
use Rattle.nine.specs.inner.Ends.{EndsNine}
use Rattle.nine.proofs.Lands.{lands}
use Rattle.nine.proofs.collide.collided9.Invariants.{aimed}
use Rattle.nine.proofs.collide.collided9.Goals as goal

wider : {z : ℤ} → Within z 1441792 → Within z 1572864
wider h = record { abs = omega (arith, h.abs) }

wider-parts : {f : List ℤ} → Bounded f 1572864 1441792 → Bounded f 1572864 1572864
wider-parts b = record { rest = b.rest; at = λ k h m. wider (b.at k h m) }

-- 1024 − p, as the code holds it
abbrev own : ℤ → ℤ
own p = to_z w32 (of_z w32 (to_z w64 (of_z w64 (pos 1024 -ℤ to_z w64 (of_z w64 p)))))

own-is : (p : ℤ) → relaxation_good p ≡ true → own p ≡ pos 1024 -ℤ p
own-is p g = let h = relaxation-in p g in reads_as (search reading depth 20) tt

-- what an end and a part are mixed to fits
mixes : {v : Flow} {p : ℤ} {e : List ℕ} {z : ℤ} → relaxation_good p ≡ true → EndsNine v p e → (k : ℕ) → k < 18 → Within z 1441792 → Mixes (get_or e k 0) z (own p)
mixes {p = p} {e = e} g n k h m =
    let most : get_or e k 0 < 2866822637798031361 = omega (arith, n.most k h) in
    record { fit = room 2866822637798031361 1441792 most m tt; part = wider m; own = subst (λ (z : ℤ). Within z 1023) (sym (own-is p g)) (slack p g) }

pub loop-h-init : goal.loop-h-init
loop-h-init c = begun _ _ _ refl (within_by (v32 (inside (steady-tame c.args.v c.requires.1).rho)) tt)

pub settled-m-requires : goal.settled-m-requires
settled-m-requires c =
    let i = 2 * c.loop-h.h + 1 in
    mixes c.requires.2 (rw (to_z-of_z c.ranges.p) at c.ends9-e.ensures) (i - 1) (omega arith) (within_by (v32 (inside (c.requires.0.at i (omega arith) (omega arith)))) tt)

pub settled-n-requires : goal.settled-n-requires
settled-n-requires c =
    let i = 2 * c.loop-h.h + 1 in
    mixes c.requires.2 (rw (to_z-of_z c.ranges.p) at c.ends9-e.ensures) i (omega arith) (within_by (v32 (inside (c.requires.0.at (i + 1) (omega arith) (omega arith)))) tt)

pub overflow_sub-r : goal.overflow_sub-r
overflow_sub-r c =
    let x = c.settled-m.ensures.1 in
    let y = c.settled-n.ensures.1 in
    let near = c.loop-h.invariant.near in
    let r = known (to_z w32 c.loop-h.r-bits) 671088640 (omega arith) in
    does-fit (search reading depth 20) tt

pub loop-h-preserved : goal.loop-h-preserved
loop-h-preserved c =
    let l = c.loop-h in
    let i = 2 * l.h + 1 in
    let f = c.args.f in
    let e = c.ends9-e.result in
    let m = c.settled-m.result in
    let n = c.settled-n.result in
    let hm = c.settled-m.ensures.1 in
    let hn = c.settled-n.ensures.1 in
    let near = l.invariant.near in
    let r = known (to_z w32 l.r-bits) 671088640 (omega arith) in
    let em : to_z w32 (of_z w32 m) ≡ m = reads_as (v32 (inside hm)) tt in
    let en : to_z w32 (of_z w32 n) ≡ n = reads_as (v32 (inside hn)) tt in
    let er : to_z w32 (of_z w32 (to_z w32 l.r-bits -ℤ to_z w32 (of_z w32 (to_z w32 (of_z w32 m) +ℤ to_z w32 (of_z w32 n))))) ≡ to_z w32 l.r-bits -ℤ (m +ℤ n) =
    reads_as (search reading depth 20) tt in
    let ef : to_z w32 (of_z w32 (parts_of f i)) ≡ parts_of f i = reads_as (v32 (inside (c.requires.0.at i (omega arith) (omega arith)))) tt in
    let eg : to_z w32 (of_z w32 (parts_of f (i + 1))) ≡ parts_of f (i + 1) = reads_as (v32 (inside (c.requires.0.at (i + 1) (omega arith) (omega arith)))) tt in
    let z : i ≡ i + 1 - 1 = omega arith in
    let first = c.settled-m.ensures.0 ∙ ap (λ (y : ℤ). landed (get_or e (i - 1) 0) y (own c.args.p)) ef in
    let second = c.settled-n.ensures.0 ∙ ap₂ (λ (k : ℕ) (y : ℤ). landed (get_or e k 0) y (own c.args.p)) z eg in
    rw (er, em, en) (both (aimed e f (own c.args.p)) _ m n (2 * (l.h + 1) + 1) (omega arith) l.invariant (omega arith) (omega arith) first second hm hn)

pub by_divider9-requires : goal.by_divider9-requires
by_divider9-requires c = (c.well_formed.0.1.0.1, wider-parts c.requires.0, steady-tame c.args.v c.requires.1, rw (to_z-of_z c.ranges.p) c.requires.2)

pub returns : goal.returns
returns c =
    let v = c.args.v in
    let p = c.args.p in
    let e = c.ends9-e.result in
    let t = steady-tame v c.requires.1 in
    let r : to_z w32 (of_z w32 v.rho) ≡ v.rho = reads_as (v32 (inside t.rho)) tt in
    let near = rw (to_z-of_z c.ranges.p) at c.ends9-e.ensures in
    -- what the low words tell, as the code asks
    let low : c.highest.result ≤ 4293918719 = omega arith in
    all_done (aimed e c.args.f (own p)) v.rho spread_lattice eighteen (vec v) p (parts_of c.args.f)
    (λ k h.
    ap₂ (λ (n : ℕ) (y : ℤ). landed (get_or e n 0) (parts_of c.args.f (suc k)) y) (omega arith) (own-is p c.requires.2)
    ∙ lands v p c.args.f e c.requires.3 t.low near k h (omega (arith, low, c.highest.ensures k h)))
    (rw r at c.loop-h.invariant) (omega arith)
