-- `surface::excess::given`: the cut share, and with it the remainder at the lowest direction with positive weight. Assumes nothing.
use mathlib.Core.Path.{◌≡◌, sym, ◌∙◌, ap₂, subst}
use lib.IntN.{ℤ, pos, ◌+ℤ◌, +ℤ_idr}
use lib.Signed.{◌<ℤ◌}
use borrow.Author.Tests.{eq-eqb, ne_eqb}
use mir.Syntax.{w64}
use mir.Val.{to_z, of_z}
use mir.Facts.{to_z-of_z}
use Rattle.whole.specs.Fold.{dirs}
use Rattle.whole.specs.laws.Machine.{same, v64, within_by, does-fit, reads_as}
use Rattle.lattice.specs.Cell.{cut_share, remainder, lowest_dir, share}
use Rattle.lattice.specs.inner.Held.{parts_of}
use Rattle.lattice.proofs.Reading.{reading, inside}
use Rattle.surface.proofs.Weights.{total-in}
use Rattle.surface.proofs.excess.given.Lts as lts
use Rattle.surface.proofs.excess.given.Reads as reads
use Rattle.surface.proofs.excess.given.Tie as tie
use Rattle.surface.proofs.excess.given.Goals as goal

abbrev At-After-total-t : Type 0
At-After-total-t = lts.After-total tie.the-claims reads.Pre reads.Post

abbrev At-After-cut_share-y : Type 0
At-After-cut_share-y = lts.After-cut_share tie.the-claims reads.Pre reads.Post

-- the total weight, as it is handed on
whole-weight : (c : At-After-total-t) → to_z w64 (of_z w64 c.total-t.result) ≡ dirs 18 (parts_of c.args.w)
whole-weight c = reads_as (v64 (same c.total-t.ensures (inside (total-in c.args.w c.requires.1)))) tt

-- the cut share of direction i
cut-is : (c : At-After-cut_share-y) → c.cut_share-y.result ≡ cut_share 18 c.args.e (parts_of c.args.w) c.args.i
unfolding cut_share
cut-is c =
    let s = c.before.before.before in
    let hw = s.requires.1.at s.args.i s.requires.3 s.requires.4 in
    let e : to_z w64 (of_z w64 (parts_of s.args.w s.args.i)) ≡ parts_of s.args.w s.args.i = reads_as (search reading depth 20) tt in
    rw (to_z-of_z s.ranges.e, e, whole-weight c.before.before) at c.cut_share-y.ensures.0

pub cut_share-y-requires : goal.cut_share-y-requires
cut_share-y-requires c =
    let s = c.before.before in
    let he = s.requires.0 in
    let hw = s.requires.1.at s.args.i s.requires.3 s.requires.4 in
    (within_by (search reading depth 20) tt, within_by (search reading depth 20) tt, subst (λ (z : ℤ). pos 0 <ℤ z) (sym (whole-weight c.before)) s.requires.2)

pub remainder-requires : goal.remainder-requires
remainder-requires c =
    let s = c.before.before.before.before.before in
    let he = s.requires.0 in
    (within_by (search reading depth 20) tt, s.requires.1, subst (λ (z : ℤ). pos 0 <ℤ z) (sym (whole-weight c.before.before.before.before)) s.requires.2, whole-weight c.before.before.before.before)

pub overflow_add-result : goal.overflow_add-result
overflow_add-result c =
    let x = c.cut_share-y.ensures.1 in
    let y = c.remainder.ensures.1 in
    does-fit (search reading depth 20) tt

pub returns-then-first-i : goal.returns-then-first-i
unfolding share
returns-then-first-i c =
    let s = c.before.before.before.before.before.before in
    let x = c.cut_share-y.ensures.1 in
    let y = c.remainder.ensures.1 in
    let e : to_z w64 (of_z w64 (to_z w64 (of_z w64 c.cut_share-y.result) +ℤ to_z w64 (of_z w64 c.remainder.result))) ≡ c.cut_share-y.result +ℤ c.remainder.result =
    reads_as (search reading depth 20) tt in
    let r : c.remainder.result ≡ remainder 18 s.args.e (parts_of s.args.w) = rw (to_z-of_z s.ranges.e) at c.remainder.ensures.0 in
    rw (eq-eqb s.args.i (lowest_dir 18 (parts_of s.args.w)) (sym c.if-first-i.true ∙ c.first.ensures)) (e ∙ ap₂ ◌+ℤ◌ (cut-is c.before.before.before) r)

pub returns : goal.returns
unfolding share
returns c =
    let s = c.before.before.before.before.before in
    let x = c.cut_share-y.ensures.1 in
    let e : to_z w64 (of_z w64 c.cut_share-y.result) ≡ c.cut_share-y.result = reads_as (search reading depth 20) tt in
    rw (ne_eqb s.args.i (lowest_dir 18 (parts_of s.args.w)) (λ k. c.if-first-i.false (c.first.ensures ∙ sym k)))
    (e ∙ cut-is c.before.before ∙ sym (+ℤ_idr (cut_share 18 s.args.e (parts_of s.args.w) s.args.i)))
