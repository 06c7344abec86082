-- `tally::listing::join`: a mark's entry gets one cell and its mass more. Assumes nothing.
use borrow.Author.Rules.{sfits_of}
use mathlib.Core.Path.{◌≡◌, sym, ap, ap₂, ◌∙◌, subst}
use Prim.Native.Nat.{ℕ, ◌-◌}
use native.Mathlib.Omega.{arith}
use lib.IntN.{ℤ, pos, ◌+ℤ◌}
use lib.ListN.{get_or}
use mir.Syntax.{w64}
use mir.Val.{to_z, of_z}
use mir.Facts.{to_z-of_z}
use Rattle.whole.specs.laws.Machine.{Within}
use Rattle.pools.specs.inner.Listing.{Entry}
use Rattle.pools.proofs.Listings.{join-none, join-at}
use Rattle.tally.proofs.listing.join.Lts as lts
use Rattle.tally.proofs.listing.join.Reads as reads
use Rattle.tally.proofs.listing.join.Tie as tie
use Rattle.tally.proofs.listing.join.Goals as goal

abbrev At-After-number-k : Type 0
At-After-number-k = lts.After-number tie.the-claims reads.Pre reads.Post

-- the entry of the mark
entry : (c : At-After-number-k) → Entry c.args.counts.now c.args.waters.now (c.number-k.result - 1)
entry c =
    let a = c in
    subst (λ (k : ℕ). Entry a.args.counts.now a.args.waters.now (k - 1)) (sym c.number-k.ensures) (a.requires.entry c.if-m-eq0.false)

pub returns-then-m-eq0 : goal.returns-then-m-eq0
returns-then-m-eq0 c = let a = c in join-none a.args.counts.now a.args.waters.now a.args.m a.args.mass c.if-m-eq0.true

pub bounds-counts-k : goal.bounds-counts-k
bounds-counts-k c = (entry c.before.before).counted

pub overflow_add-counts : goal.overflow_add-counts
overflow_add-counts c = omega (arith, (entry c.before).cells)

pub bounds-counts-k-2 : goal.bounds-counts-k-2
bounds-counts-k-2 c = (entry c.before).counted

pub slice_copy_out-plus : goal.slice_copy_out-plus
slice_copy_out-plus c = (entry c.before).weighed

pub plus-requires : goal.plus-requires
plus-requires c = subst (λ (z : ℤ). Within z 1000000000000) (sym (to_z-of_z {w = w64} (sfits_of {w = w64} c.plus-arg-1.given))) (entry c.before.before).water

pub bounds-waters-k : goal.bounds-waters-k
bounds-waters-k c = (entry c.before.before.before).weighed

pub returns : goal.returns
returns c =
    let n = c in
    let a = n in
    let stored : to_z w64 (of_z w64 (get_or a.args.waters.now (n.number-k.result - 1) (pos 0))) ≡ get_or a.args.waters.now (n.number-k.result - 1) (pos 0)
    = to_z-of_z (sfits_of {w = w64} c.plus-arg-1.given) in
    join-at a.args.counts.now a.args.waters.now a.args.m a.args.mass (n.number-k.result - 1) _ n.if-m-eq0.false (ap (λ (k : ℕ). k - 1) n.number-k.ensures)
    (to_z-of_z {w = w64} (sfits_of {w = w64} c.plus.type_inv) ∙ c.plus.ensures ∙ ap₂ (λ (x y : ℤ). x +ℤ y) stored (to_z-of_z a.ranges.mass))
