-- `excess::giving::gifts`: where no neighbour is marked, none gives. Assumes nothing.
use borrow.Author.Tests.{not-true}
use mathlib.Core.Path.{sym, subst, ◌∙◌}
use Prim.Native.Nat.{ℕ, ◌+◌, ◌-◌, ◌<◌}
use lib.ListN.{get_or}
use Rattle.excess.proofs.Takes.{nothing-sent}
use Rattle.excess.proofs.giving.gifts.Lts as lts
use Rattle.excess.proofs.giving.gifts.Reads as reads
use Rattle.excess.proofs.giving.gifts.Tie as tie
use Rattle.excess.proofs.giving.gifts.Goals as goal

abbrev At-Start : Type 0
At-Start = lts.Start tie.the-claims reads.Pre reads.Post

abbrev At-After-marked_beside : Type 0
At-After-marked_beside = lts.After-marked_beside tie.the-claims reads.Pre reads.Post

pub overflow_sub-c : goal.overflow_sub-c
overflow_sub-c c = let start : At-Start = search in (start.requires.0.taker start.args.c start.requires.1 start.requires.2).from

pub marked_beside-requires : goal.marked_beside-requires
marked_beside-requires c =
    let start : At-Start = search in let g = start.requires.0 in
    λ i h. subst (λ (n : ℕ). start.args.c - start.args.low + get_or start.args.off.now i 0 < n) (sym g.marks-there) ((g.taker start.args.c start.requires.1 start.requires.2).each i h)

pub returns-then-not-marked_beside : goal.returns-then-not-marked_beside
returns-then-not-marked_beside c =
    let start : At-Start = search in let a = start.args in
    let after-marked-beside : At-After-marked_beside = search in
    nothing-sent a.flags.now a.fills.now _ a.masses.now a.marks.now a.off.now a.low a.c (sym after-marked-beside.marked_beside.ensures ∙ not-true _ c.if-not-marked_beside.true-raw)
