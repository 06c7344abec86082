-- `excess::leaning::leaning`: the normal, turned where the mark is not 1. Assumes nothing.
use mathlib.Core.Path.{sym, ap, ◌∙◌, subst}
use Rattle.lattice.specs.inner.Held.{vec}
use Rattle.grid.proofs.Slopes.{vector}
use Rattle.excess.specs.inner.Gifts.{back}
use Rattle.excess.proofs.Leans.{Leaning, normal-in}
use Rattle.excess.proofs.Readings.{turned-fits, turned, leaning-filled, leaning-emptied}
use Rattle.excess.proofs.leaning.leaning.Lts as lts
use Rattle.excess.proofs.leaning.leaning.Reads as reads
use Rattle.excess.proofs.leaning.leaning.Tie as tie
use Rattle.excess.proofs.leaning.leaning.Goals as goal

abbrev At-After-normal-n : Type 0
At-After-normal-n = lts.After-normal tie.the-claims reads.Pre reads.Post

-- its components are in range
slight : (c : At-After-normal-n) → Leaning (vec c.normal-n.result)
slight c =
    let s = c in
    subst Leaning (sym c.normal-n.ensures) (normal-in s.args.flags.now s.args.fills.now s.args.off.now s.args.k s.requires.2)

pub normal-n-requires : goal.normal-n-requires
normal-n-requires c = record { reach = c.requires.0; count = c.requires.1; low = λ j h. c.requires.2 j }

pub returns-then-m-eq1 : goal.returns-then-m-eq1
returns-then-m-eq1 c =
    let s = c in
    c.normal-n.ensures ∙ leaning-filled s.args.flags.now s.args.fills.now s.args.off.now s.args.k s.args.m c.if-m-eq1.true

pub overflow_sub-result : goal.overflow_sub-result
overflow_sub-result c = turned-fits (slight c.before.before.before.before).x

pub overflow_sub-result-2 : goal.overflow_sub-result-2
overflow_sub-result-2 c = turned-fits (slight c.before.before.before.before.before.before).y

pub overflow_sub-result-3 : goal.overflow_sub-result-3
overflow_sub-result-3 c = turned-fits (slight c.before.before.before.before.before.before.before.before).z

pub returns : goal.returns
returns c =
    let n = c in
    let s = n in
    vector (turned (slight n.before.before.before.before.before.before.before.before).x) (turned (slight n.before.before.before.before.before.before.before.before).y) (turned (slight n.before.before.before.before.before.before.before.before).z)
    ∙ ap back n.normal-n.ensures
    ∙ leaning-emptied s.args.flags.now s.args.fills.now s.args.off.now s.args.k s.args.m c.if-m-eq1.false
