-- `excess::leaning::used_weights`: the weights by the normal, unless their total is 0. Assumes nothing.
use mathlib.Core.Path.{sym, ◌∙◌, subst}
use Rattle.lattice.specs.inner.Held.{vec}
use Rattle.excess.specs.inner.Gifts.{lean_weight_at}
use Rattle.excess.proofs.Leans.{Leaning, leaning-in, lean-in, weights-fit, used-even, used-lean}
use Rattle.excess.proofs.Readings.{bits-zero, zero_bits}
use Rattle.excess.proofs.leaning.used_weights.Lts as lts
use Rattle.excess.proofs.leaning.used_weights.Reads as reads
use Rattle.excess.proofs.leaning.used_weights.Tie as tie
use Rattle.excess.proofs.leaning.used_weights.Goals as goal

abbrev At-After-leaning : Type 0
At-After-leaning = lts.After-leaning tie.the-claims reads.Pre reads.Post

leaning : (c : At-After-leaning) → Leaning (vec c.leaning.result)
leaning c =
    let s = c in
    subst Leaning (sym c.leaning.ensures) (leaning-in s.args.flags.now s.args.fills.now s.args.off.now s.args.k s.requires.2 s.args.m)

pub weights-w-requires : goal.weights-w-requires
weights-w-requires c = (c.requires.0, (leaning c.before).x, (leaning c.before).y, (leaning c.before).z)

pub total-requires : goal.total-requires
total-requires c =
    let s = c in
    let n = vec c.leaning.result in
    weights-fit (lean_weight_at s.args.flags.now n s.args.off.now s.args.k) c.weights-w.ensures (lean-in s.args.flags.now n s.args.off.now s.args.k (leaning c.before.before))

pub returns-then-total-eq0 : goal.returns-then-total-eq0
returns-then-total-eq0 c =
    let d = c in
    let w = d in
    let s = w in
    c.evens.ensures
    ∙ used-even s.args.flags.now s.args.fills.now s.args.off.now s.args.k s.args.m (vec w.leaning.result) w.leaning.ensures w.weights-w.ensures d.total.ensures (bits-zero d.total.type_inv c.if-total-eq0.true)

pub returns : goal.returns
returns c =
    let d = c in
    let w = d in
    let s = w in
    used-lean s.args.flags.now s.args.fills.now s.args.off.now s.args.k s.args.m (vec w.leaning.result) w.leaning.ensures w.weights-w.ensures d.total.ensures (λ z. c.if-total-eq0.false (zero_bits z))
