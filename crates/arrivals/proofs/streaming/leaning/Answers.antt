-- `arrivals::streaming::leaning` is n·e of an interface cell's directions, and 0 of a fluid one's. Assumes nothing.
use mathlib.Core.Path.{◌≡◌, sym, ap, ◌∙◌}
use Prim.Native.Nat.{◌-◌}
use lib.IntN.{pos}
use lib.ListN.{get_or}
use Rattle.whole.specs.laws.Tab.{tab-cong}
use Rattle.lattice.specs.Lattice.{dot, d3q19}
use Rattle.grid.specs.inner.Passes.{Sloping}
use Rattle.grid.proofs.Lists.{get_or-there}
use Rattle.arrivals.proofs.Leans.{normal-low, even-lean, any-lean}
use Rattle.arrivals.proofs.streaming.leaning.Lts as lts
use Rattle.arrivals.proofs.streaming.leaning.Reads as reads
use Rattle.arrivals.proofs.streaming.leaning.Tie as tie
use Rattle.arrivals.proofs.streaming.leaning.Goals as goal

abbrev At-Start : Type 0
At-Start = lts.Start tie.the-claims reads.Pre reads.Post

abbrev At-After-normal : Type 0
At-After-normal = lts.After-normal tie.the-claims reads.Pre reads.Post

abbrev At-Then-flags-c-eq1 : Type 0
At-Then-flags-c-eq1 = lts.Then1 tie.the-claims reads.Pre reads.Post

-- the flag that was read, whatever stands for a missing one
flag : (s : At-Start) → get_or s.args.flags.now s.args.c 0 ≡ get_or s.args.flags.now s.args.c 3
flag s = get_or-there s.args.flags.now s.args.c 0 3 s.requires.1.is-cell

sloping : (s : At-Start) → Sloping s.args.flags.now s.args.fills.now s.args.off.now (s.args.c - s.args.low)
sloping s = record { reach = s.requires.1.each; count = s.requires.0.count; low = s.requires.0.low }

pub normal-requires : goal.normal-requires
normal-requires c = sloping (search)

pub dots-requires : goal.dots-requires
dots-requires c = normal-low c.normal.result (sloping (search)) c.normal.ensures

pub returns-then-flags-c-eq1 : goal.returns-then-flags-c-eq1
returns-then-flags-c-eq1 c =
    let after-normal : At-After-normal = search in let then1 : At-Then-flags-c-eq1 = search in let s : At-Start = search in
    c.dots.ensures
    ∙ tab-cong 19 _ _ (pos 0) (λ k h. ap (dot (d3q19.e k)) after-normal.normal.ensures ∙ even-lean _ _ _ _ _ k (sym (flag s) ∙ then1.if-flags-c-eq1.true))

pub returns : goal.returns
returns c = any-lean _ _ _ _ _ (λ e. c.if-flags-c-eq1.false (flag (search) ∙ e))
