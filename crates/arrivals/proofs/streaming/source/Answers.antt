-- `arrivals::streaming::source`: the one place or the other, by the neighbour's flag. Assumes nothing.
use borrow.Author.Tests.{lt-ltb, le-ltb}
use mathlib.Core.Path.{◌≡◌, sym, subst}
use Prim.Native.Nat.{ℕ, ◌≤◌, ◌<◌}
use native.Mathlib.Omega.{arith}
use lib.ListN.{get_or}
use Rattle.whole.specs.laws.Bools.{cond_yes, cond_no}
use Rattle.grid.proofs.Lists.{get_or-there}
use Rattle.arrivals.specs.inner.Sources.{arrival_at}
use Rattle.arrivals.proofs.streaming.source.Lts as lts
use Rattle.arrivals.proofs.streaming.source.Reads as reads
use Rattle.arrivals.proofs.streaming.source.Goals as goal

abbrev At-Start : Type 0
At-Start = lts.Start reads.Pre reads.Post

-- the flag that was read, whatever stands for a missing one
flag : (s : At-Start) → get_or s.args.flags.now s.args.b 0 ≡ get_or s.args.flags.now s.args.b 3
flag s = get_or-there s.args.flags.now s.args.b 0 3 s.requires.2

pub returns-then-flags-b-gt2 : goal.returns-then-flags-b-gt2
unfolding arrival_at
returns-then-flags-b-gt2 c = let start : At-Start = search in sym (cond_yes _ _ (lt-ltb 2 _ (subst (λ (f : ℕ). 2 < f) (flag start) c.if-flags-b-gt2.true)))

pub returns : goal.returns
unfolding arrival_at
returns c =
    let start : At-Start = search in
    let low : get_or start.args.flags.now start.args.b 0 ≤ 2 = omega arith in
    sym (cond_no _ _ (le-ltb 2 _ (subst (λ (f : ℕ). f ≤ 2) (flag start) low)))
