-- `flumeflow::streaming::chosen9` is the same either way: with liquid all around, every part comes straight from its source. Assumes nothing.
use mathlib.Core.Path.{◌≡◌, sym, ap, ◌∙◌}
use mathlib.Core.List.{List}
use Prim.Native.Nat.{ℕ, ◌+◌, ◌*◌, ◌-◌, ◌<◌}
use native.Mathlib.Omega.{arith}
use lib.IntN.{pos}
use lib.ListN.{get_or}
use Rattle.whole.specs.laws.Tab.{get_or-tab}
use Rattle.lattice.specs.Lattice.{pair_opp}
use Rattle.arrivals.proofs.Arrivals.{streamed-straight, opposite-low}
use Rattle.flume.specs.inner.Spread.{wide, spread_lattice}
use Rattle.nine.specs.inner.Cells.{part_of9}
use Rattle.flumearrivals.specs.inner.Seen.{source_of9}
use Rattle.flumearrivals.proofs.Nines.{part-at, place-low, at_source, streamed-spread}
use Rattle.flumeflow.proofs.streaming.chosen9.Lts as lts
use Rattle.flumeflow.proofs.streaming.chosen9.Reads as reads
use Rattle.flumeflow.proofs.streaming.chosen9.Tie as tie
use Rattle.flumeflow.proofs.streaming.chosen9.Goals as goal

abbrev At-Start : Type 0
At-Start = lts.Start tie.the-claims reads.Pre reads.Post

abbrev At-Then-mark-eq1 : Type 0
At-Then-mark-eq1 = lts.Then1 tie.the-claims reads.Pre reads.Post

source : (s : At-Start) (k : ℕ) → k < 9 → get_or s.args.from.now k 0 ≡ source_of9 s.args.off.now k
source s k h = ap (λ (l : List ℕ). get_or l k 0) s.requires.5 ∙ get_or-tab 9 (source_of9 s.args.off.now) 0 k h

pub streamed_open9-requires : goal.streamed_open9-requires
streamed_open9-requires c k h =
    let s : At-Start = search in
    omega (arith, source s k h, at_source s.args.off.now s.args.low s.args.c k, s.requires.2.each (pair_opp (wide k)) (opposite-low (wide k) (place-low k h)), s.requires.0.count)

pub returns-then-mark-eq1 : goal.returns-then-mark-eq1
returns-then-mark-eq1 c g =
    let then1 : At-Then-mark-eq1 = search in let s : At-Start = search in
    c.streamed_open9.ensures
    ∙ streamed-spread _ _ _ _ _ _ _ _
    (λ k h. ap (λ (n : ℕ). get_or s.args.parts.now (9 * (s.args.c - s.args.low) + n) (pos 0)) (source s k h)
    ∙ ap (λ (n : ℕ). get_or s.args.parts.now n (pos 0)) (at_source s.args.off.now s.args.low s.args.c k)
    ∙ sym (part-at s.args.parts.now (s.args.c - s.args.low + get_or s.args.off.now (pair_opp (wide k)) 0) k h)
    ∙ streamed-straight spread_lattice.weight s.args.flags.now (part_of9 s.args.parts.now) _ _ _ g s.requires.4 _ s.requires.2.from (s.requires.6 then1.if-mark-eq1.true) (wide k) (place-low k h))
