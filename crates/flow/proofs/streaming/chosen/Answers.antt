-- `flow::streaming::chosen` is the same either way: with liquid all around, every part comes straight from its source. Assumes nothing.
use mathlib.Core.Path.{◌≡◌, ap, ◌∙◌}
use mathlib.Core.List.{List}
use Prim.Native.Nat.{ℕ, ◌+◌, ◌*◌, ◌-◌, ◌<◌}
use native.Mathlib.Omega.{arith}
use lib.IntN.{pos}
use lib.ListN.{length, get_or}
use Rattle.whole.specs.laws.Tab.{get_or-tab, tab-cong}
use Rattle.lattice.specs.Lattice.{d3q19}
use Rattle.grid.specs.State.{part_of}
use Rattle.arrivals.specs.inner.Sources.{source_of}
use Rattle.arrivals.proofs.Arrivals.{source-low, at_source, streamed-straight}
use Rattle.flow.proofs.streaming.chosen.Lts as lts
use Rattle.flow.proofs.streaming.chosen.Reads as reads
use Rattle.flow.proofs.streaming.chosen.Tie as tie
use Rattle.flow.proofs.streaming.chosen.Goals as goal

abbrev At-Start : Type 0
At-Start = lts.Start tie.the-claims reads.Pre reads.Post

abbrev At-Then-mark-eq1 : Type 0
At-Then-mark-eq1 = lts.Then1 tie.the-claims reads.Pre reads.Post

source : (s : At-Start) (k : ℕ) → k < 19 → get_or s.args.from.now k 0 ≡ source_of s.args.off.now k
source s k h = ap (λ (l : List ℕ). get_or l k 0) s.requires.5 ∙ get_or-tab 19 (source_of s.args.off.now) 0 k h

pub streamed_open-requires : goal.streamed_open-requires
streamed_open-requires c i h =
    let s : At-Start = search in
    omega (arith, source s i h, source-low (length s.args.flags.now) s.args.off.now s.args.low s.args.c i s.requires.2 h, s.requires.0.count)

pub returns-then-mark-eq1 : goal.returns-then-mark-eq1
returns-then-mark-eq1 c g =
    let then1 : At-Then-mark-eq1 = search in let s : At-Start = search in
    c.streamed_open.ensures
    ∙ tab-cong 19 _ _ (pos 0)
    (λ k h. ap (λ (n : ℕ). get_or s.args.parts.now (19 * (s.args.c - s.args.low) + n) (pos 0)) (source s k h)
    ∙ ap (λ (n : ℕ). get_or s.args.parts.now n (pos 0)) (at_source s.args.off.now s.args.low s.args.c k)
    ∙ streamed-straight d3q19.weight s.args.flags.now (part_of s.args.parts.now) _ _ _ g s.requires.4 _ s.requires.2.from (s.requires.6 then1.if-mark-eq1.true) k h)
