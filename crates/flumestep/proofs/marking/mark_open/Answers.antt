-- `flumestep::marking::mark_open`: pass 0 by the flume's offsets. Assumes nothing.
use mathlib.Core.Path.{◌≡◌, sym, ap₂, ◌∙◌}
use mathlib.Core.Bool.{true}
use mathlib.Core.List.{List}
use Prim.Native.Nat.{ℕ}
use lib.ListN.{length}
use Rattle.whole.specs.Fold.{tab}
use Rattle.grid.specs.inner.Passes.{Reaching, opened_by}
use Rattle.flume.specs.declared.FlumeSides.{FlumeSides}
use Rattle.flume.specs.Flume.{flume_sides_good, flume_cells}
use Rattle.flume.specs.inner.Offsets.{flume_low, flume_offset}
use Rattle.flumegrid.proofs.Offsets.{reaching}
use Rattle.flumemarks.proofs.Alike.{idling}
use Rattle.flumestep.proofs.marking.mark_open.Lts as lts
use Rattle.flumestep.proofs.marking.mark_open.Reads as reads
use Rattle.flumestep.proofs.marking.mark_open.Tie as tie
use Rattle.flumestep.proofs.marking.mark_open.Goals as goal

abbrev At-After-offsets-off : Type 0
At-After-offsets-off = lts.After-offsets tie.the-claims reads.Pre reads.Post

abbrev At-After-low_of-low : Type 0
At-After-low_of-low = lts.After-low_of tie.the-claims reads.Pre reads.Post

abbrev At-Start : Type 0
At-Start = lts.Start tie.the-claims reads.Pre reads.Post

abbrev At-After-mark_open9 : Type 0
At-After-mark_open9 = lts.After-mark_open9 tie.the-claims reads.Pre reads.Post

-- the offsets that the code has
reached : (s : FlumeSides) → flume_sides_good s ≡ true → {off : List ℕ} {low n : ℕ} → off ≡ tab 19 (flume_offset s) → low ≡ flume_low s → n ≡ flume_cells s → Reaching n off low
reached s e eo el en = rw (eo, el, en) (reaching s e)

pub mark_open9-requires : goal.mark_open9-requires
mark_open9-requires c =
    let after-offsets : At-After-offsets-off = search in let b : At-After-low_of-low = search in
    let s : At-Start = search in
    (reached s.args.s s.requires.0 after-offsets.offsets-off.ensures b.low_of-low.ensures s.requires.1, idling s.args.s after-offsets.offsets-off.ensures b.low_of-low.ensures, s.requires.2 ∙ sym s.requires.1)

pub returns : goal.returns
returns c =
    let after-mark-open9 : At-After-mark_open9 = search in let after-offsets : At-After-offsets-off = search in let b : At-After-low_of-low = search in
    let s : At-Start = search in
    after-mark-open9.mark_open9.ensures
    ∙ ap₂ (λ (o : List ℕ) (l : ℕ). tab (length s.args.flags.now) (opened_by s.args.flags.now s.args.marks.now o l)) after-offsets.offsets-off.ensures b.low_of-low.ensures
