-- `passes::marks::mark_open`: by the box's offsets, pass 0. Assumes nothing.
use mathlib.Core.Path.{sym, ◌∙◌, subst}
use Prim.Native.Nat.{ℕ}
use Rattle.grid.specs.inner.Passes.{Reaching}
use Rattle.grid.proofs.Beside.{Offsets}
use Rattle.grid.proofs.Inside.{reaching}
use Rattle.passes.proofs.Marking.{opened-box}
use Rattle.passes.proofs.marks.mark_open.Lts as lts
use Rattle.passes.proofs.marks.mark_open.Reads as reads
use Rattle.passes.proofs.marks.mark_open.Tie as tie
use Rattle.passes.proofs.marks.mark_open.Goals as goal

abbrev At-After-low_of-low : Type 0
At-After-low_of-low = lts.After-low_of tie.the-claims reads.Pre reads.Post

abbrev At-After-offsets-off : Type 0
At-After-offsets-off = lts.After-offsets tie.the-claims reads.Pre reads.Post

abbrev At-Start : Type 0
At-Start = lts.Start tie.the-claims reads.Pre reads.Post

abbrev At-After-marks-1 : Type 0
At-After-marks-1 = lts.After-marks tie.the-claims reads.Pre reads.Post

abbrev At-After-mark_open_by : Type 0
At-After-mark_open_by = lts.After-mark_open_by tie.the-claims reads.Pre reads.Post

offs : (c : At-After-low_of-low) → Offsets c.args.s c.offsets-off.result c.low_of-low.result
offs c = let after-offsets : At-After-offsets-off = search in record { table = after-offsets.offsets-off.ensures; lowest = c.low_of-low.ensures }

pub offsets-off-requires : goal.offsets-off-requires
offsets-off-requires c = let start : At-Start = search in start.requires.0

pub low_of-low-requires : goal.low_of-low-requires
low_of-low-requires c = let start : At-Start = search in start.requires.0

pub mark_open_by-requires : goal.mark_open_by-requires
mark_open_by-requires c =
    let after-offsets : At-After-offsets-off = search in let b : At-After-low_of-low = search in
    let s : At-Start = search in
    (subst (λ (n : ℕ). Reaching n after-offsets.offsets-off.result b.low_of-low.result) (sym s.requires.1) (reaching _ s.requires.0 (offs b)), s.requires.2 ∙ sym s.requires.1)

pub shape_of-marks : goal.shape_of-marks
shape_of-marks c = let after-marks : At-After-marks-1 = search in after-marks.marks-1.given

pub returns : goal.returns
returns c =
    let after-mark-open-by : At-After-mark_open_by = search in let b : At-After-low_of-low = search in
    let s : At-Start = search in
    after-mark-open-by.mark_open_by.ensures ∙ opened-box (offs b) _ _ s.requires.1
