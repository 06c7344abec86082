-- `conversion::emptying::settle_marks`: by the box's offsets, pass 2. Assumes nothing.
use mathlib.Core.Path.{◌∙◌}
use Rattle.grid.proofs.Beside.{Offsets}
use Rattle.conversion.proofs.Marking.{emptying-by, settled-box}
use Rattle.conversion.proofs.emptying.settle_marks.Lts as lts
use Rattle.conversion.proofs.emptying.settle_marks.Reads as reads
use Rattle.conversion.proofs.emptying.settle_marks.Tie as tie
use Rattle.conversion.proofs.emptying.settle_marks.Goals as goal

abbrev At-After-low_of-low : Type 0
At-After-low_of-low = lts.After-low_of tie.the-claims reads.Pre reads.Post

abbrev At-After-offsets-off : Type 0
At-After-offsets-off = lts.After-offsets tie.the-claims reads.Pre reads.Post

abbrev At-Start : Type 0
At-Start = lts.Start tie.the-claims reads.Pre reads.Post

abbrev At-After-marks-1 : Type 0
At-After-marks-1 = lts.After-marks tie.the-claims reads.Pre reads.Post

abbrev At-After-settle_marks_by : Type 0
At-After-settle_marks_by = lts.After-settle_marks_by tie.the-claims reads.Pre reads.Post

offs : (c : At-After-low_of-low) → Offsets c.args.s c.offsets-off.result c.low_of-low.result
offs c = let after-offsets : At-After-offsets-off = search in record { table = after-offsets.offsets-off.ensures; lowest = c.low_of-low.ensures }

pub offsets-off-requires : goal.offsets-off-requires
offsets-off-requires c = let start : At-Start = search in start.requires.sides

pub low_of-low-requires : goal.low_of-low-requires
low_of-low-requires c = let start : At-Start = search in start.requires.sides

pub settle_marks_by-requires : goal.settle_marks_by-requires
settle_marks_by-requires c = let start : At-Start = search in emptying-by (offs (search)) _ start.requires

pub shape_of-marks : goal.shape_of-marks
shape_of-marks c = let after-marks : At-After-marks-1 = search in after-marks.marks-1.given

pub returns : goal.returns
returns c =
    let after-settle-marks-by : At-After-settle_marks_by = search in let start : At-Start = search in let b : At-After-low_of-low = search in
    after-settle-marks-by.settle_marks_by.ensures ∙ settled-box (offs b) _ start.requires
