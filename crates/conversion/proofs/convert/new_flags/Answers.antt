-- `conversion::convert::new_flags`: by the box's offsets, pass 3. Assumes nothing.
use mathlib.Core.Path.{◌∙◌}
use Rattle.grid.proofs.Beside.{Offsets}
use Rattle.conversion.proofs.Marking.{marked_by, enclosed, turned-box}
use Rattle.conversion.proofs.convert.new_flags.Lts as lts
use Rattle.conversion.proofs.convert.new_flags.Reads as reads
use Rattle.conversion.proofs.convert.new_flags.Tie as tie
use Rattle.conversion.proofs.convert.new_flags.Goals as goal

abbrev At-After-low_of-low : Type 0
At-After-low_of-low = lts.After-low_of tie.the-claims reads.Pre reads.Post

abbrev At-After-offsets-off : Type 0
At-After-offsets-off = lts.After-offsets tie.the-claims reads.Pre reads.Post

abbrev At-Start : Type 0
At-Start = lts.Start tie.the-claims reads.Pre reads.Post

abbrev At-After-next-1 : Type 0
At-After-next-1 = lts.After-next tie.the-claims reads.Pre reads.Post

abbrev At-After-new_flags_by : Type 0
At-After-new_flags_by = lts.After-new_flags_by tie.the-claims reads.Pre reads.Post

offs : (c : At-After-low_of-low) → Offsets c.args.s c.offsets-off.result c.low_of-low.result
offs c = let after-offsets : At-After-offsets-off = search in record { table = after-offsets.offsets-off.ensures; lowest = c.low_of-low.ensures }

pub offsets-off-requires : goal.offsets-off-requires
offsets-off-requires c = let start : At-Start = search in start.requires.0.flagged.sides

pub low_of-low-requires : goal.low_of-low-requires
low_of-low-requires c = let start : At-Start = search in start.requires.0.flagged.sides

pub new_flags_by-requires : goal.new_flags_by-requires
new_flags_by-requires c =
    let b : At-After-low_of-low = search in
    let s : At-Start = search in
    (marked_by (offs b) _ _ s.requires.0, s.requires.1, enclosed (offs b) _ _ s.requires.0)

pub shape_of-next : goal.shape_of-next
shape_of-next c = let after_next : At-After-next-1 = search in after_next.next-1.given

pub returns : goal.returns
returns c =
    let after-new-flags-by : At-After-new_flags_by = search in let start : At-Start = search in let b : At-After-low_of-low = search in
    after-new-flags-by.new_flags_by.ensures ∙ turned-box (offs b) _ _ start.requires.0
