-- `intake::reader::read`: the outcome's definition, whatever is lent. Assumes nothing.
use Rattle.std.proofs.Common.{sym}
use Rattle.intake.proofs.Readings.{refused-early, refused-late, room, read_all}
use Rattle.intake.proofs.reader.read.Goals as goal

pub returns-in-Err : goal.returns-in-Err
returns-in-Err c = refused-early _ _ c.in-Err.ensures c.refused.ensures

pub returns-then-not-passed : goal.returns-then-not-passed
returns-then-not-passed c = refused-late _ _ c.in_default.ensures c.read-h.ensures (sym c.if-not-passed.ensures)

pub make-requires : goal.make-requires
make-requires c = room _ _ c.in_default.ensures c.read-h.ensures (sym c.if-not-passed.ensures) c.flags_of.ensures.bytes

pub returns : goal.returns
returns c = read_all _ _ c.in_default.ensures c.read-h.ensures (sym c.if-not-passed.ensures) c.flags_of.ensures.bytes c.make.ensures
