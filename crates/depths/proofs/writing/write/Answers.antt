-- `depths::writing::write`: tests, the room, and then the text from the front. Assumes nothing.
use Rattle.std.proofs.Common.{sym, ap, arith}
use Rattle.grid.specs.Outcome.{accepted}
use Rattle.grid.proofs.Handed.{handed-on}
use Rattle.depths.proofs.WrittenBy.{fit, fit-measured, write-refused, write-short, write_done}
use Rattle.depths.proofs.writing.write.Goals as goal

pub returns-in_err-fit : goal.returns-in_err-fit
returns-in_err-fit c = write-refused _ _ _ _ (handed-on c.from_residual.result c.from_residual.ensures.1) c.in_err-fit.ensures

pub map_length-long-requires : goal.map_length-long-requires
map_length-long-requires c = fit-measured _ _ _ (fit _ _ _ (ap accepted (sym c.in_ok-fit.ensures)))

pub returns-then-room-long : goal.returns-then-room-long
returns-then-room-long c = write-short _ _ _ _ _ c.map_length-long.ensures (ap accepted (sym c.in_ok-fit.ensures)) c.if-room-long.true

pub put_map-requires : goal.put_map-requires
put_map-requires c =
    record { measured = fit-measured _ _ _ (fit _ _ _ (ap accepted (sym c.in_ok-fit.ensures))); fills_in_bounds = omega (arith, c.map_length-long.ensures, c.if-room-long.false) }

pub returns : goal.returns
returns c = write_done _ _ _ _ _ _ c.map_length-long.ensures (ap accepted (sym c.in_ok-fit.ensures)) c.if-room-long.false c.put_map.ensures
