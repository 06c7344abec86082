-- `mirroring::reflection::directions` is the table of its axis. Assumes nothing.
use native.Mathlib.Omega.{arith}
use Rattle.lattice.specs.Lattice.{d3q19}
use Rattle.mirroring.proofs.Reflected.{table-x, table-y, table-z, by-axis}
use Rattle.mirroring.proofs.reflection.directions.Goals as goal

pub returns-then-axis-eq0 : goal.returns-then-axis-eq0
returns-then-axis-eq0 c = by-axis d3q19 0 _ table-x c.if-axis-eq0.true

pub returns-then-axis-eq1 : goal.returns-then-axis-eq1
returns-then-axis-eq1 c = by-axis d3q19 1 _ table-y c.if-axis-eq1.true

pub returns : goal.returns
returns c = by-axis d3q19 2 _ table-z (omega arith)
