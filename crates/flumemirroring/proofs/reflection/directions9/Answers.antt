-- `flumemirroring::reflection::directions9` is the table of its axis. Assumes nothing.
use native.Mathlib.Omega.{arith}
use Rattle.lattice.specs.Lattice.{d2q9}
use Rattle.mirroring.proofs.Reflected.{by-axis}
use Rattle.flumemirroring.proofs.Reflected.{table-x, table-z, or-z}
use Rattle.flumemirroring.proofs.reflection.directions9.Goals as goal

pub returns-then-axis-eq0 : goal.returns-then-axis-eq0
returns-then-axis-eq0 c = by-axis d2q9 0 _ table-x c.if-axis-eq0.true

pub returns : goal.returns
returns c = by-axis d2q9 2 _ table-z (or-z c.args.axis c.requires (omega arith))
