-- `nine::cells::place` is the flume's table of places. Assumes nothing.
use native.Mathlib.Omega.{arith}
use native.Mathlib.Nat.{le_of_suc-le-suc}
use Rattle.nine.proofs.Places.{place-low, place-mid, place-high}
use Rattle.nine.proofs.cells.place.Goals as goal

pub returns-then-k-lt3 : goal.returns-then-k-lt3
returns-then-k-lt3 c = (place-low c.args.k c.if-k-lt3.true, omega (arith, c.if-k-lt3.true))

pub returns-then-k-lt5 : goal.returns-then-k-lt5
returns-then-k-lt5 c = (place-mid c.args.k c.if-k-lt3.false c.if-k-lt5.true, omega (arith, c.if-k-lt5.true))

pub returns : goal.returns
returns c = (place-high c.args.k c.if-k-lt5.false (le_of_suc-le-suc c.requires), omega (arith, c.requires))
