-- `lattice::directions::opposite` is the lattice's pairing. Assumes nothing.
use Rattle.lattice.proofs.Opposites.{opposite-odd, opposite-even}
use Rattle.lattice.proofs.directions.opposite.Goals as goal

pub returns-then-i-eq1 : goal.returns-then-i-eq1
returns-then-i-eq1 c = opposite-odd c.args.i c.requires c.if-i-eq1.true

pub returns : goal.returns
returns c = opposite-even c.args.i c.requires c.if-i-eq1.false
