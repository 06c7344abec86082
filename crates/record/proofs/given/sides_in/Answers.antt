-- `record::given::sides_in` reads the three sides. Assumes nothing.
use Rattle.record.specs.Reading.{sides_in}
use Rattle.record.proofs.given.sides_in.Goals as goal

pub returns : goal.returns
unfolding sides_in
returns c = rw (c.side_at-x.ensures, c.side_at-y.ensures, c.side_at-z.ensures)
