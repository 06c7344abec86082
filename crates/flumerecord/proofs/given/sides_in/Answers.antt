-- `flumerecord::given::sides_in` reads the two sides. Assumes nothing.
use Rattle.flumerecord.specs.Reading.{flume_sides_in}
use Rattle.flumerecord.proofs.given.sides_in.Goals as goal

pub returns : goal.returns
unfolding flume_sides_in
returns c = rw (c.side_at-x.ensures, c.side_at-z.ensures)
