-- `profile::points::look`: by what placing answers. Assumes nothing.
use Rattle.grid.proofs.Handed.{handed-on}
use Rattle.tunnel.specs.Depth.{is-refused}
use Rattle.profile.specs.Profile.{seen}
use Rattle.profile.proofs.points.look.Goals as goal

pub returns-in_err-c : goal.returns-in_err-c
unfolding seen
returns-in_err-c c = simp (handed-on c.from_residual.result c.from_residual.ensures.1, ← c.in_err-c.ensures) is-refused

pub returns : goal.returns
unfolding seen
returns c = simp (← c.in_ok-c.ensures) c.column.ensures
