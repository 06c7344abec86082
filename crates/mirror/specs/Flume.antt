-- The flume's reflection, of its sets and of its settings. Assumes nothing.
use Rattle.grid.specs.State.{Lent}
use Rattle.flume.specs.declared.FlumeSides.{FlumeSides}
use Rattle.flume.specs.declared.FlumeSettings.{FlumeSettings}
use Rattle.flume.specs.Flume.{flume_ground}
use Rattle.mirror.specs.Mirror.{Axes, turn, Mirror, flume_mirror}
use Rattle.mirror.specs.Demands.{reflect_on}

-- of a flume of these sides
abbrev pub mirror_in : FlumeSides → Axes → Mirror
mirror_in s t = flume_mirror t s.nx s.nz

-- a set, and settings with the sign of gravity's component changed
abbrev pub reflect_flume_set : FlumeSides → Axes → Lent → Lent
reflect_flume_set s t a = reflect_on (flume_ground s) (mirror_in s t) a

unfoldable pub reflect_flume : Axes → FlumeSettings → FlumeSettings
reflect_flume t g = record { p = g.p; gx = turn t.x g.gx; gz = turn t.z g.gz; turbulent = g.turbulent }
