-- The figures of case F's record hold: each is what the definitions give. Assumes nothing.
use lib.Dec.{T}
use Rattle.whole.specs.Fold.{open-fold}
use Rattle.lattice.specs.Lattice.{open-lattice}
use Rattle.lattice.specs.Cell.{open-cell}
use Rattle.lattice.specs.Body.{open-body}
use Rattle.grid.specs.Grid.{open-grid}
use Rattle.grid.specs.State.{open-state}
use Rattle.grid.specs.Step.{open_step}
use Rattle.grid.specs.Good.{open-good}
use Rattle.grid.specs.Outcome as grid
use Rattle.flume.specs.Flume.{open-flume}
use Rattle.record.specs.Bytes.{open-bytes}
use Rattle.record.specs.Layout as box
use Rattle.record.specs.Reading as reading
use Rattle.flumerecord.specs.Layout.{open-layout}
use Rattle.flumerecord.specs.Reading.{open-reading}
use Rattle.flumerecord.specs.Writing.{open-writing}
use Rattle.flumerecord.specs.Cases.{figures, prefixes}

pub record-stars : T figures
unfolding open-fold open-lattice open-cell open-body open-grid open-state open_step open-good grid.open-outcome open-flume open-bytes box.open-layout reading.open-reading open-layout open-reading open-writing
record-stars = tt

pub prefix-stars : T (prefixes 125)
unfolding open-fold open-lattice open-cell open-body open-grid open-state open_step open-good grid.open-outcome open-flume open-bytes box.open-layout reading.open-reading open-layout open-reading open-writing
prefix-stars = tt
