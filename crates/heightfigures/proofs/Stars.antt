-- The tables of worked figures hold: each is what the definitions give. Assumes nothing.
use lib.Dec.{T}
use Rattle.whole.specs.Fold.{open-fold}
use Rattle.lattice.specs.Cell.{open-cell}
use Rattle.grid.specs.Grid.{open-grid}
use Rattle.grid.specs.Outcome.{open-outcome}
use Rattle.record.specs.Layout.{open-layout}
use Rattle.numerals.specs.Text.{open-text}
use Rattle.numerals.specs.Number.{open-number}
use Rattle.heights.specs.Header.{open-header}
use Rattle.heights.specs.Rows.{open-rows}
use Rattle.solids.specs.Invert.{open-invert}
use Rattle.invert.specs.Outcome as invert
use Rattle.heightfigures.specs.Texts.{hold}
use Rattle.heightfigures.specs.Numbers.{numbers}
use Rattle.heightfigures.specs.Inverts.{grids, faults}

pub numbers-hold : T (hold numbers)
unfolding open-text open-number
numbers-hold = tt

pub grids-hold : T (hold grids)
unfolding open-fold open-cell open-grid open-outcome open-layout open-text open-number open-header open-rows open-invert invert.open-outcome
grids-hold = tt

pub faults-hold : T (hold faults)
unfolding open-fold open-cell open-grid open-outcome open-layout open-text open-number open-header open-rows open-invert invert.open-outcome
faults-hold = tt
