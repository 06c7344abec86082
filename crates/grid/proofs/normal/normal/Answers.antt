-- `grid::normal::normal`: three differences of fills. Assumes nothing.
use borrow.Author.Rules.{sfits_of}
use mathlib.Core.Path.{◌∙◌}
use native.Mathlib.Omega.{arith}
use mir.Syntax.{w32}
use mir.Facts.{to_z-of_z}
use Rattle.grid.specs.inner.Passes.{normal_at}
use Rattle.grid.proofs.Slopes.{falls, vector}
use Rattle.grid.proofs.normal.normal.Goals as goal

pub overflow_add-c : goal.overflow_add-c
overflow_add-c c = record { fits = omega (arith, c.requires.reach 0 (omega arith)) }

pub overflow_add-k : goal.overflow_add-k
overflow_add-k c = record { fits = omega (arith, c.requires.reach 2 (omega arith)) }

pub overflow_add-k-2 : goal.overflow_add-k-2
overflow_add-k-2 c = record { fits = omega (arith, c.requires.reach 1 (omega arith)) }

pub fall-x-requires : goal.fall-x-requires
fall-x-requires c = falls c.requires 2 1 (omega arith) (omega arith)

pub overflow_add-k-3 : goal.overflow_add-k-3
overflow_add-k-3 c = record { fits = omega (arith, c.requires.reach 4 (omega arith)) }

pub overflow_add-k-4 : goal.overflow_add-k-4
overflow_add-k-4 c = record { fits = omega (arith, c.requires.reach 3 (omega arith)) }

pub fall-y-requires : goal.fall-y-requires
fall-y-requires c = falls c.requires 4 3 (omega arith) (omega arith)

pub overflow_add-k-5 : goal.overflow_add-k-5
overflow_add-k-5 c = record { fits = omega (arith, c.requires.reach 6 (omega arith)) }

pub overflow_add-k-6 : goal.overflow_add-k-6
overflow_add-k-6 c = record { fits = omega (arith, c.requires.reach 5 (omega arith)) }

pub fall-z-requires : goal.fall-z-requires
fall-z-requires c = falls c.requires 6 5 (omega arith) (omega arith)

pub returns : goal.returns
unfolding normal_at
returns c =
    vector (to_z-of_z (sfits_of {w = w32} c.fall-x.type_inv) ∙ c.fall-x.ensures) (to_z-of_z (sfits_of {w = w32} c.fall-y.type_inv) ∙ c.fall-y.ensures)
    (to_z-of_z (sfits_of {w = w32} c.fall-z.type_inv) ∙ c.fall-z.ensures)
