-- The figures, computed from the definitions: both schemes pass their tests, and what A is answered beside B, and beside a dry scheme. Assumes nothing.
use mathlib.Core.Path.{◌≡◌, refl}
use mathlib.Core.Bool.{Bool, true, false}
use Prim.Native.Nat.{ℕ}
use Rattle.whole.specs.Fold.{open-fold}
use Rattle.lattice.specs.Lattice.{open-lattice}
use Rattle.lattice.specs.Cell.{open-cell}
use Rattle.lattice.specs.Body.{open-body}
use Rattle.grid.specs.Answer.{Answer}
use Rattle.grid.specs.Answer.{Done}
use Rattle.grid.specs.Grid.{open-grid}
use Rattle.grid.specs.State.{Lent, open-state}
use Rattle.grid.specs.Step.{open_step}
use Rattle.grid.specs.Good.{open-good}
use Rattle.grid.specs.Outcome.{or_refuse, open-outcome}
use Rattle.pumps.specs.Three.{open-three}
use Rattle.schemes.specs.Scheme.{tested, open-scheme}
use Rattle.walls.specs.Outcome.{in_way, may_change, placed, clear, wall_answer}
use Rattle.walls.specs.Figures.{sides, walls, scheme_a, scheme_b, scheme_dry, Whoever, Figures}
use Rattle.grid.specs.declared.refusals.Refusal.TheVariants.{BadChange, InTheWay, Outside}
use Rattle.std.specs.Prelude.{Err}

a-passes : tested sides walls scheme_a true ≡ Done
unfolding open-fold open-lattice open-cell open-body open-grid open-state open_step open-good open-outcome open-three open-scheme
a-passes = refl

b-passes : tested sides walls scheme_b true ≡ Done
unfolding open-fold open-lattice open-cell open-body open-grid open-state open_step open-good open-outcome open-three open-scheme
b-passes = refl

dry-passes : tested sides walls scheme_dry true ≡ Done
unfolding open-fold open-lattice open-cell open-body open-grid open-state open_step open-good open-outcome open-three open-scheme
dry-passes = refl

-- with the tests passed, the rest is a question of the cell and its neighbours
module _ (x : Lent) (t : tested sides walls x true ≡ Done) (add : Bool) (c : ℕ) (r : Answer) where
  asked : placed sides walls add c (or_refuse (clear sides scheme_a x add c) (InTheWay c) Done) ≡ r → wall_answer sides walls scheme_a x add c ≡ r
  unfolding wall_answer
  asked e = rw (a-passes, t) e

whoever : (x : Lent) → tested sides walls x true ≡ Done → Whoever x
unfolding open-fold open-lattice open-grid open-state placed clear in_way may_change
whoever x t = record {
  wall-21 = asked x t true 21 (Err (InTheWay 21)) refl;
  wall-22 = asked x t true 22 (Err (BadChange 22)) refl;
  wall-45 = asked x t true 45 (Err Outside) refl;
  out-0 = asked x t false 0 (Err (BadChange 0)) refl;
  out-23 = asked x t false 23 (Err (BadChange 23)) refl;
}

pub figures-hold : Figures
unfolding open-fold open-lattice open-cell open-body open-grid open-state open_step open-good open-outcome open-three open-scheme placed clear in_way may_change
figures-hold = record {
  beside-B = whoever scheme_b b-passes;
  B-wall-23 = asked scheme_b b-passes true 23 (Err (InTheWay 23)) refl;
  B-out-22 = asked scheme_b b-passes false 22 (Err (InTheWay 22)) refl;
  B-out-24 = asked scheme_b b-passes false 24 (Err (BadChange 24)) refl;
  beside-dry = whoever scheme_dry dry-passes;
  dry-wall-23 = asked scheme_dry dry-passes true 23 Done refl;
  dry-out-22 = asked scheme_dry dry-passes false 22 Done refl;
  own-flag-3 = refl;
  own-flag-1 = refl;
}
