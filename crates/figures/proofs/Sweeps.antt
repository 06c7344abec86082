-- The two sweeps that are marked with a star, as sweeps: what each finds, and what it reads. Assumes nothing.
use mathlib.Core.Path.{refl}
use mathlib.Core.List.{[], ◌∷◌}
use Prim.Native.Nat.{◌+◌}
use Rattle.whole.specs.Fold.{open-fold}
use Rattle.grid.specs.Grid.{open-grid}
use Rattle.index.specs.Index.{open-index}
use Rattle.index.specs.Outcome.{open-outcome}
use Rattle.sweep.specs.Sweep.{Sweep, over, found}
use Rattle.figures.specs.Cases.{sides}
use Rattle.figures.specs.Surface.{words_t, cube, words_two}

-- case T: 2 = 1 + 1
pub sweep-T : Sweep sides words_t 0 (13 ∷ []) (1 + 1)
unfolding open-fold open-grid open-index open-outcome
sweep-T = found refl (over refl)

-- 5×5×5: 4 = 2 + 2
pub sweep-two : Sweep cube words_two 0 (31 ∷ 93 ∷ []) (1 + (2 + 1))
unfolding open-fold open-grid open-index open-outcome
sweep-two = found refl (found refl (over refl))
