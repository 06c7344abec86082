-- The bridge for a lent set: what the flume's step answers and leaves, read from its spread scene. This is what the flume's code is proved by. Assumes nothing.
use mathlib.Core.Path.{◌≡◌, sym, subst}
use mathlib.Core.List.{[], ◌∷◌}
use Prim.Native.Nat.{ℕ, ◌*◌, ◌/◌, ◌%◌, ◌≤◌}
use lib.ListN.{length, get_or-eq_default}
use Rattle.whole.specs.Fold.{tab, first}
use Rattle.grid.specs.Grid.{flume}
use Rattle.grid.specs.State.{Lent, lent, Scene, state_of}
use Rattle.grid.specs.Step.{unsteady, new_flag, new_part, new_mass, new_fill, new_carry}
use Rattle.grid.specs.Outcome.{move_answer}
use Rattle.flume.specs.declared.FlumeSides.{FlumeSides}
use Rattle.flume.specs.declared.FlumeSettings.{FlumeSettings}
use Rattle.flume.specs.Flume.{flume_cells, flume_grid}
use Rattle.flume.specs.Outcome.{flume_scene, flume_next}
use Rattle.flume.specs.inner.Spread.{wide, spread_scene}
use Rattle.flume.proofs.Bridge.{move-answer-same, fast-same, next-lent}

module _ (s : FlumeSides) (g : FlumeSettings) (a : Lent) where
  abbrev T : Scene
  T = spread_scene (flume_scene s g a)

  module _ (count : length a.flags ≡ flume_cells s) where
    outside : (c : ℕ) → (flume_scene s g a).grid.cells ≤ c → (flume_scene s g a).old.flag c ≡ 3
    unfolding flume_scene flume_grid flume_cells flume state_of
    outside c h = get_or-eq_default a.flags 3 (subst (λ (n : ℕ). n ≤ c) (sym count) h)

    -- tests 7 and 8
    pub flume-move : move_answer T ≡ move_answer (flume_scene s g a)
    unfolding flume_scene
    flume-move = move-answer-same (flume_scene s g a) outside

    -- no cell is unsteady: the next state as a set
    module _ (e : flume_cells s ≤ first (flume_cells s) (unsteady T)) where
      slow-enough : (flume_scene s g a).grid.cells ≤ first (flume_scene s g a).grid.cells (unsteady (flume_scene s g a))
      unfolding flume_scene flume_grid flume_cells flume
      slow-enough = subst (λ (n : ℕ). flume_cells s ≤ n) (fast-same (flume_scene s g a)) e

      pub flume-next : flume_next s g a
          ≡ lent (tab (flume_cells s) (new_flag T)) (tab (9 * flume_cells s) (λ m. new_part T (m / 9) (wide (m % 9)))) (tab (flume_cells s) (new_mass T)) (tab (flume_cells s) (new_fill T)) (new_carry T ∷ [])
      unfolding flume_scene flume_next
      flume-next = next-lent (flume_scene s g a) outside slow-enough (flume_cells s)
