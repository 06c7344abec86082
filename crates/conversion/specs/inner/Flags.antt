-- Pass 3 from mark to mark: what it asks beyond the marks, and what one mark changes. Assumes nothing.
use Rattle.std.specs.Prelude.{◌≡◌, ◌&&◌, cond, List, ℕ, ◌+◌, ◌-◌, ◌<◌, eqb, length, get_or}
use Rattle.whole.specs.Fold.{any_dir}
use Rattle.grid.specs.inner.Passes.{Amid}
use Rattle.arrivals.specs.inner.Sources.{Mirrored}

-- whatever is no wall has all its neighbours, and is itself a neighbour of each
pub record Enclosed (flags off : List ℕ) (low : ℕ) : Type 0 where
  pub inner : (c : ℕ) → c < length flags → (get_or flags c 0 ≡ 3 → ⊥) → Amid (length flags) low c
  pub mirrored : Mirrored off low

-- the new flag of cell b by the mark of cell c alone: c turns, to fluid where kind is empty and to empty where kind is fluid, and its neighbours of that kind
-- become interface
unfoldable pub turned_around : List ℕ → List ℕ → List ℕ → ℕ → ℕ → ℕ → ℕ → ℕ
turned_around flags next off low c kind b =
    cond (eqb (get_or flags b 0) kind && any_dir 18 (λ i. eqb (c - low + get_or off i 0) b)) 1 (cond (eqb b c) (2 - kind) (get_or next b 0))
