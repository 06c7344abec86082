-- What the surface's two questions promise, for every input: number, place and values of the layer's outcome. Assumes nothing.
use Rattle.std.specs.Prelude.{◌≡◌, List, ℕ}
use Rattle.grid.specs.declared.Sides.{Sides}
use Rattle.index.specs.Outcome.{count_answer, count_number, count_place, count_cells, next_answer, next_number, next_place, next_kind, next_cell, next_words}

-- how many: number, place and the interface cells, 0 beside a refusal
pub record CountTold (s : Sides) (words : List ℕ) (number place cells : ℕ) : Type 0 where
  pub number_is : number ≡ count_number (count_answer s words)
  pub place_is : place ≡ count_place (count_answer s words)
  pub cells_are : cells ≡ count_cells (count_answer s words)

-- next: number, place, kind (1 found, 2 none), the cell, and the words read
pub record NextTold (s : Sides) (words : List ℕ) (start number place kind cell read : ℕ) : Type 0 where
  pub number_is : number ≡ next_number (next_answer s words start)
  pub place_is : place ≡ next_place (next_answer s words start)
  pub kind-is : kind ≡ next_kind (next_answer s words start)
  pub cell-is : cell ≡ next_cell (next_answer s words start)
  pub read_is : read ≡ next_words (next_answer s words start)
