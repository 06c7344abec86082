-- Asking for all interface cells one after another, in the customer's words: what a sweep finds and what it costs. Assumes nothing.
use Rattle.std.specs.Prelude.{◌≡◌, Bool, true, false, List, [], ◌∷◌, ℕ, zero, suc, ◌+◌, ◌-◌, ◌≤◌, length}
use Rattle.grid.specs.declared.Sides.{Sides}
use Rattle.grid.specs.Grid.{cells_of}
use Rattle.grid.specs.State.{Lent}
use Rattle.index.specs.Index.{words_of, interface, is_set, how_many, surface_cells}
use Rattle.index.specs.Outcome.{found_at, none_left, next_answer}

-- from a start: the cells found, each next question from the cell after the last found, until there is none; and the words read in all
pub data Sweep (s : Sides) (words : List ℕ) : ℕ → List ℕ → ℕ → Type 0 where
  over : {start read : ℕ} → next_answer s words start ≡ none_left read → Sweep s words start [] read
  found : {start cell read more : ℕ} {cells : List ℕ} → next_answer s words start ≡ found_at cell read → Sweep s words (suc cell) cells more → Sweep s words start (cell ∷ cells) (read + more)

-- those of the n numbers from i on that pass, in rising order
unfoldable pub list_from : ℕ → ℕ → (ℕ → Bool) → List ℕ
list_from zero i f = []
list_from (suc n) i f = elim (f i) [ true ↦ i ∷ list_from n (suc i) f | false ↦ list_from n (suc i) f ]

-- what a sweep is promised to find and to cost
pub record Swept (s : Sides) (words : List ℕ) (start : ℕ) (cells : List ℕ) (read : ℕ) : Type 0 where
  -- each cell from the start on whose bit is set, once, in rising order
  pub each : cells ≡ list_from (cells_of s - start) start (is_set words)
  -- at most the words and the cells found, which are no more than there are
  pub cost : read ≤ words_of (cells_of s) + length cells
  pub most : length cells ≤ how_many (cells_of s) words

-- of a loaded set: its interface cells from the start on, each once, in rising order, for at most the words and as many more as there are interface cells
pub record SurfaceSwept (s : Sides) (a : Lent) (start : ℕ) (cells : List ℕ) (looked : ℕ) : Type 0 where
  pub each : cells ≡ list_from (cells_of s - start) start (interface a.flags)
  pub cost : looked ≤ words_of (cells_of s) + length cells
  pub most : length cells ≤ surface_cells (cells_of s) a.flags
