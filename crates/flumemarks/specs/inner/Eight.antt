-- A byte beside a cell of the flume, by its eight directions; and offsets whose idle entries lead to the cell itself. Assumes nothing.
use Rattle.std.specs.Prelude.{◌≡◌, Bool, List, ℕ, ◌+◌, eqb, get_or}
use Rattle.whole.specs.Fold.{any_dir}
use Rattle.flume.specs.inner.Spread.{wide, Idle}

-- a neighbour's byte is m: of the cell c with k = c − low
unfoldable pub beside_eight : List ℕ → List ℕ → ℕ → ℕ → Bool
beside_eight bytes off k m = any_dir 8 (λ j. eqb (get_or bytes (k + get_or off (wide j) 0) 0) m)

pub record Idling (off : List ℕ) (low : ℕ) : Type 0 where
  pub at : (i : ℕ) → Idle i → get_or off i 0 ≡ low
