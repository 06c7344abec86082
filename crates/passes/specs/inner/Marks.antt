-- Pass 0's mark of a cell, by offsets. Assumes nothing.
use Rattle.std.specs.Prelude.{List, ℕ, ◌-◌, get_or}
use Rattle.grid.specs.inner.Passes.{beside_at, open_mark}

abbrev pub opened_at : List ℕ → List ℕ → ℕ → ℕ → ℕ
opened_at flags off low c = open_mark (get_or flags c 0) (beside_at flags off (c - low) 3)
