-- What the two questions are promised to answer of a loaded set: what a full walk of its flags finds. Assumes nothing.
use Rattle.std.specs.Prelude.{◌≡◌, [], ◌∷◌, ℕ, ◌-◌, ◌≤◌}
use Rattle.whole.specs.Fold.{first_from}
use Rattle.grid.specs.declared.Sides.{Sides}
use Rattle.grid.specs.Grid.{cells_of}
use Rattle.grid.specs.State.{Lent}
use Rattle.index.specs.Index.{Index, interface, surface_cells}
use Rattle.index.specs.Outcome.{count_answer, next_answer, told}
use Rattle.std.specs.Prelude.{Ok}

-- how many, the stored count, and from every start the next one, by the flags
pub record AsWalked (s : Sides) (a : Lent) (x : Index) : Type 0 where
  pub cells : count_answer s x.words ≡ Ok (surface_cells (cells_of s) a.flags)
  pub stored : x.count ≡ surface_cells (cells_of s) a.flags ∷ []
  pub next : (start : ℕ) → start ≤ cells_of s
      → next_answer s x.words start ≡ told (cells_of s) start (first_from (cells_of s - start) start (interface a.flags))
