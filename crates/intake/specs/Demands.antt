-- What is promised of the reader over its outcome: what it hands back loads. Assumes nothing.
use Rattle.std.specs.Prelude.{◌≡◌, List, ℕ}
use Rattle.grid.specs.Answer.{Done}
use Rattle.grid.specs.State.{lent}
use Rattle.index.specs.Held.{Held, held, Loads}
use Rattle.intake.specs.Reading.{read_answer, read_head, read_flags, read_held}

-- the set that the reader hands back: the slices that it wrote, with the record's own flags
abbrev pub read_grid : List ℕ → Held → Held
read_grid r a = let b = (read_held r a).set in held (lent (read_flags r a) b.parts b.masses b.fills b.carry) (read_held r a).index

-- an accepted record's grid loads with the index that was made of its flags
abbrev pub ReadKeeps : List ℕ → Held → Type 0
ReadKeeps r a = read_answer r a ≡ Done → Loads (read_head r a).sides (read_grid r a)
