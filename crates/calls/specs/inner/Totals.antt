-- Three totals, the carry given and the other two from another slice. Assumes nothing.
use Rattle.std.specs.Prelude.{List, [], ◌∷◌, ℤ, pos, get_or}

abbrev pub carried_with : ℤ → List ℤ → List ℤ
carried_with carry totals = carry ∷ get_or totals 1 (pos 0) ∷ get_or totals 2 (pos 0) ∷ []
