-- A list of parts with nineteen of them replaced: one cell's parts written where they belong. Assumes nothing.
use Rattle.std.specs.Prelude.{List, ◌++◌, ℕ, ◌+◌, ℤ, take, drop}

unfoldable pub pasted : List ℤ → ℕ → List ℤ → List ℤ
pasted out at v = take at out ++ (v ++ drop (at + 19) out)
