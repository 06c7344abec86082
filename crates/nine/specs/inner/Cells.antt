-- Nine stored parts of a cell and the nineteen places. Assumes nothing.
use Rattle.std.specs.Prelude.{◌≡◌, List, ◌++◌, ℕ, ◌+◌, ◌*◌, ℤ, pos, get_or, take, drop}
use Rattle.whole.specs.Fold.{tab}
use Rattle.lattice.specs.inner.Held.{parts_of}
use Rattle.flume.specs.inner.Spread.{wide, spread, Idle}

-- the nine parts of a cell, from the nineteen places
abbrev pub nine_of : List ℤ → List ℤ
nine_of v = tab 9 (λ k. get_or v (wide k) (pos 0))

-- part i of cell c among the nineteen places: the stored part of its direction, 0 at an idle place
unfoldable pub part_of9 : List ℤ → ℕ → ℕ → ℤ
part_of9 parts c = spread (pos 0) (λ k. get_or parts (9 * c + k) (pos 0))

-- a list of parts with those of cell c replaced
unfoldable pub pasted9 : List ℤ → ℕ → List ℤ → List ℤ
pasted9 out c v = take (9 * c) out ++ nine_of v ++ drop (9 * c + 9) out

-- nothing at the idle places
pub record Quiet (f : List ℤ) : Type 0 where
  pub at : (i : ℕ) → Idle i → parts_of f i ≡ pos 0
