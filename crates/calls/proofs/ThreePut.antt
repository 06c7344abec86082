-- Three numbers put one by one are the three. Assumes nothing.
use mathlib.Core.Path.{◌≡◌, refl}
use mathlib.Core.List.{List, [], ◌∷◌}
use native.Mathlib.Omega.{arith}
use lib.IntN.{ℤ}
use lib.ListN.{length, set}
use Rattle.calls.specs.inner.Totals.{carried_with}

pub carry-put : (l : List ℤ) (z : ℤ) → length l ≡ 3 → set l 0 z ≡ carried_with z l
carry-put [] z e = absurd (omega arith)
carry-put (a ∷ []) z e = absurd (omega arith)
carry-put (a ∷ b ∷ []) z e = absurd (omega arith)
carry-put (a ∷ b ∷ c ∷ []) z e = refl
carry-put (a ∷ b ∷ c ∷ d ∷ l) z e = absurd (omega arith)

pub all-put : (l : List ℤ) (x y z : ℤ) → length l ≡ 3 → set (set (set l 0 x) 1 y) 2 z ≡ (x ∷ y ∷ z ∷ [])
all-put [] x y z e = absurd (omega arith)
all-put (a ∷ []) x y z e = absurd (omega arith)
all-put (a ∷ b ∷ []) x y z e = absurd (omega arith)
all-put (a ∷ b ∷ c ∷ []) x y z e = refl
all-put (a ∷ b ∷ c ∷ d ∷ l) x y z e = absurd (omega arith)
