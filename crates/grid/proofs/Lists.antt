-- An element that is there does not depend on what stands for a missing one. Assumes nothing.
use mathlib.Core.Path.{◌≡◌, refl}
use mathlib.Core.List.{List, [], ◌∷◌}
use Prim.Native.Nat.{ℕ, zero, suc, ◌<◌}
use native.Mathlib.Nat.{not-suc-le-zero, le_of_suc-le-suc}
use lib.ListN.{length, get_or}

module _ {ℓ} {A : Type ℓ} where
  pub get_or-there : (xs : List A) (i : ℕ) (d e : A) → i < length xs → get_or xs i d ≡ get_or xs i e
  get_or-there [] i d e h = absurd (not-suc-le-zero h)
  get_or-there (x ∷ xs) zero d e h = refl
  get_or-there (x ∷ xs) (suc i) d e h = get_or-there xs i d e (le_of_suc-le-suc h)
