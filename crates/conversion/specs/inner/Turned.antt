-- The conversion is made, as the box's Turned has it, over any parts. Assumes nothing.
use Rattle.std.specs.Prelude.{◌≡◌, Bool, true, List, [], ◌∷◌, ℕ, ◌<◌, ℤ, replicate}
use Rattle.whole.specs.Fold.{tab}
use Rattle.lattice.specs.Lattice.{d3q19}
use Rattle.lattice.specs.Body.{body_good}
use Rattle.lattice.specs.Cell.{carry_good}
use Rattle.grid.specs.State.{Scene}
use Rattle.grid.specs.Step.{flag_at, new_flag, new_part, new_mass, new_carry}

pub record TurnedTo (S : Scene) (n : ℕ) (flags : List ℕ) (part : ℕ → ℕ → ℤ) (masses carry : List ℤ) (marks : List ℕ) (fair : Bool) : Type 0 where
  pub flags-are : flags ≡ tab n (new_flag S)
  pub part-is : (c k : ℕ) → c < n → k < 19 → part c k ≡ new_part S c k
  pub masses-are : masses ≡ tab n (new_mass S)
  pub carry-is : carry ≡ new_carry S ∷ []
  pub marks-are : marks ≡ replicate n 0
  pub newborn : fair ≡ true → (c : ℕ) → c < n → flag_at S c ≡ 0 → new_flag S c ≡ 1 → body_good d3q19 (new_part S c) ≡ true
  pub carry-fair : fair ≡ true → carry_good (new_carry S) ≡ true
