-- Flags that passed test 4: each is 0 to 3, and a cell that is not wall has all its neighbours in the grid. Assumes nothing.
use mathlib.Core.Path.{◌≡◌, ap, ◌∙◌}
use mathlib.Core.Bool.{true, not, ◌||◌}
use mathlib.Core.List.{List}
use Prim.Native.Nat.{ℕ, ◌<◌}
use native.Mathlib.Omega.{arith}
use lib.Dec.{ltb, eqb}
use lib.ListN.{length, get_or}
use borrow.Author.Tests.{ltb-true, eqb-true, not-false}
use Rattle.whole.specs.laws.Bools.{and_left, and_right, where-then, never}
use Rattle.whole.specs.laws.Search.{first-none}
use Rattle.grid.specs.declared.Sides.{Sides}
use Rattle.grid.specs.Grid.{grid_of, box, cells_of}
use Rattle.grid.specs.Good.{flag_good, bad_flag}
use Rattle.grid.specs.inner.Passes.{Inner, Flagged}
use Rattle.grid.specs.State.{flag_of}
use Rattle.grid.proofs.Coordinates.{inner_of}
use Rattle.grid.proofs.Lists.{get_or-there}

module _ {s : Sides} {flags : List ℕ} (w : Flagged s flags) (c : ℕ) (h : c < length flags) where
  good : flag_good (grid_of s) (flag_of flags) c ≡ true
  unfolding bad_flag grid_of box cells_of
  good =
      not-false (flag_good (grid_of s) (flag_of flags) c)
      (first-none (cells_of s) (λ c. not (flag_good (grid_of s) (flag_of flags) c)) w.tested c (omega (arith, w.count)))

  pub flag-low : get_or flags c 0 < 4
  unfolding flag_good
  flag-low =
      ltb-true (get_or flags c 0) 4
      (ap (λ (f : ℕ). ltb f 4) (get_or-there flags c 0 3 h)
      ∙ and_left (ltb (flag_of flags c) 4) (not ((grid_of s).outer c) || eqb (flag_of flags c) 3) good)

  pub inner : (get_or flags c 0 ≡ 3 → ⊥) → Inner s c
  unfolding flag_good
  inner f =
      inner_of s c w.sides (omega (arith, w.count))
      (never ((grid_of s).outer c) (λ o. f (get_or-there flags c 0 3 h
      ∙ eqb-true (flag_of flags c) 3 (where-then ((grid_of s).outer c) (eqb (flag_of flags c) 3) (and_right (ltb (flag_of flags c) 4) (not ((grid_of s).outer c) || eqb (flag_of flags c) 3) good) o))))
