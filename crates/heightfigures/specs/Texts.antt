-- A text's bytes, and a figure of height grids: what the definitions give, and what the document says. Assumes nothing.
use Rattle.std.specs.Prelude.{Bool, true, false, ◌&&◌, List, [] as none, ◌∷◌ as ◌then◌, ℕ, ℤ}
use Prim.Native.Char.{code}
use Prim.Native.String.{String, [], ◌∷◌}
use Rattle.lattice.specs.Body.{eq_z}

-- a text of ASCII characters as its bytes
abbrev pub bytes : String → List ℕ
bytes [] = none
bytes (c ∷ s) = code c then bytes s

pub record Figure : Type 0 where
  pub worked : List ℤ
  pub said : List ℤ

-- two lists of numbers are the same
abbrev pub same_z : List ℤ → List ℤ → Bool
same_z none none = true
same_z none (b then ys) = false
same_z (a then xs) none = false
same_z (a then xs) (b then ys) = eq_z a b && same_z xs ys

abbrev pub hold : List Figure → Bool
hold none = true
hold (f then fs) = same_z f.worked f.said && hold fs
