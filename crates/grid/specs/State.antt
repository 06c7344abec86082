-- A state: five lists, as a lent set holds them, and the same as functions of the cell. Assumes nothing.
use Rattle.std.specs.Prelude.{ℕ, zero, suc, ◌+◌, ◌*◌, ◌/◌, ◌%◌, Bool, true, false, List, [], ◌∷◌, ℤ, pos, get_or}
use Rattle.whole.specs.Fold.{tab}
use Rattle.lattice.specs.Lattice.{V3, Lattice}
use Rattle.grid.specs.Grid.{Grid}

-- a lent set: N flags, 19N parts (part k of cell c at 19c + k), N masses, N fills and the carry as a list of one
pub record Lent : Type 0 where
  pub flags : List ℕ
  pub parts : List ℤ
  pub masses : List ℤ
  pub fills : List ℕ
  pub carry : List ℤ

-- five slices' contents as a set
abbrev pub lent : List ℕ → List ℤ → List ℤ → List ℕ → List ℤ → Lent
lent flags parts masses fills carry = record { flags = flags; parts = parts; masses = masses; fills = fills; carry = carry }

-- the flag of a cell; what is no cell counts as wall
abbrev pub flag_of : List ℕ → ℕ → ℕ
flag_of flags c = get_or flags c 3

-- part k of cell c
abbrev pub part_of : List ℤ → ℕ → ℕ → ℤ
part_of parts c k = get_or parts (19 * c + k) (pos 0)

-- the state that it holds, cell by cell
pub record State : Type 0 where
  pub flag : ℕ → ℕ
  pub part : ℕ → ℕ → ℤ
  pub mass : ℕ → ℤ
  pub fill : ℕ → ℕ
  pub carry : ℤ

unfoldable pub state_of : ℕ → Lent → State
state_of q a = record {
  flag = λ c. get_or a.flags c 3;
  part = λ c k. get_or a.parts (suc q * c + k) (pos 0);
  mass = λ c. get_or a.masses c (pos 0);
  fill = λ c. get_or a.fills c 0;
  carry = get_or a.carry 0 (pos 0);
}

unfoldable pub lent_of : ℕ → ℕ → State → Lent
lent_of q n s = lent (tab n s.flag) (tab (suc q * n) (λ m. s.part (m / suc q) (m % suc q))) (tab n s.mass) (tab n s.fill) (s.carry ∷ [])

-- what goes by a flag: 0 empty, 1 interface, 2 fluid, 3 wall
module _ {ℓ} {A : Type ℓ} where
  abbrev pub by_flag : ℕ → A → A → A → A → A
  by_flag zero empty interface fluid wall = empty
  by_flag (suc zero) empty interface fluid wall = interface
  by_flag (suc (suc zero)) empty interface fluid wall = fluid
  by_flag (suc (suc (suc n))) empty interface fluid wall = wall

-- "liquid" means fluid or interface
abbrev pub liquid : ℕ → Bool
liquid f = by_flag f false true true false

-- all that a step reads: the old state, gravity, and the relaxation p of each cell
pub record Scene : Type 0 where
  pub lat : Lattice
  pub grid : Grid
  pub old : State
  pub g : V3
  pub relax : ℕ → ℤ

-- names every definition of this file: whoever unfolds this computes with all of them
unfoldable pub open-state : Unit {0}
unfolding state_of lent_of
open-state = tt
