-- What the passes of the step and of the check compute on the way, in terms of the definitions: offsets of neighbours, the normal, the
-- coordinates of a walk, marks. Assumes nothing.
use Rattle.std.specs.Prelude.{ℕ, ◌+◌, ◌-◌, ◌<◌, ◌≤◌, ◌≡◌, Bool, true, false, ◌&&◌, ◌||◌, not, cond, List, ℤ, pos, ◌-ℤ◌, leb, ltb, eqb, length, get_or}
use Rattle.whole.specs.Fold.{any_dir, first}
use Rattle.lattice.specs.Lattice.{V3, d3q19}
use Rattle.grid.specs.declared.Sides.{Sides}
use Rattle.grid.specs.declared.Place.{Place}
use Rattle.grid.specs.Grid.{cell_at, at_end, toward, cells_of, sides_good, grid_of}
use Rattle.grid.specs.State.{by_flag, flag_of, liquid}
use Rattle.grid.specs.Step.{flag_after}
use Rattle.grid.specs.Good.{flag_good, bad_flag}

-- the lowest cell that is not in the outer layer
unfoldable pub low_of : Sides → ℕ
low_of s = cell_at s.nx s.ny 1 1 1

-- neighbour i of cell c is (c − low) + offset i: the offset is the neighbour of the lowest cell
unfoldable pub offset_of : Sides → ℕ → ℕ
offset_of s i = toward d3q19 s.nx s.ny (low_of s) i

-- a neighbour's byte is m: of the cell c with k = c − low, by an array of offsets
unfoldable pub beside_at : List ℕ → List ℕ → ℕ → ℕ → Bool
beside_at bytes off k m = any_dir 18 (λ i. eqb (get_or bytes (k + get_or off i 0) 0) m)

-- every offset leads to a byte
pub record Reach (bytes off : List ℕ) (k : ℕ) : Type 0 where
  pub all : (i : ℕ) → i < 19 → k + get_or off i 0 < length bytes

-- a range of cells whose neighbours are all cells: those from low on that are low before the end
pub record Reaching (n : ℕ) (off : List ℕ) (low : ℕ) : Type 0 where
  pub few : n ≤ 262144
  pub room : low + low ≤ n
  pub each : (c i : ℕ) → low ≤ c → c + low < n → i < 19 → c - low + get_or off i 0 < n

-- c is one of them
pub record Amid (n low c : ℕ) : Type 0 where
  pub from : low ≤ c
  pub to : c + low < n

abbrev pub amid : ℕ → ℕ → ℕ → Bool
amid n low c = leb low c && ltb (c + low) n

-- ---- test 5 by offsets

-- a fluid cell beside an empty one
abbrev pub open_at : List ℕ → List ℕ → ℕ → ℕ → Bool
open_at flags off low c = eqb (get_or flags c 0) 2 && beside_at flags off (c - low) 0

-- the lowest such cell; N if there is none
unfoldable pub open_place : List ℕ → List ℕ → ℕ → ℕ
open_place flags off low = first (length flags) (open_at flags off low)

-- what it asks: fluid cells have all their neighbours
pub record Embedded (flags off : List ℕ) (low : ℕ) : Type 0 where
  pub reaching : Reaching (length flags) off low
  pub fluid : (c : ℕ) → c < length flags → get_or flags c 0 ≡ 2 → Amid (length flags) low c

-- ---- the normal of the cell c with k = c − low, whose own place is k + offset 0

-- the cell whose fill counts for c at b: for a wall c itself
unfoldable pub seen_at : List ℕ → ℕ → ℕ → ℕ
seen_at flags c b = by_flag (get_or flags b 3) b b b c

-- the fill that counts in direction i
abbrev pub seen_beside : List ℕ → List ℕ → List ℕ → ℕ → ℕ → ℤ
seen_beside flags fills off k i = pos (get_or fills (seen_at flags (k + get_or off 0 0) (k + get_or off i 0)) 0)

-- per axis: fill at minus one less fill at plus one
unfoldable pub normal_at : List ℕ → List ℕ → List ℕ → ℕ → V3
normal_at flags fills off k = record {
  x = seen_beside flags fills off k 2 -ℤ seen_beside flags fills off k 1;
  y = seen_beside flags fills off k 4 -ℤ seen_beside flags fills off k 3;
  z = seen_beside flags fills off k 6 -ℤ seen_beside flags fills off k 5;
}

-- every offset leads to a cell, and no fill is above 65,536
pub record Sloping (flags fills off : List ℕ) (k : ℕ) : Type 0 where
  pub reach : (i : ℕ) → i < 19 → k + get_or off i 0 < length flags
  pub count : length fills ≡ length flags
  pub low : (c : ℕ) → c < length flags → get_or fills c 0 ≤ 65536

-- a cell whose neighbours are all cells
pub record Inner (s : Sides) (c : ℕ) : Type 0 where
  pub low : low_of s ≤ c
  pub high : c + low_of s < cells_of s

-- cell c stands at p
pub record Stands (s : Sides) (c : ℕ) (p : Place) : Type 0 where
  pub is : c ≡ cell_at s.nx s.ny p.x p.y p.z
  pub x-low : p.x < s.nx
  pub y-low : p.y < s.ny

-- p is a place of the grid
pub record Of (s : Sides) (p : Place) : Type 0 where
  pub x-low : p.x < s.nx
  pub y-low : p.y < s.ny
  pub z-low : p.z < s.nz

-- where the next cell stands
unfoldable pub place_after : Sides → Place → Place
place_after s p =
    cond (ltb (p.x + 1) s.nx) (record { x = p.x + 1; y = p.y; z = p.z })
    (cond (ltb (p.y + 1) s.ny) (record { x = 0; y = p.y + 1; z = p.z }) (record { x = 0; y = 0; z = p.z + 1 }))

-- whether a cell that stands there is in the outer layer
unfoldable pub outer_at : Sides → Place → Bool
outer_at s p = at_end s.nx p.x || at_end s.ny p.y || at_end s.nz p.z

-- a row begins at cell c, which stands at p
pub record RowAt (s : Sides) (c : ℕ) (p : Place) : Type 0 where
  pub stands : Stands s c p
  pub first : p.x ≡ 0

-- x is the first cell of the row at c that breaks test 4's rule, nx if none does
pub record FirstInRow (s : Sides) (flags : List ℕ) (c x : ℕ) : Type 0 where
  pub most : x ≤ s.nx
  pub before : (k : ℕ) → k < x → not (flag_good (grid_of s) (λ c. get_or flags c 3) (c + k)) ≡ false
  pub here : x < s.nx → not (flag_good (grid_of s) (λ c. get_or flags c 3) (c + x)) ≡ true

-- r is the lowest place from a on where the byte k stands, the number of bytes if it stands nowhere there
pub record NextOf (bytes : List ℕ) (a k r : ℕ) : Type 0 where
  pub least : a ≤ r
  pub most : r ≤ length bytes
  pub before : (j : ℕ) → a ≤ j → j < r → get_or bytes j 0 ≡ k → ⊥
  pub here : r < length bytes → get_or bytes r 0 ≡ k

-- all the places from a to r − 1, of n places, have P
pub record Past (P : ℕ → Type 0) (n a r : ℕ) : Type 0 where
  pub least : a ≤ r
  pub most : r ≤ n
  pub before : (j : ℕ) → a ≤ j → j < r → P j

-- they hold another number than k
abbrev pub Lacking : List ℕ → ℕ → ℕ → ℕ → Type 0
Lacking bytes a k = Past (λ j. get_or bytes j 0 ≡ k → ⊥) (length bytes) a

-- they have no mark
abbrev pub Unmarked : List ℕ → ℕ → ℕ → Type 0
Unmarked marks a = Past (λ j. get_or marks j 0 ≡ 0) (length marks) a

-- cell c is liquid in one of two sets
unfoldable pub either_liquid : List ℕ → List ℕ → ℕ → Bool
either_liquid flags flags2 c = liquid (flag_of flags c) || liquid (flag_of flags2 c)

-- they are dry in both
abbrev pub Dry : List ℕ → List ℕ → ℕ → ℕ → Type 0
Dry flags flags2 a = Past (λ j. either_liquid flags flags2 j ≡ false) (length flags) a

-- r is the lowest cell from a on that is liquid in one of two sets, the number of cells if none is
pub record NextWet (flags flags2 : List ℕ) (a r : ℕ) : Type 0 where
  pub past : Dry flags flags2 a r
  pub here : r < length flags → either_liquid flags flags2 r ≡ true

-- r is the lowest place from a on that has a mark, the number of places if none has
pub record NextMarked (marks : List ℕ) (a r : ℕ) : Type 0 where
  pub past : Unmarked marks a r
  pub here : r < length marks → get_or marks r 0 ≡ 0 → ⊥

-- ---- flags that passed test 4

pub record Flagged (s : Sides) (flags : List ℕ) : Type 0 where
  pub sides : sides_good s ≡ true
  pub count : length flags ≡ cells_of s
  pub tested : cells_of s ≤ bad_flag (grid_of s) (flag_of flags)

-- ---- marks: what the passes note of a cell in one byte

-- c is past the first plane, row and cell and before the last ones, so that its neighbours are cells
unfoldable pub inside : Sides → ℕ → Bool
inside s c = leb (low_of s) c && ltb (c + low_of s) (cells_of s)

-- a neighbour's byte is m
unfoldable pub beside_in : Sides → List ℕ → ℕ → ℕ → Bool
beside_in s bytes m c = any_dir 18 (λ i. eqb (get_or bytes ((grid_of s).near c i) 0) m)

-- pass 0: 1 at a fluid cell with no wall beside it, where every part streams straight in
abbrev pub open_mark : ℕ → Bool → ℕ
open_mark f walled = cond (eqb f 2 && not walled) 1 0

-- by offsets
abbrev pub opened_by : List ℕ → List ℕ → List ℕ → ℕ → ℕ → ℕ
opened_by flags marks off low c = cond (amid (length flags) low c) (open_mark (get_or flags c 0) (beside_at flags off (c - low) 3)) (get_or marks c 0)

unfoldable pub opened_mark : Sides → List ℕ → List ℕ → ℕ → ℕ
opened_mark s flags marks c = cond (inside s c) (open_mark (get_or flags c 0) (beside_in s flags 3 c)) (get_or marks c 0)

-- pass 2: 1 filled, 2 would be emptied; beside a filled cell it is not; by offsets, and what that asks: cells to be emptied have all their neighbours
abbrev pub kept_by : List ℕ → List ℕ → ℕ → ℕ → ℕ
kept_by marks off low c = cond (eqb (get_or marks c 0) 2) (cond (beside_at marks off (c - low) 1) 0 2) (get_or marks c 0)

pub record EmptyingBy (marks off : List ℕ) (low : ℕ) : Type 0 where
  pub reaching : Reaching (length marks) off low
  pub inner : (c : ℕ) → c < length marks → get_or marks c 0 ≡ 2 → Amid (length marks) low c

unfoldable pub kept_mark : Sides → List ℕ → ℕ → ℕ
kept_mark s marks c = cond (eqb (get_or marks c 0) 2) (cond (beside_in s marks 1 c) 0 2) (get_or marks c 0)

-- what pass 2 asks: only inner cells are to be emptied
pub record Emptying (s : Sides) (marks : List ℕ) : Type 0 where
  pub sides : sides_good s ≡ true
  pub count : length marks ≡ cells_of s
  pub inner : (c : ℕ) → c < length marks → get_or marks c 0 ≡ 2 → Inner s c

-- pass 3: the new flag, by marks 1 filled, 2 emptied; by offsets, and what that asks: only interface cells are marked
abbrev pub turned_at : List ℕ → List ℕ → List ℕ → ℕ → ℕ → ℕ
turned_at flags marks off low c =
    flag_after (get_or flags c 0) (beside_at marks off (c - low) 1) (eqb (get_or marks c 0) 1) (eqb (get_or marks c 0) 2) (beside_at marks off (c - low) 2)

abbrev pub turned_by : List ℕ → List ℕ → List ℕ → ℕ → ℕ → ℕ
turned_by flags marks off low c = cond (amid (length flags) low c) (turned_at flags marks off low c) (get_or flags c 0)

pub record MarkedBy (flags marks off : List ℕ) (low : ℕ) : Type 0 where
  pub reaching : Reaching (length flags) off low
  pub count : length marks ≡ length flags
  pub flagged : (c : ℕ) → c < length flags → get_or flags c 0 < 4
  pub only : (c : ℕ) → c < length flags → (get_or flags c 0 ≡ 1 → ⊥) → get_or marks c 0 ≡ 0

unfoldable pub turned_flag : Sides → List ℕ → List ℕ → ℕ → ℕ
turned_flag s flags marks c =
    flag_after (flag_of flags c) (beside_in s marks 1 c) (eqb (get_or marks c 0) 1) (eqb (get_or marks c 0) 2) (beside_in s marks 2 c)

-- what pass 3 asks: only interface cells are marked
pub record Marked (s : Sides) (flags marks : List ℕ) : Type 0 where
  pub flagged : Flagged s flags
  pub count : length marks ≡ cells_of s
  pub only : (c : ℕ) → c < length marks → (get_or flags c 0 ≡ 1 → ⊥) → get_or marks c 0 ≡ 0

-- names every definition of this file: whoever unfolds this computes with all of them
unfoldable pub open-passes : Unit {0}
unfolding low_of offset_of beside_at open_place seen_at normal_at place_after outer_at either_liquid inside beside_in opened_mark kept_mark turned_flag
open-passes = tt
