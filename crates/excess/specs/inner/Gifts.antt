-- Stage 6 over the lists that its functions are lent: the new flags, the old fills, the parts and masses on the way, the settled marks, and the offsets
-- of neighbours. Each is Step's formula over lists, and over parts as a function of cell and direction; conversion's proofs/Given has one law each that turns it into the step's scene. Assumes nothing.
use Rattle.std.specs.Prelude.{◌≡◌, Bool, true, cond, not, List, ℕ, zero, suc, ◌+◌, ◌-◌, ◌*◌, ◌/◌, ◌%◌, ◌≤◌, ◌<◌, ℤ, pos, neg_ℤ, ◌+ℤ◌, ◌-ℤ◌, eqb, length, get_or}
use Rattle.whole.specs.Fold.{dirs, any_dir, tab, Dir}
use Rattle.whole.specs.laws.Machine.{Within}
use Rattle.lattice.specs.Lattice.{V3, dot, d3q19, density}
use Rattle.lattice.specs.Cell.{positive, is_positive, share}
use Rattle.grid.specs.declared.Sides.{Sides}
use Rattle.grid.specs.State.{part_of}
use Rattle.grid.specs.Grid.{cells_of, sides_good}
use Rattle.grid.specs.inner.Passes.{low_of, offset_of, normal_at}
use Rattle.grid.specs.inner.Sight.{Around}

-- ---- the normal, of the cell with k = c − low: new flags tell a wall as well as old ones, since walls stay

abbrev pub back : V3 → V3
back n = record { x = neg_ℤ n.x; y = neg_ℤ n.y; z = neg_ℤ n.z }

-- as it is for a filled cell, of mark 1, and turned for an emptied one
unfoldable pub leaning_at : List ℕ → List ℕ → List ℕ → ℕ → ℕ → V3
leaning_at flags fills off k m = cond (eqb m 1) (normal_at flags fills off k) (back (normal_at flags fills off k))

-- ---- weights

-- targets are neighbours whose new flag is interface
unfoldable pub target_at : List ℕ → List ℕ → ℕ → ℕ → Bool
target_at flags off k i = eqb (get_or flags (k + get_or off i 0) 0) 1

-- a target's weight by the normal n, where positive
unfoldable pub lean_weight_at : List ℕ → V3 → List ℕ → ℕ → ℕ → ℤ
lean_weight_at flags n off k i = cond (target_at flags off k i) (positive (dot (d3q19.e i) n)) (pos 0)

-- each target weighs 1
unfoldable pub even_at : List ℕ → List ℕ → ℕ → ℕ → ℤ
even_at flags off k i = cond (target_at flags off k i) (pos 1) (pos 0)

unfoldable pub weight_at : List ℕ → List ℕ → List ℕ → ℕ → ℕ → ℕ → ℤ
weight_at flags fills off k m i =
    cond (is_positive (dirs 18 (lean_weight_at flags (leaning_at flags fills off k m) off k))) (lean_weight_at flags (leaning_at flags fills off k m) off k i) (even_at flags off k i)

-- numbers of the directions as an array: index 0 holds 0
abbrev pub of_dir : (ℕ → ℤ) → ℕ → ℤ
of_dir f zero = pos 0
of_dir f (suc a) = f (suc a)

-- ---- gifts

-- ρ' of cell c
unfoldable pub density_at : (ℕ → ℕ → ℤ) → ℕ → ℤ
density_at part c = density d3q19 (part c)

-- of a cell with mark m: mass less density for a filled one, the mass for an emptied one
unfoldable pub excess_at : (ℕ → ℕ → ℤ) → List ℤ → ℕ → ℕ → ℤ
excess_at part masses m c = cond (eqb m 1) (get_or masses c (pos 0) -ℤ density_at part c) (get_or masses c (pos 0))

-- what cell c with mark m gives in direction i, where it has a target
unfoldable pub gift_at : List ℕ → List ℕ → (ℕ → ℕ → ℤ) → List ℤ → List ℕ → ℕ → ℕ → ℕ → ℕ → ℤ
gift_at flags fills part masses off low c m i = share 18 (excess_at part masses m c) (weight_at flags fills off (c - low) m) i

unfoldable pub gift_from : List ℕ → List ℕ → (ℕ → ℕ → ℤ) → List ℤ → List ℕ → List ℕ → ℕ → ℕ → ℕ → ℤ
gift_from flags fills part masses marks off low b i =
    cond (eqb (get_or marks b 0) 0) (pos 0) (gift_at flags fills part masses off low b (get_or marks b 0) i)

-- the neighbour in direction i is marked
abbrev pub marked_at : List ℕ → List ℕ → ℕ → ℕ → Bool
marked_at marks off k i = not (eqb (get_or marks (k + get_or off i 0) 0) 0)

-- what the neighbours give to c
unfoldable pub received_at : List ℕ → List ℕ → (ℕ → ℕ → ℤ) → List ℤ → List ℕ → List ℕ → ℕ → ℕ → ℤ
received_at flags fills part masses marks off low c =
    dirs 18 (λ i. gift_from flags fills part masses marks off low (c - low + get_or off i 0) (d3q19.opp i))

unfoldable pub gathered_at : List ℕ → List ℕ → (ℕ → ℕ → ℤ) → List ℤ → List ℕ → List ℕ → ℕ → ℕ → ℤ
gathered_at flags fills part masses marks off low c =
    cond (eqb (get_or flags c 0) 1) (get_or masses c (pos 0) +ℤ received_at flags fills part masses marks off low c) (get_or masses c (pos 0))

-- ---- what joins the carry: the excess of a marked cell with no target

unfoldable pub lost_at : List ℕ → (ℕ → ℕ → ℤ) → List ℤ → List ℕ → ℕ → ℕ → ℕ → ℤ
lost_at flags part masses off low c m = cond (any_dir 18 (target_at flags off (c - low))) (pos 0) (excess_at part masses m c)

unfoldable pub stray_at : List ℕ → (ℕ → ℕ → ℤ) → List ℤ → List ℕ → List ℕ → ℕ → ℕ → ℤ
stray_at flags part masses marks off low c =
    cond (eqb (get_or marks c 0) 0) (pos 0) (lost_at flags part masses off low c (get_or marks c 0))

-- ---- marked cells come to their own: a filled cell's mass is its density, an emptied cell is all zero

-- ---- what is asked of the lists

-- the neighbours of the cell with k = c − low are cells
abbrev pub Near : ℕ → List ℕ → ℕ → Type 0
Near n off k = (i : ℕ) → i < 19 → k + get_or off i 0 < n

-- no fill is above 65,536
abbrev pub Filled : List ℕ → Type 0
Filled fills = (j : ℕ) → get_or fills j 0 ≤ 65536

-- cell c has parts that can be added up; Room says that the list they lie in holds them
pub record Parts (Room : ℕ → Type 0) (part : ℕ → ℕ → ℤ) (c : ℕ) : Type 0 where
  pub there : Room c
  pub rest : Within (part c 0) 1073741824
  pub at : (k : ℕ) → 0 < k → k < 19 → Within (part c k) 33554432

-- in the box nineteen of them
abbrev pub RoomOf : List ℤ → ℕ → Type 0
RoomOf parts c = 19 * c + 19 ≤ length parts

-- cell c has a mass and a density whose difference is an excess
pub record Weighed (Room : ℕ → Type 0) (part : ℕ → ℕ → ℤ) (masses : List ℤ) (c : ℕ) : Type 0 where
  pub there : c < length masses
  pub parts_in : Parts Room part c
  pub mass-in : Within (get_or masses c (pos 0)) 44826624
  pub density-in : Within (density_at part c) 1179648

-- cell c can give: it is weighed, and flags and fills are known all round
pub record Giver (flags fills : List ℕ) (Room : ℕ → Type 0) (part : ℕ → ℕ → ℤ) (masses : List ℤ) (off : List ℕ) (low c : ℕ) : Type 0 where
  pub around : Around (length flags) off low c
  pub fills-there : length fills ≡ length flags
  pub fills-in : Filled fills
  pub weighed : Weighed Room part masses c

-- marked cells can give; cells of new flag 1 can take, are not marked, and each marked neighbour gives towards them
pub record Giving (flags fills : List ℕ) (Room : ℕ → Type 0) (part : ℕ → ℕ → ℤ) (masses : List ℤ) (marks off : List ℕ) (low : ℕ) : Type 0 where
  pub masses-there : length masses ≡ length flags
  pub marks-there : length marks ≡ length flags
  pub giver : (c : ℕ) → c < length flags → (get_or marks c 0 ≡ 0 → ⊥) → Giver flags fills Room part masses off low c
  pub taker : (c : ℕ) → c < length flags → get_or flags c 0 ≡ 1 → Around (length flags) off low c
  pub apart : (c : ℕ) → c < length flags → get_or flags c 0 ≡ 1 → get_or marks c 0 ≡ 0
  pub returns : (c i : ℕ) → c < length flags → get_or flags c 0 ≡ 1 → Dir 18 i → (get_or marks (c - low + get_or off i 0) 0 ≡ 0 → ⊥)
      → c - low + get_or off i 0 - low + get_or off (d3q19.opp i) 0 ≡ c

-- what the pass that gathers asks: the grid's offsets, and masses of takers in range
pub record Gathering (s : Sides) (flags fills : List ℕ) (parts masses : List ℤ) (marks : List ℕ) : Type 0 where
  pub sides : sides_good s ≡ true
  pub count : length flags ≡ cells_of s
  pub giving : Giving flags fills (RoomOf parts) (part_of parts) masses marks (tab 19 (offset_of s)) (low_of s)
  pub taken : (c : ℕ) → c < length flags → get_or flags c 0 ≡ 1 → Within (get_or masses c (pos 0)) 44826624

-- what the pass that works out the carry asks: marked cells are weighed, with flags all round
pub record Straying (s : Sides) (flags : List ℕ) (parts masses : List ℤ) (marks : List ℕ) : Type 0 where
  pub sides : sides_good s ≡ true
  pub count : length flags ≡ cells_of s
  pub marks-there : length marks ≡ length flags
  pub around : (c : ℕ) → c < length flags → (get_or marks c 0 ≡ 0 → ⊥) → Around (length flags) (tab 19 (offset_of s)) (low_of s) c
  pub weighed : (c : ℕ) → c < length flags → (get_or marks c 0 ≡ 0 → ⊥) → Weighed (RoomOf parts) (part_of parts) masses c
