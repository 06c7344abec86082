-- One step of document 01, cell by cell, over any lattice and grid. All stages read the old state unless said. Assumes nothing.
use Rattle.std.specs.Prelude.{ℕ, zero, suc, ◌+◌, Bool, true, false, ◌&&◌, ◌||◌, not, cond, ℤ, pos, neg_ℤ, ◌+ℤ◌, ◌-ℤ◌, ◌*ℤ◌, eqb}
use Rattle.whole.specs.Fold.{sum, dirs, any_dir, count_dir}
use Rattle.lattice.specs.Lattice.{V3, dot, density, momentum}
use Rattle.lattice.specs.Cell.{cut, floor, dense, slow, gas_pair, exchange, pull, over, under, positive, is_positive, share, fill_of}
use Rattle.lattice.specs.Body.{relaxed_dir, collided_part, equilibrium_dir, equilibrium_part}
use Rattle.grid.specs.State.{State, Scene, by_flag, liquid}

-- ---- names for what a stage reads

abbrev pub flag_at : Scene → ℕ → ℕ
flag_at S c = S.old.flag c

abbrev pub part_at : Scene → ℕ → ℕ → ℤ
part_at S c k = S.old.part c k

-- the neighbour of c in direction i
abbrev pub near : Scene → ℕ → ℕ → ℕ
near S c i = S.grid.near c i

abbrev pub opposite : Scene → ℕ → ℕ
opposite S i = S.lat.opp i

-- over the directions of the lattice
abbrev pub over-dirs : Scene → (ℕ → ℤ) → ℤ
over-dirs S f = dirs S.lat.q f

abbrev pub beside : Scene → (ℕ → Bool) → ℕ → Bool
beside S test c = any_dir S.lat.q (λ i. test (near S c i))

-- ---- the normal n of a cell, which stages 1 and 6 read

-- the old fill that c sees at d; a wall counts with the old fill of c itself
unfoldable pub seen : Scene → ℕ → ℕ → ℤ
seen S c d = by_flag (flag_at S d) (pos (S.old.fill d)) (pos (S.old.fill d)) (pos (S.old.fill d)) (pos (S.old.fill c))

-- per axis: fill at minus one less fill at plus one
unfoldable pub normal : Scene → ℕ → V3
normal S c = record {
  x = seen S c (near S c S.lat.xm) -ℤ seen S c (near S c S.lat.xp);
  y = seen S c (near S c S.lat.ym) -ℤ seen S c (near S c S.lat.yp);
  z = seen S c (near S c S.lat.zm) -ℤ seen S c (near S c S.lat.zp);
}

-- ---- 1 streaming

unfoldable pub old_density : Scene → ℕ → ℤ
old_density S c = density S.lat (part_at S c)

unfoldable pub old_momentum : Scene → ℕ → V3
old_momentum S c = momentum S.lat (part_at S c)

-- c is interface, and n·e of direction i is positive
unfoldable pub leans_to : Scene → ℕ → ℕ → Bool
leans_to S c i = eqb (flag_at S c) 1 && is_positive (dot (normal S c) (S.lat.e i))

-- the part that arrives at c from direction i is rebuilt: there is an empty cell, or a liquid one to which c leans
unfoldable pub rebuilds : Scene → ℕ → ℕ → Bool
rebuilds S c i = by_flag (flag_at S (near S c i)) true (leans_to S c i) (leans_to S c i) false

-- what is rebuilt: the gas's two opposite parts less the cell's own part i
unfoldable pub rebuilt_part : Scene → ℕ → ℕ → ℤ
rebuilt_part S c i =
    gas_pair (S.lat.weight i) (old_density S c) (dot (S.lat.e i) (old_momentum S c)) (dot (old_momentum S c) (old_momentum S c)) -ℤ part_at S c i

-- what comes from direction i, whose opposite is k: a liquid neighbour's part k, or at a wall the cell's own part i
unfoldable pub arrives : Scene → ℕ → ℕ → ℕ → ℤ
arrives S c i k =
    cond (rebuilds S c i) (rebuilt_part S c i) (by_flag (flag_at S (near S c i)) (pos 0) (part_at S (near S c i) k) (part_at S (near S c i) k) (part_at S c i))

-- part 0 stays; part k comes from the opposite of k
unfoldable pub streamed : Scene → ℕ → ℕ → ℤ
streamed S c zero = part_at S c zero
streamed S c (suc a) = arrives S c (opposite S (suc a)) (suc a)

-- ---- 2 mass exchange

-- d: the neighbour's part k less the cell's own part i
unfoldable pub difference : Scene → ℕ → ℕ → ℤ
difference S c i = part_at S (near S c i) (opposite S i) -ℤ part_at S c i

-- what an interface cell gains from its neighbour in direction i
unfoldable pub traded : Scene → ℕ → ℕ → ℤ
traded S c i =
    by_flag (flag_at S (near S c i)) (pos 0) (exchange (S.old.fill c + S.old.fill (near S c i)) (difference S c i)) (difference S c i) (pos 0)

unfoldable pub traded_mass : Scene → ℕ → ℤ
traded_mass S c = S.old.mass c +ℤ over-dirs S (traded S c)

-- ---- 3 gravity and test

-- ρ'
unfoldable pub streamed_density : Scene → ℕ → ℤ
streamed_density S c = density S.lat (streamed S c)

-- j' with gravity added to each component
unfoldable pub streamed_momentum : Scene → ℕ → V3
streamed_momentum S c = record {
  x = (momentum S.lat (streamed S c)).x +ℤ pull (streamed_density S c) S.g.x;
  y = (momentum S.lat (streamed S c)).y +ℤ pull (streamed_density S c) S.g.y;
  z = (momentum S.lat (streamed S c)).z +ℤ pull (streamed_density S c) S.g.z;
}

-- ρ' outside its range, or 9|j'|² > ρ'²: refusal 7
unfoldable pub unsteady : Scene → ℕ → Bool
unsteady S c =
    liquid (flag_at S c) && not (dense (streamed_density S c) && slow (streamed_density S c) (dot (streamed_momentum S c) (streamed_momentum S c)))

-- ---- 4 collision

-- part i of 1..q relaxed; all parts, of which part 0 becomes ρ' less the others
abbrev pub collided_dir : Scene → ℕ → ℕ → ℤ
collided_dir S c i = relaxed_dir S.lat (streamed_density S c) (streamed_momentum S c) (S.relax c) (streamed S c) i

unfoldable pub collided : Scene → ℕ → ℕ → ℤ
collided S c k = collided_part S.lat (streamed_density S c) (streamed_momentum S c) (S.relax c) (streamed S c) k

-- ---- 5 conversion

unfoldable pub filled : Scene → ℕ → Bool
filled S c = by_flag (flag_at S c) false (over (traded_mass S c) (streamed_density S c)) false false

unfoldable pub beside_filled : Scene → ℕ → Bool
beside_filled S c = beside S (filled S) c

-- emptied, and no neighbour is filled
unfoldable pub emptied : Scene → ℕ → Bool
emptied S c = by_flag (flag_at S c) false (under (traded_mass S c) (streamed_density S c) && not (beside_filled S c)) false false

unfoldable pub beside_emptied : Scene → ℕ → Bool
beside_emptied S c = beside S (emptied S) c

-- the new flag: empty cells beside a filled one become interface, filled cells fluid, emptied cells empty, fluid cells beside an emptied one interface
abbrev pub flag_after : ℕ → Bool → Bool → Bool → Bool → ℕ
flag_after f beside-filled is-filled is-emptied beside-emptied =
    by_flag f (cond beside-filled 1 0) (cond is-filled 2 (cond is-emptied 0 1)) (cond beside-emptied 1 2) 3

unfoldable pub new_flag : Scene → ℕ → ℕ
new_flag S c = flag_after (flag_at S c) (beside_filled S c) (filled S c) (emptied S c) (beside_emptied S c)

-- the mass before any excess arrives
unfoldable pub base_mass : Scene → ℕ → ℤ
base_mass S c =
    by_flag (flag_at S c) (pos 0) (cond (filled S c) (streamed_density S c) (cond (emptied S c) (pos 0) (traded_mass S c))) (streamed_density S c) (pos 0)

-- over the neighbours that were liquid in the old state: how many, and a sum
unfoldable pub liquid_near : Scene → ℕ → ℕ
liquid_near S c = count_dir S.lat.q (λ i. liquid (flag_at S (near S c i)))

unfoldable pub near_sum : Scene → ℕ → (ℕ → ℤ) → ℤ
near_sum S c f = over-dirs S (λ i. cond (liquid (flag_at S (near S c i))) (f (near S c i)) (pos 0))

-- a new interface cell: ρ the floor of the mean ρ', j the cut mean j'
unfoldable pub born_density : Scene → ℕ → ℤ
born_density S c = floor (near_sum S c (streamed_density S)) (liquid_near S c)

unfoldable pub born_momentum : Scene → ℕ → V3
born_momentum S c = record {
  x = cut (near_sum S c (λ d. (streamed_momentum S d).x)) (pos (liquid_near S c));
  y = cut (near_sum S c (λ d. (streamed_momentum S d).y)) (pos (liquid_near S c));
  z = cut (near_sum S c (λ d. (streamed_momentum S d).z)) (pos (liquid_near S c));
}

-- its parts at their equilibrium, part 0 the rest
abbrev pub born_dir : Scene → ℕ → ℕ → ℤ
born_dir S c i = equilibrium_dir S.lat (born_density S c) (born_momentum S c) i

unfoldable pub born : Scene → ℕ → ℕ → ℤ
born S c k = equilibrium_part S.lat (born_density S c) (born_momentum S c) k

unfoldable pub new_part : Scene → ℕ → ℕ → ℤ
new_part S c k =
    by_flag (flag_at S c) (cond (beside_filled S c) (born S c k) (pos 0)) (cond (emptied S c) (pos 0) (collided S c k)) (collided S c k) (pos 0)

-- ---- 6 excess

unfoldable pub excess : Scene → ℕ → ℤ
excess S c = cond (filled S c) (traded_mass S c -ℤ streamed_density S c) (cond (emptied S c) (traded_mass S c) (pos 0))

-- targets are neighbours whose new flag is interface
unfoldable pub target : Scene → ℕ → ℕ → Bool
target S c k = eqb (new_flag S (near S c k)) 1

unfoldable pub any_target : Scene → ℕ → Bool
any_target S c = any_dir S.lat.q (target S c)

-- n·e for filled cells, −n·e for emptied
unfoldable pub lean : Scene → ℕ → ℕ → ℤ
lean S c k = cond (filled S c) (dot (normal S c) (S.lat.e k)) (neg_ℤ (dot (normal S c) (S.lat.e k)))

-- a target's weight, where positive
unfoldable pub lean_weight : Scene → ℕ → ℕ → ℤ
lean_weight S c k = cond (target S c k) (positive (lean S c k)) (pos 0)

-- if the weights of all targets are 0, each target weighs 1
unfoldable pub share_weight : Scene → ℕ → ℕ → ℤ
share_weight S c k = cond (is_positive (over-dirs S (lean_weight S c))) (lean_weight S c k) (cond (target S c k) (pos 1) (pos 0))

abbrev pub converted : Scene → ℕ → Bool
converted S c = filled S c || emptied S c

-- what converted cell c gives in direction k, and, with no target, to the carry
unfoldable pub gift : Scene → ℕ → ℕ → ℤ
gift S c k = cond (converted S c && any_target S c) (share S.lat.q (excess S c) (share_weight S c) k) (pos 0)

unfoldable pub to_carry : Scene → ℕ → ℤ
to_carry S c = cond (converted S c && not (any_target S c)) (excess S c) (pos 0)

-- what the neighbours give to c
unfoldable pub received : Scene → ℕ → ℤ
received S c = over-dirs S (λ i. gift S (near S c i) (opposite S i))

unfoldable pub new_mass : Scene → ℕ → ℤ
new_mass S c = base_mass S c +ℤ cond (eqb (new_flag S c) 1) (received S c) (pos 0)

unfoldable pub new_carry : Scene → ℤ
new_carry S = S.old.carry +ℤ sum S.grid.cells (to_carry S)

-- ---- 7 fills

-- wall and empty 0, fluid 65,536, interface by mass and density
unfoldable pub fill_for : ℕ → ℤ → ℤ → ℕ
fill_for f m ρ = by_flag f 0 (fill_of m ρ) 65536 0

unfoldable pub new_fill : Scene → ℕ → ℕ
new_fill S c = fill_for (new_flag S c) (new_mass S c) (density S.lat (new_part S c))

-- ---- the next state

unfoldable pub next : Scene → State
next S = record { flag = new_flag S; part = new_part S; mass = new_mass S; fill = new_fill S; carry = new_carry S }

-- names every definition of this file: whoever unfolds this computes with all of them
unfoldable pub open_step : Unit {0}
unfolding seen normal old_density old_momentum leans_to rebuilds rebuilt_part arrives streamed difference traded traded_mass streamed_density streamed_momentum unsteady collided relaxed_dir collided_part filled beside_filled emptied beside_emptied new_flag base_mass liquid_near near_sum born_density born_momentum born equilibrium_dir equilibrium_part new_part excess target any_target lean lean_weight share_weight gift to_carry received new_mass new_carry fill_for new_fill next
open_step = tt
