-- A grid's offsets are mirrored: opposite neighbours of the lowest inner cell lie as far before it as after it. One test of arithmetic for all pairs.
-- And what the step's grid says of an inner cell is what the functions of one cell ask. Assumes nothing.
use mathlib.Core.Path.{◌≡◌, sym, ap, ap₂, ◌∙◌, subst}
use mathlib.Core.Bool.{true}
use mathlib.Core.List.{List}
use Prim.Native.Nat.{ℕ, ◌+◌, ◌≤◌, ◌<◌}
use native.Mathlib.Omega.{arith}
use lib.ListN.{get_or}
use Rattle.whole.specs.Fold.{tab, open-fold, Dir}
use Rattle.whole.specs.laws.Tab.{get_or-tab}
use Rattle.lattice.specs.Lattice.{pair_opp, open-lattice}
use Rattle.grid.specs.declared.Sides.{Sides}
use Rattle.grid.specs.Grid.{cells_of, grid_of, toward}
use Rattle.grid.specs.State.{liquid}
use Rattle.grid.specs.inner.Passes.{Inner, low_of, offset_of}
use Rattle.grid.specs.inner.Sight.{Around}
use Rattle.grid.proofs.Beside.{Offsets, above, place_is, place-low}
use Rattle.grid.proofs.Offsets.{near-self}
use Rattle.grid.proofs.Offsets.{listed}
use Rattle.arrivals.specs.inner.Sources.{Mirrored, Immersed, Enclosed}
use Rattle.arrivals.proofs.Arrivals.{opposite-low}

sums : (s : Sides) → tab 19 (λ i. offset_of s i + offset_of s (pair_opp i)) ≡ tab 19 (λ i. low_of s + low_of s)
unfolding offset_of toward low_of open-lattice open-fold
sums s = listed _ _ (omega arith)

pub mirrored : (s : Sides) (off : List ℕ) (low : ℕ) → off ≡ tab 19 (offset_of s) → low ≡ low_of s → low ≤ 262144 → Mirrored off low
mirrored s off low e l h = record {
  pair = λ i k.
      ap₂ (λ (x y : ℕ). x + y) (entry i k) (entry (pair_opp i) (opposite-low i k))
      ∙ sym (get_or-tab 19 (λ i. offset_of s i + offset_of s (pair_opp i)) 0 i k)
      ∙ ap (λ (x : List ℕ). get_or x i 0) (sums s)
      ∙ get_or-tab 19 (λ i. low_of s + low_of s) 0 i k
      ∙ ap₂ (λ (x y : ℕ). x + y) (sym l) (sym l);
  few = h;
}
  where
    entry : (i : ℕ) → i < 19 → get_or off i 0 ≡ offset_of s i
    entry i k = ap (λ (x : List ℕ). get_or x i 0) e ∙ get_or-tab 19 (offset_of s) 0 i k

module _ {s : Sides} {off : List ℕ} {low : ℕ} (o : Offsets s off low) (c : ℕ) (g : Inner s c) where
  -- an inner cell has its neighbours around it
  pub around : Around (cells_of s) off low c
  around = record { is-cell = omega (arith, g.high); from = above o c g; each = place-low o c g; self = place_is o c g 0 (omega arith) ∙ near-self s c }

  -- a fluid cell whose neighbours are all liquid, as pass 0 marks it
  pub immersed : (flags : List ℕ) → get_or flags c 3 ≡ 2 → ((i : ℕ) → Dir 18 i → liquid (get_or flags ((grid_of s).near c i) 3) ≡ true) → Immersed flags off low c
  immersed flags fluid near = record {
    fluid = fluid;
    each = λ i z h. subst (λ (n : ℕ). liquid (get_or flags n 3) ≡ true) (sym (place_is o c g i h)) (near i (record { some = z; most = omega arith }));
  }

  -- a fluid cell in a closed layer
  pub enclosed : (flags : List ℕ) → ((i : ℕ) → Dir 18 i → get_or flags c 3 ≡ 2 → get_or flags ((grid_of s).near c i) 3 ≡ 0 → ⊥) → Enclosed flags off low c
  enclosed flags closed f i z h e = closed i (record { some = z; most = omega arith }) f (ap (λ (n : ℕ). get_or flags n 3) (sym (place_is o c g i h)) ∙ e)
