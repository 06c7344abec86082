-- Whether a neighbour's byte is m: what a loop by offsets finds is what the grid's neighbours have. Assumes nothing.
use mathlib.Core.Path.{◌≡◌, sym, ap, ◌∙◌, subst}
use mathlib.Core.Bool.{Bool, false, ◌||◌, false≢true}
use mathlib.Core.List.{List}
use Prim.Native.Nat.{ℕ, suc, ◌+◌, ◌-◌, ◌≤◌, ◌<◌}
use native.Mathlib.Omega.{arith}
use lib.Dec.{eqb}
use lib.ListN.{length, get_or}
use Rattle.whole.specs.laws.Bools.{never}
use Rattle.whole.specs.Fold.{any, any_dir, tab}
use Rattle.whole.specs.laws.Search.{any_where, any-cong}
use Rattle.grid.specs.declared.Sides.{Sides}
use Rattle.grid.specs.Grid.{grid_of, cells_of}
use Rattle.grid.specs.inner.Passes.{Inner, low_of, offset_of, beside_at, Reach}
use Rattle.grid.proofs.Offsets.{neighbour, near-below}
use Rattle.grid.proofs.Lists.{get_or-there}

pub any_none : (n : ℕ) (f : ℕ → Bool) → ((a : ℕ) → a < n → f a ≡ false) → any n f ≡ false
any_none n f h = never (any n f) (λ e. let w = any_where n f e in false≢true (sym (h w.0 w.1) ∙ w.2))

-- an array of offsets, and the lowest inner cell, as the passes have them
pub record Offsets (s : Sides) (off : List ℕ) (low : ℕ) : Type 0 where
  pub table : off ≡ tab 19 (offset_of s)
  pub lowest : low ≡ low_of s

module _ {s : Sides} {off : List ℕ} {low : ℕ} (o : Offsets s off low) (c : ℕ) (g : Inner s c) where
  pub above : low ≤ c
  above = omega (arith, o.lowest, g.low)

  -- the place that the code computes is the neighbour's, and a cell
  pub place_is : (i : ℕ) → i < 19 → c - low + get_or off i 0 ≡ (grid_of s).near c i
  place_is i h = neighbour s off low c i o.table o.lowest h g.low

  pub place-low : (i : ℕ) → i < 19 → c - low + get_or off i 0 < cells_of s
  place-low i h = subst (λ (m : ℕ). m < cells_of s) (sym (place_is i h)) (near-below s i h c g)

  pub byte-is : (bytes : List ℕ) (d : ℕ) → length bytes ≡ cells_of s → (i : ℕ) → i < 19 → get_or bytes (c - low + get_or off i 0) 0 ≡ get_or bytes ((grid_of s).near c i) d
  byte-is bytes d e i h =
      get_or-there bytes (c - low + get_or off i 0) 0 d (subst (λ (m : ℕ). c - low + get_or off i 0 < m) (sym e) (place-low i h))
      ∙ ap (λ (m : ℕ). get_or bytes m d) (place_is i h)

  pub beside-is : (bytes : List ℕ) (d m : ℕ) → length bytes ≡ cells_of s → beside_at bytes off (c - low) m ≡ any_dir 18 (λ i. eqb (get_or bytes ((grid_of s).near c i) d) m)
  unfolding beside_at
  beside-is bytes d m e =
      any-cong 18 (λ a. eqb (get_or bytes (c - low + get_or off (suc a) 0) 0) m) (λ a. eqb (get_or bytes ((grid_of s).near c (suc a)) d) m)
      (λ a h. ap (λ (x : ℕ). eqb x m) (byte-is bytes d e (suc a) (omega arith)))

  -- what `beside` asks
  pub reach : (bytes : List ℕ) → length bytes ≡ cells_of s → Reach bytes off (c - low)
  reach bytes e = record { all = λ i h. subst (λ (m : ℕ). c - low + get_or off i 0 < m) (sym e) (place-low i h) }
