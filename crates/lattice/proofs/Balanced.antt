-- The equilibrium adds up to the density: over all directions and rest, w·Q adds up to 72ρ². One ring identity for each lattice. Assumes nothing.
use mathlib.Core.Path.{◌≡◌}
use mathlib.Core.List.{[], ◌∷◌}
use Prim.Native.Nat.{suc}
use lib.IntN.{ℤ, pos, ◌*ℤ◌}
use Rattle.whole.specs.Fold.{sum, open-fold}
use Rattle.whole.specs.laws.Ring.{ring-by, quotes}
use Rattle.lattice.specs.Lattice.{V3, dot, Lattice, d3q19, d2q9, open-lattice}
use Rattle.lattice.specs.Cell.{quad, open-cell}

-- of a momentum that the lattice can carry
abbrev pub Balanced : Lattice → V3 → Type 0
Balanced L j = (ρ : ℤ) → sum (suc L.q) (λ k. pos (L.weight k) *ℤ quad ρ (dot (L.e k) j) (dot j j)) ≡ pos 72 *ℤ (ρ *ℤ ρ)

pub balanced19 : (j : V3) → Balanced d3q19 j
unfolding open-fold open-lattice open-cell
balanced19 j ρ = ring-by (ρ ∷ j.x ∷ j.y ∷ j.z ∷ []) (search quotes depth 60 fits 5000) (search quotes depth 20) tt

-- the flume's momentum has no y
pub balanced9 : (x z : ℤ) → Balanced d2q9 (record { x = x; y = pos 0; z = z })
unfolding open-fold open-lattice open-cell
balanced9 x z ρ = ring-by (ρ ∷ x ∷ z ∷ []) (search quotes depth 60 fits 5000) (search quotes depth 20) tt
