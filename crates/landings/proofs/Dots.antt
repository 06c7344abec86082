-- e·j of each direction in a flow's components, as the ends take it. Assumes nothing.
use mathlib.Core.Path.{◌≡◌}
use mathlib.Core.List.{[], ◌∷◌}
use lib.IntN.{neg_ℤ, ◌+ℤ◌, ◌-ℤ◌}
use Rattle.whole.specs.laws.Ring.{ring-by, quotes}
use Rattle.lattice.specs.declared.Flow.{Flow}
use Rattle.lattice.specs.Lattice.{dot, d3q19, open-lattice}
use Rattle.lattice.specs.inner.Held.{vec}

module _ (v : Flow) where
  pub dot1 : dot (d3q19.e 1) (vec v) ≡ v.x
  unfolding open-lattice
  dot1 = ring-by (v.x ∷ v.y ∷ v.z ∷ []) (search quotes depth 20) (search quotes depth 20) tt

  pub dot2 : dot (d3q19.e 2) (vec v) ≡ neg_ℤ v.x
  unfolding open-lattice
  dot2 = ring-by (v.x ∷ v.y ∷ v.z ∷ []) (search quotes depth 20) (search quotes depth 20) tt

  pub dot3 : dot (d3q19.e 3) (vec v) ≡ v.y
  unfolding open-lattice
  dot3 = ring-by (v.x ∷ v.y ∷ v.z ∷ []) (search quotes depth 20) (search quotes depth 20) tt

  pub dot4 : dot (d3q19.e 4) (vec v) ≡ neg_ℤ v.y
  unfolding open-lattice
  dot4 = ring-by (v.x ∷ v.y ∷ v.z ∷ []) (search quotes depth 20) (search quotes depth 20) tt

  pub dot5 : dot (d3q19.e 5) (vec v) ≡ v.z
  unfolding open-lattice
  dot5 = ring-by (v.x ∷ v.y ∷ v.z ∷ []) (search quotes depth 20) (search quotes depth 20) tt

  pub dot6 : dot (d3q19.e 6) (vec v) ≡ neg_ℤ v.z
  unfolding open-lattice
  dot6 = ring-by (v.x ∷ v.y ∷ v.z ∷ []) (search quotes depth 20) (search quotes depth 20) tt

  pub dot7 : dot (d3q19.e 7) (vec v) ≡ v.x +ℤ v.y
  unfolding open-lattice
  dot7 = ring-by (v.x ∷ v.y ∷ v.z ∷ []) (search quotes depth 20) (search quotes depth 20) tt

  pub dot8 : dot (d3q19.e 8) (vec v) ≡ neg_ℤ (v.x +ℤ v.y)
  unfolding open-lattice
  dot8 = ring-by (v.x ∷ v.y ∷ v.z ∷ []) (search quotes depth 20) (search quotes depth 20) tt

  pub dot9 : dot (d3q19.e 9) (vec v) ≡ v.x -ℤ v.y
  unfolding open-lattice
  dot9 = ring-by (v.x ∷ v.y ∷ v.z ∷ []) (search quotes depth 20) (search quotes depth 20) tt

  pub dot10 : dot (d3q19.e 10) (vec v) ≡ neg_ℤ (v.x -ℤ v.y)
  unfolding open-lattice
  dot10 = ring-by (v.x ∷ v.y ∷ v.z ∷ []) (search quotes depth 20) (search quotes depth 20) tt

  pub dot11 : dot (d3q19.e 11) (vec v) ≡ v.y +ℤ v.z
  unfolding open-lattice
  dot11 = ring-by (v.x ∷ v.y ∷ v.z ∷ []) (search quotes depth 20) (search quotes depth 20) tt

  pub dot12 : dot (d3q19.e 12) (vec v) ≡ neg_ℤ (v.y +ℤ v.z)
  unfolding open-lattice
  dot12 = ring-by (v.x ∷ v.y ∷ v.z ∷ []) (search quotes depth 20) (search quotes depth 20) tt

  pub dot13 : dot (d3q19.e 13) (vec v) ≡ v.y -ℤ v.z
  unfolding open-lattice
  dot13 = ring-by (v.x ∷ v.y ∷ v.z ∷ []) (search quotes depth 20) (search quotes depth 20) tt

  pub dot14 : dot (d3q19.e 14) (vec v) ≡ neg_ℤ (v.y -ℤ v.z)
  unfolding open-lattice
  dot14 = ring-by (v.x ∷ v.y ∷ v.z ∷ []) (search quotes depth 20) (search quotes depth 20) tt

  pub dot15 : dot (d3q19.e 15) (vec v) ≡ v.x +ℤ v.z
  unfolding open-lattice
  dot15 = ring-by (v.x ∷ v.y ∷ v.z ∷ []) (search quotes depth 20) (search quotes depth 20) tt

  pub dot16 : dot (d3q19.e 16) (vec v) ≡ neg_ℤ (v.x +ℤ v.z)
  unfolding open-lattice
  dot16 = ring-by (v.x ∷ v.y ∷ v.z ∷ []) (search quotes depth 20) (search quotes depth 20) tt

  pub dot17 : dot (d3q19.e 17) (vec v) ≡ v.x -ℤ v.z
  unfolding open-lattice
  dot17 = ring-by (v.x ∷ v.y ∷ v.z ∷ []) (search quotes depth 20) (search quotes depth 20) tt

  pub dot18 : dot (d3q19.e 18) (vec v) ≡ neg_ℤ (v.x -ℤ v.z)
  unfolding open-lattice
  dot18 = ring-by (v.x ∷ v.y ∷ v.z ∷ []) (search quotes depth 20) (search quotes depth 20) tt
