-- The nine pairs of the box: each e·j is in range, and the code's form of the pair is the sum of its two parts of the equilibrium. Assumes nothing.
use mathlib.Core.Path.{◌≡◌, refl, ◌∙◌, ap}
use mathlib.Core.Bool.{true}
use mathlib.Core.List.{List, [], ◌∷◌}
use Prim.Native.Nat.{ℕ, ◌+◌, ◌*◌, ◌≤◌}
use native.Mathlib.Omega.{arith}
use lib.Dec.{lit<}
use lib.IntN.{ℤ, nat_abs, ◌+ℤ◌, ◌-ℤ◌, ◌*ℤ◌}
use mir.Syntax.{w32}
use mir.Val.{to_z, of_z}
use Rattle.whole.specs.laws.Ring.{ring-by, quotes}
use Rattle.whole.specs.laws.Machine.{Within, v32, reads_as}
use Rattle.lattice.specs.declared.Flow.{Flow}
use Rattle.lattice.specs.Lattice.{Lattice, d3q19, open-lattice}
use Rattle.lattice.specs.inner.Held.{parts_of, vec, steady_flow}
use Rattle.lattice.specs.Body.{equilibrium_dir}
use Rattle.lattice.proofs.Reading.{inside}
use Rattle.turbulence.specs.declared.stress.Shared.{Shared}
use Rattle.turbulence.specs.Turbulence.{square, beyond}
use Rattle.turbulence.specs.inner.Post.{SharedIs, Apt, pair_of, both}
use Rattle.turbulence.proofs.Steady.{sum-square, difference-square, slow-is, apt, pair_is}

module _ (v : Flow) (steady : steady_flow v ≡ true) (k : Shared) (is : SharedIs v k) where
  pub x-few : 9 * square v.x ≤ 2 * (nat_abs v.rho * nat_abs v.rho)
  x-few = omega (arith, slow-is v steady)

  pub x-apt : Apt v.x k
  x-apt = apt v steady k is v.x x-few

  pub x-pair : pair_of v.x k 6 ≡ equilibrium_dir d3q19 v.rho (vec v) 1 +ℤ equilibrium_dir d3q19 v.rho (vec v) 2
  unfolding open-lattice
  x-pair =
      pair_is v steady k is v.x x-few d3q19 1 2 2 6 (lit< tt) refl refl refl
      (ring-by (v.x ∷ v.y ∷ v.z ∷ []) (search quotes depth 20) (search quotes depth 20) tt)
      (ring-by (v.x ∷ v.y ∷ v.z ∷ []) (search quotes depth 20) (search quotes depth 20) tt)

  y-few : 9 * square v.y ≤ 2 * (nat_abs v.rho * nat_abs v.rho)
  y-few = omega (arith, slow-is v steady)

  pub y-apt : Apt v.y k
  y-apt = apt v steady k is v.y y-few

  pub y-pair : pair_of v.y k 6 ≡ equilibrium_dir d3q19 v.rho (vec v) 3 +ℤ equilibrium_dir d3q19 v.rho (vec v) 4
  unfolding open-lattice
  y-pair =
      pair_is v steady k is v.y y-few d3q19 3 4 2 6 (lit< tt) refl refl refl
      (ring-by (v.x ∷ v.y ∷ v.z ∷ []) (search quotes depth 20) (search quotes depth 20) tt)
      (ring-by (v.x ∷ v.y ∷ v.z ∷ []) (search quotes depth 20) (search quotes depth 20) tt)

  pub z-few : 9 * square v.z ≤ 2 * (nat_abs v.rho * nat_abs v.rho)
  z-few = omega (arith, slow-is v steady)

  pub z-apt : Apt v.z k
  z-apt = apt v steady k is v.z z-few

  pub z-pair : pair_of v.z k 6 ≡ equilibrium_dir d3q19 v.rho (vec v) 5 +ℤ equilibrium_dir d3q19 v.rho (vec v) 6
  unfolding open-lattice
  z-pair =
      pair_is v steady k is v.z z-few d3q19 5 6 2 6 (lit< tt) refl refl refl
      (ring-by (v.x ∷ v.y ∷ v.z ∷ []) (search quotes depth 20) (search quotes depth 20) tt)
      (ring-by (v.x ∷ v.y ∷ v.z ∷ []) (search quotes depth 20) (search quotes depth 20) tt)

  xy-few : 9 * square (v.x +ℤ v.y) ≤ 2 * (nat_abs v.rho * nat_abs v.rho)
  xy-few = omega (arith, slow-is v steady, sum-square v.x v.y)

  pub xy-apt : Apt (v.x +ℤ v.y) k
  xy-apt = apt v steady k is (v.x +ℤ v.y) xy-few

  pub xy-pair : pair_of (v.x +ℤ v.y) k 12 ≡ equilibrium_dir d3q19 v.rho (vec v) 7 +ℤ equilibrium_dir d3q19 v.rho (vec v) 8
  unfolding open-lattice
  xy-pair =
      pair_is v steady k is (v.x +ℤ v.y) xy-few d3q19 7 8 1 12 (lit< tt) refl refl refl
      (ring-by (v.x ∷ v.y ∷ v.z ∷ []) (search quotes depth 20) (search quotes depth 20) tt)
      (ring-by (v.x ∷ v.y ∷ v.z ∷ []) (search quotes depth 20) (search quotes depth 20) tt)

  yx-few : 9 * square (v.x -ℤ v.y) ≤ 2 * (nat_abs v.rho * nat_abs v.rho)
  yx-few = omega (arith, slow-is v steady, difference-square v.x v.y)

  pub yx-apt : Apt (v.x -ℤ v.y) k
  yx-apt = apt v steady k is (v.x -ℤ v.y) yx-few

  pub yx-pair : pair_of (v.x -ℤ v.y) k 12 ≡ equilibrium_dir d3q19 v.rho (vec v) 9 +ℤ equilibrium_dir d3q19 v.rho (vec v) 10
  unfolding open-lattice
  yx-pair =
      pair_is v steady k is (v.x -ℤ v.y) yx-few d3q19 9 10 1 12 (lit< tt) refl refl refl
      (ring-by (v.x ∷ v.y ∷ v.z ∷ []) (search quotes depth 20) (search quotes depth 20) tt)
      (ring-by (v.x ∷ v.y ∷ v.z ∷ []) (search quotes depth 20) (search quotes depth 20) tt)

  yz-few : 9 * square (v.y +ℤ v.z) ≤ 2 * (nat_abs v.rho * nat_abs v.rho)
  yz-few = omega (arith, slow-is v steady, sum-square v.y v.z)

  pub yz-apt : Apt (v.y +ℤ v.z) k
  yz-apt = apt v steady k is (v.y +ℤ v.z) yz-few

  pub yz-pair : pair_of (v.y +ℤ v.z) k 12 ≡ equilibrium_dir d3q19 v.rho (vec v) 11 +ℤ equilibrium_dir d3q19 v.rho (vec v) 12
  unfolding open-lattice
  yz-pair =
      pair_is v steady k is (v.y +ℤ v.z) yz-few d3q19 11 12 1 12 (lit< tt) refl refl refl
      (ring-by (v.x ∷ v.y ∷ v.z ∷ []) (search quotes depth 20) (search quotes depth 20) tt)
      (ring-by (v.x ∷ v.y ∷ v.z ∷ []) (search quotes depth 20) (search quotes depth 20) tt)

  zy-few : 9 * square (v.y -ℤ v.z) ≤ 2 * (nat_abs v.rho * nat_abs v.rho)
  zy-few = omega (arith, slow-is v steady, difference-square v.y v.z)

  pub zy-apt : Apt (v.y -ℤ v.z) k
  zy-apt = apt v steady k is (v.y -ℤ v.z) zy-few

  pub zy-pair : pair_of (v.y -ℤ v.z) k 12 ≡ equilibrium_dir d3q19 v.rho (vec v) 13 +ℤ equilibrium_dir d3q19 v.rho (vec v) 14
  unfolding open-lattice
  zy-pair =
      pair_is v steady k is (v.y -ℤ v.z) zy-few d3q19 13 14 1 12 (lit< tt) refl refl refl
      (ring-by (v.x ∷ v.y ∷ v.z ∷ []) (search quotes depth 20) (search quotes depth 20) tt)
      (ring-by (v.x ∷ v.y ∷ v.z ∷ []) (search quotes depth 20) (search quotes depth 20) tt)

  pub xz-few : 9 * square (v.x +ℤ v.z) ≤ 2 * (nat_abs v.rho * nat_abs v.rho)
  xz-few = omega (arith, slow-is v steady, sum-square v.x v.z)

  pub xz-apt : Apt (v.x +ℤ v.z) k
  xz-apt = apt v steady k is (v.x +ℤ v.z) xz-few

  pub xz-pair : pair_of (v.x +ℤ v.z) k 12 ≡ equilibrium_dir d3q19 v.rho (vec v) 15 +ℤ equilibrium_dir d3q19 v.rho (vec v) 16
  unfolding open-lattice
  xz-pair =
      pair_is v steady k is (v.x +ℤ v.z) xz-few d3q19 15 16 1 12 (lit< tt) refl refl refl
      (ring-by (v.x ∷ v.y ∷ v.z ∷ []) (search quotes depth 20) (search quotes depth 20) tt)
      (ring-by (v.x ∷ v.y ∷ v.z ∷ []) (search quotes depth 20) (search quotes depth 20) tt)

  pub zx-few : 9 * square (v.x -ℤ v.z) ≤ 2 * (nat_abs v.rho * nat_abs v.rho)
  zx-few = omega (arith, slow-is v steady, difference-square v.x v.z)

  pub zx-apt : Apt (v.x -ℤ v.z) k
  zx-apt = apt v steady k is (v.x -ℤ v.z) zx-few

  pub zx-pair : pair_of (v.x -ℤ v.z) k 12 ≡ equilibrium_dir d3q19 v.rho (vec v) 17 +ℤ equilibrium_dir d3q19 v.rho (vec v) 18
  unfolding open-lattice
  zx-pair =
      pair_is v steady k is (v.x -ℤ v.z) zx-few d3q19 17 18 1 12 (lit< tt) refl refl refl
      (ring-by (v.x ∷ v.y ∷ v.z ∷ []) (search quotes depth 20) (search quotes depth 20) tt)
      (ring-by (v.x ∷ v.y ∷ v.z ∷ []) (search quotes depth 20) (search quotes depth 20) tt)

  -- what a pair of f holds beyond its equilibrium, as the code takes it: m is the machine's e·j and e its equilibrium
  pub entry : (L : Lattice) (f : List ℤ) (h n : ℕ) (d m : ℤ) {e s : ℤ} → pair_of d k n ≡ equilibrium_dir L v.rho (vec v) (2 * h + 1) +ℤ equilibrium_dir L v.rho (vec v) (2 * h + 2)
      → e ≡ pair_of m k n → Within e 2359296 → s ≡ both (parts_of f) h -ℤ to_z w32 (of_z w32 e) → m ≡ d → s ≡ both (beyond L v.rho (vec v) (parts_of f)) h
  unfolding beyond
  entry L f h n d m pair is-pair small is-rest is-dot =
      is-rest
      ∙ ap (λ (z : ℤ). both (parts_of f) h -ℤ z) (reads_as (v32 (inside small)) tt ∙ is-pair ∙ ap (λ (z : ℤ). pair_of z k n) is-dot ∙ pair)
      ∙ apart (parts_of f (2 * h + 1)) (parts_of f (2 * h + 2)) (equilibrium_dir L v.rho (vec v) (2 * h + 1)) (equilibrium_dir L v.rho (vec v) (2 * h + 2))
    where
      apart : (a b s t : ℤ) → a +ℤ b -ℤ (s +ℤ t) ≡ a -ℤ s +ℤ (b -ℤ t)
      apart a b s t = ring-by (a ∷ b ∷ s ∷ t ∷ []) (search quotes depth 20) (search quotes depth 20) tt
