-- The flume's four pairs among the nine: each is the sum of its two parts of the equilibrium, at weight 4 or 1, and an idle pair holds nothing. Assumes nothing.
use mathlib.Core.Path.{◌≡◌, refl, ap, ap₂, ◌∙◌}
use mathlib.Core.Bool.{true}
use mathlib.Core.List.{List, [], ◌∷◌}
use Prim.Native.Nat.{ℕ, ◌+◌, ◌*◌}
use lib.Dec.{lit<}
use lib.IntN.{ℤ, pos, ◌+ℤ◌, ◌-ℤ◌}
use Rattle.whole.specs.laws.Ring.{ring-by, quotes}
use Rattle.lattice.specs.declared.Flow.{Flow}
use Rattle.lattice.specs.Lattice.{V3, dot, d2q9, open-lattice}
use Rattle.lattice.specs.Cell.{cut_equilibrium, quad}
use Rattle.lattice.specs.inner.Held.{parts_of, vec, steady_flow}
use Rattle.lattice.specs.Body.{equilibrium_dir}
use Rattle.flume.specs.inner.Spread.{narrow, idle, spread, Idle, spread_lattice}
use Rattle.flume.proofs.Places.{is-idle, spread_none}
use Rattle.flume.proofs.Turning.{equilibrium-none}
use Rattle.nine.specs.inner.Cells.{Quiet}
use Rattle.turbulence.specs.declared.stress.Shared.{Shared}
use Rattle.turbulence.specs.Turbulence.{beyond}
use Rattle.turbulence.specs.inner.Post.{SharedIs, pair_of, both}
use Rattle.turbulence.proofs.Steady.{pair_is}
use Rattle.turbulence.proofs.Nines.{x-few, z-few, xz-few, zx-few}

module _ (v : Flow) (steady : steady_flow v ≡ true) (k : Shared) (is : SharedIs v k) where
  pub x-pair : pair_of v.x k 3 ≡ equilibrium_dir spread_lattice v.rho (vec v) 1 +ℤ equilibrium_dir spread_lattice v.rho (vec v) 2
  unfolding open-lattice spread idle narrow
  x-pair =
      pair_is v steady k is v.x (x-few v steady k is) spread_lattice 1 2 4 3 (lit< tt) refl refl refl
      (ring-by (v.x ∷ v.y ∷ v.z ∷ []) (search quotes depth 20) (search quotes depth 20) tt)
      (ring-by (v.x ∷ v.y ∷ v.z ∷ []) (search quotes depth 20) (search quotes depth 20) tt)

  pub z-pair : pair_of v.z k 3 ≡ equilibrium_dir spread_lattice v.rho (vec v) 5 +ℤ equilibrium_dir spread_lattice v.rho (vec v) 6
  unfolding open-lattice spread idle narrow
  z-pair =
      pair_is v steady k is v.z (z-few v steady k is) spread_lattice 5 6 4 3 (lit< tt) refl refl refl
      (ring-by (v.x ∷ v.y ∷ v.z ∷ []) (search quotes depth 20) (search quotes depth 20) tt)
      (ring-by (v.x ∷ v.y ∷ v.z ∷ []) (search quotes depth 20) (search quotes depth 20) tt)

  pub xz-pair : pair_of (v.x +ℤ v.z) k 12 ≡ equilibrium_dir spread_lattice v.rho (vec v) 15 +ℤ equilibrium_dir spread_lattice v.rho (vec v) 16
  unfolding open-lattice spread idle narrow
  xz-pair =
      pair_is v steady k is (v.x +ℤ v.z) (xz-few v steady k is) spread_lattice 15 16 1 12 (lit< tt) refl refl refl
      (ring-by (v.x ∷ v.y ∷ v.z ∷ []) (search quotes depth 20) (search quotes depth 20) tt)
      (ring-by (v.x ∷ v.y ∷ v.z ∷ []) (search quotes depth 20) (search quotes depth 20) tt)

  pub zx-pair : pair_of (v.x -ℤ v.z) k 12 ≡ equilibrium_dir spread_lattice v.rho (vec v) 17 +ℤ equilibrium_dir spread_lattice v.rho (vec v) 18
  unfolding open-lattice spread idle narrow
  zx-pair =
      pair_is v steady k is (v.x -ℤ v.z) (zx-few v steady k is) spread_lattice 17 18 1 12 (lit< tt) refl refl refl
      (ring-by (v.x ∷ v.y ∷ v.z ∷ []) (search quotes depth 20) (search quotes depth 20) tt)
      (ring-by (v.x ∷ v.y ∷ v.z ∷ []) (search quotes depth 20) (search quotes depth 20) tt)

-- ---- what stands at an idle place
module _ (ρ : ℤ) (j : V3) where
  pub beyond-none : (f : ℕ → ℤ) (i : ℕ) → Idle i → f i ≡ pos 0 → beyond spread_lattice ρ j f i ≡ pos 0
  unfolding beyond equilibrium_dir
  beyond-none f i n e =
      ap₂ (λ (x : ℤ) (w : ℕ). x -ℤ cut_equilibrium w (quad ρ (dot (spread_lattice.e i) j) (dot j j)) ρ) e (spread_none 0 d2q9.weight i n)
      ∙ ap (λ (y : ℤ). pos 0 -ℤ y) (equilibrium-none (quad ρ (dot (spread_lattice.e i) j) (dot j j)) ρ)

  idle-pair : (f : List ℤ) (h : ℕ) → Quiet f → Idle (2 * h + 1) → Idle (2 * h + 2) → both (beyond spread_lattice ρ j (parts_of f)) h ≡ pos 0
  idle-pair f h q a b =
      ap₂ (λ (x y : ℤ). x +ℤ y) (beyond-none (parts_of f) (2 * h + 1) a (q.at (2 * h + 1) a)) (beyond-none (parts_of f) (2 * h + 2) b (q.at (2 * h + 2) b))

  module _ (f : List ℤ) (q : Quiet f) where
    pub y-none : both (beyond spread_lattice ρ j (parts_of f)) 1 ≡ pos 0
    unfolding idle narrow
    y-none = idle-pair f 1 q (is-idle 3 refl refl) (is-idle 4 refl refl)

    pub xy-none : both (beyond spread_lattice ρ j (parts_of f)) 3 ≡ pos 0
    unfolding idle narrow
    xy-none = idle-pair f 3 q (is-idle 7 refl refl) (is-idle 8 refl refl)

    pub yx-none : both (beyond spread_lattice ρ j (parts_of f)) 4 ≡ pos 0
    unfolding idle narrow
    yx-none = idle-pair f 4 q (is-idle 9 refl refl) (is-idle 10 refl refl)

    pub yz-none : both (beyond spread_lattice ρ j (parts_of f)) 5 ≡ pos 0
    unfolding idle narrow
    yz-none = idle-pair f 5 q (is-idle 11 refl refl) (is-idle 12 refl refl)

    pub zy-none : both (beyond spread_lattice ρ j (parts_of f)) 6 ≡ pos 0
    unfolding idle narrow
    zy-none = idle-pair f 6 q (is-idle 13 refl refl) (is-idle 14 refl refl)
