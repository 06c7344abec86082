-- The flume's own lattice and the nineteen places give the same own p; and the tensor does not know the weights. Assumes nothing.
use mathlib.Core.Path.{◌≡◌, refl, ap, ap₂, ◌∙◌}
use Prim.Native.Nat.{ℕ, ◌+◌, ◌*◌, ◌≤◌}
use native.Mathlib.Omega.{arith}
use lib.IntN.{ℤ, pos, nat_abs, ◌+ℤ◌, ◌-ℤ◌, ◌*ℤ◌, *ℤ-zero}
use Rattle.whole.specs.Fold.{Dir}
use Rattle.lattice.specs.Lattice.{V3, dot, d3q19, d2q9}
use Rattle.lattice.specs.Cell.{cut_equilibrium, quad}
use Rattle.lattice.specs.Body.{equilibrium_dir}
use Rattle.grid.specs.State.{Scene}
use Rattle.grid.specs.Step.{streamed, streamed_density, streamed_momentum}
use Rattle.flume.specs.inner.Spread.{wide, Spreads, spread_lattice, plain_scene, spread_scene}
use Rattle.flume.proofs.Places.{spread_at, dirs-same}
use Rattle.flume.proofs.Flowing.{e-at, streamed-spreads, streamed-density-same, streamed-momentum-same}
use Rattle.turbulence.specs.Turbulence.{component, beyond, stress, square, tension, own, own_relaxation}
use Rattle.turbulence.proofs.Tensor.{tension-entries}
use Rattle.nineturbulence.proofs.Fours.{beyond-none}

-- the tensor is of vectors alone
pub tension-places : (g : ℕ → ℤ) → tension spread_lattice g ≡ tension d3q19 g
unfolding tension stress
tension-places g = refl

module _ (ρ : ℤ) (j : V3) (f h : ℕ → ℤ) (z : Spreads f h) where
  weight-at : (k : ℕ) → Dir 8 k → spread_lattice.weight (wide k) ≡ d2q9.weight k
  weight-at k d = spread_at 0 d2q9.weight k d.most

  beyond-at : (k : ℕ) → Dir 8 k → beyond spread_lattice ρ j f (wide k) ≡ beyond d2q9 ρ j h k
  unfolding beyond equilibrium_dir
  beyond-at k d i = z.at k d.most i -ℤ cut_equilibrium (weight-at k d i) (quad ρ (dot (e-at k d i) j) (dot j j)) ρ

  entry-same : (a b : ℕ) → stress spread_lattice (beyond spread_lattice ρ j f) a b ≡ stress d2q9 (beyond d2q9 ρ j h) a b
  unfolding stress d3q19 d2q9
  entry-same a b =
      dirs-same (λ i. component a (spread_lattice.e i) *ℤ component b (spread_lattice.e i) *ℤ beyond spread_lattice ρ j f i)
      (λ k. component a (d2q9.e k) *ℤ component b (d2q9.e k) *ℤ beyond d2q9 ρ j h k)
      (λ k d i. component a (e-at k d i) *ℤ component b (e-at k d i) *ℤ beyond-at k d i)
      (λ i n. ap (λ (x : ℤ). component a (spread_lattice.e i) *ℤ component b (spread_lattice.e i) *ℤ x) (beyond-none ρ j f i n (z.none i n))
      ∙ *ℤ-zero (component a (spread_lattice.e i) *ℤ component b (spread_lattice.e i)))

  pub tension-same : tension spread_lattice (beyond spread_lattice ρ j f) ≡ tension d2q9 (beyond d2q9 ρ j h)
  tension-same =
      omega (
        arith,
        tension-entries spread_lattice (beyond spread_lattice ρ j f),
        tension-entries d2q9 (beyond d2q9 ρ j h),
        ap square (entry-same 0 0),
        ap square (entry-same 1 1),
        ap square (entry-same 2 2),
        ap square (entry-same 0 1),
        ap square (entry-same 1 2),
        ap square (entry-same 0 2),
      )

  pub own_same : (p : ℤ) → own_relaxation spread_lattice ρ j p f ≡ own_relaxation d2q9 ρ j p h
  unfolding own_relaxation
  own_same p = ap (λ (t : ℕ). pos (own (nat_abs p) t)) tension-same

-- ---- own p of cell c in a step
pub own-in-step : (S : Scene) (p : ℤ) (c : ℕ)
    → own_relaxation spread_lattice (streamed_density (spread_scene S) c) (streamed_momentum (spread_scene S) c) p (streamed (spread_scene S) c)
    ≡ own_relaxation d2q9 (streamed_density (plain_scene S) c) (streamed_momentum (plain_scene S) c) p (streamed (plain_scene S) c)
own-in-step S p c =
    own_same (streamed_density (spread_scene S) c) (streamed_momentum (spread_scene S) c) (streamed (spread_scene S) c) (streamed (plain_scene S) c) (streamed-spreads S c) p
    ∙ ap₂ (λ (ρ : ℤ) (j : V3). own_relaxation d2q9 ρ j p (streamed (plain_scene S) c)) (streamed-density-same S c) (streamed-momentum-same S c)
