-- The relaxation that the code takes for a cell, mode by mode. Assumes nothing.
use mathlib.Core.Path.{◌≡◌, sym, ap}
use mathlib.Core.Bool.{Bool, true, false}
use Prim.Native.Nat.{ℕ}
use lib.IntN.{ℤ}
use Rattle.lattice.specs.Lattice.{V3, Lattice}
use Rattle.turbulence.specs.Turbulence.{own_relaxation}
use Rattle.flow.specs.inner.Relaxed.{relaxed_by}

pub plain-is : (mode : Bool) (L : Lattice) (ρ : ℤ) (j : V3) (p : ℤ) (f : ℕ → ℤ) → mode ≡ false → p ≡ relaxed_by mode L ρ j p f
unfolding relaxed_by
plain-is mode L ρ j p f e = ap (λ (b : Bool). relaxed_by b L ρ j p f) (sym e)

pub own_is : (mode : Bool) (L : Lattice) (ρ : ℤ) (j : V3) (p : ℤ) (f : ℕ → ℤ) → mode ≡ true → own_relaxation L ρ j p f ≡ relaxed_by mode L ρ j p f
unfolding relaxed_by
own_is mode L ρ j p f e = ap (λ (b : Bool). relaxed_by b L ρ j p f) (sym e)
