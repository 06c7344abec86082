-- `grid::kinds::is_liquid`: two tests are one of the flag. Assumes nothing.
use mathlib.Core.Path.{◌≡◌, refl, ap₂}
use mathlib.Core.Bool.{◌||◌}
use Prim.Native.Nat.{ℕ, zero, suc}
use native.Mathlib.Omega.{arith}
use lib.Dec.{eqb}
use borrow.Author.Tests.{ne_eqb}
use Rattle.grid.specs.State.{liquid}
use Rattle.grid.proofs.kinds.is_liquid.Goals as goal

by_cases : (f : ℕ) → (eqb f 1 || eqb f 2) ≡ liquid f
by_cases zero = refl
by_cases (suc zero) = refl
by_cases (suc (suc zero)) = refl
by_cases (suc (suc (suc n))) = ap₂ ◌||◌ (ne_eqb (suc (suc (suc n))) 1 (λ e. omega arith)) (ne_eqb (suc (suc (suc n))) 2 (λ e. omega arith))

pub returns : goal.returns
returns c = by_cases c.args.f
