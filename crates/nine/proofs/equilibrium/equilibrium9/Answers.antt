-- `nine::equilibrium::equilibrium9`: no parts at all are in range, and what they become is the definition's. Assumes nothing.
use mathlib.Core.Path.{◌≡◌, refl, ◌∙◌, subst, sym}
use Prim.Native.Nat.{ℕ, zero, suc}
use native.Mathlib.Omega.{arith}
use lib.ListN.{replicate}
use lib.IntN.{ℤ, pos}
use Rattle.whole.specs.laws.Machine.{Within}
use Rattle.lattice.specs.inner.Held.{parts_of, vec}
use Rattle.collision.proofs.Stillness.{stilled}
use Rattle.flume.specs.inner.Spread.{spread_lattice}
use Rattle.nine.proofs.equilibrium.equilibrium9.Goals as goal

none : (n k : ℕ) → parts_of (replicate n (pos 0)) k ≡ pos 0
none zero k = refl
none (suc n) zero = refl
none (suc n) (suc k) = none n k

small : (k : ℕ) → Within (parts_of (replicate 19 (pos 0)) k) 1572864
small k = subst (λ (z : ℤ). Within z 1572864) (sym (none 19 k)) (record { abs = omega arith })

pub by_divider9-requires : goal.by_divider9-requires
by_divider9-requires c = (refl, record { rest = small 0; at = λ k h m. small k }, c.requires, refl)

pub returns : goal.returns
returns c =
    let s = c in
    (c.by_divider9.ensures.0 ∙ stilled spread_lattice 19 294912 s.args.v.rho (vec s.args.v) (parts_of (replicate 19 (pos 0))) s.requires.low (none 19), c.by_divider9.ensures.1)
