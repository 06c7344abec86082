-- `turbulence::relaxation::own`: no tension keeps p, and of the two ways to p the second decides what the first does not. Assumes nothing.
use mathlib.Core.Path.{◌≡◌, sym, ◌∙◌, ap}
use mathlib.Core.Logic.{◌⊎◌, inl, inr}
use Prim.Native.Nat.{ℕ}
use native.Mathlib.Omega.{arith}
use Rattle.turbulence.specs.Turbulence.{own}
use Rattle.turbulence.proofs.Own.{own-keeps}
use Rattle.turbulence.proofs.relaxation.own.Goals as goal

-- what is not 0 is p
answered : (o w : ℕ) → (o ≡ 0) ⊎ (o ≡ w) → (o ≡ 0 → ⊥) → o ≡ w
answered o w (inl e) n = absurd (n e)
answered o w (inr e) n = e

pub returns-then-t-eq0 : goal.returns-then-t-eq0
returns-then-t-eq0 c =
    let s = c.before in
    let e : s.args.t ≡ 0 = omega arith in
    sym (ap (own s.args.p) e ∙ own-keeps s.args.p s.requires.0 s.requires.1)

pub returns : goal.returns
returns c = answered _ _ c.by_bounds-o.ensures (λ e. omega arith)
