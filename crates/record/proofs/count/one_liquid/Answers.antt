-- `record::count::one_liquid` is 1 at a fluid or interface cell. Assumes nothing.
use mathlib.Core.Path.{◌≡◌, refl}
use mathlib.Core.Bool.{cond}
use Prim.Native.Nat.{ℕ, zero, suc}
use Rattle.grid.specs.State.{liquid}
use Rattle.record.proofs.count.one_liquid.Goals as goal

dry : (f : ℕ) → (f ≡ 1 → ⊥) → (f ≡ 2 → ⊥) → ◌≡◌ {A = ℕ} 0 (cond (liquid f) 1 0)
dry zero a b = refl
dry (suc zero) a b = absurd (a refl)
dry (suc (suc zero)) a b = absurd (b refl)
dry (suc (suc (suc f))) a b = refl

pub returns : goal.returns
returns c = dry c.args.flag c.if-flag-eq1.false c.if-flag-eq2.false
