-- `turbulence::stress::square`: a square is not negative, so the cast keeps it. Assumes nothing.
use mathlib.Core.Path.{◌≡◌, sym, ◌∙◌, ap, subst}
use Prim.Native.Nat.{◌*◌}
use native.Mathlib.Nat.{mul-le-mul}
use native.Mathlib.Omega.{arith}
use lib.IntN.{ℤ, pos, nat_abs, ◌*ℤ◌}
use lib.Signed.{◌≤ℤ◌}
use mir.Syntax.{w64}
use mir.Val.{to_z, of_z}
use Rattle.whole.specs.laws.Parts.{parts-≤}
use Rattle.whole.specs.laws.Ring.{square-pos}
use Rattle.whole.specs.laws.Casts.{index-asks, index_is}
use Rattle.whole.specs.laws.Machine.{Val, same, v*, v32, v64}
use Rattle.lattice.proofs.Reading.{inside}
use Rattle.turbulence.specs.Turbulence.{square}
use Rattle.turbulence.proofs.stress.square.Goals as goal

abbrev times-is : (c : goal.After-times) → Val (to_z w64 (of_z w64 c.times.result))
times-is c = let a = v32 (inside c.requires) in v64 (same c.times.ensures (v* a a))

not_negative : (a : ℤ) → pos 0 ≤ℤ (a *ℤ a)
not_negative a = subst (λ (z : ℤ). pos 0 ≤ℤ z) (sym (square-pos a)) (parts-≤ (omega arith))

result-is : (c : goal.After-times) → nat_abs (to_z w64 (of_z w64 c.times.result)) ≡ nat_abs c.args.a * nat_abs c.args.a
result-is c = ap nat_abs (index_is (times-is c) tt (not_negative c.args.a) ∙ square-pos c.args.a)

pub overflow_cast-result : goal.overflow_cast-result
overflow_cast-result c = index-asks w64 (times-is c) tt (not_negative c.args.a)

pub returns : goal.returns
unfolding square
returns c = (result-is c, omega (arith, result-is c, mul-le-mul c.requires.abs c.requires.abs))
