-- `checks::layer::bad_flag` is the negation of the rule: a flag above 3, or an outer cell that is not wall. Assumes nothing.
use borrow.Author.Tests.{lt-ltb, le-ltb}
use mathlib.Core.Path.{◌≡◌, refl}
use mathlib.Core.Bool.{Bool, true, false, not, ◌&&◌, ◌||◌}
use native.Mathlib.Omega.{arith}
use lib.Dec.{eqb}
use Rattle.grid.specs.inner.Passes.{outer_at}
use Rattle.checks.proofs.layer.bad_flag.Goals as goal

broken : (w o : Bool) → (not w && o) ≡ not (true && (not o || w))
broken true true = refl
broken true false = refl
broken false true = refl
broken false false = refl

pub returns-then-f-gt3 : goal.returns-then-f-gt3
returns-then-f-gt3 c = simp (le-ltb c.args.f 4 (omega (arith, c.if-f-gt3.true)))

pub returns : goal.returns
returns c = rw (c.outer.ensures, lt-ltb c.args.f 4 (omega (arith, c.if-f-gt3.false))) (broken (eqb c.args.f 3) (outer_at c.args.s c.args.p))
