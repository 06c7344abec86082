-- `profile::testing::whole`: a third with no rest is three times it. Assumes nothing.
use borrow.Author.Tests.{eq-eqb, ne_eqb, eqb-true, eqb-false}
use mathlib.Core.Path.{◌≡◌, refl, sym, ap}
use mathlib.Core.Bool.{Bool, true, false, ◌&&◌}
use Prim.Native.Nat.{ℕ, ◌*◌, ◌/◌, ◌%◌}
use native.Mathlib.Omega.{arith}
use lib.Dec.{eqb}
use Rattle.profile.specs.Outcome.{list_whole}
use Rattle.profile.proofs.testing.whole.Goals as goal

thrice : (p m : ℕ) → (eqb (p / 3) m && eqb (p % 3) 0) ≡ eqb p (3 * m)
thrice p m = go (eqb (p / 3) m) (eqb (p % 3) 0) refl refl
  where
    go : (s t : Bool) → eqb (p / 3) m ≡ s → eqb (p % 3) 0 ≡ t → (s && t) ≡ eqb p (3 * m)
    go true true a b = sym (eq-eqb p (3 * m) (omega (arith, eqb-true (p / 3) m a, eqb-true (p % 3) 0 b)))
    go true false a b = sym (ne_eqb p (3 * m) (λ e. eqb-false (p % 3) 0 b (omega arith)))
    go false t a b = sym (ne_eqb p (3 * m) (λ e. eqb-false (p / 3) m a (omega arith)))

pub returns : goal.returns
unfolding list_whole
returns c = ap (λ (b : Bool). b && eqb c.args.kinds c.args.m && eqb c.args.depths c.args.m) (thrice c.args.points c.args.m)
