-- `conversion::turning::turned`: where nothing converts the copies are the next state; else the conversion makes it. Assumes nothing.
use mathlib.Core.Path.{◌≡◌, subst}
use mathlib.Core.Bool.{Bool, true}
use mathlib.Core.List.{List}
use Prim.Native.Nat.{ℕ}
use lib.IntN.{ℤ}
use Rattle.grid.specs.State.{lent, Scene}
use Rattle.grid.specs.inner.Halfway.{Moved}
use Rattle.conversion.proofs.Converts.{calm-turned, turning-on}
use Rattle.conversion.proofs.turning.turned.Goals as goal

-- with still true, what pass 1 says of it
calm-moved : (S : Scene) (n : ℕ) (parts masses : List ℤ) (marks : List ℕ) (fair calm : Bool) → calm ≡ true → Moved S n parts masses marks fair calm → Moved S n parts masses marks fair true
calm-moved S n parts masses marks fair calm e m = subst (λ (b : Bool). Moved S n parts masses marks fair b) e m

pub returns-then-calm : goal.returns-then-calm
returns-then-calm c =
    calm-turned c.args.s c.args.g (lent c.args.flags.now c.args.parts.now c.args.masses.now c.args.fills.now c.args.carry.now) c.requires.ready _ _ _ _ (calm-moved _ _ _ _ _ _ _ c.if-calm.true c.requires.moved) _ _ c.copy.ensures c.copy-2.ensures

pub converted-requires : goal.converted-requires
converted-requires c =
    (turning-on c.args.s c.args.g (lent c.args.flags.now c.args.parts.now c.args.masses.now c.args.fills.now c.args.carry.now) _ _ _ _ _ _ _ _ c.copy.ensures c.copy-2.ensures c.requires, c.copy.ensures)
