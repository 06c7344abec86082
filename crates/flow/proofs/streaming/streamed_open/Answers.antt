use mathlib.Core.Path.{◌≡◌, ap, ◌∙◌}
use mathlib.Core.List.{List}
use Prim.Native.Nat.{ℕ, ◌+◌, ◌-◌}
use native.Mathlib.Omega.{arith}
use lib.IntN.{ℤ, pos}
use lib.ListN.{length, get_or, take, drop, length-drop}
use lib.Seq.{take_all, get_or-drop}
use Rattle.whole.specs.laws.Tab.{upto_all}
use Rattle.flow.proofs.streaming.streamed_open.Goals as goal

-- number n of the list from a on is number a + n of the list
part-at : (a : ℕ) (xs : List ℤ) (n : ℕ) → get_or (take (length xs - a) (drop a xs)) n (pos 0) ≡ get_or xs (a + n) (pos 0)
part-at a xs n = ap (λ l. get_or l n (pos 0)) (take_all (length xs - a) (drop a xs) (omega (arith, length-drop a xs))) ∙ get_or-drop a xs n (pos 0)

pub returns : goal.returns
returns c = let l = c.loop-i.invariant in upto_all (pos 0) _ _ 19 l.0 (λ j h. l.1 j (omega arith) ∙ part-at c.args.a c.args.parts.now _)
