use mathlib.Core.Path.{◌≡◌, refl, sym, ap, ◌∙◌}
use mathlib.Core.Bool.{Bool, ◌||◌}
use mathlib.Core.List.{List}
use Prim.Native.Nat.{ℕ, suc, ◌+◌, ◌-◌, ◌≤◌}
use native.Mathlib.Omega.{arith}
use Rattle.whole.specs.Fold.{any}
use Rattle.excess.specs.inner.Gifts.{marked_at}
use Rattle.excess.proofs.giving.marked_beside.Goals as goal

-- one direction more
more : (marks off : List ℕ) (k i : ℕ) {found : Bool} → 1 ≤ i → found ≡ any (i - 1) (λ a. marked_at marks off k (suc a))
    → (found || marked_at marks off k i) ≡ any (i + 1 - 1) (λ a. marked_at marks off k (suc a))
unfolding any
more marks off k i h e =
    let n : suc (i - 1) ≡ i = omega arith in
    let m : suc (i - 1) ≡ i + 1 - 1 = omega arith in
    ap (λ b. b || marked_at marks off k i) e ∙ ap (λ j. any (i - 1) (λ a. marked_at marks off k (suc a)) || marked_at marks off k j) (sym n)
    ∙ ap (λ j. any j (λ a. marked_at marks off k (suc a))) m

pub loop-i-init : goal.loop-i-init
unfolding any
loop-i-init c = refl

pub loop-i-preserved : goal.loop-i-preserved
loop-i-preserved c = more c.args.marks.now c.args.off.now c.args.k c.loop-i.i (omega arith) c.loop-i.invariant
