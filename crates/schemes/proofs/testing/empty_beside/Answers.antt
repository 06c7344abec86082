use Rattle.std.proofs.Common.{◌≡◌, refl, sym, ap, ap₂, ◌∙◌, ℕ, suc, ◌+◌, ◌-◌, ◌≤◌, Bool, ◌||◌, ◌&&◌, not, eqb, List, get_or, arith}
use Rattle.whole.specs.Fold.{any}
use Rattle.schemes.specs.inner.Between.{empty_at}
use Rattle.schemes.proofs.testing.empty_beside.Invariants.{at}
use Rattle.schemes.proofs.testing.empty_beside.Goals as goal

one : (map own off : List ℕ) (k i : ℕ) (found : Bool) → 1 ≤ i → found ≡ any (i - 1) (at map own off k)
    → (found || (not (eqb (get_or map (k + get_or off i 0) 0) 1) && eqb (get_or own (k + get_or off i 0) 0) 0)) ≡ any (i + 1 - 1) (at map own off k)
unfolding any
one map own off k i found h e =
    let here : suc (i - 1) ≡ i = omega arith in
    let next : suc (i - 1) ≡ i + 1 - 1 = omega arith in
    ap₂ (λ (x y : Bool). x || y) e (ap (λ (n : ℕ). not (eqb (get_or map (k + get_or off n 0) 0) 1) && eqb (get_or own (k + get_or off n 0) 0) 0) (sym here))
    ∙ ap (λ (n : ℕ). any n (at map own off k)) next

pub loop-i-init : goal.loop-i-init
unfolding any
loop-i-init c = refl

pub loop-i-preserved : goal.loop-i-preserved
loop-i-preserved c = let a = c.args in one a.map.now a.own.now a.off.now a.k c.loop-i.i c.loop-i.found (omega arith) c.loop-i.invariant

pub returns : goal.returns
unfolding empty_at
returns c = let a = c.args in
    let e : c.loop-i.i - 1 ≡ 18 = omega arith in
    c.loop-i.invariant ∙ ap (λ (n : ℕ). any n (at a.map.now a.own.now a.off.now a.k)) e
