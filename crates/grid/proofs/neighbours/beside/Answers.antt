use mathlib.Core.Path.{◌≡◌, refl, sym, ap, ◌∙◌}
use mathlib.Core.Bool.{Bool, ◌||◌}
use mathlib.Core.List.{List}
use Prim.Native.Nat.{ℕ, suc, ◌+◌, ◌-◌, ◌≤◌}
use native.Mathlib.Omega.{arith}
use lib.Dec.{eqb}
use lib.ListN.{get_or}
use Rattle.whole.specs.Fold.{any}
use Rattle.grid.specs.inner.Passes.{beside_at}
use Rattle.grid.proofs.neighbours.beside.Invariants.{at}
use Rattle.grid.proofs.neighbours.beside.Goals as goal

next : (bytes off : List ℕ) (k m i : ℕ) → 1 ≤ i → (any (i - 1) (at bytes off k m) || eqb (get_or bytes (k + get_or off i 0) 0) m) ≡ any (i + 1 - 1) (at bytes off k m)
unfolding any
next bytes off k m i h =
    let e : suc (i - 1) ≡ i = omega arith in
    let s : suc (i - 1) ≡ i + 1 - 1 = omega arith in
    ap (λ (n : ℕ). any (i - 1) (at bytes off k m) || eqb (get_or bytes (k + get_or off n 0) 0) m) (sym e) ∙ ap (λ (n : ℕ). any n (at bytes off k m)) s

pub loop-i-init : goal.loop-i-init
unfolding any
loop-i-init c = refl

pub loop-i-preserved : goal.loop-i-preserved
loop-i-preserved c =
    let a = c.args in
    let i = c.loop-i.i in
    ap (λ (b : Bool). b || eqb (get_or a.bytes.now (a.k + get_or a.off.now i 0) 0) a.m) c.loop-i.invariant ∙ next a.bytes.now a.off.now a.k a.m i (omega arith)

pub returns : goal.returns
unfolding beside_at
returns c =
    let a = c.args in
    c.loop-i.invariant ∙ ap (λ (n : ℕ). any n (at a.bytes.now a.off.now a.k a.m)) (omega arith)
