-- `flumereading::load::next_at` goes on behind a cell's last part. Assumes nothing.
use mathlib.Core.Path.{◌≡◌, ap}
use mathlib.Core.Bool.{Bool, true, false, cond}
use Prim.Native.Nat.{ℕ, ◌≤◌}
use native.Mathlib.Omega.{arith}
use lib.Dec.{eqb}
use borrow.Author.Tests.{eq-eqb, ne_eqb}
use Rattle.grid.specs.State.{liquid}
use Rattle.flumereading.proofs.load.next_at.Goals as goal

at_most : (b : Bool) → cond b 1 0 ≤ 1
at_most true = omega arith
at_most false = omega arith

pub returns-then-k-ne8 : goal.returns-then-k-ne8
returns-then-k-ne8 c =
    let a = c.args in
    let w : ℕ = cond (liquid a.flag) 1 0 in
    let e : cond (eqb a.k 8) w 0 ≡ 0 = ap (λ (b : Bool). cond b w 0) (ne_eqb a.k 8 c.if-k-ne8.true) in
    omega (arith, e)

pub overflow_mul-result : goal.overflow_mul-result
overflow_mul-result c = record { fits = omega (arith, c.one_liquid.ensures, at_most (liquid c.args.flag)) }

pub overflow_add-result : goal.overflow_add-result
overflow_add-result c = record { fits = omega (arith, c.one_liquid.ensures, at_most (liquid c.args.flag), c.requires) }

pub returns : goal.returns
returns c =
    let a = c.args in
    let w : ℕ = cond (liquid a.flag) 1 0 in
    let e : cond (eqb a.k 8) w 0 ≡ w = ap (λ (b : Bool). cond b w 0) (eq-eqb a.k 8 c.if-k-ne8.false) in
    omega (arith, e, c.one_liquid.ensures)
