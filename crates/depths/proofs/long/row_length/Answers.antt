use borrow.Author.Rules.{sfits_of}
use lib.Signed.{mag}
use mir.Syntax.{w64}
use mir.Val.{to_z, of_z}
use mir.Facts.{to_z-of_z}
use Rattle.std.proofs.Common.{◌≡◌, ℕ, ℤ, ◌<◌, ap, ◌∙◌, length, arith}
use Rattle.grid.proofs.GoodSides.{good-sides}
use Rattle.spelling.specs.Spelling.{whole_of}
use Rattle.depths.proofs.Texts.{row-begin, row-step-long, row-none, row-most, whole-most}
use Rattle.depths.proofs.long.row_length.Invariants.{values}
use Rattle.depths.proofs.long.row_length.Goals as goal

-- how long a value is, from what the two calls promise
long-is : {v x : ℤ} {r : ℕ} → mag v < 9223372036854775808 → v ≡ x → r ≡ length (whole_of (to_z w64 (of_z w64 v))) → r ≡ length (whole_of x)
long-is f e h = h ∙ ap (λ (z : ℤ). length (whole_of z)) (to_z-of_z (sfits_of {w = w64} f) ∙ e)

pub loop-x-init : goal.loop-x-init
loop-x-init c = let a = c.args in omega (arith, ap length (row-begin (values a.s a.edge a.flags.now a.fills.now a.y) a.s.nx))

pub overflow_add-long : goal.overflow_add-long
overflow_add-long c =
    let a = c.args in
    record { fits = omega (arith, long-is c.depth.type_inv c.depth.ensures c.whole_length.ensures, whole-most (values a.s a.edge a.flags.now a.fills.now a.y c.loop-x.x)) }

pub overflow_add-long-in-loop-x : goal.overflow_add-long-in-loop-x
overflow_add-long-in-loop-x c =
    let a = c.args in
    let v = values a.s a.edge a.flags.now a.fills.now a.y in
    let e = long-is c.depth.type_inv c.depth.ensures c.whole_length.ensures in
    record {
      fits =
          omega (arith, e, row-step-long v c.loop-x.x a.s.nx c.loop-x-test.true, c.loop-x.invariant, row-most v 0 a.s.nx, (good-sides a.s c.requires.measured.good).x.high);
    }

pub loop-x-preserved : goal.loop-x-preserved
loop-x-preserved c =
    let a = c.args in
    let v = values a.s a.edge a.flags.now a.fills.now a.y in
    omega (arith, long-is c.depth.type_inv c.depth.ensures c.whole_length.ensures, row-step-long v c.loop-x.x a.s.nx c.loop-x-test.true, c.loop-x.invariant)

pub returns : goal.returns
returns c =
    let a = c.args in
    omega (arith, c.loop-x.invariant, ap length (row-none (values a.s a.edge a.flags.now a.fills.now a.y) c.loop-x.x a.s.nx c.loop-x-test.false))
