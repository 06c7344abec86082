-- `walls::changes::answered`: the asker's tests, the other's, 13, 17 and 18 in the outcome's order. Assumes nothing.
use mathlib.Core.Bool.{Bool, ◌||◌}
use mathlib.Core.Path.{ap₂}
use Rattle.std.proofs.Common.{sym, ◌∙◌, arith}
use Rattle.grid.proofs.Handed.{handed-on}
use Rattle.pumps.proofs.Checked.{head-sized}
use Rattle.schemes.proofs.Tests.{tells}
use Rattle.walls.proofs.Answers.{asker-refused, other-refused, place-refused, way-refused, way-clear, cell_in, cell-inner}
use Rattle.walls.proofs.changes.answered.Goals as goal

pub returns-in_err-entered : goal.returns-in_err-entered
returns-in_err-entered c = handed-on c.from_residual.result c.from_residual.ensures.1 ∙ asker-refused _ _ _ _ _ _ c.in_err-entered.ensures

pub returns-in_err-entered-2 : goal.returns-in_err-entered-2
returns-in_err-entered-2 c =
    handed-on c.from_residual-in_err-entered-2.result c.from_residual-in_err-entered-2.ensures.1
    ∙ other-refused _ _ _ _ _ _ (sym c.in_ok-entered.ensures) c.in_err-entered-2.ensures

pub placing-requires : goal.placing-requires
placing-requires c = let t = (tells _ _ _ _ (sym c.in_ok-entered.ensures)).0 in (t.sides, t.map-size)

pub returns-in_err-placing : goal.returns-in_err-placing
returns-in_err-placing c =
    handed-on c.from_residual-in_err-placing.result c.from_residual-in_err-placing.ensures.1
    ∙ place-refused _ _ _ _ _ _ (sym c.in_ok-entered.ensures) (sym c.in_ok-entered-2.ensures) c.in_err-placing.ensures

pub in_way-requires : goal.in_way-requires
in_way-requires c =
    let ea = sym c.in_ok-entered.ensures in
    let eb = sym c.in_ok-entered-2.ensures in
    let ep = sym c.in_ok-placing.ensures in
    let t = (tells _ _ _ _ ea).0 in
    (t.sides, (head-sized _ _ t.sized).flags, cell_in _ _ _ _ _ _ ea eb ep, cell-inner _ _ _ _ _ _ ea eb ep)

pub in_way-requires-2 : goal.in_way-requires-2
in_way-requires-2 c =
    let ea = sym c.in_ok-entered.ensures in
    let eb = sym c.in_ok-entered-2.ensures in
    let ep = sym c.in_ok-placing.ensures in
    let mine = (tells _ _ _ _ ea).0 in
    let t = (tells _ _ _ _ eb).0 in
    (t.sides, omega (arith, (head-sized _ _ mine.sized).flags, (head-sized _ _ t.sized).flags), cell_in _ _ _ _ _ _ ea eb ep, cell-inner _ _ _ _ _ _ ea eb ep)

pub returns-then-in_way : goal.returns-then-in_way
returns-then-in_way c =
    way-refused _ _ _ _ _ _ (sym c.in_ok-entered.ensures) (sym c.in_ok-entered-2.ensures) (sym c.in_ok-placing.ensures)
    (sym (ap₂ (λ (x y : Bool). x || y) c.in_way.ensures c.in_way-2.ensures) ∙ c.if-in_way.true)

pub returns : goal.returns
returns c =
    way-clear _ _ _ _ _ _ (sym c.in_ok-entered.ensures) (sym c.in_ok-entered-2.ensures) (sym c.in_ok-placing.ensures)
    (sym (ap₂ (λ (x y : Bool). x || y) c.in_way.ensures c.in_way-2.ensures) ∙ c.if-in_way.false)
