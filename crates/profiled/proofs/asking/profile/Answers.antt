-- `profiled::asking::profile`: the outcome's definition, whatever is lent. Assumes nothing.
use mathlib.Core.Path.{sym}
use Rattle.grid.proofs.Handed.{handed-on}
use Rattle.profile.proofs.Passed.{tests-opened}
use Rattle.profile.proofs.Telling.{told-refused, told-done, is-deep, is-dry}
use Rattle.profiled.proofs.asking.profile.Goals as goal

pub returns-in_err-tested : goal.returns-in_err-tested
returns-in_err-tested c = rw (handed-on c.from_residual.result c.from_residual.ensures.1) (told-refused _ _ _ _ _ c.in_err-tested.ensures)

pub written-at-requires : goal.written-at-requires
written-at-requires c =
    let h = tests-opened _ _ _ _ (sym c.in_ok-tested.ensures) in
    record { sides = h.sides; points-size = h.points-size; kinds-size = h.kinds-size; depths-size = h.depths-size }

pub returns-then-at-m : goal.returns-then-at-m
returns-then-at-m c = told-done _ _ _ _ _ _ _ c.written-at.result _ _ _ c.in_ok-tested.ensures c.written-at.ensures (is-deep _ _ c.if-at-m.true)

pub returns : goal.returns
returns c = told-done _ _ _ _ _ _ _ c.written-at.result _ _ _ c.in_ok-tested.ensures c.written-at.ensures (is-dry _ _ c.if-at-m.false)
