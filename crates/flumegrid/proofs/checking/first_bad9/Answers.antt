use mathlib.Core.Path.{refl, sym, ap, ◌∙◌}
use native.Mathlib.Omega.{arith}
use lib.ListN.{length}
use mir.Syntax.{w64}
use mir.Facts.{to_z-of_z}
use Rattle.lattice.specs.Cell.{carry_good}
use Rattle.flumegrid.proofs.Rules.{nine-cell, nine-carry, nine-none}
use Rattle.flumegrid.proofs.checking.first_bad9.Goals as goal

pub returns-then-not-good_cell9 : goal.returns-then-not-good_cell9
returns-then-not-good_cell9 c =
    let a = c.args in
    nine-cell a.flags.now a.parts.now a.masses.now a.fills.now _ c.loop-c.c c.loop-c.invariant c.loop-c-test.true (sym c.good_cell9.ensures ∙ c.if-not-good_cell9.true)

pub returns-then-fair_carry : goal.returns-then-fair_carry
returns-then-fair_carry c =
    let a = c.args in
    nine-none a.flags.now a.parts.now a.masses.now a.fills.now _ (length a.flags.now) (λ j h. c.loop-c.invariant j (omega arith)) refl
    (ap carry_good (sym (to_z-of_z {w = w64} c.ranges.carry)) ∙ sym c.fair_carry.ensures ∙ c.if-fair_carry.true)

pub returns : goal.returns
returns c =
    let a = c.args in
    nine-carry a.flags.now a.parts.now a.masses.now a.fills.now _ (length a.flags.now) (λ j h. c.loop-c.invariant j (omega arith)) refl
    (ap carry_good (sym (to_z-of_z {w = w64} c.ranges.carry)) ∙ sym c.fair_carry.ensures ∙ c.if-fair_carry.false)
