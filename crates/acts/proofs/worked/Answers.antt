-- `acts::worked`: what the effect says, written to mass, fill and total. Assumes nothing.
use borrow.Author.Rules.{sfits_of}
use mathlib.Core.Path.{sym, ap, ◌∙◌}
use lib.IntN.{ℤ}
use mir.Syntax.{w32, w64}
use mir.Facts.{to_z-of_z}
use Rattle.lattice.specs.Lattice.{d3q19, density}
use Rattle.lattice.specs.Cell.{fill_of}
use Rattle.grid.specs.State.{part_of}
use Rattle.pumps.specs.declared.effect.Change.{Change}
use Rattle.pumps.proofs.Amounts.{held}
use Rattle.pumps.proofs.Effects.{none-bad, some-good}
use Rattle.acts.proofs.Working.{work_none, work-done}
use Rattle.acts.proofs.worked.Goals as goal

pub returns-in_default : goal.returns-in_default
returns-in_default c =
    work_none _ _ _ _ _ _ _ _
    (none-bad _ _ _ _ (rw (c.in_default.is, to_z-of_z c.ranges.amount, to_z-of_z {w = w32} (sfits_of {w = w32} c.effect-arg-1.given), to_z-of_z {w = w64} (sfits_of {w = w64} c.effect-arg-2-1.given)) at c.effect.ensures))

pub returns : goal.returns
returns c =
    let f = some-good _ _ _ _ (rw (c.in-Some.is, to_z-of_z c.ranges.amount, to_z-of_z {w = w32} (sfits_of {w = w32} c.effect-arg-1.given), to_z-of_z {w = w64} (sfits_of {w = w64} c.effect-arg-2-1.given)) at c.effect.ensures) in
    let own = c.struct_told-1.given in
    let m = held w32 c.in-Some.e.mass own.1.0.1 ∙ sym (ap (λ (x : Change). x.mass) f.1) in
    work-done _ _ _ _ _ _ _ _ f.0 _ _ _ _
    (held w64 c.in-Some.e.moved own.0.1 ∙ sym (ap (λ (x : Change). x.moved) f.1))
    m
    (c.interface_fill.ensures ∙ ap (λ (z : ℤ). fill_of z (density d3q19 (part_of c.args.parts.now c.args.c))) (held w64 c.wide.result c.wide.type_inv ∙ c.wide.ensures ∙ m))
    (held w64 c.in-Some.e.total own.1.1.0.1 ∙ sym (ap (λ (x : Change). x.total) f.1))
