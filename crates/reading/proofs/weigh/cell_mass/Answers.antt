-- `reading::weigh::cell_mass` goes by the flag. Assumes nothing.
use mathlib.Core.Path.{sym, ap, ◌∙◌, subst}
use mathlib.Core.Bool.{cond}
use Prim.Native.Nat.{ℕ, ◌+◌, ◌*◌, ◌≤◌}
use lib.Dec.{eqb}
use lib.IntN.{pos}
use lib.ListN.{length}
use mir.Syntax.{w32}
use mir.ValLaws.{to_z-of_z}
use Rattle.grid.specs.State.{by_flag}
use Rattle.record.specs.Bytes.{i32_at}
use Rattle.record.proofs.ByFlag.{by-other}
use Rattle.reading.proofs.weigh.cell_mass.Goals as goal

pub i32_at-requires : goal.i32_at-requires
i32_at-requires c =
    let d = c in
    subst (λ (f : ℕ). d.args.at + 4 * cond (eqb f 1) 1 0 ≤ length d.args.rec.now) c.if-flag-eq1.true d.requires

pub returns-then-flag-eq1 : goal.returns-then-flag-eq1
returns-then-flag-eq1 c =
    let a = c.args in
    to_z-of_z w32 c.i32_at.result (record { sfits = c.i32_at.type_inv })
    ∙ c.i32_at.ensures
    ∙ sym (ap (λ (f : ℕ). by_flag f (pos 0) (i32_at a.rec.now a.at) a.rho (pos 0)) c.if-flag-eq1.true)

pub returns-then-flag-eq2 : goal.returns-then-flag-eq2
returns-then-flag-eq2 c =
    let d = c in
    let a = d.args in
    to_z-of_z w32 a.rho d.ranges.rho ∙ sym (ap (λ (f : ℕ). by_flag f (pos 0) (i32_at a.rec.now a.at) a.rho (pos 0)) c.if-flag-eq2.true)

pub returns : goal.returns
returns c =
    let a = c.args in
    sym (by-other a.flag (pos 0) (i32_at a.rec.now a.at) a.rho c.if-flag-eq1.false c.if-flag-eq2.false)
