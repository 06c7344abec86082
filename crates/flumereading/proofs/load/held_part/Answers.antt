-- `flumereading::load::held_part` is 0 at a dry cell, and what the record holds at a liquid one. Assumes nothing.
use mathlib.Core.Path.{sym, ◌∙◌}
use lib.IntN.{pos}
use mir.Syntax.{w32}
use mir.ValLaws.{to_z-of_z}
use Rattle.record.specs.Bytes.{i32_at}
use Rattle.record.proofs.ByFlag.{by-dry, by-wet, wet}
use Rattle.flumereading.proofs.load.held_part.Goals as goal

pub returns-then-one_liquid-eq0 : goal.returns-then-one_liquid-eq0
returns-then-one_liquid-eq0 c =
    let a = c.args in
    let x = i32_at a.rec.now a.at in
    sym (by-dry a.flag (pos 0) x x (sym c.one_liquid.ensures ∙ c.if-one_liquid-eq0.true))

pub i32_at-requires : goal.i32_at-requires
i32_at-requires c =
    let d = c in
    d.requires (wet d.args.flag (λ e. c.if-one_liquid-eq0.false (c.one_liquid.ensures ∙ e)))

pub returns : goal.returns
returns c =
    let a = c.args in
    to_z-of_z w32 c.i32_at.result (record { sfits = c.i32_at.type_inv }) ∙ c.i32_at.ensures
    ∙ sym (by-wet a.flag (pos 0) (i32_at a.rec.now a.at) (λ e. c.if-one_liquid-eq0.false (c.one_liquid.ensures ∙ e)))
