-- `flumereading::weigh::cell_density` adds up the parts of a liquid cell. Assumes nothing.
use mathlib.Core.Path.{sym, ◌∙◌}
use Prim.Native.Nat.{◌+◌, ◌*◌}
use lib.IntN.{pos}
use lib.ListN.{get_or}
use mir.Syntax.{w32}
use mir.ValLaws.{to_z-of_z}
use Rattle.lattice.specs.Lattice.{d2q9, density}
use Rattle.record.proofs.ByFlag.{Dry, by-dry, by-wet, wet}
use Rattle.flumereading.proofs.Nine.{nine-bounded, nine-density}
use Rattle.flumereading.proofs.weigh.cell_density.Lts as lts
use Rattle.flumereading.proofs.weigh.cell_density.Reads as reads
use Rattle.flumereading.proofs.weigh.cell_density.Tie as tie
use Rattle.flumereading.proofs.weigh.cell_density.Goals as goal

abbrev At-Else-one_liquid-eq0 : Type 0
At-Else-one_liquid-eq0 = lts.Else1 tie.the-claims reads.Pre reads.Post tie.handed_clauses

wet-here : (c : At-Else-one_liquid-eq0) → Dry c.args.flag → ⊥
wet-here c e = c.if-one_liquid-eq0.false (c.one_liquid.ensures ∙ e)

pub returns-then-one_liquid-eq0 : goal.returns-then-one_liquid-eq0
returns-then-one_liquid-eq0 c =
    let a = c.args in
    let ρ = density d2q9 (λ k. get_or a.parts.now (9 * a.c + k) (pos 0)) in
    sym (by-dry a.flag (pos 0) ρ ρ (sym c.one_liquid.ensures ∙ c.if-one_liquid-eq0.true))

pub density-requires : goal.density-requires
density-requires c =
    let d = c in
    let a = d.args in
    nine-bounded (λ k. get_or a.parts.now (9 * a.c + k) (pos 0)) c.own9.result c.own9.ensures (d.requires.within (wet a.flag (wet-here c.before)))

pub returns : goal.returns
returns c =
    let a = c.args in
    to_z-of_z w32 c.density.result (record { sfits = c.density.type_inv })
    ∙ c.density.ensures
    ∙ nine-density (λ k. get_or a.parts.now (9 * a.c + k) (pos 0)) c.own9.result c.own9.ensures
    ∙ sym (by-wet a.flag (pos 0) (density d2q9 (λ k. get_or a.parts.now (9 * a.c + k) (pos 0))) (wet-here c.before.before))
