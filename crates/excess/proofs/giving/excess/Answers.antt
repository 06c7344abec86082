-- `excess::giving::excess`: the mass, less the density of the cell's own parts where it is filled. Assumes nothing.
use borrow.Author.Tests.{eq-eqb, ne_eqb}
use mathlib.Core.Path.{◌≡◌, refl, sym, ◌∙◌}
use lib.IntN.{pos}
use lib.ListN.{get_or}
use mir.Syntax.{w64}
use mir.Val.{to_z, of_z}
use Rattle.whole.specs.laws.Bools.{cond_yes, cond_no}
use Rattle.whole.specs.laws.Machine.{does-fit, reads_as, v+, vneg, v64}
use Rattle.grid.specs.State.{part_of}
use Rattle.excess.specs.inner.Gifts.{density_at, excess_at}
use Rattle.excess.proofs.Owned.{own-bounded, own-density}
use Rattle.excess.proofs.Readings.{told, told64, held_in}
use Rattle.excess.proofs.giving.excess.Lts as lts
use Rattle.excess.proofs.giving.excess.Reads as reads
use Rattle.excess.proofs.giving.excess.Tie as tie
use Rattle.excess.proofs.giving.excess.Goals as goal

abbrev At-After-wide : Type 0
At-After-wide = lts.After-wide tie.the-claims reads.Pre reads.Post

-- the mass and the density, as they were read
mass-told : (c : At-After-wide) → to_z w64 (of_z w64 c.wide.result) ≡ get_or c.args.masses.now c.args.c (pos 0)
mass-told c = told64 c.wide.type_inv (c.wide.ensures ∙ told c.wide-arg-1.given refl)

density-told : (c : goal.After-wide-then-m-eq1) → to_z w64 (of_z w64 c.wide-then-m-eq1.result) ≡ density_at (part_of c.args.parts.now) c.args.c
density-told c =
    let s = c in
    told64 c.wide-then-m-eq1.type_inv (c.wide-then-m-eq1.ensures ∙ told c.density.type_inv (c.density.ensures ∙ own-density (part_of s.args.parts.now) s.args.c c.own.ensures))

pub density-requires : goal.density-requires
density-requires c = own-bounded (part_of c.args.parts.now) c.args.c c.own.ensures c.requires.parts_in

pub overflow_sub-result : goal.overflow_sub-result
overflow_sub-result c =
    let s = c in
    does-fit (v+ (held_in (mass-told c.before.before.before) s.requires.mass-in) (vneg (held_in (density-told c) s.requires.density-in))) tt

pub returns-then-m-eq1 : goal.returns-then-m-eq1
unfolding excess_at
returns-then-m-eq1 c =
    let s = c in
    reads_as (v64 (v+ (held_in (mass-told c.before.before.before) s.requires.mass-in) (vneg (held_in (density-told c) s.requires.density-in)))) tt
    ∙ sym (cond_yes _ _ (eq-eqb s.args.m 1 c.if-m-eq1.true))

pub returns : goal.returns
unfolding excess_at
returns c =
    let s = c in
    told64 c.wide-2.type_inv (c.wide-2.ensures ∙ told c.wide-arg-2-1.given refl) ∙ sym (cond_no _ _ (ne_eqb s.args.m 1 c.if-m-eq1.false))
