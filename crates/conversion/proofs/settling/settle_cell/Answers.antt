-- `conversion::settling::settle_cell`: a filled cell's mass is the density of its own parts, an emptied cell's mass and parts are zero. Assumes nothing.
use borrow.Author.Tests.{eq-eqb, ne_eqb}
use mathlib.Core.Path.{◌≡◌, sym, ap, ◌∙◌}
use mathlib.Core.Bool.{true, false}
use lib.Dec.{eqb}
use lib.ListN.{set}
use Rattle.whole.specs.laws.Bools.{cond_yes, cond_no}
use Rattle.grid.specs.State.{part_of}
use Rattle.excess.proofs.Owned.{own-bounded, own-density}
use Rattle.excess.proofs.Readings.{told}
use Rattle.conversion.proofs.settling.settle_cell.Goals as goal

pub density-requires : goal.density-requires
density-requires c =
    let s = c in
    own-bounded (part_of s.args.parts.now) s.args.c c.own.ensures s.requires.0

pub returns-then-m-eq1 : goal.returns-then-m-eq1
returns-then-m-eq1 c =
    let s = c in
    let e : eqb s.args.m 1 ≡ true = eq-eqb s.args.m 1 c.if-m-eq1.true in
    record {
      parts_are = sym (cond_yes _ _ e);
      masses-are = ap (set s.args.masses.now s.args.c) (told c.density.type_inv (c.density.ensures ∙ own-density (part_of s.args.parts.now) s.args.c c.own.ensures) ∙ sym (cond_yes _ _ e));
    }

pub returns-else-m-eq1 : goal.returns-else-m-eq1
returns-else-m-eq1 c =
    let s = c in
    let e : eqb s.args.m 1 ≡ false = ne_eqb s.args.m 1 c.if-m-eq1.false in
    record {
      parts_are = c.paste.ensures ∙ sym (cond_no _ _ e);
      masses-are = ap (set s.args.masses.now s.args.c) (sym (cond_no _ _ e));
    }
