-- `flumegrid::checking::good_cell9` keeps a cell to test 6's rules, liquid or dry. Assumes nothing.
use borrow.Author.Rules.{sfits_of}
use mathlib.Core.Path.{sym, ap, ◌∙◌}
use mathlib.Core.Bool.{Bool, ◌&&◌}
use lib.Dec.{eqb}
use lib.IntN.{pos}
use lib.ListN.{get_or}
use mir.Syntax.{w32}
use mir.Val.{of_z}
use mir.Facts.{to_z-of_z}
use Rattle.flumegrid.proofs.Rules.{wet-nine, dry-nine}
use Rattle.flumegrid.proofs.checking.good_cell9.Goals as goal

pub returns-then-is_liquid : goal.returns-then-is_liquid
returns-then-is_liquid c =
    let a = c in
    rw (to_z-of_z {w = w32} (sfits_of {w = w32} c.good_liquid-arg-1.given)) at c.good_liquid.ensures
    ∙ wet-nine a.args.flags.now a.args.parts.now a.args.masses.now a.args.fills.now a.args.c a.requires.0 _ c.own9-v.ensures
    (sym c.is_liquid.ensures ∙ c.if-is_liquid.true)

pub returns : goal.returns
returns c =
    let a = c in
    ap (λ (b : Bool). b && eqb (of_z w32 (get_or a.args.masses.now a.args.c (pos 0))) 0 && eqb (get_or a.args.fills.now a.args.c 0) 0) c.all_zero.ensures
    ∙ dry-nine a.args.flags.now a.args.parts.now a.args.masses.now a.args.fills.now a.args.c a.requires.0 _ c.own9-v.ensures
    (sym c.is_liquid.ensures ∙ c.if-is_liquid.false) (sfits_of {w = w32} c.result-1.given)
