-- `reading::fair::good_body`: parts in their range have a density and a speed that fit. Assumes nothing.
use mathlib.Core.Path.{sym, ◌∙◌}
use borrow.Author.Tests.{not-true, not-false}
use Rattle.lattice.proofs.Bodies.{inside-bounded, no-parts}
use Rattle.reading.proofs.fair.good_body.Goals as goal

pub returns-then-not-all_inside : goal.returns-then-not-all_inside
returns-then-not-all_inside c = sym (no-parts c.args.f (sym c.all_inside.ensures ∙ not-true _ c.if-not-all_inside.true-raw))

pub fair_parts-requires : goal.fair_parts-requires
fair_parts-requires c = inside-bounded c.args.f (sym c.all_inside.ensures ∙ not-false _ c.if-not-all_inside.false-raw)
