-- `counts::counting::counts` is each of its calls. Assumes nothing.
use borrow.Author.Rules.{sfits_of}
use mathlib.Core.Path.{◌≡◌, ap, ◌∙◌}
use lib.IntN.{ℤ}
use mir.Syntax.{w64}
use mir.Val.{to_z, of_z}
use mir.Facts.{to_z-of_z}
use Rattle.counts.specs.inner.Totals.{total_by}
use Rattle.counts.proofs.counting.counts.Goals as goal

pub returns : goal.returns
returns c =
    let s = c in
    let carry : to_z w64 (of_z w64 s.args.carry) ≡ s.args.carry = to_z-of_z s.ranges.carry in
    λ i. record {
      fluid = c.cells_with.ensures i;
      interface = c.cells_with-2.ensures i;
      empty = c.cells_with-3.ensures i;
      wall = c.cells_with-4.ensures i;
      total = (to_z-of_z (sfits_of {w = w64} c.total.type_inv) ∙ c.total.ensures ∙ ap (λ (z : ℤ). total_by s.args.masses.now z) carry) i;
      carry = carry i;
    }
