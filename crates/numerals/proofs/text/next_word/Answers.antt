-- `numerals::text::next_word`: a run of blanks, then a run of a word's bytes. Assumes nothing.
use native.Mathlib.Omega.{arith}
use Rattle.numerals.specs.declared.text.Kind.TheVariants.{Blank}
use Rattle.numerals.specs.Text.{of_kind}
use Rattle.numerals.proofs.Runs.{past-le, spans}
use Rattle.numerals.proofs.text.next_word.Goals as goal

pub past-to-requires : goal.past-to-requires
past-to-requires c = omega (arith, past-le (of_kind Blank) c.args.s.now c.args.at c.requires)

pub returns : goal.returns
returns c = spans _ _ _ _ c.past-from.ensures c.past-to.ensures
