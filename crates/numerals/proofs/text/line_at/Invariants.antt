-- `numerals::text::line_at`: one line more at each turn. Assumes nothing.
use Rattle.numerals.specs.inner.Places.{LineIs}
use Rattle.numerals.proofs.text.line_at.Given as goal

abbrev pub invariant-loop : goal.invariant-loop
invariant-loop l = LineIs l.s l.counter l.at
