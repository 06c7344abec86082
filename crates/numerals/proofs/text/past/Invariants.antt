-- `numerals::text::past`: what is left of the run, and what was passed, is the run. Assumes nothing.
use Rattle.std.proofs.Common.{◌≡◌, ◌+◌, drop}
use Rattle.numerals.specs.Text.{of_kind, run}
use Rattle.numerals.proofs.text.past.Given as goal

abbrev pub invariant-loop-i : goal.invariant-loop-i
invariant-loop-i l = l.i + run (of_kind l.k) (drop l.i l.s) ≡ l.at + run (of_kind l.k) (drop l.at l.s)
