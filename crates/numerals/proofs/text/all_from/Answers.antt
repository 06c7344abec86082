-- `numerals::text::all_from`: the run reaches the end. Assumes nothing.
use native.Mathlib.Omega.{arith}
use Rattle.numerals.proofs.Runs.{every-end, every-is}
use Rattle.numerals.proofs.text.all_from.Goals as goal

pub returns-then-s-at : goal.returns-then-s-at
returns-then-s-at c = every-end _ _ _ c.if-s-at.true

pub returns : goal.returns
returns c = every-is _ _ _ _ (omega arith) c.past.ensures
