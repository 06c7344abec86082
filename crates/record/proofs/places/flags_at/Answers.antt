-- `record::places::flags_at`: behind four sections and the count of the fifth. Assumes nothing.
use mathlib.Core.Path.{sym, subst}
use Prim.Native.Nat.{ℕ, ◌≤◌}
use native.Mathlib.Omega.{arith}
use Rattle.record.proofs.FlagPart.{totals-few}
use Rattle.record.proofs.places.flags_at.Lts as lts
use Rattle.record.proofs.places.flags_at.Reads as reads
use Rattle.record.proofs.places.flags_at.Tie as tie
use Rattle.record.proofs.places.flags_at.Goals as goal

abbrev At-After-totals_in : Type 0
At-After-totals_in = lts.After-totals_in tie.the-claims reads.Pre reads.Post

few : (c : At-After-totals_in) → c.totals_in.result ≤ 3
few c = subst (λ (k : ℕ). k ≤ 3) (sym c.totals_in.ensures) (totals-few c.args.rec.now)

pub overflow_mul-result : goal.overflow_mul-result
overflow_mul-result c = record { fits = omega (arith, few c.before) }

pub overflow_add-result : goal.overflow_add-result
overflow_add-result c = record { fits = omega (arith, few c.before) }

pub returns : goal.returns
returns c = omega (arith, c.totals_in.ensures)
