-- `index::words::good_lengths`: both lengths are compared. Assumes nothing.
use mathlib.Core.Path.{ap}
use mathlib.Core.Bool.{◌&&◌}
use Prim.Native.Nat.{ℕ}
use lib.Dec.{eqb}
use Rattle.index.proofs.words.good_lengths.Goals as goal

pub returns : goal.returns
returns c = ap (λ (x : ℕ). eqb c.args.words x && eqb c.args.count 1) c.words_of.ensures
