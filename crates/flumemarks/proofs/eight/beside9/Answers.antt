-- `flumemarks::eight::beside9` asks the eight neighbours in a row. Assumes nothing.
use mathlib.Core.Path.{refl}
use native.Mathlib.Omega.{arith}
use Rattle.whole.specs.Fold.{any}
use Rattle.flume.specs.inner.Spread.{wide}
use Rattle.flumemarks.specs.inner.Eight.{beside_eight}
use Rattle.flumemarks.proofs.eight.beside9.Goals as goal

pub overflow_add-result : goal.overflow_add-result
overflow_add-result c = record { fits = omega (arith, c.requires.all 1 (omega arith)) }

pub bounds-bytes-k : goal.bounds-bytes-k
bounds-bytes-k c = c.requires.all 1 (omega arith)

pub overflow_add-result-2 : goal.overflow_add-result-2
overflow_add-result-2 c = record { fits = omega (arith, c.requires.all 2 (omega arith)) }

pub bounds-bytes-k-2 : goal.bounds-bytes-k-2
bounds-bytes-k-2 c = c.requires.all 2 (omega arith)

pub overflow_add-result-3 : goal.overflow_add-result-3
overflow_add-result-3 c = record { fits = omega (arith, c.requires.all 5 (omega arith)) }

pub bounds-bytes-k-3 : goal.bounds-bytes-k-3
bounds-bytes-k-3 c = c.requires.all 5 (omega arith)

pub overflow_add-result-4 : goal.overflow_add-result-4
overflow_add-result-4 c = record { fits = omega (arith, c.requires.all 6 (omega arith)) }

pub bounds-bytes-k-4 : goal.bounds-bytes-k-4
bounds-bytes-k-4 c = c.requires.all 6 (omega arith)

pub overflow_add-result-5 : goal.overflow_add-result-5
overflow_add-result-5 c = record { fits = omega (arith, c.requires.all 15 (omega arith)) }

pub bounds-bytes-k-5 : goal.bounds-bytes-k-5
bounds-bytes-k-5 c = c.requires.all 15 (omega arith)

pub overflow_add-result-6 : goal.overflow_add-result-6
overflow_add-result-6 c = record { fits = omega (arith, c.requires.all 16 (omega arith)) }

pub bounds-bytes-k-6 : goal.bounds-bytes-k-6
bounds-bytes-k-6 c = c.requires.all 16 (omega arith)

pub overflow_add-result-7 : goal.overflow_add-result-7
overflow_add-result-7 c = record { fits = omega (arith, c.requires.all 17 (omega arith)) }

pub bounds-bytes-k-7 : goal.bounds-bytes-k-7
bounds-bytes-k-7 c = c.requires.all 17 (omega arith)

pub overflow_add-result-8 : goal.overflow_add-result-8
overflow_add-result-8 c = record { fits = omega (arith, c.requires.all 18 (omega arith)) }

pub bounds-bytes-k-8 : goal.bounds-bytes-k-8
bounds-bytes-k-8 c = c.requires.all 18 (omega arith)

pub returns : goal.returns
unfolding beside_eight wide any
returns c = refl
