-- `lattice::limits::good_gravity`: a component above 1048 is out of range by itself; below, the squares fit and the sum is the definition's.
-- Assumes nothing.
use mathlib.Core.Path.{sym}
use Rattle.whole.specs.laws.Machine.{Within, does-fit}
use Rattle.whole.specs.laws.Tests.{flags, flag-as}
use Rattle.lattice.specs.Cell.{gravity_good}
use Rattle.lattice.proofs.Ranges.{strong-x, strong-y, strong-z, large, little}
use Rattle.lattice.proofs.Reading.{reading}
use Rattle.lattice.proofs.limits.good_gravity.Lts as lts
use Rattle.lattice.proofs.limits.good_gravity.Reads as reads
use Rattle.lattice.proofs.limits.good_gravity.Tie as tie
use Rattle.lattice.proofs.limits.good_gravity.Goals as goal

abbrev At-Start : Type 0
At-Start = lts.Start tie.the-claims reads.Pre reads.Post

-- after the three tests each component is within ±1048
start : goal.Else-not-small-3 → At-Start
start c = c.before.before.before.before.before.before

module _ (c : goal.Else-not-small-3) where
  x-in : Within (start c).args.gx 1048
  unfolding start
  x-in = let s = start c in little _ _ s.ranges.gx c.small.ensures c.if-not-small.false-raw

  y-in : Within (start c).args.gy 1048
  unfolding start
  y-in = let s = start c in little _ _ s.ranges.gy c.small-2.ensures c.if-not-small-2.false-raw

  z-in : Within (start c).args.gz 1048
  unfolding start
  z-in = let s = start c in little _ _ s.ranges.gz c.small-3.ensures c.if-not-small-3.false-raw

pub returns-then-not-small : goal.returns-then-not-small
returns-then-not-small c =
    let s = c.before.before in
    sym (strong-x s.args.gx s.args.gy s.args.gz (large _ _ s.ranges.gx c.small.ensures c.if-not-small.true-raw))

pub returns-then-not-small-2 : goal.returns-then-not-small-2
returns-then-not-small-2 c =
    let s = c.before.before.before.before in
    sym (strong-y s.args.gx s.args.gy s.args.gz (large _ _ s.ranges.gy c.small-2.ensures c.if-not-small-2.true-raw))

pub returns-then-not-small-3 : goal.returns-then-not-small-3
returns-then-not-small-3 c =
    let s = c.before.before.before.before.before.before in
    sym (strong-z s.args.gx s.args.gy s.args.gz (large _ _ s.ranges.gz c.small-3.ensures c.if-not-small-3.true-raw))

pub overflow_mul-result : goal.overflow_mul-result
unfolding start
overflow_mul-result c = let x = x-in c in does-fit (search reading depth 20) tt

pub overflow_mul-result-2 : goal.overflow_mul-result-2
unfolding start
overflow_mul-result-2 c = let y = y-in c in does-fit (search reading depth 20) tt

pub overflow_add-result : goal.overflow_add-result
unfolding start
overflow_add-result c = let x = x-in c in let y = y-in c in does-fit (search reading depth 20) tt

pub overflow_mul-result-3 : goal.overflow_mul-result-3
unfolding start
overflow_mul-result-3 c = let z = z-in c in does-fit (search reading depth 20) tt

pub overflow_add-result-2 : goal.overflow_add-result-2
unfolding start
overflow_add-result-2 c = let x = x-in c in let y = y-in c in let z = z-in c in does-fit (search reading depth 20) tt

pub returns : goal.returns
unfolding start gravity_good
returns c = let x = x-in c in let y = y-in c in let z = z-in c in flag-as (search (reading, flags) depth 20) tt
