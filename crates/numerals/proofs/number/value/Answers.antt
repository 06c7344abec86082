use Rattle.std.proofs.Common.{refl, arith}
use Rattle.numerals.specs.Number.{value_to}
use Rattle.numerals.proofs.Digits.{value-more, turn_small}
use Rattle.numerals.proofs.number.value.Goals as goal

pub loop-i-init : goal.loop-i-init
unfolding value_to
loop-i-init c = refl

pub overflow_mul-v : goal.overflow_mul-v
overflow_mul-v c = omega (arith, turn_small c.args.w.now c.loop-i.i c.args.n c.loop-i-test.true c.requires.n_bound c.requires.n_bound_2)

pub overflow_add-v : goal.overflow_add-v
overflow_add-v c = omega (arith, turn_small c.args.w.now c.loop-i.i c.args.n c.loop-i-test.true c.requires.n_bound c.requires.n_bound_2)

pub loop-i-preserved : goal.loop-i-preserved
loop-i-preserved c = omega (arith, value-more c.args.w.now c.loop-i.i)
