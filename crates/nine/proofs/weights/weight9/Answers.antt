-- `nine::weights::weight9` is the flume's weight at each place. Assumes nothing.
use mathlib.Core.Path.{ap, sym}
use lib.IntN.{pos}
use Rattle.nine.proofs.Weighed.{along-x, idle-y, along-z, idle-rest, diagonal}
use Rattle.nine.proofs.weights.weight9.Goals as goal

pub returns-then-i-lt3 : goal.returns-then-i-lt3
returns-then-i-lt3 c = ap pos (sym (along-x c.args.i c.requires.0 c.if-i-lt3.true))

pub returns-then-i-lt5 : goal.returns-then-i-lt5
returns-then-i-lt5 c = ap pos (sym (idle-y c.args.i c.if-i-lt3.false c.if-i-lt5.true))

pub returns-then-i-lt7 : goal.returns-then-i-lt7
returns-then-i-lt7 c = ap pos (sym (along-z c.args.i c.if-i-lt5.false c.if-i-lt7.true))

pub returns-then-i-lt15 : goal.returns-then-i-lt15
returns-then-i-lt15 c = ap pos (sym (idle-rest c.args.i c.if-i-lt7.false c.if-i-lt15.true))

pub returns : goal.returns
returns c = ap pos (sym (diagonal c.args.i c.if-i-lt15.false c.requires.1))
