-- `turbulence::relaxation::own_from`: what a tension that keeps p is not below, keeps p. Assumes nothing.
use mathlib.Core.Path.{sym}
use Rattle.turbulence.proofs.Laws.{keeps-under}
use Rattle.turbulence.proofs.relaxation.own_from.Goals as goal

pub returns-then-t-keep : goal.returns-then-t-keep
returns-then-t-keep c = let s = c.before in sym (keeps-under s.args.p s.args.t s.args.keep s.requires.0 s.requires.1 c.if-t-keep.true s.requires.3)
