-- `profiled::writing::written`: the lines below i are written, and the best so far is the deepest of them. Assumes nothing.
use Rattle.profile.specs.Profile.{survey, depth_at}
use Rattle.profile.specs.inner.Lines.{IsBest, LinesTo}
use Rattle.profiled.proofs.writing.written.Given as goal

abbrev pub invariant-loop-i : goal.invariant-loop-i
invariant-loop-i l =
    LinesTo (survey l.f l.flags l.fills l.points) l.m l.i l.kinds l.depths × IsBest (depth_at (survey l.f l.flags l.fills l.points)) l.m l.i l.best
