-- `fills::filling::plain_fill`: by the flag. Assumes nothing.
use Rattle.fills.proofs.Weighed.{plain-fluid, plain-dry}
use Rattle.fills.proofs.filling.plain_fill.Goals as goal

pub returns-then-f-eq2 : goal.returns-then-f-eq2
returns-then-f-eq2 c = plain-fluid c.args.f c.if-f-eq2.true

pub returns : goal.returns
returns c = plain-dry c.args.f c.if-f-eq2.false
