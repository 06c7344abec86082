-- `depths::put::parting`: LF behind the last, else a space. Assumes nothing.
use mathlib.Core.Path.{sym, ap}
use Rattle.depths.specs.Map.{behind}
use Rattle.depths.proofs.Texts.{behind-some}
use Rattle.depths.proofs.put.parting.Goals as goal

pub returns-then-n-eq0 : goal.returns-then-n-eq0
returns-then-n-eq0 c = sym (ap behind c.if-n-eq0.true)

pub returns : goal.returns
returns c = behind-some _ c.if-n-eq0.false
