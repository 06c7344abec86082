-- `acts::answers::acted_moved`: what the answer holds, 0 beside a refusal. Assumes nothing.
use mathlib.Core.Path.{sym, ap, ◌∙◌}
use mir.Syntax.{w64}
use mir.Facts.{to_z-of_z}
use Rattle.pumps.specs.Acts.{acted_moved}
use Rattle.acts.proofs.answers.acted_moved.Goals as goal

pub returns-in-Ok : goal.returns-in-Ok
returns-in-Ok c = to_z-of_z {w = w64} (record { sfits = c.in-Ok.known_told-1-own.given.0.1 }) ∙ sym (ap acted_moved c.in-Ok.is)
