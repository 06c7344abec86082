-- `invert::testing::tested` lets the rows answer if the tests before them pass. Assumes nothing.
use Rattle.std.proofs.Common.{sym, ap, ◌∙◌, arith}
use Rattle.grid.specs.Outcome.{accepted}
use Rattle.grid.proofs.GoodSides.{good-sides}
use Rattle.grid.proofs.Handed.{handed-on}
use Rattle.invert.specs.Outcome.{grid_answer}
use Rattle.invert.proofs.Tested.{given-stops, given-passes, given-sides}
use Rattle.invert.proofs.testing.tested.Goals as goal

pub returns-in_err-given : goal.returns-in_err-given
unfolding grid_answer
returns-in_err-given c =
    handed-on c.from_residual.result c.from_residual.ensures.1
    ∙ c.in_err-given.ensures ∙ sym (given-stops _ _ _ _ _ (ap accepted (sym c.in_err-given.ensures)))

pub rows-requires : goal.rows-requires
rows-requires c =
    let sides = given-sides _ _ _ _ (ap accepted (sym c.in_ok-given.ensures)) in
    record { text_in_bounds = c.requires; le_nx = omega (arith, (good-sides _ sides).x.low) }

pub returns : goal.returns
unfolding grid_answer
returns c = c.rows.ensures ∙ sym (given-passes _ _ _ _ _ (ap accepted (sym c.in_ok-given.ensures)))
