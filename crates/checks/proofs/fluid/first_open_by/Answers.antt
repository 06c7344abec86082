-- `checks::fluid::first_open_by`: where none may be open, test 5's place is N. Assumes nothing.
use Rattle.checks.proofs.fluid.first_open_by.Goals as goal

pub returns : goal.returns
returns c = c.any_open.ensures c.if-any_open.false
