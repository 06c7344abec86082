-- `step::sets::copied`: five copies make the second set the first. Assumes nothing.
use Rattle.step.proofs.sets.copied.Goals as goal

pub returns : goal.returns
returns c i = record {
  flags = c.copy.ensures i;
  parts = c.copy-2.ensures i;
  masses = c.copy-3.ensures i;
  fills = c.copy-4.ensures i;
  carry = c.copy-5.ensures i;
}
