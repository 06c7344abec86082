-- `profile::testing::first_not_above`: no chainage below i is not above the one before. Assumes nothing.
use Rattle.std.proofs.Common.{◌≡◌, ℕ, ◌<◌, false}
use Rattle.profile.specs.Profile.{not_above}
use Rattle.profile.proofs.testing.first_not_above.Given as goal

abbrev pub invariant-loop-i : goal.invariant-loop-i
invariant-loop-i l = (j : ℕ) → j < l.i → not_above l.chainages j ≡ false
