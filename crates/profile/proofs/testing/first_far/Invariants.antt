-- `profile::testing::first_far`: no point below i has a coordinate out of range. Assumes nothing.
use Rattle.std.proofs.Common.{◌≡◌, ℕ, ◌<◌, false}
use Rattle.profile.specs.Profile.{far}
use Rattle.profile.proofs.testing.first_far.Given as goal

abbrev pub invariant-loop-i : goal.invariant-loop-i
invariant-loop-i l = (j : ℕ) → j < l.i → far l.f l.points j ≡ false
