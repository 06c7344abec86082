-- `profile::testing::first_broken`: no column of a point below i fails depth's tests. Assumes nothing.
use Rattle.std.proofs.Common.{◌≡◌, ℕ, ◌<◌, false}
use Rattle.profile.specs.Profile.{broken, survey}
use Rattle.profile.proofs.testing.first_broken.Given as goal

abbrev pub invariant-loop-i : goal.invariant-loop-i
invariant-loop-i l = (j : ℕ) → j < l.i → broken (survey l.f l.flags l.fills l.points) j ≡ false
