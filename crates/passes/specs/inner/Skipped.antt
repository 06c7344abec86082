-- What pass 1 makes of cells that are dry in both sets: neither mass nor mark. Assumes nothing.
use Rattle.std.specs.Prelude.{◌≡◌, false, List, ℕ, ◌<◌, ℤ, pos, length}
use Rattle.grid.specs.inner.Passes.{Dry, either_liquid}
use Rattle.passes.specs.inner.Stretch.{Cleared}

-- what is asked at cell c: it is dry in both sets
pub record Skippable (flags flags2 : List ℕ) (masses : List ℤ) (marks : List ℕ) (c : ℕ) : Type 0 where
  pub is-cell : c < length flags
  pub dry : either_liquid flags flags2 c ≡ false
  pub flags-room : length flags2 ≡ length flags
  pub masses-room : length masses ≡ length flags
  pub marks-room : length marks ≡ length flags

-- so are the cells after it up to e − 1, and they have neither mass nor mark now
pub record Skipped (flags flags2 : List ℕ) (masses : List ℤ) (marks : List ℕ) (c e : ℕ) (masses2 : List ℤ) (marks2 : List ℕ) : Type 0 where
  pub onward : c < e
  pub dry : Dry flags flags2 c e
  pub massless : Cleared (pos 0) c e masses masses2
  pub unmarked : Cleared 0 c e marks marks2
