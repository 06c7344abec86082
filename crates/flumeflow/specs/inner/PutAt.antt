-- What stages 1 to 4 leave of one flume cell: what the box tells of its own, and, if it passed stage 3's test, its nine parts written where they belong.
-- Assumes nothing.
use Rattle.std.specs.Prelude.{◌≡◌, true, List, ℕ, ◌<◌, ℤ, nat_abs, length, get_or, Option}
use Rattle.std.specs.Option.{IfSome}
use Rattle.whole.specs.Fold.{tab}
use Rattle.lattice.specs.declared.Flow.{Flow}
use Rattle.lattice.specs.declared.Settings.{Settings}
use Rattle.turbulence.specs.inner.Post.{Keeps}
use Rattle.grid.specs.State.{Scene, liquid}
use Rattle.grid.specs.inner.Between.{moved_part}
use Rattle.grid.specs.Outcome.{settings_good}
use Rattle.grid.specs.inner.Sight.{Around}
use Rattle.flow.specs.declared.moving.Put.{Put}
use Rattle.flow.specs.inner.PutAt.{Told}
use Rattle.arrivals.specs.inner.Sources.{Mirrored, Immersed}
use Rattle.arrivals.specs.inner.Trade.{Fills}
use Rattle.nine.specs.inner.Cells.{pasted9}
use Rattle.flumearrivals.specs.inner.Seen.{Bodied9, source_of9}

-- a flow with its density put in its place
abbrev pub at_density : Flow → ℤ → Flow
at_density v rho = record { rho = rho; x = v.x; y = v.y; z = v.z }

-- after a refusal only the length is told
pub record PutAt9 (S : Scene) (c : ℕ) (before after : List ℤ) (r : Option Put) : Type 0 where
  pub kept : length after ≡ length before
  pub told : Told S c r
  pub parts : IfSome r (λ o. after ≡ pasted9 before c (tab 19 (moved_part S c)))

-- what the code asks at cell c: a liquid cell has its neighbours around it, and is fluid with liquid all around where pass 0 marked it
pub record Putting9 (flags : List ℕ) (parts : List ℤ) (fills : List ℕ) (room : List ℤ) (mark : ℕ) (off from : List ℕ) (low c : ℕ) (g : Settings) (keep : ℕ) : Type 0 where
  pub bodied : Bodied9 flags parts
  pub filled : Fills flags fills
  pub is-cell : c < length flags
  pub around : liquid (get_or flags c 3) ≡ true → Around (length flags) off low c
  pub mirrored : Mirrored off low
  pub sources : from ≡ tab 9 (source_of9 off)
  pub marked : liquid (get_or flags c 3) ≡ true → mark ≡ 1 → Immersed flags off low c
  pub settings : settings_good g ≡ true
  pub keeps : Keeps (nat_abs g.p) keep
  pub size : length room ≡ length parts
