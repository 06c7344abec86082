-- What stages 1 to 4 leave of one cell: whether it passed stage 3's test, and, if it did, its parts written where they belong. Assumes nothing.
use Rattle.std.specs.Prelude.{◌≡◌, true, false, List, ℕ, ◌*◌, ◌<◌, ℤ, pos, nat_abs, length, get_or, Option}
use Rattle.std.specs.Option.{MatchOption, IfSome}
use Rattle.whole.specs.Fold.{tab}
use Rattle.lattice.specs.Lattice.{d3q19}
use Rattle.lattice.specs.declared.Settings.{Settings}
use Rattle.turbulence.specs.inner.Post.{Keeps}
use Rattle.grid.specs.State.{Scene, by_flag, liquid}
use Rattle.grid.specs.Step.{flag_at, streamed_density, unsteady, collided}
use Rattle.lattice.specs.Body.{body_good}
use Rattle.grid.specs.inner.Between.{moved_part}
use Rattle.grid.specs.Outcome.{settings_good}
use Rattle.grid.specs.inner.Sight.{Bodied, Around}
use Rattle.grid.specs.inner.Pasted.{pasted}
use Rattle.flow.specs.declared.moving.Put.{Put}
use Rattle.arrivals.specs.inner.Sources.{Mirrored, source_of, Immersed, Enclosed}
use Rattle.arrivals.specs.inner.Trade.{Fills}

-- what is told of cell c of scene S that passed the test: its density, and whether its parts keep test 6's rules
pub record Passed (S : Scene) (c : ℕ) (o : Put) : Type 0 where
  pub steady : unsteady S c ≡ false
  pub rho : o.rho ≡ by_flag (flag_at S c) (pos 0) (streamed_density S c) (streamed_density S c) (pos 0)
  pub fair : o.fair ≡ by_flag (flag_at S c) true (body_good d3q19 (collided S c)) (body_good d3q19 (collided S c)) true

-- nothing where it fails the test
abbrev pub Told : Scene → ℕ → Option Put → Type 0
Told S c r = MatchOption r (unsteady S c ≡ true) (Passed S c)

-- the same with its parts put into the box's list; after a refusal only the length is told
pub record PutAt (S : Scene) (c : ℕ) (before after : List ℤ) (r : Option Put) : Type 0 where
  pub kept : length after ≡ length before
  pub told : Told S c r
  pub parts : IfSome r (λ o. after ≡ pasted before (19 * c) (tab 19 (moved_part S c)))

-- what the code asks at cell c: a liquid cell has its neighbours around it, is fluid with liquid all around where pass 0 marked it, and has no empty cell beside it where it is fluid
pub record Putting (flags : List ℕ) (parts : List ℤ) (fills : List ℕ) (room : List ℤ) (mark : ℕ) (off from : List ℕ) (low c : ℕ) (g : Settings) (keep : ℕ) : Type 0 where
  pub bodied : Bodied flags parts
  pub filled : Fills flags fills
  pub is-cell : c < length flags
  pub around : liquid (get_or flags c 3) ≡ true → Around (length flags) off low c
  pub mirrored : Mirrored off low
  pub sources : from ≡ tab 19 (source_of off)
  pub marked : liquid (get_or flags c 3) ≡ true → mark ≡ 1 → Immersed flags off low c
  pub enclosed : Enclosed flags off low c
  pub settings : settings_good g ≡ true
  pub keeps : Keeps (nat_abs g.p) keep
  pub size : length room ≡ length parts
