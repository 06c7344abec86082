-- Stage 5's new interface cells of the flume over lent lists: what the means over neighbours ask, and what the pass leaves. The means are the box's, over nine
-- stored parts among the nineteen places with the flume's weights. Assumes nothing.
use Rattle.std.specs.Prelude.{◌≡◌, Bool, true, cond, List, [], ℕ, ◌*◌, ◌<◌, ℤ, length}
use Rattle.whole.specs.Fold.{tab, all}
use Rattle.lattice.specs.Lattice.{d3q19}
use Rattle.lattice.specs.Cell.{gravity_good}
use Rattle.lattice.specs.Body.{body_good}
use Rattle.lattice.specs.declared.Settings.{Settings}
use Rattle.grid.specs.State.{Scene}
use Rattle.grid.specs.Step.{liquid_near, born}
use Rattle.arrivals.specs.inner.Trade.{Fills}
use Rattle.conversion.specs.inner.Born.{TestedOn, newly_born, later_part, later_fair}
use Rattle.flume.specs.inner.Spread.{spread_lattice}
use Rattle.nine.specs.inner.Cells.{part_of9, pasted9}
use Rattle.flumearrivals.specs.inner.Seen.{sight9}

-- stage 3 has passed: every liquid cell's ρ' and j' are in their ranges; and whatever is no wall has all its neighbours
pub record Tested9 (flags : List ℕ) (parts : List ℤ) (fills off : List ℕ) (low : ℕ) (g : Settings) : Type 0 where
  pub count : length parts ≡ 9 * length flags
  pub fills-good : Fills flags fills
  pub gravity : gravity_good g.gx g.gy g.gz ≡ true
  pub cells : TestedOn spread_lattice.weight flags (part_of9 parts) fills off low g

-- each new interface cell has a neighbour that was liquid
pub record Fertile9 (flags : List ℕ) (parts : List ℤ) (fills off : List ℕ) (low : ℕ) (g : Settings) (flags2 : List ℕ) : Type 0 where
  pub tested : Tested9 flags parts fills off low g
  pub count : length flags2 ≡ length flags
  pub fed : (c : ℕ) → c < length flags → newly_born flags flags2 c ≡ true → 0 < liquid_near (sight9 flags parts [] fills off low g) c

-- cell c's parts are written, and fair says whether they keep a liquid cell's rules
pub record Placed9 (S : Scene) (c : ℕ) (before after : List ℤ) (fair : Bool) : Type 0 where
  pub parts : after ≡ pasted9 before c (tab 19 (born S c))
  pub fair-is : fair ≡ body_good d3q19 (born S c)

-- the same where the cell is one of those that pass w; any other stays as it is
pub record Visited9 (S : Scene) (w : ℕ → Bool) (c : ℕ) (before after : List ℤ) (fair : Bool) : Type 0 where
  pub parts : after ≡ cond (w c) (pasted9 before c (tab 19 (born S c))) before
  pub fair-is : fair ≡ later_fair S w c

-- what the pass leaves of n cells: nine parts a cell still, among the nineteen places those of new cells and of the others, and whether all are fair
pub record Peopled9 (S : Scene) (w : ℕ → Bool) (n : ℕ) (before after : List ℤ) (fair : Bool) : Type 0 where
  pub parts-there : length after ≡ 9 * n
  pub part-is : (c k : ℕ) → c < n → k < 19 → part_of9 after c k ≡ later_part S w (part_of9 before) c k
  pub fair-is : fair ≡ all n (later_fair S w)
