-- Stage 5's new interface cells over lent lists: what the means over neighbours ask, and what they are on the way. Assumes nothing.
use Rattle.std.specs.Prelude.{◌≡◌, Bool, true, ◌&&◌, cond, List, [], ℕ, ◌+◌, ◌*◌, ◌/◌, ◌%◌, ◌<◌, ℤ, pos, ◌+ℤ◌, ◌<ℤ◌, eqb, length, get_or}
use Rattle.std.specs.Int.Signed.{quot_z}
use Rattle.whole.specs.Fold.{tab, all}
use Rattle.whole.specs.laws.Machine.{Within}
use Rattle.lattice.specs.Lattice.{dot, d3q19}
use Rattle.lattice.specs.Cell.{dense, slow, gravity_good}
use Rattle.lattice.specs.inner.Held.{vec}
use Rattle.lattice.specs.Body.{body_good}
use Rattle.lattice.specs.declared.Flow.{Flow}
use Rattle.lattice.specs.declared.Settings.{Settings}
use Rattle.grid.specs.State.{Scene, liquid, part_of}
use Rattle.grid.specs.Step.{flag_at, streamed_density, streamed_momentum, liquid_near, born_density, born_momentum, born}
use Rattle.grid.specs.inner.Pasted.{pasted}
use Rattle.grid.specs.inner.Sight.{Bodies, Bodied, bodies_of, Around, sight, box_sight}
use Rattle.arrivals.specs.inner.Sources.{Enclosed}
use Rattle.arrivals.specs.inner.Trade.{Fills}
use Rattle.conversion.specs.declared.birth.Sum.{Sum}

-- stage 3 has passed: every liquid cell's ρ' and j' are in their ranges; whatever is no wall has all its neighbours, and no fluid cell an empty one
pub record Tested (flags : List ℕ) (parts : List ℤ) (fills off : List ℕ) (low : ℕ) (g : Settings) : Type 0 where
  pub bodies : Bodied flags parts
  pub fills-good : Fills flags fills
  pub gravity : gravity_good g.gx g.gy g.gz ≡ true
  pub around : (c : ℕ) → c < length flags → get_or flags c 3 < 3 → Around (length flags) off low c
  pub enclosed : (c : ℕ) → c < length flags → Enclosed flags off low c
  pub is-dense : (c : ℕ) → c < length flags → liquid (get_or flags c 3) ≡ true → dense (streamed_density (box_sight flags parts [] fills off low g) c) ≡ true
  pub is-slow : (c : ℕ) → c < length flags → liquid (get_or flags c 3) ≡ true
      → slow (streamed_density (box_sight flags parts [] fills off low g) c) (dot (streamed_momentum (box_sight flags parts [] fills off low g) c) (streamed_momentum (box_sight flags parts [] fills off low g) c)) ≡ true

-- the same over any parts and weights
pub record TestedOn (weights : ℕ → ℕ) (flags : List ℕ) (part : ℕ → ℕ → ℤ) (fills off : List ℕ) (low : ℕ) (g : Settings) : Type 0 where
  pub bodies : Bodies flags part
  pub around : (c : ℕ) → c < length flags → get_or flags c 3 < 3 → Around (length flags) off low c
  pub is-dense : (c : ℕ) → c < length flags → liquid (get_or flags c 3) ≡ true → dense (streamed_density (sight weights flags part [] fills off low g) c) ≡ true
  pub is-slow : (c : ℕ) → c < length flags → liquid (get_or flags c 3) ≡ true
      → slow (streamed_density (sight weights flags part [] fills off low g) c)
      (dot (streamed_momentum (sight weights flags part [] fills off low g) c) (streamed_momentum (sight weights flags part [] fills off low g) c)) ≡ true

abbrev pub tested_of : {flags : List ℕ} {parts : List ℤ} {fills off : List ℕ} {low : ℕ} {g : Settings} → Tested flags parts fills off low g → TestedOn d3q19.weight flags (part_of parts) fills off low g
tested_of t = record { bodies = bodies_of t.bodies; around = t.around; is-dense = t.is-dense; is-slow = t.is-slow }

-- sums that one more cell cannot overflow
pub record Roomy (t : Sum) : Type 0 where
  pub n : Within t.n 1000000000000
  pub rho : Within t.rho 1000000000000
  pub x : Within t.x 1000000000000
  pub y : Within t.y 1000000000000
  pub z : Within t.z 1000000000000

-- v is the flow of cell c after stage 3
pub record NewFlow (S : Scene) (c : ℕ) (v : Flow) : Type 0 where
  pub rho : v.rho ≡ streamed_density S c
  pub x : v.x ≡ (streamed_momentum S c).x
  pub y : v.y ≡ (streamed_momentum S c).y
  pub z : v.z ≡ (streamed_momentum S c).z

-- one cell more, of flow v
pub record Joined (t : Sum) (v : Flow) (r : Sum) : Type 0 where
  pub n : r.n ≡ t.n +ℤ pos 1
  pub rho : r.rho ≡ t.rho +ℤ v.rho
  pub x : r.x ≡ t.x +ℤ v.x
  pub y : r.y ≡ t.y +ℤ v.y
  pub z : r.z ≡ t.z +ℤ v.z

-- cell b is counted in, where it is liquid
pub record Added (S : Scene) (t : Sum) (b : ℕ) (r : Sum) : Type 0 where
  pub n : r.n ≡ t.n +ℤ cond (liquid (flag_at S b)) (pos 1) (pos 0)
  pub rho : r.rho ≡ t.rho +ℤ cond (liquid (flag_at S b)) (streamed_density S b) (pos 0)
  pub x : r.x ≡ t.x +ℤ cond (liquid (flag_at S b)) (streamed_momentum S b).x (pos 0)
  pub y : r.y ≡ t.y +ℤ cond (liquid (flag_at S b)) (streamed_momentum S b).y (pos 0)
  pub z : r.z ≡ t.z +ℤ cond (liquid (flag_at S b)) (streamed_momentum S b).z (pos 0)

-- sums of at least one cell, whose means fit 32 bits
pub record Countable (t : Sum) : Type 0 where
  pub some : pos 0 <ℤ t.n
  pub rho : Within t.rho 21233664
  pub x : Within t.x 21233664
  pub y : Within t.y 21233664
  pub z : Within t.z 21233664

-- cut means
pub record Meant (t : Sum) (r : Flow) : Type 0 where
  pub rho : r.rho ≡ quot_z t.rho t.n
  pub x : r.x ≡ quot_z t.x t.n
  pub y : r.y ≡ quot_z t.y t.n
  pub z : r.z ≡ quot_z t.z t.n

-- the flow that a new interface cell begins with
pub record Begins (S : Scene) (c : ℕ) (r : Flow) : Type 0 where
  pub rho : r.rho ≡ born_density S c
  pub momentum : vec r ≡ born_momentum S c

-- ---- the pass: empty cells that become interface cells get their parts

-- cell c was empty and is interface
unfoldable pub newly_born : List ℕ → List ℕ → ℕ → Bool
newly_born flags flags2 c = eqb (get_or flags c 3) 0 && eqb (get_or flags2 c 3) 1

-- each of them has a neighbour that was liquid
pub record Fertile (flags : List ℕ) (parts : List ℤ) (fills off : List ℕ) (low : ℕ) (g : Settings) (flags2 : List ℕ) : Type 0 where
  pub tested : Tested flags parts fills off low g
  pub count : length flags2 ≡ length flags
  pub fed : (c : ℕ) → c < length flags → newly_born flags flags2 c ≡ true → 0 < liquid_near (box_sight flags parts [] fills off low g) c

-- cell c's parts are written, and fair says whether they keep a liquid cell's rules
pub record Placed (S : Scene) (c : ℕ) (before after : List ℤ) (fair : Bool) : Type 0 where
  pub parts : after ≡ pasted before (19 * c) (tab 19 (born S c))
  pub fair-is : fair ≡ body_good d3q19 (born S c)

-- the same where the cell is one of those that pass w; any other stays as it is
pub record Visited (S : Scene) (w : ℕ → Bool) (c : ℕ) (before after : List ℤ) (fair : Bool) : Type 0 where
  pub parts : after ≡ cond (w c) (pasted before (19 * c) (tab 19 (born S c))) before
  pub fair-is : fair ≡ cond (w c) (body_good d3q19 (born S c)) true

-- a cell's parts after the pass, and whether it is fair
unfoldable pub later_part : Scene → (ℕ → Bool) → (ℕ → ℕ → ℤ) → ℕ → ℕ → ℤ
later_part S w before c k = cond (w c) (born S c k) (before c k)

unfoldable pub later_fair : Scene → (ℕ → Bool) → ℕ → Bool
later_fair S w c = cond (w c) (body_good d3q19 (born S c)) true

-- what the pass leaves of n cells of the box
pub record Peopled (S : Scene) (w : ℕ → Bool) (n : ℕ) (before after : List ℤ) (fair : Bool) : Type 0 where
  pub parts : after ≡ tab (19 * n) (λ m. later_part S w (part_of before) (m / 19) (m % 19))
  pub fair-is : fair ≡ all n (later_fair S w)
