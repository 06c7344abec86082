-- What is promised of two schemes on one map over everything that both may do, in the customer's words. Assumes nothing.
use Rattle.std.specs.Prelude.{◌≡◌, true, cond, List, ℕ, ◌<◌, eqb, length, get_or}
use Rattle.whole.specs.Fold.{tab}
use Rattle.lattice.specs.declared.Settings.{Settings}
use Rattle.grid.specs.declared.Sides.{Sides}
use Rattle.grid.specs.Answer.{Done}
use Rattle.grid.specs.Grid.{cells_of}
use Rattle.grid.specs.State.{Lent}
use Rattle.grid.specs.Outcome.{run_first}
use Rattle.pumps.specs.Three.{three_answer}
use Rattle.pumps.specs.Demands.{balance, totalled, Lived}
use Rattle.record.specs.declared.Site.{Site}
use Rattle.record.specs.Layout.{recorded, record_of}
use Rattle.record.specs.Reading.{slices_fit, read_head, read_flags, read_set}
use Rattle.record.specs.Writing.{write_answer}
use Rattle.schemes.specs.Scheme.{wall_at, joined, parted, tested}
use Rattle.isolation.specs.Deeds.{base_of}
use Rattle.isolation.specs.History.{Turn, World, Sound, reached, told, seen}
use Rattle.isolation.specs.Courses.{course, Until18}

-- ---- (d) part and join give a scheme of the same map

-- a grid has flag 3 exactly at the map's walls
pub record Walls (map : List ℕ) (x : Lent) (c : ℕ) : Type 0 where
  pub wall-three : wall_at map c ≡ 1 → get_or x.flags c 3 ≡ 3
  pub three-wall : get_or x.flags c 3 ≡ 3 → wall_at map c ≡ 1

-- x, which came from the grid of scheme a: the parted scheme passes its tests, joined again it is x, and masses + carry + taken − poured are the same
pub record Rejoins (s : Sides) (map : List ℕ) (a x : Lent) : Type 0 where
  pub walls : (c : ℕ) → c < cells_of s → Walls map x c
  pub checked : tested s map (parted s x) true ≡ Done
  pub joins-again : joined s map (parted s x) ≡ x
  pub balance-same : balance s x ≡ balance s (joined s map a)

-- whatever the grid of a scheme reaches by accepted steps, pours and takes, in any order
abbrev pub Carried : Type 0
Carried = (s : Sides) (map : List ℕ) (a x : Lent) → tested s map a true ≡ Done → Lived s (joined s map a) x → Rejoins s map a x

-- and whatever a run leaves of it
abbrev pub CarriedByRun : Type 0
CarriedByRun =
    (s : Sides) (map : List ℕ) (a : Lent) (steps : ℕ) (g : Settings) (second : Lent) (marks : List ℕ) → tested s map a true ≡ Done
    → Rejoins s map a (totalled (run_first steps s g (base_of s map a) second marks) (joined s map a))

-- every good grid begins a scheme: parted, on the map of its own walls, it passes the tests and joins to that grid
abbrev pub walls_of : Sides → Lent → List ℕ
walls_of s x = tab (cells_of s) (λ c. cond (eqb (get_or x.flags c 3) 3) 1 0)

pub record Begins (s : Sides) (x : Lent) : Type 0 where
  pub checked : tested s (walls_of s x) (parted s x) true ≡ Done
  pub joins : joined s (walls_of s x) (parted s x) ≡ x

abbrev pub Begun : Type 0
Begun = (s : Sides) (x : Lent) → three_answer s x ≡ Done → Begins s x

-- ---- (c) isolation

-- two histories from two worlds: the own answers, the own scheme and the map are the same
pub record Alike (s : Sides) (h k : List Turn) (v w : World) : Type 0 where
  pub answers : told s h v ≡ told s k w
  pub own : (reached s h v).own ≡ (reached s k w).own
  pub map_same : (reached s h v).map ≡ (reached s k w).map

-- if they agree on the map and the own scheme at the start, the own deeds, the own questions and which of them were accepted, and the other's accepted
-- changes: whatever else the other is and does
abbrev pub Isolated : Type 0
Isolated =
    (s : Sides) (h k : List Turn) (v w : World) → Sound s v → Sound s w → v.map ≡ w.map → v.own ≡ w.own → seen s h v ≡ seen s k w
    → Alike s h k v w

-- the one exception: if they need not agree on which own questions were accepted, the answers are the same until one of them is an 18 in the one history and
-- accepted in the other
abbrev pub Excepted : Type 0
Excepted =
    (s : Sides) (h k : List Turn) (v w : World) → Sound s v → Sound s w → v.map ≡ w.map → v.own ≡ w.own → course (seen s h v) ≡ course (seen s k w)
    → Until18 (told s h v) (told s k w)

-- ---- demand 3 of each scheme, over any history of both

pub record Balanced (s : Sides) (v w : World) : Type 0 where
  pub own : balance s (joined s v.map v.own) ≡ balance s (joined s w.map w.own)
  pub other : balance s (joined s v.map v.other) ≡ balance s (joined s w.map w.other)

-- both go on passing their tests, and masses + carry + taken − poured of either never change
abbrev pub Conserved : Type 0
Conserved = (s : Sides) (h : List Turn) (w : World) → Sound s w → Sound s (reached s h w) × Balanced s (reached s h w) w

-- ---- demand 2 of each scheme

-- a record written from a scheme's grid reads back as that grid, into any slices of the right lengths, and parts to the same scheme
abbrev pub Recorded : Type 0
Recorded =
    (s : Sides) (g : Settings) (t : Site) (map : List ℕ) (a : Lent) (room : List ℕ) (b : Lent) → tested s map a true ≡ Done → write_answer s g t (joined s map a) room ≡ Done
    → slices_fit (cells_of s) (length b.parts) (length b.masses) (length b.fills) (length b.carry) ≡ true
    → (read_head (record_of s g t (joined s map a)) b ≡ record { answer = Done; sides = s; settings = recorded g; site = t })
    × (read_flags (record_of s g t (joined s map a)) b ≡ (joined s map a).flags)
    × (read_set (record_of s g t (joined s map a)) b ≡ joined s map a)
    × (parted s (read_set (record_of s g t (joined s map a)) b) ≡ a)
