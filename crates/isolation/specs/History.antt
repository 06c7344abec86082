-- A history of two schemes on one map: the deeds and the questions of both in any order, what each is answered, and what one of them sees of it. `own` is
-- the scheme that is looked at, `other` the other one. Assumes nothing.
use Rattle.std.specs.Prelude.{◌≡◌, Bool, true, ◌&&◌, not, cond, List, [], ◌∷◌, ℕ, set}
use Rattle.grid.specs.declared.Sides.{Sides}
use Rattle.grid.specs.Answer.{Answer}
use Rattle.grid.specs.Answer.{Done}
use Rattle.grid.specs.State.{Lent}
use Rattle.grid.specs.Outcome.{accepted}
use Rattle.schemes.specs.Scheme.{tested}
use Rattle.schemes.specs.Outcome.{if_done}
use Rattle.walls.specs.Outcome.{wanted, wall_answer, wall_map, alone_answer}
use Rattle.isolation.specs.Deeds.{Deed, Reply, answered, reply, done}
use Rattle.grid.specs.declared.refusals.Refusal.TheVariants.{InTheWay}
use Rattle.std.specs.Prelude.{Err}

-- a deed on the own scheme; or the question for a wall in a cell (true), or for the wall there to be taken out
pub data Act : Type 0 where
  does : Deed → Act
  asks : Bool → ℕ → Act

-- by whom
pub data Turn : Type 0 where
  mine : Act → Turn
  theirs : Act → Turn

pub record World : Type 0 where
  pub map : List ℕ
  pub own : Lent
  pub other : Lent

abbrev pub world : List ℕ → Lent → Lent → World
world map own other = record { map = map; own = own; other = other }

-- both schemes pass their tests
pub record Sound (s : Sides) (w : World) : Type 0 where
  pub own : tested s w.map w.own true ≡ Done
  pub other : tested s w.map w.other true ≡ Done

-- ---- one turn

abbrev pub after : Sides → Turn → World → World
after s (mine (does d)) w = world w.map (done s w.map w.own d) w.other
after s (mine (asks add c)) w = world (wall_map s w.map w.own w.other add c) w.own w.other
after s (theirs (does d)) w = world w.map w.own (done s w.map w.other d)
after s (theirs (asks add c)) w = world (wall_map s w.map w.other w.own add c) w.own w.other

-- ---- a history

unfoldable pub reached : Sides → List Turn → World → World
reached s [] w = w
reached s (t ∷ h) w = reached s h (after s t w)

-- what the own scheme is answered
unfoldable pub told : Sides → List Turn → World → List Reply
told s [] w = []
told s (mine (does d) ∷ h) w = reply s w.map w.own d ∷ told s h (after s (mine (does d)) w)
told s (mine (asks add c) ∷ h) w = answered (wall_answer s w.map w.own w.other add c) ∷ told s h (after s (mine (asks add c)) w)
told s (theirs t ∷ h) w = told s h (after s (theirs t) w)

-- what the own scheme knows of: its own deeds, whether a change that it asked for was accepted, and the other's accepted changes
pub data Seen : Type 0 where
  did : Deed → Seen
  asked : Bool → ℕ → Bool → Seen
  changed : Bool → ℕ → Seen

abbrev pub also_if : Answer → Seen → List Seen → List Seen
also_if a e rest = if_done a (e ∷ rest) rest

unfoldable pub seen : Sides → List Turn → World → List Seen
seen s [] w = []
seen s (mine (does d) ∷ h) w = did d ∷ seen s h (after s (mine (does d)) w)
seen s (mine (asks add c) ∷ h) w = asked add c (accepted (wall_answer s w.map w.own w.other add c)) ∷ seen s h (after s (mine (asks add c)) w)
seen s (theirs (does d) ∷ h) w = seen s h (after s (theirs (does d)) w)
seen s (theirs (asks add c) ∷ h) w = also_if (wall_answer s w.map w.other w.own add c) (changed add c) (seen s h (after s (theirs (asks add c)) w))

-- ---- the same told from what is seen alone: no other scheme is there

-- the map after a change that was accepted, or not
abbrev pub map_if : Bool → List ℕ → Bool → ℕ → List ℕ
map_if ok map add c = cond ok (set map c (wanted add)) map

-- the answer to a change: the one that is given if nobody else is there, but 18 where that one accepts and the change was not accepted
abbrev pub answer_if : Bool → Answer → ℕ → Answer
answer_if ok alone c = cond (accepted alone && not ok) (Err (InTheWay c)) alone

unfoldable pub replay_told : Sides → List Seen → List ℕ → Lent → List Reply
replay_told s [] map a = []
replay_told s (did d ∷ h) map a = reply s map a d ∷ replay_told s h map (done s map a d)
replay_told s (asked add c ok ∷ h) map a = answered (answer_if ok (alone_answer s map a add c) c) ∷ replay_told s h (map_if ok map add c) a
replay_told s (changed add c ∷ h) map a = replay_told s h (set map c (wanted add)) a

unfoldable pub replay_own : Sides → List Seen → List ℕ → Lent → Lent
replay_own s [] map a = a
replay_own s (did d ∷ h) map a = replay_own s h map (done s map a d)
replay_own s (asked add c ok ∷ h) map a = replay_own s h (map_if ok map add c) a
replay_own s (changed add c ∷ h) map a = replay_own s h (set map c (wanted add)) a

unfoldable pub replay_map : Sides → List Seen → List ℕ → Lent → List ℕ
replay_map s [] map a = map
replay_map s (did d ∷ h) map a = replay_map s h map (done s map a d)
replay_map s (asked add c ok ∷ h) map a = replay_map s h (map_if ok map add c) a
replay_map s (changed add c ∷ h) map a = replay_map s h (set map c (wanted add)) a
