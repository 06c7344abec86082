-- What the passes of a step leave in the second set, part of the way: after stages 1 to 4, and after the conversion. Assumes nothing.
use Rattle.std.specs.Prelude.{◌≡◌, Bool, true, false, cond, List, [], ◌∷◌, ℕ, ◌*◌, ◌/◌, ◌%◌, ◌≤◌, ◌<◌, ℤ, pos, length, get_or, replicate}
use Rattle.whole.specs.Fold.{tab, first}
use Rattle.lattice.specs.Lattice.{d3q19}
use Rattle.lattice.specs.Cell.{carry_good}
use Rattle.lattice.specs.declared.Settings.{Settings}
use Rattle.grid.specs.declared.Sides.{Sides}
use Rattle.grid.specs.Answer.{Answer}
use Rattle.grid.specs.Grid.{cells_of}
use Rattle.grid.specs.State.{Lent, Scene, part_of, liquid}
use Rattle.grid.specs.Step.{flag_at, unsteady, collided, new_flag, new_part, new_mass, new_carry}
use Rattle.lattice.specs.Body.{body_good}
use Rattle.grid.specs.Outcome.{accepted, move_answer, scene_of, next_of}
use Rattle.grid.specs.inner.Between.{Ready, moved_part, moved_mass, first_mark}

-- where a set's flag is dry its parts are 0: so it is in a good state; of a set whose flags are all 1 it says nothing
abbrev pub Dried : List ℕ → List ℤ → Type 0
Dried flags parts = (c k : ℕ) → c < length flags → k < 19 → liquid (get_or flags c 3) ≡ false → part_of parts c k ≡ pos 0

-- two sets with slices of the same lengths
pub record Alike (a b : Lent) : Type 0 where
  pub flags : length b.flags ≡ length a.flags
  pub parts : length b.parts ≡ length a.parts
  pub masses : length b.masses ≡ length a.masses
  pub fills : length b.fills ≡ length a.fills
  pub carry : length b.carry ≡ length a.carry

-- stages 1 to 4 are made and no cell was unsteady; fair: each liquid cell's parts keep test 6's rules; calm: nothing converts
pub record Moved (S : Scene) (n : ℕ) (parts masses : List ℤ) (marks : List ℕ) (fair calm : Bool) : Type 0 where
  pub steady : n ≤ first n (unsteady S)
  pub parts_are : parts ≡ tab (19 * n) (λ m. moved_part S (m / 19) (m % 19))
  pub masses-are : masses ≡ tab n (moved_mass S)
  pub marks-are : marks ≡ tab n (first_mark S)
  pub fair-tells : fair ≡ true → (c : ℕ) → c < n → liquid (flag_at S c) ≡ true → body_good d3q19 (collided S c) ≡ true
  pub calm-tells : calm ≡ true → (c : ℕ) → c < n → first_mark S c ≡ 0

-- the conversion is made: flags, parts, masses and carry are the next state's, and no mark is left
pub record Turned (S : Scene) (n : ℕ) (flags : List ℕ) (parts masses carry : List ℤ) (marks : List ℕ) (fair : Bool) : Type 0 where
  pub flags-are : flags ≡ tab n (new_flag S)
  pub parts_are : parts ≡ tab (19 * n) (λ m. new_part S (m / 19) (m % 19))
  pub masses-are : masses ≡ tab n (new_mass S)
  pub carry-is : carry ≡ new_carry S ∷ []
  pub marks-are : marks ≡ replicate n 0
  pub newborn : fair ≡ true → (c : ℕ) → c < n → flag_at S c ≡ 0 → new_flag S c ≡ 1 → body_good d3q19 (new_part S c) ≡ true
  pub carry-fair : fair ≡ true → carry_good (new_carry S) ≡ true

-- what the conversion asks: a set that is ready, stages 1 to 4 made, and room for flags and carry
pub record Turning (s : Sides) (g : Settings) (a : Lent) (flags : List ℕ) (parts masses carry : List ℤ) (marks : List ℕ) (calm : Bool) : Type 0 where
  pub ready : Ready s g a
  pub moved : Moved (scene_of s g a) (cells_of s) parts masses marks false calm
  pub flags-room : length flags ≡ cells_of s
  pub carry-room : length carry ≡ 1

-- ---- a step of a set that passed tests 1 to 6

-- what it asks: the first set ready, the second alike, N marks
pub record Stepping (s : Sides) (g : Settings) (a b : Lent) (marks : List ℕ) : Type 0 where
  pub ready : Ready s g a
  pub alike : Alike a b
  pub marks-room : length marks ≡ cells_of s

-- what a step within a run asks besides: the flags of the set that it writes tell where parts are 0 already
pub record Resuming (s : Sides) (g : Settings) (a b : Lent) (marks : List ℕ) : Type 0 where
  pub stepping : Stepping s g a b marks
  pub dried : Dried b.flags b.parts

-- what it leaves: tests 7 and 8 answer; the next state, or after a refusal a copy of the first set; marks 0
pub record Advanced (s : Sides) (g : Settings) (a : Lent) (answer : Answer) (second : Lent) (after : List ℕ) : Type 0 where
  pub answer-is : answer ≡ move_answer (scene_of s g a)
  pub second_is : second ≡ cond (accepted (move_answer (scene_of s g a))) (next_of s g a) a
  pub marks-are : after ≡ replicate (cells_of s) 0
