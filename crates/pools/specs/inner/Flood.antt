-- What the flood holds on the way: marks that are right where they are set, a queue of the marked cells, and which of them have been looked around.
-- Assumes nothing.
use Rattle.std.specs.Prelude.{◌≡◌, ◌⊎◌, Bool, true, ◌&&◌, not, cond, List, ℕ, ◌+◌, ◌≤◌, ◌<◌, eqb, length, get_or, set}
use Rattle.whole.specs.Fold.{count, tab}
use Rattle.grid.specs.declared.Sides.{Sides}
use Rattle.grid.specs.Grid.{cells_of, grid_of}
use Rattle.grid.specs.State.{liquid, flag_of}
use Rattle.grid.specs.inner.Passes.{Flagged, offset_of}
use Rattle.pools.specs.Pools.{is_lowest, pool_count, mark}

-- cell c has a mark
abbrev pub Marked : List ℕ → ℕ → Type 0
Marked marks c = get_or marks c 0 ≡ 0 → ⊥

-- one cell: where it is liquid and has no mark, it gets the mark m and the next place of the queue
unfoldable pub free : List ℕ → List ℕ → ℕ → Bool
free flags marks e = liquid (get_or flags e 0) && eqb (get_or marks e 0) 0

pub record Touched (flags marks work : List ℕ) (e m tail : ℕ) (r : ℕ) (marks' work' : List ℕ) : Type 0 where
  pub tail-is : r ≡ tail + cond (free flags marks e) 1 0
  pub marks-are : marks' ≡ cond (free flags marks e) (set marks e m) marks
  pub work-is : work' ≡ cond (free flags marks e) (set work tail e) work

pub record Touching (flags marks work : List ℕ) (e tail : ℕ) : Type 0 where
  pub is-cell : e < length flags
  pub few : length flags ≤ 262144
  pub marked : e < length marks
  pub place : free flags marks e ≡ true → tail < length work

-- the flags passed test 4, and the offsets are theirs
pub record Laying (s : Sides) (flags off : List ℕ) : Type 0 where
  pub flagged : Flagged s flags
  pub table : off ≡ tab 19 (offset_of s)

-- marks are right where they are set; the queue's first `tail` places hold cells with a mark, as many as there are
pub record Sound (s : Sides) (flags marks work : List ℕ) (tail : ℕ) : Type 0 where
  pub marks-size : length marks ≡ cells_of s
  pub work-size : length work ≡ cells_of s
  pub tail-is : tail ≡ count (cells_of s) (λ c. not (eqb (get_or marks c 0) 0))
  pub queued : (j : ℕ) → j < tail → (get_or work j 0 < cells_of s) × Marked marks (get_or work j 0)
  pub right : (c : ℕ) → c < cells_of s → Marked marks c → (liquid (flag_of flags c) ≡ true) × (get_or marks c 0 ≡ mark 18 (grid_of s) (flag_of flags) c)

-- cell c stands in the queue, from place a on and before b
pub record Waiting (work : List ℕ) (a b c : ℕ) : Type 0 where
  pub at : ℕ
  pub from : a ≤ at
  pub to : at < b
  pub is : get_or work at 0 ≡ c

-- marks and queue have grown: what was set is as it was, and what is new stands in the queue; no mark passes a bound that held before
pub record Grown (marks work : List ℕ) (tail : ℕ) (marks' work' : List ℕ) (tail' : ℕ) : Type 0 where
  pub longer : tail ≤ tail'
  pub kept : (c : ℕ) → Marked marks c → get_or marks' c 0 ≡ get_or marks c 0
  pub queue : (j : ℕ) → j < tail → get_or work' j 0 ≡ get_or work j 0
  pub new : (c : ℕ) → Marked marks' c → Marked marks c ⊎ Waiting work' tail tail' c
  pub bounded : (p : ℕ) → ((c : ℕ) → get_or marks c 0 ≤ p) → (c : ℕ) → get_or marks' c 0 ≤ p

-- each liquid neighbour of d has a mark
pub record Surrounded (s : Sides) (flags marks : List ℕ) (d : ℕ) : Type 0 where
  pub each : (i : ℕ) → 0 < i → i ≤ 18 → liquid (flag_of flags ((grid_of s).near d i)) ≡ true → Marked marks ((grid_of s).near d i)

-- once cell d has been looked around
pub record Spread (s : Sides) (flags : List ℕ) (d : ℕ) (marks work : List ℕ) (tail : ℕ) (marks' work' : List ℕ) (tail' : ℕ) : Type 0 where
  pub sound : Sound s flags marks' work' tail'
  pub grown : Grown marks work tail marks' work' tail'
  pub done : Surrounded s flags marks' d

-- each marked cell has been looked around, but for those in the queue from `head` on
pub record Behind (s : Sides) (flags marks work : List ℕ) (head tail : ℕ) : Type 0 where
  pub sound : Sound s flags marks work tail
  pub each : (c : ℕ) → c < cells_of s → Marked marks c → Waiting work head tail c ⊎ Surrounded s flags marks c

-- once the queue is empty
pub record Drained (s : Sides) (flags marks work : List ℕ) (tail : ℕ) (marks' work' : List ℕ) (tail' : ℕ) : Type 0 where
  pub sound : Sound s flags marks' work' tail'
  pub grown : Grown marks work tail marks' work' tail'
  pub settled : (c : ℕ) → c < cells_of s → Marked marks' c → Surrounded s flags marks' c

-- before cell c of the scan: every liquid cell below it has its mark, and so have their pools; `number` pools were found
pub record Flooded (s : Sides) (flags marks work : List ℕ) (c tail number : ℕ) : Type 0 where
  pub sound : Sound s flags marks work tail
  pub settled : (d : ℕ) → d < cells_of s → Marked marks d → Surrounded s flags marks d
  pub before : (d : ℕ) → d < c → liquid (flag_of flags d) ≡ true → Marked marks d
  pub number_is : number ≡ count c (is_lowest 18 (grid_of s) (flag_of flags))
  pub bounded : (d : ℕ) → get_or marks d 0 ≤ number

-- the flood is over
pub record Finished (s : Sides) (flags work : List ℕ) (number : ℕ) (marks' work' : List ℕ) : Type 0 where
  pub number_is : number ≡ pool_count 18 (grid_of s) (flag_of flags)
  pub marks-are : marks' ≡ tab (cells_of s) (mark 18 (grid_of s) (flag_of flags))
  pub size : length work' ≡ length work
