-- What the question "one pool or three?" answers, and what each lent slice then holds, for every input. Assumes nothing.
use Rattle.std.specs.Prelude.{◌≡◌, Bool, true, false, ◌&&◌, List, ◌++◌, ℕ, suc, ℤ, leb, eqb, length, drop, replicate, Result, Ok, Err}
use Rattle.whole.specs.Fold.{tab}
use Rattle.grid.specs.declared.Sides.{Sides}
use Rattle.grid.specs.Answer.{Answer, Done, refusal_number, refusal_place}
use Rattle.grid.specs.declared.refusals.Refusal.{Refusal}
use Rattle.grid.specs.Grid.{cells_of, sides_good, grid_of}
use Rattle.grid.specs.State.{Lent, state_of, flag_of}
use Rattle.grid.specs.Outcome.{or_refuse}
use Rattle.pumps.specs.Three.{three_lengths, three_good}
use Rattle.pools.specs.Pools.{pool_count, mark, pool_cells, pool_water}
use Rattle.grid.specs.declared.refusals.Refusal.TheVariants.{BadLength, BadPools, BadSides}

-- the number of pools, or the refusal
abbrev pub Told : Type 0
Told = Result ℕ Refusal

-- the paper's number and place of each case, 0 0 if accepted, and the number of pools, 0 beside a refusal
abbrev pub told_number : Told → ℕ
told_number (Ok k) = 0
told_number (Err refusal) = refusal_number refusal

abbrev pub told_place : Told → ℕ
told_place (Ok k) = 0
told_place (Err refusal) = refusal_place refusal

abbrev pub told_pools : Told → ℕ
told_pools (Ok k) = k
told_pools (Err refusal) = 0

-- what is lent besides the set: N marks, N numbers to work with, and a list of as many counts as waters
pub record Room : Type 0 where
  pub marks : List ℕ
  pub work : List ℕ
  pub counts : List ℕ
  pub waters : List ℤ

abbrev pub room : List ℕ → List ℕ → List ℕ → List ℤ → Room
room marks work counts waters = record { marks = marks; work = work; counts = counts; waters = waters }

-- D3Q19's pools of a lent set's flags, and their masses
abbrev pub mark_of : Sides → List ℕ → ℕ → ℕ
mark_of s flags c = mark 18 (grid_of s) (flag_of flags) c

abbrev pub count_of : Sides → List ℕ → ℕ
count_of s flags = pool_count 18 (grid_of s) (flag_of flags)

abbrev pub cells_in : Sides → List ℕ → ℕ → ℕ
cells_in s flags k = pool_cells 18 (grid_of s) (flag_of flags) k

abbrev pub water_in : Sides → Lent → ℕ → ℤ
water_in s a k = pool_water 18 (grid_of s) (flag_of a.flags) (state_of 18 a).mass k

-- tests 1, 2, 4, 5 and 6 of a set with three totals, and of the other slices' lengths
unfoldable pub tested : Sides → Lent → Room → Answer
tested s a r =
    or_refuse (sides_good s) BadSides
    (or_refuse (three_lengths (cells_of s) a && eqb (length r.marks) (cells_of s) && eqb (length r.work) (cells_of s) && eqb (length r.counts) (length r.waters)) BadLength
    (three_good s a Done))

-- 21, after 6: the list has room for fewer pools than there are
unfoldable pub fits : Sides → Lent → Room → Bool
fits s a r = leb (count_of s a.flags) (length r.counts)

-- by the tests: refused before 21, which writes nothing; refused with 21; accepted
module _ {ℓ} {A : Type ℓ} where
  abbrev pub by_tests : Answer → Bool → (Refusal → A) → A → A → A
  by_tests (Ok _) true untouched short told = told
  by_tests (Ok _) false untouched short told = short
  by_tests (Err refusal) b untouched short told = untouched refusal

unfoldable pub pools_answer : Sides → Lent → Room → Told
pools_answer s a r = by_tests (tested s a r) (fits s a r) Err (Err (BadPools (count_of s a.flags))) (Ok (count_of s a.flags))

-- the lent slices: each cell's mark, the work's numbers 0, and each pool's cells and water at the head of the list, what stands after them untouched
unfoldable pub pools_room : Sides → Lent → Room → Room
pools_room s a r =
    by_tests (tested s a r) (fits s a r) (λ refusal. r)
    (room (replicate (cells_of s) 0) (replicate (cells_of s) 0) r.counts r.waters)
    (room (tab (cells_of s) (mark_of s a.flags)) (replicate (cells_of s) 0)
    (tab (count_of s a.flags) (λ k. cells_in s a.flags (suc k)) ++ drop (count_of s a.flags) r.counts)
    (tab (count_of s a.flags) (λ k. water_in s a (suc k)) ++ drop (count_of s a.flags) r.waters))

-- what the call promises of its answer and of every lent slice
pub record Asked (s : Sides) (a : Lent) (r : Room) (told : Told) (after : Room) : Type 0 where
  pub told_is : told ≡ pools_answer s a r
  pub room-is : after ≡ pools_room s a r

-- names every definition of this file: whoever unfolds this computes with all of them
unfoldable pub open-outcome : Unit {0}
unfolding tested fits pools_answer pools_room
open-outcome = tt
