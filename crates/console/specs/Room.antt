-- How many cells a record asks room for. Assumes nothing.
use Rattle.std.specs.Prelude.{ℕ, ◌*◌, cond, List, leb, length, get_or}

-- the product of the sides' lowest bytes
unfoldable pub low_cells : List ℕ → ℕ
low_cells r = get_or r 4 0 * (get_or r 8 0 * get_or r 12 0)

-- 0 where the sides are cut short or more than `most` cells are asked for
unfoldable pub room_for : List ℕ → ℕ → ℕ
room_for r most = cond (leb 16 (length r)) (cond (leb (low_cells r) most) (low_cells r) 0) 0

-- names every definition of this file: whoever unfolds this computes with all of them
unfoldable pub open-room : Unit {0}
unfolding low_cells room_for
open-room = tt
