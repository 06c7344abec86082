-- The three ways in which `room_for` comes out. Assumes nothing.
use mathlib.Core.Path.{◌≡◌, sym}
use Prim.Native.Nat.{ℕ, ◌≤◌, ◌<◌}
use mathlib.Core.List.{List}
use lib.ListN.{length}
use borrow.Author.Tests.{le-leb, lt-leb}
use Rattle.console.specs.Room.{low_cells, room_for}

pub room_short : (r : List ℕ) (most : ℕ) → length r < 16 → 0 ≡ room_for r most
unfolding room_for
room_short r most h = simp (lt-leb 16 (length r) h)

pub room-over : (r : List ℕ) (most n : ℕ) → 16 ≤ length r → n ≡ low_cells r → most < n → 0 ≡ room_for r most
unfolding room_for
room-over r most n h e k = simp (le-leb 16 (length r) h, sym e, lt-leb n most k)

pub room-enough : (r : List ℕ) (most n : ℕ) → 16 ≤ length r → n ≡ low_cells r → n ≤ most → n ≡ room_for r most
unfolding room_for
room-enough r most n h e k = simp (le-leb 16 (length r) h, sym e, le-leb n most k)
