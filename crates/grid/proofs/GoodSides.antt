-- Good sides, as bounds that `omega` reads: each side is 3 to 128, and N is at most 262,144. Assumes nothing.
use mathlib.Core.Path.{◌≡◌}
use mathlib.Core.Bool.{true, ◌&&◌}
use Prim.Native.Nat.{ℕ, ◌*◌, ◌≤◌}
use lib.Dec.{leb}
use borrow.Author.Tests.{leb-true}
use Rattle.whole.specs.laws.Bools.{and_left, and_right}
use Rattle.grid.specs.declared.Sides.{Sides}
use Rattle.grid.specs.Grid.{side_good, sides_good, cells_of}

pub record Side (n : ℕ) : Type 0 where
  pub low : 3 ≤ n
  pub high : n ≤ 128

pub record GoodSides (s : Sides) : Type 0 where
  pub x : Side s.nx
  pub y : Side s.ny
  pub z : Side s.nz
  pub all : s.nx * (s.ny * s.nz) ≤ 262144

pub side : (n : ℕ) → side_good n ≡ true → Side n
side n e = record { low = leb-true 3 n (and_left (leb 3 n) (leb n 128) e); high = leb-true n 128 (and_right (leb 3 n) (leb n 128) e) }

pub good-sides : (s : Sides) → sides_good s ≡ true → GoodSides s
unfolding sides_good cells_of
good-sides s e =
    let xyz = and_left (side_good s.nx && side_good s.ny && side_good s.nz) (leb (cells_of s) 262144) e in
    let xy = and_left (side_good s.nx && side_good s.ny) (side_good s.nz) xyz in
    record {
      x = side s.nx (and_left (side_good s.nx) (side_good s.ny) xy);
      y = side s.ny (and_right (side_good s.nx) (side_good s.ny) xy);
      z = side s.nz (and_right (side_good s.nx && side_good s.ny) (side_good s.nz) xyz);
      all = leb-true (cells_of s) 262144 (and_right (side_good s.nx && side_good s.ny && side_good s.nz) (leb (cells_of s) 262144) e);
    }
