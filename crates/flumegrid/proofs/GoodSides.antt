-- Good sides of a flume, as bounds that `omega` reads: each side is 3 to 512, and N is at most 262,144. Assumes nothing.
use mathlib.Core.Path.{◌≡◌}
use mathlib.Core.Bool.{true}
use Prim.Native.Nat.{ℕ, ◌≤◌}
use native.Mathlib.Nat.{mul-le-mul}
use lib.Dec.{leb}
use borrow.Author.Tests.{leb-true}
use Rattle.whole.specs.laws.Bools.{and_left, and_right}
use Rattle.flume.specs.declared.FlumeSides.{FlumeSides}
use Rattle.flume.specs.Flume.{flume_side_good, flume_sides_good, flume_cells}

pub record Side (n : ℕ) : Type 0 where
  pub low : 3 ≤ n
  pub high : n ≤ 512

pub record GoodSides (s : FlumeSides) : Type 0 where
  pub x : Side s.nx
  pub z : Side s.nz

side : (n : ℕ) → flume_side_good n ≡ true → Side n
side n e = record { low = leb-true 3 n (and_left (leb 3 n) (leb n 512) e); high = leb-true n 512 (and_right (leb 3 n) (leb n 512) e) }

pub good-sides : (s : FlumeSides) → flume_sides_good s ≡ true → GoodSides s
unfolding flume_sides_good
good-sides s e = record {
  x = side s.nx (and_left (flume_side_good s.nx) (flume_side_good s.nz) e);
  z = side s.nz (and_right (flume_side_good s.nx) (flume_side_good s.nz) e);
}

pub few : (s : FlumeSides) → flume_sides_good s ≡ true → flume_cells s ≤ 262144
unfolding flume_cells
few s e = let g = good-sides s e in mul-le-mul g.x.high g.z.high
