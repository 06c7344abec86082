-- What working out an interface cell's fill asks of its parts. Assumes nothing.
use Rattle.std.specs.Prelude.{ℕ, ◌+◌, ◌*◌, ◌<◌, ℤ, pos, ◌<ℤ◌}
use Rattle.whole.specs.laws.Machine.{Within}
use Rattle.lattice.specs.Lattice.{d3q19, density}

-- parts whose sum 32 bits can hold, and a density that can be divided by
pub record Weighty (f : ℕ → ℤ) : Type 0 where
  pub rest : Within (f 0) 1073741824
  pub each : (k : ℕ) → 0 < k → k < 19 → Within (f k) 33554432
  pub some : pos 0 <ℤ density d3q19 f
