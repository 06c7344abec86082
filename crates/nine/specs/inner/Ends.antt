-- The estimate of p times a flume cell's equilibrium parts: an end for each of the eight, none at the idle places. Assumes nothing.
use Rattle.std.specs.Prelude.{◌≡◌, true, false, List, ℕ, suc, ◌<◌, ◌≤◌, ℤ, get_or}
use Rattle.lattice.specs.declared.Flow.{Flow}
use Rattle.landings.specs.inner.Estimate.{Near}
use Rattle.flume.specs.inner.Spread.{idle, spread_lattice}

-- an end of place i that lacks less than 2^20
pub record Told (v : Flow) (p : ℤ) (i e : ℕ) : Type 0 where
  pub lack : ℕ
  pub small : lack ≤ 1048576
  pub near : Near spread_lattice lack v p i e

-- each of the eight has one, an idle place has 0, and none is above 667,484,160·2^32
pub record EndsNine (v : Flow) (p : ℤ) (e : List ℕ) : Type 0 where
  pub at : (k : ℕ) → k < 18 → idle (suc k) ≡ false → Told v p (suc k) (get_or e k 0)
  pub none : (k : ℕ) → k < 18 → idle (suc k) ≡ true → get_or e k 0 ≡ 0
  pub most : (k : ℕ) → k < 18 → get_or e k 0 ≤ 2866822637798031360
