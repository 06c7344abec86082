-- Stages 2 and 5 of one cell over the box's lent lists: what the trade of mass asks, and the mark that comes of it. Assumes nothing.
use Rattle.std.specs.Prelude.{cond, List, ℕ, ℤ}
use Rattle.lattice.specs.Cell.{over, under}
use Rattle.grid.specs.State.{by_flag, part_of}
use Rattle.grid.specs.inner.Sight.{Bodied, bodies_of}
use Rattle.arrivals.specs.inner.Trade.{Fills, Masses, Trading}

-- the box's
pub record Traders (flags : List ℕ) (parts masses : List ℤ) (fills : List ℕ) : Type 0 where
  pub bodies : Bodied flags parts
  pub masses-good : Masses flags masses
  pub fills-good : Fills flags fills

abbrev pub trading_of : {flags : List ℕ} {parts masses : List ℤ} {fills : List ℕ} → Traders flags parts masses fills → Trading flags (part_of parts) masses fills
trading_of t = record { bodies = bodies_of t.bodies; masses-good = t.masses-good; fills-good = t.fills-good }

-- 1 where an interface cell of mass m at density ρ is filled, 2 where it would be emptied, else 0
unfoldable pub mark_for : ℕ → ℤ → ℤ → ℕ
mark_for f m ρ = by_flag f 0 (cond (over m ρ) 1 (cond (under m ρ) 2 0)) 0 0
