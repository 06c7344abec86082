-- What an interface cell of the flume gains, by its eight directions: the same as stage 2's sum over all places, since an idle place trades nothing.
-- Assumes nothing.
use mathlib.Core.Path.{◌≡◌, sym, ap, ap₂, ◌∙◌}
use mathlib.Core.List.{List}
use Prim.Native.Nat.{ℕ, suc, ◌+◌, ◌-◌, ◌≤◌, ◌<◌}
use native.Mathlib.Nat.{le_of_suc-le-suc}
use native.Mathlib.Omega.{arith}
use lib.IntN.{ℤ, pos, ◌+ℤ◌}
use lib.ListN.{length, get_or}
use Rattle.whole.specs.laws.Machine.{Within}
use Rattle.lattice.specs.Lattice.{pair_opp, d3q19}
use Rattle.lattice.specs.declared.Settings.{Settings}
use Rattle.grid.specs.Step.{traded, traded_mass}
use Rattle.grid.specs.inner.Sight.{sight, Around}
use Rattle.arrivals.specs.inner.Trade.{Trading, passed}
use Rattle.arrivals.proofs.Trades.{amassed, amassed-within, gain, gain-is, odd-opp, even-opp}
use Rattle.arrivals.proofs.Trades as trades
use Rattle.flume.specs.inner.Spread.{wide, spread_lattice}
use Rattle.flume.proofs.Places.{dirs-same, wide-dir}
use Rattle.flume.proofs.Flowing.{traded-none}
use Rattle.nine.specs.inner.Cells.{part_of9}
use Rattle.flumearrivals.specs.inner.Seen.{sight9}
use Rattle.flumearrivals.proofs.Nines.{Paired, part_none}

module _ (flags : List ℕ) (parts masses : List ℤ) (fills off : List ℕ) (low c : ℕ) where
  -- what c gains from direction k, and its mass with what it gains from the first n
  unfoldable pub gain9 : ℕ → ℤ
  gain9 k = gain flags (part_of9 parts) masses fills off low c (wide k)

  unfoldable pub gained9 : ℕ → ℤ
  gained9 n = amassed (get_or masses c (pos 0)) gain9 n

  -- as the loop takes them, two directions a turn
  pub first-is : (k : ℕ) → Paired k → passed flags (part_of9 parts) fills c ((c - low) + get_or off (wide k) 0) (wide k) (wide (k + 1)) ≡ gain9 k
  unfolding gain9 gain
  first-is k p = ap (passed flags (part_of9 parts) fills c ((c - low) + get_or off (wide k) 0) (wide k)) (p.next ∙ sym (odd-opp (wide k) p.odd))

  pub second_is : (k : ℕ) → Paired k → passed flags (part_of9 parts) fills c ((c - low) + get_or off (wide k + 1) 0) (wide (k + 1)) (wide k) ≡ gain9 (k + 1)
  unfolding gain9 gain
  second_is k p =
      ap₂ (λ (i m : ℕ). passed flags (part_of9 parts) fills c ((c - low) + get_or off i 0) (wide (k + 1)) m) (sym p.next) (sym (even-opp (wide k) p.odd) ∙ ap pair_opp (sym p.next))

  pub gained-all : (g : Settings) → gained9 8 ≡ traded_mass (sight9 flags parts masses fills off low g) c
  unfolding gained9 amassed gain9 gain passed traded_mass sight d3q19
  gained-all g =
      ap (λ (z : ℤ). get_or masses c (pos 0) +ℤ z)
      (sym (dirs-same (traded (sight9 flags parts masses fills off low g) c) gain9 (λ k d. sym (gain-is flags (part_of9 parts) masses fills off low c spread_lattice.weight g (wide k)))
      (λ i n. traded-none _ _ _ _ (part_none parts) c i n)))

  -- ---- the bounds of an interface cell
  module _ (t : Trading flags (part_of9 parts) masses fills) (a : Around (length flags) off low c) (f : get_or flags c 3 ≡ 1) where
    pub gain-within : (k : ℕ) → 1 ≤ k → k < 9 → Within (gain9 k) 2359296
    unfolding gain9
    gain-within k h l =
        let d = wide-dir k (record { some = h; most = le_of_suc-le-suc l }) in
        trades.gain-within flags (part_of9 parts) masses fills off low c t a f (wide k) d.some (omega (arith, d.most))

    pub gained-within : (n : ℕ) → n ≤ 8 → Within (gained9 n) 44826624
    unfolding gained9
    gained-within n h =
        amassed-within (get_or masses c (pos 0)) gain9 (t.masses-good.low c a.is-cell f) n (omega arith) (λ b k. gain-within (suc b) (omega arith) (omega arith))

    pub mass-within : (m : ℤ) → ((g : Settings) → m ≡ traded_mass (sight9 flags parts masses fills off low g) c) → Within m 44826624
    mass-within = trades.mass-within flags (part_of9 parts) masses fills off low c t a f spread_lattice.weight
