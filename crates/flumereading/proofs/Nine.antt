-- Nine parts at their places in an array: their density and their rules are the flume's own, and the array's numbers are in their ranges. Assumes nothing.
use mathlib.Core.Path.{◌≡◌, sym, ap, ◌∙◌, subst}
use mathlib.Core.Bool.{◌&&◌}
use mathlib.Core.List.{List}
use Prim.Native.Nat.{ℕ, zero, suc, ◌<◌}
use native.Mathlib.Omega.{arith}
use lib.IntN.{ℤ, pos}
use lib.ListN.{get_or}
use Rattle.whole.specs.Fold.{tab}
use Rattle.whole.specs.laws.Machine.{Within}
use Rattle.whole.specs.laws.Tab.{get_or-tab}
use Rattle.lattice.specs.Lattice.{dot, d3q19, d2q9, density, momentum}
use Rattle.lattice.specs.Cell.{part_good, dense, slow}
use Rattle.lattice.specs.inner.Held.{parts_of, Bounded}
use Rattle.lattice.specs.Body.{body_good}
use Rattle.grid.proofs.Same.{density-same, body_same}
use Rattle.flume.specs.inner.Spread.{wide, spread, Spreads}
use Rattle.flume.proofs.Places.{at_places, spread_at, spread_none, tests_same}
use Rattle.flume.proofs.Flowing as flowing
use Rattle.record.proofs.ByFlag.{bounded-by}

module _ (g : ℕ → ℤ) where
  spreads : Spreads (spread (pos 0) g) g
  spreads = record { at = spread_at (pos 0) g; none = spread_none (pos 0) g }

  -- no weight is read
  spread-density : density d3q19 (spread (pos 0) g) ≡ density d2q9 g
  unfolding density
  spread-density = flowing.density-same (spread (pos 0) g) g spreads

  spread-body : body_good d3q19 (spread (pos 0) g) ≡ body_good d2q9 g
  unfolding body_good density momentum d3q19 d2q9 wide
  spread-body j =
      let m = flowing.momentum-same (spread (pos 0) g) g spreads j in
      let ρ = flowing.density-same (spread (pos 0) g) g spreads j in
      tests_same (λ k. part_good (spread (pos 0) g k)) (λ k. part_good (g k)) (ap part_good (spread_at (pos 0) g 0 (omega arith)))
      (λ k d. ap part_good (spread_at (pos 0) g k d.most)) (λ i n. ap part_good (spread_none (pos 0) g i n)) j
      && dense ρ && slow ρ (dot m m)

  -- each place is in its range
  within : ((k : ℕ) → k < 9 → Within (g k) 1179648) → (i : ℕ) → i < 19 → Within (spread (pos 0) g i) 1179648
  unfolding wide
  within h zero l = subst (λ (z : ℤ). Within z 1179648) (sym (spread_at (pos 0) g 0 (omega arith))) (h 0 (omega arith))
  within h (suc i) l =
      at_places (λ j. Within (spread (pos 0) g j) 1179648)
      (λ k d. subst (λ (z : ℤ). Within z 1179648) (sym (spread_at (pos 0) g k d.most)) (h k (let m = d.most in omega arith)))
      (λ j n. subst (λ (z : ℤ). Within z 1179648) (sym (spread_none (pos 0) g j n)) (record { abs = omega arith }))
      (suc i) (record { some = omega arith; most = omega arith })

  module _ (v : List ℤ) (is : v ≡ tab 19 (spread (pos 0) g)) where
    at : (k : ℕ) → k < 19 → parts_of v k ≡ spread (pos 0) g k
    at k h = ap (λ (l : List ℤ). get_or l k (pos 0)) is ∙ get_or-tab 19 (spread (pos 0) g) (pos 0) k h

    pub nine-density : density d3q19 (parts_of v) ≡ density d2q9 g
    unfolding d3q19
    nine-density = density-same d3q19 (parts_of v) (spread (pos 0) g) (λ k h. at k (omega arith)) ∙ spread-density

    pub nine-body : body_good d3q19 (parts_of v) ≡ body_good d2q9 g
    unfolding d3q19
    nine-body = body_same d3q19 (parts_of v) (spread (pos 0) g) (λ k h. at k (omega arith)) ∙ spread-body

    pub nine-bounded : ((k : ℕ) → k < 9 → Within (g k) 1179648) → Bounded v 1073741824 33554432
    nine-bounded h = bounded-by (spread (pos 0) g) v is (within h)
