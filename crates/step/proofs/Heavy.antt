-- How large the parts of the next state can be: 32 bits hold their sum, and an interface cell has a density. This is what stage 7 asks. Assumes nothing.
use mathlib.Core.Path.{◌≡◌, sym, ap, subst}
use Prim.Native.Nat.{ℕ, zero, suc, ◌+◌, ◌-◌, ◌*◌, ◌≤◌, ◌<◌}
use native.Mathlib.Nat.{mul-le-mul_left, not-suc-le-zero}
use native.Mathlib.Omega.{arith}
use lib.IntN.{ℤ, pos, nat_abs, ◌+ℤ◌, ◌-ℤ◌, ◌*ℤ◌}
use lib.Signed.{◌≤ℤ◌, ◌<ℤ◌, quot_z}
use Rattle.whole.specs.laws.Bounds.{abs-add, abs-sub, abs-mul, abs-above}
use Rattle.whole.specs.Fold.{dirs}
use Rattle.whole.specs.laws.Machine.{Within, within_by}
use Rattle.whole.specs.laws.Parts.{≤-parts, parts-<}
use Rattle.whole.specs.laws.Sums.{sum-abs}
use Rattle.lattice.specs.Lattice.{dot, d3q19, density}
use Rattle.lattice.specs.Cell.{quad, relaxed, cut_equilibrium}
use Rattle.lattice.proofs.Reading.{reading, is-least}
use Rattle.lattice.specs.inner.Held.{vec, Tame}
use Rattle.lattice.specs.declared.Flow.{Flow}
use Rattle.grid.proofs.Same.{density-same}
use Rattle.arrivals.proofs.Spans.{short}
use Rattle.grid.specs.inner.Fill.{Weighty}

-- ---- the formulas of stages 4 and 5
module _ {ρ : ℤ} (low : pos 294912 ≤ℤ ρ) (high : Within ρ 1179648) where
  quad-in : {a j : ℤ} → Within a 1179648 → Within j 463856467968 → Within (quad ρ a j) 26000000000000
  unfolding quad
  quad-in {a} {j} ha hj = within_by (search reading depth 30 fits 5000) tt

  -- 72ρ and 73,728ρ are far from 0
  far : (k : ℕ) → k * 294912 ≤ nat_abs (pos k *ℤ ρ)
  far k = omega (arith, abs-mul (pos k) ρ, mul-le-mul_left k (abs-above low))

  cut-still : {w q : ℤ} → Within w 4 → Within q 26000000000000 → Within (quot_z (w *ℤ q) (pos 72 *ℤ ρ)) 33554432
  cut-still {w} {q} hw hq = let d = is-least (pos 72 *ℤ ρ) 21233664 (far 72) in within_by (search reading depth 20) tt

  pub equilibrium-in : {w : ℕ} {q : ℤ} → w ≤ 4 → Within q 26000000000000 → Within (cut_equilibrium w q ρ) 33554432
  unfolding cut_equilibrium
  equilibrium-in {w} {q} hw hq = cut-still {w = pos w} (record { abs = hw }) hq

  cut-relaxed : {p f q w : ℤ} → Within p 2037 → Within w 4 → Within q 26000000000000 → Within f 1572864
      → Within (f +ℤ quot_z (p *ℤ (w *ℤ q -ℤ pos 72 *ℤ (ρ *ℤ f))) (pos 73728 *ℤ ρ)) 33554432
  cut-relaxed {p} {f} {q} {w} hp hw hq hf = let d = is-least (pos 73728 *ℤ ρ) 21743271936 (far 73728) in within_by (search reading depth 30 fits 5000) tt

  pub relaxed-in : {p f q : ℤ} {w : ℕ} → Within p 2037 → w ≤ 4 → Within q 26000000000000 → Within f 1572864 → Within (relaxed p w q ρ f) 33554432
  unfolding relaxed
  relaxed-in {w = w} hp hw hq hf = cut-relaxed {w = pos w} hp (record { abs = hw }) hq hf

-- ---- a cell whose part 0 is what the others leave of ρ
module _ (ρ : ℤ) (d : ℕ → ℤ) (f : ℕ → ℤ) (first : f 0 ≡ ρ -ℤ dirs 18 d) (others : (a : ℕ) → f (suc a) ≡ d (suc a))
    (low : pos 294912 ≤ℤ ρ) (high : Within ρ 1179648) (small : (i : ℕ) → 1 ≤ i → i < 19 → Within (d i) 33554432) (whole : density d3q19 f ≡ ρ) where
  pub weighty : Weighty f
  weighty = record {
    rest = record { abs = omega (arith, ap nat_abs first, abs-sub ρ (dirs 18 d), high.abs, sum-abs 18 (λ a. d (suc a)) 33554432 (λ a k. (small (suc a) (omega arith) (omega arith)).abs)) };
    each = λ k z h. each k z h;
    some = subst (λ (z : ℤ). pos 0 <ℤ z) (sym whole) (parts-< (omega (arith, ≤-parts low)));
  }
    where
      each : (k : ℕ) → 0 < k → k < 19 → Within (f k) 33554432
      each zero z h = absurd (not-suc-le-zero z)
      each (suc a) z h = subst (λ (x : ℤ). Within x 33554432) (sym (others a)) (small (suc a) (omega arith) h)

-- ---- a flow that passed stage 3's test, or a mean of such
module _ (v : Flow) (t : Tame v) where
  along : (i : ℕ) → i < 19 → Within (dot (d3q19.e i) (vec v)) 1179648
  along i h =
      let e = d3q19.e i in
      record {
        abs = omega (
          arith,
          abs-add (e.x *ℤ v.x +ℤ e.y *ℤ v.y) (e.z *ℤ v.z),
          abs-add (e.x *ℤ v.x) (e.y *ℤ v.y),
          abs-mul e.x v.x,
          abs-mul e.y v.y,
          abs-mul e.z v.z,
          mul-le-mul_left (nat_abs e.x) t.x.abs,
          mul-le-mul_left (nat_abs e.y) t.y.abs,
          mul-le-mul_left (nat_abs e.z) t.z.abs,
          short i h,
        );
      }

  square : Within (dot (vec v) (vec v)) 463856467968
  square = let x = t.x in let y = t.y in let z = t.z in within_by (search reading depth 20) tt

  pub quad-of : (i : ℕ) → i < 19 → Within (quad v.rho (dot (d3q19.e i) (vec v)) (dot (vec v) (vec v))) 26000000000000
  quad-of i h = quad-in t.low t.rho (along i h) square

-- ---- the same parts, read otherwise
pub weighty-same : (f h : ℕ → ℤ) → ((k : ℕ) → k ≤ 18 → f k ≡ h k) → Weighty f → Weighty h
unfolding d3q19
weighty-same f h e w = record {
  rest = subst (λ (z : ℤ). Within z 1073741824) (e 0 (omega arith)) w.rest;
  each = λ k z l. subst (λ (x : ℤ). Within x 33554432) (e k (omega arith)) (w.each k z l);
  some = subst (λ (z : ℤ). pos 0 <ℤ z) (density-same d3q19 f h e) w.some;
}
