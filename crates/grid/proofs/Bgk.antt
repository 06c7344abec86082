-- Bgk: demand 2's bounds. In a cell that stays liquid each moving part lies less than one unit from the exact BGK value of the streamed parts at stage 3's
-- momentum, the rest part less than as many units as there are directions. Stated without fractions, multiplied through by 73,728·ρ'. The idea: a cut
-- quotient lies less than one from the quotient; the rest part's error is the others' errors together, since the equilibrium adds up to ρ'. Assumes nothing.
use mathlib.Core.Path.{◌≡◌, refl, sym, ap, ap₂, ◌∙◌, subst}
use mathlib.Core.List.{[], ◌∷◌}
use Prim.Native.Nat.{ℕ, zero, suc, ◌+◌, ◌*◌, ◌≤◌, ◌<◌}
use native.Mathlib.Nat.{lt_irrefl, not-suc-le-zero, le_of_suc-le-suc}
use native.Mathlib.Omega.{arith}
use lib.IntN.{ℤ, pos, negsuc, neg_ℤ, nat_abs, ◌+ℤ◌, ◌-ℤ◌, ◌*ℤ◌, +ℤ_comm}
use lib.Signed.{quot_z}
use Rattle.lattice.specs.Body.{collided_part, relaxed_dir}
use Rattle.whole.specs.Fold.{sum, dirs, Dir}
use Rattle.whole.specs.laws.Bounds.{abs_neg, abs-mul}
use Rattle.whole.specs.laws.Quot.{cut-near}
use Rattle.whole.specs.laws.Ring.{ring-by, ring-from, quotes}
use Rattle.whole.specs.laws.Search.{as-dir}
use Rattle.whole.specs.laws.Sums.{sum_first, sum-add, sum-sub, sum-scale, sum-abs}
use Rattle.lattice.specs.Lattice.{dot, density}
use Rattle.lattice.specs.Cell.{quad, relaxed}
use Rattle.lattice.proofs.Balanced.{Balanced}
use Rattle.grid.specs.State.{Scene}
use Rattle.grid.specs.Step.{streamed, streamed_density, streamed_momentum, collided_dir, collided}

module _ (S : Scene) (c : ℕ) where
  -- the exact equilibrium of direction k, as document 002 has it: wρ(1 + 3(e·u) + 9/2(e·u)² − 3/2u²)/36 with u = j/ρ, times 72ρ
  pub equilibrium : ℕ → ℤ
  equilibrium k = pos (S.lat.weight k) *ℤ quad (streamed_density S c) (dot (S.lat.e k) (streamed_momentum S c)) (dot (streamed_momentum S c) (streamed_momentum S c))

  -- the exact BGK value f + ω(feq − f) with ω = p/1024, times 73,728·ρ'
  pub exact : ℕ → ℤ
  exact k =
      pos 73728 *ℤ streamed_density S c *ℤ streamed S c k
      +ℤ S.relax c *ℤ (equilibrium k -ℤ pos 72 *ℤ (streamed_density S c *ℤ streamed S c k))

  -- how far the collided part lies from it, times 73,728·ρ'
  pub error : ℕ → ℤ
  error k = pos 73728 *ℤ streamed_density S c *ℤ collided S c k -ℤ exact k

pub error-is : (S : Scene) (c k : ℕ) → pos 73728 *ℤ streamed_density S c *ℤ collided S c k -ℤ exact S c k ≡ error S c k
unfolding error
error-is S c k = refl

-- the claim, where ρ' is not 0, which stage 3's test sees to
abbrev pub Claim : Type 0
Claim =
    (S : Scene) (c : ℕ) → 0 < nat_abs (streamed_density S c) → Balanced S.lat (streamed_momentum S c)
    → ((i : ℕ) → Dir S.lat.q i → nat_abs (error S c i) < nat_abs (pos 73728 *ℤ streamed_density S c))
    × (0 < S.lat.q → nat_abs (error S c 0) < S.lat.q * nat_abs (pos 73728 *ℤ streamed_density S c))

-- the equilibrium adds up to ρ', times 72ρ'
abbrev pub EquilibriumClaim : Type 0
EquilibriumClaim =
    (S : Scene) (c : ℕ) → Balanced S.lat (streamed_momentum S c)
    → sum (suc S.lat.q) (equilibrium S c) ≡ pos 72 *ℤ (streamed_density S c *ℤ streamed_density S c)

pub equilibrium-adds : EquilibriumClaim
unfolding equilibrium
equilibrium-adds S c b = b (streamed_density S c)

-- ---- one direction
near-one : (d f a : ℤ) → 0 < nat_abs d → nat_abs (d *ℤ (f +ℤ quot_z a d) -ℤ (d *ℤ f +ℤ a)) < nat_abs d
near-one d f a h =
    subst (λ (n : ℕ). n < nat_abs d) (sym (ap nat_abs (turn d f a (quot_z a d)) ∙ abs_neg (a -ℤ d *ℤ quot_z a d))) (cut-near a d h)
  where
    turn : (d f a q : ℤ) → d *ℤ (f +ℤ q) -ℤ (d *ℤ f +ℤ a) ≡ neg_ℤ (a -ℤ d *ℤ q)
    turn d f a q = ring-by (d ∷ f ∷ a ∷ q ∷ []) (search quotes depth 20) (search quotes depth 20) tt

big : (z : ℤ) → 0 < nat_abs z → 0 < nat_abs (pos 73728 *ℤ z)
big z h = omega (arith, abs-mul (pos 73728) z)

moving : (S : Scene) (c i : ℕ) → 0 < nat_abs (streamed_density S c) → Dir S.lat.q i → nat_abs (error S c i) < nat_abs (pos 73728 *ℤ streamed_density S c)
unfolding error exact equilibrium collided collided_part relaxed_dir relaxed
moving S c zero h d = absurd (lt_irrefl zero d.some)
moving S c (suc a) h d =
    near-one (pos 73728 *ℤ streamed_density S c) (streamed S c (suc a))
    (S.relax c *ℤ (equilibrium S c (suc a) -ℤ pos 72 *ℤ (streamed_density S c *ℤ streamed S c (suc a))))
    (big (streamed_density S c) h)

-- ---- the rest part: all the exact values add up to ρ'
module _ (S : Scene) (c : ℕ) (b : Balanced S.lat (streamed_momentum S c)) where
  exact-adds : sum (suc S.lat.q) (exact S c) ≡ pos 73728 *ℤ streamed_density S c *ℤ streamed_density S c
  unfolding exact streamed_density density
  exact-adds =
      sum-add n (λ k. d *ℤ f k) (λ k. p *ℤ (e k -ℤ pos 72 *ℤ (ρ *ℤ f k)))
      ∙ ap₂ (λ (x y : ℤ). x +ℤ y) (sum-scale n d f)
      (sum-scale n p (λ k. e k -ℤ pos 72 *ℤ (ρ *ℤ f k))
      ∙ ap (λ (z : ℤ). p *ℤ z)
      (sum-sub n e (λ k. pos 72 *ℤ (ρ *ℤ f k))
      ∙ ap₂ (λ (x y : ℤ). x -ℤ y) (equilibrium-adds S c b) (sum-scale n (pos 72) (λ k. ρ *ℤ f k) ∙ ap (λ (z : ℤ). pos 72 *ℤ z) (sum-scale n ρ f))))
      ∙ flat d ρ p
    where
      n : ℕ
      n = suc S.lat.q

      f : ℕ → ℤ
      f = streamed S c

      e : ℕ → ℤ
      e = equilibrium S c

      ρ : ℤ
      ρ = streamed_density S c

      d : ℤ
      d = pos 73728 *ℤ streamed_density S c

      p : ℤ
      p = S.relax c

      flat : (d ρ p : ℤ) → d *ℤ ρ +ℤ p *ℤ (pos 72 *ℤ (ρ *ℤ ρ) -ℤ pos 72 *ℤ (ρ *ℤ ρ)) ≡ d *ℤ ρ
      flat d ρ p = ring-by (d ∷ ρ ∷ p ∷ []) (search quotes depth 20) (search quotes depth 20) tt

  rest-error : error S c 0 ≡ neg_ℤ (dirs S.lat.q (error S c))
  unfolding error collided collided_part
  rest-error =
      rest d ρ (dirs q (collided_dir S c)) (exact S c 0) (dirs q (exact S c)) (sym (sum_first q (exact S c)) ∙ exact-adds)
      ∙ ap neg_ℤ (sym (sum-sub q (λ a. d *ℤ collided_dir S c (suc a)) (λ a. exact S c (suc a)) ∙ ap (λ (z : ℤ). z -ℤ dirs q (exact S c)) (sum-scale q d (λ a. collided_dir S c (suc a)))))
    where
      q : ℕ
      q = S.lat.q

      ρ : ℤ
      ρ = streamed_density S c

      d : ℤ
      d = pos 73728 *ℤ streamed_density S c

      rest : (d ρ s x xs : ℤ) → x +ℤ xs ≡ d *ℤ ρ → d *ℤ (ρ -ℤ s) -ℤ x ≡ neg_ℤ (d *ℤ s -ℤ xs)
      rest d ρ s x xs h =
          ring-from (d ∷ ρ ∷ s ∷ x ∷ xs ∷ []) {k = negsuc 0} h (search quotes depth 20) (search quotes depth 20) (search quotes depth 20) (search quotes depth 20) (search quotes depth 20) tt

-- as many errors, each below D
below_all : (q D : ℕ) (f : ℕ → ℤ) → 0 < q → ((a : ℕ) → a < q → nat_abs (f a) < D) → nat_abs (sum q f) < q * D
below_all zero D f h k = elim h [ ]
below_all (suc q) zero f h k = absurd (not-suc-le-zero (k 0 (omega arith)))
below_all (suc q) (suc D) f h k =
    let b = sum-abs (suc q) f D (λ a m. le_of_suc-le-suc (k a m)) in
    omega arith

pub bgk-holds : Claim
bgk-holds S c h b = (λ i d. moving S c i h d, λ q. rest q)
  where
    rest : 0 < S.lat.q → nat_abs (error S c 0) < S.lat.q * nat_abs (pos 73728 *ℤ streamed_density S c)
    rest q =
        subst (λ (n : ℕ). n < S.lat.q * nat_abs (pos 73728 *ℤ streamed_density S c))
        (sym (ap nat_abs (rest-error S c b) ∙ abs_neg (dirs S.lat.q (error S c))))
        (below_all S.lat.q (nat_abs (pos 73728 *ℤ streamed_density S c)) (λ a. error S c (suc a)) q (λ a k. moving S c (suc a) h (as-dir k)))
