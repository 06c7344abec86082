-- A sum over those numbers below n that pass a test, beside their count: its bounds are the count times a term's, and so its mean lies where the terms
-- lie. Assumes nothing.
use mathlib.Core.Path.{◌≡◌, refl, sym, ap, ◌∙◌}
use mathlib.Core.Logic.{◌⊎◌, inl, inr}
use mathlib.Core.Bool.{Bool, true, false, cond}
use Prim.Native.Nat.{ℕ, zero, suc, ◌+◌, ◌*◌, ◌/◌, ◌<◌, ◌≤◌}
use native.Mathlib.Nat.{le-div_iff_mul-le, div-le_of_le-mul, mul_comm, not-suc-le-zero, eq-or-lt_of_le, le_of_suc-le-suc}
use native.Mathlib.Numerals.{add-one}
use native.Mathlib.Omega.{arith}
use lib.IntN.{ℤ, pos, negsuc, nat_abs, ◌+ℤ◌}
use lib.Signed.{◌≤ℤ◌, shr_z}
use Rattle.whole.specs.Fold.{sum, count}
use Rattle.whole.specs.laws.Parts.{≤-parts, parts-≤, is_le, is-add, is-self, is_pos}
use Rattle.whole.specs.laws.Bounds.{abs-add}
use Rattle.whole.specs.laws.Machine.{Within}

module _ (w : ℕ → Bool) where
  pub count-le : (n : ℕ) → count n w ≤ n
  unfolding count
  count-le zero = omega arith
  count-le (suc n) = go (w n) (count-le n)
    where
      go : (b : Bool) → count n w ≤ n → count n w + cond b 1 0 ≤ suc n
      go true h = omega arith
      go false h = omega arith

  pub count-more : (n : ℕ) → pos (count n w) +ℤ cond (w n) (pos 1) (pos 0) ≡ pos (count (n + 1) w)
  unfolding count
  count-more n = go (w n) ∙ ap (λ (m : ℕ). pos (count m w)) (sym (add-one n))
    where
      go : (b : Bool) → pos (count n w) +ℤ cond b (pos 1) (pos 0) ≡ pos (count n w + cond b 1 0)
      go true = refl
      go false = refl

  module _ (v : ℕ → ℤ) where
    unfoldable pub picked : ℕ → ℤ
    picked n = sum n (λ a. cond (w a) (v a) (pos 0))

    pub picked_more : (n : ℕ) → picked n +ℤ cond (w n) (v n) (pos 0) ≡ picked (n + 1)
    unfolding picked sum
    picked_more n = ap picked (sym (add-one n))

    pub picked-abs : (b n : ℕ) → ((a : ℕ) → a < n → w a ≡ true → nat_abs (v a) ≤ b) → nat_abs (picked n) ≤ count n w * b
    unfolding picked sum count
    picked-abs b zero h = omega arith
    picked-abs b (suc n) h = go (w n) refl (picked-abs b n (λ a k e. h a (omega arith) e))
      where
        go : (t : Bool) → w n ≡ t → nat_abs (picked n) ≤ count n w * b → nat_abs (picked n +ℤ cond t (v n) (pos 0)) ≤ (count n w + cond t 1 0) * b
        go true e k = omega (arith, abs-add (picked n) (v n), h n (omega arith) e)
        go false e k = omega (arith, abs-add (picked n) (pos 0))

    pub picked_low : (b n : ℕ) → ((a : ℕ) → a < n → w a ≡ true → pos b ≤ℤ v a) → pos (count n w * b) ≤ℤ picked n
    unfolding picked sum count
    picked_low b zero h = parts-≤ (omega arith)
    picked_low b (suc n) h = go (w n) refl (picked_low b n (λ a k e. h a (omega arith) e))
      where
        go : (t : Bool) → w n ≡ t → pos (count n w * b) ≤ℤ picked n → pos ((count n w + cond t 1 0) * b) ≤ℤ (picked n +ℤ cond t (v n) (pos 0))
        go true e k =
            is_le (is_pos ((count n w + 1) * b)) (is-add (is-self (picked n)) (is-self (v n))) (omega (arith, ≤-parts k, ≤-parts (h n (omega arith) e)))
        go false e k =
            is_le (is_pos ((count n w + 0) * b)) (is-add (is-self (picked n)) (is-self (pos 0))) (omega (arith, ≤-parts k))

-- one that passes is counted
pub count-some : (n : ℕ) (f : ℕ → Bool) (a : ℕ) → a < n → f a ≡ true → 0 < count n f
unfolding count
count-some zero f a h e = absurd (not-suc-le-zero h)
count-some (suc n) f a h e = go (eq-or-lt_of_le (le_of_suc-le-suc h)) (λ k. count-some n f a k e)
  where
    go : (a ≡ n) ⊎ (a < n) → (a < n → 0 < count n f) → 0 < count n f + cond (f n) 1 0
    go (inl q) r = let t : f n ≡ true = ap f (sym q) ∙ e in rw t (omega arith)
    go (inr k) r = omega (arith, r k)

-- the floor of a mean lies where the terms lie
pub floor-low : (s : ℤ) (k b : ℕ) → 0 < k → pos (k * b) ≤ℤ s → pos b ≤ℤ shr_z s k
floor-low (pos m) k b z h = parts-≤ (let l : b ≤ m / k = (le-div_iff_mul-le z).1 (omega (arith, ≤-parts h, mul_comm b k)) in omega arith)
floor-low (negsuc m) k b z h = absurd (omega (arith, ≤-parts h))

pub floor-abs : (s : ℤ) (k a b : ℕ) → pos a ≤ℤ s → nat_abs s ≤ k * b → Within (shr_z s k) b
floor-abs (pos m) k a b h l = record { abs = div-le_of_le-mul k l }
floor-abs (negsuc m) k a b h l = absurd (omega (arith, ≤-parts h))
