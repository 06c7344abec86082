-- Laws of `count`: equal tests count alike, no count is above the number counted over, and it does not fall.
-- Use: `count_most n f` is count n f ≤ n. Assumes nothing.
use Rattle.std.specs.Prelude.{◌≡◌, refl, Bool, true, false, cond, [], ◌∷◌, ◌++◌, ◌⊎◌, ℕ, zero, suc, ◌+◌, ◌*◌, ◌≤◌, ◌<◌}
use Rattle.std.proofs.Common.{ap, ap₂, ◌∙◌, inl, inr, lt-suc_self, eq-or-lt_of_le, le_of_suc-le-suc, le_of_eq, arith}
use Rattle.std.proofs.Math.Nat.{le_step}
use Rattle.whole.specs.Fold.{count}

pub count-cong : (n : ℕ) (f g : ℕ → Bool) → ((a : ℕ) → a < n → f a ≡ g a) → count n f ≡ count n g
unfolding count
count-cong zero f g h = refl
count-cong (suc n) f g h =
    ap₂ (λ (x : ℕ) (b : Bool). x + cond b 1 0) (count-cong n f g (λ a k. h a (le_step k))) (h n (lt-suc_self n))

pub count-le : (f : ℕ → Bool) (m n : ℕ) → m ≤ n → count m f ≤ count n f
unfolding count
count-le f zero n h = omega arith
count-le f (suc m) zero h = absurd (omega arith)
count-le f (suc m) (suc n) h = go (eq-or-lt_of_le h) (λ k. count-le f (suc m) n k)
  where
    go : (suc m ≡ suc n) ⊎ (suc m < suc n) → (suc m ≤ n → count (suc m) f ≤ count n f) → count (suc m) f ≤ count (suc n) f
    go (inl e) r = le_of_eq (ap (λ (k : ℕ). count k f) e)
    go (inr k) r = let l = r (le_of_suc-le-suc k) in omega arith

pub count_most : (n : ℕ) (f : ℕ → Bool) → count n f ≤ n
unfolding count
count_most zero f = omega arith
count_most (suc n) f = go (f n) (count_most n f)
  where
    go : (b : Bool) → count n f ≤ n → count n f + cond b 1 0 ≤ suc n
    go true h = omega arith
    go false h = omega arith
