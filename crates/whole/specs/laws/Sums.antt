-- Laws of sums over the numbers below n: term by term, sums of sums, negatives, an exchange of the order, a sum taken in another order, bounds.
-- Use: `sum-swap n m F` exchanges rows and columns; `sum-paired n σ g low twice` takes the terms in the order of a pairing σ. Assumes nothing.
use Rattle.std.specs.Prelude.{◌≡◌, refl, ◌⊎◌, ◌≢◌, Bool, cond, ℕ, zero, suc, ◌+◌, ◌*◌, ◌≤◌, ◌<◌, ℤ, pos, neg_ℤ, nat_abs, ◌+ℤ◌, ◌-ℤ◌, ◌*ℤ◌, eqb}
use Rattle.std.proofs.Common.{sym, ap, ap₂, ◌∙◌, subst, inl, inr, eq-or-lt_of_le, le_of_suc-le-suc, not-suc-le-zero, lt_irrefl, lt-suc_self, arith, eq-eqb, ne_eqb}
use Rattle.std.proofs.Math.Nat.{le_step}
use Rattle.std.proofs.Math.Decide.{ℕ_discrete}
use Rattle.std.proofs.Math.IntN.{+ℤ_assoc, +ℤ_comm, +ℤ_idl, +ℤ_idr, neg_ℤ-+ℤ, *ℤ-zero}
use Rattle.whole.specs.Fold.{sum, total}
use Rattle.whole.specs.laws.Ring.{+ℤ-mix, *ℤ-+ℤ}
use Rattle.whole.specs.laws.Bounds.{abs-add}

pub sum-cong : (n : ℕ) (f g : ℕ → ℤ) → ((a : ℕ) → a < n → f a ≡ g a) → sum n f ≡ sum n g
unfolding sum
sum-cong zero f g h = refl
sum-cong (suc n) f g h = ap₂ (λ (x y : ℤ). x +ℤ y) (sum-cong n f g (λ a k. h a (le_step k))) (h n (lt-suc_self n))

pub sum-add : (n : ℕ) (f g : ℕ → ℤ) → sum n (λ a. f a +ℤ g a) ≡ sum n f +ℤ sum n g
unfolding sum
sum-add zero f g = refl
sum-add (suc n) f g = ap (λ (t : ℤ). t +ℤ (f n +ℤ g n)) (sum-add n f g) ∙ +ℤ-mix (sum n f) (sum n g) (f n) (g n)

pub sum-neg : (n : ℕ) (f : ℕ → ℤ) → sum n (λ a. neg_ℤ (f a)) ≡ neg_ℤ (sum n f)
unfolding sum
sum-neg zero f = refl
sum-neg (suc n) f = ap (λ (t : ℤ). t +ℤ neg_ℤ (f n)) (sum-neg n f) ∙ sym (neg_ℤ-+ℤ (sum n f) (f n))

pub sum-sub : (n : ℕ) (f g : ℕ → ℤ) → sum n (λ a. f a -ℤ g a) ≡ sum n f -ℤ sum n g
sum-sub n f g = sum-add n f (λ a. neg_ℤ (g a)) ∙ ap (λ (t : ℤ). sum n f +ℤ t) (sum-neg n g)

pub sum-scale : (n : ℕ) (k : ℤ) (f : ℕ → ℤ) → sum n (λ a. k *ℤ f a) ≡ k *ℤ sum n f
unfolding sum
sum-scale zero k f = sym (*ℤ-zero k)
sum-scale (suc n) k f = ap (λ (t : ℤ). t +ℤ k *ℤ f n) (sum-scale n k f) ∙ sym (*ℤ-+ℤ k (sum n f) (f n))

pub sum-zero : (n : ℕ) (f : ℕ → ℤ) → ((a : ℕ) → a < n → f a ≡ pos 0) → sum n f ≡ pos 0
unfolding sum
sum-zero zero f h = refl
sum-zero (suc n) f h = ap₂ (λ (x y : ℤ). x +ℤ y) (sum-zero n f (λ a k. h a (le_step k))) (h n (lt-suc_self n))

pub sum-swap : (n m : ℕ) (F : ℕ → ℕ → ℤ) → sum n (λ a. sum m (λ b. F a b)) ≡ sum m (λ b. sum n (λ a. F a b))
unfolding sum
sum-swap zero m F = sym (sum-zero m (λ b. pos 0) (λ b k. refl))
sum-swap (suc n) m F =
    ap (λ (t : ℤ). t +ℤ sum m (λ b. F n b)) (sum-swap n m F) ∙ sym (sum-add m (λ b. sum n (λ a. F a b)) (λ b. F n b))

-- the first term apart
pub sum_first : (n : ℕ) (f : ℕ → ℤ) → sum (suc n) f ≡ f 0 +ℤ sum n (λ a. f (suc a))
unfolding sum
sum_first zero f = +ℤ_comm (pos 0) (f 0)
sum_first (suc n) f = ap (λ (t : ℤ). t +ℤ f (suc n)) (sum_first n f) ∙ +ℤ_assoc (f 0) (sum n (λ a. f (suc a))) (f (suc n))

-- a bound of each term bounds the sum
pub sum-abs : (n : ℕ) (f : ℕ → ℤ) (b : ℕ) → ((a : ℕ) → a < n → nat_abs (f a) ≤ b) → nat_abs (sum n f) ≤ n * b
unfolding sum
sum-abs zero f b h = omega arith
sum-abs (suc n) f b h = omega (arith, abs-add (sum n f) (f n), sum-abs n f b (λ a k. h a (le_step k)), h n (lt-suc_self n))

pub total-cong : (n : ℕ) (f g : ℕ → ℕ) → ((a : ℕ) → a < n → f a ≡ g a) → total n f ≡ total n g
unfolding total
total-cong zero f g h = refl
total-cong (suc n) f g h = ap₂ (λ (x y : ℕ). x + y) (total-cong n f g (λ a k. h a (le_step k))) (h n (lt-suc_self n))

pub total-le : (n : ℕ) (f : ℕ → ℕ) (b : ℕ) → ((a : ℕ) → a < n → f a ≤ b) → total n f ≤ n * b
unfolding total
total-le zero f b h = omega arith
total-le (suc n) f b h = omega (arith, total-le n f b (λ a k. h a (le_step k)), h n (lt-suc_self n))

-- ---- one number alone counts
unfoldable pub only : ℕ → ℤ → ℕ → ℤ
only a x b = cond (eqb b a) x (pos 0)

pub only_at : (a : ℕ) (x : ℤ) → only a x a ≡ x
unfolding only
only_at a x = ap (λ (b : Bool). cond b x (pos 0)) (eq-eqb a a refl)

pub only-off : (a b : ℕ) (x : ℤ) → b ≢ a → only a x b ≡ pos 0
unfolding only
only-off a b x h = ap (λ (t : Bool). cond t x (pos 0)) (ne_eqb b a h)

pub sum-only : (n a : ℕ) (x : ℤ) → a < n → sum n (only a x) ≡ x
unfolding sum
sum-only zero a x h = absurd (not-suc-le-zero h)
sum-only (suc n) a x h = go (eq-or-lt_of_le (le_of_suc-le-suc h)) (λ k. sum-only n a x k)
  where
    go : (a ≡ n) ⊎ (a < n) → (a < n → sum n (only a x) ≡ x) → sum n (only a x) +ℤ only a x n ≡ x
    go (inl p) r =
        ap₂ (λ (s t : ℤ). s +ℤ t)
        (sum-zero n (only a x) (λ b k. only-off a b x (λ e. lt_irrefl n (subst (λ (m : ℕ). m < n) (e ∙ p) k))))
        (ap (only a x) (sym p) ∙ only_at a x)
        ∙ +ℤ_idl x
    go (inr k) r = ap₂ (λ (s t : ℤ). s +ℤ t) (r k) (only-off a n x (λ e. lt_irrefl a (subst (λ (m : ℕ). a < m) e k))) ∙ +ℤ_idr x

-- ---- another order
-- a sum by rows is the sum by columns
pub sum-table : (n m : ℕ) (f g : ℕ → ℤ) (K : ℕ → ℕ → ℤ) → ((a : ℕ) → a < n → sum m (K a) ≡ f a) → ((b : ℕ) → b < m → sum n (λ a. K a b) ≡ g b)
    → sum n f ≡ sum m g
sum-table n m f g K r c =
    sym (sum-cong n (λ a. sum m (K a)) f r) ∙ sum-swap n m K ∙ sum-cong m (λ b. sum n (λ a. K a b)) g c

-- the numbers below n, taken in the order of σ, which is its own inverse
pub sum-paired : (n : ℕ) (σ : ℕ → ℕ) (g : ℕ → ℤ) → ((a : ℕ) → a < n → σ a < n) → ((a : ℕ) → a < n → σ (σ a) ≡ a)
    → sum n (λ a. g (σ a)) ≡ sum n g
sum-paired n σ g low twice =
    sum-table n n (λ a. g (σ a)) g (λ a b. only (σ a) (g (σ a)) b) (λ a h. sum-only n (σ a) (g (σ a)) (low a h))
    (λ b h. sum-cong n (λ a. only (σ a) (g (σ a)) b) (only (σ b) (g b)) (λ a k. same a b k h (ℕ_discrete b (σ a))) ∙ sum-only n (σ b) (g b) (low b h))
  where
    same : (a b : ℕ) → a < n → b < n → Dec (b ≡ σ a) → only (σ a) (g (σ a)) b ≡ only (σ b) (g b) a
    same a b ha hb (yes e) =
        ap (only (σ a) (g (σ a))) e ∙ only_at (σ a) (g (σ a)) ∙ ap g (sym e)
        ∙ sym (ap (only (σ b) (g b)) (sym (ap σ e ∙ twice a ha)) ∙ only_at (σ b) (g b))
    same a b ha hb (no f) = only-off (σ a) b (g (σ a)) f ∙ sym (only-off (σ b) a (g b) (λ e. f (sym (ap σ e ∙ twice b hb))))
