-- Laws of the tests and searches of Fold: what `any` finds has a place, `all` holds at each, `first` is the lowest place or finds nothing; tests one after the other.
-- Use: `first-none n bad h c k` is that cell c is not bad, from `h : n ≤ first n bad`; `first-is n bad c k below here` that c is the lowest. Assumes nothing.
use Rattle.std.specs.Prelude.{◌≡◌, refl, ◌⊎◌, Bool, true, false, ◌||◌, ◌&&◌, ℕ, zero, suc, ◌+◌, ◌≤◌, ◌<◌}
use Rattle.std.proofs.Common.{sym, ap, ap₂, ◌∙◌, subst, inl, inr, lt-suc_self, eq-or-lt_of_le, le_of_suc-le-suc, not-suc-le-zero, lt_irrefl, add-zero, add-suc, suc-add, zero-add, add-one, arith}
use Rattle.std.proofs.lemmas.Bool.{false≢true}
use Rattle.std.proofs.Math.Nat.{le_step}
use Rattle.whole.specs.laws.Bools.{and-true, and_yes, and_left, and_right, or_left, or_right, or_cases}
use Rattle.whole.specs.Fold.{any, all, first_from, first, any_dir, Dir}

pub as-dir : {q a : ℕ} → a < q → Dir q (suc a)
as-dir h = record { some = omega arith; most = h }

-- ---- any and all
pub any-hit : (n : ℕ) (f : ℕ → Bool) (a : ℕ) → a < n → f a ≡ true → any n f ≡ true
unfolding any
any-hit zero f a h e = absurd (not-suc-le-zero h)
any-hit (suc n) f a h e = go (eq-or-lt_of_le (le_of_suc-le-suc h)) (λ k. any-hit n f a k e)
  where
    go : (a ≡ n) ⊎ (a < n) → (a < n → any n f ≡ true) → (any n f || f n) ≡ true
    go (inl p) r = or_right (any n f) (f n) (sym (ap f p) ∙ e)
    go (inr k) r = or_left (any n f) (f n) (r k)

pub any-dir : (q : ℕ) (f : ℕ → Bool) (i : ℕ) → Dir q i → f i ≡ true → any_dir q f ≡ true
any-dir q f zero d e = absurd (lt_irrefl zero d.some)
any-dir q f (suc a) d e = any-hit q (λ b. f (suc b)) a d.most e

pub any_where : (n : ℕ) (f : ℕ → Bool) → any n f ≡ true → (a : ℕ) × (a < n) × (f a ≡ true)
unfolding any
any_where zero f e = absurd (false≢true e)
any_where (suc n) f e = go (or_cases (any n f) (f n) e) (any_where n f)
  where
    go : (any n f ≡ true) ⊎ (f n ≡ true) → (any n f ≡ true → (a : ℕ) × (a < n) × (f a ≡ true)) → (a : ℕ) × (a < suc n) × (f a ≡ true)
    go (inl p) r = let z = r p in let h : z.0 < n = z.1 in (z.0, omega arith, z.2)
    go (inr p) r = (n, omega arith, p)

pub all-at : (n : ℕ) (f : ℕ → Bool) → all n f ≡ true → (a : ℕ) → a < n → f a ≡ true
unfolding all
all-at zero f e a h = absurd (not-suc-le-zero h)
all-at (suc n) f e a h = go (eq-or-lt_of_le (le_of_suc-le-suc h)) (λ k. all-at n f (and_left (all n f) (f n) e) a k)
  where
    go : (a ≡ n) ⊎ (a < n) → (a < n → f a ≡ true) → f a ≡ true
    go (inl p) r = ap f p ∙ and_right (all n f) (f n) e
    go (inr k) r = r k

-- ---- the search
-- a search that has something to find finds it in its range
pub first_below : (n i : ℕ) (f : ℕ → Bool) (a : ℕ) → a < n → f (i + a) ≡ true → first_from n i f < i + n
unfolding first_from
first_below zero i f a h e = absurd (not-suc-le-zero h)
first_below (suc n) i f a h e = go (f i) refl a h e (λ b k g. first_below n (suc i) f b k g)
  where
    go : (t : Bool) → f i ≡ t → (a : ℕ) → a < suc n → f (i + a) ≡ true
        → ((b : ℕ) → b < n → f (suc i + b) ≡ true → first_from n (suc i) f < suc i + n) → first_from (suc n) i f < i + suc n
    go true p a h e r = rw (p, first_from) (omega arith)
    go false p zero h e r = absurd (false≢true (sym p ∙ ap f (sym (add-zero i)) ∙ e))
    go false p (suc b) h e r =
        rw (p, first_from) (subst (λ (m : ℕ). first_from n (suc i) f < m) (suc-add i n ∙ sym (add-suc i n))
        (r b (le_of_suc-le-suc h) (ap f (suc-add i b ∙ sym (add-suc i b)) ∙ e)))

pub first_found : (n : ℕ) (f : ℕ → Bool) → any n f ≡ true → first n f < n
first_found n f e =
    let w = any_where n f e in
    subst (λ (m : ℕ). first_from n 0 f < m) (zero-add n) (first_below n 0 f w.0 w.1 (ap f (zero-add w.0) ∙ w.2))

-- what a search finds passes
pub first_passes : (n i : ℕ) (f : ℕ → Bool) → first_from n i f < i + n → f (first_from n i f) ≡ true
unfolding first_from
first_passes zero i f h = absurd (omega arith)
first_passes (suc n) i f h = go (f i) refl (λ k. first_passes n (suc i) f k) h
  where
    go : (t : Bool) → f i ≡ t → (first_from n (suc i) f < suc i + n → f (first_from n (suc i) f) ≡ true) → first_from (suc n) i f < i + suc n
        → f (first_from (suc n) i f) ≡ true
    go true p r h = rw (p, first_from) p
    go false p r h =
        rw (p, first_from) (r (subst (λ (m : ℕ). first_from n (suc i) f < m) (add-suc i n ∙ sym (suc-add i n)) (rw (p, first_from) at h)))

from-none : (n i : ℕ) (f : ℕ → Bool) → i + n ≤ first_from n i f → (a : ℕ) → a < n → f (i + a) ≡ false
unfolding first_from
from-none zero i f h a k = absurd (not-suc-le-zero k)
from-none (suc n) i f h a k = go (f i) refl a k h (λ g b l. from-none n (suc i) f g b l)
  where
    go : (t : Bool) → f i ≡ t → (a : ℕ) → a < suc n → i + suc n ≤ first_from (suc n) i f
        → (suc i + n ≤ first_from n (suc i) f → (b : ℕ) → b < n → f (suc i + b) ≡ false) → f (i + a) ≡ false
    go true p a k h r = let g : i + suc n ≤ i = rw (p, first_from) at h in absurd (omega arith)
    go false p zero k h r = ap f (add-zero i) ∙ p
    go false p (suc b) k h r =
        ap f (add-suc i b ∙ sym (suc-add i b))
        ∙ r (subst (λ (m : ℕ). m ≤ first_from n (suc i) f) (add-suc i n ∙ sym (suc-add i n)) (rw (p, first_from) at h)) b (le_of_suc-le-suc k)

-- a search that finds nothing: nothing passes
pub first-none : (n : ℕ) (f : ℕ → Bool) → n ≤ first n f → (a : ℕ) → a < n → f a ≡ false
first-none n f h a k = ap f (sym (zero-add a)) ∙ from-none n 0 f (subst (λ (m : ℕ). m ≤ first n f) (sym (zero-add n)) h) a k

from_all : (n i : ℕ) (f : ℕ → Bool) → ((a : ℕ) → a < n → f (i + a) ≡ false) → first_from n i f ≡ i + n
unfolding first_from
from_all zero i f h = sym (add-zero i)
from_all (suc n) i f h =
    let e : f i ≡ false = ap f (sym (add-zero i)) ∙ h 0 (omega arith) in
    rw (e, first_from) (from_all n (suc i) f (λ a k. ap f (suc-add i a ∙ sym (add-suc i a)) ∙ h (suc a) (omega arith)) ∙ suc-add i n ∙ sym (add-suc i n))

-- nothing passes: the search finds nothing
pub first-all : (n : ℕ) (f : ℕ → Bool) → ((a : ℕ) → a < n → f a ≡ false) → first n f ≡ n
first-all n f h = from_all n 0 f (λ a k. ap f (zero-add a) ∙ h a k) ∙ zero-add n

-- the lowest: nothing below it passes, and it does
from_is : (n i : ℕ) (f : ℕ → Bool) (a : ℕ) → a < n → ((b : ℕ) → b < a → f (i + b) ≡ false) → f (i + a) ≡ true → first_from n i f ≡ i + a
unfolding first_from
from_is zero i f a h low e = absurd (not-suc-le-zero h)
from_is (suc n) i f zero h low e =
    let t : f i ≡ true = ap f (sym (add-zero i)) ∙ e in
    rw (t, first_from) (sym (add-zero i))
from_is (suc n) i f (suc a) h low e =
    let t : f i ≡ false = ap f (sym (add-zero i)) ∙ low 0 (omega arith) in
    rw (t, first_from)
    (from_is n (suc i) f a (le_of_suc-le-suc h) (λ b k. ap f (suc-add i b ∙ sym (add-suc i b)) ∙ low (suc b) (omega arith)) (ap f (suc-add i a ∙ sym (add-suc i a)) ∙ e)
    ∙ suc-add i a ∙ sym (add-suc i a))

pub first-is : (n : ℕ) (f : ℕ → Bool) (a : ℕ) → a < n → ((b : ℕ) → b < a → f b ≡ false) → f a ≡ true → first n f ≡ a
first-is n f a h low e = from_is n 0 f a h (λ b k. ap f (zero-add b) ∙ low b k) (ap f (zero-add a) ∙ e) ∙ zero-add a

-- two tests that agree below n find the same
pub first_cong : (n i : ℕ) (f g : ℕ → Bool) → ((a : ℕ) → a < n → f (i + a) ≡ g (i + a)) → first_from n i f ≡ first_from n i g
unfolding first_from
first_cong zero i f g h = refl
first_cong (suc n) i f g h =
    go (f i) (g i) refl refl
    (first_cong n (suc i) f g (λ a k. ap f (suc-add i a ∙ sym (add-suc i a)) ∙ h (suc a) (omega arith) ∙ ap g (add-suc i a ∙ sym (suc-add i a))))
  where
    same : f i ≡ g i
    same = ap f (sym (add-zero i)) ∙ h 0 (omega arith) ∙ ap g (add-zero i)

    go : (s t : Bool) → f i ≡ s → g i ≡ t → first_from n (suc i) f ≡ first_from n (suc i) g → first_from (suc n) i f ≡ first_from (suc n) i g
    go true true p q r = rw (p, q, first_from) refl
    go true false p q r = absurd (false≢true (sym q ∙ sym same ∙ p))
    go false true p q r = absurd (false≢true (sym p ∙ same ∙ q))
    go false false p q r = rw (p, q, first_from) r

-- ---- a test of all, one after the other
pub all_none : (f : ℕ → Bool) → true ≡ all 0 f
unfolding all
all_none f = refl

pub all_more : (c : ℕ) (f : ℕ → Bool) → (all c f && f c) ≡ all (c + 1) f
unfolding all
all_more c f = sym (ap (λ (n : ℕ). all n f) (add-one c))

-- a cell that passes need not be looked at
pub all_past : {b : Bool} (c : ℕ) (f : ℕ → Bool) → b ≡ all c f → true ≡ f c → b ≡ all (c + 1) f
all_past {b} c f e t = sym (and_yes b true refl) ∙ ap₂ ◌&&◌ e t ∙ all_more c f

-- ---- equal tests, tests that all pass, and what stands before the first
pub any-cong : (n : ℕ) (f g : ℕ → Bool) → ((a : ℕ) → a < n → f a ≡ g a) → any n f ≡ any n g
unfolding any
any-cong zero f g h = refl
any-cong (suc n) f g h = ap₂ (λ (x y : Bool). x || y) (any-cong n f g (λ a k. h a (le_step k))) (h n (lt-suc_self n))

pub all_true : (n : ℕ) (f : ℕ → Bool) → ((a : ℕ) → a < n → f a ≡ true) → all n f ≡ true
unfolding all
all_true zero f h = refl
all_true (suc n) f h = and-true (all n f) (f n) (all_true n f (λ a k. h a (le_step k))) (h n (lt-suc_self n))

-- what stands before the first that passes does not pass
pub before-first : (n i : ℕ) (f : ℕ → Bool) (a : ℕ) → i + a < first_from n i f → f (i + a) ≡ false
unfolding first_from
before-first zero i f a h = absurd (omega arith)
before-first (suc n) i f a h = go (f i) refl a h (λ b k. before-first n (suc i) f b k)
  where
    go : (t : Bool) → f i ≡ t → (a : ℕ) → i + a < first_from (suc n) i f → ((b : ℕ) → suc i + b < first_from n (suc i) f → f (suc i + b) ≡ false) → f (i + a) ≡ false
    go true p a h r = let g : i + a < i = rw (p, first_from) at h in absurd (omega arith)
    go false p zero h r = ap f (add-zero i) ∙ p
    go false p (suc b) h r =
        let g : i + suc b < first_from n (suc i) f = rw (p, first_from) at h in
        ap f (add-suc i b ∙ sym (suc-add i b)) ∙ r b (omega arith)
