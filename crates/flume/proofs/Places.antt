-- Sums, tests, counts and shares over the nineteen places are those over the flume's directions, where the idle places add nothing. Assumes nothing.
use mathlib.Core.Path.{◌≡◌, refl, sym, ap, ap₂, ◌∙◌}
use mathlib.Core.Logic.{◌⊎◌, inl, inr}
use mathlib.Core.Bool.{Bool, true, false, ◌&&◌, ◌||◌, cond, false≢true}
use mathlib.Core.List.{[], ◌∷◌}
use Prim.Native.Nat.{ℕ, zero, suc, pred, ◌+◌, ◌≤◌, ◌<◌}
use native.Mathlib.Nat.{lt_irrefl, zero-add, le_of_suc-le-suc}
use native.Mathlib.Decide.{ℕ_discrete}
use native.Mathlib.Omega.{arith}
use lib.Dec.{eqb, leb, ltb}
use lib.IntN.{ℤ, pos, ◌+ℤ◌, ◌-ℤ◌, ◌*ℤ◌, *ℤ-zero}
use lib.ListN.{get_or}
use lib.Signed.{quot_z}
use borrow.Author.Tests.{leb-true, ltb-true, eq-eqb, ne_eqb}
use Rattle.whole.specs.laws.Bools.{and_left, and_right}
use Rattle.whole.specs.Fold.{sum, all, first, dirs, any_dir, count_dir, open-fold, Dir}
use Rattle.whole.specs.laws.Quot.{zero-quot}
use Rattle.whole.specs.laws.Ring.{ring-by, quotes}
use Rattle.whole.specs.laws.Search.{as-dir, first_cong, any-cong}
use Rattle.whole.specs.laws.Sums.{sum-cong, sum_first}
use Rattle.lattice.specs.Cell.{is_positive, cut_share, remainder, lowest_dir, share}
use Rattle.grid.proofs.Same.{all_same}
use Rattle.flume.specs.inner.Spread.{wide, narrow, idle, spread, Idle, Spreads}
use Rattle.whole.specs.laws.Counts.{count-cong}

-- ---- the places one by one

pub at-dir : (q k : ℕ) → (ltb 0 k && leb k q) ≡ true → Dir q k
at-dir q k e = record { some = ltb-true 0 k (and_left (ltb 0 k) (leb k q) e); most = leb-true k q (and_right (ltb 0 k) (leb k q) e) }

pub by-eight : (P : ℕ → Type 0) → P 1 → P 2 → P 3 → P 4 → P 5 → P 6 → P 7 → P 8 → (k : ℕ) → Dir 8 k → P k
by-eight P a b c d e f g h zero t = absurd (lt_irrefl zero t.some)
by-eight P a b c d e f g h (suc zero) t = a
by-eight P a b c d e f g h (suc (suc zero)) t = b
by-eight P a b c d e f g h (suc (suc (suc zero))) t = c
by-eight P a b c d e f g h (suc (suc (suc (suc zero)))) t = d
by-eight P a b c d e f g h (suc (suc (suc (suc (suc zero))))) t = e
by-eight P a b c d e f g h (suc (suc (suc (suc (suc (suc zero)))))) t = f
by-eight P a b c d e f g h (suc (suc (suc (suc (suc (suc (suc zero))))))) t = g
by-eight P a b c d e f g h (suc (suc (suc (suc (suc (suc (suc (suc zero)))))))) t = h
by-eight P a b c d e f g h (suc (suc (suc (suc (suc (suc (suc (suc (suc n))))))))) t = absurd (omega (arith, t.most))

pub by-nine : (P : ℕ → Type 0) → P 0 → ((k : ℕ) → Dir 8 k → P k) → (k : ℕ) → k ≤ 8 → P k
by-nine P o at zero h = o
by-nine P o at (suc a) h = at (suc a) (record { some = omega arith; most = h })

by-eighteen : (P : ℕ → Type 0) → P 1 → P 2 → P 3 → P 4 → P 5 → P 6 → P 7 → P 8 → P 9 → P 10 → P 11 → P 12 → P 13 → P 14 → P 15 → P 16 → P 17 → P 18 → (i : ℕ) → Dir 18 i → P i
by-eighteen P a b c d e f g h j k l m n o p q r s zero t = absurd (lt_irrefl zero t.some)
by-eighteen P a b c d e f g h j k l m n o p q r s (suc zero) t = a
by-eighteen P a b c d e f g h j k l m n o p q r s (suc (suc zero)) t = b
by-eighteen P a b c d e f g h j k l m n o p q r s (suc (suc (suc zero))) t = c
by-eighteen P a b c d e f g h j k l m n o p q r s (suc (suc (suc (suc zero)))) t = d
by-eighteen P a b c d e f g h j k l m n o p q r s (suc (suc (suc (suc (suc zero))))) t = e
by-eighteen P a b c d e f g h j k l m n o p q r s (suc (suc (suc (suc (suc (suc zero)))))) t = f
by-eighteen P a b c d e f g h j k l m n o p q r s (suc (suc (suc (suc (suc (suc (suc zero))))))) t = g
by-eighteen P a b c d e f g h j k l m n o p q r s (suc (suc (suc (suc (suc (suc (suc (suc zero)))))))) t = h
by-eighteen P a b c d e f g h j k l m n o p q r s (suc (suc (suc (suc (suc (suc (suc (suc (suc zero))))))))) t = j
by-eighteen P a b c d e f g h j k l m n o p q r s (suc (suc (suc (suc (suc (suc (suc (suc (suc (suc zero)))))))))) t = k
by-eighteen P a b c d e f g h j k l m n o p q r s (suc (suc (suc (suc (suc (suc (suc (suc (suc (suc (suc zero))))))))))) t = l
by-eighteen P a b c d e f g h j k l m n o p q r s (suc (suc (suc (suc (suc (suc (suc (suc (suc (suc (suc (suc zero)))))))))))) t = m
by-eighteen P a b c d e f g h j k l m n o p q r s (suc (suc (suc (suc (suc (suc (suc (suc (suc (suc (suc (suc (suc zero))))))))))))) t = n
by-eighteen P a b c d e f g h j k l m n o p q r s (suc (suc (suc (suc (suc (suc (suc (suc (suc (suc (suc (suc (suc (suc zero)))))))))))))) t = o
by-eighteen P a b c d e f g h j k l m n o p q r s (suc (suc (suc (suc (suc (suc (suc (suc (suc (suc (suc (suc (suc (suc (suc zero))))))))))))))) t = p
by-eighteen P a b c d e f g h j k l m n o p q r s (suc (suc (suc (suc (suc (suc (suc (suc (suc (suc (suc (suc (suc (suc (suc (suc zero)))))))))))))))) t = q
by-eighteen P a b c d e f g h j k l m n o p q r s (suc (suc (suc (suc (suc (suc (suc (suc (suc (suc (suc (suc (suc (suc (suc (suc (suc zero))))))))))))))))) t = r
by-eighteen P a b c d e f g h j k l m n o p q r s (suc (suc (suc (suc (suc (suc (suc (suc (suc (suc (suc (suc (suc (suc (suc (suc (suc (suc zero)))))))))))))))))) t = s
by-eighteen P a b c d e f g h j k l m n o p q r s (suc (suc (suc (suc (suc (suc (suc (suc (suc (suc (suc (suc (suc (suc (suc (suc (suc (suc (suc i))))))))))))))))))) t = absurd (omega (arith, t.most))

pub is-idle : (i : ℕ) → leb i 18 ≡ true → idle i ≡ true → Idle i
is-idle i l e = record { low = leb-true i 18 l; none = e }

pub at_places : (P : ℕ → Type 0) → ((k : ℕ) → Dir 8 k → P (wide k)) → ((i : ℕ) → Idle i → P i) → (i : ℕ) → Dir 18 i → P i
unfolding wide narrow idle
at_places P at off =
    by-eighteen P (at 1 (at-dir 8 1 refl)) (at 2 (at-dir 8 2 refl)) (off 3 (is-idle 3 refl refl)) (off 4 (is-idle 4 refl refl)) (at 3 (at-dir 8 3 refl)) (at 4 (at-dir 8 4 refl)) (off 7 (is-idle 7 refl refl)) (off 8 (is-idle 8 refl refl)) (off 9 (is-idle 9 refl refl)) (off 10 (is-idle 10 refl refl)) (off 11 (is-idle 11 refl refl)) (off 12 (is-idle 12 refl refl)) (off 13 (is-idle 13 refl refl)) (off 14 (is-idle 14 refl refl)) (at 5 (at-dir 8 5 refl)) (at 6 (at-dir 8 6 refl)) (at 7 (at-dir 8 7 refl)) (at 8 (at-dir 8 8 refl))

-- what is to be shown of an idle place, by the ten of them
pub by-idle : (P : ℕ → Type 0) → P 3 → P 4 → P 7 → P 8 → P 9 → P 10 → P 11 → P 12 → P 13 → P 14 → (i : ℕ) → Idle i → P i
unfolding narrow idle
by-idle P a b c d e f g h j k zero t = absurd (false≢true t.none)
by-idle P a b c d e f g h j k (suc i) t =
    by-eighteen (λ j. idle j ≡ true → P j) (λ u. absurd (false≢true u)) (λ u. absurd (false≢true u)) (λ u. a) (λ u. b) (λ u. absurd (false≢true u)) (λ u. absurd (false≢true u)) (λ u. c) (λ u. d) (λ u. e) (λ u. f) (λ u. g) (λ u. h) (λ u. j) (λ u. k) (λ u. absurd (false≢true u)) (λ u. absurd (false≢true u)) (λ u. absurd (false≢true u)) (λ u. absurd (false≢true u)) (suc i) (record { some = omega arith; most = t.low }) t.none

-- a direction's place and an idle one are places of directions
pub wide-dir : (k : ℕ) → Dir 8 k → Dir 18 (wide k)
unfolding wide
wide-dir = by-eight (λ k. Dir 18 (wide k)) (at-dir 18 1 refl) (at-dir 18 2 refl) (at-dir 18 5 refl) (at-dir 18 6 refl) (at-dir 18 15 refl) (at-dir 18 16 refl) (at-dir 18 17 refl) (at-dir 18 18 refl)

pub idle-dir : (i : ℕ) → Idle i → Dir 18 i
unfolding idle narrow
idle-dir zero n = absurd (false≢true n.none)
idle-dir (suc a) n = record { some = omega arith; most = n.low }

module _ {A : Type 0} (other : A) (f : ℕ → A) where
  pub spread_at : (k : ℕ) → k ≤ 8 → spread other f (wide k) ≡ f k
  unfolding spread wide narrow idle
  spread_at = by-nine (λ k. spread other f (wide k) ≡ f k) refl (by-eight (λ k. spread other f (wide k) ≡ f k) refl refl refl refl refl refl refl refl)

  pub spread_none : (i : ℕ) → Idle i → spread other f i ≡ other
  unfolding spread
  spread_none i n = ap (λ (b : Bool). cond b other (f (narrow i))) n.none

-- a function of the places that is f's where a direction stands and `other` elsewhere is f spread
module _ {A : Type 0} (other : A) (f g : ℕ → A) (at : (k : ℕ) → Dir 8 k → f (wide k) ≡ g k) (off : (i : ℕ) → Idle i → f i ≡ other) where
  pub is-spread : (i : ℕ) → Dir 18 i → f i ≡ spread other g i
  is-spread = at_places (λ i. f i ≡ spread other g i) (λ k d. at k d ∙ sym (spread_at other g k d.most)) (λ i n. off i n ∙ sym (spread_none other g i n))

-- ---- sums

sum-spread : (g : ℕ → ℤ) → dirs 18 (spread (pos 0) g) ≡ dirs 8 g
unfolding open-fold spread narrow idle
sum-spread g = ring-by (g 1 ∷ g 2 ∷ g 3 ∷ g 4 ∷ g 5 ∷ g 6 ∷ g 7 ∷ g 8 ∷ []) (search quotes depth 60 fits 5000) (search quotes depth 60 fits 5000) tt

module _ (f g : ℕ → ℤ) (at : (k : ℕ) → Dir 8 k → f (wide k) ≡ g k) (off : (i : ℕ) → Idle i → f i ≡ pos 0) where
  pub dirs-same : dirs 18 f ≡ dirs 8 g
  dirs-same = sum-cong 18 (λ a. f (suc a)) (λ a. spread (pos 0) g (suc a)) (λ a h. is-spread (pos 0) f g at off (suc a) (as-dir h)) ∙ sum-spread g

  pub sum_same : f 0 ≡ g 0 → sum 19 f ≡ sum 9 g
  sum_same e = sum_first 18 f ∙ ap₂ (λ (x y : ℤ). x +ℤ y) e dirs-same ∙ sym (sum_first 8 g)

-- ---- tests

or_no : (a : Bool) → (a || false) ≡ a
or_no true = refl
or_no false = refl

or-two : (a : Bool) → ((a || false) || false) ≡ a
or-two a = or_no (a || false) ∙ or_no a

or-eight : (a : Bool) → ((((((((a || false) || false) || false) || false) || false) || false) || false) || false) ≡ a
or-eight true = refl
or-eight false = refl

any-spread : (g : ℕ → Bool) → any_dir 18 (spread false g) ≡ any_dir 8 g
unfolding open-fold spread narrow idle
any-spread g i = (((low i || g 5) || g 6) || g 7) || g 8
  where
    low : (((((((((((((g 1 || g 2) || false) || false) || g 3) || g 4) || false) || false) || false) || false) || false) || false) || false) || false) ≡ (((g 1 || g 2) || g 3) || g 4)
    low = or-eight (((((g 1 || g 2) || false) || false) || g 3) || g 4) ∙ ap (λ (b : Bool). (b || g 3) || g 4) (or-two (g 1 || g 2))

pub any_same : (f g : ℕ → Bool) → ((k : ℕ) → Dir 8 k → f (wide k) ≡ g k) → ((i : ℕ) → Idle i → f i ≡ false) → any_dir 18 f ≡ any_dir 8 g
any_same f g at off =
    any-cong 18 (λ a. f (suc a)) (λ a. spread false g (suc a)) (λ a h. is-spread false f g at off (suc a) (as-dir h)) ∙ any-spread g

all-spread : (g : ℕ → Bool) → all 19 (spread true g) ≡ all 9 g
unfolding open-fold spread narrow idle
all-spread g i = (((low i && g 5) && g 6) && g 7) && g 8
  where
    two : (a : Bool) → ((a && true) && true) ≡ a
    two true = refl
    two false = refl

    eight : (a : Bool) → ((((((((a && true) && true) && true) && true) && true) && true) && true) && true) ≡ a
    eight true = refl
    eight false = refl

    low : ((((((((((((((g 0 && g 1) && g 2) && true) && true) && g 3) && g 4) && true) && true) && true) && true) && true) && true) && true) && true) ≡ ((((g 0 && g 1) && g 2) && g 3) && g 4)
    low = eight ((((((g 0 && g 1) && g 2) && true) && true) && g 3) && g 4) ∙ ap (λ (b : Bool). (b && g 3) && g 4) (two ((g 0 && g 1) && g 2))

pub tests_same : (f g : ℕ → Bool) → f 0 ≡ g 0 → ((k : ℕ) → Dir 8 k → f (wide k) ≡ g k) → ((i : ℕ) → Idle i → f i ≡ true) → all 19 f ≡ all 9 g
unfolding spread narrow idle
tests_same f g e at off = all_same 19 f (spread true g) go ∙ all-spread g
  where
    go : (a : ℕ) → a < 19 → f a ≡ spread true g a
    go zero h = e
    go (suc a) h = is-spread true f g at off (suc a) (as-dir (le_of_suc-le-suc h))

-- ---- counts

count-spread : (g : ℕ → Bool) → count_dir 18 (spread false g) ≡ count_dir 8 g
unfolding open-fold spread narrow idle
count-spread g = omega arith

pub count_same : (f g : ℕ → Bool) → ((k : ℕ) → Dir 8 k → f (wide k) ≡ g k) → ((i : ℕ) → Idle i → f i ≡ false) → count_dir 18 f ≡ count_dir 8 g
count_same f g at off =
    count-cong 18 (λ a. f (suc a)) (λ a. spread false g (suc a)) (λ a h. is-spread false f g at off (suc a) (as-dir h)) ∙ count-spread g

-- ---- the lowest direction that passes, and shares

by_tests : (a b c d e f g h : Bool)
    → suc (first 18 (λ i. get_or (a ∷ b ∷ false ∷ false ∷ c ∷ d ∷ false ∷ false ∷ false ∷ false ∷ false ∷ false ∷ false ∷ false ∷ e ∷ f ∷ g ∷ h ∷ []) i false))
    ≡ wide (suc (first 8 (λ i. get_or (a ∷ b ∷ c ∷ d ∷ e ∷ f ∷ g ∷ h ∷ []) i false)))
unfolding open-fold wide
by_tests true b c d e f g h = refl
by_tests false true c d e f g h = refl
by_tests false false true d e f g h = refl
by_tests false false false true e f g h = refl
by_tests false false false false true f g h = refl
by_tests false false false false false true g h = refl
by_tests false false false false false false true h = refl
by_tests false false false false false false false true = refl
by_tests false false false false false false false false = refl

abbrev nineteen : (ℕ → Bool) → ℕ → Bool
nineteen r i = get_or (r 1 ∷ r 2 ∷ false ∷ false ∷ r 3 ∷ r 4 ∷ false ∷ false ∷ false ∷ false ∷ false ∷ false ∷ false ∷ false ∷ r 5 ∷ r 6 ∷ r 7 ∷ r 8 ∷ []) i false

abbrev nine : (ℕ → Bool) → ℕ → Bool
nine r i = get_or (r 1 ∷ r 2 ∷ r 3 ∷ r 4 ∷ r 5 ∷ r 6 ∷ r 7 ∷ r 8 ∷ []) i false

in-places : (r : ℕ → Bool) (i : ℕ) → Dir 18 i → spread false r i ≡ nineteen r (pred i)
unfolding spread narrow idle
in-places r = by-eighteen (λ i. spread false r i ≡ nineteen r (pred i)) refl refl refl refl refl refl refl refl refl refl refl refl refl refl refl refl refl refl

in_order : (r : ℕ → Bool) (k : ℕ) → Dir 8 k → r k ≡ nine r (pred k)
in_order r = by-eight (λ k. r k ≡ nine r (pred k)) refl refl refl refl refl refl refl refl

first-same : (p r : ℕ → Bool) → ((k : ℕ) → Dir 8 k → p (wide k) ≡ r k) → ((i : ℕ) → Idle i → p i ≡ false)
    → suc (first 18 (λ a. p (suc a))) ≡ wide (suc (first 8 (λ a. r (suc a))))
first-same p r at off =
    ap suc (first_cong 18 0 (λ a. p (suc a)) (nineteen r)
    (λ a h. ap (λ (j : ℕ). p (suc j)) (zero-add a) ∙ is-spread false p r at off (suc a) (as-dir h) ∙ in-places r (suc a) (as-dir h) ∙ ap (nineteen r) (sym (zero-add a))))
    ∙ by_tests (r 1) (r 2) (r 3) (r 4) (r 5) (r 6) (r 7) (r 8)
    ∙ ap (λ (j : ℕ). wide (suc j))
    (sym (first_cong 8 0 (λ a. r (suc a)) (nine r) (λ a h. ap (λ (j : ℕ). r (suc j)) (zero-add a) ∙ in_order r (suc a) (as-dir h) ∙ ap (nine r) (sym (zero-add a)))))

-- no two directions have one place
narrow_wide : (m : ℕ) → ((m ≤ 8) × (narrow (wide m) ≡ m)) ⊎ (narrow (wide m) ≡ 9)
unfolding narrow wide
narrow_wide zero = inl (omega arith, refl)
narrow_wide (suc zero) = inl (omega arith, refl)
narrow_wide (suc (suc zero)) = inl (omega arith, refl)
narrow_wide (suc (suc (suc zero))) = inl (omega arith, refl)
narrow_wide (suc (suc (suc (suc zero)))) = inl (omega arith, refl)
narrow_wide (suc (suc (suc (suc (suc zero))))) = inl (omega arith, refl)
narrow_wide (suc (suc (suc (suc (suc (suc zero)))))) = inl (omega arith, refl)
narrow_wide (suc (suc (suc (suc (suc (suc (suc zero))))))) = inl (omega arith, refl)
narrow_wide (suc (suc (suc (suc (suc (suc (suc (suc zero)))))))) = inl (omega arith, refl)
narrow_wide (suc (suc (suc (suc (suc (suc (suc (suc (suc n))))))))) = inr refl

pub narrow_back : (k : ℕ) → k ≤ 8 → narrow (wide k) ≡ k
unfolding narrow wide
narrow_back = by-nine (λ k. narrow (wide k) ≡ k) refl (by-eight (λ k. narrow (wide k) ≡ k) refl refl refl refl refl refl refl refl)

wide-eqb : (k m : ℕ) → k ≤ 8 → eqb (wide k) (wide m) ≡ eqb k m
wide-eqb k m h = go (ℕ_discrete k m)
  where
    back : wide k ≡ wide m → ((m ≤ 8) × (narrow (wide m) ≡ m)) ⊎ (narrow (wide m) ≡ 9) → k ≡ m
    back e (inl b) = sym (narrow_back k h) ∙ ap narrow e ∙ b.1
    back e (inr b) = let t : k ≡ 9 = sym (narrow_back k h) ∙ ap narrow e ∙ b in absurd (omega arith)

    go : Dec (k ≡ m) → eqb (wide k) (wide m) ≡ eqb k m
    go (yes e) = eq-eqb (wide k) (wide m) (ap wide e) ∙ sym (eq-eqb k m e)
    go (no n) = ne_eqb (wide k) (wide m) (λ e. n (back e (narrow_wide m))) ∙ sym (ne_eqb k m n)

module _ (x : ℤ) (v w : ℕ → ℤ) (at : (k : ℕ) → Dir 8 k → v (wide k) ≡ w k) (off : (i : ℕ) → Idle i → v i ≡ pos 0) where
  cut_at : (k : ℕ) → Dir 8 k → cut_share 18 x v (wide k) ≡ cut_share 8 x w k
  unfolding cut_share
  cut_at k d = ap₂ (λ (a b : ℤ). quot_z (x *ℤ a) b) (at k d) (dirs-same v w at off)

  cut_off : (i : ℕ) → Idle i → cut_share 18 x v i ≡ pos 0
  unfolding cut_share
  cut_off i n = ap (λ (a : ℤ). quot_z a (dirs 18 v)) (ap (λ (a : ℤ). x *ℤ a) (off i n) ∙ *ℤ-zero x) ∙ zero-quot (dirs 18 v)

  left-same : remainder 18 x v ≡ remainder 8 x w
  unfolding remainder
  left-same = ap (λ (a : ℤ). x -ℤ a) (dirs-same (cut_share 18 x v) (cut_share 8 x w) cut_at cut_off)

  lowest-same : lowest_dir 18 v ≡ wide (lowest_dir 8 w)
  unfolding lowest_dir
  lowest-same = first-same (λ k. is_positive (v k)) (λ k. is_positive (w k)) (λ k d. ap is_positive (at k d)) (λ i n. ap is_positive (off i n))

  pub share-same : (k : ℕ) → Dir 8 k → share 18 x v (wide k) ≡ share 8 x w k
  unfolding share
  share-same k d =
      three (cut_at k d) (ap (eqb (wide k)) lowest-same ∙ wide-eqb k (lowest_dir 8 w) d.most) left-same
    where
      three : {a a' b b' : ℤ} {t t' : Bool} → a ≡ a' → t ≡ t' → b ≡ b' → a +ℤ cond t b (pos 0) ≡ a' +ℤ cond t' b' (pos 0)
      three u v w i = u i +ℤ cond (v i) (w i) (pos 0)

-- ---- nineteen parts that go by what moves: part 0, and each other part by its direction
moving : (f h : ℕ → ℤ) → ((a : ℕ) → f (suc a) ≡ h (suc a)) → {q : ℕ} (k : ℕ) → Dir q k → f k ≡ h k
moving f h e zero d = absurd (lt_irrefl zero d.some)
moving f h e (suc a) d = e a

pub spreads : (f h : ℕ → ℤ) (u v : ℕ → ℤ) → ((a : ℕ) → f (suc a) ≡ u (suc a)) → ((a : ℕ) → h (suc a) ≡ v (suc a)) → f 0 ≡ h 0
    → ((k : ℕ) → Dir 8 k → u (wide k) ≡ v k) → ((i : ℕ) → Idle i → u i ≡ pos 0) → Spreads f h
unfolding wide
spreads f h u v fu hv e at off = record {
  at = by-nine (λ k. f (wide k) ≡ h k) e (λ k d. moving f u fu (wide k) (wide-dir k d) ∙ at k d ∙ sym (moving h v hv k d));
  none = λ i n. moving f u fu i (idle-dir i n) ∙ off i n;
}
