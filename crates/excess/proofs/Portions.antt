-- Portions of an excess: with weights that are not negative the cut shares lie on the excess's side and add up to no more than it, so that the remainder
-- is no more than it either, and a share at most twice. Shares depend on the weights of the directions alone. Assumes nothing.
use mathlib.Core.Path.{◌≡◌, refl, sym, ap, ap₂, ◌∙◌, subst}
use mathlib.Core.Bool.{Bool, true, false, cond}
use mathlib.Core.List.{[], ◌∷◌}
use Prim.Native.Nat.{ℕ, zero, suc, ◌+◌, ◌*◌, ◌/◌, ◌≤◌, ◌<◌}
use native.Mathlib.Nat.{div-mul-le_self, div-zero, le_of_mul-le-mul_right, eq-or-lt_of_le, le_of_suc-le-suc, not-suc-le-zero}
use native.Mathlib.Omega.{arith}
use mathlib.Core.Logic.{◌⊎◌, inl, inr}
use lib.IntN.{ℤ, pos, negsuc, neg_ℤ, nat_abs, ◌+ℤ◌, ◌-ℤ◌, ◌*ℤ◌}
use lib.Signed.{quot_z}
use lib.Dec.{eqb}
use Rattle.whole.specs.Fold.{sum, total, dirs}
use Rattle.whole.specs.laws.Bounds.{abs_neg, abs-add}
use Rattle.whole.specs.laws.Parts.{is_pos, is-add, is-neg, abs-max, one-zero}
use Rattle.whole.specs.laws.Quot.{quot-neg}
use Rattle.whole.specs.laws.Ring.{neg-*ℤ, ring-by, quotes}
use Rattle.whole.specs.laws.Search.{first_cong}
use Rattle.whole.specs.laws.Sums.{sum-cong, sum-neg}
use Rattle.lattice.specs.Cell.{is_positive, cut_share, remainder, lowest_dir, share}

pub sum-pos : (n : ℕ) (f : ℕ → ℕ) → sum n (λ a. pos (f a)) ≡ pos (total n f)
unfolding sum total
sum-pos zero f = refl
sum-pos (suc n) f = ap (λ (z : ℤ). z +ℤ pos (f n)) (sum-pos n f)

-- a term of a total is no more than it
pub term-le : (n : ℕ) (f : ℕ → ℕ) (a : ℕ) → a < n → f a ≤ total n f
unfolding total
term-le zero f a h = absurd (not-suc-le-zero h)
term-le (suc n) f a h = go (eq-or-lt_of_le (le_of_suc-le-suc h)) (λ k. term-le n f a k)
  where
    go : (a ≡ n) ⊎ (a < n) → (a < n → f a ≤ total n f) → f a ≤ total n f + f n
    go (inl p) r = omega (arith, ap f p)
    go (inr k) r = omega (arith, r k)

-- cut quotients add up to no more than the quotient of the sum
cut-total : (x t m : ℕ) (v : ℕ → ℕ) → total m (λ a. x * v a / t) * t ≤ x * total m v
unfolding total
cut-total x t zero v = omega arith
cut-total x t (suc m) v = omega (arith, cut-total x t m v, div-mul-le_self (x * v m) t)

none-total : (x m : ℕ) (v : ℕ → ℕ) → total m (λ a. x * v a / 0) ≡ 0
unfolding total
none-total x zero v = refl
none-total x (suc m) v = omega (arith, none-total x m v, div-zero (x * v m))

portions : (x t m : ℕ) (v : ℕ → ℕ) → t ≡ total m v → total m (λ a. x * v a / t) ≤ x
portions x zero m v e = omega (arith, none-total x m v)
portions x (suc t) m v e =
    le_of_mul-le-mul_right
    (subst (λ (y : ℕ). total m (λ a. x * v a / suc t) * suc t ≤ x * y) (sym e) (cut-total x (suc t) m v)) (omega arith)

rest_le : (x y : ℕ) → y ≤ x → nat_abs (pos x -ℤ pos y) ≤ x
rest_le x y h =
    let z = pos x -ℤ pos y in
    omega (arith, (is-add (is_pos x) (is-neg (is_pos y))).eq, abs-max z, one-zero z)

-- ---- the other sign
module _ (q : ℕ) (w : ℕ → ℤ) (x : ℤ) where
  cut-neg : (k : ℕ) → cut_share q (neg_ℤ x) w k ≡ neg_ℤ (cut_share q x w k)
  unfolding cut_share
  cut-neg k = ap (λ (z : ℤ). quot_z z (dirs q w)) (neg-*ℤ x (w k)) ∙ quot-neg (x *ℤ w k) (dirs q w)

  rest-neg : remainder q (neg_ℤ x) w ≡ neg_ℤ (remainder q x w)
  unfolding remainder
  rest-neg =
      ap (λ (z : ℤ). neg_ℤ x -ℤ z)
      (sum-cong q (λ a. cut_share q (neg_ℤ x) w (suc a)) (λ a. neg_ℤ (cut_share q x w (suc a))) (λ a h. cut-neg (suc a)) ∙ sum-neg q (λ a. cut_share q x w (suc a)))
      ∙ ring-by (x ∷ dirs q (cut_share q x w) ∷ []) (search quotes depth 20) (search quotes depth 20) tt

module _ (q : ℕ) (v : ℕ → ℕ) (w : ℕ → ℤ) (nat : (a : ℕ) → a < q → w (suc a) ≡ pos (v a)) where
  pub weights-total : dirs q w ≡ pos (total q v)
  weights-total = sum-cong q (λ a. w (suc a)) (λ a. pos (v a)) nat ∙ sum-pos q v

  module _ (x : ℕ) where
    cut-pos : (a : ℕ) → a < q → cut_share q (pos x) w (suc a) ≡ pos (x * v a / total q v)
    unfolding cut_share
    cut-pos a h = ap₂ (λ (y t : ℤ). quot_z (pos x *ℤ y) t) (nat a h) weights-total

    cut-le : (a : ℕ) → a < q → nat_abs (cut_share q (pos x) w (suc a)) ≤ x
    cut-le a h =
        omega (arith, ap nat_abs (cut-pos a h), term-le q (λ b. x * v b / total q v) a h, portions x (total q v) q v refl)

    rest-pos : nat_abs (remainder q (pos x) w) ≤ x
    unfolding remainder
    rest-pos =
        subst (λ (z : ℤ). nat_abs (pos x -ℤ z) ≤ x)
        (sym (sum-cong q (λ a. cut_share q (pos x) w (suc a)) (λ a. pos (x * v a / total q v)) cut-pos ∙ sum-pos q (λ a. x * v a / total q v)))
        (rest_le x (total q (λ a. x * v a / total q v)) (portions x (total q v) q v refl))

  both : (x : ℤ) (a : ℕ) → a < q → (nat_abs (cut_share q x w (suc a)) ≤ nat_abs x) × (nat_abs (remainder q x w) ≤ nat_abs x)
  both (pos x) a h = (cut-le x a h, rest-pos x)
  both (negsuc x) a h = (
    omega (arith, ap nat_abs (cut-neg q w (pos (suc x)) (suc a)), abs_neg (cut_share q (pos (suc x)) w (suc a)), cut-le (suc x) a h),
    omega (arith, ap nat_abs (rest-neg q w (pos (suc x))), abs_neg (remainder q (pos (suc x)) w), rest-pos (suc x)),
  )

  pub share-le : (x : ℤ) (a : ℕ) → a < q → nat_abs (share q x w (suc a)) ≤ nat_abs x + nat_abs x
  unfolding share
  share-le x a h = go (eqb (suc a) (lowest_dir q w))
    where
      go : (b : Bool) → nat_abs (cut_share q x w (suc a) +ℤ cond b (remainder q x w) (pos 0)) ≤ nat_abs x + nat_abs x
      go true = omega (arith, abs-add (cut_share q x w (suc a)) (remainder q x w), (both x a h).0, (both x a h).1)
      go false = omega (arith, abs-add (cut_share q x w (suc a)) (pos 0), (both x a h).0)

-- ---- weights that agree on the directions
module _ (q : ℕ) (x : ℤ) (w u : ℕ → ℤ) (same : (a : ℕ) → a < q → w (suc a) ≡ u (suc a)) where
  cut-cong : (a : ℕ) → a < q → cut_share q x w (suc a) ≡ cut_share q x u (suc a)
  unfolding cut_share
  cut-cong a h = ap₂ (λ (y t : ℤ). quot_z (x *ℤ y) t) (same a h) (sum-cong q (λ b. w (suc b)) (λ b. u (suc b)) same)

  pub share-cong : (a : ℕ) → a < q → share q x w (suc a) ≡ share q x u (suc a)
  unfolding share remainder lowest_dir
  share-cong a h i =
      cut-cong a h i
      +ℤ cond (eqb (suc a) (suc (first_cong q 0 (λ b. is_positive (w (suc b))) (λ b. is_positive (u (suc b))) (λ b k. ap is_positive (at b k)) i)))
      (x -ℤ sum-cong q (λ b. cut_share q x w (suc b)) (λ b. cut_share q x u (suc b)) cut-cong i) (pos 0)
    where
      at : (b : ℕ) → b < q → w (suc (0 + b)) ≡ u (suc (0 + b))
      at b k = same (0 + b) (omega arith)
