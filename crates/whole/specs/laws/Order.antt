-- The order of whole numbers: its laws, the tests `le_z` and `lt_z` read as orders, and the bridges to `omega`.
-- Use: `omega (arith, orders)` proves a < c from `a ≤ℤ b` and `lt_z b c ≡ true`; where sums stand in the orders, `to≤ (a ∷ b ∷ []) (search quotes depth 20)
-- (search quotes depth 20) (omega (arith, ..))` proves a linear one, with `of≤` reading a hypothesis. Assumes nothing.
use Rattle.std.specs.Prelude.{◌≡◌, refl, ◌⊎◌, Bool, true, false, not, List, [], ◌∷◌, ℕ, zero, suc, ◌+◌, ◌*◌, ◌-◌, ◌<◌, ◌≤◌, T, ℤ, pos, neg_ℤ, nat_abs, ◌+ℤ◌, ◌-ℤ◌, ◌*ℤ◌, ◌≤ℤ◌, ◌<ℤ◌}
use Rattle.std.proofs.Common.{sym, ◌∙◌, subst, inl, inr, ⊎_elim, arith, mul-le-mul, mul-le-mul_left}
use Rattle.std.specs.Int.Signed.{le_z, lt_z, lt_z_no, le_z_yes, lt_z_yes, clash_ℤ}
use Rattle.whole.specs.laws.Bools.{T_true}
use Rattle.whole.specs.Fold.{up, down}
use Rattle.whole.specs.laws.Parts.{Is, is-self, is_pos, is-add, is-neg, is_mul, is_le, is_lt, le_is, lt-is, ≤-parts, <-parts, parts-≤, parts-<}
use Rattle.whole.specs.laws.Ring.{E, var, con, ◌⊕◌, ◌⊖◌, ◌⊗◌, neg, eval, nth, Code, square-pos}

-- ---- the laws
pub ≤ℤ-trans : {a b c : ℤ} → a ≤ℤ b → b ≤ℤ c → a ≤ℤ c
≤ℤ-trans h k = parts-≤ (omega (arith, ≤-parts h, ≤-parts k))

pub <ℤ→≤ℤ : {a b : ℤ} → a <ℤ b → a ≤ℤ b
<ℤ→≤ℤ h = parts-≤ (omega (arith, <-parts h))

pub ≤-or : (m n : ℕ) → (m ≤ n) ⊎ (n < m)
≤-or zero n = inl (omega arith)
≤-or (suc m) zero = inr (omega arith)
≤-or (suc m) (suc n) = ⊎_elim (λ h. inl (omega arith)) (λ h. inr (omega arith)) (≤-or m n)

pub ≤ℤ-total : (a b : ℤ) → (a ≤ℤ b) ⊎ (b <ℤ a)
≤ℤ-total a b = ⊎_elim (λ h. inl (parts-≤ h)) (λ h. inr (parts-< h)) (≤-or (up a + down b) (up b + down a))

pub negℤ-mono : {a b : ℤ} → a ≤ℤ b → neg_ℤ b ≤ℤ neg_ℤ a
negℤ-mono {a} {b} h = is_le (is-neg (is-self b)) (is-neg (is-self a)) (omega (arith, ≤-parts h))

pub *ℤ-mono : (n : ℕ) {a b : ℤ} → a ≤ℤ b → (pos n *ℤ a) ≤ℤ (pos n *ℤ b)
*ℤ-mono n {a} {b} h = is_le (is_mul (is_pos n) (is-self a)) (is_mul (is_pos n) (is-self b)) (omega (arith, mul-le-mul_left n (≤-parts h)))

-- ---- a test's value and the order
pub le_z-true : {a b : ℤ} → le_z a b ≡ true → a ≤ℤ b
le_z-true {a} {b} e = le_z_yes (subst T (sym e) tt)

pub lt_z-true : {a b : ℤ} → lt_z a b ≡ true → a <ℤ b
lt_z-true {a} {b} e = lt_z_yes (subst T (sym e) tt)

pub lt_z-false : {a b : ℤ} → lt_z a b ≡ false → b ≤ℤ a
lt_z-false {a} {b} e = lt_z_no (subst (λ (t : Bool). T (not t)) (sym e) tt)

pub le_z-false : {a b : ℤ} → le_z a b ≡ false → b <ℤ a
le_z-false {a} {b} e = ⊎_elim (λ h. absurd (subst T e h.le)) (λ h. h) (≤ℤ-total a b)

is_false : (t : Bool) → (T t → ⊥) → t ≡ false
is_false true h = absurd (h tt)
is_false false h = refl

pub ≤-le_z : {a b : ℤ} → a ≤ℤ b → le_z a b ≡ true
≤-le_z {a} {b} h = T_true (le_z a b) h.le

pub <-le_z : {a b : ℤ} → b <ℤ a → le_z a b ≡ false
<-le_z {a} {b} h = is_false (le_z a b) (λ t. clash_ℤ h (le_z_yes t))

-- ---- for `omega (arith, orders)`: each order of ℤ in reach is read by the parts, and a goal that is one is turned
pub test-le : (a b : ℤ) → le_z a b ≡ true → up a + down b ≤ up b + down a
test-le a b e = ≤-parts (le_z-true {a = a} {b = b} e)

pub test-lt : (a b : ℤ) → lt_z a b ≡ true → up a + down b < up b + down a
test-lt a b e = <-parts (lt_z-true {a = a} {b = b} e)

pub test-nle : (a b : ℤ) → le_z a b ≡ false → up b + down a < up a + down b
test-nle a b e = <-parts (le_z-false {a = a} {b = b} e)

pub test-nlt : (a b : ℤ) → lt_z a b ≡ false → up b + down a ≤ up a + down b
test-nlt a b e = ≤-parts (lt_z-false {a = a} {b = b} e)

pub ruleset orders = (≤-parts, <-parts, parts-≤, parts-<, test-le, test-lt, test-nle, test-nlt)

-- ---- linear arithmetic: an expression's parts are sums of the parts of its variables
abbrev mutual
  pub p_e : List ℤ → E → ℕ
  p_e ρ (var i) = up (nth ρ i)
  p_e ρ (con z) = up z
  p_e ρ (a ⊕ b) = p_e ρ a + p_e ρ b
  p_e ρ (a ⊖ b) = p_e ρ a + n_e ρ b
  p_e ρ (a ⊗ b) = p_e ρ a * p_e ρ b + n_e ρ a * n_e ρ b
  p_e ρ (neg a) = n_e ρ a

  pub n_e : List ℤ → E → ℕ
  n_e ρ (var i) = down (nth ρ i)
  n_e ρ (con z) = down z
  n_e ρ (a ⊕ b) = n_e ρ a + n_e ρ b
  n_e ρ (a ⊖ b) = n_e ρ a + p_e ρ b
  n_e ρ (a ⊗ b) = p_e ρ a * n_e ρ b + n_e ρ a * p_e ρ b
  n_e ρ (neg a) = p_e ρ a

den : (ρ : List ℤ) (e : E) → Is (eval ρ e) (p_e ρ e) (n_e ρ e)
den ρ (var i) = is-self (nth ρ i)
den ρ (con z) = is-self z
den ρ (a ⊕ b) = is-add (den ρ a) (den ρ b)
den ρ (a ⊖ b) = is-add (den ρ a) (is-neg (den ρ b))
den ρ (a ⊗ b) = is_mul (den ρ a) (den ρ b)
den ρ (neg a) = is-neg (den ρ a)

of : {ρ : List ℤ} {a : ℤ} (x : Code ρ a) → Is a (p_e ρ x.code) (n_e ρ x.code)
of {ρ} x = subst (λ (z : ℤ). Is z (p_e ρ x.code) (n_e ρ x.code)) x.is (den ρ x.code)

module _ (ρ : List ℤ) {a b : ℤ} (x : Code ρ a) (y : Code ρ b) where
  pub to≤ : p_e ρ x.code + n_e ρ y.code ≤ p_e ρ y.code + n_e ρ x.code → a ≤ℤ b
  to≤ e = is_le (of x) (of y) e

  pub to< : p_e ρ x.code + n_e ρ y.code < p_e ρ y.code + n_e ρ x.code → a <ℤ b
  to< e = is_lt (of x) (of y) e

  pub of≤ : a ≤ℤ b → p_e ρ x.code + n_e ρ y.code ≤ p_e ρ y.code + n_e ρ x.code
  of≤ e = le_is (of x) (of y) e

  pub of< : a <ℤ b → p_e ρ x.code + n_e ρ y.code < p_e ρ y.code + n_e ρ x.code
  of< e = lt-is (of x) (of y) e

-- ---- squares: a component from a bound of the sum of squares
root : (x r s : ℕ) → 9 * (x * x) + s ≤ r * r → 3 * x ≤ r
root x r s h = ⊎_elim (λ k. k) (λ k. absurd (omega (arith, mul-le-mul k k))) (≤-or (3 * x) r)

pub squares : (jx jy jz ρ : ℤ) → (pos 9 *ℤ (jx *ℤ jx +ℤ jy *ℤ jy +ℤ jz *ℤ jz)) ≤ℤ (ρ *ℤ ρ) → 9 * (nat_abs jx * nat_abs jx + nat_abs jy * nat_abs jy + nat_abs jz * nat_abs jz) ≤ nat_abs ρ * nat_abs ρ
squares jx jy jz ρ h = omega (arith, ≤-parts (rw (square-pos jx, square-pos jy, square-pos jz, square-pos ρ) at h))

pub slow-x : (jx jy jz ρ : ℤ) → (pos 9 *ℤ (jx *ℤ jx +ℤ jy *ℤ jy +ℤ jz *ℤ jz)) ≤ℤ (ρ *ℤ ρ) → 3 * nat_abs jx ≤ nat_abs ρ
slow-x jx jy jz ρ h = root (nat_abs jx) (nat_abs ρ) (9 * (nat_abs jy * nat_abs jy + nat_abs jz * nat_abs jz)) (omega (arith, squares jx jy jz ρ h))
