-- The ring of whole numbers: its laws by name, and any identity by computation. An expression over variables (numbered in a list), constants, sums,
-- differences and products has a polynomial, a list of coefficients with their exponents; where the polynomial of a difference is empty, the two sides
-- are equal. `search quotes` finds the expression, so that a proof is one line.
-- Use: `ring-by (a ∷ b ∷ []) (search quotes depth 20) (search quotes depth 20) tt` proves (a + b)·(a − b) ≡ a·a − b·b;
-- `ring-from (a ∷ b ∷ []) {k = a +ℤ b} h ..` leans on an equation h. Assumes nothing.
use Rattle.std.specs.Prelude.{◌≡◌, refl, Bool, true, false, List, [], ◌∷◌, T, eqb, ℤ, pos, negsuc, neg_ℤ, nat_abs, ◌+ℤ◌, ◌-ℤ◌, ◌*ℤ◌}
use Rattle.std.proofs.Common.{sym, ◌∙◌, ap, ap₂, subst, zero-add, suc-add, arith, eqb→eq}
use Prim.Native.Nat.{ℕ, zero, suc, ◌+◌, ◌*◌, compare, Ordering}
use Rattle.std.proofs.Math.Dec.{compare_is_eq}
use Rattle.std.proofs.Math.IntN.{+ℤ_idl, +ℤ_idr, +ℤ_assoc, zero-*ℤ, *ℤ-zero}
use Rattle.whole.specs.laws.Parts.{is-self, is_pos, is-add, is-neg, is_mul, is_eq, eq_is}

-- ---- the laws that lib.IntN lacks
pub *ℤ-assoc : (a b c : ℤ) → (a *ℤ b) *ℤ c ≡ a *ℤ (b *ℤ c)
*ℤ-assoc a b c = is_eq (is_mul (is_mul (is-self a) (is-self b)) (is-self c)) (is_mul (is-self a) (is_mul (is-self b) (is-self c))) (omega arith)

pub *ℤ-+ℤ : (a b c : ℤ) → a *ℤ (b +ℤ c) ≡ a *ℤ b +ℤ a *ℤ c
*ℤ-+ℤ a b c = is_eq (is_mul (is-self a) (is-add (is-self b) (is-self c))) (is-add (is_mul (is-self a) (is-self b)) (is_mul (is-self a) (is-self c))) (omega arith)

pub +ℤ-*ℤ : (a b c : ℤ) → (a +ℤ b) *ℤ c ≡ a *ℤ c +ℤ b *ℤ c
+ℤ-*ℤ a b c = is_eq (is_mul (is-add (is-self a) (is-self b)) (is-self c)) (is-add (is_mul (is-self a) (is-self c)) (is_mul (is-self b) (is-self c))) (omega arith)

pub neg-*ℤ : (a b : ℤ) → neg_ℤ a *ℤ b ≡ neg_ℤ (a *ℤ b)
neg-*ℤ a b = is_eq (is_mul (is-neg (is-self a)) (is-self b)) (is-neg (is_mul (is-self a) (is-self b))) (omega arith)

pub *ℤ-neg : (a b : ℤ) → a *ℤ neg_ℤ b ≡ neg_ℤ (a *ℤ b)
*ℤ-neg a b = is_eq (is_mul (is-self a) (is-neg (is-self b))) (is-neg (is_mul (is-self a) (is-self b))) (omega arith)

pub one-*ℤ : (a : ℤ) → pos 1 *ℤ a ≡ a
one-*ℤ a = is_eq (is_mul (is_pos 1) (is-self a)) (is-self a) (omega arith)

pub square-pos : (a : ℤ) → a *ℤ a ≡ pos (nat_abs a * nat_abs a)
square-pos (pos n) = refl
square-pos (negsuc n) = refl

-- ---- expressions
infixl 6 ◌⊕◌ ◌⊖◌
infixl 7 ◌⊗◌
pub data E : Type 0 where
  var : ℕ → E
  con : ℤ → E
  ◌⊕◌ : E → E → E
  ◌⊖◌ : E → E → E
  ◌⊗◌ : E → E → E
  neg : E → E

abbrev pub nth : List ℤ → ℕ → ℤ
nth [] i = pos 0
nth (x ∷ ρ) zero = x
nth (x ∷ ρ) (suc i) = nth ρ i

abbrev pub eval : List ℤ → E → ℤ
eval ρ (var i) = nth ρ i
eval ρ (con z) = z
eval ρ (a ⊕ b) = eval ρ a +ℤ eval ρ b
eval ρ (a ⊖ b) = eval ρ a -ℤ eval ρ b
eval ρ (a ⊗ b) = eval ρ a *ℤ eval ρ b
eval ρ (neg a) = neg_ℤ (eval ρ a)

-- ---- monomials: exponents
abbrev pub unit : ℕ → List ℕ
unit zero = 1 ∷ []
unit (suc i) = 0 ∷ unit i

abbrev pub mul_m : List ℕ → List ℕ → List ℕ
mul_m [] n = n
mul_m (a ∷ m) [] = a ∷ m
mul_m (a ∷ m) (b ∷ n) = (a + b) ∷ mul_m m n

abbrev pub lexi : Ordering → Ordering → Ordering
lexi Ordering.lt o = Ordering.lt
lexi Ordering.eq o = o
lexi Ordering.gt o = Ordering.gt

abbrev pub cmp_m : List ℕ → List ℕ → Ordering
cmp_m [] [] = Ordering.eq
cmp_m [] (b ∷ n) = Ordering.lt
cmp_m (a ∷ m) [] = Ordering.gt
cmp_m (a ∷ m) (b ∷ n) = lexi (compare a b) (cmp_m m n)

-- ---- polynomials
pub data P : Type 0 where
  nil : P
  term : ℤ → List ℕ → P → P

abbrev pub zero_z : ℤ → Bool
zero_z (pos n) = eqb n 0
zero_z (negsuc n) = false

abbrev pub keep : Bool → ℤ → List ℕ → P → P
keep true c m p = p
keep false c m p = term c m p

abbrev pub place : Ordering → ℤ → List ℕ → ℤ → List ℕ → P → P → P
place Ordering.lt c m d n p r = term c m (term d n p)
place Ordering.eq c m d n p r = keep (zero_z (c +ℤ d)) (c +ℤ d) m p
place Ordering.gt c m d n p r = term d n r

abbrev pub ins : ℤ → List ℕ → P → P
ins c m nil = term c m nil
ins c m (term d n p) = place (cmp_m m n) c m d n p (ins c m p)

abbrev pub add_p : P → P → P
add_p nil q = q
add_p (term c m p) q = ins c m (add_p p q)

abbrev pub scale : ℤ → List ℕ → P → P
scale c m nil = nil
scale c m (term d n p) = term (c *ℤ d) (mul_m m n) (scale c m p)

abbrev pub mul_p : P → P → P
mul_p nil q = nil
mul_p (term c m p) q = add_p (scale c m q) (mul_p p q)

abbrev pub norm : E → P
norm (var i) = term (pos 1) (unit i) nil
norm (con z) = keep (zero_z z) z [] nil
norm (a ⊕ b) = add_p (norm a) (norm b)
norm (a ⊖ b) = add_p (norm a) (scale (negsuc 0) [] (norm b))
norm (a ⊗ b) = mul_p (norm a) (norm b)
norm (neg a) = scale (negsuc 0) [] (norm a)

abbrev pub none : P → Bool
none nil = true
none (term c m p) = false

abbrev pub vanishes : E → Bool
vanishes e = none (norm e)

-- ---- what they stand for
abbrev pw : ℤ → ℕ → ℤ
pw x zero = pos 1
pw x (suc n) = x *ℤ pw x n

abbrev ev_m : List ℤ → List ℕ → ℤ
ev_m [] [] = pos 1
ev_m [] (e ∷ m) = pos 0
ev_m (x ∷ ρ) [] = pos 1
ev_m (x ∷ ρ) (e ∷ m) = pw x e *ℤ ev_m ρ m

abbrev ev_p : List ℤ → P → ℤ
ev_p ρ nil = pos 0
ev_p ρ (term c m p) = c *ℤ ev_m ρ m +ℤ ev_p ρ p

-- ---- it is right
pw-add : (x : ℤ) (a b : ℕ) → pw x (a + b) ≡ pw x a *ℤ pw x b
pw-add x zero b = ap (pw x) (zero-add b) ∙ sym (one-*ℤ (pw x b))
pw-add x (suc a) b = ap (pw x) (suc-add a b) ∙ ap (λ (z : ℤ). x *ℤ z) (pw-add x a b) ∙ sym (*ℤ-assoc x (pw x a) (pw x b))

four : (a b c d : ℤ) → (a *ℤ b) *ℤ (c *ℤ d) ≡ (a *ℤ c) *ℤ (b *ℤ d)
four a b c d =
    is_eq (is_mul (is_mul (is-self a) (is-self b)) (is_mul (is-self c) (is-self d)))
    (is_mul (is_mul (is-self a) (is-self c)) (is_mul (is-self b) (is-self d)))
    (omega arith)

*-one : (a : ℤ) → a *ℤ pos 1 ≡ a
*-one a = is_eq (is_mul (is-self a) (is_pos 1)) (is-self a) (omega arith)

mul_m-is : (ρ : List ℤ) (m n : List ℕ) → ev_m ρ (mul_m m n) ≡ ev_m ρ m *ℤ ev_m ρ n
mul_m-is [] [] n = sym (one-*ℤ (ev_m [] n))
mul_m-is [] (a ∷ m) [] = refl
mul_m-is [] (a ∷ m) (b ∷ n) = refl
mul_m-is (x ∷ ρ) [] n = sym (one-*ℤ (ev_m (x ∷ ρ) n))
mul_m-is (x ∷ ρ) (a ∷ m) [] = sym (*-one (pw x a *ℤ ev_m ρ m))
mul_m-is (x ∷ ρ) (a ∷ m) (b ∷ n) =
    ap₂ ◌*ℤ◌ (pw-add x a b) (mul_m-is ρ m n) ∙ four (pw x a) (pw x b) (ev_m ρ m) (ev_m ρ n)

unit-is : (ρ : List ℤ) (i : ℕ) → ev_m ρ (unit i) ≡ nth ρ i
unit-is [] zero = refl
unit-is [] (suc i) = refl
unit-is (x ∷ []) zero = *-one (x *ℤ pos 1) ∙ *-one x
unit-is (x ∷ (y ∷ ρ)) zero = *-one (x *ℤ pos 1) ∙ *-one x
unit-is (x ∷ ρ) (suc i) = one-*ℤ (ev_m ρ (unit i)) ∙ unit-is ρ i

is_eq-is : (a b : ℕ) → compare a b ≡ Ordering.eq → a ≡ b
is_eq-is a b e = eqb→eq a b (subst (λ (o : Ordering). T (compare_is_eq o)) (sym e) tt)

-- which of the two it was
lexi-eq : (o o' : Ordering) → lexi o o' ≡ Ordering.eq → (o ≡ Ordering.eq) × (o' ≡ Ordering.eq)
lexi-eq Ordering.lt o e = (e, absurd (lt-ne e))
  where
    lt-ne : Ordering.lt ≡ Ordering.eq → ⊥
    lt-ne e = subst (λ (o : Ordering). T (compare_is_eq o)) (sym e) tt
lexi-eq Ordering.eq o e = (refl, e)
lexi-eq Ordering.gt o e = (e, absurd (gt-ne e))
  where
    gt-ne : Ordering.gt ≡ Ordering.eq → ⊥
    gt-ne e = subst (λ (o : Ordering). T (compare_is_eq o)) (sym e) tt

cmp_m-eq : (m n : List ℕ) → cmp_m m n ≡ Ordering.eq → m ≡ n
cmp_m-eq [] [] e = refl
cmp_m-eq [] (b ∷ n) e = absurd (subst (λ (o : Ordering). T (compare_is_eq o)) (sym e) tt)
cmp_m-eq (a ∷ m) [] e = absurd (subst (λ (o : Ordering). T (compare_is_eq o)) (sym e) tt)
cmp_m-eq (a ∷ m) (b ∷ n) e =
    let q = lexi-eq (compare a b) (cmp_m m n) e in
    ap₂ ◌∷◌ (is_eq-is a b q.0) (cmp_m-eq m n q.1)

zero_z-is : (z : ℤ) → zero_z z ≡ true → z ≡ pos 0
zero_z-is (pos n) e = ap pos (eqb→eq n 0 (subst T (sym e) tt))
zero_z-is (negsuc n) e = absurd (subst T (sym e) tt)

keep-is : (ρ : List ℤ) (b : Bool) (c : ℤ) (m : List ℕ) (p : P) → (b ≡ true → c ≡ pos 0) → ev_p ρ (keep b c m p) ≡ c *ℤ ev_m ρ m +ℤ ev_p ρ p
keep-is ρ true c m p h =
    sym (ap (λ (z : ℤ). z *ℤ ev_m ρ m +ℤ ev_p ρ p) (h refl) ∙ ap (λ (z : ℤ). z +ℤ ev_p ρ p) (zero-*ℤ (ev_m ρ m)) ∙ +ℤ_idl (ev_p ρ p))
keep-is ρ false c m p h = refl

swap : (a b c : ℤ) → a +ℤ (b +ℤ c) ≡ b +ℤ (a +ℤ c)
swap a b c =
    is_eq (is-add (is-self a) (is-add (is-self b) (is-self c))) (is-add (is-self b) (is-add (is-self a) (is-self c))) (omega arith)

place_is : (ρ : List ℤ) (o : Ordering) (c : ℤ) (m : List ℕ) (d : ℤ) (n : List ℕ) (p r : P) → (o ≡ Ordering.eq → m ≡ n) → ev_p ρ r ≡ c *ℤ ev_m ρ m +ℤ ev_p ρ p → ev_p ρ (place o c m d n p r) ≡ c *ℤ ev_m ρ m +ℤ (d *ℤ ev_m ρ n +ℤ ev_p ρ p)
place_is ρ Ordering.lt c m d n p r h k = refl
place_is ρ Ordering.eq c m d n p r h k =
    keep-is ρ (zero_z (c +ℤ d)) (c +ℤ d) m p (zero_z-is (c +ℤ d))
    ∙ ap (λ (z : ℤ). z +ℤ ev_p ρ p) (+ℤ-*ℤ c d (ev_m ρ m))
    ∙ +ℤ_assoc (c *ℤ ev_m ρ m) (d *ℤ ev_m ρ m) (ev_p ρ p)
    ∙ ap (λ (l : List ℕ). c *ℤ ev_m ρ m +ℤ (d *ℤ ev_m ρ l +ℤ ev_p ρ p)) (h refl)
place_is ρ Ordering.gt c m d n p r h k = ap (λ (z : ℤ). d *ℤ ev_m ρ n +ℤ z) k ∙ swap (d *ℤ ev_m ρ n) (c *ℤ ev_m ρ m) (ev_p ρ p)

ins-is : (ρ : List ℤ) (c : ℤ) (m : List ℕ) (p : P) → ev_p ρ (ins c m p) ≡ c *ℤ ev_m ρ m +ℤ ev_p ρ p
ins-is ρ c m nil = refl
ins-is ρ c m (term d n p) = place_is ρ (cmp_m m n) c m d n p (ins c m p) (cmp_m-eq m n) (ins-is ρ c m p)

add_p-is : (ρ : List ℤ) (p q : P) → ev_p ρ (add_p p q) ≡ ev_p ρ p +ℤ ev_p ρ q
add_p-is ρ nil q = sym (+ℤ_idl (ev_p ρ q))
add_p-is ρ (term c m p) q =
    ins-is ρ c m (add_p p q) ∙ ap (λ (z : ℤ). c *ℤ ev_m ρ m +ℤ z) (add_p-is ρ p q) ∙ sym (+ℤ_assoc (c *ℤ ev_m ρ m) (ev_p ρ p) (ev_p ρ q))

scale-is : (ρ : List ℤ) (c : ℤ) (m : List ℕ) (p : P) → ev_p ρ (scale c m p) ≡ c *ℤ ev_m ρ m *ℤ ev_p ρ p
scale-is ρ c m nil = sym (*ℤ-zero (c *ℤ ev_m ρ m))
scale-is ρ c m (term d n p) =
    ap₂ ◌+ℤ◌ (ap (λ (z : ℤ). c *ℤ d *ℤ z) (mul_m-is ρ m n) ∙ four c d (ev_m ρ m) (ev_m ρ n)) (scale-is ρ c m p)
    ∙ sym (*ℤ-+ℤ (c *ℤ ev_m ρ m) (d *ℤ ev_m ρ n) (ev_p ρ p))

mul_p-is : (ρ : List ℤ) (p q : P) → ev_p ρ (mul_p p q) ≡ ev_p ρ p *ℤ ev_p ρ q
mul_p-is ρ nil q = sym (zero-*ℤ (ev_p ρ q))
mul_p-is ρ (term c m p) q =
    add_p-is ρ (scale c m q) (mul_p p q) ∙ ap₂ ◌+ℤ◌ (scale-is ρ c m q) (mul_p-is ρ p q) ∙ sym (+ℤ-*ℤ (c *ℤ ev_m ρ m) (ev_p ρ p) (ev_p ρ q))

ev_m-nil : (ρ : List ℤ) → ev_m ρ [] ≡ pos 1
ev_m-nil [] = refl
ev_m-nil (x ∷ ρ) = refl

minus_is : (ρ : List ℤ) (p : P) → ev_p ρ (scale (negsuc 0) [] p) ≡ neg_ℤ (ev_p ρ p)
minus_is ρ p =
    scale-is ρ (negsuc 0) [] p ∙ ap (λ (z : ℤ). negsuc 0 *ℤ z *ℤ ev_p ρ p) (ev_m-nil ρ)
    ∙ is_eq (is_mul (is-self (negsuc 0)) (is-self (ev_p ρ p))) (is-neg (is-self (ev_p ρ p))) (omega arith)

norm-is : (ρ : List ℤ) (e : E) → ev_p ρ (norm e) ≡ eval ρ e
norm-is ρ (var i) = +ℤ_idr (pos 1 *ℤ ev_m ρ (unit i)) ∙ one-*ℤ (ev_m ρ (unit i)) ∙ unit-is ρ i
norm-is ρ (con z) =
    keep-is ρ (zero_z z) z [] nil (zero_z-is z) ∙ +ℤ_idr (z *ℤ ev_m ρ []) ∙ ap (λ (y : ℤ). z *ℤ y) (ev_m-nil ρ) ∙ *-one z
norm-is ρ (a ⊕ b) = add_p-is ρ (norm a) (norm b) ∙ ap₂ ◌+ℤ◌ (norm-is ρ a) (norm-is ρ b)
norm-is ρ (a ⊖ b) =
    add_p-is ρ (norm a) (scale (negsuc 0) [] (norm b))
    ∙ ap₂ ◌+ℤ◌ (norm-is ρ a) (minus_is ρ (norm b) ∙ ap neg_ℤ (norm-is ρ b))
norm-is ρ (a ⊗ b) = mul_p-is ρ (norm a) (norm b) ∙ ap₂ ◌*ℤ◌ (norm-is ρ a) (norm-is ρ b)
norm-is ρ (neg a) = minus_is ρ (norm a) ∙ ap neg_ℤ (norm-is ρ a)

none_is : (ρ : List ℤ) (p : P) → T (none p) → ev_p ρ p ≡ pos 0
none_is ρ nil t = refl
none_is ρ (term c m p) t = absurd t

pub diff-zero : {a b : ℤ} → a -ℤ b ≡ pos 0 → a ≡ b
diff-zero {a} {b} e =
    is_eq (is-self a) (is-self b) (omega (arith, eq_is (is-add (is-self a) (is-neg (is-self b))) (is_pos 0) e))

pub ring : (ρ : List ℤ) (a b : E) → T (vanishes (a ⊖ b)) → eval ρ a ≡ eval ρ b
ring ρ a b t = diff-zero (sym (norm-is ρ (a ⊖ b)) ∙ none_is ρ (norm (a ⊖ b)) t)

-- ---- an expression found by `search quotes`
pub record Code (ρ : List ℤ) (z : ℤ) : Type 0 where
  pub code : E
  pub is : eval ρ code ≡ z

abbrev pub q+ : {ρ : List ℤ} {a b : ℤ} → Code ρ a → Code ρ b → Code ρ (a +ℤ b)
q+ x y = record { code = x.code ⊕ y.code; is = ap₂ ◌+ℤ◌ x.is y.is }

abbrev pub q* : {ρ : List ℤ} {a b : ℤ} → Code ρ a → Code ρ b → Code ρ (a *ℤ b)
q* x y = record { code = x.code ⊗ y.code; is = ap₂ ◌*ℤ◌ x.is y.is }

abbrev pub qneg : {ρ : List ℤ} {a : ℤ} → Code ρ a → Code ρ (neg_ℤ a)
qneg x = record { code = neg x.code; is = ap neg_ℤ x.is }

abbrev pub qpos : {ρ : List ℤ} {n : ℕ} → Code ρ (pos n)
qpos {n = n} = record { code = con (pos n); is = refl }

abbrev pub qnegsuc : {ρ : List ℤ} {n : ℕ} → Code ρ (negsuc n)
qnegsuc {n = n} = record { code = con (negsuc n); is = refl }

abbrev pub q0 : {ρ : List ℤ} {a : ℤ} → Code (a ∷ ρ) a
q0 = record { code = var 0; is = refl }

abbrev pub q1 : {ρ : List ℤ} {a b : ℤ} → Code (a ∷ b ∷ ρ) b
q1 = record { code = var 1; is = refl }

abbrev pub q2 : {ρ : List ℤ} {a b c : ℤ} → Code (a ∷ b ∷ c ∷ ρ) c
q2 = record { code = var 2; is = refl }

abbrev pub q3 : {ρ : List ℤ} {a b c d : ℤ} → Code (a ∷ b ∷ c ∷ d ∷ ρ) d
q3 = record { code = var 3; is = refl }

abbrev pub q4 : {ρ : List ℤ} {a b c d e : ℤ} → Code (a ∷ b ∷ c ∷ d ∷ e ∷ ρ) e
q4 = record { code = var 4; is = refl }

abbrev pub q5 : {ρ : List ℤ} {a b c d e f : ℤ} → Code (a ∷ b ∷ c ∷ d ∷ e ∷ f ∷ ρ) f
q5 = record { code = var 5; is = refl }

abbrev pub q6 : {ρ : List ℤ} {a b c d e f g : ℤ} → Code (a ∷ b ∷ c ∷ d ∷ e ∷ f ∷ g ∷ ρ) g
q6 = record { code = var 6; is = refl }

abbrev pub q7 : {ρ : List ℤ} {a b c d e f g h : ℤ} → Code (a ∷ b ∷ c ∷ d ∷ e ∷ f ∷ g ∷ h ∷ ρ) h
q7 = record { code = var 7; is = refl }

pub ruleset quotes = (q0, q1, q2, q3, q4, q5, q6, q7, q+, q*, qneg, qpos, qnegsuc)

pub ring-by : (ρ : List ℤ) {a b : ℤ} (x : Code ρ a) (y : Code ρ b) → T (vanishes (x.code ⊖ y.code)) → a ≡ b
ring-by ρ x y t = sym x.is ∙ ring ρ x.code y.code t ∙ y.is

-- ---- an identity that leans on an equation: a ≡ b where a − b is k times (x − y) and x ≡ y
from-diff : (a b k x y : ℤ) → a -ℤ b ≡ k *ℤ (x -ℤ y) → x ≡ y → a ≡ b
from-diff a b k x y e h =
    diff-zero (e ∙ ap (λ (z : ℤ). k *ℤ (z -ℤ y)) h ∙ ring-by (k ∷ y ∷ []) (search quotes depth 20) (search quotes depth 20) tt)

pub ring-from : (ρ : List ℤ) {a b x y k : ℤ} → x ≡ y → (qa : Code ρ a) (qb : Code ρ b) (qx : Code ρ x) (qy : Code ρ y) (qk : Code ρ k) → T (vanishes ((qa.code ⊖ qb.code) ⊖ qk.code ⊗ (qx.code ⊖ qy.code))) → a ≡ b
ring-from ρ {a} {b} {x} {y} {k} h qa qb qx qy qk t =
    from-diff a b k x y
    (sym (ap₂ ◌-ℤ◌ qa.is qb.is) ∙ ring ρ (qa.code ⊖ qb.code) (qk.code ⊗ (qx.code ⊖ qy.code)) t ∙ ap₂ ◌*ℤ◌ qk.is (ap₂ ◌-ℤ◌ qx.is qy.is))
    h

-- ---- small identities that proofs cite by name
pub neg-sub : (a b : ℤ) → neg_ℤ (a -ℤ b) ≡ b -ℤ a
neg-sub a b = ring-by (a ∷ b ∷ []) (search quotes depth 20) (search quotes depth 20) tt

pub back-sub : (r m : ℤ) → r +ℤ (m -ℤ r) ≡ m
back-sub r m = ring-by (r ∷ m ∷ []) (search quotes depth 20) (search quotes depth 20) tt

pub +ℤ-mix : (a b c d : ℤ) → (a +ℤ b) +ℤ (c +ℤ d) ≡ (a +ℤ c) +ℤ (b +ℤ d)
+ℤ-mix a b c d = ring-by (a ∷ b ∷ c ∷ d ∷ []) (search quotes depth 20) (search quotes depth 20) tt

pub self-neg : (x : ℤ) → neg_ℤ x ≡ x → x ≡ pos 0
self-neg x e = is_eq (is-self x) (is_pos 0) (omega (arith, eq_is (is-neg (is-self x)) (is-self x) e))
