-- The table of directions in code against document 01's rows, each rule one computed test over the nineteen. Assumes nothing.
use mathlib.Core.Path.{◌≡◌, refl, ◌∙◌}
use mathlib.Core.Logic.{⊎_elim}
use mathlib.Core.Bool.{Bool, true, false, ◌&&◌, ◌||◌}
use mathlib.Core.List.{List, [], ◌∷◌, map}
use Prim.Native.Nat.{ℕ, zero, suc, ◌+◌, ◌%◌, ◌<◌, ◌≤◌}
use native.Mathlib.Omega.{arith}
use lib.Dec.{leb, ltb, eqb}
use lib.ListN.{get_or}
use borrow.Author.Tests.{leb-true, eqb-true, eqb-false, ne_eqb, lt-ltb, le-ltb}
use lib.IntN.{ℤ, pos, neg_ℤ, nat_abs}
use Rattle.whole.specs.laws.Bools.{and_left, and_right, or_cases, true-T}
use Rattle.whole.specs.Fold.{all, tab, open-fold}
use Rattle.whole.specs.laws.Ring.{E, var, con, ◌⊕◌, ◌⊖◌, ◌⊗◌, neg, eval, vanishes, ring}
use Rattle.whole.specs.laws.Order.{≤-or}
use Rattle.whole.specs.laws.Machine.{Within, within_by}
use Rattle.whole.specs.laws.Search.{all-at}
use Rattle.whole.specs.laws.Tab.{upto_all}
use Rattle.lattice.specs.Lattice.{V3, dot, d3q19, open-lattice}
use Rattle.lattice.proofs.Reading.{reading}

-- weight 2 for 1 to 6, weight 1 for the rest
weight-right : ℕ → Bool
weight-right i = eqb i 0 || eqb (d3q19.weight i) (elim (ltb i 7) [ true ↦ 2 | false ↦ 1 ])

weights-right : all 19 weight-right ≡ true
unfolding open-fold open-lattice weight-right
weights-right = refl

-- its two halves, as the code's test parts them
weight-at : (i : ℕ) → 0 < i → i < 19 → eqb (d3q19.weight i) (elim (ltb i 7) [ true ↦ 2 | false ↦ 1 ]) ≡ true
unfolding weight-right
weight-at i h k =
    ⊎_elim (λ e. absurd (eqb-false i 0 (ne_eqb i 0 (λ z. omega arith)) (eqb-true i 0 e))) (λ e. e) (or_cases (eqb i 0) _ (all-at 19 weight-right weights-right i k))

pub heavy : (i : ℕ) → 0 < i → i < 7 → d3q19.weight i ≡ 2
heavy i h k = let e : ltb i 7 ≡ true = lt-ltb i 7 k in eqb-true (d3q19.weight i) 2 (rw e at (weight-at i h (omega arith)))

pub light : (i : ℕ) → 7 ≤ i → i < 19 → d3q19.weight i ≡ 1
light i h k = let e : ltb i 7 ≡ false = le-ltb i 7 h in eqb-true (d3q19.weight i) 1 (rw e at (weight-at i (omega arith) k))

-- ---- e·v by forms: the code's array, entry by entry, over the three components
module _ (x y z o : E) where
  abbrev forms-of : List E
  forms-of =
      o
      ∷ x ∷ (o ⊖ x) ∷ y ∷ (o ⊖ y) ∷ z ∷ (o ⊖ z)
      ∷ (x ⊕ y) ∷ (o ⊖ x ⊖ y) ∷ (x ⊖ y) ∷ (o ⊖ x ⊕ y)
      ∷ (y ⊕ z) ∷ (o ⊖ y ⊖ z) ∷ (y ⊖ z) ∷ (o ⊖ y ⊕ z)
      ∷ (x ⊕ z) ∷ (o ⊖ x ⊖ z) ∷ (x ⊖ z) ∷ (o ⊖ x ⊕ z)
      ∷ []

abbrev pub forms : List E
forms = forms-of (var 0) (var 1) (var 2) (con (pos 0))

-- e·v of the table's vector as a form
table-form : V3 → E
table-form e = con e.x ⊗ var 0 ⊕ con e.y ⊗ var 1 ⊕ con e.z ⊗ var 2

form-right : ℕ → Bool
form-right k = vanishes (get_or forms k (con (pos 0)) ⊖ table-form (d3q19.e k))

forms-right : all 19 form-right ≡ true
unfolding open-fold open-lattice form-right table-form
forms-right = refl

eval-at : (ρ : List ℤ) (l : List E) (k : ℕ) → get_or (map (eval ρ) l) k (pos 0) ≡ eval ρ (get_or l k (con (pos 0)))
eval-at ρ [] zero = refl
eval-at ρ [] (suc k) = refl
eval-at ρ (e ∷ l) zero = refl
eval-at ρ (e ∷ l) (suc k) = eval-at ρ l k

dot-right : (x y z : ℤ) (k : ℕ) → k < 19 → get_or (map (eval (x ∷ y ∷ z ∷ [])) forms) k (pos 0) ≡ dot (d3q19.e k) (record { x = x; y = y; z = z })
unfolding table-form form-right
dot-right x y z k h =
    eval-at (x ∷ y ∷ z ∷ []) forms k
    ∙ ring (x ∷ y ∷ z ∷ []) (get_or forms k (con (pos 0))) (table-form (d3q19.e k)) (true-T (all-at 19 form-right forms-right k h))

pub dots-right : (x y z : ℤ) → map (eval (x ∷ y ∷ z ∷ [])) forms ≡ tab 19 (λ k. dot (d3q19.e k) (record { x = x; y = y; z = z }))
dots-right x y z = upto_all (pos 0) (λ k. dot (d3q19.e k) (record { x = x; y = y; z = z })) (map (eval (x ∷ y ∷ z ∷ [])) forms) 19 refl (dot-right x y z)

-- ---- opposite directions: the pair of odd i is i and i + 1
opposite-right : ℕ → Bool
opposite-right i =
    eqb (i % 2) 0 || (eqb (d3q19.weight (i + 1)) (d3q19.weight i) && vanishes (table-form (d3q19.e (i + 1)) ⊖ neg (table-form (d3q19.e i))))

opposites-right : all 18 opposite-right ≡ true
unfolding open-fold open-lattice opposite-right table-form
opposites-right = refl

opposite-at : (i : ℕ) → i % 2 ≡ 1 → i < 19
    → (eqb (d3q19.weight (i + 1)) (d3q19.weight i) && vanishes (table-form (d3q19.e (i + 1)) ⊖ neg (table-form (d3q19.e i)))) ≡ true
unfolding opposite-right
opposite-at i o h =
    ⊎_elim (λ e. absurd (eqb-false (i % 2) 0 (ne_eqb (i % 2) 0 (λ z. omega arith)) (eqb-true (i % 2) 0 e))) (λ e. e)
    (or_cases (eqb (i % 2) 0) _ (all-at 18 opposite-right opposites-right i (omega arith)))

pub weight-opposite : (i : ℕ) → i % 2 ≡ 1 → i < 19 → d3q19.weight (i + 1) ≡ d3q19.weight i
weight-opposite i o h = eqb-true _ _ (and_left _ _ (opposite-at i o h))

pub dot-opposite : (i : ℕ) → i % 2 ≡ 1 → i < 19 → (v : V3) → dot (d3q19.e (i + 1)) v ≡ neg_ℤ (dot (d3q19.e i) v)
unfolding table-form
dot-opposite i o h v =
    ring (v.x ∷ v.y ∷ v.z ∷ []) (table-form (d3q19.e (i + 1))) (neg (table-form (d3q19.e i)))
    (true-T (and_right (eqb (d3q19.weight (i + 1)) (d3q19.weight i)) _ (opposite-at i o h)))

-- ---- bounds
pub weight-in : (i : ℕ) → 0 < i → i < 19 → Within (pos (d3q19.weight i)) 2
weight-in i h k =
    ⊎_elim (λ l. record { abs = omega (arith, light i l k) }) (λ l. record { abs = omega (arith, heavy i h l) }) (≤-or 7 i)

unit-right : ℕ → Bool
unit-right i = leb (nat_abs (d3q19.e i).x) 1 && (leb (nat_abs (d3q19.e i).y) 1 && leb (nat_abs (d3q19.e i).z) 1)

units-right : all 19 unit-right ≡ true
unfolding open-fold open-lattice unit-right
units-right = refl

-- no direction goes further than one cell along an axis
pub unit-in : (i : ℕ) → i < 19 → Within (d3q19.e i).x 1 × Within (d3q19.e i).y 1 × Within (d3q19.e i).z 1
unfolding unit-right
unit-in i h =
    let u = all-at 19 unit-right units-right i h in
    let x = leb (nat_abs (d3q19.e i).x) 1 in
    let y = leb (nat_abs (d3q19.e i).y) 1 in
    let z = leb (nat_abs (d3q19.e i).z) 1 in (
      record { abs = leb-true _ 1 (and_left x (y && z) u) },
      record { abs = leb-true _ 1 (and_left y z (and_right x (y && z) u)) },
      record { abs = leb-true _ 1 (and_right y z (and_right x (y && z) u)) },
    )

-- e·v is within the sum of the components' bounds
pub dot-in : (i : ℕ) → i < 19 → (v : V3) → Within v.x 393216 → Within v.y 393216 → Within v.z 393216 → Within (dot (d3q19.e i) v) 1179648
dot-in i h v hx hy hz =
    let u = unit-in i h in
    let ex = u.0 in
    let ey = u.1 in
    let ez = u.2 in
    within_by (search reading depth 20) tt
