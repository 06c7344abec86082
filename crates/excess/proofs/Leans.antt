-- Weights of the eighteen directions: they are not negative and small, and where there is a target their total is above 0. Assumes nothing.
use mathlib.Core.Path.{◌≡◌, refl, sym, ap, ◌∙◌, subst}
use mathlib.Core.Bool.{Bool, true, false, cond, false≢true}
use mathlib.Core.List.{List}
use Prim.Native.Nat.{ℕ, zero, suc, ◌+◌, ◌≤◌, ◌<◌}
use native.Mathlib.Nat.{mul-le-mul, lt_irrefl}
use native.Mathlib.Omega.{arith}
use lib.IntN.{ℤ, pos, negsuc, neg_ℤ, nat_abs, ◌+ℤ◌, ◌-ℤ◌, ◌*ℤ◌}
use lib.Signed.{◌<ℤ◌}
use lib.Dec.{eqb}
use lib.ListN.{get_or, replicate}
use Rattle.whole.specs.laws.Bools.{cond_yes, cond_no}
use Rattle.whole.specs.laws.Bounds.{abs_neg, abs-add, abs-sub, abs-mul}
use Rattle.whole.specs.Fold.{dirs, tab, Dir}
use Rattle.whole.specs.laws.Machine.{Within}
use Rattle.whole.specs.laws.Parts.{parts-<}
use Rattle.whole.specs.laws.Sums.{sum-cong}
use Rattle.whole.specs.laws.Tab.{Upto, get_or-tab, tab-cong}
use Rattle.lattice.specs.Lattice.{V3, dot, d3q19}
use Rattle.lattice.specs.Cell.{positive, is_positive}
use Rattle.lattice.specs.inner.Held.{parts_of, Weights}
use Rattle.lattice.proofs.Paired.{paired19}
use Rattle.grid.specs.inner.Passes.{normal_at}
use Rattle.excess.specs.inner.Gifts.{back, leaning_at, target_at, lean_weight_at, even_at, weight_at, of_dir, Filled}
use Rattle.excess.proofs.Portions.{weights-total, term-le}

-- ---- arrays of the directions
pub of-dir : (f : ℕ → ℤ) (i : ℕ) → 0 < i → of_dir f i ≡ f i
of-dir f zero h = absurd (lt_irrefl 0 h)
of-dir f (suc a) h = refl

pub dir-at : (f : ℕ → ℤ) {w : List ℤ} → w ≡ tab 19 (of_dir f) → (i : ℕ) → 0 < i → i < 19 → get_or w i (pos 0) ≡ f i
dir-at f {w} e i h k = ap (λ (l : List ℤ). get_or l i (pos 0)) e ∙ get_or-tab 19 (of_dir f) (pos 0) i k ∙ of-dir f i h

pub dirs-at : (f : ℕ → ℤ) {w : List ℤ} → w ≡ tab 19 (of_dir f) → dirs 18 (parts_of w) ≡ dirs 18 f
dirs-at f {w} e = sum-cong 18 (λ a. parts_of w (suc a)) (λ a. f (suc a)) (λ a k. dir-at f e (suc a) (omega arith) (omega arith))

pub arrays-same : (f g : ℕ → ℤ) → ((i : ℕ) → 0 < i → i < 19 → f i ≡ g i) → tab 19 (of_dir f) ≡ tab 19 (of_dir g)
arrays-same f g h = tab-cong 19 (of_dir f) (of_dir g) (pos 0) at
  where
    at : (i : ℕ) → i < 19 → of_dir f i ≡ of_dir g i
    at zero k = refl
    at (suc a) k = h (suc a) (omega arith) k

-- a loop over the directions begins with index 0 done
pub none_yet : (f : ℕ → ℤ) → Upto (pos 0) (of_dir f) (replicate 19 (pos 0)) 1
none_yet f zero h = refl
none_yet f (suc j) h = absurd (omega arith)

-- ---- the normal
component : (x y : ℕ) → x ≤ 65536 → y ≤ 65536 → Within (pos x -ℤ pos y) 131072
component x y h k = record { abs = omega (arith, abs-sub (pos x) (pos y)) }

turned-in : (z : ℤ) → Within z 131072 → Within (neg_ℤ z) 131072
turned-in z h = record { abs = omega (arith, abs_neg z, h.abs) }

pub record Leaning (n : V3) : Type 0 where
  pub x : Within n.x 131072
  pub y : Within n.y 131072
  pub z : Within n.z 131072

module _ (flags fills off : List ℕ) (k : ℕ) (f : Filled fills) where
  pub normal-in : Leaning (normal_at flags fills off k)
  unfolding normal_at
  normal-in = record { x = component _ _ (f _) (f _); y = component _ _ (f _) (f _); z = component _ _ (f _) (f _) }

  pub leaning-in : (m : ℕ) → Leaning (leaning_at flags fills off k m)
  unfolding leaning_at
  leaning-in m = go (eqb m 1)
    where
      go : (b : Bool) → Leaning (cond b (normal_at flags fills off k) (back (normal_at flags fills off k)))
      go true = normal-in
      go false = record { x = turned-in _ normal-in.x; y = turned-in _ normal-in.y; z = turned-in _ normal-in.z }

-- ---- sizes
small : (a : ℤ) (x : ℤ) → nat_abs a ≤ 1 → nat_abs x ≤ 131072 → nat_abs (a *ℤ x) ≤ 131072
small a x h k = omega (arith, abs-mul a x, mul-le-mul h k)

dot-in : (n : V3) → Leaning n → (i : ℕ) → Dir 18 i → nat_abs (dot (d3q19.e i) n) ≤ 393216
unfolding d3q19
dot-in n l i d =
    let e = d3q19.e i in
    omega (
      arith,
      abs-add (e.x *ℤ n.x +ℤ e.y *ℤ n.y) (e.z *ℤ n.z),
      abs-add (e.x *ℤ n.x) (e.y *ℤ n.y),
      small e.x n.x (paired19.ex i d).small l.x.abs,
      small e.y n.y (paired19.ey i d).small l.y.abs,
      small e.z n.z (paired19.ez i d).small l.z.abs,
    )

positive-in : (z : ℤ) (k : ℕ) → nat_abs z ≤ k → nat_abs (positive z) ≤ k
positive-in (pos n) k h = h
positive-in (negsuc n) k h = omega arith

-- what is not negative is its size
counted : (b : Bool) (z : ℤ) → cond b (positive z) (pos 0) ≡ pos (nat_abs (cond b (positive z) (pos 0)))
counted true (pos n) = refl
counted true (negsuc n) = refl
counted false z = refl

cond-in : (b : Bool) (x : ℤ) (k : ℕ) → nat_abs x ≤ k → nat_abs (cond b x (pos 0)) ≤ k
cond-in true x k h = h
cond-in false x k h = omega arith

module _ (flags : List ℕ) (n : V3) (off : List ℕ) (k : ℕ) where
  pub lean-in : Leaning n → (i : ℕ) → Dir 18 i → Within (lean_weight_at flags n off k i) 393216
  unfolding lean_weight_at
  lean-in l i d = record { abs = cond-in (target_at flags off k i) (positive (dot (d3q19.e i) n)) 393216 (positive-in (dot (d3q19.e i) n) 393216 (dot-in n l i d)) }

  lean-counted : (i : ℕ) → lean_weight_at flags n off k i ≡ pos (nat_abs (lean_weight_at flags n off k i))
  unfolding lean_weight_at
  lean-counted i = counted (target_at flags off k i) (dot (d3q19.e i) n)

  -- a total of weights that is not 0 is positive
  pub lean-some : (dirs 18 (lean_weight_at flags n off k) ≡ pos 0 → ⊥) → is_positive (dirs 18 (lean_weight_at flags n off k)) ≡ true
  lean-some h =
      go _ (weights-total 18 (λ a. nat_abs (lean_weight_at flags n off k (suc a))) (lean_weight_at flags n off k) (λ a l. lean-counted (suc a)))
    where
      go : (t : ℕ) → dirs 18 (lean_weight_at flags n off k) ≡ pos t → is_positive (dirs 18 (lean_weight_at flags n off k)) ≡ true
      go zero e = absurd (h e)
      go (suc t) e = ap is_positive e

-- the code's weights: e·n read from an array
abbrev pub by_dots : List ℕ → List ℕ → ℕ → List ℤ → ℕ → ℤ
by_dots flags off k d i = cond (eqb (get_or flags (k + get_or off i 0) 0) 1) (positive (get_or d i (pos 0))) (pos 0)

pub by-dots : (flags off : List ℕ) (k : ℕ) (n : V3) {d : List ℤ} → d ≡ tab 19 (λ i. dot (d3q19.e i) n) → tab 19 (of_dir (by_dots flags off k d)) ≡ tab 19 (of_dir (lean_weight_at flags n off k))
unfolding lean_weight_at target_at
by-dots flags off k n {d} e =
    arrays-same (by_dots flags off k d) (lean_weight_at flags n off k)
    (λ i h l. ap (λ (z : ℤ). cond (eqb (get_or flags (k + get_or off i 0) 0) 1) (positive z) (pos 0)) (ap (λ (x : List ℤ). get_or x i (pos 0)) e ∙ get_or-tab 19 (λ i. dot (d3q19.e i) n) (pos 0) i l))

abbrev pub by_flags : List ℕ → List ℕ → ℕ → ℕ → ℤ
by_flags flags off k i = cond (eqb (get_or flags (k + get_or off i 0) 0) 1) (pos 1) (pos 0)

pub by_flags_lem : (flags off : List ℕ) (k : ℕ) → tab 19 (of_dir (by_flags flags off k)) ≡ tab 19 (of_dir (even_at flags off k))
unfolding even_at target_at
by_flags_lem flags off k = refl

module _ (flags off : List ℕ) (k : ℕ) where
  pub even-in : (i : ℕ) → Within (even_at flags off k i) 1
  unfolding even_at
  even-in i = record { abs = cond-in (target_at flags off k i) (pos 1) 1 (omega arith) }

  pub even-counted : (i : ℕ) → even_at flags off k i ≡ pos (nat_abs (even_at flags off k i))
  unfolding even_at
  even-counted i = counted (target_at flags off k i) (pos 1)

module _ (flags fills off : List ℕ) (k m : ℕ) where
  abbrev lean : ℕ → ℤ
  lean = lean_weight_at flags (leaning_at flags fills off k m) off k

  pub weight-even : dirs 18 lean ≡ pos 0 → (i : ℕ) → even_at flags off k i ≡ weight_at flags fills off k m i
  unfolding weight_at
  weight-even e i = sym (cond_no (lean i) (even_at flags off k i) (ap is_positive e))

  pub weight-lean : (dirs 18 lean ≡ pos 0 → ⊥) → (i : ℕ) → lean i ≡ weight_at flags fills off k m i
  unfolding weight_at
  weight-lean n i = sym (cond_yes (lean i) (even_at flags off k i) (lean-some flags (leaning_at flags fills off k m) off k n))

  pub weight-in : Filled fills → (i : ℕ) → Dir 18 i → Within (weight_at flags fills off k m i) 393216
  unfolding weight_at
  weight-in f i d = go (is_positive (dirs 18 lean))
    where
      go : (b : Bool) → Within (cond b (lean i) (even_at flags off k i)) 393216
      go true = lean-in flags (leaning_at flags fills off k m) off k (leaning-in flags fills off k f m) i d
      go false = record { abs = omega (arith, (even-in flags off k i).abs) }

  pub weight-counted : (i : ℕ) → weight_at flags fills off k m i ≡ pos (nat_abs (weight_at flags fills off k m i))
  unfolding weight_at
  weight-counted i = go (is_positive (dirs 18 lean))
    where
      go : (b : Bool) → cond b (lean i) (even_at flags off k i) ≡ pos (nat_abs (cond b (lean i) (even_at flags off k i)))
      go true = lean-counted flags (leaning_at flags fills off k m) off k i
      go false = even-counted flags off k i

  some-total : (w : ℕ → ℤ) → ((i : ℕ) → w i ≡ pos (nat_abs (w i))) → (i : ℕ) → Dir 18 i → w i ≡ pos 1 → pos 0 <ℤ dirs 18 w
  some-total w c zero d e = absurd (omega (arith, d.some))
  some-total w c (suc a) d e =
      subst (λ (z : ℤ). pos 0 <ℤ z) (sym (weights-total 18 (λ a. nat_abs (w (suc a))) w (λ a l. c (suc a))))
      (parts-< (omega (arith, term-le 18 (λ a. nat_abs (w (suc a))) a d.most, ap nat_abs e)))

  -- with a target the weights have a total
  pub weight-some : (i : ℕ) → Dir 18 i → target_at flags off k i ≡ true → pos 0 <ℤ dirs 18 (weight_at flags fills off k m)
  unfolding weight_at even_at
  weight-some i d t = go (is_positive (dirs 18 lean)) refl
    where
      above : (z : ℤ) → is_positive z ≡ true → pos 0 <ℤ z
      above (pos zero) e = absurd (false≢true e)
      above (pos (suc n)) e = parts-< (omega arith)
      above (negsuc n) e = absurd (false≢true e)

      go : (b : Bool) → is_positive (dirs 18 lean) ≡ b → pos 0 <ℤ dirs 18 (weight_at flags fills off k m)
      go true e =
          subst (λ (z : ℤ). pos 0 <ℤ z) (sum-cong 18 (λ a. lean (suc a)) (λ a. weight_at flags fills off k m (suc a)) (λ a l. sym (cond_yes (lean (suc a)) (even_at flags off k (suc a)) e)))
          (above (dirs 18 lean) e)
      go false e =
          subst (λ (z : ℤ). pos 0 <ℤ z) (sum-cong 18 (λ a. even_at flags off k (suc a)) (λ a. weight_at flags fills off k m (suc a)) (λ a l. sym (cond_no (lean (suc a)) (even_at flags off k (suc a)) e)))
          (some-total (even_at flags off k) (even-counted flags off k) i d (cond_yes (pos 1) (pos 0) t))

-- as lattice's shares ask them
pub weights-fit : (f : ℕ → ℤ) {w : List ℤ} → w ≡ tab 19 (of_dir f) → ((i : ℕ) → Dir 18 i → Within (f i) 393216) → Weights w
weights-fit f {w} e h = record {
  at = λ i l k. record { abs = omega (arith, ap nat_abs (dir-at f e i l k), (h i (record { some = l; most = omega arith })).abs) };
}

-- the code's choice of the weights: w by the normal v, of total t
module _ (flags fills off : List ℕ) (k m : ℕ) (v : V3) {w : List ℤ} {t : ℤ} (n : v ≡ leaning_at flags fills off k m) (e : w ≡ tab 19 (of_dir (lean_weight_at flags v off k))) (s : t ≡ dirs 18 (parts_of w)) where
  lean-array : w ≡ tab 19 (of_dir (lean_weight_at flags (leaning_at flags fills off k m) off k))
  lean-array = e ∙ ap (λ (x : V3). tab 19 (of_dir (lean_weight_at flags x off k))) n

  lean-total : t ≡ dirs 18 (lean_weight_at flags (leaning_at flags fills off k m) off k)
  lean-total = s ∙ dirs-at (lean_weight_at flags (leaning_at flags fills off k m) off k) lean-array

  pub used-even : t ≡ pos 0 → tab 19 (of_dir (even_at flags off k)) ≡ tab 19 (of_dir (weight_at flags fills off k m))
  used-even z = arrays-same (even_at flags off k) (weight_at flags fills off k m) (λ i h l. weight-even flags fills off k m (sym lean-total ∙ z) i)

  pub used-lean : (t ≡ pos 0 → ⊥) → w ≡ tab 19 (of_dir (weight_at flags fills off k m))
  used-lean z =
      lean-array
      ∙ arrays-same (lean_weight_at flags (leaning_at flags fills off k m) off k) (weight_at flags fills off k m) (λ i h l. weight-lean flags fills off k m (λ q. z (lean-total ∙ q)) i)
