-- Shares: the shares of an excess add up to it, and a direction of weight 0 gets nothing. Assumes nothing.
use mathlib.Core.Path.{◌≡◌, refl, sym, ap, ap₂, ◌∙◌, subst}
use mathlib.Core.Logic.{◌⊎◌, inl, inr}
use mathlib.Core.Bool.{Bool, true, cond, ◌||◌, false≢true}
use Prim.Native.Nat.{ℕ, zero, suc, ◌+◌, ◌<◌}
use native.Mathlib.Nat.{zero-add}
use lib.IntN.{ℤ, pos, negsuc, ◌+ℤ◌, ◌-ℤ◌, ◌*ℤ◌, *ℤ-zero, +ℤ_comm, +ℤ_idl, +ℤ_idr, -ℤ-+ℤ_cancel}
use lib.Signed.{quot_z}
use lib.Dec.{eqb, eqb-suc-suc}
use borrow.Author.Tests.{ne_eqb}
use Rattle.whole.specs.laws.Bools.{or_right}
use Rattle.whole.specs.Fold.{sum, any, first, dirs, any_dir}
use Rattle.whole.specs.laws.Quot.{zero-quot}
use Rattle.whole.specs.laws.Search.{first_found, first_passes}
use Rattle.whole.specs.laws.Sums.{sum-add, sum-cong, sum-only, only}
use Rattle.lattice.specs.Cell.{is_positive, cut_share, remainder, lowest_dir, share}

pub shares-total : (q : ℕ) (x : ℤ) (w : ℕ → ℤ) → any_dir q (λ k. is_positive (w k)) ≡ true → dirs q (share q x w) ≡ x
unfolding share remainder lowest_dir only
shares-total q x w h =
    sum-add q (λ a. cut_share q x w (suc a)) (λ a. cond (eqb (suc a) (suc low)) left (pos 0))
    ∙ ap (λ (t : ℤ). dirs q (cut_share q x w) +ℤ t)
    (sum-cong q (λ a. cond (eqb (suc a) (suc low)) left (pos 0)) (only low left) (λ a k. ap (λ (b : Bool). cond b left (pos 0)) (eqb-suc-suc a low))
    ∙ sum-only q low left (first_found q (λ a. is_positive (w (suc a))) h))
    ∙ +ℤ_comm (dirs q (cut_share q x w)) left ∙ -ℤ-+ℤ_cancel x (dirs q (cut_share q x w))
  where
    low : ℕ
    low = first q (λ a. is_positive (w (suc a)))

    left : ℤ
    left = remainder q x w

lowest-positive : (q : ℕ) (w : ℕ → ℤ) → any_dir q (λ k. is_positive (w k)) ≡ true → is_positive (w (lowest_dir q w)) ≡ true
unfolding lowest_dir
lowest-positive q w h =
    first_passes q 0 (λ a. is_positive (w (suc a)))
    (subst (λ (m : ℕ). first q (λ a. is_positive (w (suc a))) < m) (sym (zero-add q)) (first_found q (λ a. is_positive (w (suc a))) h))

pub share-none : (q : ℕ) (x : ℤ) (w : ℕ → ℤ) (k : ℕ) → any_dir q (λ k. is_positive (w k)) ≡ true → w k ≡ pos 0 → share q x w k ≡ pos 0
unfolding share cut_share
share-none q x w k h e =
    ap₂ (λ (a : ℤ) (b : Bool). a +ℤ cond b (remainder q x w) (pos 0))
    (ap (λ (t : ℤ). quot_z t (dirs q w)) (ap (λ (t : ℤ). x *ℤ t) e ∙ *ℤ-zero x) ∙ zero-quot (dirs q w))
    (ne_eqb k (lowest_dir q w) (λ p. false≢true (sym (ap is_positive e) ∙ ap (λ (j : ℕ). is_positive (w j)) p ∙ lowest-positive q w h)))

-- ---- a positive sum has a positive term
positive-term : (a b : ℤ) → is_positive (a +ℤ b) ≡ true → (is_positive a ≡ true) ⊎ (is_positive b ≡ true)
positive-term (pos zero) (pos zero) e = absurd (false≢true e)
positive-term (pos zero) (pos (suc b)) e = inr refl
positive-term (pos (suc a)) b e = inl refl
positive-term (pos zero) (negsuc b) e = absurd (false≢true (sym (ap is_positive (+ℤ_idl (negsuc b))) ∙ e))
positive-term (negsuc a) (pos zero) e = absurd (false≢true (sym (ap is_positive (+ℤ_idr (negsuc a))) ∙ e))
positive-term (negsuc a) (pos (suc b)) e = inr refl
positive-term (negsuc a) (negsuc b) e = absurd (false≢true e)

pub positive-sum : (n : ℕ) (f : ℕ → ℤ) → is_positive (sum n f) ≡ true → any n (λ a. is_positive (f a)) ≡ true
unfolding sum any
positive-sum zero f e = e
positive-sum (suc n) f e = go (positive-term (sum n f) (f n) e) (positive-sum n f)
  where
    go : (is_positive (sum n f) ≡ true) ⊎ (is_positive (f n) ≡ true) → (is_positive (sum n f) ≡ true → any n (λ a. is_positive (f a)) ≡ true)
        → (any n (λ a. is_positive (f a)) || is_positive (f n)) ≡ true
    go (inl p) r = ap (λ (b : Bool). b || is_positive (f n)) (r p)
    go (inr p) r = or_right (any n (λ a. is_positive (f a))) (is_positive (f n)) p
