-- What is sent in stage 6: how large an excess and a gift can be, what a cell with no mark sends, and when a cell has no target. Assumes nothing.
use mathlib.Core.Path.{◌≡◌, refl, sym, ap, ap₂, ◌∙◌}
use mathlib.Core.Bool.{Bool, true, false, ◌||◌, cond}
use mathlib.Core.List.{List}
use Prim.Native.Nat.{ℕ, zero, suc, ◌-◌}
use native.Mathlib.Omega.{arith}
use lib.IntN.{ℤ, pos, nat_abs, ◌-ℤ◌}
use lib.Dec.{eqb}
use lib.ListN.{get_or}
use borrow.Author.Tests.{eq-eqb, ne_eqb, eqb-false}
use Rattle.whole.specs.laws.Bools.{cond_yes, cond_no, or_left, or_right}
use Rattle.whole.specs.laws.Bounds.{abs-sub}
use Rattle.whole.specs.Fold.{dirs, total, any, any_dir, tab, Dir}
use Rattle.whole.specs.laws.Machine.{Within}
use Rattle.whole.specs.laws.Sums.{sum-cong}
use Rattle.lattice.specs.Cell.{share}
use Rattle.lattice.specs.inner.Held.{parts_of}
use Rattle.excess.specs.inner.Gifts.{target_at, even_at, weight_at, of_dir, density_at, excess_at, gift_at, gift_from, Weighed, Giver}
use Rattle.excess.proofs.Leans.{weight-counted, dir-at}
use Rattle.excess.proofs.Portions.{share-le, share-cong, sum-pos}

-- ---- sizes
pub excess-in : {Room : ℕ → Type 0} (part : ℕ → ℕ → ℤ) (masses : List ℤ) (m c : ℕ) → Weighed Room part masses c → Within (excess_at part masses m c) 46006272
unfolding excess_at
excess-in part masses m c w = go (eqb m 1)
  where
    go : (b : Bool) → Within (cond b (get_or masses c (pos 0) -ℤ density_at part c) (get_or masses c (pos 0))) 46006272
    go true = record { abs = omega (arith, abs-sub (get_or masses c (pos 0)) (density_at part c), w.mass-in.abs, w.density-in.abs) }
    go false = record { abs = omega (arith, w.mass-in.abs) }

module _ (flags fills : List ℕ) (part : ℕ → ℕ → ℤ) (masses : List ℤ) (off : List ℕ) (low : ℕ) where
  pub gift-in : {Room : ℕ → Type 0} (c m i : ℕ) → Giver flags fills Room part masses off low c → Dir 18 i → Within (gift_at flags fills part masses off low c m i) 92012544
  unfolding gift_at
  gift-in c m zero g d = absurd (omega (arith, d.some))
  gift-in c m (suc a) g d =
      record {
        abs = omega (
          arith,
          (excess-in part masses m c g.weighed).abs,
          share-le 18 (λ b. nat_abs (weight_at flags fills off (c - low) m (suc b))) (weight_at flags fills off (c - low) m) (λ b l. weight-counted flags fills off (c - low) m (suc b))
              (excess_at part masses m c) a d.most,
        );
      }

  -- the shares of an array of weights are those of the weights
  pub share-told : (c m i : ℕ) {x : ℤ} {w : List ℤ} → x ≡ excess_at part masses m c → w ≡ tab 19 (of_dir (weight_at flags fills off (c - low) m)) → Dir 18 i
      → share 18 x (parts_of w) i ≡ gift_at flags fills part masses off low c m i
  unfolding gift_at
  share-told c m zero e u d = absurd (omega (arith, d.some))
  share-told c m (suc a) {x} {w} e u d =
      ap (λ (z : ℤ). share 18 z (parts_of w) (suc a)) e
      ∙ share-cong 18 (excess_at part masses m c) (parts_of w) (weight_at flags fills off (c - low) m) (λ b l. dir-at (weight_at flags fills off (c - low) m) u (suc b) (omega arith) (omega arith)) a d.most

  module _ (marks : List ℕ) (b i : ℕ) where
    pub from-none : get_or marks b 0 ≡ 0 → pos 0 ≡ gift_from flags fills part masses marks off low b i
    unfolding gift_from
    from-none e = sym (cond_yes (pos 0) (gift_at flags fills part masses off low b (get_or marks b 0) i) (eq-eqb (get_or marks b 0) 0 e))

    pub from_some : (get_or marks b 0 ≡ 0 → ⊥) → gift_at flags fills part masses off low b (get_or marks b 0) i ≡ gift_from flags fills part masses marks off low b i
    unfolding gift_from
    from_some n = sym (cond_no (pos 0) (gift_at flags fills part masses off low b (get_or marks b 0) i) (ne_eqb (get_or marks b 0) 0 n))

    pub from_in : {Room : ℕ → Type 0} → ((get_or marks b 0 ≡ 0 → ⊥) → Giver flags fills Room part masses off low b) → Dir 18 i → Within (gift_from flags fills part masses marks off low b i) 92012544
    unfolding gift_from
    from_in g d = go (eqb (get_or marks b 0) 0) refl
      where
        go : (t : Bool) → eqb (get_or marks b 0) 0 ≡ t → Within (cond t (pos 0) (gift_at flags fills part masses off low b (get_or marks b 0) i)) 92012544
        go true e = record { abs = omega arith }
        go false e = gift-in b (get_or marks b 0) i (g (eqb-false (get_or marks b 0) 0 e)) d

-- ---- targets, counted: their even weights add up to 0 where there is none
none_any : (n : ℕ) (f : ℕ → Bool) → total n (λ a. cond (f a) 1 0) ≡ 0 → any n f ≡ false
unfolding total any
none_any zero f e = refl
none_any (suc n) f e = go (f n) refl (none_any n f (omega (arith, e)))
  where
    go : (b : Bool) → f n ≡ b → any n f ≡ false → (any n f || f n) ≡ false
    go true p r = absurd (omega (arith, e, ap (λ (x : Bool). cond {A = ℕ} x 1 0) p))
    go false p r = ap₂ (λ (x y : Bool). x || y) r p

some-any : (n : ℕ) (f : ℕ → Bool) → (total n (λ a. cond (f a) 1 0) ≡ 0 → ⊥) → any n f ≡ true
unfolding total any
some-any zero f h = absurd (h refl)
some-any (suc n) f h = go (f n) refl (λ k. some-any n f k)
  where
    go : (b : Bool) → f n ≡ b → ((total n (λ a. cond (f a) 1 0) ≡ 0 → ⊥) → any n f ≡ true) → (any n f || f n) ≡ true
    go true p r = or_right (any n f) (f n) p
    go false p r = or_left (any n f) (f n) (r (λ e. h (omega (arith, e, ap (λ (x : Bool). cond {A = ℕ} x 1 0) p))))

module _ (flags off : List ℕ) (k : ℕ) where
  -- 1 for a target
  one : ℕ → ℕ
  one a = cond (target_at flags off k (suc a)) 1 0

  even-total : dirs 18 (even_at flags off k) ≡ pos (total 18 one)
  unfolding even_at one
  even-total = sum-cong 18 (λ a. even_at flags off k (suc a)) (λ a. pos (one a)) (λ a l. each (target_at flags off k (suc a))) ∙ sum-pos 18 one
    where
      each : (b : Bool) → cond b (pos 1) (pos 0) ≡ pos (cond b 1 0)
      each true = refl
      each false = refl

  pub no_target : dirs 18 (even_at flags off k) ≡ pos 0 → any_dir 18 (target_at flags off k) ≡ false
  unfolding one
  no_target e = none_any 18 (λ a. target_at flags off k (suc a)) (ap nat_abs (sym even-total ∙ e))

  pub some-target : (dirs 18 (even_at flags off k) ≡ pos 0 → ⊥) → any_dir 18 (target_at flags off k) ≡ true
  unfolding one
  some-target n = some-any 18 (λ a. target_at flags off k (suc a)) (λ e. n (even-total ∙ ap pos e))
