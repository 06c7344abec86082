-- Lists by tabulating: the length and the elements of `tab n f`, and a loop that stores f c at c for c = 0, 1, .. until the list is `tab n f`.
-- Use: the invariant `Upto 0 f out c` of such a loop, kept by `upto-more`, and `upto_all` at its end. Assumes nothing.
use Rattle.std.specs.Prelude.{◌≡◌, List, [], ◌∷◌, length, get_or, set}
use Rattle.std.proofs.Math.Path.{refl, sym, ap}
use Rattle.std.proofs.Common.{◌∙◌, subst, not-suc-le-zero, add-zero, add-suc, suc-add, zero-add, le_of_suc-le-suc, add-one, ext_get_or, get_or-set_same, get_or-set_other}
use Prim.Native.Nat.{ℕ, zero, suc, ◌+◌, ◌≤◌, ◌<◌}
use Rattle.std.proofs.Math.Decide.{ℕ_discrete}
use Rattle.std.proofs.Math.Arith.{lt_of_le-ne}
use Rattle.whole.specs.Fold.{tab, tab_from}

module _ {ℓ} {A : Type ℓ} where
  length-tab_from : (n i : ℕ) (f : ℕ → A) → length (tab_from n i f) ≡ n
  unfolding tab_from
  length-tab_from zero i f = refl
  length-tab_from (suc n) i f = ap suc (length-tab_from n (suc i) f)

  get_or-tab_from : (n i : ℕ) (f : ℕ → A) (d : A) (a : ℕ) → a < n → get_or (tab_from n i f) a d ≡ f (i + a)
  unfolding tab_from
  get_or-tab_from zero i f d a h = absurd (not-suc-le-zero h)
  get_or-tab_from (suc n) i f d zero h = ap f (sym (add-zero i))
  get_or-tab_from (suc n) i f d (suc a) h = get_or-tab_from n (suc i) f d a (le_of_suc-le-suc h) ∙ ap f (suc-add i a ∙ sym (add-suc i a))

  pub length-tab : (n : ℕ) (f : ℕ → A) → length (tab n f) ≡ n
  length-tab n f = length-tab_from n 0 f

  pub get_or-tab : (n : ℕ) (f : ℕ → A) (d : A) (a : ℕ) → a < n → get_or (tab n f) a d ≡ f a
  get_or-tab n f d a h = get_or-tab_from n 0 f d a h ∙ ap f (zero-add a)

  pub tab-cong : (n : ℕ) (f g : ℕ → A) (d : A) → ((a : ℕ) → a < n → f a ≡ g a) → tab n f ≡ tab n g
  tab-cong n f g d h =
      ext_get_or d (tab n f) (tab n g) (length-tab n f ∙ sym (length-tab n g))
      (λ j k. let l : j < n = subst (λ (m : ℕ). j < m) (length-tab n f) k in get_or-tab n f d j l ∙ h j l ∙ sym (get_or-tab n g d j l))

-- a loop that stores f c at c, for c = 0, 1, ..: what one turn keeps, and what the list is in the end
module _ {ℓ} {A : Type ℓ} (d : A) (f : ℕ → A) where
  abbrev pub Upto : List A → ℕ → Type ℓ
  Upto out c = (j : ℕ) → j < c → get_or out j d ≡ f j

  pub upto_zero : (out : List A) → Upto out 0
  upto_zero out j h = absurd (not-suc-le-zero h)

  pub upto-more : (out : List A) (c : ℕ) (x : A) → c < length out → Upto out c → x ≡ f c → Upto (set out c x) (c + 1)
  upto-more out c x h u e j k = go (ℕ_discrete j c)
    where
      go : Dec (j ≡ c) → get_or (set out c x) j d ≡ f j
      go (yes p) = ap (λ (i : ℕ). get_or (set out c x) i d) p ∙ get_or-set_same out c x d h ∙ e ∙ ap f (sym p)
      go (no n) = get_or-set_other out c j x d n ∙ u j (lt_of_le-ne (le_of_suc-le-suc (subst (λ (m : ℕ). j < m) (add-one c) k)) n)

  pub upto_all : (out : List A) (n : ℕ) → length out ≡ n → Upto out n → out ≡ tab n f
  upto_all out n e u =
      ext_get_or d out (tab n f) (e ∙ sym (length-tab n f)) (λ j h. u j (subst (λ (m : ℕ). j < m) e h) ∙ sym (get_or-tab n f d j (subst (λ (m : ℕ). j < m) e h)))

-- a list is its own elements, tabulated
module _ {ℓ} {A : Type ℓ} (d : A) where
  pub tab-self : (xs : List A) → xs ≡ tab (length xs) (λ j. get_or xs j d)
  tab-self xs = upto_all d (λ j. get_or xs j d) xs (length xs) refl (λ j h. refl)
