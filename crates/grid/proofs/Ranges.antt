-- A loop that goes over the places a to b − 1 of a list and stores f c at each, or leaves what is already f c: the list in the end is f there, and
-- what it was elsewhere. Assumes nothing.
use mathlib.Core.Path.{◌≡◌, refl, sym, ap, ◌∙◌, subst}
use mathlib.Core.Bool.{Bool, true, false, ◌&&◌, cond}
use mathlib.Core.List.{List}
use mathlib.Core.Logic.{⊎_elim}
use Prim.Native.Nat.{ℕ, zero, suc, ◌+◌, ◌-◌, ◌≤◌, ◌<◌}
use native.Mathlib.Nat.{add-zero, add-suc}
use native.Mathlib.Numerals.{add-one}
use native.Mathlib.Omega.{arith}
use native.Mathlib.Decide.{ℕ_discrete, dec_lt}
use lib.Dec.{leb, ltb}
use lib.ListN.{length, get_or, set, length-set}
use lib.Seq.{get_or-set_same, get_or-set_other}
use borrow.Author.Tests.{le-leb, lt-leb, lt-ltb, le-ltb}
use Rattle.whole.specs.laws.Bools.{cond_yes, cond_no, and-true}
use Rattle.whole.specs.Fold.{all, tab}
use Rattle.whole.specs.laws.Order.{≤-or}
use Rattle.whole.specs.laws.Search.{all-at}
use Rattle.whole.specs.laws.Tab.{upto_all}
use Rattle.grid.specs.inner.Passes.{Past}

-- two tests of order that go together
pub ltb-same : (a b c d : ℕ) → (a < b → c < d) → (c < d → a < b) → ltb a b ≡ ltb c d
ltb-same a b c d f g = by (dec_lt a b)
  where
    by : Dec (a < b) → ltb a b ≡ ltb c d
    by (yes h) = lt-ltb a b h ∙ sym (lt-ltb c d (f h))
    by (no h) = le-ltb a b (not-less a b h) ∙ sym (le-ltb c d (not-less c d (λ k. h (g k))))
      where
        not-less : (m n : ℕ) → (m < n → ⊥) → n ≤ m
        not-less m n k = omega arith

-- a loop that skips places: what each of them keeps is kept over all
pub over-gap : (P : ℕ → Type 0) (a b : ℕ) → a ≤ b → ((j : ℕ) → a ≤ j → j < b → P j → P (j + 1)) → P a → P b
over-gap P a b h keep p = subst P (omega arith) (go (b - a) (omega arith))
  where
    go : (n : ℕ) → a + n ≤ b → P (a + n)
    go zero k = subst P (sym (add-zero a)) p
    go (suc n) k = subst P (sym (add-suc a n) ∙ refl) (subst P (add-one (a + n)) (keep (a + n) (omega arith) (omega arith) (go n (omega arith))))

-- what holds of the places from a to c − 1, and of n more
pub more-places : (P : ℕ → Type 0) (a c n : ℕ) → ((j : ℕ) → a ≤ j → j < c → P j) → ((k : ℕ) → k < n → P (c + k)) → (j : ℕ) → a ≤ j → j < c + n → P j
more-places P a c n p q j h l = ⊎_elim (λ m. subst P (omega arith) (q (j - c) (omega arith))) (λ m. p j h m) (≤-or c j)

-- some places more, and k more by a test of them all together
pub past_more : {P : ℕ → Type 0} {n a c : ℕ} (k : ℕ) → Past P n a c → c + k ≤ n → ((i : ℕ) → i < k → P (c + i)) → Past P n a (c + k)
past_more {P} {n} {a} {c} k u h z = record { least = omega (arith, u.least); most = h; before = more-places P a c k u.before z }

pub past-together : {P : ℕ → Type 0} {n a c : ℕ} (k : ℕ) (f : ℕ → Bool) → ((j : ℕ) → f j ≡ true → P j) → Past P n a c → c + k ≤ n → all k (λ i. f (c + i)) ≡ true → Past P n a (c + k)
past-together {P} {n} {a} {c} k f tells u h e = past_more k u h (λ i l. tells (c + i) (all-at k (λ i. f (c + i)) e i l))

module _ {ℓ} {A : Type ℓ} (d : A) (f : ℕ → A) (old : List A) (a b : ℕ) where
  abbrev pub ranged : ℕ → A
  ranged j = cond (leb a j && ltb j b) (f j) (get_or old j d)

  pub record Ranged (out : List A) (c : ℕ) : Type ℓ where
    pub from : a ≤ c
    pub to : c ≤ b
    pub size : length out ≡ length old
    pub done : (j : ℕ) → j < c → get_or out j d ≡ ranged j
    pub rest : (j : ℕ) → c ≤ j → get_or out j d ≡ get_or old j d

  pub ranged-low : (j : ℕ) → j < a → ranged j ≡ get_or old j d
  ranged-low j h = cond_no (f j) (get_or old j d) (ap (λ (t : Bool). t && ltb j b) (lt-leb a j h))

  ranged-high : (j : ℕ) → b ≤ j → ranged j ≡ get_or old j d
  ranged-high j h = cond_no (f j) (get_or old j d) (never (leb a j) (ltb j b) (le-ltb j b h))
    where
      never : (s t : Bool) → t ≡ false → (s && t) ≡ false
      never true t e = e
      never false t e = refl

  pub ranged-in : (j : ℕ) → a ≤ j → j < b → ranged j ≡ f j
  ranged-in j h k = cond_yes (f j) (get_or old j d) (and-true (leb a j) (ltb j b) (le-leb a j h) (lt-ltb j b k))

  pub ranged-first : a ≤ b → Ranged old a
  ranged-first h = record { from = omega arith; to = h; size = refl; done = λ j k. sym (ranged-low j k); rest = λ j k. refl }

  pub ranged-more : (out : List A) (c : ℕ) (x : A) → Ranged out c → c < b → b ≤ length old → x ≡ f c → Ranged (set out c x) (c + 1)
  ranged-more out c x r h k e =
      record {
        from = omega (arith, r.from);
        to = omega arith;
        size = simp length-set r.size;
        done = λ j l. at j l (ℕ_discrete j c);
        rest = λ j l. get_or-set_other out c j x d (λ p. omega arith) ∙ r.rest j (omega arith);
      }
    where
      at : (j : ℕ) → j < c + 1 → Dec (j ≡ c) → get_or (set out c x) j d ≡ ranged j
      at j l (yes p) =
          ap (λ (i : ℕ). get_or (set out c x) i d) p ∙ get_or-set_same out c x d (omega (arith, r.size)) ∙ e ∙ sym (ranged-in c r.from h) ∙ ap ranged (sym p)
      at j l (no n) = get_or-set_other out c j x d n ∙ r.done j (omega arith)

  pub ranged-keep : (out : List A) (c : ℕ) → Ranged out c → c < b → get_or old c d ≡ f c → Ranged out (c + 1)
  ranged-keep out c r h e =
      record {
        from = omega (arith, r.from);
        to = omega arith;
        size = r.size;
        done = λ j l. at j l (ℕ_discrete j c);
        rest = λ j l. r.rest j (omega arith);
      }
    where
      at : (j : ℕ) → j < c + 1 → Dec (j ≡ c) → get_or out j d ≡ ranged j
      at j l (yes p) =
          ap (λ (i : ℕ). get_or out i d) p ∙ r.rest c (omega arith) ∙ e ∙ sym (ranged-in c r.from h) ∙ ap ranged (sym p)
      at j l (no n) = r.done j (omega arith)

  -- the loop is over: the list is g, which is f in the range and what it was elsewhere
  pub ranged-all : (out : List A) (c n : ℕ) (g : ℕ → A) → Ranged out c → b ≤ c → length old ≡ n → ((j : ℕ) → j < n → ranged j ≡ g j) → out ≡ tab n g
  ranged-all out c n g r h e k = upto_all d g out n (r.size ∙ e) (λ j l. at j (dec_lt j c) ∙ k j l)
    where
      at : (j : ℕ) → Dec (j < c) → get_or out j d ≡ ranged j
      at j (yes l) = r.done j l
      at j (no l) = r.rest j (omega arith) ∙ sym (ranged-high j (omega arith))
