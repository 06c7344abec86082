-- Pass 7 turn by turn: cells before c are settled and the others are as they were; and settled masses and parts are those of the next state. Assumes nothing.
use mathlib.Core.Path.{◌≡◌, refl, sym, ap, ap₂, ◌∙◌, subst}
use mathlib.Core.Bool.{Bool, true, false, cond}
use mathlib.Core.List.{List, ◌∷◌}
use Prim.Native.Nat.{ℕ, zero, suc, ◌+◌, ◌*◌, ◌≤◌, ◌<◌}
use native.Mathlib.Decide.{ℕ_discrete, dec_lt}
use native.Mathlib.Omega.{arith}
use lib.Arith.{lt_of_le-ne}
use lib.IntN.{ℤ, pos}
use lib.Dec.{eqb}
use lib.ListN.{length, get_or, set, replicate, length-set}
use lib.Seq.{get_or-set_same, get_or-set_other}
use borrow.Author.Tests.{eq-eqb, ne_eqb}
use Rattle.whole.specs.laws.Bools.{cond_yes, cond_no}
use Rattle.whole.specs.Fold.{tab_from}
use Rattle.whole.specs.laws.Tab.{upto_all}
use Rattle.whole.specs.laws.Machine.{Within}
use Rattle.lattice.specs.Lattice.{d3q19}
use Rattle.grid.specs.State.{part_of}
use Rattle.grid.specs.inner.Pasted.{pasted}
use Rattle.grid.proofs.Blocks.{length-pasted, pasted-inside, pasted-before, pasted-after, blocks-all}
use Rattle.grid.proofs.Same.{density-same}
use Rattle.excess.specs.inner.Gifts.{density_at, Parts}
use Rattle.conversion.specs.inner.Settled.{settled_mass, settled_part, CellSettled, Settled}

pub tab-replicate : {A : Type 0} (n i : ℕ) (x : A) → tab_from n i (λ j. x) ≡ replicate n x
unfolding tab_from
tab-replicate zero i x = refl
tab-replicate (suc n) i x = ap (λ l. x ∷ l) (tab-replicate n (suc i) x)

pub zeros-at : (k : ℕ) → get_or (replicate 19 (pos 0)) k (pos 0) ≡ pos 0
zeros-at k = go 19 k
  where
    go : (n k : ℕ) → get_or (replicate n (pos 0)) k (pos 0) ≡ pos 0
    go zero k = refl
    go (suc n) zero = refl
    go (suc n) (suc k) = go n k

-- ---- one cell's mass and parts, by its mark
module _ (part : ℕ → ℕ → ℤ) (masses : List ℤ) (marks : List ℕ) (c : ℕ) where
  mass-kept : get_or marks c 0 ≡ 0 → settled_mass part masses marks c ≡ get_or masses c (pos 0)
  unfolding settled_mass
  mass-kept e = cond_yes _ _ (eq-eqb (get_or marks c 0) 0 e)

  part-kept : (k : ℕ) → get_or marks c 0 ≡ 0 → settled_part part marks c k ≡ part c k
  unfolding settled_part
  part-kept k e = cond_yes _ _ (eq-eqb (get_or marks c 0) 0 e)

  mass-marked : (get_or marks c 0 ≡ 0 → ⊥) → settled_mass part masses marks c ≡ cond (eqb (get_or marks c 0) 1) (density_at part c) (pos 0)
  unfolding settled_mass
  mass-marked n = cond_no _ _ (ne_eqb (get_or marks c 0) 0 n)

  part-marked : (k : ℕ) → (get_or marks c 0 ≡ 0 → ⊥) → settled_part part marks c k ≡ cond (eqb (get_or marks c 0) 1) (part c k) (pos 0)
  unfolding settled_part
  part-marked k n = cond_no _ _ (ne_eqb (get_or marks c 0) 0 n)

-- one marked cell settled, over any parts: a filled one gets its mass, an emptied one is cleared, no other changes
pub record CellSettledTo (m c : ℕ) (part : ℕ → ℕ → ℤ) (masses : List ℤ) (part' : ℕ → ℕ → ℤ) (masses' : List ℤ) : Type 0 where
  pub others : (j k : ℕ) → (j ≡ c → ⊥) → k < 19 → part' j k ≡ part j k
  pub here : (k : ℕ) → k < 19 → part' c k ≡ cond (eqb m 1) (part c k) (pos 0)
  pub masses-are : masses' ≡ set masses c (cond (eqb m 1) (density_at part c) (pos 0))

-- ---- the loop
module _ (part₀ : ℕ → ℕ → ℤ) (masses₀ : List ℤ) (marks₀ : List ℕ) where
  pub record Upon (part : ℕ → ℕ → ℤ) (masses : List ℤ) (marks : List ℕ) (c : ℕ) : Type 0 where
    pub to : c ≤ length marks₀
    pub masses-size : length masses ≡ length masses₀
    pub marks-size : length marks ≡ length marks₀
    pub parts-done : (j k : ℕ) → j < c → k < 19 → part j k ≡ settled_part part₀ marks₀ j k
    pub parts-rest : (j k : ℕ) → c ≤ j → k < 19 → part j k ≡ part₀ j k
    pub masses-done : (j : ℕ) → j < c → get_or masses j (pos 0) ≡ settled_mass part₀ masses₀ marks₀ j
    pub masses-rest : (j : ℕ) → c ≤ j → get_or masses j (pos 0) ≡ get_or masses₀ j (pos 0)
    pub marks-done : (j : ℕ) → j < c → get_or marks j 0 ≡ 0
    pub marks-rest : (j : ℕ) → c ≤ j → get_or marks j 0 ≡ get_or marks₀ j 0

  -- what held of each number before c, and of c
  upto : (P : ℕ → Type 0) (c : ℕ) → ((j : ℕ) → j < c → P j) → P c → (j : ℕ) → j < c + 1 → P j
  upto P c h e j k = go (ℕ_discrete j c)
    where
      go : Dec (j ≡ c) → P j
      go (yes p) = subst P (sym p) e
      go (no n) = h j (lt_of_le-ne (omega arith) n)

  module _ (part : ℕ → ℕ → ℤ) (masses : List ℤ) (marks : List ℕ) (c : ℕ) (u : Upon part masses marks c) (h : c < length marks₀) where
    -- a cell with no mark stays
    pub upon-keep : get_or marks c 0 ≡ 0 → Upon part masses marks (c + 1)
    upon-keep e =
        let z : get_or marks₀ c 0 ≡ 0 = sym (u.marks-rest c (omega arith)) ∙ e in
        record {
          to = omega arith;
          masses-size = u.masses-size;
          marks-size = u.marks-size;
          parts-done = λ j k l g. upto (λ j. part j k ≡ settled_part part₀ marks₀ j k) c (λ j l. u.parts-done j k l g)
              (u.parts-rest c k (omega arith) g ∙ sym (part-kept part₀ masses₀ marks₀ c k z)) j l;
          parts-rest = λ j k l g. u.parts-rest j k (omega arith) g;
          masses-done = upto (λ j. get_or masses j (pos 0) ≡ settled_mass part₀ masses₀ marks₀ j) c u.masses-done
              (u.masses-rest c (omega arith) ∙ sym (mass-kept part₀ masses₀ marks₀ c z));
          masses-rest = λ j l. u.masses-rest j (omega arith);
          marks-done = upto (λ j. get_or marks j 0 ≡ 0) c u.marks-done e;
          marks-rest = λ j l. u.marks-rest j (omega arith);
        }

    -- the density is still that of the parts at first
    density-still : density_at part c ≡ density_at part₀ c
    unfolding density_at d3q19
    density-still = density-same d3q19 (part c) (part₀ c) (λ k l. u.parts-rest c k (omega arith) (omega arith))

    module _ (n : get_or marks c 0 ≡ 0 → ⊥) (g : c < length masses) (part' : ℕ → ℕ → ℤ) (masses' : List ℤ) (s : CellSettledTo (get_or marks c 0) c part masses part' masses') where
      abbrev b : Bool
      b = eqb (get_or marks₀ c 0) 1

      same-mark : get_or marks c 0 ≡ get_or marks₀ c 0
      same-mark = u.marks-rest c (omega arith)

      marked : get_or marks₀ c 0 ≡ 0 → ⊥
      marked e = n (same-mark ∙ e)

      mass : masses' ≡ set masses c (settled_mass part₀ masses₀ marks₀ c)
      mass =
          s.masses-are
          ∙ ap (set masses c) (ap₂ (λ (m : ℕ) (z : ℤ). cond (eqb m 1) z (pos 0)) same-mark density-still ∙ sym (mass-marked part₀ masses₀ marks₀ c marked))

      mass-at : (j : ℕ) → (j ≡ c → ⊥) → get_or masses' j (pos 0) ≡ get_or masses j (pos 0)
      mass-at j q = ap (λ (l : List ℤ). get_or l j (pos 0)) mass ∙ get_or-set_other masses c j (settled_mass part₀ masses₀ marks₀ c) (pos 0) q

      -- a marked cell comes to its own
      pub upon-settle : Upon part' masses' (set marks c 0) (c + 1)
      upon-settle = record {
        to = omega arith;
        masses-size = ap length mass ∙ simp length-set u.masses-size;
        marks-size = simp length-set u.marks-size;
        parts-done = λ j k l i. upto (λ j. part' j k ≡ settled_part part₀ marks₀ j k) c
            (λ j l. s.others j k (λ e. omega arith) i ∙ u.parts-done j k l i)
            (s.here k i ∙ ap₂ (λ (m : ℕ) (z : ℤ). cond (eqb m 1) z (pos 0)) same-mark (u.parts-rest c k (omega arith) i) ∙ sym (part-marked part₀ masses₀ marks₀ c k marked)) j l;
        parts-rest = λ j k l i. s.others j k (λ e. omega arith) i ∙ u.parts-rest j k (omega arith) i;
        masses-done = upto (λ j. get_or masses' j (pos 0) ≡ settled_mass part₀ masses₀ marks₀ j) c (λ j l. mass-at j (λ e. omega arith) ∙ u.masses-done j l)
            (ap (λ (l : List ℤ). get_or l c (pos 0)) mass ∙ get_or-set_same masses c (settled_mass part₀ masses₀ marks₀ c) (pos 0) g);
        masses-rest = λ j l. mass-at j (λ e. omega arith) ∙ u.masses-rest j (omega arith);
        marks-done = upto (λ j. get_or (set marks c 0) j 0 ≡ 0) c (λ j l. get_or-set_other marks c j 0 0 (λ e. omega arith) ∙ u.marks-done j l)
            (get_or-set_same marks c 0 0 (omega (arith, u.marks-size)));
        marks-rest = λ j l. get_or-set_other marks c j 0 0 (λ e. omega arith) ∙ u.marks-rest j (omega arith);
      }

-- ---- in the box's list
module _ (parts : List ℤ) (c : ℕ) (f : 19 * c + 19 ≤ length parts) where
  size-cases : (b : Bool) → length (cond b parts (pasted parts (19 * c) (replicate 19 (pos 0)))) ≡ length parts
  size-cases true = refl
  size-cases false = length-pasted parts (19 * c) (replicate 19 (pos 0)) f refl

  here-cases : (b : Bool) (k : ℕ) → k < 19 → part_of (cond b parts (pasted parts (19 * c) (replicate 19 (pos 0)))) c k ≡ cond b (part_of parts c k) (pos 0)
  here-cases true k l = refl
  here-cases false k l = pasted-inside parts (19 * c) (replicate 19 (pos 0)) f refl k l ∙ zeros-at k

  other-cases : (b : Bool) (j k : ℕ) → (j ≡ c → ⊥) → k < 19 → part_of (cond b parts (pasted parts (19 * c) (replicate 19 (pos 0)))) j k ≡ part_of parts j k
  other-cases true j k n l = refl
  other-cases false j k n l = go (dec_lt j c)
    where
      go : Dec (j < c) → part_of (pasted parts (19 * c) (replicate 19 (pos 0))) j k ≡ part_of parts j k
      go (yes h) = pasted-before parts (19 * c) (replicate 19 (pos 0)) f refl (19 * j + k) (omega arith)
      go (no h) = pasted-after parts (19 * c) (replicate 19 (pos 0)) f refl (19 * j + k) (omega arith)

  pub settled-size : {m : ℕ} {masses parts' masses' : List ℤ} → CellSettled m c parts masses parts' masses' → length parts' ≡ length parts
  settled-size {m} s = ap length s.parts_are ∙ size-cases (eqb m 1)

  pub settled-list : {m : ℕ} {masses parts' masses' : List ℤ} → CellSettled m c parts masses parts' masses' → CellSettledTo m c (part_of parts) masses (part_of parts') masses'
  settled-list {m} s = record {
    others = λ j k n l. ap (λ (x : List ℤ). part_of x j k) s.parts_are ∙ other-cases (eqb m 1) j k n l;
    here = λ k l. ap (λ (x : List ℤ). part_of x c k) s.parts_are ∙ here-cases (eqb m 1) k l;
    masses-are = s.masses-are;
  }

-- the same lists under other names, however parts are read from theirs
pub upon-as : (read : List ℤ → ℕ → ℕ → ℤ) (part₀ : ℕ → ℕ → ℤ) (masses₀ : List ℤ) (marks₀ : List ℕ) {parts parts' masses masses' : List ℤ} {marks marks' : List ℕ} (c : ℕ) → parts ≡ parts' → masses ≡ masses' → marks ≡ marks'
    → Upon part₀ masses₀ marks₀ (read parts') masses' marks' c → Upon part₀ masses₀ marks₀ (read parts) masses marks c
upon-as read part₀ masses₀ marks₀ {parts} {parts'} {masses} {masses'} {marks} {marks'} c p q r u =
    subst (λ (l : List ℤ). Upon part₀ masses₀ marks₀ (read l) masses marks c) (sym p)
    (subst (λ (l : List ℤ). Upon part₀ masses₀ marks₀ (read parts') l marks c) (sym q) (subst (λ (l : List ℕ). Upon part₀ masses₀ marks₀ (read parts') masses' l c) (sym r) u))

-- the loop is over
pub upon-all : (parts₀ masses₀ : List ℤ) (marks₀ : List ℕ) (parts masses : List ℤ) (marks : List ℕ) (c : ℕ) → Upon (part_of parts₀) masses₀ marks₀ (part_of parts) masses marks c → length marks₀ ≤ c
    → length parts ≡ 19 * length marks₀ → length masses₀ ≡ length marks₀ → Settled parts₀ masses₀ marks₀ parts masses marks
upon-all parts₀ masses₀ marks₀ parts masses marks c u h e d =
    record {
      parts_are = blocks-all (settled_part (part_of parts₀) marks₀) parts (length marks₀) e (λ j k l g. u.parts-done j k (omega arith) g);
      masses-are = upto_all (pos 0) (settled_mass (part_of parts₀) masses₀ marks₀) masses (length marks₀) (u.masses-size ∙ d) (λ j l. u.masses-done j (omega arith));
      marks-are = upto_all 0 (λ j. 0) marks (length marks₀) u.marks-size (λ j l. u.marks-done j (omega arith)) ∙ tab-replicate (length marks₀) 0 0;
    }
