-- The pass over new interface cells: which cells those are, and what one visit after another makes of the parts. Assumes nothing.
use mathlib.Core.Path.{◌≡◌, refl, sym, ap, ap₂, ◌∙◌}
use mathlib.Core.Bool.{Bool, true, false, ◌&&◌, cond}
use mathlib.Core.List.{List}
use Prim.Native.Nat.{ℕ, ◌+◌, ◌-◌, ◌*◌, ◌<◌, ◌≤◌}
use native.Mathlib.Decide.{ℕ_discrete, dec_lt}
use native.Mathlib.Nat.{not-suc-le-zero}
use native.Mathlib.Omega.{arith}
use lib.Arith.{lt_of_le-ne}
use lib.Dec.{eqb}
use lib.IntN.{ℤ, pos}
use lib.ListN.{length, get_or}
use borrow.Author.Tests.{eqb-true, ne_eqb}
use Rattle.whole.specs.laws.Bools.{and_left, cond_yes, cond_no}
use Rattle.whole.specs.Fold.{tab, all}
use Rattle.whole.specs.laws.Tab.{length-tab, get_or-tab}
use Rattle.lattice.specs.Lattice.{d3q19}
use Rattle.grid.specs.State.{Scene, part_of}
use Rattle.grid.specs.Step.{born}
use Rattle.lattice.specs.Body.{body_good}
use Rattle.grid.specs.inner.Pasted.{pasted}
use Rattle.grid.proofs.Lists.{get_or-there}
use Rattle.grid.proofs.Ranges.{over-gap}
use Rattle.grid.proofs.Blocks.{blocks-all, length-pasted, pasted-inside, pasted-before, pasted-after}
use Rattle.whole.specs.laws.Search.{all_past}
use Rattle.conversion.specs.inner.Born.{Placed, Visited, Peopled, newly_born, later_part, later_fair}

-- ---- which cells

-- the flags as the code reads them
pub newborn-reads : (flags flags2 : List ℕ) (c : ℕ) → c < length flags → length flags2 ≡ length flags → (eqb (get_or flags c 0) 0 && eqb (get_or flags2 c 0) 1) ≡ newly_born flags flags2 c
unfolding newly_born
newborn-reads flags flags2 c h e =
    ap₂ (λ (f f2 : ℕ). eqb f 0 && eqb f2 1) (get_or-there flags c 0 3 h) (get_or-there flags2 c 0 3 (omega arith))

pub newborn-empty : (flags flags2 : List ℕ) (c : ℕ) → newly_born flags flags2 c ≡ true → get_or flags c 3 < 3
unfolding newly_born
newborn-empty flags flags2 c e = omega (arith, eqb-true (get_or flags c 3) 0 (and_left (eqb (get_or flags c 3) 0) (eqb (get_or flags2 c 3) 1) e))

-- what is not interface now was not born
pub unborn : (flags flags2 : List ℕ) (c : ℕ) → c < length flags → length flags2 ≡ length flags → (get_or flags2 c 0 ≡ 1 → ⊥) → newly_born flags flags2 c ≡ false
unborn flags flags2 c h e n = sym (newborn-reads flags flags2 c h e) ∙ never (eqb (get_or flags c 0) 0) (eqb (get_or flags2 c 0) 1) (ne_eqb (get_or flags2 c 0) 1 n)
  where
    never : (a b : Bool) → b ≡ false → (a && b) ≡ false
    never true b k = k
    never false b k = refl

-- ---- one visit
module _ {S : Scene} {w : ℕ → Bool} {c : ℕ} {before after : List ℤ} {fair : Bool} where
  pub visited-yes : w c ≡ true → Placed S c before after fair → Visited S w c before after fair
  visited-yes e p = record {
    parts = p.parts ∙ sym (cond_yes (pasted before (19 * c) (tab 19 (born S c))) before e);
    fair-is = p.fair-is ∙ sym (cond_yes (body_good d3q19 (born S c)) true e);
  }

pub visited-no : {S : Scene} {w : ℕ → Bool} {c : ℕ} (before : List ℤ) → w c ≡ false → Visited S w c before before true
visited-no {S} {w} {c} before e = record {
  parts = sym (cond_no (pasted before (19 * c) (tab 19 (born S c))) before e);
  fair-is = sym (cond_no (body_good d3q19 (born S c)) true e);
}

-- ---- all visits

-- one visit, over any parts: no other cell changes
pub record VisitedTo (S : Scene) (w : ℕ → Bool) (c : ℕ) (before after : ℕ → ℕ → ℤ) : Type 0 where
  pub others : (j k : ℕ) → (j ≡ c → ⊥) → k < 19 → after j k ≡ before j k
  pub here : (k : ℕ) → k < 19 → after c k ≡ cond (w c) (born S c k) (before c k)

module _ (S : Scene) (w : ℕ → Bool) (before : ℕ → ℕ → ℤ) where
  -- the first c cells are visited, the others are as they were
  pub record Reached (after : ℕ → ℕ → ℤ) (c : ℕ) : Type 0 where
    pub done : (j k : ℕ) → j < c → k < 19 → after j k ≡ later_part S w before j k
    pub rest : (j k : ℕ) → c ≤ j → k < 19 → after j k ≡ before j k

  pub reached-zero : Reached before 0
  reached-zero = record { done = λ j k h. absurd (not-suc-le-zero h); rest = λ j k h l. refl }

  pub reached-more : (after later : ℕ → ℕ → ℤ) (c : ℕ) → Reached after c → VisitedTo S w c after later → Reached later (c + 1)
  unfolding later_part
  reached-more after later c r v = record {
    done = λ j k h l. go j k l h (ℕ_discrete j c);
    rest = λ j k h l. v.others j k (λ e. omega arith) l ∙ r.rest j k (omega arith) l;
  }
    where
      go : (j k : ℕ) → k < 19 → j < c + 1 → Dec (j ≡ c) → later j k ≡ later_part S w before j k
      go j k l h (yes q) =
          ap (λ (i : ℕ). later i k) q ∙ v.here k l ∙ ap (λ (x : ℤ). cond (w c) (born S c k) x) (r.rest c k (omega arith) l)
          ∙ sym (ap (λ (i : ℕ). later_part S w before i k) q)
      go j k l h (no q) = v.others j k q l ∙ r.done j k (lt_of_le-ne (omega arith) q) l

  pub visited-fair : {c : ℕ} {after later : List ℤ} {fair : Bool} → Visited S w c after later fair → fair ≡ later_fair S w c
  unfolding later_fair
  visited-fair v = v.fair-is

  -- cells that are not born are as good as visited
  pub reached-past : (after : ℕ → ℕ → ℤ) (a b : ℕ) (fair : Bool) → a ≤ b → ((j : ℕ) → a ≤ j → j < b → w j ≡ false)
      → Reached after a × (fair ≡ all a (later_fair S w)) → Reached after b × (fair ≡ all b (later_fair S w))
  unfolding later_fair
  reached-past after a b fair h none =
      over-gap (λ j. Reached after j × (fair ≡ all j (later_fair S w))) a b h
      (λ j l m r. (
        reached-more after after j r.0 (record { others = λ i k n z. refl; here = λ k z. sym (cond_no (born S j k) (after j k) (none j l m)) }),
        all_past j (later_fair S w) r.1 (sym (cond_no (body_good d3q19 (born S j)) true (none j l m))),
      ))

-- ---- in the box's list
module _ (S : Scene) (w : ℕ → Bool) (parts : List ℤ) (c : ℕ) (f : 19 * c + 19 ≤ length parts) where
  abbrev put : Bool → List ℤ
  put b = cond b (pasted parts (19 * c) (tab 19 (born S c))) parts

  size-cases : (b : Bool) → length (put b) ≡ length parts
  size-cases true = length-pasted parts (19 * c) (tab 19 (born S c)) f (length-tab 19 (born S c))
  size-cases false = refl

  here-cases : (b : Bool) (k : ℕ) → k < 19 → part_of (put b) c k ≡ cond b (born S c k) (part_of parts c k)
  here-cases true k l = pasted-inside parts (19 * c) (tab 19 (born S c)) f (length-tab 19 (born S c)) k l ∙ get_or-tab 19 (born S c) (pos 0) k l
  here-cases false k l = refl

  other-cases : (b : Bool) (j k : ℕ) → (j ≡ c → ⊥) → k < 19 → part_of (put b) j k ≡ part_of parts j k
  other-cases false j k n l = refl
  other-cases true j k n l = go (dec_lt j c)
    where
      go : Dec (j < c) → part_of (put true) j k ≡ part_of parts j k
      go (yes h) = pasted-before parts (19 * c) (tab 19 (born S c)) f (length-tab 19 (born S c)) (19 * j + k) (omega arith)
      go (no h) = pasted-after parts (19 * c) (tab 19 (born S c)) f (length-tab 19 (born S c)) (19 * j + k) (omega arith)

  pub visited-size : {after : List ℤ} {fair : Bool} → Visited S w c parts after fair → length after ≡ length parts
  visited-size v = ap length v.parts ∙ size-cases (w c)

  pub visited-list : {after : List ℤ} {fair : Bool} → Visited S w c parts after fair → VisitedTo S w c (part_of parts) (part_of after)
  visited-list v = record {
    others = λ j k n l. ap (λ (x : List ℤ). part_of x j k) v.parts ∙ other-cases (w c) j k n l;
    here = λ k l. ap (λ (x : List ℤ). part_of x c k) v.parts ∙ here-cases (w c) k l;
  }

pub peopled : (S : Scene) (w : ℕ → Bool) (before after : List ℤ) (n : ℕ) (fair : Bool) → length after ≡ 19 * n → Reached S w (part_of before) (part_of after) n → fair ≡ all n (later_fair S w)
    → Peopled S w n before after fair
peopled S w before after n fair e r f = record { parts = blocks-all (later_part S w (part_of before)) after n e r.done; fair-is = f }
