-- Pass 7 in a list of nine parts a cell: one cell settled there is that cell settled among the nineteen places, and when every cell is, the list is what is
-- promised. The turns themselves are the box's, over any parts. Assumes nothing.
use mathlib.Core.Path.{◌≡◌, refl, ap, ◌∙◌}
use mathlib.Core.Bool.{Bool, true, false, cond}
use mathlib.Core.List.{List}
use Prim.Native.Nat.{ℕ, ◌+◌, ◌*◌, ◌≤◌, ◌<◌}
use native.Mathlib.Omega.{arith}
use lib.IntN.{ℤ, pos}
use lib.Dec.{eqb}
use lib.ListN.{length, replicate}
use Rattle.whole.specs.laws.Tab.{upto_all}
use Rattle.conversion.specs.inner.Settled.{settled_mass}
use Rattle.conversion.proofs.Settles.{CellSettledTo, Upon, tab-replicate, zeros-at}
use Rattle.nine.specs.inner.Cells.{part_of9, pasted9, Quiet}
use Rattle.nine.proofs.Pasted.{length-pasted9, pasted-here, pasted-other}
use Rattle.flumeconversion.specs.inner.Settled.{CellSettled, Settled}

module _ (parts : List ℤ) (c : ℕ) (f : 9 * c + 9 ≤ length parts) where
  abbrev put : Bool → List ℤ
  put b = cond b parts (pasted9 parts c (replicate 19 (pos 0)))

  none : Quiet (replicate 19 (pos 0))
  none = record { at = λ i n. zeros-at i }

  size-cases : (b : Bool) → length (put b) ≡ length parts
  size-cases true = refl
  size-cases false = length-pasted9 parts c (replicate 19 (pos 0)) f

  here-cases : (b : Bool) (k : ℕ) → k < 19 → part_of9 (put b) c k ≡ cond b (part_of9 parts c k) (pos 0)
  here-cases true k l = refl
  here-cases false k l = pasted-here parts c (replicate 19 (pos 0)) f none k l ∙ zeros-at k

  other-cases : (b : Bool) (j k : ℕ) → (j ≡ c → ⊥) → k < 19 → part_of9 (put b) j k ≡ part_of9 parts j k
  other-cases true j k n l = refl
  other-cases false j k n l = pasted-other parts c (replicate 19 (pos 0)) f j k n l

  pub settled-size : {m : ℕ} {masses parts' masses' : List ℤ} → CellSettled m c parts masses parts' masses' → length parts' ≡ length parts
  settled-size {m} s = ap length s.parts_are ∙ size-cases (eqb m 1)

  pub settled-list : {m : ℕ} {masses parts' masses' : List ℤ} → CellSettled m c parts masses parts' masses' → CellSettledTo m c (part_of9 parts) masses (part_of9 parts') masses'
  settled-list {m} s = record {
    others = λ j k n l. ap (λ (x : List ℤ). part_of9 x j k) s.parts_are ∙ other-cases (eqb m 1) j k n l;
    here = λ k l. ap (λ (x : List ℤ). part_of9 x c k) s.parts_are ∙ here-cases (eqb m 1) k l;
    masses-are = s.masses-are;
  }

-- the loop is over
pub upon-all : (parts₀ masses₀ : List ℤ) (marks₀ : List ℕ) (parts masses : List ℤ) (marks : List ℕ) (c : ℕ) → Upon (part_of9 parts₀) masses₀ marks₀ (part_of9 parts) masses marks c → length marks₀ ≤ c
    → length parts ≡ 9 * length marks₀ → length masses₀ ≡ length marks₀ → Settled parts₀ masses₀ marks₀ parts masses marks
upon-all parts₀ masses₀ marks₀ parts masses marks c u h e d =
    record {
      parts-there = e;
      part-is = λ j k l g. u.parts-done j k (omega arith) g;
      masses-are = upto_all (pos 0) (settled_mass (part_of9 parts₀) masses₀ marks₀) masses (length marks₀) (u.masses-size ∙ d) (λ j l. u.masses-done j (omega arith));
      marks-are = upto_all 0 (λ j. 0) marks (length marks₀) u.marks-size (λ j l. u.marks-done j (omega arith)) ∙ tab-replicate (length marks₀) 0 0;
    }
