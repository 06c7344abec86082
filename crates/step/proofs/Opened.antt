-- Pass 0's mark 1 at a liquid cell of a sound field: the cell is fluid and every neighbour is liquid, so every part streams straight in. Assumes nothing.
use mathlib.Core.Path.{◌≡◌, refl, sym, ap, ◌∙◌, subst}
use mathlib.Core.Bool.{Bool, true, false, ◌&&◌, not, cond, false≢true}
use mathlib.Core.List.{List}
use Prim.Native.Nat.{ℕ, zero, suc, ◌+◌, ◌-◌, ◌<◌}
use native.Mathlib.Omega.{arith}
use lib.Dec.{leb, ltb, eqb}
use lib.ListN.{length, get_or}
use borrow.Author.Tests.{eqb-true, eq-eqb, not-true, le-leb, lt-ltb}
use Rattle.whole.specs.laws.Bools.{and_left, and_right, and-true, cond_yes}
use Rattle.whole.specs.Fold.{tab, Dir}
use Rattle.whole.specs.laws.Search.{any-dir}
use Rattle.whole.specs.laws.Tab.{get_or-tab}
use Rattle.grid.specs.State.{liquid}
use Rattle.grid.specs.inner.Passes.{Amid, amid, beside_at, open_mark, opened_by}
use Rattle.grid.proofs.Lists.{get_or-there}
use Rattle.conversion.proofs.Births.{wet-low}
use Rattle.conversion.proofs.Field.{Field, Sound}
use Rattle.conversion.proofs.Offspring.{within}

mark-one : (t : Bool) → ◌≡◌ {A = ℕ} (cond t 1 0) 1 → t ≡ true
mark-one true e = refl
mark-one false e = absurd (omega arith)

some-liquid : (f : ℕ) → f < 4 → (f ≡ 0 → ⊥) → (f ≡ 3 → ⊥) → liquid f ≡ true
some-liquid zero h z w = absurd (z refl)
some-liquid (suc zero) h z w = refl
some-liquid (suc (suc zero)) h z w = refl
some-liquid (suc (suc (suc zero))) h z w = absurd (w refl)
some-liquid (suc (suc (suc (suc n)))) h z w = absurd (omega arith)

module _ (F : Field) (v : Sound F) (before : List ℕ) {marks : List ℕ} (e : marks ≡ tab (length F.flags) (opened_by F.flags before F.off F.low)) (c : ℕ) (h : c < F.cells)
    (l : liquid (get_or F.flags c 3) ≡ true) (m : get_or marks c 0 ≡ 1) where
  there : {b : ℕ} → b < F.cells → b < length F.flags
  there {b} k = subst (λ (n : ℕ). b < n) (sym v.stands.count) k

  inside : Amid F.cells F.low c
  inside = within F v.stands c h (wet-low (get_or F.flags c 3) l)

  in-range : amid (length F.flags) F.low c ≡ true
  in-range =
      and-true (leb F.low c) (ltb (c + F.low) (length F.flags)) (le-leb F.low c inside.from)
      (lt-ltb (c + F.low) (length F.flags) (subst (λ (n : ℕ). c + F.low < n) (sym v.stands.count) inside.to))

  abbrev walled : Bool
  walled = beside_at F.flags F.off (c - F.low) 3

  opened : (eqb (get_or F.flags c 0) 2 && not walled) ≡ true
  opened =
      mark-one (eqb (get_or F.flags c 0) 2 && not walled)
      (sym (cond_yes (open_mark (get_or F.flags c 0) walled) (get_or before c 0) in-range)
      ∙ sym (get_or-tab (length F.flags) (opened_by F.flags before F.off F.low) 0 c (there h)) ∙ sym (ap (λ (x : List ℕ). get_or x c 0) e) ∙ m)

  -- an open cell is fluid
  pub open-fluid : get_or F.flags c 3 ≡ 2
  open-fluid = get_or-there F.flags c 3 0 (there h) ∙ eqb-true (get_or F.flags c 0) 2 (and_left (eqb (get_or F.flags c 0) 2) (not walled) opened)

  no-wall : walled ≡ false
  no-wall = not-true walled (and_right (eqb (get_or F.flags c 0) 2) (not walled) opened)

  -- and so is, or is interface, each of its neighbours
  pub open-near : (i : ℕ) → Dir 18 i → liquid (get_or F.flags (F.grid.near c i) 3) ≡ true
  unfolding beside_at
  open-near i d =
      some-liquid (get_or F.flags (F.grid.near c i) 3) (v.flagged (F.grid.near c i) near-cell)
      (v.closed c i (subst (λ (n : ℕ). c < n) (sym v.stands.cells_are) h) d.some d.most open-fluid)
      (λ w. false≢true (sym no-wall
      ∙ any-dir 18 (λ i. eqb (get_or F.flags (c - F.low + get_or F.off i 0) 0) 3) i d (eq-eqb _ 3 (ap (λ (b : ℕ). get_or F.flags b 0) place ∙ get_or-there F.flags (F.grid.near c i) 0 3 (there near-cell) ∙ w))))
    where
      place : c - F.low + get_or F.off i 0 ≡ F.grid.near c i
      place = v.stands.place c i inside (omega (arith, d.most))

      near-cell : F.grid.near c i < F.cells
      near-cell = v.stands.near-low c i inside (omega (arith, d.most))
