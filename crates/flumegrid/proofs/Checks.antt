-- The chain of tests 4 to 6 over any lattice and grid, as the code goes through it: each test that finds a place answers with it, and one that finds none
-- lets the next answer. And tests 1 and 2 of a flume before them. Assumes nothing.
use mathlib.Core.Path.{◌≡◌, refl, sym, ap, ◌∙◌}
use mathlib.Core.Bool.{Bool, true, false, ◌&&◌}
use mathlib.Core.List.{[], ◌∷◌}
use Prim.Native.Nat.{ℕ, suc, ◌*◌, ◌≤◌, ◌<◌}
use native.Mathlib.Omega.{arith}
use lib.IntN.{ℤ, pos}
use lib.Dec.{eqb}
use lib.ListN.{length, get_or}
use borrow.Author.Tests.{eqb-true}
use Rattle.whole.specs.laws.Bools.{and_left, and_right}
use Rattle.lattice.specs.Lattice.{Lattice, d2q9}
use Rattle.grid.specs.Answer.{Answer}
use Rattle.grid.specs.Answer.{Done}
use Rattle.grid.specs.Grid.{Grid}
use Rattle.grid.specs.State.{Lent, lent, State, state_of}
use Rattle.grid.specs.Good.{bad_flag, bad_fluid, bad_rule, cell_good, dry_good, interface_good, fluid_good, fill_good}
use Rattle.grid.specs.Outcome.{if_none, good_answer}
use Rattle.grid.proofs.Accepted.{skip}
use Rattle.grid.proofs.Checks.{stop}
use Rattle.flume.specs.declared.FlumeSides.{FlumeSides}
use Rattle.flume.specs.Flume.{flume_sides_good, flume_cells, flume_grid, flume_lengths}
use Rattle.flume.specs.Outcome.{flume_check}
use Rattle.flumegrid.specs.inner.Ready.{FlumeSized}
use Rattle.grid.specs.declared.refusals.Refusal.TheVariants.{BadFlag, BadLayer, BadLength, BadSides, BadState}
use Rattle.std.specs.Prelude.{Err}

module _ (L : Lattice) (G : Grid) (t : State) where
  abbrev answer : Answer
  answer = good_answer L G t Done

  abbrev n : ℕ
  n = G.cells

  -- the three places
  abbrev flagged : ℕ
  flagged = bad_flag G t.flag

  abbrev opened : ℕ
  opened = bad_fluid L.q G t.flag

  abbrev broken : ℕ
  broken = bad_rule L n t

  chain : answer ≡ if_none n BadFlag flagged (if_none n BadLayer opened (if_none (suc n) BadState broken Done))
  unfolding good_answer
  chain = refl

  module _ (f : ℕ) (ef : f ≡ flagged) where
    pub stops-at-flag : f < n → Err (BadFlag f) ≡ answer
    stops-at-flag h = sym (chain ∙ stop n BadFlag flagged (if_none n BadLayer opened (if_none (suc n) BadState broken Done)) (omega arith) ∙ ap (λ (p : ℕ). Err (BadFlag p)) (sym ef))

    module _ (passed : n ≤ f) (o : ℕ) (eo : o ≡ opened) where
      second : answer ≡ if_none n BadLayer opened (if_none (suc n) BadState broken Done)
      second = chain ∙ skip n BadFlag flagged (if_none n BadLayer opened (if_none (suc n) BadState broken Done)) (omega arith)

      pub stops-at-fluid : o < n → Err (BadLayer o) ≡ answer
      stops-at-fluid h = sym (second ∙ stop n BadLayer opened (if_none (suc n) BadState broken Done) (omega arith) ∙ ap (λ (p : ℕ). Err (BadLayer p)) (sym eo))

      module _ (closed : n ≤ o) (b : ℕ) (eb : b ≡ broken) where
        third : answer ≡ if_none (suc n) BadState broken Done
        third = second ∙ skip n BadLayer opened (if_none (suc n) BadState broken Done) (omega arith)

        pub stops-at-rule : b ≤ n → Err (BadState b) ≡ answer
        stops-at-rule h = sym (third ∙ stop (suc n) BadState broken Done (omega arith) ∙ ap (λ (p : ℕ). Err (BadState p)) (sym eb))

        pub goes_through : n < b → Done ≡ answer
        goes_through h = sym (third ∙ skip (suc n) BadState broken Done (omega arith))

-- test 6 looks at the carry's one number
same : (n : ℕ) (a : Lent)
    → bad_rule d2q9 n (state_of 8 (lent a.flags a.parts a.masses a.fills (get_or a.carry 0 (pos 0) ∷ []))) ≡ bad_rule d2q9 n (state_of 8 a)
unfolding bad_rule cell_good dry_good interface_good fluid_good fill_good state_of
same n a = refl

pub one-carry : (n : ℕ) (a : Lent) (z : ℤ) → z ≡ get_or a.carry 0 (pos 0)
    → bad_rule d2q9 n (state_of 8 (lent a.flags a.parts a.masses a.fills (z ∷ []))) ≡ bad_rule d2q9 n (state_of 8 a)
one-carry n a z e =
    ap (λ (y : ℤ). bad_rule d2q9 n (state_of 8 (lent a.flags a.parts a.masses a.fills (y ∷ [])))) e ∙ same n a

-- ---- tests 1 and 2 before them

pub sized : (n : ℕ) (a : Lent) → flume_lengths n a ≡ true → FlumeSized n a
unfolding flume_lengths
sized n a e =
    let b = and_left (eqb (length a.flags) n && eqb (length a.parts) (9 * n) && eqb (length a.masses) n && eqb (length a.fills) n) (eqb (length a.carry) 1) e in
    let c = and_left (eqb (length a.flags) n && eqb (length a.parts) (9 * n) && eqb (length a.masses) n) (eqb (length a.fills) n) b in
    let d = and_left (eqb (length a.flags) n && eqb (length a.parts) (9 * n)) (eqb (length a.masses) n) c in
    record {
      flags = eqb-true _ _ (and_left (eqb (length a.flags) n) (eqb (length a.parts) (9 * n)) d);
      parts = eqb-true _ _ (and_right (eqb (length a.flags) n) (eqb (length a.parts) (9 * n)) d);
      masses = eqb-true _ _ (and_right (eqb (length a.flags) n && eqb (length a.parts) (9 * n)) (eqb (length a.masses) n) c);
      fills = eqb-true _ _ (and_right (eqb (length a.flags) n && eqb (length a.parts) (9 * n) && eqb (length a.masses) n) (eqb (length a.fills) n) b);
      carry = eqb-true _ _ (and_right (eqb (length a.flags) n && eqb (length a.parts) (9 * n) && eqb (length a.masses) n && eqb (length a.fills) n) (eqb (length a.carry) 1) e);
    }

-- what the code tests of a set's lengths is what the outcome asks
pub lengths-are : (s : FlumeSides) (a : Lent) {n : ℕ} {b : Bool} → n ≡ flume_cells s
    → b ≡ (eqb (length a.flags) n && eqb (length a.parts) (9 * n) && eqb (length a.masses) n && eqb (length a.fills) n && eqb (length a.carry) 1)
    → b ≡ flume_lengths (flume_cells s) a
unfolding flume_lengths
lengths-are s a cells e = e ∙ ap (λ (m : ℕ). flume_lengths m a) cells

module _ (s : FlumeSides) (a : Lent) where
  pub refuses-sides : flume_sides_good s ≡ false → Err BadSides ≡ flume_check s a
  unfolding flume_check
  refuses-sides e = rw e refl

  module _ (g : flume_sides_good s ≡ true) where
    pub refuses-lengths : flume_lengths (flume_cells s) a ≡ false → Err BadLength ≡ flume_check s a
    unfolding flume_check flume_lengths
    refuses-lengths e = rw (g, e) refl

    pub then-checked : flume_lengths (flume_cells s) a ≡ true → good_answer d2q9 (flume_grid s) (state_of 8 a) Done ≡ flume_check s a
    unfolding flume_check flume_lengths
    then-checked e = rw (g, e) refl
