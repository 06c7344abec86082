-- The chain of tests 4 to 6 as the code goes through it: each test that finds a place answers with it, and one that finds none lets the next answer.
-- Assumes nothing.
use mathlib.Core.Path.{◌≡◌, refl, sym, ap, ◌∙◌}
use mathlib.Core.Bool.{Bool, true, false, ◌&&◌}
use mathlib.Core.List.{[], ◌∷◌}
use Prim.Native.Nat.{ℕ, suc, ◌*◌, ◌≤◌, ◌<◌}
use native.Mathlib.Omega.{arith}
use lib.IntN.{ℤ, pos}
use lib.Dec.{eqb}
use lib.ListN.{length, get_or}
use borrow.Author.Tests.{lt-leb}
use Rattle.lattice.specs.Lattice.{d3q19}
use Rattle.grid.specs.declared.Sides.{Sides}
use Rattle.grid.specs.Answer.{Answer}
use Rattle.grid.specs.declared.refusals.Refusal.{Refusal}
use Rattle.grid.specs.Answer.{Done}
use Rattle.grid.specs.Grid.{cells_of, grid_of, box, sides_good}
use Rattle.grid.specs.State.{Lent, lent, state_of, flag_of}
use Rattle.grid.specs.Good.{bad_flag, bad_fluid, bad_rule, cell_good, dry_good, interface_good, fluid_good, fill_good}
use Rattle.grid.specs.Outcome.{or_refuse, if_none, good_answer, lengths_good, check_answer}
use Rattle.grid.specs.inner.Between.{Sized}
use Rattle.grid.proofs.Accepted.{skip}
use Rattle.grid.proofs.Prepared.{sized}
use Rattle.grid.specs.declared.refusals.Refusal.TheVariants.{BadFlag, BadLayer, BadLength, BadSides, BadState}
use Rattle.std.specs.Prelude.{Err}

-- a search that finds a place answers with it
pub stop : (limit : ℕ) (refusal : ℕ → Refusal) (place : ℕ) (rest : Answer) → place < limit → if_none limit refusal place rest ≡ Err (refusal place)
stop limit refusal place rest h = ap (λ (b : Bool). or_refuse b (refusal place) rest) (lt-leb limit place h)

module _ (s : Sides) (a : Lent) where
  abbrev answer : Answer
  answer = good_answer d3q19 (grid_of s) (state_of 18 a) Done

  abbrev n : ℕ
  n = cells_of s

  -- the three places
  abbrev flagged : ℕ
  flagged = bad_flag (grid_of s) (flag_of a.flags)

  abbrev opened : ℕ
  opened = bad_fluid 18 (grid_of s) (flag_of a.flags)

  abbrev broken : ℕ
  broken = bad_rule d3q19 n (state_of 18 a)

  chain : answer ≡ if_none n BadFlag flagged (if_none n BadLayer opened (if_none (suc n) BadState broken Done))
  unfolding good_answer grid_of box cells_of state_of d3q19
  chain = refl

  module _ (f : ℕ) (ef : f ≡ flagged) where
    pub stops-at-flag : f < n → Err (BadFlag f) ≡ answer
    stops-at-flag h = sym (chain ∙ stop n BadFlag flagged (if_none n BadLayer opened (if_none (suc n) BadState broken Done)) (omega arith) ∙ ap (λ (p : ℕ). Err (BadFlag p)) (sym ef))

    module _ (passed : n ≤ f) (o : ℕ) (eo : o ≡ opened) where
      second : answer ≡ if_none n BadLayer opened (if_none (suc n) BadState broken Done)
      second = chain ∙ skip n BadFlag flagged (if_none n BadLayer opened (if_none (suc n) BadState broken Done)) (omega arith)

      pub stops-at-fluid : o < n → Err (BadLayer o) ≡ answer
      stops-at-fluid h = sym (second ∙ stop n BadLayer opened (if_none (suc n) BadState broken Done) (omega arith) ∙ ap (λ (p : ℕ). Err (BadLayer p)) (sym eo))

      module _ (closed : n ≤ o) (b : ℕ) (eb : b ≡ broken) where
        third : answer ≡ if_none (suc n) BadState broken Done
        third = second ∙ skip n BadLayer opened (if_none (suc n) BadState broken Done) (omega arith)

        pub stops-at-rule : b ≤ n → Err (BadState b) ≡ answer
        stops-at-rule h = sym (third ∙ stop (suc n) BadState broken Done (omega arith) ∙ ap (λ (p : ℕ). Err (BadState p)) (sym eb))

        pub goes_through : n < b → Done ≡ answer
        goes_through h = sym (third ∙ skip (suc n) BadState broken Done (omega arith))

same : (n : ℕ) (a : Lent)
    → bad_rule d3q19 n (state_of 18 (lent a.flags a.parts a.masses a.fills (get_or a.carry 0 (pos 0) ∷ []))) ≡ bad_rule d3q19 n (state_of 18 a)
unfolding bad_rule cell_good dry_good interface_good fluid_good fill_good state_of
same n a = refl

-- test 6 looks at the carry's one number
pub one-carry : (n : ℕ) (a : Lent) (z : ℤ) → z ≡ get_or a.carry 0 (pos 0)
    → bad_rule d3q19 n (state_of 18 (lent a.flags a.parts a.masses a.fills (z ∷ []))) ≡ bad_rule d3q19 n (state_of 18 a)
one-carry n a z e =
    ap (λ (y : ℤ). bad_rule d3q19 n (state_of 18 (lent a.flags a.parts a.masses a.fills (y ∷ [])))) e ∙ same n a

-- ---- tests 1 and 2 before them

module _ (s : Sides) (a : Lent) where
  pub refuses-sides : sides_good s ≡ false → Err BadSides ≡ check_answer s a
  unfolding check_answer
  refuses-sides e = rw e refl

  module _ (g : sides_good s ≡ true) (n : ℕ) (cells : n ≡ cells_of s) where
    lengths-are : (b : Bool)
        → (eqb (length a.flags) n && eqb (length a.parts) (19 * n) && eqb (length a.masses) n && eqb (length a.fills) n && eqb (length a.carry) 1) ≡ b
        → lengths_good (cells_of s) a ≡ b
    unfolding lengths_good
    lengths-are b e = ap (λ (m : ℕ). lengths_good m a) (sym cells) ∙ e

    pub refuses-lengths : (eqb (length a.flags) n && eqb (length a.parts) (19 * n) && eqb (length a.masses) n && eqb (length a.fills) n && eqb (length a.carry) 1) ≡ false
        → Err BadLength ≡ check_answer s a
    unfolding check_answer
    refuses-lengths e = rw (g, lengths-are false e) refl

    module _ (l : (eqb (length a.flags) n && eqb (length a.parts) (19 * n) && eqb (length a.masses) n && eqb (length a.fills) n && eqb (length a.carry) 1) ≡ true) where
      pub lengths-good : Sized (cells_of s) a
      lengths-good = sized (cells_of s) a (lengths-are true l)

      pub then-checked : good_answer d3q19 (grid_of s) (state_of 18 a) Done ≡ check_answer s a
      unfolding check_answer
      then-checked = rw (g, lengths-are true l) refl
