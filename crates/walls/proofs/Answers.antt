-- The outcomes of the wall changes as the code goes through them: a test that refuses answers, and one that passes lets the next one answer. Assumes
-- nothing.
use mathlib.Core.Path.{◌≡◌, refl, sym, ap, ap₂, ◌∙◌}
use mathlib.Core.Bool.{Bool, true, false, ◌&&◌, ◌||◌, not, false≢true, true≢false}
use mathlib.Core.List.{List}
use Prim.Native.Nat.{ℕ, ◌≤◌, ◌<◌}
use native.Mathlib.Omega.{arith}
use lib.Dec.{eqb, ltb}
use lib.ListN.{length, get_or, set}
use borrow.Author.Tests.{eq-eqb, ne_eqb, lt-ltb, le-ltb, ltb-true, not-true}
use Rattle.whole.specs.laws.Bools.{and_left}
use Rattle.grid.specs.declared.Sides.{Sides}
use Rattle.grid.specs.Answer.{Answer}
use Rattle.grid.specs.Answer.{Done}
use Rattle.grid.specs.Grid.{cells_of, grid_of}
use Rattle.grid.specs.State.{Lent}
use Rattle.grid.specs.Outcome.{accepted, or_refuse}
use Rattle.grid.specs.inner.Passes.{Inner}
use Rattle.grid.proofs.Accepted.{passed}
use Rattle.grid.proofs.Coordinates.{inner_of}
use Rattle.grid.proofs.Lists.{get_or-there}
use Rattle.pumps.specs.Acts.{and_then}
use Rattle.schemes.specs.Scheme.{wall_at, tested}
use Rattle.schemes.specs.Outcome.{if_done}
use Rattle.schemes.proofs.Tests.{tells}
use Rattle.walls.specs.Outcome.{wanted, in_way, may_change, placed, clear, wall_answer, wall_map}
use Rattle.walls.specs.Promise.{Changed}
use Rattle.grid.specs.declared.refusals.Refusal.TheVariants.{BadChange, InTheWay, Outside}
use Rattle.std.specs.Prelude.{Err}
use Rattle.grid.specs.declared.refusals.Refusal.{Refusal}

-- ---- a change of the map

module _ (s : Sides) (map : List ℕ) (add : Bool) (c : ℕ) (z : length map ≡ cells_of s) where
  pub place-outside : length map ≤ c → Err Outside ≡ placed s map add c Done
  unfolding placed
  place-outside h = rw (le-ltb c (cells_of s) (omega arith)) refl

  module _ (h : c < length map) where
    cell : ltb c (cells_of s) ≡ true
    cell = lt-ltb c (cells_of s) (omega arith)

    may-is : (o : Bool) → (grid_of s).outer c ≡ o → (b : Bool) → eqb (get_or map c 0) (wanted add) ≡ b → may_change s map add c ≡ (not o && not b)
    unfolding may_change
    may-is o eo b eb = ap₂ (λ (x y : Bool). not x && not y) eo (ap (λ (m : ℕ). eqb m (wanted add)) (get_or-there map c 1 0 h) ∙ eb)

    pub place-outer : (grid_of s).outer c ≡ true → Err (BadChange c) ≡ placed s map add c Done
    unfolding placed
    place-outer o = rw (cell, may-is true o (eqb (get_or map c 0) (wanted add)) refl) refl

    module _ (o : (grid_of s).outer c ≡ false) where
      pub place-already : get_or map c 0 ≡ wanted add → Err (BadChange c) ≡ placed s map add c Done
      unfolding placed
      place-already e = rw (cell, may-is false o true (eq-eqb (get_or map c 0) (wanted add) e)) refl

      pub place-free : (get_or map c 0 ≡ wanted add → ⊥) → Done ≡ placed s map add c Done
      unfolding placed
      place-free n = rw (cell, may-is false o false (ne_eqb (get_or map c 0) (wanted add) n)) refl

-- 13 and 17, whatever comes after them
rest-refused : (p q : Bool) (c : ℕ) (refusal : Refusal) (rest : Answer) → or_refuse p Outside (or_refuse q (BadChange c) Done) ≡ Err refusal → or_refuse p Outside (or_refuse q (BadChange c) rest) ≡ Err refusal
rest-refused false q c refusal rest e = e
rest-refused true false c refusal rest e = e
rest-refused true true c refusal rest e = absurd (true≢false (ap accepted e))

rest-done : (p q : Bool) (c : ℕ) (rest : Answer) → or_refuse p Outside (or_refuse q (BadChange c) Done) ≡ Done → or_refuse p Outside (or_refuse q (BadChange c) rest) ≡ rest
rest-done false q c rest e = absurd (false≢true (ap accepted e))
rest-done true false c rest e = absurd (false≢true (ap accepted e))
rest-done true true c rest e = refl

module _ (s : Sides) (map : List ℕ) (a b : Lent) (add : Bool) (c : ℕ) where
  abbrev after-tests : Answer
  after-tests = placed s map add c (or_refuse (clear s a b add c) (InTheWay c) Done)

  pub asker-refused : {refusal : Refusal} → Err refusal ≡ tested s map a true → Err refusal ≡ wall_answer s map a b add c
  unfolding wall_answer
  asker-refused e = ap (λ (x : Answer). and_then x (and_then (tested s map b true) after-tests)) e

  module _ (ea : tested s map a true ≡ Done) where
    pub other-refused : {refusal : Refusal} → Err refusal ≡ tested s map b true → Err refusal ≡ wall_answer s map a b add c
    unfolding wall_answer
    other-refused e = rw ea (ap (λ (x : Answer). and_then x after-tests) e)

    module _ (eb : tested s map b true ≡ Done) where
      tests-done : wall_answer s map a b add c ≡ after-tests
      unfolding wall_answer
      tests-done = rw (ea, eb) refl

      pub place-refused : {refusal : Refusal} → Err refusal ≡ placed s map add c Done → Err refusal ≡ wall_answer s map a b add c
      unfolding placed
      place-refused {refusal} e = sym (tests-done ∙ rest-refused (ltb c (cells_of s)) (may_change s map add c) c refusal (or_refuse (clear s a b add c) (InTheWay c) Done) (sym e))

      module _ (ep : placed s map add c Done ≡ Done) where
        place-done : wall_answer s map a b add c ≡ or_refuse (clear s a b add c) (InTheWay c) Done
        unfolding placed
        place-done = tests-done ∙ rest-done (ltb c (cells_of s)) (may_change s map add c) c (or_refuse (clear s a b add c) (InTheWay c) Done) ep

        pub way-refused : (in_way s a.flags add c || in_way s b.flags add c) ≡ true → Err (InTheWay c) ≡ wall_answer s map a b add c
        unfolding clear
        way-refused e = sym (place-done ∙ ap (λ (x : Bool). or_refuse (not x) (InTheWay c) Done) e)

        pub way-clear : (in_way s a.flags add c || in_way s b.flags add c) ≡ false → Done ≡ wall_answer s map a b add c
        unfolding clear
        way-clear e = sym (place-done ∙ ap (λ (x : Bool). or_refuse (not x) (InTheWay c) Done) e)

        pub cell_in : c < cells_of s
        unfolding placed
        cell_in = ltb-true c (cells_of s) (passed (ltb c (cells_of s)) Outside _ ep).0

        -- the cell is inner
        pub cell-inner : Inner s c
        unfolding placed may_change
        cell-inner =
            let q = passed (ltb c (cells_of s)) Outside _ ep in
            let m = passed (may_change s map add c) (BadChange c) Done q.1 in
            inner_of s c (tells s map a true ea).0.sides cell_in
            (not-true ((grid_of s).outer c) (and_left (not ((grid_of s).outer c)) (not (eqb (wall_at map c) (wanted add))) m.0))

  pub change-refused : {refusal : Refusal} → Err refusal ≡ wall_answer s map a b add c → Changed s map a b add c (Err refusal) map
  unfolding wall_map
  change-refused e = record { answer-is = e; map_is = ap (λ (x : Answer). if_done x (set map c (wanted add)) map) e }

  pub change-done : wall_answer s map a b add c ≡ Done → Changed s map a b add c Done (set map c (wanted add))
  unfolding wall_map
  change-done e = record { answer-is = sym e; map_is = ap (λ (x : Answer). if_done x (set map c (wanted add)) map) (sym e) }
