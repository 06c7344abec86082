-- The check of a set with three numbers, as the code goes through it, and what it leaves of a set that passed. Assumes nothing.
use mathlib.Core.Path.{◌≡◌, refl, sym, ap, ◌∙◌}
use mathlib.Core.Bool.{Bool, true, false, ◌&&◌}
use mathlib.Core.List.{List, [], ◌∷◌}
use Prim.Native.Nat.{ℕ, suc, ◌+◌, ◌*◌, ◌≤◌, ◌<◌}
use native.Mathlib.Omega.{arith}
use borrow.Author.Tests.{eqb-true, eq-eqb}
use lib.Dec.{eqb, leb}
use lib.IntN.{ℤ, pos}
use lib.ListN.{length, get_or, take}
use Rattle.whole.specs.laws.Bools.{and_left, and_right, and-true}
use Rattle.lattice.specs.Lattice.{Lattice, d3q19}
use Rattle.grid.specs.declared.Sides.{Sides}
use Rattle.grid.specs.Answer.{Answer}
use Rattle.grid.specs.Answer.{Done}
use Rattle.grid.specs.Grid.{Grid, cells_of, sides_good, grid_of, box}
use Rattle.grid.specs.State.{Lent, State, state_of}
use Rattle.grid.specs.Good.{bad_flag, bad_fluid, bad_rule, cell_good}
use Rattle.grid.specs.inner.Between.{Sized}
use Rattle.grid.specs.Outcome.{or_refuse, good_answer}
use Rattle.grid.proofs.Accepted.{passed, none_found, Sound, sound, cell-good}
use Rattle.pumps.specs.Three.{number_in, head_of, total_good, totals_good, three_lengths, three_good, three_answer}
use Rattle.grid.specs.declared.refusals.Refusal.TheVariants.{BadFlag, BadLayer, BadLength, BadSides, BadState}
use Rattle.std.specs.Prelude.{Err}
use Rattle.grid.specs.declared.refusals.Refusal.{Refusal}

-- ---- a chain of three tests with another end
chain-refused : (a b c : Bool) (i j k : ℕ) (refusal : Refusal) (rest : Answer) → Err refusal ≡ or_refuse a (BadFlag i) (or_refuse b (BadLayer j) (or_refuse c (BadState k) Done)) → Err refusal ≡ or_refuse a (BadFlag i) (or_refuse b (BadLayer j) (or_refuse c (BadState k) rest))
chain-refused false b c i j k refusal rest e = e
chain-refused true false c i j k refusal rest e = e
chain-refused true true false i j k refusal rest e = e
chain-refused true true true i j k refusal rest e = absurd (let z : ◌≡◌ {A = ℕ} 0 1 = cc in omega arith)

chain-done : (a b c : Bool) (i j k : ℕ) (rest : Answer) → or_refuse a (BadFlag i) (or_refuse b (BadLayer j) (or_refuse c (BadState k) Done)) ≡ Done → or_refuse a (BadFlag i) (or_refuse b (BadLayer j) (or_refuse c (BadState k) rest)) ≡ rest
chain-done false b c i j k rest e = absurd (let z : ◌≡◌ {A = ℕ} 0 1 = cc in omega arith)
chain-done true false c i j k rest e = absurd (let z : ◌≡◌ {A = ℕ} 0 1 = cc in omega arith)
chain-done true true false i j k rest e = absurd (let z : ◌≡◌ {A = ℕ} 0 1 = cc in omega arith)
chain-done true true true i j k rest e = refl

module _ (L : Lattice) (G : Grid) (t : State) (rest : Answer) where
  pub good-refused : (refusal : Refusal) → Err refusal ≡ good_answer L G t Done → Err refusal ≡ good_answer L G t rest
  unfolding good_answer
  good-refused refusal e =
      chain-refused (leb G.cells (bad_flag G t.flag)) (leb G.cells (bad_fluid L.q G t.flag)) (leb (suc G.cells) (bad_rule L G.cells t)) _ _ _ refusal rest e

  pub good-done : good_answer L G t Done ≡ Done → good_answer L G t rest ≡ rest
  unfolding good_answer
  good-done e =
      chain-done (leb G.cells (bad_flag G t.flag)) (leb G.cells (bad_fluid L.q G t.flag)) (leb (suc G.cells) (bad_rule L G.cells t)) _ _ _ rest e

-- ---- the carry alone
head-number : (l : List ℤ) → get_or (take 1 l) 0 (pos 0) ≡ get_or l 0 (pos 0)
head-number [] = refl
head-number (z ∷ l) = refl

pub head-length : (l : List ℤ) → length l ≡ 3 → length (take 1 l) ≡ 1
head-length [] e = absurd (omega arith)
head-length (z ∷ l) e = refl

module _ (s : Sides) (a : Lent) where
  pub head-state : state_of 18 (head_of a) ≡ state_of 18 a
  unfolding state_of
  head-state =
      ap (λ (z : ℤ). record { flag = λ c. get_or a.flags c 3; part = λ c k. get_or a.parts (19 * c + k) (pos 0); mass = λ c. get_or a.masses c (pos 0); fill = λ c. get_or a.fills c 0; carry = z })
      (head-number a.carry)

  -- ---- tests 1 and 2
  abbrev pub four : ℕ → Bool
  four n = eqb (length a.flags) n && eqb (length a.parts) (19 * n) && eqb (length a.masses) n && eqb (length a.fills) n

  -- the code's test of the lengths
  pub lengths-told : {n : ℕ} {b r : Bool} → n ≡ cells_of s → r ≡ (eqb (length a.carry) 3 && four n) → r ≡ b → three_lengths (cells_of s) a ≡ b
  unfolding three_lengths
  lengths-told {n} {b} {r} e q h = ap (λ (m : ℕ). eqb (length a.carry) 3 && four m) (sym e) ∙ sym q ∙ h

  pub refuses-sides : sides_good s ≡ false → Err BadSides ≡ three_answer s a
  unfolding three_answer
  refuses-sides e = simp e

  pub refuses-lengths : sides_good s ≡ true → three_lengths (cells_of s) a ≡ false → Err BadLength ≡ three_answer s a
  unfolding three_answer
  refuses-lengths g h = simp (g, h)

  pub then-checked : sides_good s ≡ true → three_lengths (cells_of s) a ≡ true → three_good s a Done ≡ three_answer s a
  unfolding three_answer
  then-checked g h = simp (g, h)

  module _ (l : three_lengths (cells_of s) a ≡ true) where
    pub carry-three : length a.carry ≡ 3
    unfolding three_lengths
    carry-three = eqb-true (length a.carry) 3 (and_left (eqb (length a.carry) 3) (four (cells_of s)) l)

    pub head-sized : Sized (cells_of s) (head_of a)
    unfolding three_lengths
    head-sized =
        let n = cells_of s in
        let h = and_right (eqb (length a.carry) 3) (four n) l in
        let c = and_left (eqb (length a.flags) n && eqb (length a.parts) (19 * n) && eqb (length a.masses) n) (eqb (length a.fills) n) h in
        let d = and_left (eqb (length a.flags) n && eqb (length a.parts) (19 * n)) (eqb (length a.masses) n) c in
        record {
          flags = eqb-true _ _ (and_left (eqb (length a.flags) n) (eqb (length a.parts) (19 * n)) d);
          parts = eqb-true _ _ (and_right (eqb (length a.flags) n) (eqb (length a.parts) (19 * n)) d);
          masses = eqb-true _ _ (and_right (eqb (length a.flags) n && eqb (length a.parts) (19 * n)) (eqb (length a.masses) n) c);
          fills = eqb-true _ _ (and_right (eqb (length a.flags) n && eqb (length a.parts) (19 * n) && eqb (length a.masses) n) (eqb (length a.fills) n) h);
          carry = head-length a.carry carry-three;
        }

  -- ---- tests 4 to 6: the base's, and then the totals
  module _ (rest : Answer) where
    abbrev totals : Answer
    totals = or_refuse (totals_good (number_in a 1) (number_in a 2)) (BadState (cells_of s)) rest

    pub refuses-good : {refusal : Refusal} → Err refusal ≡ good_answer d3q19 (grid_of s) (state_of 18 (head_of a)) Done → Err refusal ≡ three_good s a rest
    refuses-good {refusal} e = good-refused d3q19 (grid_of s) (state_of 18 a) totals refusal (e ∙ ap (λ (t : State). good_answer d3q19 (grid_of s) t Done) head-state)

    pub then-totals : good_answer d3q19 (grid_of s) (state_of 18 (head_of a)) Done ≡ Done → totals ≡ three_good s a rest
    then-totals done = sym (good-done d3q19 (grid_of s) (state_of 18 a) totals (ap (λ (t : State). good_answer d3q19 (grid_of s) t Done) (sym head-state) ∙ done))

    pub refuses-totals : good_answer d3q19 (grid_of s) (state_of 18 (head_of a)) Done ≡ Done → {n : ℕ} → n ≡ cells_of s → totals_good (number_in a 1) (number_in a 2) ≡ false → Err (BadState n) ≡ three_good s a rest
    refuses-totals done e h = ap (λ (p : ℕ). Err (BadState p)) e ∙ sym (ap (λ (t : Bool). or_refuse t (BadState (cells_of s)) rest) h) ∙ then-totals done

    pub accepts-totals : good_answer d3q19 (grid_of s) (state_of 18 (head_of a)) Done ≡ Done → totals_good (number_in a 1) (number_in a 2) ≡ true → rest ≡ three_good s a rest
    accepts-totals done h = sym (ap (λ (t : Bool). or_refuse t (BadState (cells_of s)) rest) h) ∙ then-totals done

  pub accepts : sides_good s ≡ true → length a.carry ≡ 3 → four (cells_of s) ≡ true → good_answer d3q19 (grid_of s) (state_of 18 (head_of a)) Done ≡ Done
      → total_good (number_in a 1) ≡ true → total_good (number_in a 2) ≡ true → Done ≡ three_answer s a
  unfolding three_lengths
  accepts g three l done h k =
      accepts-totals Done done (and-true (total_good (number_in a 1)) (total_good (number_in a 2)) h k)
      ∙ then-checked g (and-true (eqb (length a.carry) 3) (four (cells_of s)) (eq-eqb (length a.carry) 3 three) l)

  -- ---- what a set that passed has
  pub record Passed : Type 0 where
    pub sides : sides_good s ≡ true
    pub carry : length a.carry ≡ 3
    pub sized : Sized (cells_of s) (head_of a)
    pub sound-is : Sound d3q19 (grid_of s) (state_of 18 a)
    pub rules : suc (cells_of s) ≤ bad_rule d3q19 (cells_of s) (state_of 18 a)
    pub cells : (c : ℕ) → c < cells_of s → cell_good d3q19 (state_of 18 a) c ≡ true
    pub poured : total_good (number_in a 1) ≡ true
    pub taken : total_good (number_in a 2) ≡ true

  bounds : (rest : Answer) → good_answer d3q19 (grid_of s) (state_of 18 a) rest ≡ Done → suc (cells_of s) ≤ bad_rule d3q19 (cells_of s) (state_of 18 a)
  unfolding good_answer grid_of box cells_of
  bounds rest e =
      let x = none_found (grid_of s).cells BadFlag _ _ e in
      let y = none_found (grid_of s).cells BadLayer _ _ x.1 in
      (none_found (suc (grid_of s).cells) BadState _ _ y.1).0

  each : suc (cells_of s) ≤ bad_rule d3q19 (cells_of s) (state_of 18 a) → (c : ℕ) → c < cells_of s → cell_good d3q19 (state_of 18 a) c ≡ true
  unfolding grid_of box cells_of
  each h c k = cell-good d3q19 (grid_of s) (state_of 18 a) h c k

  pub has-passed : three_answer s a ≡ Done → Passed
  unfolding three_answer
  has-passed e =
      let totals = or_refuse (totals_good (number_in a 1) (number_in a 2)) (BadState (cells_of s)) Done in
      let x = passed (sides_good s) BadSides _ e in
      let y = passed (three_lengths (cells_of s) a) BadLength _ x.1 in
      let z = sound d3q19 (grid_of s) (state_of 18 a) totals y.1 in
      let w = passed (totals_good (number_in a 1) (number_in a 2)) (BadState (cells_of s)) Done z.1 in
      let r = bounds totals y.1 in
      record {
        sides = x.0;
        carry = carry-three y.0;
        sized = head-sized y.0;
        sound-is = z.0;
        rules = r;
        cells = each r;
        poured = and_left (total_good (number_in a 1)) (total_good (number_in a 2)) w.0;
        taken = and_right (total_good (number_in a 1)) (total_good (number_in a 2)) w.0;
      }
