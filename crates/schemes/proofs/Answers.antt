-- The outcomes as the code goes through them: a test that refuses answers, and one that passes lets the next one answer. Assumes nothing.
use mathlib.Core.Path.{◌≡◌, refl, sym, ap, ap₂, ◌∙◌, subst}
use mathlib.Core.Bool.{Bool, true, false, ◌&&◌}
use mathlib.Core.List.{List}
use Prim.Native.Nat.{ℕ, suc, ◌≤◌, ◌<◌}
use native.Mathlib.Omega.{arith}
use lib.Dec.{eqb}
use lib.ListN.{length, get_or}
use borrow.Author.Tests.{eqb-true}
use Rattle.whole.specs.laws.Bools.{and_left, and_right}
use Rattle.whole.specs.Fold.{tab}
use Rattle.grid.specs.declared.Sides.{Sides}
use Rattle.grid.specs.Answer.{Answer}
use Rattle.grid.specs.Answer.{Done}
use Rattle.grid.specs.Grid.{cells_of, sides_good, grid_of}
use Rattle.grid.specs.State.{Lent, state_of, flag_of}
use Rattle.grid.specs.Good.{bad_flag, bad_fluid}
use Rattle.grid.specs.Outcome.{or_refuse, if_none}
use Rattle.grid.proofs.Accepted.{passed, skip}
use Rattle.grid.proofs.Checks.{stop}
use Rattle.pumps.specs.Three.{number_in, totals_good, three_lengths}
use Rattle.pumps.proofs.Checked.{four, head-sized}
use Rattle.pumps.proofs.Checked.{lengths-told as told}
use Rattle.schemes.specs.Scheme.{wall_at, own_at, joined_flag, own_flag, joined_flags, parted_flags, joined, bad_mark, bad_open, bad_own, ruled, tested}
use Rattle.schemes.specs.Outcome.{if_done, join_answer, join_grid, part_answer, part_own}
use Rattle.schemes.specs.Promise.{Joined, Parted}
use Rattle.schemes.specs.inner.Between.{Measured, Marked}
use Rattle.schemes.proofs.Tests.{Scheme, tells}
use Rattle.grid.specs.declared.refusals.Refusal.TheVariants.{BadFlag, BadLayer, BadLength, BadSides, BadState}
use Rattle.std.specs.Prelude.{Err}
use Rattle.grid.specs.declared.refusals.Refusal.{Refusal}

-- ---- tests 4 to 6 of a scheme

module _ (s : Sides) (map : List ℕ) (a : Lent) (m : ℕ) (em : m ≡ bad_mark s map a.flags) where
  abbrev totals : Answer
  totals = or_refuse (totals_good (number_in a 1) (number_in a 2)) (BadState (cells_of s)) Done

  pub stops-at-mark : m < cells_of s → Err (BadFlag m) ≡ ruled s map a
  unfolding ruled
  stops-at-mark h = sym (stop (cells_of s) BadFlag (bad_mark s map a.flags) _ (subst (λ (k : ℕ). k < cells_of s) em h) ∙ ap (λ (p : ℕ). Err (BadFlag p)) (sym em))

  module _ (passed-mark : cells_of s ≤ m) where
    pub marked : Measured s map a.flags → Marked s map a.flags
    marked k = record { measured = k; marks = subst (λ (x : ℕ). cells_of s ≤ x) em passed-mark }

    second : ruled s map a ≡ if_none (cells_of s) BadLayer (bad_open s map a) (if_none (suc (cells_of s)) BadState (bad_own s map a) totals)
    unfolding ruled
    second = skip (cells_of s) BadFlag (bad_mark s map a.flags) _ (subst (λ (x : ℕ). cells_of s ≤ x) em passed-mark)

    open_is : bad_fluid 18 (grid_of s) (flag_of (joined_flags s map a.flags)) ≡ bad_open s map a
    unfolding bad_open joined state_of
    open_is = refl

    module _ (o : ℕ) (eo : o ≡ bad_fluid 18 (grid_of s) (flag_of (joined_flags s map a.flags))) where
      e5 : o ≡ bad_open s map a
      e5 = eo ∙ open_is

      pub stops-at-open : o < cells_of s → Err (BadLayer o) ≡ ruled s map a
      stops-at-open h = sym (second ∙ stop (cells_of s) BadLayer (bad_open s map a) _ (subst (λ (k : ℕ). k < cells_of s) e5 h) ∙ ap (λ (p : ℕ). Err (BadLayer p)) (sym e5))

      module _ (passed-open : cells_of s ≤ o) (b : ℕ) (eb : b ≡ bad_own s map a) where
        third : ruled s map a ≡ if_none (suc (cells_of s)) BadState (bad_own s map a) totals
        third = second ∙ skip (cells_of s) BadLayer (bad_open s map a) _ (subst (λ (x : ℕ). cells_of s ≤ x) e5 passed-open)

        pub stops-at-rule : b ≤ cells_of s → Err (BadState b) ≡ ruled s map a
        stops-at-rule h = sym (third ∙ stop (suc (cells_of s)) BadState (bad_own s map a) totals (subst (λ (k : ℕ). k < suc (cells_of s)) eb (omega arith)) ∙ ap (λ (p : ℕ). Err (BadState p)) (sym eb))

        module _ (passed-rule : cells_of s < b) where
          fourth : ruled s map a ≡ totals
          fourth = third ∙ skip (suc (cells_of s)) BadState (bad_own s map a) totals (subst (λ (k : ℕ). suc (cells_of s) ≤ k) eb passed-rule)

          pub stops-at-totals : {n : ℕ} → n ≡ cells_of s → totals_good (number_in a 1) (number_in a 2) ≡ false → Err (BadState n) ≡ ruled s map a
          stops-at-totals e h = ap (λ (p : ℕ). Err (BadState p)) e ∙ sym (fourth ∙ ap (λ (t : Bool). or_refuse t (BadState (cells_of s)) Done) h)

          pub goes_through : totals_good (number_in a 1) (number_in a 2) ≡ true → Done ≡ ruled s map a
          goes_through h = sym (fourth ∙ ap (λ (t : Bool). or_refuse t (BadState (cells_of s)) Done) h)

-- ---- tests 1 and 2 before them

module _ (s : Sides) (map : List ℕ) (a : Lent) (more : Bool) where
  abbrev pub lengths : Bool
  lengths = three_lengths (cells_of s) a && eqb (length map) (cells_of s) && more

  pub lengths-told : {n : ℕ} {b : Bool} → n ≡ cells_of s → b ≡ (eqb (length a.carry) 3 && four s a n) → (b && eqb (length map) n && more) ≡ lengths
  lengths-told {n} {b} e q = ap₂ (λ (x : Bool) (m : ℕ). x && eqb (length map) m && more) (sym (told s a e q refl)) e

  pub refuses-sides : sides_good s ≡ false → Err BadSides ≡ tested s map a more
  unfolding tested
  refuses-sides e = rw e refl

  module _ (g : sides_good s ≡ true) where
    pub refuses-lengths : lengths ≡ false → Err BadLength ≡ tested s map a more
    unfolding tested
    refuses-lengths e = rw (g, e) refl

    module _ (l : lengths ≡ true) where
      pub then-ruled : ruled s map a ≡ tested s map a more
      unfolding tested
      then-ruled = rw (g, l) refl

      both : (three_lengths (cells_of s) a && eqb (length map) (cells_of s)) ≡ true
      both = and_left (three_lengths (cells_of s) a && eqb (length map) (cells_of s)) more l

      pub set-sized : three_lengths (cells_of s) a ≡ true
      set-sized = and_left (three_lengths (cells_of s) a) (eqb (length map) (cells_of s)) both

      pub measured : Measured s map a.flags
      measured = record {
        sides = g;
        map-size = eqb-true (length map) (cells_of s) (and_right (three_lengths (cells_of s) a) (eqb (length map) (cells_of s)) both);
        own-size = (head-sized s a set-sized).flags;
      }

-- ---- join

-- the code's length test of the grid's room, by the map's length, is the definition's
pub more-told : (s : Sides) (map : List ℕ) (a : Lent) (grid : List ℕ) → tested s map a (eqb (length grid) (length map)) ≡ join_answer s map a grid
unfolding join_answer tested
more-told s map a grid = ap (λ (b : Bool). or_refuse (sides_good s) BadSides (or_refuse b BadLength (ruled s map a))) (go (three_lengths (cells_of s) a) (eqb (length map) (cells_of s)) refl)
  where
    go : (x y : Bool) → eqb (length map) (cells_of s) ≡ y → (x && y && eqb (length grid) (length map)) ≡ (x && y && eqb (length grid) (cells_of s))
    go false y e = refl
    go true true e = ap (λ (n : ℕ). eqb (length grid) n) (eqb-true (length map) (cells_of s) e)
    go true false e = refl

module _ (s : Sides) (map : List ℕ) (a : Lent) (grid : List ℕ) where
  pub join-refused : {refusal : Refusal} → Err refusal ≡ tested s map a (eqb (length grid) (length map)) → Joined s map a grid (Err refusal) grid
  unfolding join_grid
  join-refused e =
      let q = e ∙ more-told s map a grid in
      record { answer-is = q; grid-is = ap (λ (x : Answer). if_done x (joined_flags s map a.flags) grid) q }

  -- what an accepted test gives
  pub join-scheme : tested s map a (eqb (length grid) (length map)) ≡ Done → Scheme s map a × (length grid ≡ length map)
  join-scheme e = let t = tells s map a (eqb (length grid) (length map)) e in (t.0, eqb-true (length grid) (length map) t.1)

  pub join-done : {after : List ℕ} → tested s map a (eqb (length grid) (length map)) ≡ Done
      → after ≡ tab (length map) (λ c. joined_flag (wall_at map c) (own_at a.flags c)) → Joined s map a grid Done after
  unfolding join_grid joined_flags
  join-done {after} e f =
      let q = sym e ∙ more-told s map a grid in
      record {
        answer-is = q;
        grid-is =
            f ∙ ap (λ (n : ℕ). tab n (λ c. joined_flag (wall_at map c) (own_at a.flags c))) (join-scheme e).0.map-size
            ∙ ap (λ (x : Answer). if_done x (tab (cells_of s) (λ c. joined_flag (wall_at map c) (own_at a.flags c))) grid) q;
      }

-- ---- part

module _ (s : Sides) (grid own : List ℕ) where
  pub part-sides : sides_good s ≡ false → Err BadSides ≡ part_answer s grid own
  unfolding part_answer
  part-sides e = rw e refl

  module _ (g : sides_good s ≡ true) {n : ℕ} (en : n ≡ cells_of s) where
    lengths-are : (b : Bool) → (eqb (length grid) n && eqb (length own) n) ≡ b → (eqb (length grid) (cells_of s) && eqb (length own) (cells_of s)) ≡ b
    lengths-are b e = ap (λ (m : ℕ). eqb (length grid) m && eqb (length own) m) (sym en) ∙ e

    pub part-lengths : (eqb (length grid) n && eqb (length own) n) ≡ false → Err BadLength ≡ part_answer s grid own
    unfolding part_answer
    part-lengths e = rw (g, lengths-are false e) refl

    module _ (l : (eqb (length grid) n && eqb (length own) n) ≡ true) where
      pub part-sized : (length grid ≡ cells_of s) × (length own ≡ cells_of s)
      part-sized = (
        eqb-true (length grid) (cells_of s) (and_left (eqb (length grid) (cells_of s)) (eqb (length own) (cells_of s)) (lengths-are true l)),
        eqb-true (length own) (cells_of s) (and_right (eqb (length grid) (cells_of s)) (eqb (length own) (cells_of s)) (lengths-are true l)),
      )

      pub part-flag : {b : ℕ} → b ≡ bad_flag (grid_of s) (λ c. get_or grid c 3) → b < n → Err (BadFlag b) ≡ part_answer s grid own
      unfolding part_answer
      part-flag {b} e h = rw (g, lengths-are true l) (sym (stop (cells_of s) BadFlag (bad_flag (grid_of s) (flag_of grid)) Done (omega arith) ∙ ap (λ (p : ℕ). Err (BadFlag p)) (sym e)))

      pub part-through : {b : ℕ} → b ≡ bad_flag (grid_of s) (λ c. get_or grid c 3) → n ≤ b → Done ≡ part_answer s grid own
      unfolding part_answer
      part-through {b} e h = rw (g, lengths-are true l) (sym (skip (cells_of s) BadFlag (bad_flag (grid_of s) (flag_of grid)) Done (omega arith)))

  pub part-refused : {refusal : Refusal} → Err refusal ≡ part_answer s grid own → Parted s grid own (Err refusal) own
  unfolding part_own
  part-refused e = record { answer-is = e; own_is = ap (λ (x : Answer). if_done x (parted_flags s grid) own) e }

  pub part-sizes : part_answer s grid own ≡ Done → (length grid ≡ cells_of s) × (length own ≡ cells_of s)
  unfolding part_answer
  part-sizes e =
      let x = passed (sides_good s) BadSides _ e in
      let y = passed (eqb (length grid) (cells_of s) && eqb (length own) (cells_of s)) BadLength _ x.1 in
      (eqb-true _ _ (and_left (eqb (length grid) (cells_of s)) (eqb (length own) (cells_of s)) y.0), eqb-true _ _ (and_right (eqb (length grid) (cells_of s)) (eqb (length own) (cells_of s)) y.0))

  pub part-done : {after : List ℕ} → part_answer s grid own ≡ Done → after ≡ tab (length grid) (λ c. own_flag (get_or grid c 3)) → Parted s grid own Done after
  unfolding part_own parted_flags
  part-done {after} e f = record {
    answer-is = sym e;
    own_is =
        f ∙ ap (λ (n : ℕ). tab n (λ c. own_flag (get_or grid c 3))) (part-sizes e).0
        ∙ ap (λ (x : Answer). if_done x (tab (cells_of s) (λ c. own_flag (get_or grid c 3))) own) (sym e);
  }
