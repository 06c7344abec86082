-- Tests 7 and 8 of a step in any field: refusal 7 at the lowest cell that is unsteady; done where every pass found all fair; else what the scan of the next
-- state answers. Assumes nothing.
use mathlib.Core.Path.{◌≡◌, refl, sym, ap, ◌∙◌, subst}
use mathlib.Core.Bool.{Bool, true, false, ◌&&◌}
use mathlib.Core.List.{List}
use Prim.Native.Nat.{ℕ, suc, ◌≤◌, ◌<◌}
use native.Mathlib.Omega.{arith}
use lib.IntN.{ℤ, pos}
use lib.ListN.{get_or}
use Rattle.whole.specs.laws.Bools.{and_left, and_right}
use Rattle.whole.specs.Fold.{tab, all, first}
use Rattle.whole.specs.laws.Tab.{get_or-tab}
use Rattle.lattice.specs.Lattice.{dot, density, momentum, d3q19}
use Rattle.lattice.specs.Body.{body_good}
use Rattle.lattice.specs.Cell.{part_good, dense, slow}
use Rattle.grid.specs.Answer.{Answer}
use Rattle.grid.specs.Answer.{Done}
use Rattle.grid.specs.State.{State, Scene, liquid}
use Rattle.grid.specs.Step.{streamed_density, unsteady, collided, filled, emptied, beside_filled, beside_emptied, new_flag, new_part, new_mass, new_fill, next}
use Rattle.grid.specs.Good.{bad_rule}
use Rattle.grid.specs.Outcome.{if_none, move_answer}
use Rattle.grid.specs.Demands.{Same}
use Rattle.grid.proofs.Accepted.{skip}
use Rattle.grid.proofs.Accurate.{stays}
use Rattle.grid.proofs.Checks.{stop}
use Rattle.grid.proofs.Dense.{newborn-cases}
use Rattle.grid.proofs.Fair.{Fair, fair-holds}
use Rattle.grid.proofs.Same.{body_same, bad-rule-same}
use Rattle.fills.specs.inner.Filled.{Refilled}
use Rattle.conversion.specs.inner.Turned.{TurnedTo}
use Rattle.conversion.proofs.Amounts.{new-dense}
use Rattle.conversion.proofs.Field.{Field, scene_in, Standing, laid, walled}
use Rattle.step.proofs.Refills.{fills-next, masses-fair}
use Rattle.grid.specs.declared.refusals.Refusal.TheVariants.{BadFlow, BadNext}
use Rattle.std.specs.Prelude.{Err}

module _ (F : Field) (r : Standing F) where
  abbrev S : Scene
  S = scene_in F

  abbrev n : ℕ
  n = F.cells

  abbrev N : ℕ
  N = F.grid.cells

  listed : {c : ℕ} → c < N → c < n
  listed {c} h = subst (λ (k : ℕ). c < k) r.cells_are h

  abbrev last : Answer
  last = if_none (suc N) BadNext (bad_rule S.lat N (next S)) Done

  -- a cell that is unsteady: refusal 7 there
  pub stopped-answer : {c : ℕ} → c < n → first n (unsteady S) ≡ c → Err (BadFlow c) ≡ move_answer S
  unfolding move_answer
  stopped-answer {c} h e = sym (stop N BadFlow (first N (unsteady S)) last (subst (λ (k : ℕ). first k (unsteady S) < k) (sym r.cells_are) (subst (λ (m : ℕ). m < n) (sym e) h)) ∙ ap (λ (p : ℕ). Err (BadFlow p)) found)
    where
      found : first N (unsteady S) ≡ c
      found = ap (λ (k : ℕ). first k (unsteady S)) r.cells_are ∙ e

  module _ (t : n ≤ first n (unsteady S)) where
    steady : N ≤ first N (unsteady S)
    steady = subst (λ (k : ℕ). k ≤ first k (unsteady S)) (sym r.cells_are) t

    dense-now : (c : ℕ) → c < N → liquid (get_or F.flags c 3) ≡ true → dense (streamed_density S c) ≡ true
    dense-now c h l = new-dense F r t c (listed h) l

    module _ {flags2 : List ℕ} {part2 : ℕ → ℕ → ℤ} {masses2 carry2 : List ℤ} {marks : List ℕ} {turned : Bool} (w : TurnedTo S n flags2 part2 masses2 carry2 marks turned)
        {fills2 : List ℕ} {weighed : Bool} (f : Refilled flags2 part2 masses2 fills2 weighed) where
      pub fills-are : fills2 ≡ tab n (new_fill S)
      fills-are = fills-next F r t w.flags-are w.part-is w.masses-are f

      -- ---- test 8 where all was found fair
      module _ (body : (c : ℕ) → c < n → liquid (get_or F.flags c 3) ≡ true → body_good d3q19 (collided S c) ≡ true) (et : turned ≡ true) (ew : weighed ≡ true) where
        bodies : (c : ℕ) → c < N → liquid (new_flag S c) ≡ true → body_good d3q19 (new_part S c) ≡ true
        unfolding new_flag
        bodies c h l = go (liquid (get_or F.flags c 3)) refl
          where
            go : (b : Bool) → liquid (get_or F.flags c 3) ≡ b → body_good d3q19 (new_part S c) ≡ true
            go true o = body_same d3q19 (new_part S c) (collided S c) (λ k m. stays S c k (dense-now c h o) o l) ∙ body c (listed h) o
            go false d =
                let k = newborn-cases (get_or F.flags c 3) (beside_filled S c) (filled S c) (emptied S c) (beside_emptied S c) d l in
                w.newborn et c (listed h) k.0 k.1

        fair : Fair S
        unfolding body_good density momentum
        fair = record {
          parts = λ c h l. and_left (sound c) (dense (density d3q19 (new_part S c))) (and_left (sound c && dense (density d3q19 (new_part S c))) (slowly c) (bodies c h l));
          speeds = λ c h l. and_right (sound c && dense (density d3q19 (new_part S c))) (slowly c) (bodies c h l);
          masses = λ c h l. masses-fair F r t w.flags-are w.part-is w.masses-are f ew c (listed h) l;
          carry = w.carry-fair et;
        }
          where
            sound : ℕ → Bool
            sound c = all (suc d3q19.q) (λ k. part_good (new_part S c k))

            slowly : ℕ → Bool
            slowly c = slow (density d3q19 (new_part S c)) (dot (momentum d3q19 (new_part S c)) (momentum d3q19 (new_part S c)))

        pub fair-answer : Done ≡ move_answer S
        unfolding move_answer
        fair-answer =
            sym (skip N BadFlow (first N (unsteady S)) last steady
            ∙ skip (suc N) BadNext (bad_rule S.lat N (next S)) Done (fair-holds S (laid F r) (walled F r) dense-now fair))

      -- ---- test 8 by the scan
      -- the next state, as the passes hold it
      abbrev pub held : State
      held = record { flag = λ c. get_or flags2 c 3; part = part2; mass = λ c. get_or masses2 c (pos 0); fill = λ c. get_or fills2 c 0; carry = get_or carry2 0 (pos 0) }

      same_next : Same 18 n (next S) held
      unfolding next
      same_next = record {
        flags = λ c h. sym (ap (λ (l : List ℕ). get_or l c 3) w.flags-are ∙ get_or-tab n (new_flag S) 3 c h);
        parts = λ c k h l. sym (w.part-is c k h (omega arith));
        masses = λ c h. sym (ap (λ (l : List ℤ). get_or l c (pos 0)) w.masses-are ∙ get_or-tab n (new_mass S) (pos 0) c h);
        fills = λ c h. sym (ap (λ (l : List ℕ). get_or l c 0) fills-are ∙ get_or-tab n (new_fill S) 0 c h);
        carries = sym (ap (λ (l : List ℤ). get_or l 0 (pos 0)) w.carry-is);
      }

      pub judged-answer : {k : ℕ} {answer : Answer} → k ≡ n → answer ≡ if_none (suc k) BadNext (bad_rule S.lat k held) Done → answer ≡ move_answer S
      unfolding move_answer d3q19
      judged-answer e a =
          a ∙ ap (λ (m : ℕ). if_none (suc m) BadNext (bad_rule S.lat m held) Done) e
          ∙ ap (λ (d : ℕ). if_none (suc n) BadNext d Done) (sym (bad-rule-same S.lat n (next S) held same_next))
          ∙ ap (λ (m : ℕ). if_none (suc m) BadNext (bad_rule S.lat m (next S)) Done) (sym r.cells_are)
          ∙ sym (skip N BadFlow (first N (unsteady S)) last steady)
