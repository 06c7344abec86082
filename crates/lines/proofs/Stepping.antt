-- A record that the reader accepts is stepped: tests 1 to 6 of the step pass, so that its second set is the next state or, after 7 or 8, the first set again;
-- and the carry told before and after is in its range. Assumes nothing.
use mathlib.Core.Path.{◌≡◌, refl, sym, ap, ◌∙◌, subst}
use mathlib.Core.Bool.{Bool, true, false, ◌&&◌, cond}
use mathlib.Core.List.{List}
use Prim.Native.Nat.{ℕ, suc, ◌*◌, ◌≤◌}
use native.Mathlib.Omega.{arith}
use borrow.Author.Tests.{eq-eqb}
use lib.Dec.{eqb, leb}
use lib.IntN.{pos, ◌+ℤ◌}
use lib.ListN.{length, get_or}
use Rattle.whole.specs.laws.Bools.{and_left, and-true}
use Rattle.whole.specs.Fold.{first}
use Rattle.whole.specs.laws.Tab.{length-tab}
use Rattle.lattice.specs.Lattice.{d3q19}
use Rattle.lattice.specs.Cell.{edge_good, coordinate_good, carry_good}
use Rattle.grid.specs.Answer.{Answer}
use Rattle.grid.specs.Answer.{Done}
use Rattle.grid.specs.Grid.{cells_of, grid_of, box}
use Rattle.grid.specs.State.{Lent, Scene, state_of, lent_of}
use Rattle.grid.specs.Step.{unsteady, next}
use Rattle.grid.specs.Good.{bad_rule}
use Rattle.grid.specs.Demands.{Same}
use Rattle.grid.specs.Outcome.{accepted, or_refuse, by_answer, good_answer, move_answer, lengths_good, settings_good, scene_of, entry_answer, step_answer, next_of, step_second}
use Rattle.grid.proofs.Accepted.{accepted-done, passed, none_found, skip}
use Rattle.grid.proofs.Listed.{same-listed, lengths-listed}
use Rattle.grid.proofs.Same.{bad-rule-same}
use Rattle.record.specs.Layout.{site_good}
use Rattle.record.specs.Reading.{sides_in, settings_in, site_in, carry_in, flags_at, cells_in, flags_in, flag_in, state_in, content_answer}
use Rattle.record.specs.inner.Passes.{Sound}
use Rattle.record.proofs.Answers.{or-pass}
use Rattle.record.proofs.FlagPart.{length-flags}
use Rattle.record.proofs.Rules.{carry-fair}
use Rattle.counts.specs.Counts.{mass_sum, line_with, line_of}
use Rattle.lines.specs.Told.{state_before, step_of, state_after}
use Rattle.counts.specs.inner.Totals.{total_by}
use Rattle.lines.specs.inner.Playing.{line_by}
use Rattle.grid.specs.declared.refusals.Refusal.TheVariants.{BadFlag, BadFlow, BadLayer, BadLength, BadNext, BadSetting, BadSides, BadState}

-- a move is accepted, or refused with 7 or 8
by_tests : (t u : Bool) (p q : ℕ) (x y z : Lent) → by_answer (or_refuse t (BadFlow p) (or_refuse u (BadNext q) Done)) x y z ≡ cond (accepted (or_refuse t (BadFlow p) (or_refuse u (BadNext q) Done))) x y
by_tests true true p q x y z = refl
by_tests true false p q x y z = refl
by_tests false u p q x y z = refl

moved : (S : Scene) (x y z : Lent) → by_answer (move_answer S) x y z ≡ cond (accepted (move_answer S)) x y
unfolding move_answer
moved S x y z =
    let n = S.grid.cells in
    let p = first n (unsteady S) in
    let q = bad_rule S.lat n (next S) in
    by_tests (leb n p) (leb (suc n) q) p q x y z

-- and an accepted one leaves the carry in its range
moved-carry : (S : Scene) → accepted (move_answer S) ≡ true → carry_good (next S).carry ≡ true
unfolding move_answer
moved-carry S e =
    let a = none_found S.grid.cells BadFlow _ _ (accepted-done _ e) in
    let b = none_found (suc S.grid.cells) BadNext _ Done a.1 in
    carry-fair S.lat S.grid.cells (next S) b.0

-- a line's total where the carry is in its range
pub line-is : (a : Lent) → carry_good (get_or a.carry 0 (pos 0)) ≡ true → line_by a ≡ line_of a
unfolding total_by
line-is a e =
    let k = get_or a.carry 0 (pos 0) in
    ap (λ (b : Bool). line_with a.flags (cond b (mass_sum a.masses +ℤ k) (pos 0)) k) e

module _ (r : List ℕ) (k : Sound r) (content : content_answer r ≡ Done) where
  pub flags-all : length (flags_in r) ≡ cells_in r
  flags-all = length-flags r {n = cells_in r} {at = flags_at r} refl refl (omega (arith, k.flags.inside))

  same : Same 18 (cells_in r) (state_in r) (state_of 18 (state_before r))
  unfolding state_of state_in flag_in
  same = let s = same-listed 18 (cells_in r) (state_in r) in record { flags = λ c h. refl; parts = s.parts; masses = s.masses; fills = s.fills; carries = refl }

  pub lengths-pass : lengths_good (cells_in r) (state_before r) ≡ true
  unfolding lengths_good lent_of
  lengths-pass =
      let n = cells_in r in
      let l = lent_of 18 n (state_in r) in
      ap (λ (x : Bool). x && eqb (length l.parts) (19 * n) && eqb (length l.masses) n && eqb (length l.fills) n && true)
      (eq-eqb (length (flags_in r)) n flags-all ∙ sym (eq-eqb (length l.flags) n (length-tab n (state_in r).flag)))
      ∙ lengths-listed n (state_in r)

  -- tests 3 to 6, and the carry
  tests : (site_good (settings_in r) (site_in r) ≡ true) × ((rest : Answer) → good_answer d3q19 (grid_of (sides_in r)) (state_of 18 (state_before r)) rest ≡ rest) × (suc (cells_in r) ≤ bad_rule d3q19 (cells_in r) (state_in r))
  unfolding content_answer good_answer grid_of box cells_in cells_of state_of flag_in d3q19
  tests =
      let n = cells_in r in
      let a = passed (site_good (settings_in r) (site_in r)) (BadSetting 0) _ content in
      let b = none_found n BadLayer _ _ a.1 in
      let d = none_found (suc n) BadState _ _ b.1 in (
        a.0,
        λ rest. skip n BadFlag _ _ k.tested ∙ skip n BadLayer _ _ b.0 ∙ skip (suc n) BadState _ rest (subst (λ (m : ℕ). suc n ≤ m) (bad-rule-same d3q19 n (state_in r) (state_of 18 (state_before r)) same) d.0),
        d.0,
      )

  settings : settings_good (settings_in r) ≡ true
  unfolding site_good
  settings =
      let g = settings_in r in
      let t = site_in r in
      let E = edge_good t.edge in
      let X = coordinate_good t.x in
      let Y = coordinate_good t.y in
      let S = settings_good g in
      and_left S E (and_left (S && E) X (and_left (S && E && X) Y (and_left (S && E && X && Y) (coordinate_good t.z) tests.0)))

  pub before-carry : carry_good (carry_in r) ≡ true
  unfolding state_in
  before-carry = carry-fair d3q19 (cells_in r) (state_in r) tests.2

  entry : (b : Lent) (marks : List ℕ) (rest : Answer) → lengths_good (cells_in r) b ≡ true → length marks ≡ cells_in r
      → entry_answer (sides_in r) (settings_in r) (state_before r) b marks rest ≡ rest
  unfolding entry_answer cells_in
  entry b marks rest lb lm =
      let n = cells_of (sides_in r) in
      or-pass BadSides _ k.sides
      ∙ or-pass BadLength _ (and-true (lengths_good n (state_before r) && lengths_good n b) (eqb (length marks) n) (and-true (lengths_good n (state_before r)) (lengths_good n b) lengths-pass lb) (eq-eqb (length marks) n lm))
      ∙ or-pass (BadSetting 0) _ settings
      ∙ tests.1 rest

  -- so the step goes as the first set alone decides
  abbrev scene : Scene
  scene = scene_of (sides_in r) (settings_in r) (state_before r)

  alone : step_of r ≡ move_answer scene
  unfolding step_of step_answer
  alone = entry (state_before r) (flags_in r) (move_answer scene) lengths-pass flags-all

  module _ (b : Lent) (marks : List ℕ) (lb : lengths_good (cells_in r) b ≡ true) (lm : length marks ≡ cells_in r) where
    pub step_is : step_answer (sides_in r) (settings_in r) (state_before r) b marks ≡ step_of r
    unfolding step_answer
    step_is = entry b marks (move_answer scene) lb lm ∙ sym alone

    pub second_is : step_second (sides_in r) (settings_in r) (state_before r) b marks ≡ state_after r
    unfolding step_second state_after
    second_is =
        let a = state_before r in
        let n = next_of (sides_in r) (settings_in r) a in
        ap (λ (x : Answer). by_answer x n a b) (step_is ∙ alone) ∙ moved scene n a b ∙ ap (λ (x : Answer). cond (accepted x) n a) (sym alone)

  pub after-carry : carry_good (get_or (state_after r).carry 0 (pos 0)) ≡ true
  unfolding state_after next_of lent_of
  after-carry = go (accepted (step_of r)) refl
    where
      go : (t : Bool) → accepted (step_of r) ≡ t → carry_good (get_or (state_after r).carry 0 (pos 0)) ≡ true
      go true e = rw e (moved-carry scene (ap accepted (sym alone) ∙ e))
      go false e = rw e before-carry
