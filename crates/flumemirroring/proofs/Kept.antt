-- An accepted mirror of a flume: its second set passes the check, has the first one's carry, is the reflection of which P13 speaks, and mirrored again is the
-- first set; so that a step of it gives reflected water. Each from the crate mirror's theorem. Assumes nothing.
use mathlib.Core.Path.{◌≡◌, refl, sym, ap, ◌∙◌, subst}
use mathlib.Core.Bool.{Bool, true, ◌&&◌}
use mathlib.Core.List.{List, [], ◌∷◌}
use Prim.Native.Nat.{ℕ, ◌*◌}
use native.Mathlib.Omega.{arith}
use borrow.Author.Tests.{eq-eqb}
use lib.IntN.{ℤ, pos}
use lib.ListN.{length, get_or}
use Rattle.whole.specs.laws.Tab.{length-tab}
use Rattle.lattice.specs.Lattice.{d2q9}
use Rattle.grid.specs.Answer.{Answer}
use Rattle.grid.specs.Answer.{Done}
use Rattle.grid.specs.Grid.{flume}
use Rattle.grid.specs.State.{Lent, lent, state_of, lent_of}
use Rattle.grid.specs.Outcome.{good_answer}
use Rattle.grid.proofs.Box.{flume9-laid}
use Rattle.flume.specs.declared.FlumeSides.{FlumeSides}
use Rattle.flume.specs.declared.FlumeSettings.{FlumeSettings}
use Rattle.flume.specs.Flume.{flume_cells, flume_grid, flume_lengths, flume_ground}
use Rattle.flume.specs.Outcome.{flume_check, flume_scene, flume_step, flume_second, open-outcome}
use Rattle.flumegrid.specs.inner.Ready.{FlumeSized}
use Rattle.flumegrid.proofs.Checks.{then-checked}
use Rattle.mirror.specs.Mirror.{Mirror, Reflects, mirrored, mirrored_set}
use Rattle.mirror.specs.Demands.{Calm, Room}
use Rattle.mirror.specs.Flume.{mirror_in, reflect_flume}
use Rattle.mirror.proofs.Flume.{flume-step-mirrors}
use Rattle.mirror.proofs.Cells.{flume9-mirror}
use Rattle.mirror.proofs.Rules.{good-too}
use Rattle.mirror.proofs.Sets.{set-reflects, set_twice}
use Rattle.mirroring.specs.Turned.{turned_set, axes_of}
use Rattle.flumemirroring.specs.Turned.{flume_turned}
use Rattle.flumemirroring.specs.Outcome.{flume_mirror_answer, if_done, flume_mirror_second}
use Rattle.flumemirroring.specs.Demands.{Keeps, StepsAlike}
use Rattle.flumemirroring.proofs.Answers.{accepted}

abbrev pub Claim : Type 0
Claim = (s : FlumeSides) (axis : ℕ) (a b : Lent) → flume_mirror_answer s axis a b ≡ Done → Keeps s axis a b

abbrev pub StepClaim : Type 0
StepClaim = (s : FlumeSides) (axis : ℕ) (a b : Lent) → flume_mirror_answer s axis a b ≡ Done
    → (g : FlumeSettings) (room : Lent) (marks : List ℕ) → flume_step s g a room marks ≡ Done → Calm (flume_scene s g a)
    → (second : Lent) (marks' : List ℕ) → Room (flume_ground s) second marks' → StepsAlike s axis g a b (flume_second s g a room marks) second marks'

one : (l : List ℤ) → length l ≡ 1 → l ≡ get_or l 0 (pos 0) ∷ []
one [] e = absurd (omega arith)
one (x ∷ []) e = refl
one (x ∷ y ∷ l) e = absurd (omega arith)

module _ (s : FlumeSides) (axis : ℕ) where
  abbrev M : Mirror
  M = mirror_in s (axes_of axis)

  abbrev n : ℕ
  n = flume_cells s

  module _ (a : Lent) (z : FlumeSized n a) where
    -- with one total the reflected set is the crate mirror's
    turned-is : flume_turned s axis a ≡ mirrored_set M 8 n a
    unfolding flume_turned turned_set mirrored_set mirrored lent_of state_of
    turned-is = ap (λ (l : List ℤ). lent (mirrored_set M 8 n a).flags (mirrored_set M 8 n a).parts (mirrored_set M 8 n a).masses (mirrored_set M 8 n a).fills l) (one a.carry z.carry)

    carry-too : (mirrored_set M 8 n a).carry ≡ a.carry
    unfolding mirrored_set mirrored lent_of state_of
    carry-too = sym (one a.carry z.carry)

    turned-back : mirrored_set M 8 n (mirrored_set M 8 n a) ≡ a
    unfolding flume_grid flume_cells flume d2q9
    turned-back = set_twice d2q9 (flume_grid s) M (flume9-mirror s.nx s.nz (axes_of axis)) a (record { flags = z.flags; parts = z.parts; masses = z.masses; fills = z.fills; carry = z.carry })

  turned-sized : (a : Lent) → FlumeSized n (mirrored_set M 8 n a)
  unfolding mirrored_set lent_of
  turned-sized a =
      let u = mirrored M (state_of 8 a) in
      record { flags = length-tab n u.flag; parts = length-tab (9 * n) _; masses = length-tab n u.mass; fills = length-tab n u.fill; carry = refl }

  turned-long : (a : Lent) → flume_lengths n (mirrored_set M 8 n a) ≡ true
  unfolding flume_lengths
  turned-long a =
      let z = turned-sized a in
      five (eq-eqb _ _ z.flags) (eq-eqb _ _ z.parts) (eq-eqb _ _ z.masses) (eq-eqb _ _ z.fills) (eq-eqb _ _ z.carry)
    where
      five : {k l m o p : Bool} → k ≡ true → l ≡ true → m ≡ true → o ≡ true → p ≡ true → (k && l && m && o && p) ≡ true
      five u v w x y i = u i && v i && w i && x i && y i

  state-too : (a : Lent) → Reflects M 8 n (state_of 8 a) (state_of 8 (mirrored_set M 8 n a))
  state-too a = set-reflects M 8 n a

  turned-rules : (a : Lent) → good_answer d2q9 (flume_grid s) (state_of 8 a) Done ≡ Done → good_answer d2q9 (flume_grid s) (state_of 8 (mirrored_set M 8 n a)) Done ≡ Done
  unfolding flume_grid flume_cells flume d2q9
  turned-rules a e = good-too d2q9 (flume_grid s) M (flume9-laid s.nx s.nz) (flume9-mirror s.nx s.nz (axes_of axis)) (state_of 8 a) (state_of 8 (mirrored_set M 8 n a)) (state-too a) Done Done e

  -- ---- the call
  second_is : (a b : Lent) → flume_mirror_answer s axis a b ≡ Done → flume_mirror_second s axis a b ≡ mirrored_set M 8 n a
  unfolding flume_mirror_second
  second_is a b e = ap (λ (x : Answer). if_done x (flume_turned s axis a) b) e ∙ turned-is a (accepted s axis a b e).first

pub keeps : Claim
keeps s axis a b e =
    let good = accepted s axis a b e in
    let r = second_is s axis a b e in
    record {
      passes = ap (flume_check s) r ∙ sym (then-checked s (mirrored_set (M s axis) 8 (flume_cells s) a) good.sides (turned-long s axis a)) ∙ turned-rules s axis a good.rules;
      totals = ap (λ (d : Lent). d.carry) r ∙ carry-too s axis a good.first;
      set_is = r;
      reflects = subst (λ (d : Lent). Reflects (M s axis) 8 (flume_cells s) (state_of 8 a) (state_of 8 d)) (sym r) (state-too s axis a);
      back = λ c f. second_is s axis (flume_mirror_second s axis a b) c f ∙ ap (mirrored_set (M s axis) 8 (flume_cells s)) r ∙ turned-back s axis a good.first;
    }

pub steps_alike : StepClaim
unfolding open-outcome
steps_alike s axis a b e g room marks accepted-step calm second marks' fits =
    let m = flume-step-mirrors s (axes_of axis) g a room marks accepted-step calm second marks' fits in
    let r = second_is s axis a b e in
    record {
      accepted = ap (λ (d : Lent). flume_step s (reflect_flume (axes_of axis) g) d second marks') r ∙ m.accepted;
      result = ap (λ (d : Lent). flume_second s (reflect_flume (axes_of axis) g) d second marks') r ∙ m.result;
    }
