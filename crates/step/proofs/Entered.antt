-- A step on any ground, by what tests 1 to 6 answered: what they refuse the step refuses, writing nothing; what they let pass is as tests 7 and 8 have it.
-- Assumes nothing.
use mathlib.Core.Path.{◌≡◌, refl, sym, ap, ◌∙◌, subst}
use mathlib.Core.Bool.{Bool, true, false, ◌&&◌, cond, true≢false}
use mathlib.Core.List.{List}
use Prim.Native.Nat.{ℕ, suc, ◌≤◌}
use native.Mathlib.Omega.{arith}
use lib.Dec.{eqb, leb}
use lib.ListN.{length, replicate}
use borrow.Author.Tests.{ne_eqb}
use Rattle.whole.specs.Fold.{first}
use Rattle.lattice.specs.declared.Settings.{Settings}
use Rattle.grid.specs.Answer.{Answer, Done, late}
use Rattle.grid.specs.State.{Lent}
use Rattle.grid.specs.Step.{unsteady, next}
use Rattle.grid.specs.Good.{bad_flag, bad_fluid, bad_rule}
use Rattle.grid.specs.Outcome.{accepted, or_refuse, good_answer, move_answer, settings_good, by_answer}
use Rattle.grid.specs.Ground.{Ground, lengths_on, state_on, scene_on, entry_on, step_on, next_on, second_on, marks_on}
use Rattle.grid.proofs.Accepted.{passed}
use Rattle.grid.proofs.Conserved.{good-any-on}
use Rattle.grid.specs.declared.refusals.Refusal.TheVariants.{BadFlag, BadFlow, BadLayer, BadLength, BadNext, BadSetting, BadSides, BadState}
use Rattle.std.specs.Prelude.{Ok, Err}
use Rattle.grid.specs.declared.refusals.Refusal.{Refusal}

-- ---- a chain of tests that refuses does so whatever comes after it

late_in : Answer → Bool
late_in (Ok _) = false
late_in (Err refusal) = late refusal

Early : Answer → Answer → Type 0
Early x y = (refusal : Refusal) → x ≡ Err refusal → (y ≡ Err refusal) × (late refusal ≡ false)

early-test : (b : Bool) (here : Refusal) (x y : Answer) → late here ≡ false → Early x y → Early (or_refuse b here x) (or_refuse b here y)
unfolding Early late_in
early-test true here x y h r refusal e = r refusal e
early-test false here x y h r refusal e = (e, sym (ap late_in e) ∙ h)

early-done : (y : Answer) → Early Done y
unfolding Early
early-done y refusal e = absurd (true≢false (ap accepted e))

-- 7 and 8 alone write
untouched {ℓ} : {A : Type ℓ} (refusal : Refusal) (x y z : A) → late refusal ≡ false → by_answer (Err refusal) x y z ≡ z
untouched refusal x y z h = ap (λ (b : Bool). cond b y z) h

module _ (G : Ground) (g : Settings) (a b : Lent) (marks : List ℕ) where
  -- the step's own outcome
  pub record SteppedOn (answer : Answer) (second : Lent) (after : List ℕ) : Type 0 where
    pub answer-is : answer ≡ step_on G g a b marks
    pub second_is : second ≡ second_on G g a b marks
    pub marks-are : after ≡ marks_on G g a b marks

  early-good : (rest : Answer) → Early (good_answer G.lat G.grid (state_on G a) Done) (good_answer G.lat G.grid (state_on G a) rest)
  unfolding good_answer
  early-good rest =
      early-test (leb G.grid.cells (bad_flag G.grid (state_on G a).flag)) (BadFlag _) _ _ refl
      (early-test (leb G.grid.cells (bad_fluid G.lat.q G.grid (state_on G a).flag)) (BadLayer _) _ _ refl
      (early-test (leb (suc G.grid.cells) (bad_rule G.lat G.grid.cells (state_on G a))) (BadState _) _ _ refl (early-done rest)))

  abbrev lengths : Bool
  lengths = lengths_on G a && lengths_on G b && eqb (length marks) G.cells

  early-entry : (rest : Answer) → Early (entry_on G g a b marks Done) (entry_on G g a b marks rest)
  early-entry rest =
      early-test G.fits BadSides _ _ refl (early-test lengths BadLength _ _ refl (early-test (settings_good g) (BadSetting 0) _ _ refl (early-good rest)))

  -- a step that one of them refuses
  pub refused-on : {refusal : Refusal} → Err refusal ≡ entry_on G g a b marks Done → SteppedOn (Err refusal) b marks
  unfolding Early
  refused-on {refusal} e =
      let r = early-entry (move_answer (scene_on G g a)) refusal (sym e) in
      record {
        answer-is = sym r.0;
        second_is = sym (ap (λ (x : Answer). by_answer x (next_on G g a) a b) r.0 ∙ untouched refusal (next_on G g a) a b r.1);
        marks-are = sym (ap (λ (x : Answer). by_answer x (replicate G.cells 0) (replicate G.cells 0) marks) r.0
            ∙ untouched refusal (replicate G.cells 0) (replicate G.cells 0) marks r.1);
      }

  -- ---- a step that passes them
  module _ (e : entry_on G g a b marks Done ≡ Done) where
    sides : (G.fits ≡ true) × (or_refuse lengths BadLength (or_refuse (settings_good g) (BadSetting 0) (good_answer G.lat G.grid (state_on G a) Done)) ≡ Done)
    sides = passed G.fits BadSides _ e

    sizes : (lengths ≡ true) × (or_refuse (settings_good g) (BadSetting 0) (good_answer G.lat G.grid (state_on G a) Done) ≡ Done)
    sizes = passed lengths BadLength _ sides.1

    settings : (settings_good g ≡ true) × (good_answer G.lat G.grid (state_on G a) Done ≡ Done)
    settings = passed (settings_good g) (BadSetting 0) _ sizes.1

    pub entry-any : (rest : Answer) → entry_on G g a b marks rest ≡ rest
    entry-any rest =
        ap (λ (t : Bool). or_refuse t BadSides (or_refuse lengths BadLength (or_refuse (settings_good g) (BadSetting 0) (good_answer G.lat G.grid (state_on G a) rest)))) sides.0
        ∙ ap (λ (t : Bool). or_refuse t BadLength (or_refuse (settings_good g) (BadSetting 0) (good_answer G.lat G.grid (state_on G a) rest))) sizes.0
        ∙ ap (λ (t : Bool). or_refuse t (BadSetting 0) (good_answer G.lat G.grid (state_on G a) rest)) settings.0
        ∙ good-any-on G.lat G.grid (state_on G a) rest settings.1

    -- tests 7 and 8 answer with no other number
    move-by {ℓ} : {A : Type ℓ} (x y z : A) → by_answer (move_answer (scene_on G g a)) x y z ≡ cond (accepted (move_answer (scene_on G g a))) x y
    unfolding move_answer
    move-by x y z =
        let S = scene_on G g a in
        go (leb S.grid.cells (first S.grid.cells (unsteady S))) (leb (suc S.grid.cells) (bad_rule S.lat S.grid.cells (next S)))
        (first S.grid.cells (unsteady S)) (bad_rule S.lat S.grid.cells (next S))
      where
        go : (t u : Bool) (p q : ℕ) → by_answer (or_refuse t (BadFlow p) (or_refuse u (BadNext q) Done)) x y z ≡ cond (accepted (or_refuse t (BadFlow p) (or_refuse u (BadNext q) Done))) x y
        go true true p q = refl
        go true false p q = refl
        go false u p q = refl

    pub stepped-on : {answer : Answer} {second : Lent} {after : List ℕ} → answer ≡ move_answer (scene_on G g a)
        → second ≡ cond (accepted (move_answer (scene_on G g a))) (next_on G g a) a → after ≡ replicate G.cells 0 → SteppedOn answer second after
    stepped-on u v w =
        let m = entry-any (move_answer (scene_on G g a)) in
        record {
          answer-is = u ∙ sym m;
          second_is = v ∙ sym (move-by (next_on G g a) a b) ∙ sym (ap (λ (x : Answer). by_answer x (next_on G g a) a b) m);
          marks-are = w ∙ sym (same (accepted (move_answer (scene_on G g a)))) ∙ sym (move-by {A = List ℕ} (replicate G.cells 0) (replicate G.cells 0) marks)
              ∙ sym (ap (λ (x : Answer). by_answer x (replicate G.cells 0) (replicate G.cells 0) marks) m);
        }
      where
        same : (t : Bool) → cond {A = List ℕ} t (replicate G.cells 0) (replicate G.cells 0) ≡ replicate G.cells 0
        same true = refl
        same false = refl
