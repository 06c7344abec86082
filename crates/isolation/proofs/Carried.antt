-- (d) Whatever the grid of a scheme reaches by accepted steps, pours, takes and runs has flag 3 exactly at the map's walls, so part and join give a scheme
-- of the same map: the parted scheme passes its tests, and joined again it is the state itself. The idea: a step makes no wall and keeps each, an act
-- changes no flag; all else is what demand 3 already says of the joined grid. Assumes nothing.
use mathlib.Core.Path.{◌≡◌, refl, sym, ap, ◌∙◌, subst}
use mathlib.Core.Bool.{Bool, true, false, cond}
use mathlib.Core.List.{List, [], ◌∷◌}
use Prim.Native.Nat.{ℕ, zero, suc, ◌≤◌, ◌<◌}
use native.Mathlib.Omega.{arith}
use lib.IntN.{ℤ, pos}
use lib.ListN.{length, get_or}
use Rattle.whole.specs.laws.Tab.{get_or-tab}
use Rattle.lattice.specs.declared.Settings.{Settings}
use Rattle.grid.specs.declared.Sides.{Sides}
use Rattle.grid.specs.Answer.{Answer}
use Rattle.grid.specs.Answer.{Done}
use Rattle.grid.specs.Grid.{cells_of, sides_good, grid_of, box}
use Rattle.grid.specs.State.{Lent, lent, Scene, state_of, lent_of}
use Rattle.grid.specs.Step.{new_flag, flag_after, beside_filled, filled, emptied, beside_emptied, next}
use Rattle.grid.specs.Outcome.{accepted, by_answer, lengths_good, check_answer, scene_of, step_answer, next_of, step_second, ran, run_entry, run_first, open-outcome}
use Rattle.grid.specs.Ground.{box_ground}
use Rattle.grid.specs.Demands.{Reached}
use Rattle.grid.specs.Demands as base
use Rattle.grid.proofs.Accepted.{passed}
use Rattle.grid.proofs.Arrived.{arrived-holds}
use Rattle.grid.proofs.Closed.{wall-stays}
use Rattle.grid.proofs.Conserved.{conserved-holds}
use Rattle.grid.proofs.Prepared.{sized}
use Rattle.pumps.specs.Three.{head_of, three_answer}
use Rattle.pumps.specs.Acts.{act_set}
use Rattle.pumps.specs.Demands.{totalled, Lived, start, acted, stepped}
use Rattle.pumps.proofs.Base.{base-accepts}
use Rattle.pumps.proofs.Checked.{carry-three, has-passed}
use Rattle.pumps.proofs.Living.{lived-holds}
use Rattle.schemes.specs.Scheme.{joined, parted}
use Rattle.schemes.proofs.Tests.{Scheme, tells, passes, other-own}
use Rattle.isolation.specs.Deeds.{base_of}
use Rattle.isolation.specs.Claims.{Walls, Rejoins, Carried, CarriedByRun}
use Rattle.isolation.proofs.Parted.{grid-checked, grid-walls, three-tells, again, own-two, parted-scheme}
use Rattle.grid.specs.declared.refusals.Refusal.TheVariants.{BadLength, BadSides}
use Rattle.std.specs.Prelude.{Ok, Err}

-- ---- steps and acts keep the walls

-- a new flag is 3 only where the old one was no water
three-was : (f : ℕ) (bf fi em be : Bool) → flag_after f bf fi em be ≡ 3 → 3 ≤ f
three-was zero true fi em be e = absurd (omega arith)
three-was zero false fi em be e = absurd (omega arith)
three-was (suc zero) bf true em be e = absurd (omega arith)
three-was (suc zero) bf false true be e = absurd (omega arith)
three-was (suc zero) bf false false be e = absurd (omega arith)
three-was (suc (suc zero)) bf fi em true e = absurd (omega arith)
three-was (suc (suc zero)) bf fi em false e = absurd (omega arith)
three-was (suc (suc (suc n))) bf fi em be e = omega arith

new-three : (S : Scene) (c : ℕ) → new_flag S c ≡ 3 → 3 ≤ S.old.flag c
unfolding new_flag
new-three S c e = three-was (S.old.flag c) (beside_filled S c) (filled S c) (emptied S c) (beside_emptied S c) e

module _ (s : Sides) (map : List ℕ) (b : Lent) (c : ℕ) (k : c < cells_of s) (l : get_or b.flags c 3 < 4) (w : Walls map b c) where
  walls-act : (pour : Bool) (d : ℕ) (amount : ℤ) → Walls map (act_set pour d amount b) c
  unfolding act_set
  walls-act pour d amount = record { wall-three = w.wall-three; three-wall = w.three-wall }

  module _ (g : Settings) (second : Lent) (marks : List ℕ) (e : step_answer s g (head_of b) second marks ≡ Done) where
    abbrev scene : Scene
    scene = scene_of s g (head_of b)

    old-flag : scene.old.flag c ≡ get_or b.flags c 3
    unfolding scene_of state_of
    old-flag = refl

    second_is : step_second s g (head_of b) second marks ≡ next_of s g (head_of b)
    unfolding step_second
    second_is = ap (λ (x : Answer). by_answer x (next_of s g (head_of b)) (head_of b) second) e

    step-flag : get_or (totalled (step_second s g (head_of b) second marks) b).flags c 3 ≡ new_flag scene c
    unfolding next_of lent_of next
    step-flag =
        ap (λ (y : Lent). get_or y.flags c 3) second_is
        ∙ get_or-tab (cells_of s) (new_flag scene) 3 c k

    stays-three : (f : ℕ) → f < 4 → 3 ≤ f → f ≡ 3
    stays-three f u v = omega arith

    walls-step : Walls map (totalled (step_second s g (head_of b) second marks) b) c
    walls-step = record {
      wall-three = λ q. step-flag ∙ wall-stays scene c (old-flag ∙ w.wall-three q);
      three-wall = λ q. w.three-wall (stays-three (get_or b.flags c 3) l (subst (λ (f : ℕ). 3 ≤ f) old-flag (new-three scene c (sym step-flag ∙ q))));
    }

module _ (s : Sides) (map : List ℕ) (a : Lent) (h : Scheme s map a) where
  small : (b : Lent) → Lived s (joined s map a) b → (c : ℕ) → c < cells_of s → get_or b.flags c 3 < 4
  unfolding state_of grid_of box cells_of
  small b r c k = (has-passed s b (lived-holds s (joined s map a) b (grid-checked s map a h) r).still-good).sound-is.flagged c k

  lived-walls : (x : Lent) → Lived s (joined s map a) x → (c : ℕ) → c < cells_of s → Walls map x c
  lived-walls x start c k = grid-walls s map a h c k
  lived-walls x (acted {b = b} r pour d amount e) c k = walls-act s map b c k (small b r c k) (lived-walls b r c k) pour d amount
  lived-walls x (stepped {b = b} r g second marks e) c k = walls-step s map b c k (small b r c k) (lived-walls b r c k) g second marks e

  rejoins : (x : Lent) → Lived s (joined s map a) x → Rejoins s map a x
  rejoins x r =
      let k = lived-holds s (joined s map a) x (grid-checked s map a h) r in
      let w = lived-walls x r in
      record {
        walls = w;
        checked =
            passes s map (parted s x)
            (parted-scheme s map x k.still-good w h.map-size (λ c q. other-own s map a.flags (parted s x).flags c (h.marks c q) (own-two s map x k.still-good w c q)));
        joins-again = again s map x k.still-good w;
        balance-same = k.balance-same;
      }

pub carried-holds : Carried
carried-holds s map a x t r = rejoins s map a (tells s map a true t).0 x r

-- ---- a run is its steps

three_back : (l : List ℤ) → length l ≡ 3 → (get_or l 0 (pos 0) ∷ get_or l 1 (pos 0) ∷ get_or l 2 (pos 0) ∷ []) ≡ l
three_back [] e = absurd (omega arith)
three_back (x ∷ []) e = absurd (omega arith)
three_back (x ∷ y ∷ []) e = absurd (omega arith)
three_back (x ∷ y ∷ z ∷ []) e = refl
three_back (x ∷ y ∷ z ∷ u ∷ l) e = absurd (omega arith)

one-back : (l : List ℤ) → length l ≡ 1 → (get_or l 0 (pos 0) ∷ []) ≡ l
one-back [] e = absurd (omega arith)
one-back (x ∷ []) e = refl
one-back (x ∷ y ∷ l) e = absurd (omega arith)

head-totalled : (y a : Lent) → length y.carry ≡ 1 → head_of (totalled y a) ≡ y
head-totalled y a e = ap (λ (l : List ℤ). lent y.flags y.parts y.masses y.fills l) (one-back y.carry e)

totalled-head : (a : Lent) → length a.carry ≡ 3 → totalled (head_of a) a ≡ a
totalled-head a e = ap (λ (l : List ℤ). lent a.flags a.parts a.masses a.fills l) (go a.carry e)
  where
    go : (l : List ℤ) → length l ≡ 3 → (get_or (head_of (lent [] [] [] [] l)).carry 0 (pos 0) ∷ get_or l 1 (pos 0) ∷ get_or l 2 (pos 0) ∷ []) ≡ l
    go [] e = absurd (omega arith)
    go (x ∷ l) e = three_back (x ∷ l) e

checked-carry : (s : Sides) (y : Lent) → check_answer s y ≡ Done → length y.carry ≡ 1
unfolding check_answer
checked-carry s y e = (sized (cells_of s) y (passed (lengths_good (cells_of s) y) BadLength _ (passed (sides_good s) BadSides _ e).1).0).carry

module _ (s : Sides) (a : Lent) (g : three_answer s a ≡ Done) where
  reached-lived : (y : Lent) → Reached (box_ground s) (head_of a) y → Lived s a (totalled y a)
  unfolding open-outcome
  reached-lived y base.Reached.start = subst (Lived s a) (sym (totalled-head a (carry-three s a (three-tells s a g)))) start
  reached-lived y (base.Reached.then {b = b} r p second marks e) =
      let q : head_of (totalled b a) ≡ b = head-totalled b a (checked-carry s b (conserved-holds s (head_of a) b r (base-accepts s a g)).checked) in
      subst (λ (z : Lent). Lived s a (totalled (step_second s p z second marks) a)) q
      (stepped (reached-lived b r) p second marks (subst (λ (z : Lent). step_answer s p z second marks ≡ Done) (sym q) e))

  run-lived : (steps : ℕ) (p : Settings) (second : Lent) (marks : List ℕ) → Lived s a (totalled (run_first steps s p (head_of a) second marks) a)
  unfolding open-outcome
  run-lived steps p second marks = go (run_entry steps s p (head_of a) second marks) refl
    where
      go : (x : Answer) → run_entry steps s p (head_of a) second marks ≡ x
          → Lived s a (totalled (cond (accepted (run_entry steps s p (head_of a) second marks)) (ran s p marks steps (head_of a)).reached (head_of a)) a)
      go (Ok _) e = reached-lived _ (arrived-holds steps s p (head_of a) second marks e).first
      go (Err refusal) e =
          subst (λ (x : Answer). Lived s a (totalled (cond (accepted x) (ran s p marks steps (head_of a)).reached (head_of a)) a)) (sym e) (reached-lived (head_of a) base.Reached.start)

pub run-carried : CarriedByRun
run-carried s map a steps g second marks t =
    let h = (tells s map a true t).0 in
    rejoins s map a h (totalled (run_first steps s g (base_of s map a) second marks) (joined s map a)) (run-lived s (joined s map a) (grid-checked s map a h) steps g second marks)
