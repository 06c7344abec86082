-- Demand 3 over the step's own outcome: from a set that the check accepts, after any number of accepted steps, settings changed between them if wished.
-- Over any ground with paired directions and neighbours that lead back; the box of document 01 is one. The idea: a step that is answered Done is an
-- accepted step of Reached, since the second set then holds the next state. Assumes nothing.
use mathlib.Core.Path.{◌≡◌, refl, sym, ap, ◌∙◌, subst}
use mathlib.Core.Logic.{◌⊎◌, inl, inr}
use mathlib.Core.Bool.{Bool, true, false, ◌&&◌}
use mathlib.Core.List.{List}
use Prim.Native.Nat.{ℕ, suc, ◌≤◌, ◌<◌}
use native.Mathlib.Omega.{arith}
use lib.IntN.{ℤ, ◌+ℤ◌}
use lib.Dec.{eqb, leb}
use lib.ListN.{length}
use Rattle.whole.specs.laws.Bools.{and_left}
use Rattle.whole.specs.Fold.{first}
use Rattle.lattice.specs.Lattice.{Lattice, d3q19}
use Rattle.lattice.specs.declared.Settings.{Settings}
use Rattle.lattice.proofs.Paired.{Paired, paired19}
use Rattle.grid.specs.declared.Sides.{Sides}
use Rattle.grid.specs.Answer.{Answer, Done, refusal_number}
use Rattle.grid.specs.declared.refusals.Refusal.{Refusal}
use Rattle.grid.specs.Grid.{Grid, cells_of, sides_good, box, grid_of}
use Rattle.grid.specs.State.{Lent, State, Scene, state_of}
use Rattle.grid.specs.Step.{unsteady, next}
use Rattle.grid.specs.Good.{bad_rule}
use Rattle.grid.specs.Outcome.{number_of, or_refuse, if_none, good_answer, move_answer, lengths_good, settings_good, check_answer, by_answer}
use Rattle.grid.specs.Ground.{Ground, ground, box_ground, lengths_on, state_on, check_on, scene_on, entry_on, step_on, next_on, second_on}
use Rattle.grid.specs.Demands.{Closed, water_on, strayed, grid_answer, Reaches, strays, Reached, strayed_on}
use Rattle.grid.specs.Demands as demands
use Rattle.grid.proofs.Box.{grid-laid}
use Rattle.grid.proofs.Laid.{Laid}
use Rattle.grid.proofs.Listed.{same-listed, lengths-fit}
use Rattle.grid.proofs.Accepted.{passed, none_found, skip}
use Rattle.grid.proofs.Reached.{reached-holds}
use Rattle.grid.specs.declared.refusals.Refusal.TheVariants.{BadFlag, BadFlow, BadLayer, BadLength, BadNext, BadSetting, BadSides, BadState}

-- what is claimed of a set b reached from a by r
pub record Holds (G : Ground) (a b : Lent) (r : Reached G a b) : Type 0 where
  -- flags and outer layer are right, and no fluid cell touches an empty one in any direction
  pub checked : check_on G b ≡ Done
  pub closed : Closed G.directions G.grid (state_on G b).flag
  -- no step from it is refused for what it holds
  pub not-refused : (g : Settings) (second : Lent) (marks : List ℕ) (n : ℕ) → 4 ≤ n → n ≤ 6 → number_of (step_on G g b second marks) ≡ n → ⊥
  -- the water, with the carry, is the starting total to the unit
  pub water-same : water_on G b ≡ water_on G a
  -- the carry has changed by exactly the excess of those converted cells that then had no interface cell beside them
  pub carry-is : (state_on G b).carry ≡ (state_on G a).carry +ℤ strayed_on r

abbrev pub Claim : Type 0
Claim =
    (L : Lattice) (G : Grid) (fits : Bool) → Paired L → Laid L G
    → (a b : Lent) (r : Reached (ground L G fits) a b) → check_on (ground L G fits) a ≡ Done → Holds (ground L G fits) a b r

-- of document 01's grid
abbrev pub BoxClaim : Type 0
BoxClaim = (s : Sides) (a b : Lent) (r : Reached (box_ground s) a b) → check_answer s a ≡ Done → Holds (box_ground s) a b r

-- ---- what an accepted check and an accepted step tell
record Checked (G : Ground) (a : Lent) : Type 0 where
  sides : G.fits ≡ true
  lengths : lengths_on G a ≡ true
  good : good_answer G.lat G.grid (state_on G a) Done ≡ Done

checked-tells : (G : Ground) (a : Lent) → check_on G a ≡ Done → Checked G a
checked-tells G a e =
    let x = passed G.fits BadSides _ e in
    let y = passed (lengths_on G a) BadLength _ x.1 in
    record { sides = x.0; lengths = y.0; good = y.1 }

tells-checked : (G : Ground) (a : Lent) → Checked G a → check_on G a ≡ Done
tells-checked G a h =
    ap (λ (b : Bool). or_refuse b BadSides (or_refuse (lengths_on G a) BadLength (good_answer G.lat G.grid (state_on G a) Done))) h.sides
    ∙ ap (λ (b : Bool). or_refuse b BadLength (good_answer G.lat G.grid (state_on G a) Done)) h.lengths ∙ h.good

pub step-tells : (G : Ground) (g : Settings) (a second : Lent) (marks : List ℕ) → step_on G g a second marks ≡ Done
    → grid_answer G.lat G.grid (state_on G a) (scene_on G g a).g (scene_on G g a).relax ≡ Done
unfolding grid_answer
step-tells G g a second marks e =
    let x = passed G.fits BadSides _ e in
    let y = passed (lengths_on G a && lengths_on G second && eqb (length marks) G.cells) BadLength _ x.1 in
    (passed (settings_good g) (BadSetting 0) _ y.1).1

pub second-next : (G : Ground) (g : Settings) (a second : Lent) (marks : List ℕ) → step_on G g a second marks ≡ Done
    → second_on G g a second marks ≡ next_on G g a
second-next G g a second marks e = ap (λ (x : Answer). by_answer x (next_on G g a) a second) e

-- ---- reached by the step's own outcome is reached by accepted steps
module _ (L : Lattice) (M : Grid) (fits : Bool) (a : Lent) where
  abbrev G : Ground
  G = ground L M fits

  unfoldable reaches : {b : Lent} → Reached G a b → Reaches L M (state_on G a) (state_on G b)
  reaches demands.Reached.start = demands.Reaches.start
  reaches (demands.Reached.then {b} r g second marks e) =
      demands.Reaches.then (reaches r) (scene_on G g b).g (scene_on G g b).relax (step-tells G g b second marks e)
      (subst (λ (x : Lent). demands.Same L.q M.cells (next (scene_on G g b)) (state_on G x)) (sym (second-next G g b second marks e)) (same-listed L.q M.cells (next (scene_on G g b))))

  strays-same : {b : Lent} (r : Reached G a b) → strays (reaches r) ≡ strayed_on r
  unfolding reaches
  strays-same demands.Reached.start = refl
  strays-same (demands.Reached.then {b} r g second marks e) = ap (λ (z : ℤ). z +ℤ strayed (scene_on G g b)) (strays-same r)

  -- each set reached is of its exact lengths
  reached-lengths : {b : Lent} (r : Reached G a b) → lengths_on G a ≡ true → lengths_on G b ≡ true
  reached-lengths demands.Reached.start h = h
  reached-lengths (demands.Reached.then {b} r g second marks e) h =
      subst (λ (x : Lent). lengths_on G x ≡ true) (sym (second-next G g b second marks e)) (lengths-fit L.q M.cells (next (scene_on G g b)))

-- ---- a state that passes tests 4 to 6 is not refused by them
pub good-any-on : (L : Lattice) (G : Grid) (s : State) (rest : Answer) → good_answer L G s Done ≡ Done → good_answer L G s rest ≡ rest
unfolding good_answer
good-any-on L G s rest e =
    let x = none_found G.cells BadFlag _ _ e in
    let y = none_found G.cells BadLayer _ _ x.1 in
    let z = none_found (suc G.cells) BadState _ _ y.1 in
    skip G.cells BadFlag _ _ x.0 ∙ skip G.cells BadLayer _ _ y.0 ∙ skip (suc G.cells) BadState _ rest z.0

pub good-any : (s : Sides) (b : Lent) (rest : Answer) → good_answer d3q19 (grid_of s) (state_of 18 b) Done ≡ Done → good_answer d3q19 (grid_of s) (state_of 18 b) rest ≡ rest
good-any s b rest e = good-any-on d3q19 (grid_of s) (state_of 18 b) rest e

-- the number of a chain is one of its tests' or that of its rest
refuse-cases : (b : Bool) (refusal : Refusal) (rest : Answer)
    → (number_of (or_refuse b refusal rest) ≡ refusal_number refusal) ⊎ (number_of (or_refuse b refusal rest) ≡ number_of rest)
refuse-cases true refusal rest = inr refl
refuse-cases false refusal rest = inl refl

move-number : (S : Scene) (n : ℕ) → 4 ≤ n → n ≤ 6 → number_of (move_answer S) ≡ n → ⊥
unfolding move_answer
move-number S n low high e = seven (refuse-cases (leb S.grid.cells a) (BadFlow a) rest)
  where
    a : ℕ
    a = first S.grid.cells (unsteady S)

    b : ℕ
    b = bad_rule S.lat S.grid.cells (next S)

    rest : Answer
    rest = if_none (suc S.grid.cells) BadNext b Done

    eight : number_of (if_none S.grid.cells BadFlow a rest) ≡ number_of rest → (number_of rest ≡ 8) ⊎ (number_of rest ≡ 0) → ⊥
    eight k (inl h) = omega arith
    eight k (inr h) = omega arith

    seven : (number_of (if_none S.grid.cells BadFlow a rest) ≡ 7) ⊎ (number_of (if_none S.grid.cells BadFlow a rest) ≡ number_of rest) → ⊥
    seven (inl h) = omega arith
    seven (inr h) = eight h (refuse-cases (leb (suc S.grid.cells) b) (BadNext b) Done)

step-number : (G : Ground) (g : Settings) (b second : Lent) (marks : List ℕ) → good_answer G.lat G.grid (state_on G b) Done ≡ Done → (n : ℕ) → 4 ≤ n → n ≤ 6
    → number_of (step_on G g b second marks) ≡ n → ⊥
step-number G g b second marks good n low high e = one (refuse-cases G.fits BadSides after_one)
  where
    after-three : Answer
    after-three = good_answer G.lat G.grid (state_on G b) (move_answer (scene_on G g b))

    after_two : Answer
    after_two = or_refuse (settings_good g) (BadSetting 0) after-three

    after_one : Answer
    after_one = or_refuse (lengths_on G b && lengths_on G second && eqb (length marks) G.cells) BadLength after_two

    four : number_of after-three ≡ n → ⊥
    four h = move-number (scene_on G g b) n low high (sym (ap number_of (good-any-on G.lat G.grid (state_on G b) (move_answer (scene_on G g b)) good)) ∙ h)

    three : number_of after_two ≡ n → (number_of after_two ≡ 3) ⊎ (number_of after_two ≡ number_of after-three) → ⊥
    three k (inl h) = omega arith
    three k (inr h) = four (sym h ∙ k)

    two : number_of after_one ≡ n → (number_of after_one ≡ 2) ⊎ (number_of after_one ≡ number_of after_two) → ⊥
    two k (inl h) = omega arith
    two k (inr h) = three (sym h ∙ k) (refuse-cases (settings_good g) (BadSetting 0) after-three)

    one : (number_of (or_refuse G.fits BadSides after_one) ≡ 1) ⊎ (number_of (or_refuse G.fits BadSides after_one) ≡ number_of after_one) → ⊥
    one (inl h) = omega arith
    one (inr h) = two (sym h ∙ e) (refuse-cases (lengths_on G b && lengths_on G second && eqb (length marks) G.cells) BadLength after_two)

pub conserved-on : Claim
conserved-on L M fits p l a b r e =
    let c = checked-tells (ground L M fits) a e in
    let k = reached-holds L M p l (state_of L.q a) (state_of L.q b) (reaches L M fits a r) c.good in
    record {
      checked = tells-checked (ground L M fits) b (record { sides = c.sides; lengths = reached-lengths L M fits a r c.lengths; good = k.good });
      closed = k.closed;
      not-refused = λ g second marks n low high h. step-number (ground L M fits) g b second marks k.good n low high h;
      water-same = k.water-same;
      carry-is = k.carry-is ∙ ap (λ (z : ℤ). (state_of L.q a).carry +ℤ z) (strays-same L M fits a r);
    }

pub conserved-holds : BoxClaim
unfolding check_answer lengths_good grid_of box cells_of d3q19
conserved-holds s a b r e = conserved-on d3q19 (grid_of s) (sides_good s) paired19 (grid-laid s) a b r e

-- a run or a step that passes tests 1 to 6 begins from a set that the check accepts
pub entry-checked : (G : Ground) (g : Settings) (a b : Lent) (marks : List ℕ) → entry_on G g a b marks Done ≡ Done → check_on G a ≡ Done
entry-checked G g a b marks e =
    let x = passed G.fits BadSides _ e in
    let y = passed (lengths_on G a && lengths_on G b && eqb (length marks) G.cells) BadLength _ x.1 in
    let z = passed (settings_good g) (BadSetting 0) _ y.1 in
    let lengths = and_left (lengths_on G a) (lengths_on G b) (and_left (lengths_on G a && lengths_on G b) (eqb (length marks) G.cells) y.0) in
    tells-checked G a (record { sides = x.0; lengths = lengths; good = z.1 })
