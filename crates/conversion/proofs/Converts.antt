-- The conversion in the box, pass by pass: from a set that is ready with stages 1 to 4 made, what each of passes 2 to 7 asks, and that their outcome is the
-- next state. All of it is the box's instance of the laws of a field. Assumes nothing.
use mathlib.Core.Path.{◌≡◌, refl, sym, ap, ◌∙◌, subst}
use mathlib.Core.Bool.{Bool, true, false, false≢true}
use mathlib.Core.List.{List, [], ◌∷◌}
use Prim.Native.Nat.{ℕ, ◌*◌, ◌/◌, ◌%◌, ◌≤◌, ◌<◌}
use native.Mathlib.Nat.{mod-lt, div-add-mod}
use native.Mathlib.Omega.{arith}
use lib.IntN.{ℤ, pos, ◌+ℤ◌}
use lib.ListN.{length, get_or}
use Rattle.whole.specs.Fold.{tab, first, sum}
use Rattle.whole.specs.laws.Machine.{Within}
use Rattle.whole.specs.laws.Tab.{length-tab, tab-cong}
use Rattle.lattice.specs.Lattice.{d3q19}
use Rattle.lattice.specs.Body.{body_good}
use Rattle.lattice.specs.declared.Settings.{Settings}
use Rattle.grid.specs.declared.Sides.{Sides}
use Rattle.grid.specs.State.{part_of, Lent, Scene, liquid, state_of}
use Rattle.grid.specs.Grid.{cells_of, grid_of, box}
use Rattle.grid.specs.Step.{flag_at, unsteady, new_flag, new_part, new_carry}
use Rattle.grid.specs.Outcome.{scene_of, good_answer}
use Rattle.grid.specs.inner.Between.{Ready, Poised, moved_part, moved_mass, first_mark, settled_mark, born_part}
use Rattle.grid.specs.inner.Halfway.{Moved, Turning, Turned}
use Rattle.grid.specs.inner.Passes.{low_of, offset_of, Flagged, Emptying, Marked, kept_mark, turned_flag}
use Rattle.grid.specs.inner.Sight.{box_sight}
use Rattle.grid.proofs.Accepted.{none_found}
use Rattle.grid.proofs.Beside.{Offsets}
use Rattle.grid.proofs.Blocks.{blocks-all}
use Rattle.grid.proofs.Inside.{inner-amid}
use Rattle.grid.proofs.Listed.{part-at}
use Rattle.grid.proofs.Prepared.{ready-sound, ready-cell, ready-carry}
use Rattle.passes.specs.inner.Flowed.{MovedTo}
use Rattle.conversion.proofs.Marking.{settled-box, turned-box}
use Rattle.flow.proofs.Mirrored.{enclosed}
use Rattle.flow.proofs.Poise.{poised-bodied, liquid-inner}
use Rattle.excess.specs.inner.Gifts.{stray_at}
use Rattle.conversion.specs.inner.Born.{newly_born, later_part, Tested, Fertile, Peopled}
use Rattle.conversion.specs.inner.Turned.{TurnedTo}
use Rattle.conversion.proofs.Field.{Field, field_of, Sound, sound}
use Rattle.conversion.proofs.Given.{Midway, carry-is}
use Rattle.conversion.proofs.Handed.{Listed}
use Rattle.conversion.proofs.Offspring.{tested, fills-good, gravity, flags-there, fed, later-is, newborn-fair}
use Rattle.conversion.proofs.Settled.{emptying, settled-marks, settled-marked, turned-flags}
use Rattle.conversion.proofs.Turns as turns
use Rattle.grid.specs.declared.refusals.Refusal.TheVariants.{BadFlag}

-- tests 4 to 6 passed: test 4's in the form that passes 2 and 3 ask
ready-flagged : (s : Sides) (g : Settings) (a : Lent) → Ready s g a → Flagged s a.flags
unfolding good_answer grid_of box cells_of state_of
ready-flagged s g a r = record { sides = r.sides; count = r.sized.flags; tested = (none_found (grid_of s).cells BadFlag _ _ r.good).0 }

pub ready-poised : (s : Sides) (g : Settings) (a : Lent) → Ready s g a → Poised s g a
unfolding grid_of box cells_of d3q19
ready-poised s g a r = record {
  sides = r.sides;
  settings = r.settings;
  flags = r.sized.flags;
  parts = r.sized.parts;
  masses = r.sized.masses;
  fills = r.sized.fills;
  flagged = (ready-sound s g a r).flagged;
  walled = (ready-sound s g a r).walled;
  closed = (ready-sound s g a r).closed;
  cells = ready-cell s g a r;
}

-- a field like any other
pub ready-field : (s : Sides) (g : Settings) (a : Lent) → Ready s g a → Sound (field_of s g a)
ready-field s g a r = sound s g a (ready-poised s g a r) (ready-carry s g a r)

-- a list of one is its element
pub single : (xs : List ℤ) → length xs ≡ 1 → xs ≡ get_or xs 0 (pos 0) ∷ []
single [] e = absurd (omega arith)
single (x ∷ []) e = refl
single (x ∷ (y ∷ xs)) e = absurd (omega arith)

-- nineteen parts a cell in one list, and as a function
pub moved-parts : {S : Scene} {n : ℕ} {parts masses : List ℤ} {marks : List ℕ} {fair calm : Bool} → Moved S n parts masses marks fair calm → MovedTo S n (part_of parts) masses marks fair calm
moved-parts {S} {n} m = record {
  steady = m.steady;
  part-is = λ c k h l. ap (λ (x : List ℤ). part_of x c k) m.parts_are ∙ part-at 18 n c k h (omega arith) (moved_part S);
  masses-are = m.masses-are;
  marks-are = m.marks-are;
  fair-tells = m.fair-tells;
  calm-tells = m.calm-tells;
}

pub turned-list : {S : Scene} {n : ℕ} {flags : List ℕ} {parts masses carry : List ℤ} {marks : List ℕ} {fair : Bool} → length parts ≡ 19 * n
    → TurnedTo S n flags (part_of parts) masses carry marks fair → Turned S n flags parts masses carry marks fair
turned-list {S} {n} {parts = parts} e t = record {
  flags-are = t.flags-are;
  parts_are = blocks-all (new_part S) parts n e t.part-is;
  masses-are = t.masses-are;
  carry-is = t.carry-is;
  marks-are = t.marks-are;
  newborn = t.newborn;
  carry-fair = t.carry-fair;
}

pub turned-parts : {S : Scene} {n : ℕ} {flags : List ℕ} {parts masses carry : List ℤ} {marks : List ℕ} {fair : Bool}
    → Turned S n flags parts masses carry marks fair → TurnedTo S n flags (part_of parts) masses carry marks fair
turned-parts {S} {n} t = record {
  flags-are = t.flags-are;
  part-is = λ c k h l. ap (λ (x : List ℤ). part_of x c k) t.parts_are ∙ part-at 18 n c k h (omega arith) (new_part S);
  masses-are = t.masses-are;
  carry-is = t.carry-is;
  marks-are = t.marks-are;
  newborn = t.newborn;
  carry-fair = t.carry-fair;
}

-- ---- where nothing converts
module _ (s : Sides) (g : Settings) (a : Lent) (r : Ready s g a) (parts masses : List ℤ) (marks : List ℕ) (fair : Bool)
    (m : Moved (scene_of s g a) (cells_of s) parts masses marks fair true) where
  pub calm-turned : (flags : List ℕ) (carry : List ℤ) → flags ≡ a.flags → carry ≡ a.carry → Turned (scene_of s g a) (cells_of s) flags parts masses carry marks true
  unfolding scene_of state_of
  calm-turned flags carry ef ec =
      turned-list (ap length m.parts_are ∙ length-tab (19 * cells_of s) (λ j. moved_part (scene_of s g a) (j / 19) (j % 19)))
      (turns.calm-turned (field_of s g a) (ready-field s g a r) (moved-parts m) ef (ec ∙ single a.carry r.sized.carry))

-- what the conversion asks, where it is to be made
pub turning-on : (s : Sides) (g : Settings) (a : Lent) (flags : List ℕ) (parts masses carry : List ℤ) (marks : List ℕ) (calm : Bool) (flags' : List ℕ) (carry' : List ℤ)
    → flags' ≡ a.flags → carry' ≡ a.carry → Turning s g a flags parts masses carry marks calm → Turning s g a flags' parts masses carry' marks false
turning-on s g a flags parts masses carry marks calm flags' carry' ef ec t = record {
  ready = t.ready;
  moved = record {
    steady = t.moved.steady;
    parts_are = t.moved.parts_are;
    masses-are = t.moved.masses-are;
    marks-are = t.moved.marks-are;
    fair-tells = t.moved.fair-tells;
    calm-tells = λ e. absurd (false≢true e);
  };
  flags-room = ap length ef ∙ t.ready.sized.flags;
  carry-room = ap length ec ∙ t.ready.sized.carry;
}

-- ---- the conversion
module _ (s : Sides) (g : Settings) (a : Lent) (r : Ready s g a) (steady : cells_of s ≤ first (cells_of s) (unsteady (scene_of s g a))) where
  abbrev S : Scene
  S = scene_of s g a

  abbrev n : ℕ
  n = cells_of s

  abbrev F : Field
  F = field_of s g a

  v : Sound F
  v = ready-field s g a r

  offs : Offsets s (tab 19 (offset_of s)) (low_of s)
  offs = record { table = refl; lowest = refl }

  -- passes 2 and 3
  pub asks-emptying : (marks : List ℕ) → marks ≡ tab n (first_mark S) → Emptying s marks
  unfolding scene_of state_of
  asks-emptying marks e = record { sides = r.sides; count = count; inner = λ c h k. inner-amid offs count ((emptying F v e).inner c h k) }
    where
      count : length marks ≡ cells_of s
      count = ap length e ∙ length-tab n (first_mark S)

  pub marks-settled : (marks after : List ℕ) → marks ≡ tab n (first_mark S) → after ≡ tab n (kept_mark s marks) → after ≡ tab n (settled_mark S)
  unfolding scene_of state_of
  marks-settled marks after e f = settled-marks F v e (f ∙ sym (settled-box offs marks (asks-emptying marks e)))

  pub asks-marked : (marks : List ℕ) → marks ≡ tab n (settled_mark S) → Marked s a.flags marks
  unfolding scene_of state_of
  asks-marked marks e =
      let w = settled-marked F v e in
      record { flagged = ready-flagged s g a r; count = w.count ∙ r.sized.flags; only = λ c h f. w.only c (subst (λ (m : ℕ). c < m) w.count h) f }

  pub flags-turned : (marks flags : List ℕ) → marks ≡ tab n (settled_mark S) → flags ≡ tab n (turned_flag s a.flags marks) → flags ≡ tab n (new_flag S)
  unfolding scene_of state_of
  flags-turned marks flags e f = turned-flags F v e steady (f ∙ sym (turned-box offs a.flags marks (asks-marked marks e)))

  -- pass 4
  pub calm : Tested a.flags a.parts a.fills (tab 19 (offset_of s)) (low_of s) g
  unfolding scene_of state_of grid_of cells_of box
  calm =
      let t = tested F v.stands steady in
      let p = ready-poised s g a r in
      record {
        bodies = poised-bodied s g a (ready-poised s g a r);
        fills-good = fills-good F v.stands;
        gravity = gravity F v.stands;
        around = t.around;
        enclosed = λ c h f.
            let l : c < n = subst (λ (m : ℕ). c < m) r.sized.flags h in
            enclosed offs c (liquid-inner s g a p c l (ap liquid f)) a.flags (λ i d. p.closed c i l d.some (omega (arith, d.most))) f;
        is-dense = t.is-dense;
        is-slow = t.is-slow;
      }

  module _ (flags : List ℕ) (ef : flags ≡ tab n (new_flag S)) where
    pub asks-fertile : Fertile a.flags a.parts a.fills (tab 19 (offset_of s)) (low_of s) g flags
    unfolding scene_of state_of
    asks-fertile = record {
      tested = calm;
      count = flags-there F v.stands flags ef;
      fed = λ c h e. fed F v.stands flags ef c (subst (λ (m : ℕ). c < m) r.sized.flags h) e;
    }

    module _ (before after : List ℤ) (eb : before ≡ tab (19 * n) (λ m. moved_part S (m / 19) (m % 19))) (fair : Bool)
        (peopled : Peopled (box_sight a.flags a.parts [] a.fills (tab 19 (offset_of s)) (low_of s) g) (newly_born a.flags flags) (length a.flags) before after fair) where
      later : ℕ → ℕ → ℤ
      later = later_part (box_sight a.flags a.parts [] a.fills (tab 19 (offset_of s)) (low_of s) g) (newly_born a.flags flags) (part_of before)

      later-at : (c k : ℕ) → c < n → k < 19 → later c k ≡ born_part S c k
      unfolding later scene_of state_of
      later-at c k h l = later-is F v.stands flags ef (part_of before) c k h (ap (λ (x : List ℤ). part_of x c k) eb ∙ part-at 18 n c k h (omega arith) (moved_part S))

      pub parts-born : after ≡ tab (19 * n) (λ m. born_part S (m / 19) (m % 19))
      unfolding later
      parts-born =
          peopled.parts ∙ ap (λ (k : ℕ). tab (19 * k) (λ m. later (m / 19) (m % 19))) r.sized.flags
          ∙ tab-cong (19 * n) (λ m. later (m / 19) (m % 19)) (λ m. born_part S (m / 19) (m % 19)) (pos 0)
          (λ m h. let z : m % 19 < 19 = mod-lt m (omega arith) in let d = div-add-mod m 19 in later-at (m / 19) (m % 19) (omega arith) z)

      pub born-fair : fair ≡ true → (c : ℕ) → c < n → flag_at S c ≡ 0 → new_flag S c ≡ 1 → body_good d3q19 (new_part S c) ≡ true
      unfolding scene_of state_of
      born-fair = newborn-fair F v.stands flags ef peopled.fair-is

    -- passes 5 to 7
    module _ (parts masses : List ℤ) (marks : List ℕ) (ep : parts ≡ tab (19 * n) (λ m. born_part S (m / 19) (m % 19))) (em : masses ≡ tab n (moved_mass S)) (ek : marks ≡ tab n (settled_mark S)) where
      middle : Midway F flags a.fills (part_of parts) masses marks
      unfolding scene_of state_of
      middle = record {
        stands = v.stands;
        steady = steady;
        fills-are = refl;
        flags-are = ef;
        part-is = λ c k h l. ap (λ (x : List ℤ). part_of x c k) ep ∙ part-at 18 n c k h l (born_part S);
        masses-are = em;
        marks-are = ek;
      }

      pub midway : Listed s g a flags a.fills parts masses marks
      midway = record { midway = middle; sides = r.sides; count = ap length ep ∙ length-tab (19 * n) _ }

      pub carry-told : (k z : ℤ) → z ≡ get_or a.carry 0 (pos 0) → k ≡ z +ℤ sum n (stray_at flags (part_of parts) masses marks (tab 19 (offset_of s)) (low_of s)) → k ≡ new_carry S
      unfolding scene_of state_of
      carry-told k z e f =
          f ∙ ap (λ (x : ℤ). x +ℤ sum n (stray_at flags (part_of parts) masses marks (tab 19 (offset_of s)) (low_of s))) e ∙ carry-is middle

  pub carry-within : Within (get_or a.carry 0 (pos 0)) 1000000000000
  carry-within = turns.carry-within F v
