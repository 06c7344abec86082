-- From what each pass of the box's step leaves to what the next one asks, and from the last one to the outcome's definition. Assumes nothing.
use mathlib.Core.Path.{◌≡◌, refl, sym, ap, ◌∙◌, subst}
use mathlib.Core.Bool.{Bool, true, false, ◌&&◌, cond, false≢true}
use mathlib.Core.List.{List, []}
use Prim.Native.Nat.{ℕ, suc, ◌*◌, ◌/◌, ◌%◌, ◌≤◌, ◌<◌}
use lib.IntN.{ℤ}
use lib.ListN.{length, get_or, replicate, get_or-replicate, length-replicate}
use Rattle.whole.specs.laws.Bools.{and_left, and_right}
use Rattle.whole.specs.Fold.{tab, first}
use Rattle.whole.specs.laws.Tab.{length-tab}
use Rattle.lattice.specs.Lattice.{d3q19}
use Rattle.lattice.specs.Body.{body_good}
use Rattle.lattice.specs.declared.Settings.{Settings}
use Rattle.grid.specs.declared.Sides.{Sides}
use Rattle.grid.specs.Answer.{Answer}
use Rattle.grid.specs.Answer.{Done}
use Rattle.grid.specs.State.{part_of, Lent, lent, Scene, liquid, state_of, lent_of}
use Rattle.grid.specs.Grid.{cells_of}
use Rattle.grid.specs.Step.{flag_at, unsteady, collided, new_flag, new_part, new_mass, new_fill, next}
use Rattle.grid.specs.Good.{bad_rule}
use Rattle.grid.specs.Outcome.{accepted, if_none, move_answer, scene_of, next_of}
use Rattle.grid.specs.inner.Between.{Sized, Ready, moved_part}
use Rattle.grid.specs.inner.Halfway.{Dried, Alike, Moved, Turning, Turned, Stepping, Resuming, Advanced}
use Rattle.grid.specs.inner.Passes.{low_of, offset_of, opened_by, opened_mark}
use Rattle.grid.proofs.Beside.{Offsets}
use Rattle.grid.proofs.Listed.{same-lent, lengths-listed}
use Rattle.grid.proofs.Prepared.{sized}
use Rattle.passes.specs.declared.passing.Found.{Found}
use Rattle.std.specs.Prelude.{Ok, Err}
use Rattle.passes.specs.inner.Flowed.{Flowable, Went, stopped, through, Flowed}
use Rattle.passes.proofs.Marking.{opened-box}
use Rattle.flow.proofs.Poise.{poised}
use Rattle.passes.proofs.Walked.{moved-list}
use Rattle.fills.specs.inner.Filled.{Fillable, Refilled}
use Rattle.conversion.proofs.Field.{field_of, Sound}
use Rattle.conversion.proofs.Converts.{ready-field, moved-parts, turned-parts}
use Rattle.step.specs.inner.Finished.{Finishing, Finished, Tried}
use Rattle.step.proofs.Opened.{open-fluid, open-near}
use Rattle.step.proofs.Refills.{fills-weighty}
use Rattle.step.proofs.Tests
use Rattle.step.proofs.Uncarried
use Rattle.grid.specs.declared.refusals.Refusal.TheVariants.{BadFlow, BadNext}
use Rattle.grid.specs.declared.refusals.Refusal.{Refusal}

-- ---- two sets of the right lengths are alike
pub alike-sized : {n : ℕ} {a b : Lent} → Sized n a → Sized n b → Alike a b
alike-sized x y = record {
  flags = y.flags ∙ sym x.flags;
  parts = y.parts ∙ sym x.parts;
  masses = y.masses ∙ sym x.masses;
  fills = y.fills ∙ sym x.fills;
  carry = y.carry ∙ sym x.carry;
}

pub next-sized : (s : Sides) (g : Settings) (a : Lent) → Sized (cells_of s) (next_of s g a)
unfolding next_of
next-sized s g a = sized (cells_of s) (next_of s g a) (lengths-listed (cells_of s) (next (scene_of s g a)))

module _ (s : Sides) (g : Settings) (a : Lent) where
  abbrev S : Scene
  S = scene_of s g a

  -- the same with no carry, as pass 1 has it
  abbrev U : Scene
  U = scene_of s g (lent a.flags a.parts a.masses a.fills [])

  -- ---- pass 1
  pub moved-carried : {parts masses : List ℤ} {marks : List ℕ} {fair calm : Bool} → Moved U (cells_of s) parts masses marks fair calm → Moved S (cells_of s) parts masses marks fair calm
  unfolding scene_of state_of
  moved-carried m =
      moved-list (ap length m.parts_are ∙ length-tab (19 * cells_of s) (λ j. moved_part U (j / 19) (j % 19)))
      (Uncarried.moved-carried S.lat S.grid S.old.flag S.old.part S.old.mass S.old.fill S.g S.relax U.old.carry S.old.carry (moved-parts m))

  fast-carried : unsteady U ≡ unsteady S
  unfolding scene_of state_of
  fast-carried = Uncarried.fast-is S.lat S.grid S.old.flag S.old.part S.old.mass S.old.fill S.g S.relax U.old.carry S.old.carry

  module _ (r : Ready s g a) where
    field : Sound (field_of s g a)
    field = ready-field s g a r

    -- a cell that is unsteady: refusal 7 there
    pub stopped-answer : {c : ℕ} → c < cells_of s → first (cells_of s) (unsteady U) ≡ c → Err (BadFlow c) ≡ move_answer S
    unfolding scene_of state_of
    stopped-answer h e = Tests.stopped-answer (field_of s g a) field.stands h (sym (ap (first (cells_of s)) fast-carried) ∙ e)

    -- after pass 0
    pub flowable : (before : List ℕ) {flags2 : List ℕ} {parts2 masses2 : List ℤ} {marks : List ℕ} → length flags2 ≡ cells_of s → Dried flags2 parts2 → length parts2 ≡ 19 * cells_of s → length masses2 ≡ cells_of s → length marks ≡ cells_of s
        → marks ≡ tab (cells_of s) (opened_mark s a.flags before) → Flowable s g a.flags a.parts a.masses a.fills flags2 parts2 masses2 marks
    flowable before f d p m k e = record {
      poised = poised s g a r;
      flags-room = f;
      dried = d;
      parts-room = p;
      masses-room = m;
      marks-room = k;
      marked-fluid = λ c h l o. open-fluid (field_of s g a) field before (opened e) c h l o;
      marked = λ c h l o. open-near (field_of s g a) field before (opened e) c h l o;
    }
      where
        offs : Offsets s (tab 19 (offset_of s)) (low_of s)
        offs = record { table = refl; lowest = refl }

        opened : {marks : List ℕ} → marks ≡ tab (cells_of s) (opened_mark s a.flags before) → marks ≡ tab (length a.flags) (opened_by a.flags before (tab 19 (offset_of s)) (low_of s))
        opened k = k ∙ sym (opened-box offs a.flags before r.sized.flags)

    module _ (t : cells_of s ≤ first (cells_of s) (unsteady S)) {flags2 : List ℕ} {parts2 masses2 carry2 : List ℤ} {marks : List ℕ} {turned : Bool}
        (w : Turned S (cells_of s) flags2 parts2 masses2 carry2 marks turned) where
      -- after the conversion
      pub fills-asked : Fillable flags2 parts2 masses2
      unfolding scene_of state_of
      fills-asked = record {
        few = subst (λ (n : ℕ). n ≤ 262144) (sym count) field.stands.few;
        parts-count = ap length w.parts_are ∙ length-tab (19 * cells_of s) (λ m. new_part S (m / 19) (m % 19)) ∙ ap (λ (n : ℕ). 19 * n) (sym count);
        masses-count = ap length w.masses-are ∙ length-tab (cells_of s) (new_mass S) ∙ sym count;
        weighty = let p = turned-parts w in fills-weighty (field_of s g a) field.stands t p.flags-are p.part-is p.masses-are;
      }
        where
          count : length flags2 ≡ cells_of s
          count = ap length w.flags-are ∙ length-tab (cells_of s) (new_flag S)

      -- after the fills: the next state
      module _ {fills2 : List ℕ} {weighed : Bool} (f : Refilled flags2 (part_of parts2) masses2 fills2 weighed) where
        fills-are : fills2 ≡ tab (cells_of s) (new_fill S)
        unfolding scene_of state_of
        fills-are = Tests.fills-are (field_of s g a) field.stands t (turned-parts w) f

        abbrev second : Lent
        second = lent flags2 parts2 masses2 fills2 carry2

        pub second-next : second ≡ next_of s g a
        unfolding next_of lent_of next
        second-next = same-lent w.flags-are w.parts_are w.masses-are fills-are w.carry-is

        -- test 8 where all was found fair
        pub fair-answer : ((c : ℕ) → c < cells_of s → liquid (flag_at S c) ≡ true → body_good d3q19 (collided S c) ≡ true) → turned ≡ true → weighed ≡ true → Done ≡ move_answer S
        unfolding scene_of state_of
        fair-answer = Tests.fair-answer (field_of s g a) field.stands t (turned-parts w) f

        -- test 8 by the scan
        pub judged-answer : {n : ℕ} {answer : Answer} → n ≡ cells_of s → answer ≡ if_none (suc n) BadNext (bad_rule d3q19 n (state_of 18 second)) Done → answer ≡ move_answer S
        unfolding scene_of state_of
        judged-answer = Tests.judged-answer (field_of s g a) field.stands t (turned-parts w) f

-- ---- the functions' contracts, one from the other

pub next-lengths : (s : Sides) (g : Settings) (a : Lent) {b : Lent} → b ≡ next_of s g a → Sized (cells_of s) b
next-lengths s g a e = subst (λ (x : Lent). Sized (cells_of s) x) (sym e) (next-sized s g a)

pub like-sized : {n : ℕ} {a b : Lent} → Sized n a → Alike a b → Sized n b
like-sized x y = record {
  flags = y.flags ∙ x.flags;
  parts = y.parts ∙ x.parts;
  masses = y.masses ∙ x.masses;
  fills = y.fills ∙ x.fills;
  carry = y.carry ∙ x.carry;
}

-- of a set whose flags are all 1 nothing is asked
pub soiled : {s : Sides} {g : Settings} {a b : Lent} {marks flags : List ℕ} → flags ≡ replicate (length b.flags) 1 → Stepping s g a b marks
    → Resuming s g a (lent flags b.parts b.masses b.fills b.carry) marks
soiled {b = b} {flags = flags} e h = record {
  stepping = record {
    ready = h.ready;
    alike = record { flags = count ∙ h.alike.flags; parts = h.alike.parts; masses = h.alike.masses; fills = h.alike.fills; carry = h.alike.carry };
    marks-room = h.marks-room;
  };
  dried = λ c k i j l. absurd (false≢true (sym l ∙ ap liquid (ap (λ (f : List ℕ). get_or f c 3) e ∙ get_or-replicate (length b.flags) c 1 3 (subst (λ (n : ℕ). c < n) count i))));
}
  where
    count : length flags ≡ length b.flags
    count = ap length e ∙ length-replicate (length b.flags) 1

pub cleared : (n : ℕ) {marks : List ℕ} → marks ≡ replicate n 0 → length marks ≡ n
cleared n e = ap length e ∙ length-replicate n 0

-- what pass 1 answered
went-stopped : {S : Scene} {n c : ℕ} {parts masses : List ℤ} {marks : List ℕ} → Went S n (Err c) parts masses marks → (c < n) × (first n (unsteady S) ≡ c)
went-stopped (stopped h f) = (h, f)

went-through : {S : Scene} {n : ℕ} {found : Found} {parts masses : List ℤ} {marks : List ℕ} → Went S n (Ok found) parts masses marks → Moved S n parts masses marks found.fair found.calm
went-through (through m) = m

module _ {s : Sides} {g : Settings} {a : Lent} where
  pub advanced-lengths : {answer : Answer} {second : Lent} {after : List ℕ} → Ready s g a → Advanced s g a answer second after → Sized (cells_of s) second
  advanced-lengths r d = go (accepted (move_answer (scene_of s g a))) d.second_is
    where
      go : (b : Bool) {x : Lent} → x ≡ cond b (next_of s g a) a → Sized (cells_of s) x
      go true e = next-lengths s g a e
      go false e = subst (λ (y : Lent). Sized (cells_of s) y) (sym e) r.sized

  -- finished
  pub turning : {b : Lent} {marks : List ℕ} {fair calm : Bool} → Finishing s g a b marks fair calm → Turning s g a b.flags b.parts b.masses b.carry marks calm
  turning f = record {
    ready = f.ready;
    moved = record {
      steady = f.moved.steady;
      parts_are = f.moved.parts_are;
      masses-are = f.moved.masses-are;
      marks-are = f.moved.marks-are;
      fair-tells = λ e. absurd (false≢true e);
      calm-tells = f.moved.calm-tells;
    };
    flags-room = f.flags-room;
    carry-room = f.carry-room;
  }

  module _ {b : Lent} {before : List ℕ} {fair calm : Bool} (f : Finishing s g a b before fair calm) {flags2 : List ℕ} {parts2 masses2 carry2 : List ℤ} {marks : List ℕ} {turned : Bool}
      (w : Turned (scene_of s g a) (cells_of s) flags2 parts2 masses2 carry2 marks turned) where
    flags-count : length flags2 ≡ cells_of s
    flags-count = ap length w.flags-are ∙ length-tab (cells_of s) (new_flag (scene_of s g a))

    pub filling : Fillable flags2 parts2 masses2 × (length b.fills ≡ length flags2)
    filling = (fills-asked s g a f.ready f.moved.steady w, f.fills-room ∙ sym flags-count)

    module _ {fills2 : List ℕ} {weighed : Bool} (r : Refilled flags2 (part_of parts2) masses2 fills2 weighed) where
      abbrev set : Lent
      set = lent flags2 parts2 masses2 fills2 carry2

      pub set_next : set ≡ next_of s g a
      set_next = second-next s g a f.ready f.moved.steady w r

      pub set-lengths : Sized (length flags2) set
      set-lengths = subst (λ (n : ℕ). Sized n set) (sym flags-count) (next-lengths s g a set_next)

      pub finished-fair : (fair && turned && weighed) ≡ true → Finished s g a Done set marks
      finished-fair e =
          let u = and_left (fair && turned) weighed e in
          record {
            answer-is = fair-answer s g a f.ready f.moved.steady w r (f.moved.fair-tells (and_left fair turned u)) (and_right fair turned u) (and_right (fair && turned) weighed e);
            second_is = set_next;
            marks-are = w.marks-are;
          }

      pub finished-judged : {answer : Answer} → answer ≡ if_none (suc (length flags2)) BadNext (bad_rule d3q19 (length flags2) (state_of 18 set)) Done → Finished s g a answer set marks
      finished-judged e = record { answer-is = judged-answer s g a f.ready f.moved.steady w r flags-count e; second_is = set_next; marks-are = w.marks-are }

  -- advanced
  module _ {b : Lent} {marks : List ℕ} (f : Stepping s g a b marks) where
    second-sized : Sized (cells_of s) b
    second-sized = like-sized f.ready.sized f.alike

    module _ {parts2 masses2 : List ℤ} {marks2 : List ℕ} where
      pub stopped-tried : {c : ℕ} → Flowed s g a.flags a.parts a.masses a.fills (Err c) parts2 masses2 marks2 → Tried s g a (Err (BadFlow c)) (lent b.flags parts2 masses2 b.fills b.carry) marks2
      stopped-tried w =
          let h = went-stopped w.went in
          record {
            answer-is = stopped-answer s g a f.ready h.0 h.1;
            alike = alike-sized f.ready.sized (record { flags = second-sized.flags; parts = w.parts-kept; masses = w.masses-kept; fills = second-sized.fills; carry = second-sized.carry });
            marks-kept = w.marks-kept;
            second_is = λ k. absurd (false≢true (ap accepted k));
            marks-are = λ k. absurd (false≢true (ap accepted k));
          }

      pub finishing : {found : Found} → Flowed s g a.flags a.parts a.masses a.fills (Ok found) parts2 masses2 marks2 → Finishing s g a (lent b.flags parts2 masses2 b.fills b.carry) marks2 found.fair found.calm
      finishing w = record {
        ready = f.ready;
        moved = moved-carried s g a (went-through w.went);
        flags-room = second-sized.flags;
        fills-room = second-sized.fills;
        carry-room = second-sized.carry;
      }

  pub tried-finished : {answer : Answer} {second : Lent} {after : List ℕ} → Ready s g a → Finished s g a answer second after → Tried s g a answer second after
  tried-finished r f = record {
    answer-is = f.answer-is;
    alike = alike-sized r.sized (next-lengths s g a f.second_is);
    marks-kept = cleared (cells_of s) f.marks-are;
    second_is = λ e. f.second_is;
    marks-are = λ e. f.marks-are;
  }

  -- stepped
  pub refused-advanced : {refusal : Refusal} {answer : Answer} {between second : Lent} {after marks : List ℕ} → answer ≡ Err refusal → Tried s g a answer between after → second ≡ a
      → marks ≡ replicate (length after) 0 → Advanced s g a (Err refusal) second marks
  refused-advanced e t k m = record {
    answer-is = sym e ∙ t.answer-is;
    second_is = k ∙ ap (λ (x : Answer). cond (accepted x) (next_of s g a) a) (sym e ∙ t.answer-is);
    marks-are = m ∙ ap (λ (n : ℕ). replicate n 0) t.marks-kept;
  }

  pub done-advanced : {answer : Answer} {second : Lent} {after : List ℕ} → answer ≡ Done → Tried s g a answer second after → Advanced s g a Done second after
  done-advanced e t = record {
    answer-is = sym e ∙ t.answer-is;
    second_is = t.second_is e ∙ ap (λ (x : Answer). cond (accepted x) (next_of s g a) a) (sym e ∙ t.answer-is);
    marks-are = t.marks-are e;
  }
