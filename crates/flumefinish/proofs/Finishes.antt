-- From what each pass of a flume's step leaves to what the next one asks, and from the last one to the outcome's definition. The passes work among the nineteen
-- places, where the flume is a field and every law of a field serves; the bridge reads the outcome from there. Assumes nothing.
use mathlib.Core.Path.{◌≡◌, refl, sym, ap, ◌∙◌, subst}
use mathlib.Core.Bool.{Bool, true, false, ◌&&◌, false≢true}
use mathlib.Core.List.{List, [], ◌∷◌}
use Prim.Native.Nat.{ℕ, suc, ◌+◌, ◌*◌, ◌/◌, ◌%◌, ◌≤◌, ◌<◌}
use native.Mathlib.Nat.{mod-lt, div-add-mod}
use native.Mathlib.Omega.{arith}
use lib.IntN.{ℤ, pos}
use lib.ListN.{length, get_or}
use lib.Seq.{ext_get_or}
use Rattle.whole.specs.laws.Bools.{and_left, and_right}
use Rattle.whole.specs.Fold.{tab, first}
use Rattle.whole.specs.laws.Tab.{length-tab, get_or-tab}
use Rattle.lattice.specs.Lattice.{d3q19, d2q9}
use Rattle.lattice.specs.Body.{body_good}
use Rattle.lattice.specs.declared.Settings.{Settings}
use Rattle.grid.specs.Answer.{Answer}
use Rattle.grid.specs.Answer.{Done}
use Rattle.grid.specs.State.{Lent, lent, Scene, liquid, state_of}
use Rattle.grid.specs.Step.{unsteady, collided, new_flag, new_part, new_mass, new_fill, new_carry}
use Rattle.grid.specs.Good.{bad_rule}
use Rattle.grid.specs.Outcome.{if_none, move_answer}
use Rattle.grid.specs.inner.Passes.{opened_by}
use Rattle.grid.proofs.Listed.{lengths-fit}
use Rattle.passes.specs.inner.Flowed.{MovedTo}
use Rattle.fills.specs.inner.Filled.{Refilled}
use Rattle.conversion.proofs.Field.{Field, scene_in, Sound}
use Rattle.step.proofs.Opened.{open-fluid, open-near}
use Rattle.step.proofs.Refills.{fills-weighty}
use Rattle.step.proofs.Tests
use Rattle.step.proofs.Uncarried
use Rattle.flume.specs.declared.FlumeSides.{FlumeSides}
use Rattle.flume.specs.declared.FlumeSettings.{FlumeSettings}
use Rattle.flume.specs.Flume.{flume_cells, flume_grid, flume_lengths, level_settings}
use Rattle.flume.specs.inner.Offsets.{flume_low, flume_offset}
use Rattle.flume.specs.Outcome.{flume_scene, flume_next}
use Rattle.flume.specs.inner.Spread.{wide, spread_lattice}
use Rattle.flume.proofs.Bridge.{bad-rule-same, spread-of}
use Rattle.flume.proofs.Places.{wide-dir, spread_at}
use Rattle.flume.proofs.Sets.{flume-move, flume-next}
use Rattle.nine.specs.inner.Cells.{part_of9}
use Rattle.flumegrid.specs.inner.Ready.{FlumeSized, FlumeReady, FlumeDried}
use Rattle.flumegrid.proofs.Checks.{sized}
use Rattle.flumegrid.proofs.Poise.{poised}
use Rattle.flumepasses.specs.inner.Flowed.{wide_scene, FlumeFlowable}
use Rattle.flumearrivals.proofs.Nines.{part-at, place-low}
use Rattle.flumefills.specs.inner.Filled.{Fillable9}
use Rattle.flumeconversion.specs.inner.Turned.{FlumeTurning, FlumeTurned}
use Rattle.flumeconversion.proofs.Flumes.{flume_field, flume-scene, flume-sound}
use Rattle.flumefinish.specs.inner.Finished.{FlumeFinishing, FlumeFinished}
use Rattle.grid.specs.declared.refusals.Refusal.TheVariants.{BadFlow, BadNext}
use Rattle.std.specs.Prelude.{Err}

-- nine parts a cell in one list, from the nineteen places
nine-list : (f : ℕ → ℕ → ℤ) (parts : List ℤ) (n : ℕ) → length parts ≡ 9 * n → ((c k : ℕ) → c < n → k < 19 → part_of9 parts c k ≡ f c k)
    → parts ≡ tab (9 * n) (λ m. f (m / 9) (wide (m % 9)))
nine-list f parts n e p =
    ext_get_or (pos 0) parts (tab (9 * n) (λ m. f (m / 9) (wide (m % 9)))) (e ∙ sym (length-tab (9 * n) (λ m. f (m / 9) (wide (m % 9)))))
    (λ m h. at m (subst (λ (l : ℕ). m < l) e h))
  where
    at : (m : ℕ) → m < 9 * n → get_or parts m (pos 0) ≡ get_or (tab (9 * n) (λ m. f (m / 9) (wide (m % 9)))) m (pos 0)
    at m h =
        let r : m % 9 < 9 = mod-lt m (omega arith) in
        let d : 9 * (m / 9) + m % 9 ≡ m = div-add-mod m 9 in
        ap (λ (i : ℕ). get_or parts i (pos 0)) (sym d) ∙ sym (part-at parts (m / 9) (m % 9) r)
        ∙ p (m / 9) (wide (m % 9)) (omega arith) (place-low (m % 9) r) ∙ sym (get_or-tab (9 * n) (λ m. f (m / 9) (wide (m % 9))) (pos 0) m h)

pub next-sized : (s : FlumeSides) (g : FlumeSettings) (a : Lent) → FlumeSized (flume_cells s) (flume_next s g a)
unfolding flume_next flume_lengths
next-sized s g a = sized (flume_cells s) (flume_next s g a) (lengths-fit 8 (flume_cells s) _)

module _ (s : FlumeSides) (g : FlumeSettings) (a : Lent) where
  abbrev n : ℕ
  n = flume_cells s

  -- the field, its scene, and the same without the carry, as pass 1 has it
  abbrev F : Field
  F = flume_field s g a

  abbrev S : Scene
  S = scene_in F

  abbrev U : Scene
  U = wide_scene s (level_settings g) (lent a.flags a.parts a.masses a.fills [])

  -- ---- pass 1
  pub moved-carried : {part : ℕ → ℕ → ℤ} {masses : List ℤ} {marks : List ℕ} {fair calm : Bool} → MovedTo U n part masses marks fair calm → MovedTo S n part masses marks fair calm
  moved-carried m = Uncarried.moved-carried S.lat S.grid S.old.flag S.old.part S.old.mass S.old.fill S.g S.relax (pos 0) S.old.carry m

  fast-carried : unsteady U ≡ unsteady S
  fast-carried = Uncarried.fast-is S.lat S.grid S.old.flag S.old.part S.old.mass S.old.fill S.g S.relax (pos 0) S.old.carry

  module _ (r : FlumeReady s g a) where
    field : Sound F
    field = flume-sound s g a r

    move-is : move_answer S ≡ move_answer (flume_scene s g a)
    move-is = ap move_answer (flume-scene s g a) ∙ flume-move s g a r.sized.flags

    -- a cell that is unsteady: refusal 7 there
    pub stopped-answer : {c : ℕ} → c < n → first n (unsteady U) ≡ c → Err (BadFlow c) ≡ move_answer (flume_scene s g a)
    stopped-answer h e = Tests.stopped-answer F field.stands h (sym (ap (first n) fast-carried) ∙ e) ∙ move-is

    -- after pass 0
    pub flowable : (before : List ℕ) {flags2 : List ℕ} {parts2 masses2 : List ℤ} {marks : List ℕ} → length flags2 ≡ n → FlumeDried s flags2 parts2 → length parts2 ≡ 9 * n → length masses2 ≡ n
        → marks ≡ tab (length a.flags) (opened_by a.flags before (tab 19 (flume_offset s)) (flume_low s))
        → FlumeFlowable s (level_settings g) a.flags a.parts a.masses a.fills flags2 parts2 masses2 marks
    flowable before q d p m e = record {
      poised = poised s g a r;
      level = refl;
      flags-room = q;
      dried = d;
      parts-room = p;
      masses-room = m;
      marks-room = ap length e ∙ length-tab (length a.flags) (opened_by a.flags before (tab 19 (flume_offset s)) (flume_low s)) ∙ r.sized.flags;
      marked-fluid = λ c h l o. open-fluid F field before e c h l o;
      marked = λ c h l o k d.
          subst (λ (b : ℕ). liquid (get_or a.flags b 3) ≡ true) (spread_at c ((flume_grid s).near c) k d.most) (open-near F field before e c h l o (wide k) (wide-dir k d));
    }

    module _ (t : n ≤ first n (unsteady S)) {flags2 : List ℕ} {parts2 masses2 carry2 : List ℤ} {marks : List ℕ} {turned : Bool}
        (w : FlumeTurned s (level_settings g) a flags2 parts2 masses2 carry2 marks turned) where
      count : length flags2 ≡ n
      count = ap length w.turned.flags-are ∙ length-tab n (new_flag S)

      -- after the conversion
      pub fills-asked : Fillable9 flags2 parts2 masses2
      fills-asked = record {
        few = subst (λ (m : ℕ). m ≤ 262144) (sym count) field.stands.few;
        parts-count = w.parts-there ∙ ap (λ (m : ℕ). 9 * m) (sym count);
        masses-count = ap length w.turned.masses-are ∙ length-tab n (new_mass S) ∙ sym count;
        weighty = fills-weighty F field.stands t w.turned.flags-are w.turned.part-is w.turned.masses-are;
      }

      -- after the fills: the next state
      module _ {fills2 : List ℕ} {weighed : Bool} (f : Refilled flags2 (part_of9 parts2) masses2 fills2 weighed) where
        abbrev second : Lent
        second = lent flags2 parts2 masses2 fills2 carry2

        -- the next state of a scene among the nineteen places, as a set of nine parts a cell
        abbrev listed : Scene → Lent
        listed T = lent (tab n (new_flag T)) (tab (9 * n) (λ m. new_part T (m / 9) (wide (m % 9)))) (tab n (new_mass T)) (tab n (new_fill T)) (new_carry T ∷ [])

        fills-are : fills2 ≡ tab n (new_fill S)
        fills-are = Tests.fills-are F field.stands t w.turned f

        parts_are : parts2 ≡ tab (9 * n) (λ m. new_part S (m / 9) (wide (m % 9)))
        parts_are = nine-list (new_part S) parts2 n w.parts-there w.turned.part-is

        pub second-next : second ≡ flume_next s g a
        unfolding flume_scene state_of part_of9
        second-next =
            (λ i. lent (w.turned.flags-are i) (parts_are i) (w.turned.masses-are i) (fills-are i) (w.turned.carry-is i))
            ∙ (λ i. listed (flume-scene s g a i))
            ∙ sym (flume-next s g a r.sized.flags (subst (λ (T : Scene). n ≤ first n (unsteady T)) (flume-scene s g a) t))

        -- test 8 where all was found fair
        pub fair-answer : ((c : ℕ) → c < n → liquid (get_or a.flags c 3) ≡ true → body_good d3q19 (collided S c) ≡ true) → turned ≡ true → weighed ≡ true
            → Done ≡ move_answer (flume_scene s g a)
        fair-answer b u v = Tests.fair-answer F field.stands t w.turned f b u v ∙ move-is

        -- test 8 by the scan of the nine
        scan-is : (m : ℕ) → bad_rule d2q9 m (state_of 8 second) ≡ bad_rule spread_lattice m (Tests.held F field.stands t w.turned f)
        unfolding flume_scene state_of part_of9
        scan-is m = sym (bad-rule-same (state_of 8 second) _ (spread-of (flume_scene s g second)) m)

        pub judged-answer : {m : ℕ} {answer : Answer} → m ≡ n → answer ≡ if_none (suc m) BadNext (bad_rule d2q9 m (state_of 8 second)) Done → answer ≡ move_answer (flume_scene s g a)
        judged-answer {m} e k = Tests.judged-answer F field.stands t w.turned f e (k ∙ ap (λ (d : ℕ). if_none (suc m) BadNext d Done) (scan-is m)) ∙ move-is

-- ---- the functions' contracts, one from the other

pub next-lengths : (s : FlumeSides) (g : FlumeSettings) (a : Lent) {b : Lent} → b ≡ flume_next s g a → FlumeSized (flume_cells s) b
next-lengths s g a e = subst (λ (x : Lent). FlumeSized (flume_cells s) x) (sym e) (next-sized s g a)

module _ {s : FlumeSides} {g : FlumeSettings} {a : Lent} where
  -- finished; h are the settings as the code has them, with gy = 0
  pub turning : {h : Settings} {b : Lent} {marks : List ℕ} {fair calm : Bool} → h ≡ level_settings g → FlumeFinishing s g a b marks fair calm
      → FlumeTurning s h a b.flags b.parts b.masses b.carry marks calm
  turning {h} {b} {marks} {fair} {calm} e f =
      subst (λ (k : Settings). FlumeTurning s k a b.flags b.parts b.masses b.carry marks calm) (sym e)
      (record {
        ready = f.ready;
        level = refl;
        moved = record {
          steady = f.moved.steady;
          part-is = f.moved.part-is;
          masses-are = f.moved.masses-are;
          marks-are = f.moved.marks-are;
          fair-tells = λ e. absurd (false≢true e);
          calm-tells = f.moved.calm-tells;
        };
        flags-room = f.second.flags;
        parts-room = f.second.parts;
        carry-room = f.second.carry;
      })

  pub turned-level : {h : Settings} {flags2 : List ℕ} {parts2 masses2 carry2 : List ℤ} {marks : List ℕ} {turned : Bool} → h ≡ level_settings g
      → FlumeTurned s h a flags2 parts2 masses2 carry2 marks turned → FlumeTurned s (level_settings g) a flags2 parts2 masses2 carry2 marks turned
  turned-level {flags2 = flags2} {parts2 = parts2} {masses2 = masses2} {carry2 = carry2} {marks = marks} {turned = turned} e w =
      subst (λ (k : Settings). FlumeTurned s k a flags2 parts2 masses2 carry2 marks turned) e w

  module _ {b : Lent} {before : List ℕ} {fair calm : Bool} (f : FlumeFinishing s g a b before fair calm) {flags2 : List ℕ} {parts2 masses2 carry2 : List ℤ} {marks : List ℕ} {turned : Bool}
      (w : FlumeTurned s (level_settings g) a flags2 parts2 masses2 carry2 marks turned) where
    pub flags-count : length flags2 ≡ flume_cells s
    flags-count = ap length w.turned.flags-are ∙ length-tab (flume_cells s) (new_flag (wide_scene s (level_settings g) a))

    pub filling : Fillable9 flags2 parts2 masses2 × (length b.fills ≡ length flags2)
    filling = (fills-asked s g a f.ready f.moved.steady w, f.second.fills ∙ sym flags-count)

    module _ {fills2 : List ℕ} {weighed : Bool} (r : Refilled flags2 (part_of9 parts2) masses2 fills2 weighed) where
      abbrev set : Lent
      set = lent flags2 parts2 masses2 fills2 carry2

      pub set_next : set ≡ flume_next s g a
      set_next = second-next s g a f.ready f.moved.steady w r

      pub set-lengths : FlumeSized (length flags2) set
      set-lengths = subst (λ (n : ℕ). FlumeSized n set) (sym flags-count) (next-lengths s g a set_next)

      pub finished-fair : (fair && turned && weighed) ≡ true → FlumeFinished s g a Done set marks
      finished-fair e =
          let u = and_left (fair && turned) weighed e in
          record {
            answer-is = fair-answer s g a f.ready f.moved.steady w r (f.moved.fair-tells (and_left fair turned u)) (and_right fair turned u) (and_right (fair && turned) weighed e);
            second_is = set_next;
            marks-are = w.turned.marks-are;
          }

      pub finished-judged : {answer : Answer} → answer ≡ if_none (suc (length flags2)) BadNext (bad_rule d2q9 (length flags2) (state_of 8 set)) Done → FlumeFinished s g a answer set marks
      finished-judged e = record { answer-is = judged-answer s g a f.ready f.moved.steady w r flags-count e; second_is = set_next; marks-are = w.turned.marks-are }
