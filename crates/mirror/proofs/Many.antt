-- Any number of steps that convert no cell: over any lattice and grid, over the step's own outcome on any ground, and over a run. Assumes nothing.
use mathlib.Core.Path.{◌≡◌, refl, sym, ap, ◌∙◌, subst}
use mathlib.Core.Logic.{◌⊎◌, inl, inr}
use mathlib.Core.Bool.{Bool, true, false, cond, false≢true}
use mathlib.Core.List.{List}
use Prim.Native.Nat.{ℕ, zero, suc, ◌<◌}
use native.Mathlib.Nat.{eq-or-lt_of_le, suc_inj}
use native.Mathlib.Omega.{arith}
use lib.Dec.{leb}
use lib.ListN.{length}
use Rattle.lattice.specs.Lattice.{Lattice, d3q19, d2q9}
use Rattle.lattice.specs.declared.Settings.{Settings}
use Rattle.lattice.proofs.Paired.{Paired, paired19, paired9}
use Rattle.grid.specs.declared.Sides.{Sides}
use Rattle.grid.specs.Answer.{Answer}
use Rattle.grid.specs.Answer.{Done}
use Rattle.grid.specs.Grid.{Grid, grid_of, box, flume, cells_of, sides_good}
use Rattle.grid.specs.State.{Lent, State}
use Rattle.grid.specs.Step.{next}
use Rattle.grid.specs.Outcome.{accepted, move_answer, scene_of, Ran, ran_by, run_answer, run_first, open-outcome}
use Rattle.grid.specs.Ground.{Ground, ground, box_ground, scene_on, step_on, next_on, ran_on, run_entry_on, run_count_on, run_answer_on, run_first_on}
use Rattle.grid.proofs.Laid.{Laid}
use Rattle.grid.proofs.Box.{grid-laid, flume9-laid}
use Rattle.grid.proofs.Accepted.{passed, accepted-done}
use Rattle.grid.proofs.Counted.{after, Counted, counted-on}
use Rattle.mirror.specs.Mirror.{Axes, reflect, Mirror, mirror_of, box_mirror, flume_mirror, Reflection, Reflects, reflect_settings}
use Rattle.mirror.specs.Demands.{Calm, Mode, plain, scene_in, Even, Calms, none, more, count, Follows, Room, reflect_on, Calmly, start, then, steps, RunMirrors}
use Rattle.mirror.proofs.Cells.{grid-mirror, flume9-mirror}
use Rattle.mirror.proofs.Stepped.{mode-holds, plain-even}
use Rattle.mirror.proofs.Outcomes.{mirrors-on, step-too, next-too, entry-too, room_of, lengths-on}
use Rattle.grid.specs.declared.refusals.Refusal.TheVariants.{BadSteps}

-- ---- any lattice and grid, any mode that is even
abbrev pub Following : Type 0
Following = (mode : Mode) (L : Lattice) (G : Grid) (M : Mirror) → Paired L → Laid L G → Reflection L G M → Even mode L G M
    → (s t u : State) → Reflects M L.q G.cells s t → (r : Calms mode L G s u) → Follows mode L G M t u (count r)

pub follows-holds : Following
follows-holds mode L G M paired laid m even s t u same none = record { state = t; way = none; as_many = refl; reflects = same }
follows-holds mode L G M paired laid m even s t v same (more {u} r g p e calm) =
    let f = follows-holds mode L G M paired laid m even s t u same r in
    let k = mode-holds mode L G M paired laid m even u f.state f.reflects g p (λ c. p (M.cell c)) (λ c h o. refl) e calm in
    record {
      state = next (scene_in mode L G f.state (reflect M.axes g) (λ c. p (M.cell c)));
      way = more f.way (reflect M.axes g) (λ c. p (M.cell c)) k.accepted k.calm;
      as_many = ap suc f.as_many;
      reflects = k.result;
    }

-- the flume of D2Q9, in x and in z, in any mode that is even
pub flume-follows : (mode : Mode) (nx nz : ℕ) (a : Axes) → Even mode d2q9 (flume d2q9 nx nz) (flume_mirror a nx nz)
    → (s t u : State) → Reflects (flume_mirror a nx nz) d2q9.q (flume d2q9 nx nz).cells s t → (r : Calms mode d2q9 (flume d2q9 nx nz) s u)
    → Follows mode d2q9 (flume d2q9 nx nz) (flume_mirror a nx nz) t u (count r)
flume-follows mode nx nz a even s t u same r =
    follows-holds mode d2q9 (flume d2q9 nx nz) (flume_mirror a nx nz) paired9 (flume9-laid nx nz) (flume9-mirror nx nz a) even s t u same r

pub flume-plain : (nx nz : ℕ) (a : Axes) → Even plain d2q9 (flume d2q9 nx nz) (flume_mirror a nx nz)
flume-plain nx nz a = plain-even d2q9 (flume d2q9 nx nz) (flume_mirror a nx nz)

-- the box of D3Q19, in x, y and z, in any mode that is even
pub box_follows : (mode : Mode) (s : Sides) (a : Axes) → Even mode d3q19 (grid_of s) (mirror_of s a)
    → (x y z : State) → Reflects (mirror_of s a) d3q19.q (grid_of s).cells x y → (r : Calms mode d3q19 (grid_of s) x z) → Follows mode d3q19 (grid_of s) (mirror_of s a) y z (count r)
box_follows mode s a even x y z same r = follows-holds mode d3q19 (grid_of s) (mirror_of s a) paired19 (grid-laid s) (grid-mirror s a) even x y z same r

pub box-plain : (s : Sides) (a : Axes) → Even plain d3q19 (grid_of s) (mirror_of s a)
box-plain s a = plain-even d3q19 (grid_of s) (mirror_of s a)

-- ---- any ground with a reflection, over the step's own outcome
abbrev pub Claim : Type 0
Claim = (L : Lattice) (K : Grid) (fits : Bool) (M : Mirror) → Paired L → Laid L K → Reflection L K M
    → (a b : Lent) (r : Calmly (ground L K fits) a b)
    → (w : Calmly (ground L K fits) (reflect_on (ground L K fits) M a) (reflect_on (ground L K fits) M b)) × (steps w ≡ steps r)

pub calmly-mirrors : Claim
calmly-mirrors L K fits M paired laid m a b start = (start, refl)
calmly-mirrors L K fits M paired laid m a c (then {b} r g second marks e calm) =
    let G = ground L K fits in
    let w = calmly-mirrors L K fits M paired laid m a b r in
    let k = mirrors-on L K fits M paired laid m g b second marks e calm second marks (room_of G g b second marks (move_answer (scene_on G g b)) e) in
    subst (λ (x : Lent). (w : Calmly G (reflect_on G M a) x) × (steps w ≡ suc (steps r))) k.result
    (then w.0 (reflect_settings M.axes g) second marks k.accepted k.calm, ap suc w.1)

-- ---- a run
abbrev pub Running : Type 0
Running = (L : Lattice) (K : Grid) (fits : Bool) (M : Mirror) → Paired L → Laid L K → Reflection L K M
    → (n : ℕ) (g : Settings) (a b : Lent) (marks : List ℕ) → run_answer_on (ground L K fits) n g a b marks ≡ Done
    → ((j : ℕ) → j < n → Calm (scene_on (ground L K fits) g (after (ground L K fits) g marks j a))) → (second : Lent) (marks' : List ℕ) → Room (ground L K fits) second marks'
    → RunMirrors n (ground L K fits) M (reflect_settings M.axes g) a (run_first_on (ground L K fits) n g a b marks) second marks'

-- of document 01's grid
abbrev pub BoxRunning : Type 0
BoxRunning = (n : ℕ) (s : Sides) (t : Axes) (g : Settings) (a b : Lent) (marks : List ℕ) → run_answer n s g a b marks ≡ Done
    → ((j : ℕ) → j < n → Calm (scene_of s g (after (box_ground s) g marks j a))) → (second : Lent) (marks' : List ℕ) → Room (box_ground s) second marks'
    → RunMirrors n (box_ground s) (mirror_of s t) (reflect_settings t g) a (run_first n s g a b marks) second marks'

module _ (L : Lattice) (K : Grid) (fits : Bool) (M : Mirror) (paired : Paired L) (laid : Laid L K) (m : Reflection L K M)
    (g : Settings) (marks marks' : List ℕ) (long : length marks' ≡ K.cells) where
  abbrev G : Ground
  G = ground L K fits

  abbrev h : Settings
  h = reflect_settings M.axes g

  -- what a run of n calm steps comes to
  abbrev All : ℕ → Lent → Type 0
  All n a =
      (ran_on G g marks n a).count ≡ n → ((j : ℕ) → j < n → Calm (scene_on G g (after G g marks j a)))
      → ran_on G h marks' n (reflect_on G M a) ≡ record { count = n; stop = Done; reached = reflect_on G M (ran_on G g marks n a).reached }

  one_more : (n : ℕ) (a : Lent) (b : Bool) → accepted (step_on G g a a marks) ≡ b → All n (next_on G g a) → All (suc n) a
  unfolding after
  one_more n a false e r p calm = absurd (let k : 0 ≡ suc n = rw (e, ran_by) at p in omega arith)
  one_more n a true e r p calm =
      let k : suc (ran_on G g marks n (next_on G g a)).count ≡ suc n = rw (e, ran_by) at p in
      let done : step_on G g a a marks ≡ Done = accepted-done (step_on G g a a marks) e in
      let too : accepted (step_on G h (reflect_on G M a) (reflect_on G M a) marks') ≡ true =
      ap accepted (step-too L K fits M paired laid m g a a marks done (calm 0 (omega arith)) (reflect_on G M a) marks' (record { second-long = lengths-on L K fits M a; marks-long = long })) in
      rw (e, too, ran_by)
      (ap (λ (x : Ran). record { count = suc x.count; stop = x.stop; reached = x.reached })
      (ap (ran_on G h marks' n) (next-too L K fits M paired laid m g a a marks done (calm 0 (omega arith))) ∙ r (suc_inj k) (λ j l. calm (suc j) (omega arith))))

  all_made : (n : ℕ) (a : Lent) → All n a
  unfolding after
  all_made zero a p calm = refl
  all_made (suc n) a p calm = one_more n a (accepted (step_on G g a a marks)) refl (all_made n (next_on G g a)) p calm

-- a run with no refusal has made all its steps
module _ (G : Ground) (n : ℕ) (g : Settings) (a b : Lent) (marks : List ℕ) where
  entered : run_answer_on G n g a b marks ≡ Done → (run_entry_on G n g a b marks ≡ Done) × ((ran_on G g marks n a).stop ≡ Done)
  entered e = go (run_entry_on G n g a b marks) (ran_on G g marks n a).stop e
    where
      go : (x y : Answer) → cond (accepted x) y x ≡ Done → (x ≡ Done) × (y ≡ Done)
      go x y p = at (accepted x) refl
        where
          at : (b : Bool) → accepted x ≡ b → (x ≡ Done) × (y ≡ Done)
          at true k = (accepted-done x k, rw k at p)
          at false k = absurd (false≢true (sym k ∙ ap accepted (let z : x ≡ Done = rw k at p in z)))

  count-of : run_entry_on G n g a b marks ≡ Done → run_count_on G n g a b marks ≡ (ran_on G g marks n a).count
  count-of e = ap (λ (x : Answer). cond (accepted x) (ran_on G g marks n a).count 0) e

  made : run_entry_on G n g a b marks ≡ Done → run_answer_on G n g a b marks ≡ Done → (ran_on G g marks n a).count ≡ n
  made entry answer = sym (count-of entry) ∙ go (eq-or-lt_of_le k.at_most)
    where
      k : Counted G g marks n a (run_count_on G n g a b marks) (run_answer_on G n g a b marks) (run_first_on G n g a b marks)
      k = counted-on G n g a b marks entry

      go : (run_count_on G n g a b marks ≡ n) ⊎ (run_count_on G n g a b marks < n) → run_count_on G n g a b marks ≡ n
      go (inl p) = p
      go (inr p) = absurd (false≢true (sym (k.stopped p).1 ∙ ap accepted answer))

pub runs_on : Running
runs_on L K fits M paired laid m n g a b marks e calm second marks' room =
    let G = ground L K fits in
    let x = entered G n g a b marks e in
    let y = passed (leb n 1000) BadSteps _ x.0 in
    let z = entry-too L K fits M paired laid m g a b marks Done Done y.1 second marks' room in
    let r = all_made L K fits M paired laid m g marks marks' room.marks-long n a (made G n g a b marks x.0 e) calm in
    let w : run_entry_on G n (reflect_settings M.axes g) (reflect_on G M a) second marks' ≡ Done = rw y.0 z in
    record {
      answer = rw (w, r) refl;
      count = rw (w, r) refl;
      first = rw (w, r, x.0) refl;
      last = rw (w, r, x.0) refl;
    }

pub run-mirrors : BoxRunning
unfolding open-outcome grid_of box cells_of d3q19 mirror_of box_mirror
run-mirrors n s t g a b marks e calm second marks' room =
    runs_on d3q19 (grid_of s) (sides_good s) (mirror_of s t) paired19 (grid-laid s) (grid-mirror s t) n g a b marks e calm second marks' room
