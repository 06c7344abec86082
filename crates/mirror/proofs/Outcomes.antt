-- P13 over the step's own outcome, on any ground with a reflection: where a step is accepted and converts no cell, the step of the reflected set with the
-- reflected settings is accepted, converts none, and its second set is the reflected second set. For document 01's grid and any of its axes. Assumes nothing.
use mathlib.Core.Path.{◌≡◌, sym, ap, ◌∙◌}
use mathlib.Core.Bool.{Bool, true, false, ◌&&◌}
use mathlib.Core.List.{List}
use Prim.Native.Nat.{ℕ, ◌<◌}
use lib.IntN.{ℤ, pos, ◌+ℤ◌}
use lib.Signed.{le_z}
use lib.Dec.{eqb}
use lib.ListN.{length}
use borrow.Author.Tests.{eq-eqb, eqb-true}
use Rattle.whole.specs.laws.Bools.{and_left, and_right}
use Rattle.lattice.specs.Lattice.{Lattice, d3q19}
use Rattle.lattice.specs.Cell.{relaxation_good, gravity_good}
use Rattle.lattice.specs.declared.Settings.{Settings}
use Rattle.lattice.proofs.Paired.{Paired, paired19}
use Rattle.grid.specs.declared.Sides.{Sides}
use Rattle.grid.specs.Answer.{Answer}
use Rattle.grid.specs.Answer.{Done}
use Rattle.grid.specs.Grid.{Grid, cells_of, sides_good, grid_of, box}
use Rattle.grid.specs.State.{Lent, state_of}
use Rattle.grid.specs.Step.{next}
use Rattle.grid.specs.Outcome.{move_answer, lengths_good, settings_good, scene_of, step_answer, step_second, open-outcome}
use Rattle.grid.specs.Ground.{Ground, ground, box_ground, lengths_on, state_on, scene_on, entry_on, step_on, next_on, second_on}
use Rattle.grid.specs.Mode.{pull_of}
use Rattle.grid.specs.Demands.{grid_answer}
use Rattle.grid.proofs.Accepted.{passed, sound}
use Rattle.grid.proofs.Laid.{Laid}
use Rattle.grid.proofs.Box.{grid-laid}
use Rattle.grid.proofs.Listed.{lengths-fit, lengths-listed}
use Rattle.grid.proofs.Conserved.{step-tells, second-next}
use Rattle.mirror.specs.Mirror.{Axes, reflect, Mirror, mirror_of, box_mirror, Reflection, Reflects, mirrored, mirrored_set, reflect_set, reflect_settings}
use Rattle.mirror.specs.Demands.{Calm, Mirrors, Room, reflect_on, StepMirrors}
use Rattle.mirror.proofs.Turned.{turn-square, turn_twice}
use Rattle.mirror.proofs.Cells.{grid-mirror}
use Rattle.mirror.proofs.Rules.{good-too}
use Rattle.mirror.proofs.Sets.{set-reflects, sets-reflect, set_twice, exact}
use Rattle.mirror.proofs.OwnedSteps as owned
use Rattle.mirror.proofs.Stepped.{mirror-holds}
use Rattle.grid.specs.declared.refusals.Refusal.TheVariants.{BadLength, BadSetting, BadSides}

abbrev pub Claim : Type 0
Claim = (L : Lattice) (K : Grid) (fits : Bool) (M : Mirror) → Paired L → Laid L K → Reflection L K M
    → (g : Settings) (a b : Lent) (marks : List ℕ) → step_on (ground L K fits) g a b marks ≡ Done → Calm (scene_on (ground L K fits) g a)
    → (second : Lent) (marks' : List ℕ) → Room (ground L K fits) second marks'
    → StepMirrors (ground L K fits) M (reflect_settings M.axes g) a (second_on (ground L K fits) g a b marks) second marks'

-- of document 01's grid
abbrev pub BoxClaim : Type 0
BoxClaim = (s : Sides) (t : Axes) (g : Settings) (a b : Lent) (marks : List ℕ) → step_answer s g a b marks ≡ Done → Calm (scene_of s g a)
    → (second : Lent) (marks' : List ℕ) → Room (box_ground s) second marks'
    → StepMirrors (box_ground s) (mirror_of s t) (reflect_settings t g) a (step_second s g a b marks) second marks'

-- ---- test 3
pub settings-too : (t : Axes) (g : Settings) → settings_good g ≡ true → settings_good (reflect_settings t g) ≡ true
unfolding settings_good reflect_settings gravity_good
settings-too t g e =
    ap (λ (z : ℤ). relaxation_good g.p && le_z z (pos 1099511))
    (three (turn-square t.x g.gx) (turn-square t.y g.gy) (turn-square t.z g.gz)) ∙ e
  where
    three : {a a' b b' c c' : ℤ} → a ≡ a' → b ≡ b' → c ≡ c' → a +ℤ b +ℤ c ≡ a' +ℤ b' +ℤ c'
    three u v w i = u i +ℤ v i +ℤ w i

-- the set that lends room
pub room_of : (G : Ground) (g : Settings) (a b : Lent) (marks : List ℕ) (rest : Answer) → entry_on G g a b marks rest ≡ Done → Room G b marks
room_of G g a b marks rest e =
    let x = passed G.fits BadSides _ e in
    let y = passed (lengths_on G a && lengths_on G b && eqb (length marks) G.cells) BadLength _ x.1 in
    record {
      second-long = and_right (lengths_on G a) (lengths_on G b) (and_left (lengths_on G a && lengths_on G b) (eqb (length marks) G.cells) y.0);
      marks-long = eqb-true (length marks) G.cells (and_right (lengths_on G a && lengths_on G b) (eqb (length marks) G.cells) y.0);
    }

module _ (L : Lattice) (K : Grid) (fits : Bool) (M : Mirror) where
  abbrev G : Ground
  G = ground L K fits

  abbrev turned : Lent → Lent
  turned a = reflect_on G M a

  pub lengths-on : (a : Lent) → lengths_on G (turned a) ≡ true
  unfolding mirrored_set
  lengths-on a = lengths-fit L.q K.cells (mirrored M (state_of L.q a))

  module _ (paired : Paired L) (laid : Laid L K) (m : Reflection L K M) (g : Settings) (a : Lent) where
    abbrev h : Settings
    h = reflect_settings M.axes g

    -- the reflected set's state is the reflected state
    pub state-too : Reflects M L.q K.cells (state_on G a) (state_on G (turned a))
    state-too = set-reflects M L.q K.cells a

    -- the relaxation goes with its cell
    relax-goes : (c : ℕ) → c < K.cells → K.outer c ≡ false → (scene_on G h (turned a)).relax c ≡ (scene_on G g a).relax (M.cell c)
    unfolding reflect_settings reflect
    relax-goes c l o = owned.relax-goes L K M paired laid m (state_on G a) (state_on G (turned a)) state-too (pull_of g) g.turbulent g.p c l o

    -- ---- tests 1 to 6
    pub entry-too : (b : Lent) (marks : List ℕ) (rest rest' : Answer) → entry_on G g a b marks rest ≡ Done → (second : Lent) (marks' : List ℕ) → Room G second marks'
        → entry_on G h (turned a) second marks' rest' ≡ rest'
    entry-too b marks rest rest' e second marks' room =
        let x = passed fits BadSides _ e in
        let y = passed (lengths_on G a && lengths_on G b && eqb (length marks) K.cells) BadLength _ x.1 in
        let z = passed (settings_good g) (BadSetting 0) _ y.1 in
        rw (x.0, lengths-on a, room.second-long, eq-eqb (length marks') K.cells room.marks-long, settings-too M.axes g z.0)
        (good-too L K M laid m (state_on G a) (state_on G (turned a)) state-too rest rest' z.1)

    module _ (b : Lent) (marks : List ℕ) (e : step_on G g a b marks ≡ Done) (calm : Calm (scene_on G g a)) where
      grids : Mirrors L K M (state_on G a) (state_on G (turned a)) (scene_on G g a).g (scene_on G g a).relax (scene_on G h (turned a)).relax
      grids =
          mirror-holds L K M paired laid m (state_on G a) (state_on G (turned a)) state-too (scene_on G g a).g (scene_on G g a).relax (scene_on G h (turned a)).relax
          relax-goes (step-tells G g a b marks e) calm

      pub calm_set : Calm (scene_on G h (turned a))
      unfolding reflect_settings reflect
      calm_set = grids.calm

      move-too : move_answer (scene_on G h (turned a)) ≡ Done
      unfolding reflect_settings reflect grid_answer
      move-too = (sound L K (state_on G (turned a)) _ grids.accepted).1

      -- the next state as a set
      pub next-too : next_on G h (turned a) ≡ turned (next_on G g a)
      unfolding reflect_settings reflect
      next-too = sets-reflect L K M m (next (scene_on G g a)) (next (scene_on G h (turned a))) grids.result

      module _ (second : Lent) (marks' : List ℕ) (room : Room G second marks') where
        pub step-too : step_on G h (turned a) second marks' ≡ Done
        step-too = entry-too b marks (move_answer (scene_on G g a)) (move_answer (scene_on G h (turned a))) e second marks' room ∙ move-too

        second-too : second_on G h (turned a) second marks' ≡ turned (second_on G g a b marks)
        second-too = second-next G h (turned a) second marks' step-too ∙ next-too ∙ ap turned (sym (second-next G g a b marks e))

pub mirrors-on : Claim
mirrors-on L K fits M paired laid m g a b marks e calm second marks' room = record {
  accepted = step-too L K fits M paired laid m g a b marks e calm second marks' room;
  calm = calm_set L K fits M paired laid m g a b marks e calm;
  result = second-too L K fits M paired laid m g a b marks e calm second marks' room;
}

-- ---- document 01's grid
pub step-mirrors : BoxClaim
unfolding open-outcome grid_of box cells_of d3q19 mirror_of box_mirror
step-mirrors s t g a b marks e calm second marks' room =
    mirrors-on d3q19 (grid_of s) (sides_good s) (mirror_of s t) paired19 (grid-laid s) (grid-mirror s t) g a b marks e calm second marks' room

pub lengths-too : (s : Sides) (t : Axes) (a : Lent) → lengths_good (cells_of s) (reflect_set s t a) ≡ true
unfolding reflect_set mirrored_set
lengths-too s t a = lengths-listed (cells_of s) (mirrored (mirror_of s t) (state_of 18 a))

-- reflected twice, a set of exact lengths is itself again, and so are the settings
pub set_back : (s : Sides) (t : Axes) (a : Lent) → lengths_good (cells_of s) a ≡ true → reflect_set s t (reflect_set s t a) ≡ a
unfolding reflect_set grid_of box cells_of d3q19
set_back s t a e = set_twice d3q19 (grid_of s) (mirror_of s t) (grid-mirror s t) a (exact (cells_of s) a e)

pub settings-back : (t : Axes) (g : Settings) → reflect_settings t (reflect_settings t g) ≡ g
unfolding reflect_settings
settings-back t g i = record { p = g.p; gx = turn_twice t.x g.gx i; gy = turn_twice t.y g.gy i; gz = turn_twice t.z g.gz i; turbulent = g.turbulent }
