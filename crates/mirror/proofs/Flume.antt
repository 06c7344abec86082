-- P13 over the outcomes of the flume's step and run, in any of its axes: the theorems over any ground, on the flume's. Assumes nothing.
use mathlib.Core.Path.{◌≡◌, sym, subst}
use mathlib.Core.List.{List}
use Prim.Native.Nat.{ℕ, ◌<◌}
use Rattle.lattice.specs.Lattice.{d2q9}
use Rattle.lattice.specs.declared.Settings.{Settings}
use Rattle.lattice.proofs.Paired.{paired9}
use Rattle.grid.specs.Answer.{Done}
use Rattle.grid.specs.Grid.{flume}
use Rattle.grid.specs.State.{Lent}
use Rattle.grid.proofs.Box.{flume9-laid}
use Rattle.grid.proofs.Counted.{after}
use Rattle.flume.specs.declared.FlumeSides.{FlumeSides}
use Rattle.flume.specs.declared.FlumeSettings.{FlumeSettings}
use Rattle.flume.specs.Flume.{flume_sides_good, flume_cells, flume_grid, level_settings, flume_ground}
use Rattle.flume.specs.Outcome.{flume_scene, flume_step, flume_second, flume_run_answer, flume_run_first, open-outcome}
use Rattle.mirror.specs.Mirror.{Axes, box_mirror, flume_mirror, reflect_settings}
use Rattle.mirror.specs.Demands.{Calm, Room, StepMirrors, RunMirrors}
use Rattle.mirror.specs.Flume.{mirror_in, reflect_flume}
use Rattle.mirror.proofs.Turned.{turn-zero, turn_twice}
use Rattle.mirror.proofs.Cells.{flume9-mirror}
use Rattle.mirror.proofs.Outcomes.{mirrors-on}
use Rattle.mirror.proofs.Many.{runs_on}

abbrev pub Claim : Type 0
Claim = (s : FlumeSides) (t : Axes) (g : FlumeSettings) (a b : Lent) (marks : List ℕ) → flume_step s g a b marks ≡ Done → Calm (flume_scene s g a)
    → (second : Lent) (marks' : List ℕ) → Room (flume_ground s) second marks'
    → StepMirrors (flume_ground s) (mirror_in s t) (level_settings (reflect_flume t g)) a (flume_second s g a b marks) second marks'

abbrev pub Running : Type 0
Running = (n : ℕ) (s : FlumeSides) (t : Axes) (g : FlumeSettings) (a b : Lent) (marks : List ℕ) → flume_run_answer n s g a b marks ≡ Done
    → ((j : ℕ) → j < n → Calm (flume_scene s g (after (flume_ground s) (level_settings g) marks j a))) → (second : Lent) (marks' : List ℕ) → Room (flume_ground s) second marks'
    → RunMirrors n (flume_ground s) (mirror_in s t) (level_settings (reflect_flume t g)) a (flume_run_first n s g a b marks) second marks'

-- gravity has no y, and so its reflection has none
level_too : (t : Axes) (g : FlumeSettings) → level_settings (reflect_flume t g) ≡ reflect_settings t (level_settings g)
unfolding reflect_flume reflect_settings
level_too t g i = record { p = g.p; gx = (reflect_flume t g).gx; gy = sym (turn-zero t.y) i; gz = (reflect_flume t g).gz; turbulent = g.turbulent }

pub flume-step-mirrors : Claim
unfolding open-outcome flume_grid flume_cells flume d2q9 flume_mirror box_mirror
flume-step-mirrors s t g a b marks e calm second marks' room =
    subst (λ (h : Settings). StepMirrors (flume_ground s) (mirror_in s t) h a (flume_second s g a b marks) second marks') (sym (level_too t g))
    (mirrors-on d2q9 (flume_grid s) (flume_sides_good s) (mirror_in s t) paired9 (flume9-laid s.nx s.nz) (flume9-mirror s.nx s.nz t) (level_settings g) a b marks e calm second marks' room)

pub flume-run-mirrors : Running
unfolding open-outcome flume_grid flume_cells flume d2q9 flume_mirror box_mirror
flume-run-mirrors n s t g a b marks e calm second marks' room =
    subst (λ (h : Settings). RunMirrors n (flume_ground s) (mirror_in s t) h a (flume_run_first n s g a b marks) second marks') (sym (level_too t g))
    (runs_on d2q9 (flume_grid s) (flume_sides_good s) (mirror_in s t) paired9 (flume9-laid s.nx s.nz) (flume9-mirror s.nx s.nz t) n (level_settings g) a b marks e calm second marks' room)

-- reflected twice, a flume's settings are themselves again
pub flume-settings-back : (t : Axes) (g : FlumeSettings) → reflect_flume t (reflect_flume t g) ≡ g
unfolding reflect_flume
flume-settings-back t g i = record { p = g.p; gx = turn_twice t.x g.gx i; gz = turn_twice t.z g.gz i; turbulent = g.turbulent }
