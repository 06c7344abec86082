-- What follows of an accepted mirror of a flume: the second set passes the check and has the first one's carry; mirrored again it is the first set; and it is
-- the set of which P13 speaks, so that stepping it gives reflected water. Assumes nothing.
use Rattle.std.specs.Prelude.{◌≡◌, List, ℕ}
use Rattle.grid.specs.Answer.{Done}
use Rattle.grid.specs.State.{Lent, state_of}
use Rattle.flume.specs.declared.FlumeSides.{FlumeSides}
use Rattle.flume.specs.declared.FlumeSettings.{FlumeSettings}
use Rattle.flume.specs.Flume.{flume_cells}
use Rattle.flume.specs.Outcome.{flume_check, flume_step, flume_second}
use Rattle.mirror.specs.Mirror.{Reflects}
use Rattle.mirror.specs.Flume.{mirror_in, reflect_flume_set, reflect_flume}
use Rattle.mirroring.specs.Turned.{axes_of}
use Rattle.flumemirroring.specs.Outcome.{flume_mirror_answer, flume_mirror_second}

-- c is a third set, of the right lengths, into which the second is mirrored
pub record Keeps (s : FlumeSides) (axis : ℕ) (a b : Lent) : Type 0 where
  pub passes : flume_check s (flume_mirror_second s axis a b) ≡ Done
  pub totals : (flume_mirror_second s axis a b).carry ≡ a.carry
  -- it is the crate mirror's reflected set, and its state the reflected state
  pub set_is : flume_mirror_second s axis a b ≡ reflect_flume_set s (axes_of axis) a
  pub reflects : Reflects (mirror_in s (axes_of axis)) 8 (flume_cells s) (state_of 8 a) (state_of 8 (flume_mirror_second s axis a b))
  pub back : (c : Lent) → flume_mirror_answer s axis (flume_mirror_second s axis a b) c ≡ Done → flume_mirror_second s axis (flume_mirror_second s axis a b) c ≡ a

-- an accepted step of the first set that converts no cell, made of the second set with gravity's sign changed, is accepted and gives the reflected water
pub record StepsAlike (s : FlumeSides) (axis : ℕ) (g : FlumeSettings) (a b : Lent) (next second : Lent) (marks : List ℕ) : Type 0 where
  pub accepted : flume_step s (reflect_flume (axes_of axis) g) (flume_mirror_second s axis a b) second marks ≡ Done
  pub result : flume_second s (reflect_flume (axes_of axis) g) (flume_mirror_second s axis a b) second marks ≡ reflect_flume_set s (axes_of axis) next
