-- What follows of an accepted mirror: the second set loads with its index and has the first one's totals; mirrored again it is the first set; and it is the
-- set of which P13 speaks, so that stepping it gives reflected water. Assumes nothing.
use Rattle.std.specs.Prelude.{◌≡◌, List, ℕ}
use Rattle.lattice.specs.declared.Settings.{Settings}
use Rattle.grid.specs.declared.Sides.{Sides}
use Rattle.grid.specs.Answer.{Done}
use Rattle.grid.specs.State.{Lent}
use Rattle.grid.specs.Outcome.{step_answer, step_second}
use Rattle.pumps.specs.Three.{head_of, three_answer}
use Rattle.index.specs.Held.{Held, Loads}
use Rattle.mirror.specs.Mirror.{reflect_set, reflect_settings}
use Rattle.mirroring.specs.Turned.{axes_of}
use Rattle.mirroring.specs.Outcome.{mirror_answer, mirror_second}

-- c is a third set with its index, of the right lengths, into which the second is mirrored
pub record Keeps (s : Sides) (axis : ℕ) (a : Lent) (b : Held) : Type 0 where
  pub passes : three_answer s (mirror_second s axis a b).set ≡ Done
  pub loads : Loads s (mirror_second s axis a b)
  pub totals : (mirror_second s axis a b).set.carry ≡ a.carry
  -- what the base is lent of it is the reflection of what it is lent of the first
  pub reflects : head_of (mirror_second s axis a b).set ≡ reflect_set s (axes_of axis) (head_of a)
  pub back : (c : Held) → mirror_answer s axis (mirror_second s axis a b).set c ≡ Done → (mirror_second s axis (mirror_second s axis a b).set c).set ≡ a

-- an accepted step of the first set that converts no cell, made of the second set with gravity's sign changed, is accepted and gives the reflected water
pub record StepsAlike (s : Sides) (axis : ℕ) (g : Settings) (a : Lent) (b : Held) (next second : Lent) (marks : List ℕ) : Type 0 where
  pub accepted : step_answer s (reflect_settings (axes_of axis) g) (head_of (mirror_second s axis a b).set) second marks ≡ Done
  pub result : step_second s (reflect_settings (axes_of axis) g) (head_of (mirror_second s axis a b).set) second marks ≡ reflect_set s (axes_of axis) next
