-- An accepted step of the call is the base's step of the head with poured and taken beside the carry, and so one of the steps that a set lives through between
-- its acts. Assumes nothing.
use mathlib.Core.Path.{◌≡◌, refl, sym, ap, ◌∙◌, subst}
use mathlib.Core.List.{List}
use Prim.Native.Nat.{ℕ}
use Rattle.lattice.specs.declared.Settings.{Settings}
use Rattle.grid.specs.declared.Sides.{Sides}
use Rattle.grid.specs.Answer.{Answer}
use Rattle.grid.specs.Answer.{Done}
use Rattle.grid.specs.State.{Lent}
use Rattle.grid.specs.Outcome.{move_answer, scene_of, next_of, by_answer}
use Rattle.grid.specs.Outcome as base
use Rattle.pumps.specs.Three.{head_of}
use Rattle.pumps.specs.Demands.{totalled, Lived}
use Rattle.pumps.specs.Demands as pumps
use Rattle.index.specs.Held.{Held, indexed}
use Rattle.calls.specs.Outcome.{kept, entry_answer, step_answer, step_second}
use Rattle.calls.proofs.Entrance.{goes_on, began, base_done, base-through}

module _ (s : Sides) (x : Lent) (g : Settings) (a b : Held) (marks : List ℕ) (e : step_answer s g a b marks ≡ Done) where
  moving : entry_answer s g a b marks Done ≡ Done
  unfolding step_answer
  moving = began s g a b marks (move_answer (scene_of s g (head_of a.set))) e

  accepted-move : move_answer (scene_of s g (head_of a.set)) ≡ Done
  unfolding step_answer
  accepted-move = sym (goes_on s g a b marks (move_answer (scene_of s g (head_of a.set))) moving) ∙ e

  base-steps : base.step_answer s g (head_of a.set) (head_of b.set) marks ≡ Done
  unfolding base.step_answer
  base-steps =
      let m = move_answer (scene_of s g (head_of a.set)) in
      base-through s g a b marks Done m m (λ q. refl) (base_done s g a b marks moving) ∙ accepted-move

  pub second_is : step_second s g a b marks ≡ kept s a (next_of s g (head_of a.set))
  unfolding step_second
  second_is = ap (λ (y : Answer). by_answer y (kept s a (next_of s g (head_of a.set))) a b) e

  base-second : base.step_second s g (head_of a.set) (head_of b.set) marks ≡ next_of s g (head_of a.set)
  unfolding base.step_second
  base-second = ap (λ (y : Answer). by_answer y (next_of s g (head_of a.set)) (head_of a.set) (head_of b.set)) base-steps

  pub step-lives : Lived s x a.set → Lived s x (step_second s g a b marks).set
  unfolding indexed
  step-lives r =
      subst (Lived s x) (ap (λ (d : Lent). totalled d a.set) base-second ∙ sym (ap (λ (h : Held). h.set) second_is))
      (pumps.stepped r g (head_of b.set) marks base-steps)
