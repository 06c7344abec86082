-- Every deed keeps the scheme: it goes on passing its tests, and masses + carry + taken − poured of its grid stay to the unit. Assumes nothing.
use mathlib.Core.Path.{◌≡◌, refl, ap, ◌∙◌}
use mathlib.Core.Bool.{Bool, true}
use mathlib.Core.List.{List}
use Prim.Native.Nat.{ℕ}
use lib.IntN.{ℤ}
use Rattle.lattice.specs.declared.Settings.{Settings}
use Rattle.grid.specs.declared.Sides.{Sides}
use Rattle.grid.specs.Answer.{Answer}
use Rattle.grid.specs.Answer.{Done}
use Rattle.grid.specs.State.{Lent}
use Rattle.grid.specs.Outcome.{step_answer, step_second, run_first}
use Rattle.pumps.specs.Acts.{and_then, act_answer, act_set}
use Rattle.pumps.specs.Demands.{balance, totalled, start, acted, stepped}
use Rattle.schemes.specs.Scheme.{joined, parted, tested}
use Rattle.schemes.specs.Outcome.{if_done}
use Rattle.isolation.specs.Deeds.{Deed, step, run, pump, look, base_of, step_told, pump_told, done}
use Rattle.isolation.specs.Claims.{Rejoins}
use Rattle.isolation.proofs.Carried.{carried-holds, run-carried}
use Rattle.pumps.proofs.Kept.{then-both}
use Rattle.std.specs.Prelude.{Ok, Err}

module _ (s : Sides) (map : List ℕ) (a : Lent) (t : tested s map a true ≡ Done) where
  -- of the scheme after a deed
  abbrev Keeps : Lent → Type 0
  Keeps x = (tested s map x true ≡ Done) × (balance s (joined s map x) ≡ balance s (joined s map a))

  back : (x : Lent) → Rejoins s map a x → Keeps (parted s x)
  back x r = (r.checked, ap (balance s) r.joins-again ∙ r.balance-same)

  step_keeps : (g : Settings) (second : Lent) (marks : List ℕ) → Keeps (done s map a (step g second marks))
  unfolding done step_told
  step_keeps g second marks = go (and_then (tested s map a true) (step_answer s g (base_of s map a) second marks)) refl
    where
      go : (x : Answer) → and_then (tested s map a true) (step_answer s g (base_of s map a) second marks) ≡ x
          → Keeps (if_done x (parted s (totalled (step_second s g (base_of s map a) second marks) (joined s map a))) a)
      go (Ok _) e = back _ (carried-holds s map a _ t (stepped start g second marks (then-both (tested s map a true) _ e).1))
      go (Err refusal) e = (t, refl)

  run-keeps : (steps : ℕ) (g : Settings) (second : Lent) (marks : List ℕ) → Keeps (done s map a (run steps g second marks))
  unfolding done
  run-keeps steps g second marks = go (tested s map a true)
    where
      go : (x : Answer) → Keeps (if_done x (parted s (totalled (run_first steps s g (base_of s map a) second marks) (joined s map a))) a)
      go (Ok _) = back _ (run-carried s map a steps g second marks t)
      go (Err refusal) = (t, refl)

  pump-keeps : (pour : Bool) (c : ℕ) (amount : ℤ) → Keeps (done s map a (pump pour c amount))
  unfolding done pump_told
  pump-keeps pour c amount = go (and_then (tested s map a true) (act_answer pour s c amount (joined s map a))) refl
    where
      go : (x : Answer) → and_then (tested s map a true) (act_answer pour s c amount (joined s map a)) ≡ x → Keeps (if_done x (parted s (act_set pour c amount (joined s map a))) a)
      go (Ok _) e = back _ (carried-holds s map a _ t (acted start pour c amount (then-both (tested s map a true) _ e).1))
      go (Err refusal) e = (t, refl)

  look-keeps : (f : Lent → List ℤ) → Keeps (done s map a (look f))
  unfolding done
  look-keeps f = (t, refl)

  keeps : (d : Deed) → Keeps (done s map a d)
  keeps (step g second marks) = step_keeps g second marks
  keeps (run steps g second marks) = run-keeps steps g second marks
  keeps (pump pour c amount) = pump-keeps pour c amount
  keeps (look f) = look-keeps f

pub done-kept : (s : Sides) (map : List ℕ) (a : Lent) (d : Deed) → tested s map a true ≡ Done → tested s map (done s map a d) true ≡ Done
done-kept s map a d t = (keeps s map a t d).0

pub done-balance : (s : Sides) (map : List ℕ) (a : Lent) (d : Deed) → tested s map a true ≡ Done → balance s (joined s map (done s map a d)) ≡ balance s (joined s map a)
done-balance s map a d t = (keeps s map a t d).1
