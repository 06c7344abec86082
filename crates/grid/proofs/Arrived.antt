-- Demand 3 over the run's own outcome: after a run that is accepted, or stopped by a refused step, both sets are reached from the first by accepted steps,
-- and so all that Conserved claims holds of both. The idea: a run is its steps, one after the other. Assumes nothing.
use mathlib.Core.Path.{◌≡◌, refl, sym, subst}
use mathlib.Core.Bool.{Bool, true, false}
use mathlib.Core.List.{List}
use Prim.Native.Nat.{ℕ, zero, suc}
use lib.Dec.{leb}
use Rattle.whole.specs.laws.Bools.{cond_yes}
use Rattle.lattice.specs.Lattice.{Lattice, d3q19}
use Rattle.lattice.specs.declared.Settings.{Settings}
use Rattle.lattice.proofs.Paired.{Paired, paired19}
use Rattle.grid.specs.declared.Sides.{Sides}
use Rattle.grid.specs.Answer.{Done}
use Rattle.grid.specs.Grid.{Grid, cells_of, sides_good, box, grid_of}
use Rattle.grid.specs.State.{Lent}
use Rattle.grid.specs.Outcome.{accepted, lengths_good, ran_by, entry_answer, run_entry}
use Rattle.grid.specs.Ground.{Ground, ground, box_ground, step_on, next_on, ran_on, run_entry_on, run_first_on, run_second_on}
use Rattle.grid.specs.Demands.{Reached}
use Rattle.grid.specs.Demands as demands
use Rattle.grid.proofs.Accepted.{passed, done-accepted, accepted-done}
use Rattle.grid.proofs.Box.{grid-laid}
use Rattle.grid.proofs.Laid.{Laid}
use Rattle.grid.proofs.Conserved.{Holds, conserved-on, second-next, entry-checked}
use Rattle.grid.specs.declared.refusals.Refusal.TheVariants.{BadSteps}

-- what is claimed of the sets that a run leaves
pub record Arrived (steps : ℕ) (G : Ground) (g : Settings) (a b : Lent) (marks : List ℕ) : Type 0 where
  pub first : Reached G a (run_first_on G steps g a b marks)
  pub second : Reached G a (run_second_on G steps g a b marks)
  pub first_holds : Holds G a (run_first_on G steps g a b marks) first
  pub second_holds : Holds G a (run_second_on G steps g a b marks) second

-- of every run that is not refused at its entry
abbrev pub Claim : Type 0
Claim =
    (L : Lattice) (G : Grid) (fits : Bool) → Paired L → Laid L G
    → (steps : ℕ) (g : Settings) (a b : Lent) (marks : List ℕ) → run_entry_on (ground L G fits) steps g a b marks ≡ Done → Arrived steps (ground L G fits) g a b marks

-- of document 01's grid
abbrev pub BoxClaim : Type 0
BoxClaim = (steps : ℕ) (s : Sides) (g : Settings) (a b : Lent) (marks : List ℕ) → run_entry steps s g a b marks ≡ Done → Arrived steps (box_ground s) g a b marks

-- ---- one step after another
onward : {G : Ground} {a b c : Lent} → Reached G a b → Reached G b c → Reached G a c
onward r demands.Reached.start = r
onward r (demands.Reached.then q g second marks e) = demands.Reached.then (onward r q) g second marks e

module _ (G : Ground) (g : Settings) (marks : List ℕ) where
  one-step : (a : Lent) → step_on G g a a marks ≡ Done → Reached G a (next_on G g a)
  one-step a e = subst (λ (x : Lent). Reached G a x) (second-next G g a a marks e) (demands.Reached.then demands.Reached.start g a marks e)

  ran-reached : (steps : ℕ) (a : Lent) → Reached G a (ran_on G g marks steps a).reached
  ran-reached zero a = demands.Reached.start
  ran-reached (suc k) a = go (accepted (step_on G g a a marks)) refl (ran-reached k (next_on G g a))
    where
      go : (b : Bool) → accepted (step_on G g a a marks) ≡ b → Reached G (next_on G g a) (ran_on G g marks k (next_on G g a)).reached
          → Reached G a (ran_on G g marks (suc k) a).reached
      go true e r = rw (e, ran_by) (onward (one-step a (accepted-done (step_on G g a a marks) e)) r)
      go false e r = rw (e, ran_by) (demands.Reached.start)

pub arrived-on : Claim
arrived-on L M fits p l steps g a b marks e =
    let G = ground L M fits in
    let r = ran-reached G g marks steps a in
    let t = done-accepted (run_entry_on G steps g a b marks) e in
    let first = subst (λ (x : Lent). Reached G a x) (sym (cond_yes (ran_on G g marks steps a).reached a t)) r in
    let second = subst (λ (x : Lent). Reached G a x) (sym (cond_yes (ran_on G g marks steps a).reached b t)) r in
    let begins = entry-checked G g a b marks (passed (leb steps 1000) BadSteps _ e).1 in
    record {
      first = first;
      second = second;
      first_holds = conserved-on L M fits p l a (run_first_on G steps g a b marks) first begins;
      second_holds = conserved-on L M fits p l a (run_second_on G steps g a b marks) second begins;
    }

pub arrived-holds : BoxClaim
unfolding run_entry entry_answer lengths_good grid_of box cells_of d3q19
arrived-holds steps s g a b marks e = arrived-on d3q19 (grid_of s) (sides_good s) paired19 (grid-laid s) steps g a b marks e
