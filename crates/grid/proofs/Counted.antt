-- Counted: the count that a run returns is the largest number of leading accepted steps, the state reached is that of so many steps, and where the count
-- falls short of the steps asked, the step that stopped it is refused with the answer that the run returns. Assumes nothing.
use mathlib.Core.Path.{◌≡◌, refl, sym, ◌∙◌}
use mathlib.Core.Bool.{Bool, true, false, false≢true}
use mathlib.Core.List.{List}
use Prim.Native.Nat.{ℕ, zero, suc, ◌+◌, ◌≤◌, ◌<◌}
use native.Mathlib.Nat.{le_of_suc-le-suc}
use native.Mathlib.Omega.{arith}
use Rattle.whole.specs.laws.Bools.{cond_yes}
use Rattle.lattice.specs.declared.Settings.{Settings}
use Rattle.grid.specs.declared.Sides.{Sides}
use Rattle.grid.specs.Answer.{Answer}
use Rattle.grid.specs.Answer.{Done}
use Rattle.grid.specs.State.{Lent}
use Rattle.grid.specs.Outcome.{accepted, lengths_good, scene_of, entry_answer, step_answer, next_of, ran_by, ran, run_entry, run_count, run_answer, run_first}
use Rattle.grid.specs.Ground.{Ground, box_ground, step_on, next_on, ran_on, run_entry_on, run_count_on, run_answer_on, run_first_on}
use Rattle.grid.proofs.Accepted.{done-accepted}

module _ (G : Ground) (g : Settings) (marks : List ℕ) where
  -- the set after k steps
  unfoldable pub after : ℕ → Lent → Lent
  after zero a = a
  after (suc k) a = after k (next_on G g a)

  -- the first k steps are accepted
  abbrev pub Leading : ℕ → Lent → Type 0
  Leading k a = (j : ℕ) → j < k → accepted (step_on G g (after j a) (after j a) marks) ≡ true

  -- what is claimed of a run of some steps from a, by its count, its answer and the set that it reached
  pub record Counted (steps : ℕ) (a : Lent) (count : ℕ) (answer : Answer) (reached : Lent) : Type 0 where
    pub at_most : count ≤ steps
    pub leading : Leading count a
    pub largest : (k : ℕ) → k ≤ steps → Leading k a → k ≤ count
    pub reached-is : reached ≡ after count a
    pub all_made : count ≡ steps → answer ≡ Done
    pub stopped : count < steps → (answer ≡ step_on G g reached reached marks) × (accepted answer ≡ false)

-- of every run that is not refused at its entry
abbrev pub Claim : Type 0
Claim =
    (G : Ground) (steps : ℕ) (g : Settings) (a b : Lent) (marks : List ℕ) → run_entry_on G steps g a b marks ≡ Done
    → Counted G g marks steps a (run_count_on G steps g a b marks) (run_answer_on G steps g a b marks) (run_first_on G steps g a b marks)

-- of document 01's grid
abbrev pub BoxClaim : Type 0
BoxClaim =
    (steps : ℕ) (s : Sides) (g : Settings) (a b : Lent) (marks : List ℕ) → run_entry steps s g a b marks ≡ Done
    → Counted (box_ground s) g marks steps a (run_count steps s g a b marks) (run_answer steps s g a b marks) (run_first steps s g a b marks)

module _ (G : Ground) (g : Settings) (marks : List ℕ) where
  first_made : (k : ℕ) (a : Lent) → accepted (step_on G g a a marks) ≡ true → Leading G g marks k (next_on G g a) → Leading G g marks (suc k) a
  unfolding after
  first_made k a e l zero h = e
  first_made k a e l (suc j) h = l j (le_of_suc-le-suc h)

  first_off : (k : ℕ) (a : Lent) → Leading G g marks (suc k) a → Leading G g marks k (next_on G g a)
  unfolding after
  first_off k a l j h = l (suc j) (omega arith)

  -- the steps themselves
  abbrev Made : ℕ → Lent → Type 0
  Made steps a = Counted G g marks steps a (ran_on G g marks steps a).count (ran_on G g marks steps a).stop (ran_on G g marks steps a).reached

  more : (steps : ℕ) (a : Lent) (b : Bool) → accepted (step_on G g a a marks) ≡ b → Made steps (next_on G g a) → Made (suc steps) a
  unfolding after
  more steps a true e c =
      let r = ran_on G g marks steps (next_on G g a) in
      rw (e, ran_by)
      (record {
        at_most = omega (arith, c.at_most);
        leading = first_made r.count a e c.leading;
        largest = λ k h l. largest k h l;
        reached-is = c.reached-is;
        all_made = λ q. c.all_made (omega arith);
        stopped = λ q. c.stopped (omega arith);
      })
    where
      largest : (k : ℕ) → k ≤ suc steps → Leading G g marks k a → k ≤ suc (ran_on G g marks steps (next_on G g a)).count
      largest zero h l = omega arith
      largest (suc k) h l = let m = c.largest k (le_of_suc-le-suc h) (first_off k a l) in omega arith
  more steps a false e c =
      rw (e, ran_by)
      (record {
        at_most = omega arith;
        leading = λ j h. absurd (omega arith);
        largest = λ k h l. none k l;
        reached-is = refl;
        all_made = λ q. absurd (omega arith);
        stopped = λ q. (refl, e);
      })
    where
      none : (k : ℕ) → Leading G g marks k a → k ≤ 0
      none zero l = omega arith
      none (suc k) l = absurd (false≢true (sym e ∙ l 0 (omega arith)))

  made : (steps : ℕ) (a : Lent) → Made steps a
  unfolding after
  made zero a = record {
    at_most = omega arith;
    leading = λ j h. absurd (omega arith);
    largest = λ k h l. h;
    reached-is = refl;
    all_made = λ q. refl;
    stopped = λ q. absurd (omega arith);
  }
  made (suc steps) a = more steps a (accepted (step_on G g a a marks)) refl (made steps (next_on G g a))

pub counted-on : Claim
counted-on G steps g a b marks e =
    let t = done-accepted (run_entry_on G steps g a b marks) e in
    let r = ran_on G g marks steps a in
    rw (cond_yes r.count 0 t, cond_yes r.stop (run_entry_on G steps g a b marks) t, cond_yes r.reached a t) (made G g marks steps a)

pub counted-holds : BoxClaim
unfolding lengths_good scene_of entry_answer step_answer next_of ran run_entry run_count run_answer run_first
counted-holds steps s g a b marks e = counted-on (box_ground s) steps g a b marks e
