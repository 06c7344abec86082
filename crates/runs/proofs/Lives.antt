-- What the calls make of a set is what single accepted steps and acts make of it: a run is such steps one after another. So masses + carry + taken − poured
-- never changes. Assumes nothing.
use mathlib.Core.Path.{◌≡◌, refl, sym, ap, ◌∙◌, subst}
use mathlib.Core.Bool.{Bool, true, false}
use mathlib.Core.List.{List, [], ◌∷◌}
use Prim.Native.Nat.{ℕ, zero, suc}
use native.Mathlib.Omega.{arith}
use lib.IntN.{ℤ, pos}
use lib.ListN.{length, get_or}
use Rattle.whole.specs.laws.Bools.{cond_yes}
use Rattle.lattice.specs.declared.Settings.{Settings}
use Rattle.grid.specs.declared.Sides.{Sides}
use Rattle.grid.specs.Answer.{Answer}
use Rattle.grid.specs.Answer.{Done}
use Rattle.grid.specs.State.{Lent, lent, lent_of}
use Rattle.grid.specs.Outcome.{accepted, next_of, by_answer, ran_by, ran}
use Rattle.grid.specs.Outcome as base
use Rattle.grid.proofs.Accepted.{accepted-done}
use Rattle.pumps.specs.Three.{head_of, three_answer}
use Rattle.pumps.specs.Demands.{totalled, Lived}
use Rattle.pumps.specs.Demands as pumps
use Rattle.pumps.proofs.Checked.{head-length}
use Rattle.pumps.proofs.Living.{lived-holds}
use Rattle.index.specs.Held.{Held, indexed}
use Rattle.calls.specs.Outcome.{kept, entry_answer}
use Rattle.calls.proofs.Entrance.{carry-length}
use Rattle.calls.proofs.Outcomes.{whole_again}
use Rattle.calls.proofs.Lives.{step-lives}
use Rattle.runs.specs.Outcome.{run_entry, run_first}
use Rattle.runs.specs.Demands.{Balanced}
use Rattle.runs.specs.Demands as calls
use Rattle.runs.proofs.Outcomes.{entry-passed}

-- the base's set has the head that it is
one-carry : (l : List ℤ) → length l ≡ 1 → (get_or l 0 (pos 0) ∷ []) ≡ l
one-carry [] e = absurd (omega arith)
one-carry (x ∷ []) e = refl
one-carry (x ∷ y ∷ l) e = absurd (omega arith)

head-again : (d a : Lent) → length d.carry ≡ 1 → head_of (totalled d a) ≡ d
head-again d a e = ap (lent d.flags d.parts d.masses d.fills) (one-carry d.carry e)

-- ---- steps one after another
module _ (s : Sides) (x : Lent) (g : Settings) (marks : List ℕ) (a : Lent) where
  one_more : (d : Lent) → length d.carry ≡ 1 → base.step_answer s g d d marks ≡ Done → Lived s x (totalled d a) → Lived s x (totalled (next_of s g d) a)
  unfolding base.step_second
  one_more d e p r =
      subst (λ (z : Lent). Lived s x (totalled z a))
      (ap (λ (h : Lent). base.step_second s g h d marks) (head-again d a e) ∙ ap (λ (y : Answer). by_answer y (next_of s g d) d d) p)
      (pumps.stepped r g d marks (ap (λ (h : Lent). base.step_answer s g h d marks) (head-again d a e) ∙ p))

  next-carry : (d : Lent) → length (next_of s g d).carry ≡ 1
  unfolding next_of lent_of
  next-carry d = refl

  pub ran-lives : (k : ℕ) (d : Lent) → length d.carry ≡ 1 → Lived s x (totalled d a) → Lived s x (totalled (ran s g marks k d).reached a)
  unfolding ran
  ran-lives zero d e r = r
  ran-lives (suc k) d e r = go (accepted (base.step_answer s g d d marks)) refl (λ q. ran-lives k (next_of s g d) (next-carry d) q)
    where
      go : (t : Bool) → accepted (base.step_answer s g d d marks) ≡ t → (Lived s x (totalled (next_of s g d) a) → Lived s x (totalled (ran s g marks k (next_of s g d)).reached a))
          → Lived s x (totalled (ran s g marks (suc k) d).reached a)
      go true p f = rw (p, ran_by) (f (one_more d e (accepted-done _ p) r))
      go false p f = rw (p, ran_by) r

-- ---- a run that begins
module _ (steps : ℕ) (s : Sides) (x : Lent) (g : Settings) (a b : Held) (marks : List ℕ) (e : run_entry steps s g a b marks ≡ Done) where
  begins : entry_answer s g a b marks Done ≡ Done
  begins = entry-passed s g a b marks steps e

  pub reached-lives : Lived s x a.set → Lived s x (totalled (ran s g marks steps (head_of a.set)).reached a.set)
  reached-lives r =
      let three = carry-length s g a b marks begins in
      ran-lives s x g marks a.set steps (head_of a.set) (head-length a.set.carry three) (subst (Lived s x) (sym (whole_again a.set three)) r)

  pub run-lives : Lived s x a.set → Lived s x (run_first steps s g a b marks).set
  unfolding run_first indexed
  run-lives r =
      subst (Lived s x) (sym (ap (λ (h : Held). h.set) (cond_yes (kept s a (ran s g marks steps (head_of a.set)).reached) a (ap accepted e)))) (reached-lives r)

-- ---- the calls in any order
pub used-lives : (s : Sides) (a b : Lent) → calls.Used s a b → Lived s a b
used-lives s a b calls.start = pumps.start
used-lives s a b (calls.acted {b = d} u pour c amount e) = pumps.acted (used-lives s a d u) pour c amount e
used-lives s a b (calls.stepped d u g second marks e) = step-lives s a g d second marks e (used-lives s a d.set u)
used-lives s a b (calls.ran d u steps g second marks e) = run-lives steps s a g d second marks e (used-lives s a d.set u)

-- the headline: from a set that the check accepts
pub balanced : (s : Sides) (a b : Lent) → three_answer s a ≡ Done → calls.Used s a b → Balanced s a b
balanced s a b h u = record { lived = used-lives s a b u; holds = lived-holds s a b h (used-lives s a b u) }
