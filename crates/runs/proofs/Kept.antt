-- The indexes stay true: what an act leaves, and what a run leaves in either set, loads again. Assumes nothing.
use mathlib.Core.Path.{◌≡◌, sym, ap, ◌∙◌, subst}
use mathlib.Core.Bool.{Bool}
use mathlib.Core.List.{List}
use Prim.Native.Nat.{ℕ}
use lib.IntN.{ℤ}
use Rattle.whole.specs.laws.Bools.{cond_yes}
use Rattle.lattice.specs.declared.Settings.{Settings}
use Rattle.grid.specs.declared.Sides.{Sides}
use Rattle.grid.specs.Answer.{Done}
use Rattle.grid.specs.Grid.{cells_of}
use Rattle.grid.specs.Outcome.{accepted, ran}
use Rattle.pumps.specs.Three.{head_of}
use Rattle.pumps.specs.Acts.{act_set}
use Rattle.pumps.specs.Demands.{totalled}
use Rattle.pumps.specs.Demands as pumps
use Rattle.pumps.proofs.Kept.{act-kept}
use Rattle.index.specs.Index.{Index, index_of}
use Rattle.index.specs.Outcome.{load_answer}
use Rattle.index.specs.Held.{Held, indexed, Loads}
use Rattle.index.proofs.Loaded.{loaded-index}
use Rattle.index.proofs.Indexed.{good-loads}
use Rattle.calls.specs.Outcome.{kept}
use Rattle.calls.proofs.Entrance.{checked-now}
use Rattle.calls.proofs.Kept.{lived-loads}
use Rattle.runs.specs.Outcome.{run_entry, run_first, run_second}
use Rattle.runs.specs.Demands.{ActKeeps, RunKeeps}
use Rattle.runs.proofs.Outcomes.{entry-passed}
use Rattle.runs.proofs.Lives.{reached-lives}

pub act-keeps : (pour : Bool) (s : Sides) (c : ℕ) (amount : ℤ) (a : Held) → ActKeeps pour s c amount a
unfolding indexed
act-keeps pour s c amount a l e =
    let k = act-kept pour s c amount a.set e in
    subst (λ (x : Index). load_answer s (act_set pour c amount a.set) x ≡ Done) (ap (index_of (cells_of s)) k.flags-kept ∙ sym (loaded-index s a.set a.index l))
    (good-loads s (act_set pour c amount a.set) k.still-good)

module _ (steps : ℕ) (s : Sides) (g : Settings) (a b : Held) (marks : List ℕ) where
  pub run-keeps : RunKeeps steps s g a b marks
  unfolding run_first run_second
  run-keeps = record {
    first = λ e. subst (Loads s) (sym (cond_yes _ _ (ap accepted e))) (reached e);
    second = λ e. subst (Loads s) (sym (cond_yes _ _ (ap accepted e))) (reached e);
  }
    where
      reached : run_entry steps s g a b marks ≡ Done → Loads s (kept s a (ran s g marks steps (head_of a.set)).reached)
      reached e =
          lived-loads s a.set (totalled (ran s g marks steps (head_of a.set)).reached a.set) (checked-now s g a b marks (entry-passed s g a b marks steps e))
          (reached-lives steps s a.set g a b marks e pumps.start)
