-- The flume's demands, cited from the theorems over any ground. Demand 3: from a set that the check accepts, after any number of accepted steps, settings
-- changed between them if wished, and after a run. Demand 2: after an accepted step, in a cell that stays liquid, each moving part lies less than one unit
-- from the exact BGK value, the rest part less than eight. And no second outcome fits what the calls promise. Assumes nothing.
use mathlib.Core.Path.{◌≡◌, refl, sym, ap, ap₂, ◌∙◌, subst}
use mathlib.Core.List.{List}
use Prim.Native.Nat.{ℕ, suc, ◌<◌}
use native.Mathlib.Omega.{arith}
use lib.IntN.{ℤ, pos, ◌+ℤ◌, ◌*ℤ◌, *ℤ-zero}
use lib.Signed.{quot_z}
use Rattle.whole.specs.laws.Quot.{zero-quot}
use Rattle.whole.specs.Fold.{Dir}
use Rattle.whole.specs.laws.Search.{as-dir}
use Rattle.whole.specs.laws.Sums.{sum-zero}
use Rattle.lattice.specs.Lattice.{momentum, d2q9, open-lattice}
use Rattle.lattice.specs.Cell.{pull}
use Rattle.lattice.proofs.Paired.{paired9}
use Rattle.lattice.proofs.Balanced.{Balanced, balanced9}
use Rattle.grid.specs.Answer.{Answer}
use Rattle.grid.specs.Answer.{Done}
use Rattle.grid.specs.Grid.{flume}
use Rattle.grid.specs.State.{Lent, Scene}
use Rattle.grid.specs.Step.{streamed, streamed_density, streamed_momentum}
use Rattle.grid.specs.Ground.{scene_on}
use Rattle.grid.specs.Demands as demands
use Rattle.grid.specs.Demands.{Reached}
use Rattle.grid.proofs.Laid.{Laid}
use Rattle.grid.proofs.Box.{flume9-laid}
use Rattle.grid.proofs.Conserved.{Holds, conserved-on}
use Rattle.grid.proofs.Arrived.{Arrived, arrived-on}
use Rattle.grid.proofs.Counted.{Counted, counted-on}
use Rattle.grid.proofs.Accurate.{Accurate, accurate-on}
use Rattle.flume.specs.declared.FlumeSides.{FlumeSides}
use Rattle.flume.specs.declared.FlumeSettings.{FlumeSettings}
use Rattle.flume.specs.Flume.{flume_sides_good, flume_cells, flume_grid, level_settings, flume_ground}
use Rattle.flume.specs.Outcome.{flume_check, flume_step, flume_second, flume_run_entry, flume_run_count, flume_run_answer, flume_run_first}
use Rattle.flume.specs.Promise.{FlumeStepped, FlumeRanTo}
use Rattle.flume.proofs.Places.{by-eight}

pub flume-laid : (s : FlumeSides) → Laid d2q9 (flume_grid s)
unfolding flume_grid
flume-laid s = flume9-laid s.nx s.nz

-- ---- demand 3

-- an accepted step of the flume is one of Reached
pub flume-then : (s : FlumeSides) (g : FlumeSettings) {a b : Lent} (second : Lent) (marks : List ℕ) → Reached (flume_ground s) a b → flume_step s g b second marks ≡ Done
    → Reached (flume_ground s) a (flume_second s g b second marks)
unfolding flume_step flume_second
flume-then s g second marks r e = demands.Reached.then r (level_settings g) second marks e

pub flume-conserved : (s : FlumeSides) (a b : Lent) (r : Reached (flume_ground s) a b) → flume_check s a ≡ Done → Holds (flume_ground s) a b r
unfolding flume_check flume_grid flume_cells flume d2q9
flume-conserved s a b r e = conserved-on d2q9 (flume_grid s) (flume_sides_good s) paired9 (flume-laid s) a b r e

-- of every run that is not refused at its entry: both sets that it leaves are reached by accepted steps
pub flume-arrived : (steps : ℕ) (s : FlumeSides) (g : FlumeSettings) (a b : Lent) (marks : List ℕ) → flume_run_entry steps s g a b marks ≡ Done
    → Arrived steps (flume_ground s) (level_settings g) a b marks
unfolding flume_run_entry flume_grid flume_cells flume d2q9
flume-arrived steps s g a b marks e = arrived-on d2q9 (flume_grid s) (flume_sides_good s) paired9 (flume-laid s) steps (level_settings g) a b marks e

-- and its count is the largest number of leading accepted steps
pub flume-counted : (steps : ℕ) (s : FlumeSides) (g : FlumeSettings) (a b : Lent) (marks : List ℕ) → flume_run_entry steps s g a b marks ≡ Done
    → Counted (flume_ground s) (level_settings g) marks steps a (flume_run_count steps s g a b marks) (flume_run_answer steps s g a b marks) (flume_run_first steps s g a b marks)
unfolding flume_run_entry flume_run_count flume_run_answer flume_run_first
flume-counted steps s g a b marks e = counted-on (flume_ground s) steps (level_settings g) a b marks e

-- ---- demand 2

-- the flume's momentum has no y: no direction has, and gravity has none
flat : (k : ℕ) → Dir 8 k → (d2q9.e k).y ≡ pos 0
unfolding open-lattice
flat = by-eight (λ k. (d2q9.e k).y ≡ pos 0) refl refl refl refl refl refl refl refl

no-moment : (f : ℕ → ℤ) → (momentum d2q9 f).y ≡ pos 0
unfolding momentum d2q9
no-moment f = sum-zero 8 (λ a. f (suc a) *ℤ (d2q9.e (suc a)).y) (λ a k. ap (λ (y : ℤ). f (suc a) *ℤ y) (flat (suc a) (as-dir k)) ∙ *ℤ-zero (f (suc a)))

no-pull : (ρ : ℤ) → pull ρ (pos 0) ≡ pos 0
unfolding pull
no-pull ρ = ap (λ (x : ℤ). quot_z x (pos 1048576)) (*ℤ-zero ρ) ∙ zero-quot (pos 1048576)

module _ (s : FlumeSides) (g : FlumeSettings) (a : Lent) (c : ℕ) where
  abbrev S : Scene
  S = scene_on (flume_ground s) (level_settings g) a

  level : streamed_momentum S c ≡ record { x = (streamed_momentum S c).x; y = pos 0; z = (streamed_momentum S c).z }
  unfolding streamed_momentum
  level j = record { x = (streamed_momentum S c).x; y = ap₂ (λ (x y : ℤ). x +ℤ y) (no-moment (streamed S c)) (no-pull (streamed_density S c)) j; z = (streamed_momentum S c).z }

  balanced : Balanced d2q9 (streamed_momentum S c)
  balanced = subst (Balanced d2q9) (sym level) (balanced9 (streamed_momentum S c).x (streamed_momentum S c).z)

pub flume-accurate : (s : FlumeSides) (g : FlumeSettings) (a second : Lent) (marks : List ℕ) → flume_step s g a second marks ≡ Done → (c : ℕ) → c < flume_cells s
    → Accurate (flume_ground s) (level_settings g) a second marks c
unfolding flume_step flume_grid flume_cells flume d2q9
flume-accurate s g a second marks e c h =
    accurate-on d2q9 (flume_grid s) (flume_sides_good s) (level_settings g) a second marks
    (balanced s g a) (omega arith) e c h

-- ---- no second outcome

pub flume-check-unique : (s : FlumeSides) (a : Lent) {r t : Answer} → r ≡ flume_check s a → t ≡ flume_check s a → r ≡ t
flume-check-unique s a p q = p ∙ sym q

pub flume-step-unique : (s : FlumeSides) (g : FlumeSettings) (a b : Lent) (marks : List ℕ) {r t : Answer} {x y : Lent} {m n : List ℕ}
    → FlumeStepped s g a b marks r x m → FlumeStepped s g a b marks t y n → (r ≡ t) × (x ≡ y) × (m ≡ n)
flume-step-unique s g a b marks p q = (p.answer-is ∙ sym q.answer-is, p.second_is ∙ sym q.second_is, p.marks-are ∙ sym q.marks-are)

pub flume-run-unique : (steps : ℕ) (s : FlumeSides) (g : FlumeSettings) (a b : Lent) (marks : List ℕ) {i j : ℕ} {r t : Answer} {u v x y : Lent} {m n : List ℕ}
    → FlumeRanTo steps s g a b marks i r u x m → FlumeRanTo steps s g a b marks j t v y n → (i ≡ j) × (r ≡ t) × (u ≡ v) × (x ≡ y) × (m ≡ n)
flume-run-unique steps s g a b marks p q =
    (p.count-is ∙ sym q.count-is, p.answer-is ∙ sym q.answer-is, p.first-is ∙ sym q.first-is, p.second_is ∙ sym q.second_is, p.marks-are ∙ sym q.marks-are)
