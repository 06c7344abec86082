-- A sweep of a loaded set finds its interface cells from the start on, each once, in rising order, and reads no more than the words and one more for each.
-- Assumes nothing.
use mathlib.Core.Path.{◌≡◌, ◌∙◌}
use mathlib.Core.List.{List}
use Prim.Native.Nat.{ℕ, ◌-◌}
use native.Mathlib.Omega.{arith}
use Rattle.grid.specs.declared.Sides.{Sides}
use Rattle.grid.specs.Answer.{Done}
use Rattle.grid.specs.Grid.{cells_of}
use Rattle.grid.specs.State.{Lent}
use Rattle.index.specs.Index.{Index, interface, is_set}
use Rattle.index.specs.Outcome.{load_answer}
use Rattle.sweep.specs.Sweep.{Sweep, SurfaceSwept}
use Rattle.index.proofs.Loaded.{same, number}
use Rattle.sweep.proofs.Sweeps.{swept, within, list-cong}

pub surface-swept : (s : Sides) (a : Lent) (x : Index) → load_answer s a x ≡ Done → {start : ℕ} {cells : List ℕ} {read : ℕ} → Sweep s x.words start cells read → SurfaceSwept s a start cells read
surface-swept s a x loaded {start} {cells} {read} w =
    let h = within s x.words w in
    let d = swept s x.words h w in
    record {
      each = d.each ∙ list-cong (cells_of s - start) start (is_set x.words) (interface a.flags) (λ b k l. same s a x loaded b (omega arith));
      cost = d.cost;
      most = omega (arith, d.most, number s a x loaded);
    }
