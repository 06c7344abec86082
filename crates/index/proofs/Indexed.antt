-- A set that the check accepts loads with the index that its flags make. Assumes nothing.
use mathlib.Core.Path.{◌≡◌, sym, subst}
use mathlib.Core.Bool.{true, ◌&&◌}
use Prim.Native.Nat.{ℕ}
use lib.Dec.{eqb}
use lib.ListN.{length}
use borrow.Author.Tests.{eq-eqb}
use Rattle.whole.specs.laws.Bools.{and-true}
use Rattle.grid.specs.declared.Sides.{Sides}
use Rattle.grid.specs.Answer.{Done}
use Rattle.grid.specs.Grid.{cells_of, sides_good}
use Rattle.grid.specs.State.{Lent}
use Rattle.grid.proofs.Accepted.{passed}
use Rattle.pumps.specs.Three.{three_lengths, three_answer}
use Rattle.pumps.proofs.Checked.{head-sized}
use Rattle.index.specs.Index.{words_of, index_of, index_sized, index_true}
use Rattle.index.specs.Held.{indexed, Loads}
use Rattle.index.proofs.Flagged.{made-room, made-true}
use Rattle.index.proofs.Answers.{load-done}
use Rattle.grid.proofs.Inside.{few as few-cells}
use Rattle.grid.specs.declared.refusals.Refusal.TheVariants.{BadLength, BadSides}

pub good-loads : (s : Sides) (a : Lent) → three_answer s a ≡ Done → Loads s (indexed s a)
unfolding indexed index_sized three_answer
good-loads s a e =
    let n = cells_of s in
    let one = passed (sides_good s) BadSides _ e in
    let two = passed (three_lengths n a) BadLength _ one.1 in
    let m = made-room n a.flags (few-cells s one.0) in
    sym (load-done s a (index_of n a.flags) one.0
    (and-true (three_lengths n a) (eqb (length (index_of n a.flags).words) (words_of n) && eqb (length (index_of n a.flags).count) 1) two.0
    (and-true (eqb (length (index_of n a.flags).words) (words_of n)) (eqb (length (index_of n a.flags).count) 1) (eq-eqb _ _ m.words) (eq-eqb _ _ m.count)))
    two.1 (subst (λ (k : ℕ). index_true k a.flags (index_of n a.flags) ≡ true) (sym (head-sized s a two.0).flags) (made-true n a.flags)))
