-- `flow::moving::dry_out` leaves zeros at cell c: it writes them, or finds that they stand there. Assumes nothing.
use mathlib.Core.Path.{◌≡◌, sym, ap, ◌∙◌}
use mathlib.Core.Bool.{true}
use mathlib.Core.List.{List}
use Prim.Native.Nat.{ℕ, ◌+◌, ◌*◌, ◌≤◌}
use lib.IntN.{ℤ, pos}
use lib.ListN.{length, get_or, replicate, get_or-replicate, length-replicate}
use Rattle.whole.specs.Fold.{tab, all}
use Rattle.whole.specs.laws.Search.{all-at}
use Rattle.whole.specs.laws.Tab.{get_or-tab}
use Rattle.lattice.specs.inner.Held.{parts_of}
use Rattle.lattice.specs.Body.{eq_z}
use Rattle.grid.specs.inner.Pasted.{pasted}
use Rattle.lattice.proofs.Equal.{eq_z-true}
use Rattle.grid.proofs.Blocks.{pasted-same}
use borrow.Author.Tests.{not-false}
use Rattle.flow.proofs.moving.dry_out.Lts as lts
use Rattle.flow.proofs.moving.dry_out.Reads as reads
use Rattle.flow.proofs.moving.dry_out.Tie as tie
use Rattle.flow.proofs.moving.dry_out.Goals as goal

abbrev At-After-all_zero : Type 0
At-After-all_zero = lts.After-all_zero tie.the-claims reads.Pre reads.Post

abbrev At-After-own : Type 0
At-After-own = lts.After-own tie.the-claims reads.Pre reads.Post

abbrev At-Start : Type 0
At-Start = lts.Start tie.the-claims reads.Pre reads.Post

-- zeros written over zeros
already : (out v : List ℤ) (c : ℕ) → 19 * c + 19 ≤ length out → v ≡ tab 19 (λ k. get_or out (19 * c + k) (pos 0)) → all 19 (λ k. eq_z (parts_of v k) (pos 0)) ≡ true
    → pasted out (19 * c) (replicate 19 (pos 0)) ≡ out
already out v c room read zeros =
    pasted-same out (19 * c) (replicate 19 (pos 0)) room (length-replicate 19 (pos 0))
    (λ k h.
    sym (ap (λ (x : List ℤ). get_or x k (pos 0)) read ∙ get_or-tab 19 (λ i. get_or out (19 * c + i) (pos 0)) (pos 0) k h)
    ∙ eq_z-true (parts_of v k) (pos 0) (all-at 19 (λ i. eq_z (parts_of v i) (pos 0)) zeros k h)
    ∙ sym (get_or-replicate 19 k (pos 0) (pos 0) h))

pub returns-else-not-all_zero : goal.returns-else-not-all_zero
returns-else-not-all_zero c =
    let after-all-zero : At-After-all_zero = search in let after-own : At-After-own = search in let s : At-Start = search in
    sym (already _ _ _ s.requires after-own.own.ensures (sym after-all-zero.all_zero.ensures ∙ not-false _ c.if-not-all_zero.false-raw))
