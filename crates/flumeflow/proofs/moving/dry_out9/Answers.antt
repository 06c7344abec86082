-- `flumeflow::moving::dry_out9` leaves zeros at cell c: it writes them, or finds that they stand there. Assumes nothing.
use mathlib.Core.Path.{◌≡◌, sym, ap, ◌∙◌}
use mathlib.Core.Bool.{true}
use mathlib.Core.List.{List}
use Prim.Native.Nat.{ℕ, ◌+◌, ◌*◌, ◌≤◌, ◌<◌}
use lib.IntN.{ℤ, pos}
use lib.ListN.{length, get_or, replicate, get_or-replicate}
use borrow.Author.Tests.{not-false}
use Rattle.whole.specs.Fold.{tab, all}
use Rattle.whole.specs.laws.Search.{all-at}
use Rattle.whole.specs.laws.Tab.{get_or-tab}
use Rattle.lattice.specs.inner.Held.{parts_of}
use Rattle.lattice.specs.Body.{eq_z}
use Rattle.lattice.proofs.Equal.{eq_z-true}
use Rattle.flume.specs.inner.Spread.{wide}
use Rattle.nine.specs.inner.Cells.{part_of9, pasted9}
use Rattle.nine.proofs.Pasted.{pasted-same}
use Rattle.flumearrivals.proofs.Nines.{part-at, place-low}
use Rattle.flumeflow.proofs.moving.dry_out9.Lts as lts
use Rattle.flumeflow.proofs.moving.dry_out9.Reads as reads
use Rattle.flumeflow.proofs.moving.dry_out9.Tie as tie
use Rattle.flumeflow.proofs.moving.dry_out9.Goals as goal

abbrev At-After-all_zero : Type 0
At-After-all_zero = lts.After-all_zero tie.the-claims reads.Pre reads.Post

abbrev At-After-own9 : Type 0
At-After-own9 = lts.After-own9 tie.the-claims reads.Pre reads.Post

abbrev At-Start : Type 0
At-Start = lts.Start tie.the-claims reads.Pre reads.Post

-- zeros written over zeros
already : (out v : List ℤ) (c : ℕ) → 9 * c + 9 ≤ length out → v ≡ tab 19 (part_of9 out c) → all 19 (λ k. eq_z (parts_of v k) (pos 0)) ≡ true → pasted9 out c (replicate 19 (pos 0)) ≡ out
already out v c room read zeros = pasted-same out c (replicate 19 (pos 0)) room at
  where
    at : (k : ℕ) → k < 9 → get_or out (9 * c + k) (pos 0) ≡ get_or (replicate 19 (pos 0)) (wide k) (pos 0)
    at k h =
        let l = place-low k h in
        sym (ap (λ (x : List ℤ). get_or x (wide k) (pos 0)) read ∙ get_or-tab 19 (part_of9 out c) (pos 0) (wide k) l ∙ part-at out c k h)
        ∙ eq_z-true (parts_of v (wide k)) (pos 0) (all-at 19 (λ i. eq_z (parts_of v i) (pos 0)) zeros (wide k) l)
        ∙ sym (get_or-replicate 19 (wide k) (pos 0) (pos 0) l)

pub returns-else-not-all_zero : goal.returns-else-not-all_zero
unfolding part_of9
returns-else-not-all_zero c =
    let after-all-zero : At-After-all_zero = search in let after-own9 : At-After-own9 = search in let s : At-Start = search in
    sym (already _ _ _ s.requires after-own9.own9.ensures (sym after-all-zero.all_zero.ensures ∙ not-false _ c.if-not-all_zero.false-raw))
