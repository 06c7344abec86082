-- `passes::passing::skip_dry`: as cell c is dry, the next wet one lies past it. Assumes nothing.
use mathlib.Core.Path.{◌≡◌, sym, ap, ◌∙◌}
use mathlib.Core.Bool.{true, false≢true}
use mathlib.Core.Logic.{⊎_elim}
use Prim.Native.Nat.{ℕ, ◌≤◌, ◌<◌}
use native.Mathlib.Omega.{arith}
use lib.ListN.{length}
use Rattle.whole.specs.laws.Order.{≤-or}
use Rattle.grid.specs.inner.Passes.{either_liquid}
use Rattle.passes.proofs.passing.skip_dry.Lts as lts
use Rattle.passes.proofs.passing.skip_dry.Reads as reads
use Rattle.passes.proofs.passing.skip_dry.Tie as tie
use Rattle.passes.proofs.passing.skip_dry.Goals as goal

abbrev At-Start : Type 0
At-Start = lts.Start tie.the-claims reads.Pre reads.Post

abbrev At-After-next_wet-e : Type 0
At-After-next_wet-e = lts.After-next_wet tie.the-claims reads.Pre reads.Post

abbrev At-After-unload : Type 0
At-After-unload = lts.After-unload tie.the-claims reads.Pre reads.Post

abbrev At-After-unmark : Type 0
At-After-unmark = lts.After-unmark tie.the-claims reads.Pre reads.Post

-- cell c is not the one
not-here : (s : At-Start) (e : ℕ) → e ≤ s.args.c → s.args.c ≤ e → (e < length s.args.flags.now → either_liquid s.args.flags.now s.args.flags2.now e ≡ true) → ⊥
not-here s e m n w =
    let k : s.args.c ≡ e = omega arith in
    false≢true (sym s.requires.dry ∙ ap (λ (i : ℕ). either_liquid s.args.flags.now s.args.flags2.now i) k ∙ w (omega (arith, s.requires.is-cell)))

pub next_wet-e-requires : goal.next_wet-e-requires
next_wet-e-requires c = let start : At-Start = search in (omega (arith, start.requires.is-cell), start.requires.flags-room)

pub unload-requires : goal.unload-requires
unload-requires c =
    let start : At-Start = search in let after-next-wet : At-After-next_wet-e = search in
    let d = after-next-wet.next_wet-e.ensures.past in
    (d.least, omega (arith, d.most, start.requires.masses-room))

pub unmark-requires : goal.unmark-requires
unmark-requires c =
    let start : At-Start = search in let after-next-wet : At-After-next_wet-e = search in
    let d = after-next-wet.next_wet-e.ensures.past in
    (d.least, omega (arith, d.most, start.requires.marks-room))

pub shape_of-masses2 : goal.shape_of-masses2
shape_of-masses2 c = let after-unload : At-After-unload = search in after-unload.unload.ensures.size

pub shape_of-marks : goal.shape_of-marks
shape_of-marks c = let after-unmark : At-After-unmark = search in after-unmark.unmark.ensures.size

pub returns : goal.returns
returns c =
    let start : At-Start = search in let after-next-wet : At-After-next_wet-e = search in let after-unload : At-After-unload = search in let after-unmark : At-After-unmark = search in
    let w = after-next-wet.next_wet-e.ensures in
    let e = after-next-wet.next_wet-e.result in
    record {
      onward = ⊎_elim (λ m. absurd (not-here start e m w.past.least w.here)) (λ m. m) (≤-or e start.args.c);
      dry = w.past;
      massless = after-unload.unload.ensures;
      unmarked = after-unmark.unmark.ensures;
    }
