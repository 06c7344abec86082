-- Of the flume reader's own head, the span ends where the flag section does. Assumes nothing.
use mathlib.Core.Path.{◌≡◌, sym, ap, ◌∙◌}
use mathlib.Core.List.{List}
use Prim.Native.Nat.{ℕ, ◌+◌, ◌-◌}
use native.Mathlib.Omega.{arith}
use lib.ListN.{length, drop, length-take, length-drop}
use Rattle.grid.specs.State.{Lent}
use Rattle.flume.specs.Flume.{flume_sides_good, flume_cells}
use Rattle.record.proofs.Spanned.{span-within}
use Rattle.flumerecord.specs.Reading.{flume_flags_at, flume_read_head, flume_read_flags, flume_flags_from}
use Rattle.flumerecord.specs.Promise.{flume_span_of}
use Rattle.flumerecord.proofs.Spanned.{span-read}

-- the claim
pub span-end : (r : List ℕ) (a : Lent) → (flume_span_of r (flume_read_head r a)).to ≡ flume_flags_from r a + length (flume_read_flags r a)
span-end r a =
    let q = flume_read_head r a in
    let p = flume_span_of r q in
    let h = span-within r q.answer (flume_sides_good q.sides) flume_flags_at (flume_cells q.sides) in
    let e = span-read r a in
    omega (arith, h.order, h.most, e.1, sym (ap length e.0) ∙ length-take (p.to - p.from) (drop p.from r), length-drop p.from r)
