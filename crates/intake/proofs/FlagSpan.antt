-- Of the reader's own head, the span begins and ends where the flag section does, and the caller's bytes between are the flags. Assumes nothing.
use mathlib.Core.Path.{◌≡◌, refl, sym, ap, ◌∙◌}
use mathlib.Core.Bool.{Bool, true, false}
use mathlib.Core.List.{List}
use Prim.Native.Nat.{ℕ, ◌+◌, ◌-◌}
use native.Mathlib.Omega.{arith}
use lib.ListN.{length, take, drop, length-take, length-drop}
use Rattle.grid.specs.Outcome.{accepted}
use Rattle.record.specs.Promise.{span_of}
use Rattle.record.proofs.Spanned.{span-inside, span-read}
use Rattle.index.specs.Held.{Held}
use Rattle.intake.specs.Reading.{read_answer, read_head, read_flags, flags_from}

-- the claim
pub record Spans (r : List ℕ) (a : Held) : Type 0 where
  pub bytes : let p = span_of r (read_head r a) in take (p.to - p.from) (drop p.from r) ≡ read_flags r a
  pub begin : (span_of r (read_head r a)).from ≡ flags_from r a
  pub end : (span_of r (read_head r a)).to ≡ flags_from r a + length (read_flags r a)

part : (r : List ℕ) (a : Held) → let p = span_of r (read_head r a) in (take (p.to - p.from) (drop p.from r) ≡ read_flags r a) × (p.from ≡ flags_from r a)
unfolding read_head read_flags flags_from
part r a = go (accepted (read_answer r a)) refl
  where
    go : (t : Bool) → accepted (read_answer r a) ≡ t → let p = span_of r (read_head r a) in (take (p.to - p.from) (drop p.from r) ≡ read_flags r a) × (p.from ≡ flags_from r a)
    go true e = rw e (span-read r a.set)
    go false e = rw (e, e) (refl, refl)

pub spans : (r : List ℕ) (a : Held) → Spans r a
spans r a =
    let p = span_of r (read_head r a) in
    let h = span-inside r (read_head r a) in
    let e = part r a in
    record {
      bytes = e.0;
      begin = e.1;
      end = omega (arith, h.order, h.most, e.1, sym (ap length e.0) ∙ length-take (p.to - p.from) (drop p.from r), length-drop p.from r);
    }
