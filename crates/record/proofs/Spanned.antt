-- The span of a head lies within the bytes, and of the reader's own head it is the flag section: what is handed back is `read_flags`. Assumes nothing.
use mathlib.Core.Path.{◌≡◌, refl, ap, ◌∙◌, subst}
use mathlib.Core.Bool.{Bool, true, false, ◌&&◌}
use mathlib.Core.List.{List}
use Prim.Native.Nat.{ℕ, ◌+◌, ◌-◌, ◌≤◌, zero-le}
use native.Mathlib.Omega.{arith}
use lib.Dec.{leb}
use lib.ListN.{length, take, drop}
use denote.Ref.{Bor}
use borrow.Author.Tests.{leb-true, le-leb}
use Rattle.whole.specs.laws.Bools.{and_right}
use Rattle.grid.specs.Grid.{sides_good, cells_of}
use Rattle.grid.specs.Answer.{Answer}
use Rattle.grid.specs.Answer.{Done}
use Rattle.grid.specs.Outcome.{accepted}
use Rattle.grid.specs.State.{Lent}
use Rattle.record.specs.declared.Head.{Head}
use Rattle.record.specs.declared.Span.{Span}
use Rattle.record.specs.Reading.{sides_in, flags_at, cells_in, flags_in, read_answer, read_head, read_flags, flags_from}
use Rattle.record.specs.Bytes.{part}
use Rattle.record.specs.Promise.{span_by, span_of, Own, Handed}
use Rattle.record.proofs.Shaped.{sound, shape-accepted}

-- a span within n bytes
pub record Inside (n : ℕ) (p : Span) : Type 0 where
  pub order : p.from ≤ p.to
  pub most : p.to ≤ n

pub span-within : (r : List ℕ) (answer : Answer) (good : Bool) (at n : ℕ) → Inside (length r) (span_by r answer good at n)
span-within r answer good at n = go (accepted answer && good && leb (at + n) (length r)) refl
  where
    go : (t : Bool) → (accepted answer && good && leb (at + n) (length r)) ≡ t → Inside (length r) (span_by r answer good at n)
    go true e =
        let l : at + n ≤ length r = leb-true (at + n) (length r) (and_right (accepted answer && good) (leb (at + n) (length r)) e) in
        rw e (record { order = omega arith; most = l })
    go false e = rw e (record { order = zero-le; most = zero-le })

pub span-inside : (r : List ℕ) (h : Head) → Inside (length r) (span_of r h)
span-inside r h = span-within r h.answer (sides_good h.sides) (flags_at r) (cells_of h.sides)

-- a part that lies within, behind an accepted answer, and the empty one beside a refusal
pub span-accepted : (r : List ℕ) {good : Bool} (at n : ℕ) → good ≡ true → at + n ≤ length r → let p = span_by r Done good at n in (take (p.to - p.from) (drop p.from r) ≡ part n at r) × (p.from ≡ at)
span-accepted r at n g h =
    let m : at + n - at ≡ n = omega arith in
    rw (g, le-leb (at + n) (length r) h) (ap (λ (k : ℕ). take k (drop at r)) m, refl)

-- ---- the claim: of the reader's own head, the part is the flag section, or empty beside a refusal
abbrev pub Claim : Type 0
Claim = (r : List ℕ) (a : Lent) → let p = span_of r (read_head r a) in (take (p.to - p.from) (drop p.from r) ≡ read_flags r a) × (p.from ≡ flags_from r a)

pub span-read : Claim
unfolding read_head read_flags flags_from flags_in cells_in
span-read r a = go (accepted (read_answer r a)) refl
  where
    go : (t : Bool) → accepted (read_answer r a) ≡ t → let p = span_of r (read_head r a) in (take (p.to - p.from) (drop p.from r) ≡ read_flags r a) × (p.from ≡ flags_from r a)
    go false e = rw (e, e) (refl, refl)
    go true e =
        let k = sound r (length a.parts) (length a.masses) (length a.fills) (length a.carry) (shape-accepted r a e) in
        rw e (span-accepted r (flags_at r) (cells_of (sides_in r)) k.sides (omega (arith, k.flags.inside)))

-- the part that belongs to the reader's own head is what the reader is to hand back
pub handed : (s : Bor (List ℕ)) (a : Lent) (h : Head) (f : Bor (List ℕ)) → h ≡ read_head s.now a → Own s (span_of s.now h) f → Handed s a f
handed s a h f e own =
    let o : Own s (span_of s.now (read_head s.now a)) f = subst (λ (k : Head). Own s (span_of s.now k) f) e own in
    record { flags-are = o.bytes ∙ (span-read s.now a).0; block = o.block; place = o.place ∙ ap (λ (n : ℕ). s.ref_ptr.1 + n) (span-read s.now a).1 }
