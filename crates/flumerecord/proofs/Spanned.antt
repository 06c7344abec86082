-- The part that belongs to the flume reader's own head is the flag section, empty beside a refusal: what is handed back is `flume_read_flags`. Assumes nothing.
use mathlib.Core.Path.{◌≡◌, refl, ap, ◌∙◌, subst}
use mathlib.Core.Bool.{Bool, true, false}
use mathlib.Core.List.{List}
use Prim.Native.Nat.{ℕ, ◌+◌, ◌-◌}
use native.Mathlib.Omega.{arith}
use lib.ListN.{length, take, drop}
use denote.Ref.{Bor}
use Rattle.grid.specs.Outcome.{accepted}
use Rattle.grid.specs.State.{Lent}
use Rattle.flume.specs.Flume.{flume_cells}
use Rattle.record.specs.Promise.{Own}
use Rattle.record.proofs.Spanned.{span-accepted}
use Rattle.flumerecord.specs.declared.FlumeHead.{FlumeHead}
use Rattle.flumerecord.specs.Reading.{flume_sides_in, flume_flags_at, flume_cells_in, flume_flags_in, flume_read_answer, flume_read_head, flume_read_flags, flume_flags_from}
use Rattle.flumerecord.specs.Promise.{flume_span_of, FlumeHanded}
use Rattle.flumerecord.proofs.Shaped.{sound, shape-accepted}

-- the claim
abbrev pub Claim : Type 0
Claim = (r : List ℕ) (a : Lent) → let p = flume_span_of r (flume_read_head r a) in (take (p.to - p.from) (drop p.from r) ≡ flume_read_flags r a) × (p.from ≡ flume_flags_from r a)

pub span-read : Claim
unfolding flume_read_head flume_read_flags flume_flags_from flume_flags_in flume_cells_in
span-read r a = go (accepted (flume_read_answer r a)) refl
  where
    go : (t : Bool) → accepted (flume_read_answer r a) ≡ t → let p = flume_span_of r (flume_read_head r a) in (take (p.to - p.from) (drop p.from r) ≡ flume_read_flags r a) × (p.from ≡ flume_flags_from r a)
    go false e = rw (e, e) (refl, refl)
    go true e =
        let k = sound r (length a.parts) (length a.masses) (length a.fills) (length a.carry) (shape-accepted r a e) in
        rw e (span-accepted r flume_flags_at (flume_cells (flume_sides_in r)) k.sides (omega (arith, k.flags.inside)))

pub handed : (s : Bor (List ℕ)) (a : Lent) (h : FlumeHead) (f : Bor (List ℕ)) → h ≡ flume_read_head s.now a → Own s (flume_span_of s.now h) f → FlumeHanded s a f
handed s a h f e own =
    let o : Own s (flume_span_of s.now (flume_read_head s.now a)) f = subst (λ (k : FlumeHead). Own s (flume_span_of s.now k) f) e own in
    record { flags-are = o.bytes ∙ (span-read s.now a).0; block = o.block; place = o.place ∙ ap (λ (n : ℕ). s.ref_ptr.1 + n) (span-read s.now a).1 }
