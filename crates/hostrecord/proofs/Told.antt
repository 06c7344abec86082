-- From a layer's own promise to the exported call's: number and place of the answer, the rest as it stands. Assumes nothing.
use mathlib.Core.Path.{◌≡◌, ap, ◌∙◌, subst}
use mathlib.Core.List.{List}
use Prim.Native.Nat.{ℕ, ◌-◌}
use lib.IntN.{ℤ}
use lib.ListN.{take, drop}
use Rattle.lattice.specs.declared.Settings.{Settings}
use Rattle.grid.specs.declared.Sides.{Sides}
use Rattle.grid.specs.State.{Lent}
use Rattle.grid.specs.Outcome.{number_of, place_of}
use Rattle.record.specs.declared.Site.{Site}
use Rattle.record.specs.Writing.{Written, written_number, written_place, written_bytes}
use Rattle.record.specs.declared.Head.{Head}
use Rattle.record.specs.declared.Span.{Span}
use Rattle.record.specs.Layout.{recorded}
use Rattle.record.specs.Promise.{Wrote, span_of}
use Rattle.index.specs.Index.{Index}
use Rattle.index.specs.Held.{Held}
use Rattle.intake.specs.Promise.{Read}
use Rattle.intake.proofs.FlagSpan.{spans}
use Rattle.hostrecord.specs.Promise.{ReadTold, WriteTold}

-- and so is the site
pub write-told : {s : Sides} {g k : Settings} {t u : Site} {a : Lent} {room : List ℕ} {w : Written} {number place bytes : ℕ} {after : List ℕ}
    → k ≡ g → u ≡ t → Wrote s k u a room w after → number ≡ written_number w → place ≡ written_place w → bytes ≡ written_bytes w
    → WriteTold s g t a room number place bytes after
write-told {s} {k = k} {t = t} {a = a} {room = room} {number = number} {place = place} {bytes = bytes} {after = after} e f h n p b =
    subst (λ (x : Settings). WriteTold s x t a room number place bytes after) e
    (subst (λ (x : Site). WriteTold s k x a room number place bytes after) f
    (record {
      number_is = n ∙ ap written_number h.answer-is;
      place_is = p ∙ ap written_place h.answer-is;
      bytes-are = b ∙ ap written_bytes h.answer-is;
      room-is = h.room-is;
    }))

-- the head's numbers, and where its flags stand
pub read_told : {r : List ℕ} {a : Held} {head : Head} {span : Span} {number place : ℕ} {s : Sides} {g : Settings} {t : Site} {parts masses : List ℤ} {fills : List ℕ} {carry : List ℤ} {index : Index}
    → Read r a head parts masses fills carry index → span ≡ span_of r head → number ≡ number_of head.answer → place ≡ place_of head.answer
    → s ≡ head.sides → g ≡ recorded head.settings → t ≡ head.site
    → ReadTold r a number place s g t span.from span.to parts masses fills carry index
read_told {r} {a} h f n p es eg et =
    let e = f ∙ ap (span_of r) h.head-is in
    record {
      number_is = n ∙ ap (λ (x : Head). number_of x.answer) h.head-is;
      place_is = p ∙ ap (λ (x : Head). place_of x.answer) h.head-is;
      sides-are = es ∙ ap (λ (x : Head). x.sides) h.head-is;
      settings-are = eg ∙ ap (λ (x : Head). recorded x.settings) h.head-is;
      site-is = et ∙ ap (λ (x : Head). x.site) h.head-is;
      from_is = ap (λ (x : Span). x.from) e ∙ (spans r a).begin;
      to_is = ap (λ (x : Span). x.to) e ∙ (spans r a).end;
      flags-are = ap (λ (x : Span). take (x.to - x.from) (drop x.from r)) e ∙ (spans r a).bytes;
      parts_are = h.parts_are;
      masses-are = h.masses-are;
      fills-are = h.fills-are;
      carry-is = h.carry-is;
      index_is = h.index_is;
    }
