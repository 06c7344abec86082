-- From the flume's own promise to the exported call's: number and place of the answer, the rest as it stands. Assumes nothing.
use mathlib.Core.Path.{◌≡◌, ap, ◌∙◌, subst}
use mathlib.Core.List.{List}
use Prim.Native.Nat.{ℕ, ◌-◌}
use lib.IntN.{ℤ}
use lib.ListN.{take, drop}
use Rattle.grid.specs.State.{Lent}
use Rattle.grid.specs.Outcome.{number_of, place_of}
use Rattle.flume.specs.declared.FlumeSides.{FlumeSides}
use Rattle.flume.specs.declared.FlumeSettings.{FlumeSettings}
use Rattle.record.specs.Writing.{Written, written_number, written_place, written_bytes}
use Rattle.record.specs.declared.Span.{Span}
use Rattle.flumerecord.specs.declared.FlumeSite.{FlumeSite}
use Rattle.flumerecord.specs.declared.FlumeHead.{FlumeHead}
use Rattle.flumerecord.specs.Layout.{flume_recorded}
use Rattle.flumerecord.specs.Promise.{FlumeRead, FlumeWrote, flume_span_of}
use Rattle.flumerecord.proofs.Spanned.{span-read}
use Rattle.hostflumerecord.specs.Promise.{FlumeReadTold, FlumeWriteTold}
use Rattle.hostflumerecord.proofs.FlagSpan.{span-end}

-- settings k and site u that the flume was given are the call's own, g and t
pub write-told : {s : FlumeSides} {g k : FlumeSettings} {t u : FlumeSite} {a : Lent} {room : List ℕ} {w : Written} {number place bytes : ℕ} {after : List ℕ}
    → k ≡ g → u ≡ t → FlumeWrote s k u a room w after → number ≡ written_number w → place ≡ written_place w → bytes ≡ written_bytes w
    → FlumeWriteTold s g t a room number place bytes after
write-told {s} {k = k} {t = t} {a = a} {room = room} {number = number} {place = place} {bytes = bytes} {after = after} e f h n p b =
    subst (λ (x : FlumeSettings). FlumeWriteTold s x t a room number place bytes after) e
    (subst (λ (x : FlumeSite). FlumeWriteTold s k x a room number place bytes after) f
    (record {
      number_is = n ∙ ap written_number h.answer-is;
      place_is = p ∙ ap written_place h.answer-is;
      bytes-are = b ∙ ap written_bytes h.answer-is;
      room-is = h.room-is;
    }))

-- the head's numbers, and where its flags stand
pub read_told : {r : List ℕ} {a : Lent} {head : FlumeHead} {span : Span} {number place : ℕ} {s : FlumeSides} {g : FlumeSettings} {t : FlumeSite} {parts masses : List ℤ} {fills : List ℕ} {carry : List ℤ}
    → FlumeRead r a head parts masses fills carry → span ≡ flume_span_of r head → number ≡ number_of head.answer → place ≡ place_of head.answer
    → s ≡ head.sides → g ≡ flume_recorded head.settings → t ≡ head.site
    → FlumeReadTold r a number place s g t span.from span.to parts masses fills carry
read_told {r} {a} h f n p es eg et =
    let e = f ∙ ap (flume_span_of r) h.head-is in
    record {
      number_is = n ∙ ap (λ (x : FlumeHead). number_of x.answer) h.head-is;
      place_is = p ∙ ap (λ (x : FlumeHead). place_of x.answer) h.head-is;
      sides-are = es ∙ ap (λ (x : FlumeHead). x.sides) h.head-is;
      settings-are = eg ∙ ap (λ (x : FlumeHead). flume_recorded x.settings) h.head-is;
      site-is = et ∙ ap (λ (x : FlumeHead). x.site) h.head-is;
      from_is = ap (λ (x : Span). x.from) e ∙ (span-read r a).1;
      to_is = ap (λ (x : Span). x.to) e ∙ span-end r a;
      flags-are = ap (λ (x : Span). take (x.to - x.from) (drop x.from r)) e ∙ (span-read r a).0;
      parts_are = h.parts_are;
      masses-are = h.masses-are;
      fills-are = h.fills-are;
      carry-is = h.carry-is;
    }
