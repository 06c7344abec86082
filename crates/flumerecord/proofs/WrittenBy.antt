-- The flume writer's promise, from what its tests give: the laws over any tests in a row, with the flume's. Assumes nothing.
use mathlib.Core.Path.{◌≡◌}
use mathlib.Core.Bool.{true}
use mathlib.Core.List.{List}
use Prim.Native.Nat.{ℕ, ◌≤◌, ◌<◌}
use lib.ListN.{length}
use lib.Seq.{sets}
use Rattle.lattice.specs.Lattice.{d2q9}
use Rattle.grid.specs.Answer.{Answer, Done}
use Rattle.grid.specs.declared.refusals.Refusal.{Refusal}
use Rattle.grid.specs.State.{Lent, state_of}
use Rattle.grid.specs.Outcome.{accepted, or_refuse, good_answer}
use Rattle.grid.proofs.Accepted.{accepted-done, done-accepted}
use Rattle.flume.specs.declared.FlumeSides.{FlumeSides}
use Rattle.flume.specs.declared.FlumeSettings.{FlumeSettings}
use Rattle.flume.specs.Flume.{flume_sides_good, flume_cells, flume_grid, flume_lengths, level_settings}
use Rattle.flumegrid.specs.inner.Ready.{FlumeSized}
use Rattle.flumegrid.proofs.Checks.{sized}
use Rattle.record.specs.inner.Small.{Small}
use Rattle.record.specs.Writing.{Written, room_test}
use Rattle.record.proofs.Answers.{Chain, chain-or, chain-both, chain-then, or-true}
use Rattle.record.proofs.WrittenBy.{small, chain-good, WroteOn, refused-on, short_on, done_on}
use Rattle.flumerecord.specs.declared.FlumeSite.{FlumeSite}
use Rattle.flumerecord.specs.Layout.{level_site, flume_site_good, flume_record_of, flume_record_length}
use Rattle.flumerecord.specs.Writing.{flume_fits, flume_write_answer, flume_written, flume_written_room}
use Rattle.flumerecord.specs.Promise.{FlumeWrote}
use Rattle.flumerecord.proofs.Assembled.{length-record}
use Rattle.grid.specs.declared.refusals.Refusal.TheVariants.{BadLength, BadRoom, BadSetting, BadSides}
use Rattle.std.specs.Prelude.{Ok, Err}

-- settings in their ranges fit the record's numbers
pub level-small : (g : FlumeSettings) (t : FlumeSite) → flume_site_good g t ≡ true → Small (level_settings g) (level_site t)
unfolding flume_site_good
level-small g t e = small (level_settings g) (level_site t) e

module _ (s : FlumeSides) (g : FlumeSettings) (t : FlumeSite) (a : Lent) where
  pub chain_fits : Chain (flume_fits s g t a)
  chain_fits =
      let S = flume_sides_good s in
      let A = flume_lengths (flume_cells s) a in
      let T = flume_site_good g t in
      let G = good_answer d2q9 (flume_grid s) (state_of 8 a) in
      chain-then (or_refuse S BadSides) (λ rest. or_refuse A BadLength (or_refuse T (BadSetting 0) (G rest))) (chain-or S BadSides)
      (chain-then (or_refuse A BadLength) (λ rest. or_refuse T (BadSetting 0) (G rest)) (chain-or A BadLength)
      (chain-then (or_refuse T (BadSetting 0)) G (chain-or T (BadSetting 0)) (chain-good d2q9 (flume_grid s) (state_of 8 a))))

  -- a set that passed them
  pub record Fit : Type 0 where
    pub sides : flume_sides_good s ≡ true
    pub lengths : FlumeSized (flume_cells s) a
    pub site : flume_site_good g t ≡ true
    pub good : good_answer d2q9 (flume_grid s) (state_of 8 a) Done ≡ Done

  pub fit : accepted (flume_fits s g t a Done) ≡ true → Fit
  fit e =
      let S = flume_sides_good s in
      let A = flume_lengths (flume_cells s) a in
      let T = flume_site_good g t in
      let G = good_answer d2q9 (flume_grid s) (state_of 8 a) in
      let one = chain-both (or_refuse S BadSides) (λ rest. or_refuse A BadLength (or_refuse T (BadSetting 0) (G rest))) (chain-or S BadSides) e in
      let two = chain-both (or_refuse A BadLength) (λ rest. or_refuse T (BadSetting 0) (G rest)) (chain-or A BadLength) one.1 in
      let three = chain-both (or_refuse T (BadSetting 0)) G (chain-or T (BadSetting 0)) two.1 in
      record {
        sides = or-true S BadSides one.0;
        lengths = sized (flume_cells s) a (or-true A BadLength two.0);
        site = or-true T (BadSetting 0) three.0;
        good = accepted-done (G Done) three.1;
      }

  module _ (room : List ℕ) where
    abbrev last : Answer
    last = room_test (flume_record_length s a) room

    -- refused by a test or for want of room, or written
    wrote : {w : Written} {after : List ℕ} → WroteOn (flume_fits s g t a last) (flume_record_of s g t a) (flume_record_length s a) room w after → FlumeWrote s g t a room w after
    unfolding flume_written flume_written_room flume_write_answer
    wrote p = record { answer-is = p.answer-so; room-is = p.room-so }

    pub write-refused : {w : Written} {r : Refusal} → w ≡ Err r → Err r ≡ flume_fits s g t a Done → FlumeWrote s g t a room w room
    write-refused h e = wrote (refused-on (flume_fits s g t a) chain_fits (flume_record_of s g t a) (flume_record_length s a) room h e)

    pub write-short : (n : ℕ) → n ≡ flume_record_length s a → accepted (flume_fits s g t a Done) ≡ true → length room < n → FlumeWrote s g t a room (Err (BadRoom n)) room
    write-short n is ok h = wrote (short_on (flume_fits s g t a) chain_fits (flume_record_of s g t a) (flume_record_length s a) room n is ok h)

    pub write_done : (n : ℕ) (after : List ℕ) → n ≡ flume_record_length s a → accepted (flume_fits s g t a Done) ≡ true → n ≤ length room → after ≡ sets room 0 (flume_record_of s g t a)
        → FlumeWrote s g t a room (Ok n) after
    write_done n after is ok h e =
        wrote (done_on (flume_fits s g t a) chain_fits (flume_record_of s g t a) (flume_record_length s a) room n after is (length-record s g t a (fit ok).lengths.flags) ok h e)

    -- what an accepted write has shown
    pub write-fit : flume_write_answer s g t a room ≡ Done → Fit
    unfolding flume_write_answer
    write-fit e = fit (chain-both (flume_fits s g t a) (λ rest. last) chain_fits (done-accepted (flume_fits s g t a last) e)).0
