-- The writer's promise, from what its tests give. Assumes nothing.
use mathlib.Core.Path.{◌≡◌, refl, sym, ap, ◌∙◌}
use mathlib.Core.Bool.{true, ◌&&◌}
use mathlib.Core.List.{List}
use Prim.Native.Nat.{ℕ, ◌≤◌, ◌<◌}
use native.Mathlib.Omega.{arith}
use borrow.Author.Tests.{le-leb, lt-leb}
use lib.Dec.{leb}
use lib.IntN.{nat_abs}
use lib.ListN.{length}
use lib.Seq.{sets}
use Rattle.whole.specs.laws.Bools.{and_left}
use Rattle.lattice.specs.Cell.{edge_good, coordinate_good}
use Rattle.grid.specs.declared.Sides.{Sides}
use Rattle.grid.specs.Answer.{Answer, Done}
use Rattle.grid.specs.declared.refusals.Refusal.{Refusal}
use Rattle.grid.specs.Grid.{sides_good, cells_of}
use Rattle.grid.specs.State.{Lent}
use Rattle.grid.specs.Outcome.{accepted, or_refuse}
use Rattle.grid.proofs.Accepted.{accepted-done, done-accepted}
use Rattle.pumps.specs.Three.{three_lengths, three_good}
use Rattle.pumps.proofs.Checked.{Passed, has-passed, then-checked}
use Rattle.record.proofs.Answers.{Chain, chain-or, chain-both, chain-then, or-true, or-pass, or-fail}
use Rattle.record.proofs.Assembled.{front-put}
use Rattle.depths.specs.declared.Corner.{Corner}
use Rattle.depths.specs.inner.Asks.{Measured}
use Rattle.depths.specs.Outcome.{map_of, corner_good, map_answer, map_written, map_room, Wrote}
use Rattle.depths.proofs.Measuring.{measured}
use Rattle.record.proofs.WrittenBy.{chain-three}
use Rattle.grid.specs.declared.refusals.Refusal.TheVariants.{BadLength, BadRoom, BadSetting, BadSides}
use Rattle.std.specs.Prelude.{cond, ◌++◌, drop, Ok, Err}
use Rattle.record.specs.Writing.{Written, written_on}

-- ---- tests 1 to 6 in a row

module _ (s : Sides) (t : Corner) (a : Lent) where
  abbrev pub fits : Answer → Answer
  fits rest = or_refuse (sides_good s) BadSides (or_refuse (three_lengths (cells_of s) a) BadLength (or_refuse (corner_good t) (BadSetting 0) (three_good s a rest)))

  chain_fits : Chain fits
  chain_fits =
      let S = sides_good s in
      let A = three_lengths (cells_of s) a in
      let T = corner_good t in
      let G = three_good s a in
      chain-then (or_refuse S BadSides) (λ rest. or_refuse A BadLength (or_refuse T (BadSetting 0) (G rest))) (chain-or S BadSides)
      (chain-then (or_refuse A BadLength) (λ rest. or_refuse T (BadSetting 0) (G rest)) (chain-or A BadLength)
      (chain-then (or_refuse T (BadSetting 0)) G (chain-or T (BadSetting 0)) (chain-three s a)))

  -- a grid that passed them
  pub record Fit : Type 0 where
    pub set : Passed s a
    pub corner : corner_good t ≡ true

  pub fit : accepted (fits Done) ≡ true → Fit
  fit e =
      let S = sides_good s in
      let A = three_lengths (cells_of s) a in
      let T = corner_good t in
      let G = three_good s a in
      let one = chain-both (or_refuse S BadSides) (λ rest. or_refuse A BadLength (or_refuse T (BadSetting 0) (G rest))) (chain-or S BadSides) e in
      let two = chain-both (or_refuse A BadLength) (λ rest. or_refuse T (BadSetting 0) (G rest)) (chain-or A BadLength) one.1 in
      let three = chain-both (or_refuse T (BadSetting 0)) G (chain-or T (BadSetting 0)) two.1 in
      record {
        set = has-passed s a (sym (then-checked s a (or-true S BadSides one.0) (or-true A BadLength two.0)) ∙ accepted-done (G Done) three.1);
        corner = or-true T (BadSetting 0) three.0;
      }

  pub fit-measured : Fit → Measured s (nat_abs t.edge) a.flags a.fills
  unfolding corner_good
  fit-measured f =
      measured s a t.edge f.set
      (and_left (edge_good t.edge) (coordinate_good t.x) (and_left (edge_good t.edge && coordinate_good t.x) (coordinate_good t.y) f.corner))

  module _ (room : List ℕ) where
    abbrev last : Answer
    last = or_refuse (leb (length (map_of s t a)) (length room)) (BadRoom (length (map_of s t a))) Done

    answer-is : map_answer s t a room ≡ fits last
    unfolding map_answer
    answer-is = refl

    -- refused by a test, or for want of room: nothing is written
    refused : {w : Written} {r : Refusal} → w ≡ Err r → Err r ≡ map_answer s t a room → Wrote s t a room w room
    unfolding map_written map_room
    refused h e =
        record {
          answer-is = h ∙ ap (λ (x : Answer). written_on x (length (map_of s t a))) e;
          room-is = ap (λ (x : Answer). cond (accepted x) (map_of s t a ++ drop (length (map_of s t a)) room) room) e;
        }

    pub write-refused : {w : Written} {r : Refusal} → w ≡ Err r → Err r ≡ fits Done → Wrote s t a room w room
    write-refused h e = refused h (e ∙ sym (answer-is ∙ chain_fits.refuses (sym (ap accepted e)) last))

    pub write-short : (n : ℕ) → n ≡ length (map_of s t a) → accepted (fits Done) ≡ true → length room < n → Wrote s t a room (Err (BadRoom n)) room
    write-short n is ok h =
        refused refl
        (ap (λ (p : ℕ). Err (BadRoom p)) is
        ∙ sym (answer-is ∙ chain_fits.passes ok last ∙ or-fail (BadRoom (length (map_of s t a))) Done (lt-leb (length (map_of s t a)) (length room) (omega arith))))

    pub write_done : (n : ℕ) (after : List ℕ) → n ≡ length (map_of s t a) → accepted (fits Done) ≡ true → n ≤ length room → after ≡ sets room 0 (map_of s t a)
        → Wrote s t a room (Ok n) after
    unfolding map_written map_room
    write_done n after is ok h e =
        let done : map_answer s t a room ≡ Done = answer-is ∙ chain_fits.passes ok last ∙ or-pass (BadRoom (length (map_of s t a))) Done (le-leb (length (map_of s t a)) (length room) (omega arith)) in
        record {
          answer-is = rw done (ap Ok is);
          room-is = rw done (e ∙ front-put room (map_of s t a) (omega arith));
        }

    -- what an accepted write has shown
    pub write-fit : map_answer s t a room ≡ Done → Fit
    write-fit e = fit (chain-both fits (λ rest. last) chain_fits (done-accepted (fits last) (sym answer-is ∙ e))).0
