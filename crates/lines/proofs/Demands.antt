-- The claims of specs/Demands.antt. Assumes nothing.
use mathlib.Core.Path.{◌≡◌, refl, sym, ap, ◌∙◌}
use mathlib.Core.Bool.{Bool, true, false, cond}
use mathlib.Core.List.{List}
use Prim.Native.Nat.{ℕ, ◌*◌, ◌≤◌}
use borrow.Author.Tests.{leb-true, le-leb, lt-leb}
use lib.Dec.{leb}
use lib.ListN.{length}
use Rattle.grid.specs.Answer.{Done}
use Rattle.grid.specs.Grid.{sides_good, grid_of}
use Rattle.grid.specs.Good.{bad_flag}
use Rattle.grid.specs.Outcome.{accepted, next_of}
use Rattle.grid.proofs.Accepted.{done-accepted, passed}
use Rattle.record.specs.Places.{counts}
use Rattle.record.specs.Reading.{sides_in, settings_in, totals_in, cells_in, flag_in, interfaces_in, liquids_in, shapes_on, shape_answer, content_answer, read_answer}
use Rattle.record.proofs.Answers.{chain-both, or-pass, or-fail, whole-there}
use Rattle.record.proofs.Sections.{chain-shapes, shaped, fitted}
use Rattle.lines.specs.declared.playing.Told.{Told}
use Rattle.counts.specs.Counts.{line_of}
use Rattle.lines.specs.Told.{record_answer, state_before, step_of, state_after, refusal, told_of}
use Rattle.lines.specs.Demands.{TooLong, TooMany, AsRead, RoomTaken, Repeated}
use Rattle.lines.proofs.Rooms.{answer_with, room_whole}
use Rattle.grid.specs.declared.refusals.Refusal.TheVariants.{BadEnd, BadLength, BadSides}

pub too_long : TooLong
unfolding record_answer
too_long r h = or-fail (BadEnd 65536) (answer_with r 862) (lt-leb (length r) 65536 h)

short : (r : List ℕ) → length r ≤ 65536 → record_answer r ≡ answer_with r 862
unfolding record_answer
short r h = or-pass (BadEnd 65536) (answer_with r 862) (le-leb (length r) 65536 h)

pub too_many : TooMany
too_many r l h g m = short r l ∙ whole-there r 1 0 3 4 _ h ∙ or-pass BadSides _ g ∙ or-fail BadLength _ (lt-leb (cells_in r) 862 m)

pub as_read : AsRead
unfolding read_answer shape_answer
as_read r a l n fit =
    short r l
    ∙ ap (λ (b : Bool). shapes_on r counts (totals_in r) (cells_in r) (interfaces_in r) (19 * liquids_in r) (sides_good (sides_in r)) b (bad_flag (grid_of (sides_in r)) (flag_in r)) (content_answer r)) (le-leb (cells_in r) 862 n ∙ sym fit)

pub room-taken : RoomTaken
unfolding record_answer
room-taken r e =
    let good = sides_good (sides_in r) in
    let fit = leb (cells_in r) 862 in
    let bad = bad_flag (grid_of (sides_in r)) (flag_in r) in
    let p = passed (leb (length r) 65536) (BadEnd 65536) (answer_with r 862) e in
    let c =
    (chain-both (shapes_on r counts (totals_in r) (cells_in r) (interfaces_in r) (19 * liquids_in r) good fit bad) (λ rest. content_answer r)
    (chain-shapes r counts (totals_in r) (cells_in r) (interfaces_in r) (19 * liquids_in r) good fit bad) (done-accepted (answer_with r 862) p.1)).0 in
    let k = shaped r counts (totals_in r) (cells_in r) (interfaces_in r) (19 * liquids_in r) good fit bad c in
    room_whole r k.first k.sides 862 (leb-true (cells_in r) 862 (fitted r counts (totals_in r) (cells_in r) (interfaces_in r) (19 * liquids_in r) good fit bad c))

pub repeated : Repeated
unfolding told_of state_after
repeated r e = go (accepted (record_answer r)) e
  where
    lines : Bool → Told
    lines t = cond t (record { read = Done; before = line_of (state_before r); step = step_of r; after = line_of (state_after r) }) (refusal (record_answer r))

    go : (t : Bool) → accepted (lines t).step ≡ false → (lines t).after ≡ (lines t).before
    go false p = refl
    go true p = ap (λ (t : Bool). line_of (cond t (next_of (sides_in r) (settings_in r) (state_before r)) (state_before r))) p
