-- `lines::records::play` lends the parts of its room that the record asks for, and a record too long none. Assumes nothing.
use mathlib.Core.Path.{refl, sym, ap, ◌∙◌}
use Prim.Native.Nat.{ℕ, ◌*◌}
use native.Mathlib.Omega.{arith}
use lib.Seq.{length-take-le}
use Rattle.lines.proofs.Rooms.{take-low}
use Rattle.lines.proofs.Lines.{told_is}
use Rattle.lines.proofs.records.play.Goals as goal

pub slice_bounds-play-end : goal.slice_bounds-play-end
slice_bounds-play-end c = sym (length-take-le _ _ (omega arith))

pub slice_bounds-play-end-2 : goal.slice_bounds-play-end-2
slice_bounds-play-end-2 c = sym (length-take-le _ _ (omega arith))

pub slice_bounds-play-end-3 : goal.slice_bounds-play-end-3
slice_bounds-play-end-3 c = sym (length-take-le _ _ (omega arith))

pub slice_bounds-play-end-5 : goal.slice_bounds-play-end-5
slice_bounds-play-end-5 c = sym (length-take-le _ _ (omega arith))

pub slice_bounds-play-end-6 : goal.slice_bounds-play-end-6
slice_bounds-play-end-6 c = sym (length-take-le _ _ (omega arith))

pub slice_bounds-play-end-7 : goal.slice_bounds-play-end-7
slice_bounds-play-end-7 c = sym (length-take-le _ _ (omega arith))

pub slice_bounds-play-end-8 : goal.slice_bounds-play-end-8
slice_bounds-play-end-8 c = sym (length-take-le _ _ (omega arith))

pub slice_bounds-play-end-10 : goal.slice_bounds-play-end-10
slice_bounds-play-end-10 c = sym (length-take-le _ _ (omega arith))

pub play-requires : goal.play-requires
play-requires c = record {
  masses_len_bound = take-low c.room-n.result _ 862 (omega arith) (omega arith);
  masses2_len_bound = take-low c.room-n.result _ 862 (omega arith) (omega arith);
  carry_len = refl;
  carry2_len = refl;
}

pub returns : goal.returns
returns c =
    let room = c.room-n.ensures.value in
    let parts = ap (λ (n : ℕ). 19 * n) room in
    c.play.ensures
    ∙ told_is _ _ _ _ (omega arith)
    (record { parts = length-take-le _ _ (omega arith) ∙ parts; masses = length-take-le _ _ (omega arith) ∙ room; fills = length-take-le _ _ (omega arith) ∙ room; carry = refl })
    (record {
      flags = length-take-le _ _ (omega arith) ∙ room;
      parts = length-take-le _ _ (omega arith) ∙ parts;
      masses = length-take-le _ _ (omega arith) ∙ room;
      fills = length-take-le _ _ (omega arith) ∙ room;
      carry = refl;
      marked = length-take-le _ _ (omega arith) ∙ room;
    })
