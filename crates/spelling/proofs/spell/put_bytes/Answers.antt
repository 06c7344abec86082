-- `spelling::spell::put_bytes`: the bytes from that place on. Assumes nothing.
use Rattle.std.proofs.Common.{◌+◌, ◌-◌, refl, sym, ◌∙◌, length, arith}
use Rattle.std.proofs.Math.Seq.{take-length}
use Rattle.std.proofs.lemmas.List.Edits.{sets-eq}
use Rattle.std.proofs.lemmas.Slice.{put_mid-paste}
use Rattle.spelling.proofs.spell.put_bytes.Goals as goal

pub returns : goal.returns
returns c =
    let a = c.args in
    let n = length a.bytes.now in
    record {
      room-is =
          put_mid-paste a.at (a.at + n - a.at) a.room.now _ a.bytes.now n c.copy_from_slice.ensures.after (omega arith) refl
          ∙ rw take-length (sym (sets-eq a.bytes.now a.room.now a.at c.requires));
      end = refl;
    }
