-- `record::number::put_i64` writes the bytes of the number's bits. Assumes nothing.
use mathlib.Core.Path.{ap, ◌∙◌}
use Prim.Native.Nat.{ℕ}
use lib.Seq.{sets}
use mir.Syntax.{w64}
use mir.Val.{of_z}
use mir.ValLaws.{to_z-of_z}
use Rattle.record.specs.Bytes.{bytes_of}
use Rattle.record.proofs.number.put_i64.Goals as goal

pub returns : goal.returns
returns c =
    let d = c in
    let a = d.args in
    c.put_u64.ensures
    ∙ ap (λ (n : ℕ). sets a.s.now a.at (bytes_of 8 n)) (d.cast_unsigned.ensures ∙ ap (of_z w64) (to_z-of_z w64 a.x d.ranges.x))
