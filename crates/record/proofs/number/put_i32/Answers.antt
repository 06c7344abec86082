-- `record::number::put_i32` writes the bytes of the number's bits. Assumes nothing.
use mathlib.Core.Path.{ap, ◌∙◌}
use Prim.Native.Nat.{ℕ}
use lib.Seq.{sets}
use mir.Syntax.{w32}
use mir.Val.{of_z}
use mir.ValLaws.{to_z-of_z}
use Rattle.record.specs.Bytes.{bytes_of}
use Rattle.record.proofs.number.put_i32.Goals as goal

pub returns : goal.returns
returns c =
    let d = c in
    let a = d.args in
    c.put_u32.ensures
    ∙ ap (λ (n : ℕ). sets a.s.now a.at (bytes_of 4 n)) (d.cast_unsigned.ensures ∙ ap (of_z w32) (to_z-of_z w32 a.x d.ranges.x))
