-- `writing::front::put_setting` writes a number that fits. Assumes nothing.
use mathlib.Core.Path.{ap, ◌∙◌}
use lib.IntN.{ℤ}
use lib.Seq.{sets}
use mir.Syntax.{w32, w64}
use mir.ValLaws.{to_z-of_z}
use Rattle.whole.specs.laws.Machine.{machine, w64-in, does-fit}
use Rattle.record.specs.Bytes.{i32_of}
use Rattle.writing.proofs.front.put_setting.Goals as goal

pub overflow_cast-x : goal.overflow_cast-x
overflow_cast-x c = does-fit (search (machine, w64-in) depth 30 fits 5000) tt

pub returns : goal.returns
returns c =
    let d = c in
    let a = d.args in
    c.put_i32.ensures
    ∙ ap (λ (z : ℤ). sets a.room.now a.at (i32_of z)) (to_z-of_z w32 _ (overflow_cast-x c.before.before.before.before) ∙ to_z-of_z w64 a.x d.ranges.x)
