-- `flumewriting::front::put_carry` writes section 4. Assumes nothing.
use mathlib.Core.Path.{refl}
use mir.Syntax.{w64}
use Rattle.record.specs.Bytes.{bytes_of, join, u32_of}
use Rattle.record.proofs.Numbers.{then-signed}
use Rattle.flumewriting.proofs.front.put_carry.Goals as goal

pub returns : goal.returns
unfolding bytes_of join
returns c =
    let first = c in
    let counted = first in
    let d = counted in
    let a = d.args in
    then-signed 8 w64 w64 a.room.now 52 56 (u32_of 1) a.carry counted.put_count.ensures first.put_i64.ensures d.ranges.carry.sfits refl
