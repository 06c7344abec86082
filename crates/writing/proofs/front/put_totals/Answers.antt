-- `writing::front::put_totals` writes section 4, number after number. Assumes nothing.
use mathlib.Core.Path.{refl}
use mathlib.Core.List.{◌++◌}
use mir.Syntax.{w64}
use Rattle.record.specs.Bytes.{bytes_of, join, u32_of, i64_of}
use Rattle.record.specs.Layout.{totals_bytes}
use Rattle.record.proofs.Numbers.{then-signed}
use Rattle.writing.proofs.front.put_totals.Goals as goal

pub returns : goal.returns
unfolding bytes_of join totals_bytes
returns c =
    let third = c in
    let second = third in
    let first = second in
    let counted = first in
    let d = counted in
    let a = d.args in
    let l = a.room.now in
    let one = then-signed 8 w64 w64 l 68 72 (u32_of 3) a.carry counted.put_count.ensures first.put_i64.ensures d.ranges.carry.sfits refl in
    let two = then-signed 8 w64 w64 l 68 80 (u32_of 3 ++ i64_of a.carry) a.poured one second.put_i64-2.ensures d.ranges.poured.sfits refl in
    then-signed 8 w64 w64 l 68 88 (u32_of 3 ++ i64_of a.carry ++ i64_of a.poured) a.taken two third.put_i64-3.ensures d.ranges.taken.sfits refl
