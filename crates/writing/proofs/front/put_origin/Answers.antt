-- `writing::front::put_origin` writes section 3, number after number. Assumes nothing.
use mathlib.Core.Path.{refl}
use mathlib.Core.List.{◌++◌}
use mir.Syntax.{w64}
use Rattle.record.specs.Bytes.{bytes_of, join, u32_of, i64_of}
use Rattle.record.proofs.Numbers.{then-signed}
use Rattle.writing.proofs.front.put_origin.Goals as goal

pub returns : goal.returns
unfolding bytes_of join
returns c =
    let a = c.args in
    let l = a.room.now in
    let t = c.struct_told-3-1.given in
    let one = then-signed 8 w64 w64 l 40 44 (u32_of 3) a.t.x c.put_count.ensures c.put_i64.ensures t.1.0.1 refl in
    let two = then-signed 8 w64 w64 l 40 52 (u32_of 3 ++ i64_of a.t.x) a.t.y one c.put_i64-2.ensures t.1.1.0.1 refl in
    then-signed 8 w64 w64 l 40 60 (u32_of 3 ++ i64_of a.t.x ++ i64_of a.t.y) a.t.z two c.put_i64-3.ensures t.1.1.1.0.1 refl
