-- `writing::front::put_settings` writes section 2, number after number. Assumes nothing.
use mathlib.Core.Path.{refl, sym, subst}
use mathlib.Core.List.{◌++◌}
use lib.IntN.{ℤ}
use mir.Syntax.{w32, w64}
use mir.ValLaws.{to_z-of_z}
use native.Mathlib.Omega.{arith}
use Rattle.whole.specs.laws.Machine.{Within}
use Rattle.record.specs.Bytes.{bytes_of, join, u32_of, i32_of}
use Rattle.record.proofs.Numbers.{then-signed}
use Rattle.writing.proofs.front.put_settings.Goals as goal

pub put_setting-requires-5 : goal.put_setting-requires-5
put_setting-requires-5 c =
    let d = c in record {
      at_in_bounds = omega (
        arith,
        d.requires.in_bounds,
        c.put_setting-4.auto.room,
        c.put_setting-3.auto.room,
        c.put_setting-2.auto.room,
        c.put_setting.auto.room,
        c.put_count.auto.room,
      );
      within = subst (λ (z : ℤ). Within z 2147483647) (sym (to_z-of_z w64 d.args.t.edge (record { sfits = c.struct_told-5-1.given.0.1 }))) d.requires.small.edge;
    }

pub returns : goal.returns
unfolding bytes_of join
returns c =
    let a = c.args in
    let l = a.room.now in
    let g = c.struct_told-4-1.given in
    let t = c.struct_told-5-1.given in
    let p = then-signed 4 w64 w32 l 16 20 (u32_of 5) a.g.p c.put_count.ensures c.put_setting.ensures g.0.1 refl in
    let gx = then-signed 4 w64 w32 l 16 24 (u32_of 5 ++ i32_of a.g.p) a.g.gx p c.put_setting-2.ensures g.1.0.1 refl in
    let gy = then-signed 4 w64 w32 l 16 28 (u32_of 5 ++ i32_of a.g.p ++ i32_of a.g.gx) a.g.gy gx c.put_setting-3.ensures g.1.1.0.1 refl in
    let gz =
    then-signed 4 w64 w32 l 16 32 (u32_of 5 ++ i32_of a.g.p ++ i32_of a.g.gx ++ i32_of a.g.gy) a.g.gz gy
    c.put_setting-4.ensures g.1.1.1.0.1 refl in
    then-signed 4 w64 w32 l 16 36 (u32_of 5 ++ i32_of a.g.p ++ i32_of a.g.gx ++ i32_of a.g.gy ++ i32_of a.g.gz) a.t.edge gz
    c.put_setting-5.ensures t.0.1 refl
