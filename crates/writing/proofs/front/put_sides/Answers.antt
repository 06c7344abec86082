-- `writing::front::put_sides` writes section 1, number after number. Assumes nothing.
use borrow.Author.Rules.{rules}
use mathlib.Core.Path.{refl}
use native.Mathlib.Omega.{arith}
use mathlib.Core.List.{◌++◌}
use Rattle.grid.proofs.GoodSides.{good-sides}
use Rattle.record.specs.Bytes.{bytes_of, join, u32_of}
use Rattle.record.proofs.Numbers.{then-put}
use Rattle.writing.proofs.front.put_sides.Goals as goal

pub put_count-requires-2 : goal.put_count-requires-2
put_count-requires-2 c = let d = c in record { at_in_bounds = search rules; n_bound = omega (arith, (good-sides d.args.s d.requires.s_value).x.high) }

pub put_count-requires-3 : goal.put_count-requires-3
put_count-requires-3 c = let d = c in record { at_in_bounds = search rules; n_bound = omega (arith, (good-sides d.args.s d.requires.s_value).y.high) }

pub put_count-requires-4 : goal.put_count-requires-4
put_count-requires-4 c = let d = c in record { at_in_bounds = search rules; n_bound = omega (arith, (good-sides d.args.s d.requires.s_value).z.high) }

pub returns : goal.returns
unfolding bytes_of join
returns c =
    let a = c.args in
    let l = a.room.now in
    let one = then-put l 0 4 (u32_of 3) (u32_of a.s.nx) c.put_count.ensures c.put_count-2.ensures refl in
    let two = then-put l 0 8 (u32_of 3 ++ u32_of a.s.nx) (u32_of a.s.ny) one c.put_count-3.ensures refl in
    then-put l 0 12 (u32_of 3 ++ u32_of a.s.nx ++ u32_of a.s.ny) (u32_of a.s.nz) two c.put_count-4.ensures refl
