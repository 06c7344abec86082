-- `flumewriting::front::put_sides` writes section 1, number after number. Assumes nothing.
use borrow.Author.Rules.{rules}
use mathlib.Core.Path.{refl}
use native.Mathlib.Omega.{arith}
use mathlib.Core.List.{◌++◌}
use Rattle.record.specs.Bytes.{bytes_of, join, u32_of}
use Rattle.record.proofs.Numbers.{then-put}
use Rattle.flumegrid.proofs.GoodSides.{good-sides}
use Rattle.flumewriting.proofs.front.put_sides.Goals as goal

pub put_count-requires-2 : goal.put_count-requires-2
put_count-requires-2 c = let d = c in record { at_in_bounds = search rules; n_bound = omega (arith, (good-sides d.args.s d.requires.s_value).x.high) }

pub put_count-requires-3 : goal.put_count-requires-3
put_count-requires-3 c = let d = c in record { at_in_bounds = search rules; n_bound = omega (arith, (good-sides d.args.s d.requires.s_value).z.high) }

pub returns : goal.returns
unfolding bytes_of join
returns c =
    let a = c.args in
    let l = a.room.now in
    let one = then-put l 0 4 (u32_of 2) (u32_of a.s.nx) c.put_count.ensures c.put_count-2.ensures refl in
    then-put l 0 8 (u32_of 2 ++ u32_of a.s.nx) (u32_of a.s.nz) one c.put_count-3.ensures refl
