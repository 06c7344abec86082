-- `writing::cells::put_cells` writes sections 5 to 7, one after the other. Assumes nothing.
use mathlib.Core.Path.{refl}
use Prim.Native.Nat.{◌+◌, ◌*◌}
use native.Mathlib.Omega.{arith}
use lib.IntN.{pos}
use lib.ListN.{length, get_or}
use Rattle.record.proofs.Assembled.{cells-put}
use Rattle.writing.proofs.cells.put_cells.Goals as goal

pub returns : goal.returns
returns c =
    let a = c.args in
    let s = a.flags.now in
    cells-put a.from a.w a.room.now s (λ k. get_or a.masses.now k (pos 0)) (λ k j. get_or a.parts.now (a.w * k + j) (pos 0)) (length s) _ refl
    (omega (arith, c.interface_cells.ensures))
    c.put_flag_section.ensures
    c.put_mass_section.ensures
    c.put_part_section.ensures
