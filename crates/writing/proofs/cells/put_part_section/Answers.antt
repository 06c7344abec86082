-- `writing::cells::put_part_section` writes section 7. Assumes nothing.
use mathlib.Core.Path.{ap}
use Prim.Native.Nat.{ℕ, ◌+◌, ◌*◌, ◌≤◌}
use native.Mathlib.Nat.{mul-le-mul}
use native.Mathlib.Omega.{arith}
use lib.IntN.{pos}
use lib.ListN.{length, get_or}
use Rattle.grid.specs.State.{flag_of}
use Rattle.record.specs.Layout.{liquids, part_numbers}
use Rattle.record.proofs.Gathered.{liquids-most, section-put}
use Rattle.writing.proofs.cells.put_part_section.Lts as lts
use Rattle.writing.proofs.cells.put_part_section.Reads as reads
use Rattle.writing.proofs.cells.put_part_section.Tie as tie
use Rattle.writing.proofs.cells.put_part_section.Goals as goal

abbrev At-After-liquid_cells : Type 0
At-After-liquid_cells = lts.After-liquid_cells tie.the-claims reads.Pre reads.Post tie.handed_clauses

few : (c : At-After-liquid_cells) → c.args.w * c.liquid_cells.result ≤ 19 * 262144
few c =
    let d = c in
    let s = d.args.flags.now in
    let most : c.liquid_cells.result ≤ 262144 = omega (arith, c.liquid_cells.ensures, liquids-most (length s) (flag_of s), d.requires.flags_len_bound) in
    mul-le-mul d.requires.w_bound most

pub overflow_mul-w : goal.overflow_mul-w
overflow_mul-w c = record { fits = omega (arith, few c.before) }

pub put_count-requires : goal.put_count-requires
put_count-requires c =
    let d = c in
    record { at_in_bounds = omega (arith, d.requires.flags_in_bounds); n_bound = omega (arith, few c.before) }

pub returns : goal.returns
returns c =
    let a = c.args in
    let s = a.flags.now in
    section-put a.room.now a.at (a.w * liquids (length s) (flag_of s)) _ (part_numbers a.w (length s) (flag_of s) (λ k j. get_or a.parts.now (a.w * k + j) (pos 0)))
    c.put_count.ensures (ap (λ (i : ℕ). a.w * i) c.liquid_cells.ensures) c.put_parts.ensures
