-- `writing::cells::put_mass_section` writes section 6. Assumes nothing.
use native.Mathlib.Omega.{arith}
use lib.IntN.{pos}
use lib.ListN.{length, get_or}
use Rattle.grid.specs.State.{flag_of}
use Rattle.record.specs.Layout.{interfaces, mass_bytes}
use Rattle.record.proofs.Gathered.{interfaces-most, section-put}
use Rattle.writing.proofs.cells.put_mass_section.Goals as goal

pub put_count-requires : goal.put_count-requires
put_count-requires c =
    let d = c in
    let s = d.args.flags.now in
    record { at_in_bounds = omega (arith, d.requires.flags_in_bounds); n_bound = omega (arith, d.requires.flags_len_bound, c.interface_cells.ensures, interfaces-most (length s) (flag_of s)) }

pub returns : goal.returns
returns c =
    let a = c.args in
    let s = a.flags.now in
    section-put a.room.now a.at (interfaces (length s) (flag_of s)) _ (mass_bytes (length s) (flag_of s) (λ k. get_or a.masses.now k (pos 0)))
    c.put_count.ensures c.interface_cells.ensures c.put_masses.ensures
