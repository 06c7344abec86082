-- `writing::cells::record_length` adds up the sections; with N at most 262,144 the sum fits. Assumes nothing.
use mathlib.Core.Path.{ap}
use Prim.Native.Nat.{ℕ, ◌*◌, ◌≤◌}
use native.Mathlib.Nat.{mul-le-mul}
use native.Mathlib.Omega.{arith}
use lib.ListN.{length}
use Rattle.grid.specs.State.{flag_of}
use Rattle.record.proofs.Gathered.{interfaces-most, liquids-most}
use Rattle.writing.proofs.cells.record_length.Lts as lts
use Rattle.writing.proofs.cells.record_length.Reads as reads
use Rattle.writing.proofs.cells.record_length.Tie as tie
use Rattle.writing.proofs.cells.record_length.Goals as goal

abbrev At-After-interface_cells : Type 0
At-After-interface_cells = lts.After-interface_cells tie.the-claims reads.Pre reads.Post tie.handed_clauses

abbrev At-After-liquid_cells : Type 0
At-After-liquid_cells = lts.After-liquid_cells tie.the-claims reads.Pre reads.Post tie.handed_clauses

few-interfaces : (c : At-After-interface_cells) → c.interface_cells.result ≤ 262144
few-interfaces c =
    let s = c.args.flags.now in
    let e = c.interface_cells.ensures in
    let m = interfaces-most (length s) (flag_of s) in
    let n = c.requires.flags_len_bound in
    omega arith

few-parts : (c : At-After-liquid_cells) → c.args.w * c.liquid_cells.result ≤ 19 * 262144
few-parts c =
    let d = c in
    let s = d.args.flags.now in
    let most : c.liquid_cells.result ≤ 262144 = omega (arith, c.liquid_cells.ensures, liquids-most (length s) (flag_of s), d.requires.flags_len_bound) in
    mul-le-mul d.requires.w_bound most

pub overflow_add-result : goal.overflow_add-result
overflow_add-result c = record { fits = omega (arith, c.requires.from_bound) }

pub overflow_add-result-2 : goal.overflow_add-result-2
overflow_add-result-2 c = record { fits = omega (arith, c.requires.flags_len_bound, c.requires.from_bound) }

pub overflow_mul-result : goal.overflow_mul-result
overflow_mul-result c = record { fits = omega (arith, few-interfaces c.before) }

pub overflow_add-result-3 : goal.overflow_add-result-3
overflow_add-result-3 c = record { fits = omega (arith, few-interfaces c.before, c.requires.flags_len_bound, c.requires.from_bound) }

pub overflow_mul-result-2 : goal.overflow_mul-result-2
overflow_mul-result-2 c = record { fits = omega (arith, few-parts c.before) }

pub overflow_mul-result-3 : goal.overflow_mul-result-3
overflow_mul-result-3 c = record { fits = omega (arith, few-parts c.before) }

pub overflow_add-result-4 : goal.overflow_add-result-4
overflow_add-result-4 c = record { fits = omega (arith, few-parts c.before, few-interfaces c.before.before, c.requires.flags_len_bound, c.requires.from_bound) }

pub returns : goal.returns
returns c = omega (arith, c.interface_cells.ensures, ap (λ (k : ℕ). c.args.w * k) c.liquid_cells.ensures)
