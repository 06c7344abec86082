-- `writing::writer::put_record` writes the first 96 bytes, and the cells behind them. Assumes nothing.
use mathlib.Core.Path.{ap, ap₂, ◌∙◌, ◌≡◌, sym}
use Prim.Native.Nat.{◌+◌, ◌*◌, ℕ, ◌≤◌}
use lib.IntN.{ℤ, pos}
use lib.ListN.{length, get_or}
use lib.Seq.{sets}
use mir.Syntax.{w64}
use mir.Val.{to_z, of_z}
use mir.ValLaws.{to_z-of_z}
use mathlib.Core.Bool.{true}
use native.Mathlib.Omega.{arith}
use Rattle.record.specs.Places.{counts, cells_from}
use Rattle.record.specs.Layout.{head_bytes, cells_bytes}
use Rattle.record.proofs.Numbers.{then-put}
use Rattle.record.proofs.Assembled.{length-head}
use Rattle.grid.specs.declared.Sides.{Sides}
use Rattle.grid.specs.Grid.{sides_good, cells_of}
use Rattle.grid.proofs.GoodSides.{good-sides}
use Rattle.writing.proofs.writer.put_record.Goals as goal

-- N is at most 262,144
small : (s : Sides) {n : ℕ} → sides_good s ≡ true → n ≡ cells_of s → n ≤ 262144
unfolding cells_of
small s {n} e k = omega (arith, (good-sides s e).all)

pub put_cells-requires : goal.put_cells-requires
put_cells-requires c =
    let d = c in
    record { w_bound = omega arith; flags_in_bounds = omega (arith, d.requires.flags_in_bounds, c.put_head.auto.room); flags_len_bound = small d.args.s d.requires.s_value d.requires.flags_len; parts_len = d.requires.parts_len ∙ ap (λ (n : ℕ). 19 * n) (sym d.requires.flags_len); masses_len = d.requires.masses_len ∙ sym d.requires.flags_len }

pub returns : goal.returns
returns c =
    let d = c in
    let a = d.args in
    let s = a.flags.now in
    let head = head_bytes a.s a.g a.t in
    then-put a.room.now 0 (cells_from counts 3) (head a.carry a.poured a.taken)
    (cells_bytes (length s) s (λ k. get_or a.masses.now k (pos 0)) (λ k j. get_or a.parts.now (19 * k + j) (pos 0)))
    (c.put_head.ensures
    ∙ ap (λ (z : ℤ). sets a.room.now 0 (head z (to_z w64 (of_z w64 a.poured)) (to_z w64 (of_z w64 a.taken)))) (to_z-of_z w64 a.carry d.ranges.carry)
    ∙ ap₂ (λ (y z : ℤ). sets a.room.now 0 (head a.carry y z)) (to_z-of_z w64 a.poured d.ranges.poured) (to_z-of_z w64 a.taken d.ranges.taken))
    c.put_cells.ensures
    (ap (λ (k : ℕ). 0 + k) (length-head a.s a.g a.t a.carry a.poured a.taken))
