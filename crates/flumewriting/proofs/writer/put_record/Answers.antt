-- `flumewriting::writer::put_record` writes the first 64 bytes, and the cells behind them. Assumes nothing.
use mathlib.Core.Path.{ap, ◌∙◌, ◌≡◌, sym}
use Prim.Native.Nat.{◌+◌, ◌*◌, ℕ, ◌≤◌}
use lib.IntN.{ℤ, pos}
use lib.ListN.{length, get_or}
use lib.Seq.{sets}
use mir.Syntax.{w64}
use mir.ValLaws.{to_z-of_z}
use mathlib.Core.Bool.{true}
use native.Mathlib.Omega.{arith}
use Rattle.record.specs.Layout.{cell_sections}
use Rattle.flumerecord.specs.Layout.{flume_head_bytes}
use Rattle.record.proofs.Numbers.{then-put}
use Rattle.flumerecord.proofs.Assembled.{length-head}
use Rattle.flumegrid.proofs.GoodSides.{few}
use Rattle.flume.specs.declared.FlumeSides.{FlumeSides}
use Rattle.flume.specs.Flume.{flume_sides_good, flume_cells}
use Rattle.flumewriting.proofs.writer.put_record.Goals as goal

-- N is at most 262,144
small : (s : FlumeSides) {n : ℕ} → flume_sides_good s ≡ true → n ≡ flume_cells s → n ≤ 262144
small s {n} e k = omega (arith, few s e)

pub put_cells-requires : goal.put_cells-requires
put_cells-requires c =
    let d = c in
    record { w_bound = omega arith; flags_in_bounds = omega (arith, d.requires.flags_in_bounds, c.put_head.auto.room); flags_len_bound = small d.args.s d.requires.s_value d.requires.flags_len; parts_len = d.requires.parts_len ∙ ap (λ (n : ℕ). 9 * n) (sym d.requires.flags_len); masses_len = d.requires.masses_len ∙ sym d.requires.flags_len }

pub returns : goal.returns
returns c =
    let d = c in
    let a = d.args in
    let s = a.flags.now in
    then-put a.room.now 0 64 (flume_head_bytes a.s a.g a.t a.carry)
    (cell_sections 9 (length s) s (λ k. get_or a.masses.now k (pos 0)) (λ k j. get_or a.parts.now (9 * k + j) (pos 0)))
    (c.put_head.ensures
    ∙ ap (λ (z : ℤ). sets a.room.now 0 (flume_head_bytes a.s a.g a.t z)) (to_z-of_z w64 a.carry d.ranges.carry))
    c.put_cells.ensures
    (ap (λ (k : ℕ). 0 + k) (length-head a.s a.g a.t a.carry))
