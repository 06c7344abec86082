-- `flumewriting::writer::write`: tests, the room, and then the record from the front. Assumes nothing.
use Rattle.std.proofs.Common.{sym, ap, ◌∙◌, List, ◌++◌, ℕ, ◌+◌, ◌*◌, ℤ, pos, length, get_or, w64, arith}
use Rattle.std.proofs.lemmas.List.Edits.{sets}
use mir.ValLaws.{to_z-of_z}
use Rattle.grid.specs.State.{state_of, flag_of}
use Rattle.grid.specs.Outcome.{accepted}
use Rattle.grid.proofs.Handed.{handed-on}
use Rattle.flumegrid.proofs.GoodSides.{few}
use Rattle.record.specs.Places.{length_of}
use Rattle.record.specs.Layout.{interfaces, liquids, cell_sections}
use Rattle.flumerecord.specs.Layout.{flume_counts, flume_head_bytes, flume_record_of, flume_record_length}
use Rattle.flumerecord.proofs.WrittenBy.{level-small, fit, write-refused, write-short, write_done}
use Rattle.flumewriting.proofs.writer.write.Goals as goal

pub returns-in_err-fit : goal.returns-in_err-fit
returns-in_err-fit c = write-refused _ _ _ _ _ (handed-on c.from_residual.result c.from_residual.ensures.1) c.in_err-fit.ensures

pub record_length-long-requires-clause-flags_len_bound : goal.record_length-long-requires-clause-flags_len_bound
record_length-long-requires-clause-flags_len_bound c =
    let f = fit _ _ _ _ (ap accepted (sym c.in_ok-fit.ensures)) in
    omega (arith, f.lengths.flags, few _ f.sides)

pub returns-then-room-long : goal.returns-then-room-long
unfolding flume_record_length state_of
returns-then-room-long c =
    let a = c.args in
    let ok = ap accepted (sym c.in_ok-fit.ensures) in
    let long = ap (λ (n : ℕ). length_of flume_counts 1 n (interfaces n (flag_of a.flags.now)) (9 * liquids n (flag_of a.flags.now))) (fit _ _ _ _ ok).lengths.flags in
    write-short _ _ _ _ _ _ (c.record_length-long.ensures ∙ long) ok c.if-room-long.true

pub bounds-carry-0 : goal.bounds-carry-0
bounds-carry-0 c = omega (arith, (fit _ _ _ _ (ap accepted (sym c.in_ok-fit.ensures))).lengths.carry)

pub put_record-requires : goal.put_record-requires
put_record-requires c =
    let f = fit _ _ _ _ (ap accepted (sym c.in_ok-fit.ensures)) in
    record {
      s_value = f.sides;
      small = level-small _ _ f.site;
      flags_len = f.lengths.flags;
      parts_len = f.lengths.parts;
      masses_len = f.lengths.masses;
      flags_in_bounds = omega (arith, c.record_length-long.ensures, c.if-room-long.false);
    }

pub returns : goal.returns
unfolding flume_record_length flume_record_of state_of
returns c =
    let a = c.args in
    let s = a.flags.now in
    let ok = ap accepted (sym c.in_ok-fit.ensures) in
    let f = fit _ _ _ _ ok in
    let long = ap (λ (n : ℕ). length_of flume_counts 1 n (interfaces n (flag_of s)) (9 * liquids n (flag_of s))) f.lengths.flags in
    let mass : ℕ → ℤ = λ k. get_or a.masses.now k (pos 0) in
    let part : ℕ → ℕ → ℤ = λ k j. get_or a.parts.now (9 * k + j) (pos 0) in
    let carry : ℤ = get_or a.carry.now 0 (pos 0) in
    let put : ℤ → ℕ → List ℕ = λ x n. sets a.room.now 0 (flume_head_bytes a.s a.g a.t x ++ cell_sections 9 n s mass part) in
    write_done _ _ _ _ _ _ _ (c.record_length-long.ensures ∙ long) ok c.if-room-long.false
    (c.put_record.ensures ∙ ap (λ (x : ℤ). put x (length s)) (to_z-of_z w64 carry (record { sfits = c.kept-1.given })) ∙ ap (put carry) f.lengths.flags)
