-- `writing::writer::write`: tests, the room, and then the record from the front. Assumes nothing.
use Rattle.std.proofs.Common.{sym, ap, ap₂, ◌∙◌, List, ◌++◌, ℕ, ◌+◌, ◌*◌, ℤ, pos, length, get_or, w64, to_z, of_z, arith}
use Rattle.std.proofs.lemmas.List.Edits.{sets}
use mir.ValLaws.{to_z-of_z}
use Rattle.grid.specs.Grid.{cells_of}
use Rattle.grid.specs.State.{state_of, flag_of}
use Rattle.grid.specs.Outcome.{accepted}
use Rattle.grid.proofs.Handed.{handed-on}
use Rattle.grid.proofs.GoodSides.{good-sides}
use Rattle.record.specs.Places.{counts, length_of}
use Rattle.record.specs.Layout.{interfaces, liquids, head_bytes, cells_bytes, record_of, record_length}
use Rattle.record.proofs.WrittenBy.{small, fit, write-refused, write-short, write_done}
use Rattle.writing.proofs.writer.write.Goals as goal

pub returns-in_err-fit : goal.returns-in_err-fit
returns-in_err-fit c = write-refused _ _ _ _ _ (handed-on c.from_residual.result c.from_residual.ensures.1) c.in_err-fit.ensures

pub record_length-long-requires-clause-flags_len_bound : goal.record_length-long-requires-clause-flags_len_bound
unfolding cells_of
record_length-long-requires-clause-flags_len_bound c =
    let f = fit _ _ _ _ (ap accepted (sym c.in_ok-fit.ensures)) in
    omega (arith, f.lengths.flags, (good-sides _ f.sides).all)

pub returns-then-room-long : goal.returns-then-room-long
unfolding record_length state_of
returns-then-room-long c =
    let a = c.args in
    let ok = ap accepted (sym c.in_ok-fit.ensures) in
    let long = ap (λ (n : ℕ). length_of counts 3 n (interfaces n (flag_of a.flags.now)) (19 * liquids n (flag_of a.flags.now))) (fit _ _ _ _ ok).lengths.flags in
    write-short _ _ _ _ _ _ (c.record_length-long.ensures ∙ long) ok c.if-room-long.true

pub bounds-carry-0 : goal.bounds-carry-0
bounds-carry-0 c = omega (arith, (fit _ _ _ _ (ap accepted (sym c.in_ok-fit.ensures))).numbers)

pub bounds-carry-1 : goal.bounds-carry-1
bounds-carry-1 c = omega (arith, (fit _ _ _ _ (ap accepted (sym c.in_ok-fit.ensures))).numbers)

pub bounds-carry-2 : goal.bounds-carry-2
bounds-carry-2 c = omega (arith, (fit _ _ _ _ (ap accepted (sym c.in_ok-fit.ensures))).numbers)

pub put_record-requires : goal.put_record-requires
put_record-requires c =
    let f = fit _ _ _ _ (ap accepted (sym c.in_ok-fit.ensures)) in
    record {
      s_value = f.sides;
      small = small _ _ f.site;
      flags_len = f.lengths.flags;
      parts_len = f.lengths.parts;
      masses_len = f.lengths.masses;
      flags_in_bounds = omega (arith, c.record_length-long.ensures, c.if-room-long.false);
    }

pub returns : goal.returns
unfolding record_length record_of state_of
returns c =
    let a = c.args in
    let s = a.flags.now in
    let ok = ap accepted (sym c.in_ok-fit.ensures) in
    let f = fit _ _ _ _ ok in
    let long = ap (λ (n : ℕ). length_of counts 3 n (interfaces n (flag_of s)) (19 * liquids n (flag_of s))) f.lengths.flags in
    let mass : ℕ → ℤ = λ k. get_or a.masses.now k (pos 0) in
    let part : ℕ → ℕ → ℤ = λ k j. get_or a.parts.now (19 * k + j) (pos 0) in
    let total : ℕ → ℤ = λ k. get_or a.carry.now k (pos 0) in
    let put : ℤ → ℤ → ℤ → ℕ → List ℕ = λ x y z n. sets a.room.now 0 (head_bytes a.s a.g a.t x y z ++ cells_bytes n s mass part) in
    write_done _ _ _ _ _ _ _ (c.record_length-long.ensures ∙ long) ok c.if-room-long.false
    (c.put_record.ensures
    ∙ ap (λ (x : ℤ). put x (to_z w64 (of_z w64 (total 1))) (to_z w64 (of_z w64 (total 2))) (length s)) (to_z-of_z w64 (total 0) (record { sfits = c.kept-1.given }))
    ∙ ap₂ (λ (y z : ℤ). put (total 0) y z (length s)) (to_z-of_z w64 (total 1) (record { sfits = c.poured-1.given })) (to_z-of_z w64 (total 2) (record { sfits = c.taken-1.given }))
    ∙ ap (put (total 0) (total 1) (total 2)) f.lengths.flags)
