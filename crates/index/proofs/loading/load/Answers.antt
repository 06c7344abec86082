-- `index::loading::load`: the outcome's chain of tests, whatever is lent. Assumes nothing.
use Rattle.std.proofs.Common.{sym, ◌∙◌, arith}
use Rattle.grid.proofs.Handed.{handed-on}
use Rattle.grid.proofs.Inside.{few}
use Rattle.index.proofs.Answers.{load-sides, lengths-told, load-lengths, set-three, index-asked, load-refused, load-untrue, load-done}
use Rattle.index.proofs.loading.load.Goals as goal

pub returns-then-not-good_sides : goal.returns-then-not-good_sides
returns-then-not-good_sides c = load-sides _ _ _ (sym c.if-not-good_sides.ensures)

pub three_lengths-set-requires : goal.three_lengths-set-requires
three_lengths-set-requires c = omega (arith, c.cells-n.ensures, few _ (sym c.if-not-good_sides.ensures))

pub good_lengths-requires : goal.good_lengths-requires
good_lengths-requires c = omega (arith, c.cells-n.ensures, few _ (sym c.if-not-good_sides.ensures))

pub returns-then-not-set-good_lengths : goal.returns-then-not-set-good_lengths
returns-then-not-set-good_lengths c =
    load-lengths _ _ _ (sym c.if-not-good_sides.ensures)
    (sym (lengths-told _ _ _ c.cells-n.ensures c.three_lengths-set.ensures c.good_lengths.ensures) ∙ c.if-not-set-good_lengths.true)

pub checked-requires : goal.checked-requires
checked-requires c = (
  sym c.if-not-good_sides.ensures,
  set-three _ _ _ (sym c.if-not-good_sides.ensures)
      (sym (lengths-told _ _ _ c.cells-n.ensures c.three_lengths-set.ensures c.good_lengths.ensures) ∙ c.if-not-set-good_lengths.false),
)

pub returns-in_err-checked : goal.returns-in_err-checked
returns-in_err-checked c =
    handed-on c.from_residual.result c.from_residual.ensures.1
    ∙ load-refused _ _ _ (sym c.if-not-good_sides.ensures)
    (sym (lengths-told _ _ _ c.cells-n.ensures c.three_lengths-set.ensures c.good_lengths.ensures) ∙ c.if-not-set-good_lengths.false) c.in_err-checked.ensures

pub agrees-requires : goal.agrees-requires
agrees-requires c =
    index-asked _ _ _ (sym c.if-not-good_sides.ensures)
    (sym (lengths-told _ _ _ c.cells-n.ensures c.three_lengths-set.ensures c.good_lengths.ensures) ∙ c.if-not-set-good_lengths.false)

pub returns-then-not-agrees : goal.returns-then-not-agrees
returns-then-not-agrees c =
    load-untrue _ _ _ (sym c.if-not-good_sides.ensures)
    (sym (lengths-told _ _ _ c.cells-n.ensures c.three_lengths-set.ensures c.good_lengths.ensures) ∙ c.if-not-set-good_lengths.false)
    (sym c.in_ok-checked.ensures) (sym c.if-not-agrees.ensures)

pub returns : goal.returns
returns c =
    load-done _ _ _ (sym c.if-not-good_sides.ensures)
    (sym (lengths-told _ _ _ c.cells-n.ensures c.three_lengths-set.ensures c.good_lengths.ensures) ∙ c.if-not-set-good_lengths.false)
    (sym c.in_ok-checked.ensures) (sym c.if-not-agrees.ensures)
