-- `schemes::testing::entered`: tests 1, 2, 4, 5 and 6 in the outcome's order. Assumes nothing.
use Rattle.std.proofs.Common.{sym, ◌∙◌, arith}
use Rattle.grid.proofs.Inside.{few}
use Rattle.schemes.proofs.Answers.{lengths-told, refuses-sides, refuses-lengths, then-ruled, set-sized, measured}
use Rattle.schemes.proofs.testing.entered.Goals as goal

pub returns-then-not-good_sides : goal.returns-then-not-good_sides
returns-then-not-good_sides c = refuses-sides _ _ _ _ (sym c.if-not-good_sides.ensures)

pub three_lengths-set-requires : goal.three_lengths-set-requires
three_lengths-set-requires c = omega (arith, c.cells-n.ensures, few _ (sym c.if-not-good_sides.ensures))

pub returns-then-not-set-map : goal.returns-then-not-set-map
returns-then-not-set-map c =
    refuses-lengths _ _ _ _ (sym c.if-not-good_sides.ensures) (sym (lengths-told _ _ _ _ c.cells-n.ensures c.three_lengths-set.ensures) ∙ c.if-not-set-map.true)

pub checked-requires : goal.checked-requires
checked-requires c =
    let g = sym c.if-not-good_sides.ensures in
    let l = sym (lengths-told _ _ _ _ c.cells-n.ensures c.three_lengths-set.ensures) ∙ c.if-not-set-map.false in
    (measured _ _ _ _ g l, set-sized _ _ _ _ g l)

pub returns : goal.returns
returns c =
    c.checked.ensures ∙ then-ruled _ _ _ _ (sym c.if-not-good_sides.ensures) (sym (lengths-told _ _ _ _ c.cells-n.ensures c.three_lengths-set.ensures) ∙ c.if-not-set-map.false)
