-- `tally::asking::pools`: the outcome's definition, whatever is lent. Assumes nothing.
use Rattle.std.proofs.Common.{sym, ◌∙◌}
use Rattle.grid.proofs.Handed.{handed-on}
use Rattle.pools.proofs.Tested.{refused, has-passed, flagged, too_many, may-list, accepted, cleared, marks-size}
use Rattle.tally.proofs.asking.pools.Goals as goal

pub returns-in_err-entered : goal.returns-in_err-entered
returns-in_err-entered c = rw (handed-on c.from_residual.result c.from_residual.ensures.1) (refused _ _ _ c.in_err-entered.ensures)

pub flood-n-requires : goal.flood-n-requires
flood-n-requires c = let pass = has-passed _ _ _ (sym c.in_ok-entered.ensures) in (flagged _ _ _ pass, pass.marks, pass.work)

pub returns-then-counts-n : goal.returns-then-counts-n
returns-then-counts-n c =
    let ok = sym c.in_ok-entered.ensures in
    let pass = has-passed _ _ _ ok in
    let f = c.flood-n.ensures in
    too_many _ _ _ pass ok f.number_is c.if-counts-n.true (cleared c.clear-then-counts-n.ensures (marks-size f)) (cleared c.clear.ensures (f.size ∙ pass.work))

pub tally-requires : goal.tally-requires
tally-requires c = may-list _ _ _ (has-passed _ _ _ (sym c.in_ok-entered.ensures)) c.flood-n.ensures c.if-counts-n.false

pub returns : goal.returns
returns c =
    let ok = sym c.in_ok-entered.ensures in
    let pass = has-passed _ _ _ ok in
    let f = c.flood-n.ensures in
    accepted _ _ _ pass f c.if-counts-n.false ok (cleared c.clear.ensures (f.size ∙ pass.work)) c.tally.ensures
