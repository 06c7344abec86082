-- `grid::normal::seen`: the cell itself for a wall, else the cell that is there. Assumes nothing.
use Rattle.grid.proofs.Slopes.{seen-wall, seen_other}
use Rattle.grid.proofs.normal.seen.Goals as goal

pub returns-then-flags-b-gt2 : goal.returns-then-flags-b-gt2
returns-then-flags-b-gt2 c =
    let s = c.before.before.before in
    seen-wall s.args.flags.now s.args.c s.args.b s.requires c.if-flags-b-gt2.true

pub returns : goal.returns
returns c =
    let s = c.before.before.before in
    seen_other s.args.flags.now s.args.c s.args.b s.requires c.if-flags-b-gt2.false
