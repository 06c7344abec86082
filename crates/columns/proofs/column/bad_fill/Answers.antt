use borrow.Author.Tests.{lt-ltb, le-ltb}
use Rattle.std.proofs.Common.{◌≡◌, true, sym, arith, below_more}
use Rattle.whole.specs.laws.Search.{first-is, first-all}
use Rattle.tunnel.specs.Depth.{fill_bad}
use Rattle.tunnel.proofs.Columns.{in-column, below_length, few}
use Rattle.columns.proofs.column.bad_fill.Goals as goal

pub number-at-requires : goal.number-at-requires
number-at-requires c = in-column c.loop-z.z c.requires c.loop-z-test.true

pub bounds-fills-at : goal.bounds-fills-at
bounds-fills-at c = rw c.number-at.ensures (below_length c.loop-z.z c.requires c.loop-z-test.true)

pub returns-then-fills-at-gt65536 : goal.returns-then-fills-at-gt65536
unfolding fill_bad
returns-then-fills-at-gt65536 c =
    let e : fill_bad c.args.s c.args.fills.now c.args.x c.args.y c.loop-z.z ≡ true = rw (← c.number-at.ensures) (lt-ltb _ _ c.if-fills-at-gt65536.true) in
    sym (first-is c.args.s.nz (fill_bad c.args.s c.args.fills.now c.args.x c.args.y) c.loop-z.z c.loop-z-test.true c.loop-z.invariant e)

pub loop-z-preserved : goal.loop-z-preserved
unfolding fill_bad
loop-z-preserved c = below_more _ _ c.loop-z.invariant (rw (← c.number-at.ensures) (le-ltb _ _ c.if-fills-at-gt65536.false))

pub returns : goal.returns
returns c = sym (first-all c.args.s.nz (fill_bad c.args.s c.args.fills.now c.args.x c.args.y) (λ j h. c.loop-z.invariant j (omega arith)))

pub offset_bounds-fills-at : goal.offset_bounds-fills-at
offset_bounds-fills-at c = record { fits = omega (arith, few c.requires, below_length c.loop-z.z c.requires c.loop-z-test.true, c.number-at.ensures) }
