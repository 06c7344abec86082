use borrow.Author.Tests.{lt-ltb, le-ltb}
use Rattle.std.proofs.Common.{◌≡◌, true, sym, arith, below_more}
use Rattle.whole.specs.laws.Search.{first-is, first-all}
use Rattle.tunnel.specs.Depth.{flag_bad}
use Rattle.tunnel.proofs.Columns.{in-column, below_length}
use Rattle.columns.proofs.column.bad_flag.Goals as goal

pub number-at-requires : goal.number-at-requires
number-at-requires c = in-column c.loop-z.z c.requires c.loop-z-test.true

pub bounds-flags-at : goal.bounds-flags-at
bounds-flags-at c = rw c.number-at.ensures (below_length c.loop-z.z c.requires c.loop-z-test.true)

pub returns-then-flags-at-gt3 : goal.returns-then-flags-at-gt3
unfolding flag_bad
returns-then-flags-at-gt3 c =
    let e : flag_bad c.args.s c.args.flags.now c.args.x c.args.y c.loop-z.z ≡ true = rw (← c.number-at.ensures) (lt-ltb _ _ c.if-flags-at-gt3.true) in
    sym (first-is c.args.s.nz (flag_bad c.args.s c.args.flags.now c.args.x c.args.y) c.loop-z.z c.loop-z-test.true c.loop-z.invariant e)

pub loop-z-preserved : goal.loop-z-preserved
unfolding flag_bad
loop-z-preserved c = below_more _ _ c.loop-z.invariant (rw (← c.number-at.ensures) (le-ltb _ _ c.if-flags-at-gt3.false))

pub returns : goal.returns
returns c = sym (first-all c.args.s.nz (flag_bad c.args.s c.args.flags.now c.args.x c.args.y) (λ j h. c.loop-z.invariant j (omega arith)))
