-- `arrivals::trading::traded`: nothing from a dry neighbour, from any other the difference of the two parts, by its flag. Assumes nothing.
use borrow.Author.Tests.{not-true, not-false}
use mathlib.Core.Path.{◌≡◌, sym, ◌∙◌, ap, ap₂}
use Prim.Native.Nat.{◌+◌, ◌*◌}
use native.Mathlib.Omega.{arith}
use lib.IntN.{ℤ, pos, ◌-ℤ◌, nat_abs}
use lib.ListN.{get_or}
use mir.Syntax.{w64}
use mir.Val.{to_z, of_z}
use Rattle.whole.specs.laws.Parts.{parts-≤}
use Rattle.lattice.specs.Cell.{exchange}
use Rattle.grid.specs.State.{part_of}
use Rattle.arrivals.specs.inner.Trade.{apart}
use Rattle.arrivals.proofs.Held.{held32, held64, apart_in}
use Rattle.arrivals.proofs.Trades.{passed-fluid, passed-interface, passed-dry}
use Rattle.arrivals.proofs.trading.traded.Lts as lts
use Rattle.arrivals.proofs.trading.traded.Reads as reads
use Rattle.arrivals.proofs.trading.traded.Tie as tie
use Rattle.arrivals.proofs.trading.traded.Goals as goal

abbrev At-After-difference-d : Type 0
At-After-difference-d = lts.After-difference tie.the-claims reads.Pre reads.Post

abbrev At-After-difference-arg-2-1 : Type 0
At-After-difference-arg-2-1 = lts.After-difference-arg2 tie.the-claims reads.Pre reads.Post

abbrev At-After-difference-arg-1 : Type 0
At-After-difference-arg-1 = lts.After-difference-arg tie.the-claims reads.Pre reads.Post

abbrev At-Start : Type 0
At-Start = lts.Start tie.the-claims reads.Pre reads.Post

abbrev At-After-both : Type 0
At-After-both = lts.After-both tie.the-claims reads.Pre reads.Post

abbrev At-After-is_liquid : Type 0
At-After-is_liquid = lts.After-is_liquid tie.the-claims reads.Pre reads.Post

abbrev At-Else-not-is_liquid : Type 0
At-Else-not-is_liquid = lts.Else1 tie.the-claims reads.Pre reads.Post

abbrev At-Else-f-eq2 : Type 0
At-Else-f-eq2 = lts.Else2 tie.the-claims reads.Pre reads.Post

-- the code's difference
apart-is : (c : At-After-difference-d) → let s = c in
    to_z w64 (of_z w64 c.difference-d.result) ≡ apart (part_of s.args.parts.now) s.args.c s.args.b s.args.i s.args.k
apart-is c =
    let after-difference-arg2 : At-After-difference-arg-2-1 = search in let after-difference-arg : At-After-difference-arg-1 = search in let s : At-Start = search in
    held64 c.difference-d.result c.difference-d.type_inv ∙ c.difference-d.ensures
    ∙ ap₂ (λ (x y : ℤ). x -ℤ y)
    (held32 (get_or s.args.parts.now (19 * s.args.b + s.args.k) (pos 0)) after-difference-arg.difference-arg-1.given)
    (held32 (get_or s.args.parts.now (19 * s.args.c + s.args.i) (pos 0)) after-difference-arg2.difference-arg-2-1.given)

-- the code's sum of fills
both_is : (c : At-After-both) → let s = c in
    to_z w64 (of_z w64 c.both.result) ≡ pos (get_or s.args.fills.now s.args.c 0 + get_or s.args.fills.now s.args.b 0)
both_is c = held64 c.both.result c.both.type_inv ∙ c.both.ensures

pub returns-then-not-is_liquid : goal.returns-then-not-is_liquid
returns-then-not-is_liquid c =
    let after-is-liquid : At-After-is_liquid = search in let s : At-Start = search in
    passed-dry s.args.flags.now (part_of s.args.parts.now) s.args.fills.now s.args.c s.args.b s.args.i s.args.k s.requires.3
    (sym after-is-liquid.is_liquid.ensures ∙ not-true _ c.if-not-is_liquid.true-raw)

pub returns-then-f-eq2 : goal.returns-then-f-eq2
returns-then-f-eq2 c =
    let s : At-Start = search in
    apart-is (search)
    ∙ passed-fluid s.args.flags.now (part_of s.args.parts.now) s.args.fills.now s.args.c s.args.b s.args.i s.args.k s.requires.3 c.if-f-eq2.true

pub exchange-requires : goal.exchange-requires
exchange-requires c =
    let after-difference-arg2 : At-After-difference-arg-2-1 = search in let after-difference-arg : At-After-difference-arg-1 = search in let s : At-Start = search in
    let d : At-After-difference-d = search in (
      rw (both_is c.before) (parts-≤ (omega arith)),
      rw (both_is c.before) (record { abs = omega (arith, s.requires.1.low s.args.c s.requires.2, s.requires.1.low s.args.b s.requires.3) }),
      rw (apart-is d) (apart_in (get_or s.args.parts.now (19 * s.args.b + s.args.k) (pos 0)) (get_or s.args.parts.now (19 * s.args.c + s.args.i) (pos 0))
          after-difference-arg.difference-arg-1.given after-difference-arg2.difference-arg-2-1.given),
    )

pub returns : goal.returns
returns c =
    let after-is-liquid : At-After-is_liquid = search in let else1 : At-Else-not-is_liquid = search in let else2 : At-Else-f-eq2 = search in let s : At-Start = search in
    let d : At-After-difference-d = search in
    held64 c.exchange.result c.exchange.type_inv
    ∙ c.exchange.ensures
    ∙ ap (λ (z : ℤ). exchange (nat_abs z) (to_z w64 (of_z w64 d.difference-d.result))) (both_is (search))
    ∙ ap (λ (z : ℤ). exchange (get_or s.args.fills.now s.args.c 0 + get_or s.args.fills.now s.args.b 0) z) (apart-is d)
    ∙ passed-interface s.args.flags.now (part_of s.args.parts.now) s.args.fills.now s.args.c s.args.b s.args.i s.args.k s.requires.3
    (sym after-is-liquid.is_liquid.ensures ∙ not-false _ else1.if-not-is_liquid.false-raw) else2.if-f-eq2.false
