use mathlib.Core.Path.{◌≡◌, ◌∙◌, ap}
use mathlib.Core.List.{List}
use Prim.Native.Nat.{ℕ, ◌*◌, ◌≤◌, ◌<◌}
use native.Mathlib.Omega.{arith}
use borrow.Author.Rules.{rules}
use lib.IntN.{ℤ}
use lib.ListN.{length, get_or}
use mir.Syntax.{w64}
use mir.Val.{to_z}
use Rattle.whole.specs.laws.Machine.{Val, machine, known, same, does-fit, reads_as}
use Rattle.lattice.specs.Lattice.{d3q19}
use Rattle.grid.specs.State.{part_of}
use Rattle.grid.specs.inner.Sight.{Around}
use Rattle.flow.specs.inner.Trade.{Traders, trading_of}
use Rattle.arrivals.proofs.Trades.{gain, gained, gained-none, gained-all, first-is, second_is, gained-pair, gain-within, gained-within}
use Rattle.flow.proofs.trading.traded_mass.Goals as goal

-- what stands in m, and what a call gives
module _ {flags : List ℕ} {parts masses : List ℤ} {fills off : List ℕ} {low c : ℕ} (t : Traders flags parts masses fills) (a : Around (length flags) off low c) (f : get_or flags c 3 ≡ 1) {z : ℤ} (n : ℕ) where
  abbrev so_far : n ≤ 18 → z ≡ gained flags (part_of parts) masses fills off low c n → Val z
  so_far h e = same e (known (gained flags (part_of parts) masses fills off low c n) 44826624 (gained-within flags (part_of parts) masses fills off low c (trading_of t) a f n h).abs)

  abbrev one : 1 ≤ n → n < 19 → z ≡ gain flags (part_of parts) masses fills off low c n → Val z
  one h k e = same e (known (gain flags (part_of parts) masses fills off low c n) 2359296 (gain-within flags (part_of parts) masses fills off low c (trading_of t) a f n h k).abs)

pub loop-pair-init : goal.loop-pair-init
loop-pair-init c = search rules ∙ c.wide-m.ensures ∙ search rules ∙ gained-none c.args.flags.now (part_of c.args.parts.now) c.args.masses.now c.args.fills.now c.args.off.now c.args.low c.args.c

pub overflow_add-m : goal.overflow_add-m
overflow_add-m c =
    let m : Val (to_z w64 c.loop-pair.m-bits) = so_far c.requires.0 c.requires.1 c.requires.2 _ (omega arith) c.loop-pair.invariant in
    let x : Val c.traded-m.result = one c.requires.0 c.requires.1 c.requires.2 _ (omega arith) (omega arith) (c.traded-m.ensures ∙ first-is _ _ c.args.masses.now _ _ _ _ _ (omega arith)) in
    does-fit (search machine depth 20) tt

pub overflow_add-m-in-loop-pair : goal.overflow_add-m-in-loop-pair
overflow_add-m-in-loop-pair c =
    let m : Val (to_z w64 c.loop-pair.m-bits) = so_far c.requires.0 c.requires.1 c.requires.2 _ (omega arith) c.loop-pair.invariant in
    let x : Val c.traded-m.result = one c.requires.0 c.requires.1 c.requires.2 _ (omega arith) (omega arith) (c.traded-m.ensures ∙ first-is _ _ c.args.masses.now _ _ _ _ _ (omega arith)) in
    let y : Val c.traded-m-in-loop-pair.result = one c.requires.0 c.requires.1 c.requires.2 _ (omega arith) (omega arith) (c.traded-m-in-loop-pair.ensures ∙ second_is _ _ c.args.masses.now _ _ _ _ _ (omega arith)) in
    does-fit (search machine depth 20) tt

pub loop-pair-preserved : goal.loop-pair-preserved
loop-pair-preserved c =
    let m : Val (to_z w64 c.loop-pair.m-bits) = so_far c.requires.0 c.requires.1 c.requires.2 _ (omega arith) c.loop-pair.invariant in
    let x : Val c.traded-m.result = one c.requires.0 c.requires.1 c.requires.2 _ (omega arith) (omega arith) (c.traded-m.ensures ∙ first-is _ _ c.args.masses.now _ _ _ _ _ (omega arith)) in
    let y : Val c.traded-m-in-loop-pair.result = one c.requires.0 c.requires.1 c.requires.2 _ (omega arith) (omega arith) (c.traded-m-in-loop-pair.ensures ∙ second_is _ _ c.args.masses.now _ _ _ _ _ (omega arith)) in
    reads_as (search machine depth 20) tt ∙ gained-pair _ _ _ _ _ _ _ (2 * c.loop-pair.pair) _ (omega arith)

pub returns : goal.returns
returns c g =
    let e : 2 * c.loop-pair.pair ≡ 18 = omega arith in
    c.loop-pair.invariant ∙ ap (gained _ _ _ _ _ _ _) e ∙ gained-all _ _ _ _ _ _ _ d3q19.weight g
