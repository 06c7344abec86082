use mathlib.Core.Path.{◌≡◌, ◌∙◌, ap}
use mathlib.Core.List.{List}
use Prim.Native.Nat.{ℕ, ◌+◌, ◌*◌, ◌-◌, ◌≤◌, ◌<◌}
use native.Mathlib.Omega.{arith}
use borrow.Author.Rules.{rules}
use lib.IntN.{ℤ}
use lib.ListN.{length, get_or}
use mir.Syntax.{w64}
use mir.Val.{to_z}
use Rattle.whole.specs.laws.Machine.{Val, machine, known, same, does-fit, reads_as}
use Rattle.grid.specs.inner.Sight.{Around}
use Rattle.arrivals.specs.inner.Trade.{passed}
use Rattle.arrivals.proofs.Trades.{amassed-none, amassed-pair}
use Rattle.flume.specs.inner.Spread.{wide}
use Rattle.nine.specs.inner.Cells.{part_of9}
use Rattle.flumearrivals.specs.inner.Seen.{Traders9, trading9}
use Rattle.flumearrivals.proofs.Nines.{nth-pair, nth-second}
use Rattle.flumeflow.proofs.Gains.{gain9, gained9, first-is, second_is, gain-within, gained-within, gained-all}
use Rattle.flumeflow.proofs.trading.traded_mass9.Goals as goal

-- what stands in m, and what a call gives
module _ {flags : List ℕ} {parts masses : List ℤ} {fills off : List ℕ} {low c : ℕ} (t : Traders9 flags parts masses fills) (a : Around (length flags) off low c) (f : get_or flags c 3 ≡ 1) {z : ℤ} where
  abbrev so_far : (n : ℕ) → n ≤ 8 → z ≡ gained9 flags parts masses fills off low c n → Val z
  so_far n h e = same e (known (gained9 flags parts masses fills off low c n) 44826624 (gained-within flags parts masses fills off low c (trading9 t) a f n h).abs)

  abbrev one : (k : ℕ) → 1 ≤ k → k < 9 → z ≡ gain9 flags parts masses fills off low c k → Val z
  one k h l e = same e (known (gain9 flags parts masses fills off low c k) 2359296 (gain-within flags parts masses fills off low c (trading9 t) a f k h l).abs)

  -- the first of a pair, and the second
  abbrev first : (p i : ℕ) → p < 4 → i ≡ wide (2 * p + 1) → z ≡ passed flags (part_of9 parts) fills c (c - low + get_or off i 0) (wide (2 * p + 1)) (wide (2 * p + 1 + 1)) → Val z
  first p i h e v =
      one (2 * p + 1) (omega arith) (omega arith)
      (v ∙ ap (λ (n : ℕ). passed flags (part_of9 parts) fills c (c - low + get_or off n 0) (wide (2 * p + 1)) (wide (2 * p + 1 + 1))) e ∙ first-is flags parts masses fills off low c (2 * p + 1) (nth-pair p h))

  abbrev other : (p i : ℕ) → p < 4 → i ≡ wide (2 * p + 1) → z ≡ passed flags (part_of9 parts) fills c (c - low + get_or off (i + 1) 0) (wide (2 * p + 1 + 1)) (wide (2 * p + 1)) → Val z
  other p i h e v =
      one (2 * p + 1 + 1) (omega arith) (omega arith)
      (v ∙ ap (λ (n : ℕ). passed flags (part_of9 parts) fills c (c - low + get_or off (n + 1) 0) (wide (2 * p + 1 + 1)) (wide (2 * p + 1))) e ∙ second_is flags parts masses fills off low c (2 * p + 1) (nth-pair p h))

pub loop-pair-init : goal.loop-pair-init
unfolding gained9
loop-pair-init c = search rules ∙ c.wide-m.ensures ∙ search rules ∙ amassed-none _ (gain9 c.args.flags.now c.args.parts.now c.args.masses.now c.args.fills.now c.args.off.now c.args.low c.args.c)

pub overflow_add-m : goal.overflow_add-m
overflow_add-m c =
    let m : Val (to_z w64 c.loop-pair.m-bits) = so_far c.requires.0 c.requires.1 c.requires.2 _ (omega arith) c.loop-pair.invariant in
    let x : Val c.traded9-m.result = first c.requires.0 c.requires.1 c.requires.2 _ _ c.loop-pair-test.true c.place-i.ensures.0 c.traded9-m.ensures in
    does-fit (search machine depth 20) tt

pub bounds-off-i-in-loop-pair : goal.bounds-off-i-in-loop-pair
bounds-off-i-in-loop-pair c = omega (arith, nth-second _ _ c.loop-pair-test.true c.place-i.ensures.0)

pub traded9-m-requires-in-loop-pair : goal.traded9-m-requires-in-loop-pair
traded9-m-requires-in-loop-pair c =
    (c.requires.0.bodied, c.requires.0.fills-good, c.requires.1.is-cell, c.requires.1.each _ (nth-second _ _ c.loop-pair-test.true c.place-i.ensures.0), omega arith, omega arith)

pub overflow_add-m-in-loop-pair : goal.overflow_add-m-in-loop-pair
overflow_add-m-in-loop-pair c =
    let m : Val (to_z w64 c.loop-pair.m-bits) = so_far c.requires.0 c.requires.1 c.requires.2 _ (omega arith) c.loop-pair.invariant in
    let x : Val c.traded9-m.result = first c.requires.0 c.requires.1 c.requires.2 _ _ c.loop-pair-test.true c.place-i.ensures.0 c.traded9-m.ensures in
    let y : Val c.traded9-m-in-loop-pair.result = other c.requires.0 c.requires.1 c.requires.2 _ _ c.loop-pair-test.true c.place-i.ensures.0 c.traded9-m-in-loop-pair.ensures in
    does-fit (search machine depth 20) tt

pub loop-pair-preserved : goal.loop-pair-preserved
unfolding gained9
loop-pair-preserved c =
    let m : Val (to_z w64 c.loop-pair.m-bits) = so_far c.requires.0 c.requires.1 c.requires.2 _ (omega arith) c.loop-pair.invariant in
    let x : Val c.traded9-m.result = first c.requires.0 c.requires.1 c.requires.2 _ _ c.loop-pair-test.true c.place-i.ensures.0 c.traded9-m.ensures in
    let y : Val c.traded9-m-in-loop-pair.result = other c.requires.0 c.requires.1 c.requires.2 _ _ c.loop-pair-test.true c.place-i.ensures.0 c.traded9-m-in-loop-pair.ensures in
    reads_as (search machine depth 20) tt ∙ amassed-pair _ (gain9 c.args.flags.now c.args.parts.now c.args.masses.now c.args.fills.now c.args.off.now c.args.low c.args.c) (2 * c.loop-pair.pair) _ (omega arith)

pub returns : goal.returns
returns c g =
    let e : 2 * c.loop-pair.pair ≡ 8 = omega arith in
    c.loop-pair.invariant ∙ ap (gained9 _ _ _ _ _ _ _) e ∙ gained-all _ _ _ _ _ _ _ g
