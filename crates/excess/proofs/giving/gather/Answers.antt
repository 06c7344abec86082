use mathlib.Core.Path.{ap₂, ◌∙◌}
use mathlib.Core.List.{List}
use Prim.Native.Nat.{ℕ}
use native.Mathlib.Omega.{arith}
use borrow.Author.Rules.{rules}
use lib.IntN.{pos}
use lib.ListN.{length}
use Rattle.whole.specs.laws.Machine.{does-fit, reads_as, v64, v32}
use Rattle.grid.proofs.Ranges.{ranged-more, ranged-keep, ranged-all}
use Rattle.grid.specs.State.{part_of}
use Rattle.excess.specs.inner.Gifts.{gathered_at}
use Rattle.excess.proofs.Takes.{taking, took, kept, giving-then, taken-sum, taken-on, in-range, giving-as}
use Rattle.excess.proofs.Readings.{told64}
use Rattle.excess.proofs.giving.gather.Goals as goal

pub gifts-t-requires : goal.gifts-t-requires
gifts-t-requires c = (giving-then (giving-as c.offsets-off.ensures c.low_of-low.ensures c.requires.giving) _ _ c.loop-c.invariant, c.loop-c-test.true, omega arith)

pub overflow_add-masses : goal.overflow_add-masses
overflow_add-masses c =
    does-fit (taken-sum (giving-as c.offsets-off.ensures c.low_of-low.ensures c.requires.giving) _ _ c.loop-c.invariant c.loop-c-test.true (omega arith) (c.requires.taken _ c.loop-c-test.true (omega arith))
    (told64 c.wide.type_inv (c.wide.ensures ∙ search rules)) (told64 c.gifts-t.type_inv c.gifts-t.ensures)) tt

pub overflow_cast-masses : goal.overflow_cast-masses
overflow_cast-masses c =
    does-fit (v64 (taken-sum (giving-as c.offsets-off.ensures c.low_of-low.ensures c.requires.giving) _ _ c.loop-c.invariant c.loop-c-test.true (omega arith) (c.requires.taken _ c.loop-c-test.true (omega arith))
    (told64 c.wide.type_inv (c.wide.ensures ∙ search rules)) (told64 c.gifts-t.type_inv c.gifts-t.ensures))) tt

pub loop-c-preserved : goal.loop-c-preserved
loop-c-preserved c =
    let g = giving-as c.offsets-off.ensures c.low_of-low.ensures c.requires.giving in
    let r = c.loop-c.invariant in
    let h = c.loop-c-test.true in
    taken-on g _ c.loop-c.c _ c.next_of-c.ensures
    (elim c.if-flags-c-eq1.branch [
      | goal.then-flags-c-eq1 w ↦ rw w.masses-is (ranged-more (pos 0) (taking g) _ 0 _ _ _ _ r h (omega (arith, c.requires.giving.masses-there))
          (reads_as (v32 (v64 (taken-sum g _ _ r h w.if-flags-c-eq1.true (c.requires.taken _ h w.if-flags-c-eq1.true) (told64 w.wide.type_inv (w.wide.ensures ∙ search rules)) (told64 w.gifts-t.type_inv w.gifts-t.ensures)))) tt
          ∙ took g _ w.if-flags-c-eq1.true))
      | goal.else-flags-c-eq1 w ↦ rw w.masses-is (ranged-keep (pos 0) (taking g) _ 0 _ _ _ r h (kept g _ w.if-flags-c-eq1.false))
    ])

pub returns : goal.returns
returns c =
    let g = giving-as c.offsets-off.ensures c.low_of-low.ensures c.requires.giving in
    ranged-all (pos 0) (taking g) c.args.masses.now 0 (length c.args.flags.now) c.loop-c.masses c.loop-c.c _ _ c.loop-c.invariant c.loop-c-test.false (c.requires.giving.masses-there ∙ c.requires.count)
    (λ j k. in-range (taking g) c.args.masses.now (length c.args.flags.now) j (omega (arith, c.requires.count))
    ∙ ap₂ (λ (x : List ℕ) (y : ℕ). gathered_at c.args.flags.now c.args.fills.now (part_of c.args.parts.now) c.args.masses.now c.args.marks.now x y j) c.offsets-off.ensures c.low_of-low.ensures)
