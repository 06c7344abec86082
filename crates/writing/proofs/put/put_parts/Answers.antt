use Rattle.std.proofs.Common.{◌≡◌, ℕ, ◌+◌, ◌*◌, ◌≤◌, ◌<◌, List, refl, ap, ap₂, ◌∙◌, cond, length, get_or, arith}
use Rattle.std.proofs.Math.Nat.{mul-le-mul_left}
use Rattle.whole.specs.Fold.{count}
use Rattle.grid.specs.State.{liquid, flag_of}
use Rattle.record.specs.Bytes.{gathered}
use Rattle.record.specs.Layout.{liquids, part_numbers}
use Rattle.record.proofs.Gathered.{liquids-more, liquids-le, part-turn}
use Rattle.writing.proofs.put.put_parts.Invariants.{part-at}
use Rattle.writing.proofs.put.put_parts.Goals as goal

-- the parts up to cell k, its too, are in the room
inside : (w from at n : ℕ) (s : List ℕ) (k : ℕ) → k < length s → at ≡ from + 4 * w * liquids k (flag_of s) → from + 4 * w * liquids (length s) (flag_of s) ≤ n
    → at + 4 * w * cond (liquid (get_or s k 0)) 1 0 ≤ n
inside w from at n s k h e b =
    let most = mul-le-mul_left (4 * w) (liquids-le (k + 1) (length s) (flag_of s) (omega arith)) in
    let more = ap (λ (i : ℕ). 4 * w * i) (liquids-more s k h) in
    omega (arith, more, most)

pub loop-c-init : goal.loop-c-init
unfolding gathered part_numbers liquids count
loop-c-init c = (omega arith, refl)

pub put_liquid-requires-clause-flag_in_bounds : goal.put_liquid-requires-clause-flag_in_bounds
put_liquid-requires-clause-flag_in_bounds c = let a = c.args in
    omega (arith, inside a.w a.from c.loop-c.at (length a.room.now) a.flags.now c.loop-c.c c.loop-c-test.true c.loop-c.invariant.0 c.requires.flags_in_bounds)

pub overflow_add-at : goal.overflow_add-at
overflow_add-at c = let a = c.args in
    let e = ap (λ (i : ℕ). 4 * a.w * i) c.one_liquid.ensures in
    omega (arith, e, inside a.w a.from c.loop-c.at (length a.room.now) a.flags.now c.loop-c.c c.loop-c-test.true c.loop-c.invariant.0 c.requires.flags_in_bounds)

pub loop-c-preserved : goal.loop-c-preserved
loop-c-preserved c = let a = c.args in
    let s = a.flags.now in
    let k = c.loop-c.c in
    let h = c.loop-c-test.true in (
      ap₂ (λ (i j : ℕ). i + 4 * a.w * j) c.loop-c.invariant.0 c.one_liquid.ensures ∙ omega (arith, ap (λ (i : ℕ). 4 * a.w * i) (liquids-more s k h)),
      c.put_liquid.ensures ∙ part-turn a.w a.room.now c.loop-c.room s (part-at a.w a.parts.now) a.from c.loop-c.at k h c.loop-c.invariant.0 c.loop-c.invariant.1,
    )
