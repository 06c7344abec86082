use Rattle.std.proofs.Common.{◌≡◌, sym, ◌∙◌, ap₂, subst, ℕ, ◌+◌, ◌*◌, ◌≤◌, ◌<◌, List, ℤ, pos, length, get_or, arith}
use Rattle.whole.specs.Fold.{tab, count}
use Rattle.whole.specs.laws.Tab.{tab-cong}
use Rattle.grid.specs.State.{by_flag, flag_of}
use Rattle.grid.proofs.Blocks.{Blocks, blocks-zero, blocks_more, blocks-all}
use Rattle.record.specs.Bytes.{i32_at}
use Rattle.record.specs.Layout.{liquids}
use Rattle.record.proofs.Gathered.{liquids-more, liquids-le}
use Rattle.grid.proofs.Lists.{get_or-there}
use Rattle.reading.proofs.load.load_parts.Invariants.{held}
use Rattle.reading.proofs.load.load_parts.Goals as goal

-- what is pasted is this cell's
here : (rec flags : List ℕ) (from at c : ℕ) → c < length flags → at ≡ from + 76 * liquids c (flag_of flags)
    → tab 19 (λ k. by_flag (get_or flags c 0) (pos 0) (i32_at rec (at + 4 * k)) (i32_at rec (at + 4 * k)) (pos 0)) ≡ tab 19 (held rec flags from c)
here rec flags from at c h e =
    tab-cong 19 (λ k. by_flag (get_or flags c 0) (pos 0) (i32_at rec (at + 4 * k)) (i32_at rec (at + 4 * k)) (pos 0)) (held rec flags from c) (pos 0)
    (λ k l. ap₂ (λ (f i : ℕ). by_flag f (pos 0) (i32_at rec i) (i32_at rec i) (pos 0)) (get_or-there flags c 0 3 h) (let p : at + 4 * k ≡ from + 4 * (19 * liquids c (flag_of flags) + k) = omega arith in p))

pub loop-c-init : goal.loop-c-init
unfolding liquids count
loop-c-init c = (omega arith, blocks-zero (held c.args.rec.now c.args.flags.now c.args.from) c.args.parts.now)

pub cell_parts-requires : goal.cell_parts-requires
cell_parts-requires c = let s = c.args.flags.now in
    let k = c.loop-c.c in
    omega (arith, liquids-more s k c.loop-c-test.true, liquids-le (k + 1) (length s) (flag_of s) (omega arith), c.loop-c.invariant.0)

pub overflow_add-at : goal.overflow_add-at
overflow_add-at c = let s = c.args.flags.now in
    let k = c.loop-c.c in
    omega (arith, c.one_liquid.ensures, liquids-more s k c.loop-c-test.true, liquids-le (k + 1) (length s) (flag_of s) (omega arith), c.loop-c.invariant.0)

pub loop-c-preserved : goal.loop-c-preserved
loop-c-preserved c = let a = c.args in
    let r = a.rec.now in
    let s = a.flags.now in
    let k = c.loop-c.c in
    let h = c.loop-c-test.true in
    let fits : 19 * k + 19 ≤ length c.loop-c.parts = omega (arith, c.requires.parts_len) in
    let is : c.cell_parts.result ≡ tab 19 (held r s a.from k) = c.cell_parts.ensures ∙ here r s a.from c.loop-c.at k h c.loop-c.invariant.0 in (
      omega (arith, c.one_liquid.ensures, liquids-more s k h, c.loop-c.invariant.0),
      subst (λ (o : List ℤ). Blocks (held r s a.from) o (k + 1)) (sym c.paste.ensures) (blocks_more (held r s a.from) c.loop-c.parts c.cell_parts.result k fits is c.loop-c.invariant.1),
    )

pub returns : goal.returns
returns c = let a = c.args in
    let s = a.flags.now in
    let e : c.loop-c.c ≡ length s = omega arith in
    let n : length c.loop-c.parts ≡ 19 * length s = omega (arith, c.requires.parts_len) in
    blocks-all (held a.rec.now s a.from) c.loop-c.parts (length s) n (subst (λ (n : ℕ). Blocks (held a.rec.now s a.from) c.loop-c.parts n) e c.loop-c.invariant.1)
