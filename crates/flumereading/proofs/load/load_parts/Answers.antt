use Rattle.std.proofs.Common.{◌≡◌, refl, ap, ap₂, ◌∙◌, subst, Bool, true, false, cond, eqb, List, ℕ, ◌+◌, ◌*◌, ◌/◌, ◌%◌, ◌≤◌, ◌<◌, pos, length, get_or, w32, arith, rules}
use borrow.Author.Tests.{eqb-true, eqb-false}
use mir.Val.{to_z, of_z}
use Rattle.whole.specs.Fold.{count}
use Rattle.whole.specs.laws.Tab.{Upto, upto_zero, upto-more, upto_all}
use Rattle.grid.specs.State.{by_flag, liquid, flag_of}
use Rattle.grid.proofs.Lists.{get_or-there}
use Rattle.record.specs.Bytes.{i32_at}
use Rattle.record.specs.Layout.{liquids}
use Rattle.record.proofs.Gathered.{liquids-more, liquids-le}
use Rattle.flumereading.proofs.load.load_parts.Invariants.{held}
use Rattle.flumereading.proofs.load.load_parts.Goals as goal

-- the parts up to cell k, its too, are in the record
inside : (flags : List ℕ) (from at n k : ℕ) → k < length flags → at ≡ from + 36 * liquids k (flag_of flags) → from + 36 * liquids (length flags) (flag_of flags) ≤ n
    → at + 36 * cond (liquid (get_or flags k 0)) 1 0 ≤ n
inside flags from at n k h e b = omega (arith, liquids-more flags k h, liquids-le (k + 1) (length flags) (flag_of flags) (omega arith))

-- the count goes on behind a cell's last part
advance : (flags : List ℕ) (m : ℕ) → m / 9 < length flags
    → 36 * liquids (m / 9) (flag_of flags) + 36 * cond (eqb (m % 9) 8) (cond (liquid (get_or flags (m / 9) 0)) 1 0) 0 ≡ 36 * liquids ((m + 1) / 9) (flag_of flags)
advance flags m h = go (eqb (m % 9) 8) refl
  where
    w : ℕ
    w = cond (liquid (get_or flags (m / 9) 0)) 1 0

    go : (b : Bool) → eqb (m % 9) 8 ≡ b → 36 * liquids (m / 9) (flag_of flags) + 36 * cond (eqb (m % 9) 8) (cond (liquid (get_or flags (m / 9) 0)) 1 0) 0 ≡ 36 * liquids ((m + 1) / 9) (flag_of flags)
    go true e =
        let k : m % 9 ≡ 8 = eqb-true (m % 9) 8 e in
        let n : m / 9 + 1 ≡ (m + 1) / 9 = omega arith in
        ap (λ (t : Bool). 36 * liquids (m / 9) (flag_of flags) + 36 * cond t (cond (liquid (get_or flags (m / 9) 0)) 1 0) 0) e
        ∙ omega (arith, liquids-more flags (m / 9) h) ∙ ap (λ (j : ℕ). 36 * liquids j (flag_of flags)) n
    go false e =
        let n : m / 9 ≡ (m + 1) / 9 = next (eqb-false (m % 9) 8 e) in
        ap (λ (t : Bool). 36 * liquids (m / 9) (flag_of flags) + 36 * cond t (cond (liquid (get_or flags (m / 9) 0)) 1 0) 0) e
        ∙ omega arith ∙ ap (λ (j : ℕ). 36 * liquids j (flag_of flags)) n
      where
        next : (m % 9 ≡ 8 → ⊥) → m / 9 ≡ (m + 1) / 9
        next k = omega (arith, k)

pub loop-m-init : goal.loop-m-init
unfolding liquids count
loop-m-init c = (omega arith, upto_zero (pos 0) (held c.args.rec.now c.args.flags.now c.args.from) c.args.parts.now)

pub overflow_add-at : goal.overflow_add-at
overflow_add-at c = let a = c.args in
    omega (arith, inside a.flags.now a.from c.loop-m.at (length a.rec.now) (c.loop-m.m / 9) (omega (arith, c.requires.parts_len)) c.loop-m.invariant.0 c.requires.flags_in_bounds, c.requires.rec_len_bound)

pub held_part-requires : goal.held_part-requires
held_part-requires c e = let a = c.args in
    let one : ◌≡◌ {A = ℕ} (cond (liquid (get_or a.flags.now (c.loop-m.m / 9) 0)) 1 0) 1 = ap (λ (b : Bool). cond {A = ℕ} b 1 0) e in
    omega (arith, inside a.flags.now a.from c.loop-m.at (length a.rec.now) (c.loop-m.m / 9) (omega (arith, c.requires.parts_len)) c.loop-m.invariant.0 c.requires.flags_in_bounds, one)

pub next_at-at-requires : goal.next_at-at-requires
next_at-at-requires c = let a = c.args in
    omega (arith, inside a.flags.now a.from c.loop-m.at (length a.rec.now) (c.loop-m.m / 9) (omega (arith, c.requires.parts_len)) c.loop-m.invariant.0 c.requires.flags_in_bounds, c.requires.rec_len_bound)

pub loop-m-preserved : goal.loop-m-preserved
loop-m-preserved c = let a = c.args in
    let r = a.rec.now in
    let s = a.flags.now in
    let m = c.loop-m.m in
    let f : m / 9 < length s = omega (arith, c.requires.parts_len) in
    let at : c.loop-m.at + 4 * (m % 9) ≡ a.from + 4 * (9 * liquids (m / 9) (flag_of s) + m % 9) = omega (arith, c.loop-m.invariant.0) in
    let x : to_z w32 (of_z w32 c.held_part.result) ≡ c.held_part.result = search rules in (
      c.next_at-at.ensures ∙ omega (arith, c.loop-m.invariant.0, advance s m f),
      upto-more (pos 0) (held r s a.from) c.loop-m.parts m _ (omega arith) c.loop-m.invariant.1
          (x ∙ c.held_part.ensures ∙ ap₂ (λ (g i : ℕ). by_flag g (pos 0) (i32_at r i) (i32_at r i) (pos 0)) (get_or-there s (m / 9) 0 3 f) at),
    )

pub returns : goal.returns
returns c = let a = c.args in
    let s = a.flags.now in
    let n : length c.loop-m.parts ≡ 9 * length s = omega (arith, c.requires.parts_len) in
    let e : c.loop-m.m ≡ 9 * length s = omega (arith, n) in
    upto_all (pos 0) (held a.rec.now s a.from) c.loop-m.parts (9 * length s) n (subst (λ (k : ℕ). Upto (pos 0) (held a.rec.now s a.from) c.loop-m.parts k) e c.loop-m.invariant.1)
