use native.Mathlib.Nat.{lt_of_lt_of_le}
use mathlib.Core.Path.{◌≡◌, refl, sym, ap, ◌∙◌, subst}
use Prim.Native.Nat.{ℕ, ◌+◌, ◌^◌, ◌≤◌, ◌<◌}
use native.Mathlib.Omega.{arith}
use lib.ListN.{length}
use lib.Pow.{pow_mono}
use Rattle.whole.specs.Fold.{total}
use Rattle.index.proofs.Digits.{power, sum-small}
use Rattle.index.proofs.Flagged.{surface, word_more, word-ended}
use Rattle.index.proofs.words.word_at.Goals.{After-bit_of-w}
use Rattle.index.proofs.words.word_at.Goals as goal

-- the word with one bit more
more : (c : After-bit_of-w) → c.loop-b.w + c.bit_of-w.result ≡ total (c.loop-b.b + 1) (power (surface (length c.args.flags.now) c.args.flags.now c.args.k))
more c = word_more c.args.flags.now c.args.k c.loop-b.b c.loop-b.w c.bit_of-w.result (omega arith) c.loop-b.invariant c.bit_of-w.ensures

pub loop-b-init : goal.loop-b-init
unfolding total
loop-b-init c = refl

pub overflow_add-w : goal.overflow_add-w
overflow_add-w c =
    let p = power (surface (length c.args.flags.now) c.args.flags.now c.args.k) in
    let e = more (goal.at.overflow_add-w c).After-bit_of-w in
    let last : c.loop-b.b + 1 ≤ 64 = omega arith in
    record { fits = lt_of_lt_of_le (subst (λ (x : ℕ). x < 2 ^ (c.loop-b.b + 1)) (sym e) (sum-small (surface (length c.args.flags.now) c.args.flags.now c.args.k) (c.loop-b.b + 1))) (pow_mono last) }

pub loop-b-preserved : goal.loop-b-preserved
loop-b-preserved c = more (goal.at.loop-b-preserved c).After-bit_of-w

pub returns : goal.returns
returns c =
    let e : c.loop-b.b ≡ c.end_of-end.result = omega arith in
    c.loop-b.invariant ∙ ap (λ (m : ℕ). total m (power (surface (length c.args.flags.now) c.args.flags.now c.args.k))) e
    ∙ word-ended (length c.args.flags.now) c.args.flags.now c.args.k c.end_of-end.result c.end_of-end.ensures.0 c.end_of-end.ensures.2
