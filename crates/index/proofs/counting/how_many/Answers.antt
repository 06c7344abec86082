use mathlib.Core.Path.{◌≡◌, refl, sym, ap, ap₂, ◌∙◌}
use Prim.Native.Nat.{ℕ, ◌+◌, ◌*◌, ◌<◌, ◌/◌, ◌%◌}
use native.Mathlib.Omega.{arith}
use Rattle.std.proofs.lemmas.List.{length-take, get_or-take}
use Rattle.whole.specs.Fold.{count}
use Rattle.whole.specs.laws.Counts.{count_most}
use Rattle.index.specs.Index.{is_set, bit_set, how_many}
use Rattle.index.proofs.Flagged.{count_word, count-in-word}
use Rattle.index.proofs.counting.how_many.Goals.{After-ones-sum, After-ones_below}
use Rattle.index.proofs.counting.how_many.Goals as goal

-- the sum with one word more
more : (c : After-ones-sum) → c.loop-w.sum + c.ones-sum.result ≡ count (64 * (c.loop-w.w-index + 1)) (is_set c.args.words.now)
more c =
    let g : c.loop-w.w-index < c.args.n / 64 = omega (arith, length-take (c.args.n / 64) c.args.words.now) in
    ap₂ (λ (x y : ℕ). x + y) c.loop-w.invariant (c.ones-sum.ensures ∙ ap (λ (w : ℕ). count 64 (bit_set w)) (get_or-take (c.args.n / 64) c.args.words.now c.loop-w.w-index 0 g))
    ∙ sym (count_word c.args.words.now c.loop-w.w-index)

-- and with the bits of the last word
whole : (c : After-ones_below) → c.loop-w.sum + c.ones_below.result ≡ count c.args.n (is_set c.args.words.now)
whole c =
    let n = c.args.n in
    let e : c.loop-w.w-index ≡ n / 64 = omega (arith, length-take (n / 64) c.args.words.now) in
    ap₂ (λ (x y : ℕ). x + y) (c.loop-w.invariant ∙ ap (λ (m : ℕ). count (64 * m) (is_set c.args.words.now)) e) c.ones_below.ensures
    ∙ sym (count-in-word c.args.words.now (n / 64) (n % 64) (omega arith))
    ∙ ap (λ (m : ℕ). count m (is_set c.args.words.now)) (let d : 64 * (n / 64) + n % 64 ≡ n = omega arith in d)

pub loop-w-init : goal.loop-w-init
unfolding count
loop-w-init c = refl

pub overflow_add-sum : goal.overflow_add-sum
overflow_add-sum c =
    record { fits = omega (arith, more (goal.at.overflow_add-sum c).After-ones-sum, count_most (64 * (c.loop-w.w-index + 1)) (is_set c.args.words.now), length-take (c.args.n / 64) c.args.words.now, c.requires.0) }

pub loop-w-preserved : goal.loop-w-preserved
loop-w-preserved c = more (goal.at.loop-w-preserved c).After-ones-sum

pub returns-then-n-eq0 : goal.returns-then-n-eq0
unfolding how_many
returns-then-n-eq0 c =
    let e : 64 * c.loop-w.w-index ≡ c.args.n = omega (arith, length-take (c.args.n / 64) c.args.words.now) in
    c.loop-w.invariant ∙ ap (λ (m : ℕ). count m (is_set c.args.words.now)) e

pub overflow_add-result : goal.overflow_add-result
overflow_add-result c =
    record { fits = omega (arith, whole (goal.at.overflow_add-result c).After-ones_below, count_most c.args.n (is_set c.args.words.now), c.requires.0) }

pub returns : goal.returns
unfolding how_many
returns c = whole (goal.at.returns c).After-ones_below
