use mathlib.Core.Path.{◌≡◌, subst}
use Prim.Native.Nat.{ℕ}
use native.Mathlib.Omega.{arith}
use lib.ListN.{length}
use Rattle.whole.specs.laws.Tab.{Upto, upto_all}
use Rattle.index.specs.Index.{words_of, word_of}
use Rattle.index.proofs.keeping.make_words.Goals as goal

pub returns : goal.returns
returns c =
    let n = length c.args.flags.now in
    let e : c.loop-k.k ≡ words_of n = omega arith in
    upto_all 0 (word_of n c.args.flags.now) c.loop-k.words (words_of n) (omega arith) (subst (λ (m : ℕ). Upto 0 (word_of n c.args.flags.now) c.loop-k.words m) e c.loop-k.invariant)
