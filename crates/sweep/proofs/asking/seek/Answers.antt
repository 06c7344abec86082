use native.Mathlib.Omega.{arith}
use Rattle.index.proofs.Questions.{seen_none, seen-found, going_on}
use Rattle.sweep.proofs.asking.seek.Goals as goal

pub next_bit-t-requires : goal.next_bit-t-requires
next_bit-t-requires c = (c.loop-k.invariant c.requires.2).small

pub overflow_add-read : goal.overflow_add-read
overflow_add-read c = record { fits = omega (arith, (c.loop-k.invariant c.requires.2).counted) }

pub returns-then-t-lt64 : goal.returns-then-t-lt64
returns-then-t-lt64 c =
    seen-found c.args.n c.args.words.now c.args.start c.requires.2 _ _ _ (c.loop-k.invariant c.requires.2) (omega arith) _ c.next_bit-t.ensures c.if-t-lt64.true _ (omega arith) (omega arith) (λ h. omega arith)

pub loop-k-preserved : goal.loop-k-preserved
loop-k-preserved c = λ h. going_on c.args.n c.args.words.now c.args.start h _ _ _ (c.loop-k.invariant h) (omega arith) _ c.next_bit-t.ensures c.if-t-lt64.false

pub returns : goal.returns
returns c = seen_none c.args.n c.args.words.now c.args.start c.requires.2 _ _ _ (c.loop-k.invariant c.requires.2) (omega arith)
