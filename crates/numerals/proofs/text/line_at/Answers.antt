use Rattle.std.proofs.Common.{◌≡◌, ℕ, arith, subst}
use Rattle.numerals.specs.inner.Places.{LineIs}
use Rattle.numerals.proofs.Words.{line-none, line-more}
use Rattle.numerals.proofs.text.line_at.Goals as goal

pub loop-init : goal.loop-init
loop-init c = line-none _

pub next_line-at-requires : goal.next_line-at-requires
next_line-at-requires c = c.loop.invariant.inside

pub loop-preserved : goal.loop-preserved
loop-preserved c = line-more c.loop.invariant c.next_line-at.ensures

pub returns : goal.returns
returns c =
    let e : c.loop.counter ≡ c.args.n = omega arith in
    subst (λ (k : ℕ). LineIs c.args.s.now k c.loop.at) e c.loop.invariant
