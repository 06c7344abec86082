use Rattle.std.proofs.Common.{◌≡◌, ap, ◌∙◌, subst, ℕ, ◌<◌, length, arith}
use Rattle.whole.specs.laws.Tab.{Upto, upto-more, upto_all}
use Rattle.grid.proofs.Lists.{get_or-there}
use Rattle.schemes.specs.Scheme.{own_at, joined_flag}
use Rattle.joins.proofs.joining.fill.Invariants.{here}
use Rattle.joins.proofs.joining.fill.Goals as goal

pub loop-c-preserved : goal.loop-c-preserved
loop-c-preserved c = let map = c.args.map.now in
    let own = c.args.own.now in
    let h : c.loop-c.c < length c.loop-c.grid = omega (arith, c.requires.1) in
    upto-more 0 (here map own) c.loop-c.grid c.loop-c.c _ h c.loop-c.invariant
    (c.joined_flag.ensures ∙ ap (λ (m : ℕ). joined_flag m (own_at own c.loop-c.c)) (get_or-there map c.loop-c.c 0 1 c.loop-c-test.true))

pub returns : goal.returns
returns c = let f = here c.args.map.now c.args.own.now in
    let n = length c.args.map.now in
    let e : c.loop-c.c ≡ n = omega arith in
    upto_all 0 f c.loop-c.grid n (omega (arith, c.requires.1)) (subst (λ (m : ℕ). Upto 0 f c.loop-c.grid m) e c.loop-c.invariant)
