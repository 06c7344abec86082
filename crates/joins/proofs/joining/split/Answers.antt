use Rattle.std.proofs.Common.{◌≡◌, ap, ◌∙◌, subst, ℕ, ◌<◌, length, arith}
use Rattle.whole.specs.laws.Tab.{Upto, upto-more, upto_all}
use Rattle.grid.proofs.Lists.{get_or-there}
use Rattle.schemes.specs.Scheme.{own_flag}
use Rattle.joins.proofs.joining.split.Invariants.{here}
use Rattle.joins.proofs.joining.split.Goals as goal

pub loop-c-preserved : goal.loop-c-preserved
loop-c-preserved c = let g = c.args.grid.now in
    let h : c.loop-c.c < length c.loop-c.own = omega (arith, c.requires) in
    upto-more 0 (here g) c.loop-c.own c.loop-c.c _ h c.loop-c.invariant (c.own_flag.ensures ∙ ap own_flag (get_or-there g c.loop-c.c 0 3 c.loop-c-test.true))

pub returns : goal.returns
returns c = let g = c.args.grid.now in
    let e : c.loop-c.c ≡ length g = omega arith in
    upto_all 0 (here g) c.loop-c.own (length g) (omega (arith, c.requires)) (subst (λ (m : ℕ). Upto 0 (here g) c.loop-c.own m) e c.loop-c.invariant)
