use mathlib.Core.Path.{◌≡◌, refl, ap, ap₂, ◌∙◌}
use Prim.Native.Nat.{ℕ, ◌+◌}
use native.Mathlib.Omega.{arith}
use lib.ListN.{length}
use Rattle.whole.specs.Fold.{count}
use Rattle.counts.specs.Counts.{cells_with}
use Rattle.counts.proofs.Addends.{kind_in, kind-more, kind-most}
use Rattle.counts.proofs.counting.cells_with.Goals as goal

one_more : (c : goal.After-one-found) → c.loop-flag.found + c.one-found.result ≡ kind_in c.args.flags.now c.args.wanted (c.loop-flag.flag-index + 1)
one_more c = ap₂ (λ (x y : ℕ). x + y) c.loop-flag.invariant c.one-found.ensures ∙ kind-more c.args.flags.now c.args.wanted c.loop-flag.flag-index

pub loop-flag-init : goal.loop-flag-init
unfolding count
loop-flag-init c = refl

pub overflow_add-found : goal.overflow_add-found
overflow_add-found c = record { fits = omega (arith, one_more c, kind-most c.args.flags.now c.args.wanted (c.loop-flag.flag-index + 1)) }

pub loop-flag-preserved : goal.loop-flag-preserved
loop-flag-preserved c = one_more c

pub returns : goal.returns
unfolding cells_with
returns c =
    let e : c.loop-flag.flag-index ≡ length c.args.flags.now = omega arith in
    c.loop-flag.invariant ∙ ap (kind_in c.args.flags.now c.args.wanted) e
