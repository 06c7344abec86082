use mathlib.Core.Path.{◌≡◌, subst}
use Prim.Native.Nat.{ℕ, ◌-◌}
use native.Mathlib.Omega.{arith}
use Rattle.lattice.specs.Lattice.{d3q19}
use Rattle.grid.specs.State.{part_of}
use Rattle.conversion.specs.inner.Born.{tested_of}
use Rattle.conversion.proofs.Means.{Summed, summed-none, summed-more, roomy, countable-all, begins}
use Rattle.conversion.proofs.birth.mean_flow.Goals.{After-loop-i}
use Rattle.conversion.proofs.birth.mean_flow.Goals as goal

-- all directions
all-summed : (c : After-loop-i) → Summed d3q19.weight c.args.flags.now (part_of c.args.parts.now) c.args.fills.now c.args.off.now c.args.low c.args.g c.args.c 18 c.loop-i.t
all-summed c =
    let a = c.args in
    let e : c.loop-i.i - 1 ≡ 18 = omega arith in
    subst (λ (m : ℕ). Summed d3q19.weight a.flags.now (part_of a.parts.now) a.fills.now a.off.now a.low a.g a.c m c.loop-i.t) e c.loop-i.invariant

pub loop-i-init : goal.loop-i-init
loop-i-init c = let a = c.args in summed-none d3q19.weight a.flags.now (part_of a.parts.now) a.fills.now a.off.now a.low a.g a.c

pub with_cell-t-requires : goal.with_cell-t-requires
with_cell-t-requires c =
    let a = c.args in
    let i = c.loop-i.i in
    (c.requires.0, c.requires.1.each i (omega arith), roomy d3q19.weight a.flags.now (part_of a.parts.now) a.fills.now a.off.now a.low a.g a.c (tested_of c.requires.0) c.requires.1 (i - 1) (omega arith) c.loop-i.invariant)

pub loop-i-preserved : goal.loop-i-preserved
loop-i-preserved c =
    let a = c.args in
    summed-more d3q19.weight a.flags.now (part_of a.parts.now) a.fills.now a.off.now a.low a.g a.c c.loop-i.i (omega arith) c.loop-i.invariant c.with_cell-t.ensures

pub mean-requires : goal.mean-requires
mean-requires c =
    let a = c.args in
    countable-all d3q19.weight a.flags.now (part_of a.parts.now) a.fills.now a.off.now a.low a.g a.c (tested_of c.requires.0) c.requires.1 (all-summed (goal.at.mean-requires c).After-loop-i) c.requires.2

pub returns : goal.returns
returns c =
    let a = c.args in
    begins d3q19.weight a.flags.now (part_of a.parts.now) a.fills.now a.off.now a.low a.g a.c (tested_of c.requires.0) c.requires.1 (all-summed (goal.at.returns c).After-loop-i) c.mean.ensures
