use mathlib.Core.Path.{◌≡◌, subst}
use Prim.Native.Nat.{ℕ, ◌-◌}
use native.Mathlib.Omega.{arith}
use Rattle.flume.specs.inner.Spread.{spread_lattice}
use Rattle.nine.specs.inner.Cells.{part_of9}
use Rattle.conversion.proofs.Means.{Summed, summed-none, summed-more, roomy, countable-all, begins}
use Rattle.flumeconversion.proofs.birth.mean_flow9.Goals.{After-loop-i}
use Rattle.flumeconversion.proofs.birth.mean_flow9.Goals as goal

-- all directions
all-summed : (c : After-loop-i) → Summed spread_lattice.weight c.args.flags.now (part_of9 c.args.parts.now) c.args.fills.now c.args.off.now c.args.low c.args.g c.args.c 18 c.loop-i.t
all-summed c =
    let a = c.args in
    let e : c.loop-i.i - 1 ≡ 18 = omega arith in
    subst (λ (m : ℕ). Summed spread_lattice.weight a.flags.now (part_of9 a.parts.now) a.fills.now a.off.now a.low a.g a.c m c.loop-i.t) e c.loop-i.invariant

pub loop-i-init : goal.loop-i-init
loop-i-init c = let a = c.args in summed-none spread_lattice.weight a.flags.now (part_of9 a.parts.now) a.fills.now a.off.now a.low a.g a.c

pub with_cell9-t-requires : goal.with_cell9-t-requires
with_cell9-t-requires c =
    let a = c.args in
    let i = c.loop-i.i in
    (c.requires.0, c.requires.1.each i (omega arith), roomy spread_lattice.weight a.flags.now (part_of9 a.parts.now) a.fills.now a.off.now a.low a.g a.c c.requires.0.cells c.requires.1 (i - 1) (omega arith) c.loop-i.invariant)

pub loop-i-preserved : goal.loop-i-preserved
loop-i-preserved c =
    let a = c.args in
    summed-more spread_lattice.weight a.flags.now (part_of9 a.parts.now) a.fills.now a.off.now a.low a.g a.c c.loop-i.i (omega arith) c.loop-i.invariant c.with_cell9-t.ensures

pub mean-requires : goal.mean-requires
mean-requires c =
    let a = c.args in
    countable-all spread_lattice.weight a.flags.now (part_of9 a.parts.now) a.fills.now a.off.now a.low a.g a.c c.requires.0.cells c.requires.1 (all-summed (goal.at.mean-requires c).After-loop-i) c.requires.2

pub returns : goal.returns
returns c =
    let a = c.args in
    begins spread_lattice.weight a.flags.now (part_of9 a.parts.now) a.fills.now a.off.now a.low a.g a.c c.requires.0.cells c.requires.1 (all-summed (goal.at.returns c).After-loop-i) c.mean.ensures
