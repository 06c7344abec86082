-- `flow::relaxing::keeping`: the tension that the turbulent mode asks for, or none, which keeps every p. Assumes nothing.
use mathlib.Core.Path.{◌≡◌}
use mathlib.Core.Bool.{true}
use mir.Syntax.{w64}
use mir.Val.{to_z, of_z}
use mir.Facts.{to_z-of_z}
use Rattle.whole.specs.laws.Bounds.{abs-above}
use Rattle.whole.specs.laws.Order.{≤ℤ-trans}
use Rattle.whole.specs.laws.Casts.{index-asks}
use Rattle.whole.specs.laws.Machine.{w64-in}
use Rattle.lattice.specs.Cell.{relaxation_good}
use Rattle.lattice.proofs.Ranges.{relaxation-in}
use Rattle.turbulence.proofs.Laws.{positive, keeps-none}
use Rattle.flow.proofs.Collisions.{relaxation-of}
use Rattle.flow.proofs.relaxing.keeping.Lts as lts
use Rattle.flow.proofs.relaxing.keeping.Reads as reads
use Rattle.flow.proofs.relaxing.keeping.Tie as tie
use Rattle.flow.proofs.relaxing.keeping.Goals as goal

abbrev At-Start : Type 0
At-Start = lts.Start tie.the-claims reads.Pre reads.Post

-- p as it is handed on
handed : (c : goal.After-struct_told-1) → to_z w64 (of_z w64 c.args.g.p) ≡ c.args.g.p
handed c = to_z-of_z {w = w64} (record { sfits = c.struct_told-1.given.0.1 })

good : (s : At-Start) → relaxation_good s.args.g.p ≡ true
good s = relaxation-of s.args.g s.requires

pub overflow_cast-g : goal.overflow_cast-g
overflow_cast-g c =
    let s : At-Start = search in
    index-asks w64 (w64-in (record { sfits = c.struct_told-1.given.0.1 }) (relaxation-in s.args.g.p (good s))) tt
    (≤ℤ-trans (record { le = tt }) (positive s.args.g.p (good s)))

pub kept-requires : goal.kept-requires
kept-requires c =
    let s : At-Start = search in
    (rw (handed c) (abs-above (positive s.args.g.p (good s))), rw (handed c) (relaxation-in s.args.g.p (good s)).abs)

pub returns-then-g : goal.returns-then-g
returns-then-g c = rw (handed (search)) at c.kept.ensures

pub returns : goal.returns
returns c =
    let s : At-Start = search in
    keeps-none s.args.g.p (good s)
