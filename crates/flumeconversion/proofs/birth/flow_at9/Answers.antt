-- `flumeconversion::birth::flow_at9`: streaming, the sums over the parts, and gravity make stage 3's density and momentum. Assumes nothing.
use mathlib.Core.Path.{◌≡◌, ◌∙◌, ap, ap₂}
use native.Mathlib.Omega.{arith}
use lib.IntN.{ℤ, nat_abs, ◌+ℤ◌}
use Rattle.whole.specs.laws.Machine.{Within}
use Rattle.lattice.specs.Lattice.{V3, momentum}
use Rattle.lattice.specs.Cell.{pull}
use Rattle.lattice.specs.inner.Held.{Bounded}
use Rattle.lattice.proofs.Momentum.{x-in, y-in, z-in, density-in}
use Rattle.grid.specs.inner.Sight.{sight}
use Rattle.grid.specs.Step.{streamed_momentum}
use Rattle.flume.specs.inner.Spread.{spread_lattice}
use Rattle.nine.specs.inner.Cells.{part_of9}
use Rattle.flumearrivals.proofs.Nines.{light9}
use Rattle.conversion.proofs.Births.{wet-low, density-now, momentum-now, bounded-now}
use Rattle.flumeconversion.proofs.birth.flow_at9.Lts as lts
use Rattle.flumeconversion.proofs.birth.flow_at9.Reads as reads
use Rattle.flumeconversion.proofs.birth.flow_at9.Tie as tie
use Rattle.flumeconversion.proofs.birth.flow_at9.Goals as goal

abbrev At-After-streamed9 : Type 0
At-After-streamed9 = lts.After-streamed9 tie.the-claims reads.Pre reads.Post

abbrev At-Start : Type 0
At-Start = lts.Start tie.the-claims reads.Pre reads.Post

abbrev At-After-flow_of : Type 0
At-After-flow_of = lts.After-flow_of tie.the-claims reads.Pre reads.Post

bounded : (c : At-After-streamed9) → Bounded c.streamed9.result 1073741824 33554432
bounded c =
    let s : At-Start = search in
    bounded-now spread_lattice.weight s.args.flags.now (part_of9 s.args.parts.now) s.args.fills.now s.args.off.now s.args.low s.args.g s.args.b c.streamed9.result (c.streamed9.ensures s.args.g) light9 s.requires.0.cells.bodies
    (s.requires.0.cells.around s.args.b s.requires.1 (wet-low _ s.requires.2)) s.requires.2

-- loosened to what gravity asks
loose : {z y : ℤ} → z ≡ y → Within y 335544320 → Within z 340000000
loose {z} {y} e h = record { abs = omega (arith, ap nat_abs e, h.abs) }

looser : {z y : ℤ} → z ≡ y → Within y 1677721600 → Within z 1700000000
looser {z} {y} e h = record { abs = omega (arith, ap nat_abs e, h.abs) }

pub streamed9-requires : goal.streamed9-requires
streamed9-requires c =
    let s : At-Start = search in
    (record { count = s.requires.0.count; bodies = s.requires.0.cells.bodies }, s.requires.0.fills-good, s.requires.0.cells.around s.args.b s.requires.1 (wet-low _ s.requires.2), s.requires.2)

pub flow_of-requires : goal.flow_of-requires
flow_of-requires c = bounded c.before

pub pulled-requires : goal.pulled-requires
pulled-requires c =
    let after-streamed9 : At-After-streamed9 = search in let start : At-Start = search in let l = after-streamed9.streamed9.result in
    let b = bounded (search) in
    let e = c.flow_of.ensures in
    (looser e.0 (density-in l b), loose (ap (λ (v : V3). v.x) e.1) (x-in l b), loose (ap (λ (v : V3). v.y) e.1) (y-in l b), loose (ap (λ (v : V3). v.z) e.1) (z-in l b), start.requires.0.gravity)

pub returns : goal.returns
unfolding streamed_momentum sight momentum
returns c =
    let after-flow-of : At-After-flow_of = search in let after-streamed9 : At-After-streamed9 = search in let s : At-Start = search in
    let l = after-streamed9.streamed9.result in
    let e = after-flow-of.flow_of.ensures in
    let p = c.pulled.ensures in
    let ρ = e.0 ∙ density-now spread_lattice.weight s.args.flags.now (part_of9 s.args.parts.now) s.args.fills.now s.args.off.now s.args.low s.args.g s.args.b l (after-streamed9.streamed9.ensures s.args.g) in
    let j = e.1 ∙ momentum-now spread_lattice.weight s.args.flags.now (part_of9 s.args.parts.now) s.args.fills.now s.args.off.now s.args.low s.args.g s.args.b l (after-streamed9.streamed9.ensures s.args.g) in
    record {
      rho = p.rho ∙ ρ;
      x = p.x ∙ ap₂ (λ (a r : ℤ). a +ℤ pull r s.args.g.gx) (ap (λ (v : V3). v.x) j) ρ;
      y = p.y ∙ ap₂ (λ (a r : ℤ). a +ℤ pull r s.args.g.gy) (ap (λ (v : V3). v.y) j) ρ;
      z = p.z ∙ ap₂ (λ (a r : ℤ). a +ℤ pull r s.args.g.gz) (ap (λ (v : V3). v.z) j) ρ;
    }
