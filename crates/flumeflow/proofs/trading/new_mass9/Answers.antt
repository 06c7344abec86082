-- `flumeflow::trading::new_mass9`: the traded mass of an interface cell fits 32 bits; any other cell's is the density. Assumes nothing.
use mathlib.Core.Path.{◌≡◌, sym, ◌∙◌}
use lib.ListN.{get_or}
use mir.Facts.{to_z-of_z}
use Rattle.whole.specs.laws.Machine.{Val, machine, does-fit, reads_as}
use Rattle.lattice.proofs.Reading.{inside}
use Rattle.grid.specs.Step.{traded_mass}
use Rattle.grid.proofs.Lists.{get_or-there}
use Rattle.arrivals.proofs.Trades.{by-other}
use Rattle.flumearrivals.specs.inner.Seen.{sight9, trading9}
use Rattle.flumeflow.proofs.Gains.{mass-within}
use Rattle.flumeflow.proofs.trading.new_mass9.Lts as lts
use Rattle.flumeflow.proofs.trading.new_mass9.Reads as reads
use Rattle.flumeflow.proofs.trading.new_mass9.Tie as tie
use Rattle.flumeflow.proofs.trading.new_mass9.Goals as goal

abbrev At-Then-flags-c-eq1 : Type 0
At-Then-flags-c-eq1 = lts.Then1 tie.the-claims reads.Pre reads.Post

abbrev At-Start : Type 0
At-Start = lts.Start tie.the-claims reads.Pre reads.Post

abbrev At-After-traded_mass9 : Type 0
At-After-traded_mass9 = lts.After-traded_mass9 tie.the-claims reads.Pre reads.Post

-- an interface cell, as the code reads it
interface : (c : At-Then-flags-c-eq1) → let s = c in get_or s.args.flags.now s.args.c 3 ≡ 1
interface c = let s : At-Start = search in get_or-there s.args.flags.now s.args.c 3 0 s.requires.1 ∙ c.if-flags-c-eq1.true

abbrev mass-of : (c : At-After-traded_mass9) → Val c.traded_mass9.result
mass-of c =
    let s : At-Start = search in
    inside (mass-within s.args.flags.now s.args.parts.now s.args.masses.now s.args.fills.now s.args.off.now s.args.low s.args.c (trading9 s.requires.0) (s.requires.2 (interface c.before)) (interface c.before) _ c.traded_mass9.ensures)

pub traded_mass9-requires : goal.traded_mass9-requires
traded_mass9-requires c = let s : At-Start = search in (s.requires.0, s.requires.2 (interface c.before), interface c.before)

pub overflow_cast-result : goal.overflow_cast-result
overflow_cast-result c = let m = mass-of c.before in does-fit (search machine depth 20) tt

pub returns-then-flags-c-eq1 : goal.returns-then-flags-c-eq1
returns-then-flags-c-eq1 c g = let m = mass-of c.before in rw (interface (search)) (reads_as (search machine depth 20) tt ∙ c.traded_mass9.ensures g)

pub returns : goal.returns
returns c g =
    let s : At-Start = search in
    to_z-of_z s.ranges.rho
    ∙ sym (by-other (get_or s.args.flags.now s.args.c 3) s.args.rho (traded_mass (sight9 s.args.flags.now s.args.parts.now s.args.masses.now s.args.fills.now s.args.off.now s.args.low g) s.args.c)
    (λ e. c.if-flags-c-eq1.false (get_or-there s.args.flags.now s.args.c 0 3 s.requires.1 ∙ e)))
