-- `flumeconversion::birth::with_cell9`: one cell more where it is liquid, else nothing. Assumes nothing.
use mathlib.Core.Path.{◌≡◌, sym, ◌∙◌, ap}
use lib.ListN.{get_or}
use Rattle.grid.specs.State.{liquid}
use Rattle.grid.proofs.Lists.{get_or-there}
use Rattle.flume.specs.inner.Spread.{spread_lattice}
use Rattle.nine.specs.inner.Cells.{part_of9}
use Rattle.conversion.proofs.Births.{counted-in, left_out}
use Rattle.flumeconversion.proofs.birth.with_cell9.Lts as lts
use Rattle.flumeconversion.proofs.birth.with_cell9.Reads as reads
use Rattle.flumeconversion.proofs.birth.with_cell9.Tie as tie
use Rattle.flumeconversion.proofs.birth.with_cell9.Goals as goal

abbrev At-After-is_liquid : Type 0
At-After-is_liquid = lts.After-is_liquid tie.the-claims reads.Pre reads.Post

abbrev At-Start : Type 0
At-Start = lts.Start tie.the-claims reads.Pre reads.Post

abbrev At-After-flow_at9 : Type 0
At-After-flow_at9 = lts.After-flow_at9 tie.the-claims reads.Pre reads.Post

abbrev At-Then-is_liquid : Type 0
At-Then-is_liquid = lts.Then1 tie.the-claims reads.Pre reads.Post

-- the flag as the code reads it
reads-liquid : (c : At-After-is_liquid) → let s = c in c.is_liquid.result ≡ liquid (get_or s.args.flags.now s.args.b 3)
reads-liquid c = let s : At-Start = search in c.is_liquid.ensures ∙ ap liquid (get_or-there s.args.flags.now s.args.b 0 3 s.requires.1)

pub flow_at9-requires : goal.flow_at9-requires
flow_at9-requires c = let s : At-Start = search in (s.requires.0, s.requires.1, sym (reads-liquid (search)) ∙ c.if-is_liquid.true)

pub returns-then-is_liquid : goal.returns-then-is_liquid
returns-then-is_liquid c =
    let after-flow-at9 : At-After-flow_at9 = search in let then1 : At-Then-is_liquid = search in let s : At-Start = search in
    counted-in spread_lattice.weight s.args.flags.now (part_of9 s.args.parts.now) s.args.fills.now s.args.off.now s.args.low s.args.g s.args.b (sym (reads-liquid (search)) ∙ then1.if-is_liquid.true) after-flow-at9.flow_at9.ensures c.joined.ensures

pub returns : goal.returns
returns c =
    let s : At-Start = search in
    left_out spread_lattice.weight s.args.flags.now (part_of9 s.args.parts.now) s.args.fills.now s.args.off.now s.args.low s.args.g s.args.b s.args.t (sym (reads-liquid (search)) ∙ c.if-is_liquid.false)
