-- `conversion::birth::with_cell`: one cell more where it is liquid, else nothing. Assumes nothing.
use mathlib.Core.Path.{◌≡◌, sym, ◌∙◌, ap}
use lib.ListN.{get_or}
use Rattle.grid.specs.State.{liquid, part_of}
use Rattle.grid.proofs.Lists.{get_or-there}
use Rattle.lattice.specs.Lattice.{d3q19}
use Rattle.conversion.proofs.Births.{counted-in, left_out}
use Rattle.conversion.proofs.birth.with_cell.Lts as lts
use Rattle.conversion.proofs.birth.with_cell.Reads as reads
use Rattle.conversion.proofs.birth.with_cell.Tie as tie
use Rattle.conversion.proofs.birth.with_cell.Goals as goal

abbrev At-After-is_liquid : Type 0
At-After-is_liquid = lts.After-is_liquid tie.the-claims reads.Pre reads.Post

abbrev At-Start : Type 0
At-Start = lts.Start tie.the-claims reads.Pre reads.Post

abbrev At-After-flow_at : Type 0
At-After-flow_at = lts.After-flow_at tie.the-claims reads.Pre reads.Post

abbrev At-Then-is_liquid : Type 0
At-Then-is_liquid = lts.Then1 tie.the-claims reads.Pre reads.Post

-- the flag as the code reads it
reads-liquid : (c : At-After-is_liquid) → let s = c in c.is_liquid.result ≡ liquid (get_or s.args.flags.now s.args.b 3)
reads-liquid c = let s : At-Start = search in c.is_liquid.ensures ∙ ap liquid (get_or-there s.args.flags.now s.args.b 0 3 s.requires.1)

pub flow_at-requires : goal.flow_at-requires
flow_at-requires c = let s : At-Start = search in (s.requires.0, s.requires.1, sym (reads-liquid (search)) ∙ c.if-is_liquid.true)

pub returns-then-is_liquid : goal.returns-then-is_liquid
returns-then-is_liquid c =
    let after-flow-at : At-After-flow_at = search in let then1 : At-Then-is_liquid = search in let s : At-Start = search in
    counted-in d3q19.weight s.args.flags.now (part_of s.args.parts.now) s.args.fills.now s.args.off.now s.args.low s.args.g s.args.b (sym (reads-liquid (search)) ∙ then1.if-is_liquid.true) after-flow-at.flow_at.ensures c.joined.ensures

pub returns : goal.returns
returns c =
    let s : At-Start = search in
    left_out d3q19.weight s.args.flags.now (part_of s.args.parts.now) s.args.fills.now s.args.off.now s.args.low s.args.g s.args.b s.args.t (sym (reads-liquid (search)) ∙ c.if-is_liquid.false)
