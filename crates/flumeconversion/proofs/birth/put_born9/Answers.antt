-- `flumeconversion::birth::put_born9`: the equilibrium of the mean flow is what the cell begins with. Assumes nothing.
use mathlib.Core.Path.{◌∙◌, ap}
use mathlib.Core.List.{List}
use lib.IntN.{ℤ}
use Rattle.flume.specs.inner.Spread.{spread_lattice}
use Rattle.nine.specs.inner.Cells.{part_of9, pasted9}
use Rattle.conversion.proofs.Means.{born-tame}
use Rattle.conversion.proofs.Births.{born-list, born-fair}
use Rattle.flumeconversion.proofs.birth.put_born9.Lts as lts
use Rattle.flumeconversion.proofs.birth.put_born9.Reads as reads
use Rattle.flumeconversion.proofs.birth.put_born9.Tie as tie
use Rattle.flumeconversion.proofs.birth.put_born9.Goals as goal

abbrev At-Start : Type 0
At-Start = lts.Start tie.the-claims reads.Pre reads.Post

abbrev At-After-paste9 : Type 0
At-After-paste9 = lts.After-paste9 tie.the-claims reads.Pre reads.Post

abbrev At-After-equilibrium9-v : Type 0
At-After-equilibrium9-v = lts.After-equilibrium9 tie.the-claims reads.Pre reads.Post

abbrev At-After-mean_flow9 : Type 0
At-After-mean_flow9 = lts.After-mean_flow9 tie.the-claims reads.Pre reads.Post

pub equilibrium9-v-requires : goal.equilibrium9-v-requires
equilibrium9-v-requires c =
    let s : At-Start = search in
    born-tame spread_lattice.weight s.args.flags.now (part_of9 s.args.parts.now) s.args.fills.now s.args.off.now s.args.low s.args.g s.args.c s.requires.0.cells s.requires.1 c.mean_flow9.ensures s.requires.2

pub returns : goal.returns
returns c =
    let after-paste9 : At-After-paste9 = search in let after-equilibrium9 : At-After-equilibrium9-v = search in let after-mean-flow9 : At-After-mean_flow9 = search in let s : At-Start = search in
    let b = after-mean-flow9.mean_flow9.ensures in
    let v = after-equilibrium9.equilibrium9-v in
    record {
      parts = after-paste9.paste9.ensures ∙ ap (λ (l : List ℤ). pasted9 s.args.parts2.now s.args.c l) (born-list spread_lattice.weight s.args.flags.now (part_of9 s.args.parts.now) s.args.fills.now s.args.off.now s.args.low s.args.g s.args.c b v.result v.ensures.0);
      fair-is = c.fair_parts.ensures ∙ born-fair spread_lattice.weight s.args.flags.now (part_of9 s.args.parts.now) s.args.fills.now s.args.off.now s.args.low s.args.g s.args.c b v.result v.ensures.0;
    }
