-- `conversion::birth::put_born`: the equilibrium of the mean flow is what the cell begins with. Assumes nothing.
use mathlib.Core.Path.{◌∙◌, ap}
use mathlib.Core.List.{List}
use Prim.Native.Nat.{◌*◌}
use lib.IntN.{ℤ}
use Rattle.grid.specs.inner.Pasted.{pasted}
use Rattle.lattice.specs.Lattice.{d3q19}
use Rattle.grid.specs.State.{part_of}
use Rattle.conversion.specs.inner.Born.{tested_of}
use Rattle.conversion.proofs.Means.{born-tame}
use Rattle.conversion.proofs.Births.{born-list, born-fair}
use Rattle.conversion.proofs.birth.put_born.Lts as lts
use Rattle.conversion.proofs.birth.put_born.Reads as reads
use Rattle.conversion.proofs.birth.put_born.Tie as tie
use Rattle.conversion.proofs.birth.put_born.Goals as goal

abbrev At-Start : Type 0
At-Start = lts.Start tie.the-claims reads.Pre reads.Post

abbrev At-After-paste : Type 0
At-After-paste = lts.After-paste tie.the-claims reads.Pre reads.Post

abbrev At-After-equilibrium-v : Type 0
At-After-equilibrium-v = lts.After-equilibrium tie.the-claims reads.Pre reads.Post

abbrev At-After-mean_flow : Type 0
At-After-mean_flow = lts.After-mean_flow tie.the-claims reads.Pre reads.Post

pub equilibrium-v-requires : goal.equilibrium-v-requires
equilibrium-v-requires c =
    let s : At-Start = search in
    born-tame d3q19.weight s.args.flags.now (part_of s.args.parts.now) s.args.fills.now s.args.off.now s.args.low s.args.g s.args.c (tested_of s.requires.0) s.requires.1 c.mean_flow.ensures s.requires.2

pub returns : goal.returns
returns c =
    let after-paste : At-After-paste = search in let after-equilibrium : At-After-equilibrium-v = search in let after-mean-flow : At-After-mean_flow = search in
    let s : At-Start = search in
    let b = after-mean-flow.mean_flow.ensures in
    let v = after-equilibrium.equilibrium-v in
    record {
      parts = after-paste.paste.ensures ∙ ap (λ (l : List ℤ). pasted s.args.parts2.now (19 * s.args.c) l) (born-list d3q19.weight s.args.flags.now (part_of s.args.parts.now) s.args.fills.now s.args.off.now s.args.low s.args.g s.args.c b v.result v.ensures.0);
      fair-is = c.fair_parts.ensures ∙ born-fair d3q19.weight s.args.flags.now (part_of s.args.parts.now) s.args.fills.now s.args.off.now s.args.low s.args.g s.args.c b v.result v.ensures.0;
    }
