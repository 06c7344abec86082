-- `conversion::birth::mean`: four cut means. Assumes nothing.
use mathlib.Core.Path.{◌∙◌, ap₂}
use lib.Signed.{quot_z}
use Rattle.arrivals.proofs.Held.{held32, held64}
use Rattle.conversion.proofs.birth.mean.Lts as lts
use Rattle.conversion.proofs.birth.mean.Reads as reads
use Rattle.conversion.proofs.birth.mean.Tie as tie
use Rattle.conversion.proofs.birth.mean.Goals as goal

abbrev At-After-struct_told-8-1 : Type 0
At-After-struct_told-8-1 = lts.After-struct_told8 tie.the-claims reads.Pre reads.Post

abbrev At-After-cut_mean-3 : Type 0
At-After-cut_mean-3 = lts.After-cut_mean3 tie.the-claims reads.Pre reads.Post

abbrev At-After-cut_mean-2 : Type 0
At-After-cut_mean-2 = lts.After-cut_mean2 tie.the-claims reads.Pre reads.Post

abbrev At-After-cut_mean : Type 0
At-After-cut_mean = lts.After-cut_mean tie.the-claims reads.Pre reads.Post

abbrev At-Start : Type 0
At-Start = lts.Start tie.the-claims reads.Pre reads.Post

pub returns : goal.returns
returns c =
    let after-struct-told8 : At-After-struct_told-8-1 = search in let after-cut-mean3 : At-After-cut_mean-3 = search in let after-cut-mean2 : At-After-cut_mean-2 = search in
    let after-cut-mean : At-After-cut_mean = search in let start : At-Start = search in let z = c.cut_mean-4 in
    let y = after-cut-mean3.cut_mean-3 in
    let x = after-cut-mean2.cut_mean-2 in
    let r = after-cut-mean.cut_mean in
    let t = start.args.t in
    let told = after-struct-told8.struct_told-8-1.given in
    let n = held64 t.n told.0.1 in
    record {
      rho = held32 r.result r.type_inv ∙ r.ensures ∙ ap₂ quot_z (held64 t.rho told.1.0.1) n;
      x = held32 x.result x.type_inv ∙ x.ensures ∙ ap₂ quot_z (held64 t.x told.1.1.0.1) n;
      y = held32 y.result y.type_inv ∙ y.ensures ∙ ap₂ quot_z (held64 t.y told.1.1.1.0.1) n;
      z = held32 z.result z.type_inv ∙ z.ensures ∙ ap₂ quot_z (held64 t.z told.1.1.1.1.0.1) n;
    }
