-- `conversion::birth::joined`: five sums. Assumes nothing.
use mathlib.Core.Path.{◌∙◌, ap, ap₂}
use lib.IntN.{ℤ, pos, ◌+ℤ◌}
use Rattle.arrivals.proofs.Held.{held32, held64}
use Rattle.conversion.proofs.birth.joined.Lts as lts
use Rattle.conversion.proofs.birth.joined.Reads as reads
use Rattle.conversion.proofs.birth.joined.Tie as tie
use Rattle.conversion.proofs.birth.joined.Goals as goal

abbrev At-After-struct_told-9-1 : Type 0
At-After-struct_told-9-1 = lts.After-struct_told9 tie.the-claims reads.Pre reads.Post

abbrev At-After-struct_told-8-1 : Type 0
At-After-struct_told-8-1 = lts.After-struct_told8 tie.the-claims reads.Pre reads.Post

abbrev At-After-plus-4 : Type 0
At-After-plus-4 = lts.After-plus4 tie.the-claims reads.Pre reads.Post

abbrev At-After-plus-3 : Type 0
At-After-plus-3 = lts.After-plus3 tie.the-claims reads.Pre reads.Post

abbrev At-After-plus-2 : Type 0
At-After-plus-2 = lts.After-plus2 tie.the-claims reads.Pre reads.Post

abbrev At-After-plus : Type 0
At-After-plus = lts.After-plus tie.the-claims reads.Pre reads.Post

abbrev At-Start : Type 0
At-Start = lts.Start tie.the-claims reads.Pre reads.Post

pub returns : goal.returns
returns c =
    let after-struct-told9 : At-After-struct_told-9-1 = search in let after-struct-told8 : At-After-struct_told-8-1 = search in let after-plus4 : At-After-plus-4 = search in
    let after-plus3 : At-After-plus-3 = search in let after-plus2 : At-After-plus-2 = search in let after_plus : At-After-plus = search in let start : At-Start = search in
    let z = c.plus-5 in
    let y = after-plus4.plus-4 in
    let x = after-plus3.plus-3 in
    let r = after-plus2.plus-2 in
    let n = after_plus.plus in
    let a = start.args in
    let told = after-struct-told8.struct_told-8-1.given in
    let flow = after-struct-told9.struct_told-9-1.given in
    record {
      n = held64 n.result n.type_inv ∙ n.ensures ∙ ap (λ (k : ℤ). k +ℤ pos 1) (held64 a.t.n told.0.1);
      rho = held64 r.result r.type_inv ∙ r.ensures ∙ ap₂ (λ (k l : ℤ). k +ℤ l) (held64 a.t.rho told.1.0.1) (held32 a.v.rho flow.0.1);
      x = held64 x.result x.type_inv ∙ x.ensures ∙ ap₂ (λ (k l : ℤ). k +ℤ l) (held64 a.t.x told.1.1.0.1) (held32 a.v.x flow.1.0.1);
      y = held64 y.result y.type_inv ∙ y.ensures ∙ ap₂ (λ (k l : ℤ). k +ℤ l) (held64 a.t.y told.1.1.1.0.1) (held32 a.v.y flow.1.1.0.1);
      z = held64 z.result z.type_inv ∙ z.ensures ∙ ap₂ (λ (k l : ℤ). k +ℤ l) (held64 a.t.z told.1.1.1.1.0.1) (held32 a.v.z flow.1.1.1.0.1);
    }
