-- Number, place, kind and value that the calls below tell of a depth are what is told of it. Assumes nothing.
use mathlib.Core.Path.{◌≡◌, sym, subst}
use Prim.Native.Nat.{ℕ}
use lib.Ieee.{Float}
use Rattle.std.specs.Prelude.{Result}
use Rattle.grid.specs.declared.refusals.Refusal.{Refusal}
use Rattle.tunnel.specs.declared.Depth.{Depth}
use Rattle.tunnel.specs.Depth.{Reading, Told, told_of, Tells, DepthIs}
use Rattle.tunnel.proofs.Cases.{tells}
use Rattle.hosttunnel.specs.Promise.{DepthTold}

pub depth-told : {a : Result Depth Refusal} {w : Reading} {number place kind : ℕ} {depth : Float} → DepthIs a w
    → number ≡ (told_of a).number → place ≡ (told_of a).place → kind ≡ (told_of a).kind → depth ≡ (told_of a).value → DepthTold w number place kind depth
depth-told {w = w} h n p k d = subst (λ (t : Told). Tells t w) (sym (λ i. record { number = n i; place = p i; kind = k i; value = d i })) (tells h)
