-- Number, place and values that the call tells of a cell point are those of its answer: the struct's own, or a refusal's beside zeros. Assumes nothing.
use mathlib.Core.Path.{◌≡◌, refl}
use Prim.Native.Nat.{ℕ}
use Rattle.std.specs.Prelude.{Result, Ok, Err}
use Rattle.grid.specs.declared.refusals.Refusal.{Refusal}
use Rattle.grid.specs.Answer.{refusal_number, refusal_place}
use Rattle.tunnel.specs.declared.CellPoint.{CellPoint}
use Rattle.tunnel.specs.Point.{WholePoint, PointIs, is-refused, is-point}
use Rattle.tunnel.specs.Depth.{zero_float}
use Rattle.tunnel.proofs.Floats.{zero-exact}
use Rattle.hosttunnel.specs.Promise.{PointTold}

abbrev TellsOf : Result CellPoint Refusal → Result WholePoint Refusal → Type 0
TellsOf (Ok r) w = PointTold w 0 0 r.x r.y r.z r.fill
TellsOf (Err refusal) w =
    (number place : ℕ) → number ≡ refusal_number refusal → place ≡ refusal_place refusal → PointTold w number place zero_float zero_float zero_float zero_float

pub point-told : {a : Result CellPoint Refusal} {w : Result WholePoint Refusal} → PointIs a w → TellsOf a w
point-told (is-point h) = record { number_is = refl; place_is = refl; x-is = h.x; y-is = h.y; z-is = h.z; fill_is = h.fill }
point-told is-refused = λ number place n p. record { number_is = n; place_is = p; x-is = zero-exact 2; y-is = zero-exact 2; z-is = zero-exact 2; fill_is = zero-exact 65536 }
