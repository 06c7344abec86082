-- No second answer fits a promise of this layer: what the definition gives for an input admits one value of the code's enum or struct. Assumes nothing.
use mathlib.Core.Path.{◌≡◌, refl, sym, ap, ◌∙◌}
use lib.Dec.{lit<}
use Rattle.std.specs.Prelude.{Result, Ok, Err}
use Rattle.tunnel.specs.declared.CellPoint.{CellPoint}
use Rattle.tunnel.specs.declared.Depth.{Depth}
use Rattle.grid.specs.declared.refusals.Refusal.{Refusal}
use Rattle.tunnel.specs.Place.{Placed}
use Rattle.tunnel.specs.Point.{WholePoint, CentreIs, PointIs, is-refused, is-point}
use Rattle.tunnel.specs.Depth.{Reading, reading_sum, Told, Tells, DepthIs}
use Rattle.tunnel.proofs.Cases.{tells, answer_of, answer-is}
use Rattle.tunnel.proofs.Floats.{exactly-one}

-- placing: the promise is an equation
pub placed_one : {r t w : Placed} → r ≡ w → t ≡ w → r ≡ t
placed_one p q = p ∙ sym q

-- cell point: the refusal, or four `f32` whose values are given exactly
centre-one : {r t : CellPoint} {w : WholePoint} → CentreIs r w → CentreIs t w → r ≡ t
centre-one {r} {t} {w} p q =
    λ i. record {
      x = exactly-one r.x t.x w.x 2 (lit< tt) p.x q.x i;
      y = exactly-one r.y t.y w.y 2 (lit< tt) p.y q.y i;
      z = exactly-one r.z t.z w.z 2 (lit< tt) p.z q.z i;
      fill = exactly-one r.fill t.fill w.fill 65536 (lit< tt) p.fill q.fill i;
    }

-- the answer is the definition's refusal, or a struct of its point
abbrev Is : Result CellPoint Refusal → Result WholePoint Refusal → Type 0
Is r (Ok w) = (p : CellPoint) × (r ≡ Ok p) × CentreIs p w
Is r (Err refusal) = r ≡ Err refusal

point-is : {r : Result CellPoint Refusal} {w : Result WholePoint Refusal} → PointIs r w → Is r w
point-is is-refused = refl
point-is (is-point {r} h) = (r, refl, h)

pub point-one : {r t : Result CellPoint Refusal} {w : Result WholePoint Refusal} → PointIs r w → PointIs t w → r ≡ t
point-one {w = w} p q = go w (point-is p) (point-is q)
  where
    go : {r t : Result CellPoint Refusal} (w : Result WholePoint Refusal) → Is r w → Is t w → r ≡ t
    go (Ok w) a b = a.1 ∙ ap (λ (p : CellPoint). Ok p) (centre-one a.2 b.2) ∙ sym b.1
    go (Err refusal) a b = a ∙ sym b

-- depth in numbers: number, place, kind, and an `f32` whose value is given exactly
pub told-one : {r t : Told} {w : Reading} → Tells r w → Tells t w → r ≡ t
told-one {r} {t} {w} p q =
    λ i. record {
      number = (p.number_is ∙ sym q.number_is) i;
      place = (p.place_is ∙ sym q.place_is) i;
      kind = (p.kind-is ∙ sym q.kind-is) i;
      value = exactly-one r.value t.value (reading_sum w) 65536 (lit< tt) p.value-is q.value-is i;
    }

-- depth: the reading tells the case
pub depth-one : {r t : Result Depth Refusal} {w : Reading} → DepthIs r w → DepthIs t w → r ≡ t
depth-one {w = w} p q = answer-is p ∙ ap (λ (x : Told). answer_of w x.value) (told-one (tells p) (tells q)) ∙ sym (answer-is q)
