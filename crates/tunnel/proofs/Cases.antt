-- The cases of the code's depth: what is told of it in numbers, and the answer itself, are those of the reading that it stands for; and what is told of a
-- depth tells its case. Assumes nothing.
use Rattle.std.specs.Prelude.{◌≡◌, ℕ, zero, suc, Result, Ok, Err, Float}
use Rattle.std.proofs.Common.{refl, ap}
use Rattle.grid.specs.declared.refusals.Refusal.{Refusal}
use Rattle.grid.proofs.Numbered.{refusal_of, told-back}
use Rattle.tunnel.specs.declared.Depth.{Depth}
use Rattle.tunnel.specs.declared.Depth.TheVariants.{Solid, Dry, Deep}
use Rattle.tunnel.specs.Depth.{Reading, solid, dry, deep, DepthIs, is-refused, is-solid, is-dry, is-deep, Told, told_of, Tells}
use Rattle.tunnel.proofs.Floats.{zero-exact}

-- its numbers
pub tells : {a : Result Depth Refusal} {w : Reading} → DepthIs a w → Tells (told_of a) w
tells is-refused = record { number_is = refl; place_is = refl; kind-is = refl; value-is = zero-exact 65536 }
tells is-solid = record { number_is = refl; place_is = refl; kind-is = refl; value-is = zero-exact 65536 }
tells is-dry = record { number_is = refl; place_is = refl; kind-is = refl; value-is = zero-exact 65536 }
tells (is-deep h) = record { number_is = refl; place_is = refl; kind-is = refl; value-is = h }

-- the answer, by the reading and the `f32` that is told
abbrev pub answer_of : Reading → Float → Result Depth Refusal
answer_of (Ok solid) value = Ok Solid
answer_of (Ok dry) value = Ok Dry
answer_of (Ok (deep sum)) value = Ok (Deep value)
answer_of (Err refusal) value = Err refusal

pub answer-is : {a : Result Depth Refusal} {w : Reading} → DepthIs a w → a ≡ answer_of w (told_of a).value
answer-is is-refused = refl
answer-is is-solid = refl
answer-is is-dry = refl
answer-is (is-deep h) = refl

-- ---- and back
abbrev by_kind : ℕ → Told → Result Depth Refusal
by_kind zero t = Err (refusal_of t.number t.place)
by_kind (suc zero) t = Ok Solid
by_kind (suc (suc zero)) t = Ok Dry
by_kind (suc (suc (suc k))) t = Ok (Deep t.value)

abbrev pub case_of : Told → Result Depth Refusal
case_of t = by_kind t.kind t

pub told_back : (a : Result Depth Refusal) → case_of (told_of a) ≡ a
told_back (Ok Solid) = refl
told_back (Ok Dry) = refl
told_back (Ok (Deep depth)) = refl
told_back (Err refusal) = ap Err (told-back refusal)
