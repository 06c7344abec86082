-- `writing::front::put_head` writes sections 1 to 4, one after the other. Assumes nothing.
use mathlib.Core.Path.{refl, ap, ap₂, ◌∙◌}
use mathlib.Core.List.{[], ◌∷◌, ◌++◌}
use lib.IntN.{ℤ}
use lib.Seq.{sets}
use mir.Syntax.{w64}
use mir.Val.{to_z, of_z}
use mir.ValLaws.{to_z-of_z}
use Rattle.record.specs.Bytes.{bytes_of, join, u32_of, i32_of, i64_of}
use Rattle.record.specs.Layout.{site_bytes, totals_bytes, head_bytes, section}
use Rattle.record.proofs.Numbers.{then-put}
use Rattle.writing.proofs.front.put_head.Goals as goal

pub returns : goal.returns
unfolding bytes_of join site_bytes totals_bytes head_bytes
returns c =
    let put_four = c in
    let put_three = put_four in
    let put_two = put_three in
    let put_one = put_two in
    let d = put_one in
    let a = d.args in
    let l = a.room.now in
    let one = section 3 (u32_of a.s.nx ∷ u32_of a.s.ny ∷ u32_of a.s.nz ∷ []) in
    let two = section 5 (i32_of a.g.p ∷ i32_of a.g.gx ∷ i32_of a.g.gy ∷ i32_of a.g.gz ∷ i32_of a.t.edge ∷ []) in
    let three = section 3 (i64_of a.t.x ∷ i64_of a.t.y ∷ i64_of a.t.z ∷ []) in
    let four = totals_bytes a.carry a.poured a.taken in
    let upto-two = then-put l 0 16 one two put_one.put_sides.ensures put_two.put_settings.ensures refl in
    let upto-three = then-put l 0 40 (one ++ two) three upto-two put_three.put_origin.ensures refl in
    let room = put_three.put_origin.new.room in
    let last =
    put_four.put_totals.ensures
    ∙ ap (λ (z : ℤ). sets room 68 (totals_bytes z (to_z w64 (of_z w64 a.poured)) (to_z w64 (of_z w64 a.taken)))) (to_z-of_z w64 a.carry d.ranges.carry)
    ∙ ap₂ (λ (y z : ℤ). sets room 68 (totals_bytes a.carry y z)) (to_z-of_z w64 a.poured d.ranges.poured) (to_z-of_z w64 a.taken d.ranges.taken) in
    then-put l 0 68 (one ++ two ++ three) four upto-three last refl
