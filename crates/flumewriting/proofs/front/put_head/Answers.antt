-- `flumewriting::front::put_head` writes sections 1 to 4, one after the other. Assumes nothing.
use mathlib.Core.Path.{refl, ap, ◌∙◌}
use mathlib.Core.List.{[], ◌∷◌, ◌++◌}
use lib.IntN.{ℤ}
use lib.Seq.{sets}
use mir.Syntax.{w64}
use mir.ValLaws.{to_z-of_z}
use Rattle.record.specs.Bytes.{bytes_of, join, u32_of, i32_of, i64_of}
use Rattle.record.specs.Layout.{section}
use Rattle.record.proofs.Numbers.{then-put}
use Rattle.flumerecord.specs.Layout.{flume_site_bytes, flume_head_bytes}
use Rattle.flumewriting.proofs.front.put_head.Goals as goal

pub returns : goal.returns
unfolding bytes_of join flume_site_bytes flume_head_bytes
returns c =
    let put_four = c in
    let put_three = put_four in
    let put_two = put_three in
    let put_one = put_two in
    let d = put_one in
    let a = d.args in
    let l = a.room.now in
    let one = section 2 (u32_of a.s.nx ∷ u32_of a.s.nz ∷ []) in
    let two = section 4 (i32_of a.g.p ∷ i32_of a.g.gx ∷ i32_of a.g.gz ∷ i32_of a.t.edge ∷ []) in
    let three = section 2 (i64_of a.t.x ∷ i64_of a.t.z ∷ []) in
    let four = section 1 (i64_of a.carry ∷ []) in
    let upto-two = then-put l 0 12 one two put_one.put_sides.ensures put_two.put_settings.ensures refl in
    let upto-three = then-put l 0 32 (one ++ two) three upto-two put_three.put_origin.ensures refl in
    let room = put_three.put_origin.new.room in
    let last = put_four.put_carry.ensures ∙ ap (λ (z : ℤ). sets room 52 (section 1 (i64_of z ∷ []))) (to_z-of_z w64 a.carry d.ranges.carry) in
    then-put l 0 52 (one ++ two ++ three) four upto-three last refl
