-- `spelling::spell::whole_length`: the sign and the digits. Assumes nothing.
use mathlib.Core.Path.{ap, ◌∙◌}
use native.Mathlib.Omega.{arith}
use lib.IntN.{ℤ, nat_abs}
use lib.ListN.{length}
use mir.Facts.{to_z-of_z}
use Rattle.spelling.specs.Spelling.{sign_of, width}
use Rattle.spelling.proofs.Putting.{whole_long, spell-long, width-most, sign-most}
use Rattle.spelling.proofs.spell.whole_length.Goals as goal

pub overflow_add-result : goal.overflow_add-result
overflow_add-result c =
    let s = c in
    let g = c.sign_length.ensures ∙ ap (λ (x : ℤ). length (sign_of x)) (to_z-of_z s.ranges.z) in
    omega (arith, g, sign-most s.args.z, c.width.ensures, width-most 19 c.magnitude.result)

pub returns : goal.returns
returns c =
    let s = c in
    let g = c.sign_length.ensures ∙ ap (λ (x : ℤ). length (sign_of x)) (to_z-of_z s.ranges.z) in
    let w = c.width.ensures ∙ ap width (c.magnitude.ensures ∙ ap nat_abs (to_z-of_z s.ranges.z)) in
    omega (arith, g, w, whole_long s.args.z, spell-long (nat_abs s.args.z))
