-- `spelling::spell::metres_length`: the sign, the whole metres, and four bytes. Assumes nothing.
use mathlib.Core.Path.{ap, ◌∙◌}
use Prim.Native.Nat.{ℕ, ◌/◌}
use native.Mathlib.Omega.{arith}
use lib.IntN.{ℤ, nat_abs}
use lib.ListN.{length}
use mir.Facts.{to_z-of_z}
use Rattle.spelling.specs.Spelling.{sign_of, width}
use Rattle.spelling.proofs.Putting.{metres-long, spell-long, width-most, sign-most}
use Rattle.spelling.proofs.spell.metres_length.Goals as goal

pub overflow_add-result : goal.overflow_add-result
overflow_add-result c =
    let s = c in
    let g = c.sign_length.ensures ∙ ap (λ (x : ℤ). length (sign_of x)) (to_z-of_z s.ranges.z) in
    omega (arith, g, sign-most s.args.z, c.width.ensures, width-most 19 (c.magnitude.result / 1000))

pub overflow_add-result-2 : goal.overflow_add-result-2
overflow_add-result-2 c =
    let s = c in
    let g = c.sign_length.ensures ∙ ap (λ (x : ℤ). length (sign_of x)) (to_z-of_z s.ranges.z) in
    omega (arith, g, sign-most s.args.z, c.width.ensures, width-most 19 (c.magnitude.result / 1000))

pub returns : goal.returns
returns c =
    let s = c in
    let g = c.sign_length.ensures ∙ ap (λ (x : ℤ). length (sign_of x)) (to_z-of_z s.ranges.z) in
    let w = c.width.ensures ∙ ap (λ (n : ℕ). width (n / 1000)) (c.magnitude.ensures ∙ ap nat_abs (to_z-of_z s.ranges.z)) in
    omega (arith, g, w, metres-long s.args.z, spell-long (nat_abs s.args.z / 1000))
