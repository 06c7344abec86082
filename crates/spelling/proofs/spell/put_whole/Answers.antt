-- `spelling::spell::put_whole`: the sign, then the magnitude. Assumes nothing.
use mathlib.Core.Path.{ap, ◌∙◌}
use Prim.Native.Nat.{ℕ}
use native.Mathlib.Omega.{arith}
use lib.IntN.{ℤ, nat_abs}
use lib.ListN.{length}
use mir.Facts.{to_z-of_z}
use Rattle.spelling.specs.Spelling.{sign_of, spell_of}
use Rattle.spelling.proofs.Putting.{put-long, sign-told, whole-put, whole_long}
use Rattle.spelling.proofs.spell.put_whole.Goals as goal

pub put_sign-p-requires : goal.put_sign-p-requires
put_sign-p-requires c =
    let s = c in
    omega (arith, whole_long s.args.z, ap (λ (x : ℤ). length (sign_of x)) (to_z-of_z s.ranges.z))

pub put_number-requires : goal.put_number-requires
put_number-requires c =
    let s = c in
    let p = sign-told c.put_sign-p.ensures (to_z-of_z s.ranges.z) in
    let m = c.magnitude.ensures ∙ ap nat_abs (to_z-of_z s.ranges.z) in
    omega (arith, whole_long s.args.z, p.end, put-long p, ap (λ (n : ℕ). length (spell_of n)) m)

pub returns : goal.returns
returns c =
    let s = c in
    let m = c.magnitude.ensures ∙ ap nat_abs (to_z-of_z s.ranges.z) in
    whole-put s.args.z m (sign-told c.put_sign-p.ensures (to_z-of_z s.ranges.z)) c.put_number.ensures
