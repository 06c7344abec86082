-- `spelling::spell::put_metres`: the sign, the whole metres, the point, three digits. Assumes nothing.
use mathlib.Core.Path.{◌≡◌, ap, ◌∙◌}
use Prim.Native.Nat.{ℕ, ◌/◌}
use native.Mathlib.Omega.{arith}
use lib.IntN.{ℤ, nat_abs}
use lib.ListN.{length}
use mir.Facts.{to_z-of_z}
use Rattle.spelling.specs.Spelling.{sign_of, spell_of}
use Rattle.spelling.specs.inner.Put.{Put}
use Rattle.spelling.proofs.Putting.{put-long, sign-told, metres-put, metres-long}
use Rattle.spelling.proofs.spell.put_metres.Lts as lts
use Rattle.spelling.proofs.spell.put_metres.Reads as reads
use Rattle.spelling.proofs.spell.put_metres.Tie as tie
use Rattle.spelling.proofs.spell.put_metres.Goals as goal

abbrev At-After-magnitude-m : Type 0
At-After-magnitude-m = lts.After-magnitude tie.the-claims reads.Pre reads.Post

abbrev At-After-put_sign-whole : Type 0
At-After-put_sign-whole = lts.After-put_sign tie.the-claims reads.Pre reads.Post

-- the magnitude, and the sign's own bytes
size : (c : At-After-magnitude-m) → c.magnitude-m.result ≡ nat_abs c.args.z
size c = c.magnitude-m.ensures ∙ ap nat_abs (to_z-of_z c.ranges.z)

sign : (c : At-After-put_sign-whole) → Put c.args.room.now c.args.at (sign_of c.args.z) c.put_sign-whole.new.room c.put_sign-whole.result
sign c = sign-told c.put_sign-whole.ensures (to_z-of_z c.ranges.z)

pub put_sign-whole-requires : goal.put_sign-whole-requires
put_sign-whole-requires c =
    let s = c in
    omega (arith, metres-long s.args.z, ap (λ (x : ℤ). length (sign_of x)) (to_z-of_z s.ranges.z))

pub put_number-point-requires : goal.put_number-point-requires
put_number-point-requires c =
    let g = c in
    let s = g in
    omega (arith, metres-long s.args.z, (sign g.before.before.before).end, put-long (sign g.before.before.before), ap (λ (n : ℕ). length (spell_of (n / 1000))) (size g.before.before.before.before.before))

pub put_byte-decimals-requires : goal.put_byte-decimals-requires
put_byte-decimals-requires c =
    let n = c in
    let g = n in
    let s = g in
    omega (arith, metres-long s.args.z, (sign g.before.before.before.before.before.before.before).end, put-long (sign g.before.before.before.before.before.before.before), ap (λ (n : ℕ). length (spell_of (n / 1000))) (size g.before.before.before.before.before.before.before.before.before), n.put_number-point.ensures.end, put-long n.put_number-point.ensures)

pub put_digits-requires : goal.put_digits-requires
put_digits-requires c =
    let b = c in
    let n = b in
    let g = n in
    let s = g in
    omega (arith, metres-long s.args.z, (sign g.before.before.before.before.before.before.before.before.before.before.before).end, put-long (sign g.before.before.before.before.before.before.before.before.before.before.before), ap (λ (n : ℕ). length (spell_of (n / 1000))) (size g.before.before.before.before.before.before.before.before.before.before.before.before.before), n.put_number-point.ensures.end, put-long n.put_number-point.ensures, b.put_byte-decimals.ensures.end, put-long b.put_byte-decimals.ensures)

pub returns : goal.returns
returns c =
    let d = c in
    let b = d in
    let n = b in
    let g = n in
    metres-put _ (size g.before.before.before.before.before.before.before.before.before.before.before.before.before.before.before.before.before) (sign g.before.before.before.before.before.before.before.before.before.before.before.before.before.before.before) n.put_number-point.ensures b.put_byte-decimals.ensures d.put_digits.ensures
