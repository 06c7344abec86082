-- `turbulence::stress::even_share`: the even part of Q is not negative and its quotient is small. Assumes nothing.
use mathlib.Core.Path.{◌≡◌, ◌∙◌, ap}
use Prim.Native.Nat.{◌+◌, ◌*◌, ◌/◌, ◌≤◌}
use native.Mathlib.Omega.{arith}
use lib.IntN.{ℤ, pos, nat_abs, ◌+ℤ◌}
use mir.Syntax.{w32, w64}
use mir.Val.{to_z, of_z}
use mir.Facts.{to_z_pos}
use Rattle.whole.specs.laws.Casts.{index-asks}
use Rattle.whole.specs.laws.Machine.{Val, same, v+, v*, v32, v64, vpos, does-fit, reads_as}
use Rattle.lattice.proofs.Reading.{reading, inside}
use Rattle.turbulence.specs.inner.Post.{even_of, even_share}
use Rattle.turbulence.proofs.Quotients.{share-most}
use Rattle.turbulence.proofs.stress.even_share.Lts as lts
use Rattle.turbulence.proofs.stress.even_share.Reads as reads
use Rattle.turbulence.proofs.stress.even_share.Tie as tie
use Rattle.turbulence.proofs.stress.even_share.Goals as goal

abbrev At-After-times : Type 0
At-After-times = lts.After-times tie.the-claims reads.Pre reads.Post tie.handed_clauses

abbrev At-After-struct_told-1 : Type 0
At-After-struct_told-1 = lts.After-struct_told tie.the-claims reads.Pre reads.Post tie.handed_clauses

-- 9d²
abbrev square-is : (c : At-After-times) → Val c.times.result
square-is c = let d = v32 (inside c.requires.near) in same c.times.ensures (v* (v32 (v* vpos d)) d)

-- the even part, as the machine holds it
abbrev even_is : (c : At-After-struct_told-1)
    → Val (to_z w64 (of_z w64 (to_z w64 (of_z w64 c.args.k.base) +ℤ to_z w64 (of_z w64 c.times.result))))
even_is c = let d = c.before.before in v64 (v+ (v64 (inside d.requires.base)) (v64 (square-is d)))

share-is : (c : goal.After-share) → c.share.result ≡ even_share c.args.d c.args.k
share-is c =
    let s = c.before.before.before.before in
    c.share.ensures ∙ ap (λ (z : ℤ). nat_abs z / s.args.k.den) (reads_as (even_is c.before) tt)

small : (c : goal.After-share) → c.share.result ≤ 1179648
small c =
    let s = c.before.before.before.before in
    omega (arith, share-is c, share-most (nat_abs (even_of s.args.d s.args.k)) s.args.k.den s.requires.some s.requires.most)

pub overflow_mul-d : goal.overflow_mul-d
overflow_mul-d c = let d = c.requires.near in does-fit (search reading depth 20) tt

pub overflow_add-k : goal.overflow_add-k
overflow_add-k c =
    let d = c.before.before.before in
    let b = d.requires.base in
    let q = square-is d in
    does-fit (search reading depth 20) tt

pub overflow_cast-k : goal.overflow_cast-k
overflow_cast-k c = index-asks w64 (even_is c.before) tt c.requires.up

pub share-requires : goal.share-requires
share-requires c =
    let s = c.before.before.before.before in
    let e = reads_as (even_is c.before) tt in
    record { den_nonzero = (s.requires.some, s.requires.den); u_bound = rw e (s.requires.most, s.requires.few); den_bound = (s.requires.low, s.requires.high) }

pub overflow_cast-result : goal.overflow_cast-result
overflow_cast-result c = record { sfits = omega (arith, small c) }

pub returns : goal.returns
returns c = to_z_pos w32 (omega (arith, small c)) ∙ ap pos (share-is c)
