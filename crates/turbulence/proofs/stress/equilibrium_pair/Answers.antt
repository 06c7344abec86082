-- `turbulence::stress::equilibrium_pair`: the even share is at least |e·j|, so neither sum is negative. Assumes nothing.
use mathlib.Core.Path.{◌≡◌, sym, ◌∙◌, ap, ap₂, subst}
use Prim.Native.Nat.{ℕ, ◌+◌, ◌/◌, ◌≤◌}
use native.Mathlib.Nat.{div-le_self, le-div_iff_mul-le, mul_comm}
use native.Mathlib.Omega.{arith}
use lib.IntN.{ℤ, pos, nat_abs, ◌+ℤ◌, ◌-ℤ◌}
use mir.Syntax.{w32}
use mir.Val.{to_z, of_z}
use mir.Facts.{to_z_pos}
use Rattle.whole.specs.laws.Casts.{index-asks}
use Rattle.whole.specs.laws.Machine.{Within, Val, known, same, v+, v32, vneg, does-fit, reads_as}
use Rattle.lattice.proofs.Reading.{inside}
use Rattle.turbulence.specs.inner.Post.{even_of, even_share}
use Rattle.turbulence.proofs.Quotients.{share-most}
use Rattle.turbulence.proofs.Still.{plus-up, minus-up, two-sums}
use Rattle.turbulence.proofs.stress.equilibrium_pair.Goals as goal

module _ (c : goal.After-even_share-a) where
  abbrev a : ℕ
  a = even_share c.args.d c.args.k

  abbrev d : ℤ
  d = c.args.d

  small : a ≤ 1179648
  small = let s = c.before in share-most (nat_abs (even_of s.args.d s.args.k)) s.args.k.den s.requires.0.some s.requires.0.most

  wide : nat_abs d ≤ a
  wide =
      let s = c.before in
      (le-div_iff_mul-le s.requires.0.some).1 (omega (arith, s.requires.0.above, mul_comm s.args.k.den (nat_abs s.args.d)))

  abbrev d-is : Val (to_z w32 (of_z w32 d))
  d-is = v32 (inside c.requires.0.near)

  abbrev a-is : Val (to_z w32 (of_z w32 c.even_share-a.result))
  a-is = v32 (same (c.even_share-a.ensures ∙ ap (λ (z : ℤ). pos (even_share z c.args.k)) (reads_as d-is tt)) (known (pos a) 1179648 small))

  abbrev sum_is : Val (to_z w32 (of_z w32 (to_z w32 (of_z w32 c.even_share-a.result) +ℤ to_z w32 (of_z w32 d))))
  sum_is = v32 (v+ a-is d-is)

  abbrev rest-is : Val (to_z w32 (of_z w32 (to_z w32 (of_z w32 c.even_share-a.result) -ℤ to_z w32 (of_z w32 d))))
  rest-is = v32 (v+ a-is (vneg d-is))

  sum-read : to_z w32 (of_z w32 (to_z w32 (of_z w32 c.even_share-a.result) +ℤ to_z w32 (of_z w32 d))) ≡ pos a +ℤ d
  sum-read = reads_as sum_is tt

  rest_read : to_z w32 (of_z w32 (to_z w32 (of_z w32 c.even_share-a.result) -ℤ to_z w32 (of_z w32 d))) ≡ pos a -ℤ d
  rest_read = reads_as rest-is tt

  both_most : (n : ℕ) → nat_abs (pos a +ℤ d) / n + nat_abs (pos a -ℤ d) / n ≤ 2359296
  both_most n =
      omega (arith, div-le_self (nat_abs (pos a +ℤ d)) n, div-le_self (nat_abs (pos a -ℤ d)) n, two-sums a d wide, small)

  -- the two quotients, as the machine holds them
  quotients : (n : ℕ)
      → nat_abs (to_z w32 (of_z w32 (to_z w32 (of_z w32 c.even_share-a.result) +ℤ to_z w32 (of_z w32 d)))) / n
      + nat_abs (to_z w32 (of_z w32 (to_z w32 (of_z w32 c.even_share-a.result) -ℤ to_z w32 (of_z w32 d)))) / n
      ≡ nat_abs (pos a +ℤ d) / n + nat_abs (pos a -ℤ d) / n
  quotients n = ap₂ (λ (x y : ℤ). nat_abs x / n + nat_abs y / n) sum-read rest_read

pub overflow_add-result : goal.overflow_add-result
overflow_add-result c = does-fit (v+ (a-is c) (d-is c)) tt

pub overflow_cast-result : goal.overflow_cast-result
overflow_cast-result c = index-asks w32 (sum_is c) tt (plus-up (a c) (d c) (wide c))

pub overflow_sub-result : goal.overflow_sub-result
overflow_sub-result c = does-fit (v+ (a-is c) (vneg (d-is c))) tt

pub overflow_cast-result-2 : goal.overflow_cast-result-2
overflow_cast-result-2 c = index-asks w32 (rest-is c) tt (minus-up (a c) (d c) (wide c))

pub overflow_add-result-2 : goal.overflow_add-result-2
overflow_add-result-2 c = record { fits = omega (arith, quotients c c.args.n, both_most c c.args.n) }

pub overflow_cast-result-3 : goal.overflow_cast-result-3
overflow_cast-result-3 c = record { sfits = omega (arith, quotients c c.args.n, both_most c c.args.n) }

pub returns : goal.returns
returns c =
    let n = c.args.n in
    let e = to_z_pos w32 (omega (arith, quotients c c.args.n, both_most c c.args.n)) ∙ ap pos (quotients c n) in
    (e, subst (λ (z : ℤ). Within z 2359296) (sym e) (record { abs = both_most c n }))
