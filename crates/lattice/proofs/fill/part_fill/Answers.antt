-- `lattice::fill::part_fill`: the code's three cases are those of the definition, and the quotient is at most 65,536. Assumes nothing.
use mathlib.Core.Path.{◌≡◌, sym, ◌∙◌, ap, subst}
use native.Mathlib.Omega.{arith}
use lib.Dec.{T}
use lib.IntN.{ℤ, pos, nat_abs, ◌*ℤ◌}
use lib.Signed.{◌<ℤ◌, non_neg, quot_z}
use mir.Syntax.{w32, w64}
use mir.Val.{Fits, to_z, of_z}
use mir.Facts.{sfits_lit}
use Rattle.whole.specs.laws.Parts.{abs-parts, one-zero, <-parts}
use Rattle.whole.specs.laws.Bounds.{divisor}
use Rattle.whole.specs.laws.Order.{le_z-true, le_z-false}
use Rattle.whole.specs.laws.Machine.{Within, machine, w64-in, does-fit, reads_as}
use Rattle.whole.specs.laws.Tests.{le_test}
use Rattle.lattice.specs.Cell.{fill_of}
use Rattle.lattice.proofs.Fills.{no-mass, all-mass, some-mass, fill-most}
use Rattle.lattice.proofs.fill.part_fill.Goals as goal

-- in the last case 0 < m < ρ
module _ (c : goal.Else-m-rho) where
  some : pos 0 <ℤ c.args.m
  some = let s = c.before.before in le_z-false (le_test {w = w64} {b = pos 0} s.ranges.m (sfits_lit tt) c.if-m-le0.false)

  less : c.args.m <ℤ c.args.rho
  less = let s = c.before.before in le_z-false (le_test s.ranges.rho s.ranges.m c.if-m-rho.false)

  m-in : Within c.args.m 1099511627776
  m-in =
      let s = c.before.before in
      record { abs = omega (arith, <-parts some, <-parts less, abs-parts s.args.m, one-zero s.args.m, abs-parts s.args.rho, one-zero s.args.rho, s.requires.1.abs) }

-- the quotient is the definition's fill
module _ (c : goal.Else-m-rho) where
  abbrev read : ℤ
  read = let s = c.before.before in to_z w64 (of_z w64 (quot_z (to_z w64 (of_z w64 (pos 65536 *ℤ to_z w64 (of_z w64 s.args.m)))) (to_z w64 (of_z w64 s.args.rho))))

  quotient : read ≡ pos (fill_of c.args.m c.args.rho)
  quotient =
      let s = c.before.before in
      let h = m-in c in
      reads_as (search (machine, w64-in) depth 20) tt ∙ some-mass s.args.m s.args.rho (some c) (less c)

pub returns-then-m-le0 : goal.returns-then-m-le0
returns-then-m-le0 c =
    let s = c.before in
    sym (no-mass s.args.m s.args.rho (le_z-true (le_test {w = w64} {b = pos 0} s.ranges.m (sfits_lit tt) c.if-m-le0.true)))

pub returns-then-m-rho : goal.returns-then-m-rho
returns-then-m-rho c =
    let s = c.before.before in
    sym (all-mass s.args.m s.args.rho s.requires.0 (le_z-true (le_test s.ranges.rho s.ranges.m c.if-m-rho.true)))

pub overflow_mul-result : goal.overflow_mul-result
overflow_mul-result c = let h = m-in c in does-fit (search (machine, w64-in) depth 20) tt

pub nonzero_div-result : goal.nonzero_div-result
nonzero_div-result c =
    let s = c.before.before in
    let h = m-in c in
    (divisor w64 s.args.rho s.ranges.rho (omega (arith, <-parts s.requires.0, abs-parts s.args.rho)), does-fit (search (machine, w64-in) depth 20) tt)

pub overflow_cast-result : goal.overflow_cast-result
overflow_cast-result c =
    let s = c.before.before in
    subst (λ (z : ℤ). T (non_neg z) × Fits w32 (nat_abs z)) (sym (quotient c)) (tt, record { fits = omega (arith, fill-most s.args.m s.args.rho) })

pub returns : goal.returns
returns c = ap nat_abs (quotient c)
