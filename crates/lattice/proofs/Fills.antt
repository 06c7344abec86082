-- The fill by the code's three cases: no mass, at least the density, and between. Assumes nothing.
use mathlib.Core.Path.{◌≡◌, refl, ap}
use Prim.Native.Nat.{zero, suc, min, ◌*◌, ◌/◌, ◌<◌, ◌≤◌}
use native.Mathlib.Nat.{zero-div, le-div_iff_mul-le, div-le_of_le-mul}
use native.Mathlib.Omega.{arith}
use lib.IntN.{ℤ, pos, negsuc, ◌*ℤ◌}
use lib.Signed.{◌≤ℤ◌, ◌<ℤ◌, quot_z}
use Rattle.whole.specs.laws.Parts.{≤-parts, <-parts}
use Rattle.lattice.specs.Cell.{fill_of}

pub no-mass : (m ρ : ℤ) → m ≤ℤ pos 0 → fill_of m ρ ≡ 0
no-mass (pos zero) (pos r) h = ap (min 65536) (zero-div r)
no-mass (pos zero) (negsuc r) h = refl
no-mass (pos (suc n)) ρ h = absurd (omega (arith, ≤-parts h))
no-mass (negsuc n) ρ h = refl

pub all-mass : (m ρ : ℤ) → pos 0 <ℤ ρ → ρ ≤ℤ m → fill_of m ρ ≡ 65536
all-mass (pos a) (pos b) h k =
    let s : 0 < b = omega (arith, <-parts h) in
    let l : 65536 * b ≤ 65536 * a = omega (arith, ≤-parts k) in
    let q : 65536 ≤ 65536 * a / b = (le-div_iff_mul-le s).1 l in
    omega arith
all-mass (pos a) (negsuc b) h k = absurd h.lt
all-mass (negsuc a) (pos b) h k = absurd k.le
all-mass (negsuc a) (negsuc b) h k = absurd h.lt

pub some-mass : (m ρ : ℤ) → pos 0 <ℤ m → m <ℤ ρ → quot_z (pos 65536 *ℤ m) ρ ≡ pos (fill_of m ρ)
some-mass (pos a) (pos b) h k =
    let q : 65536 * a / b ≤ 65536 = div-le_of_le-mul b (omega (arith, <-parts k)) in
    ap pos (omega arith)
some-mass (pos a) (negsuc b) h k = absurd k.lt
some-mass (negsuc a) ρ h k = absurd h.lt

pub fill-most : (m ρ : ℤ) → fill_of m ρ ≤ 65536
fill-most (pos m) (pos ρ) = omega arith
fill-most (pos m) (negsuc r) = omega arith
fill-most (negsuc m) ρ = omega arith
