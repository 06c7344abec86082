-- What two definitions of this layer mean, in terms that leave no room: a cell of an axis holds the points from its lower edge up to the next, and the
-- centre of the cell numbered x + nx(y + ny·z) is that of (x, y, z). Assumes nothing.
use mathlib.Core.Path.{◌≡◌, sym, ap, ◌∙◌, subst}
use mathlib.Core.Bool.{Bool, true, false, cond}
use Prim.Native.Nat.{ℕ, ◌+◌, ◌*◌, ◌/◌, ◌%◌, ◌<◌}
use native.Mathlib.Nat.{zero-add, mod-lt, mod-eq_of_lt, div-eq_of_lt, div-add-mod, add-mul-div_left, add-mul-mod_self_left, div-div-eq-div-mul}
use native.Mathlib.Omega.{arith}
use borrow.Author.Tests.{lt-ltb}
use lib.Dec.{ltb}
use lib.IntN.{ℤ, pos, negsuc, ◌-ℤ◌}
use lib.Signed.{◌≤ℤ◌, ◌<ℤ◌, shr_z}
use Rattle.whole.specs.laws.Parts.{≤-parts, <-parts, parts-≤, parts-<}
use Rattle.whole.specs.laws.Quot.{floor-only}
use Rattle.grid.specs.declared.Sides.{Sides}
use Rattle.grid.specs.Grid.{cell_at}
use Rattle.tunnel.specs.Place.{inside, axis_of}
use Rattle.tunnel.specs.Point.{centre_of}

-- ---- a point from edge·q on, and before edge·q + edge, is in cell q
holds : (z : ℤ) (edge side q : ℕ) → q < side → pos (edge * q) ≤ℤ z → z <ℤ pos (edge * q + edge) → inside (shr_z z edge) side ≡ q
holds (pos n) edge side q h low high =
    ap (λ (m : ℤ). inside m side) (floor-only n edge q (omega (arith, ≤-parts low)) (omega (arith, <-parts high)))
    ∙ ap (λ (b : Bool). cond b q side) (lt-ltb q side h)
holds (negsuc n) edge side q h low high = absurd (omega (arith, ≤-parts low))

pub axis-holds : (point origin : ℤ) (edge side q : ℕ) → q < side → pos (edge * q) ≤ℤ (point -ℤ origin) → (point -ℤ origin) <ℤ pos (edge * q + edge)
    → axis_of point origin edge side ≡ q
unfolding axis_of
axis-holds point origin edge side q h low high = holds (point -ℤ origin) edge side q h low high

-- ---- and cell q has no other points
within : (t : Bool) (a side q : ℕ) → q < side → cond t a side ≡ q → a ≡ q
within true a side q h e = e
within false a side q h e = absurd (let k : side ≡ q = e in omega arith)

between : (z : ℤ) (edge side q : ℕ) → 0 < edge → q < side → inside (shr_z z edge) side ≡ q → (pos (edge * q) ≤ℤ z) × (z <ℤ pos (edge * q + edge))
between (pos n) edge side q p h e =
    let k : n / edge ≡ q = within (ltb (n / edge) side) (n / edge) side q h e in
    let d : edge * q + n % edge ≡ n = subst (λ (m : ℕ). edge * m + n % edge ≡ n) k (div-add-mod n edge) in
    (parts-≤ (omega arith), parts-< (omega (arith, mod-lt n p)))
between (negsuc n) edge side q p h e = absurd (let k : side ≡ q = e in omega arith)

pub axis-between : (point origin : ℤ) (edge side q : ℕ) → 0 < edge → q < side → axis_of point origin edge side ≡ q
    → (pos (edge * q) ≤ℤ (point -ℤ origin)) × ((point -ℤ origin) <ℤ pos (edge * q + edge))
unfolding axis_of
axis-between point origin edge side q p h e = between (point -ℤ origin) edge side q p h e

-- ---- the centre of cell (x, y, z)
pub centre-at : (s : Sides) (x y z fill : ℕ) → x < s.nx → y < s.ny
    → centre_of s (cell_at s.nx s.ny x y z) fill ≡ record { x = 2 * x + 1; y = 2 * y + 1; z = 2 * z + 1; fill = fill }
centre-at s x y z fill hx hy =
    let nx = s.nx in
    let ny = s.ny in
    let row = y + ny * z in
    let ex : (x + nx * row) % nx ≡ x = add-mul-mod_self_left x nx row ∙ mod-eq_of_lt hx in
    let er : (x + nx * row) / nx ≡ row = add-mul-div_left x row (omega arith) ∙ ap (λ (n : ℕ). n + row) (div-eq_of_lt hx) ∙ zero-add row in
    let ey : (x + nx * row) / nx % ny ≡ y = ap (λ (n : ℕ). n % ny) er ∙ add-mul-mod_self_left y ny z ∙ mod-eq_of_lt hy in
    let ez : (x + nx * row) / (nx * ny) ≡ z =
    sym (div-div-eq-div-mul (x + nx * row) nx ny)
    ∙ ap (λ (n : ℕ). n / ny) er
    ∙ add-mul-div_left y z (omega arith)
    ∙ ap (λ (n : ℕ). n + z) (div-eq_of_lt hy)
    ∙ zero-add z in
    λ i. record { x = 2 * ex i + 1; y = 2 * ey i + 1; z = 2 * ez i + 1; fill = fill }
