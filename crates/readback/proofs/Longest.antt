-- No depth map is longer than 98,406 bytes: up to 99 layers a value has at most five bytes and columns are at most 16,384; with more layers columns are few.
-- Assumes nothing.
use mathlib.Core.Path.{◌≡◌, refl, ap}
use mathlib.Core.Bool.{Bool, true, false, cond, ◌&&◌, false≢true}
use mathlib.Core.List.{List, ◌∷◌}
use Prim.Native.Nat.{ℕ, zero, suc, ◌+◌, ◌*◌, ◌/◌, ◌^◌, ◌≤◌, ◌<◌}
use native.Mathlib.Nat.{mul-suc, mul_assoc, mul-le-mul, mul-le-mul_left}
use native.Mathlib.Omega.{arith}
use borrow.Author.Tests.{leb-true, leb-false}
use lib.Dec.{leb}
use lib.IntN.{ℤ, pos, negsuc, nat_abs}
use lib.ListN.{length, length-append}
use lib.Signed.{le_z}
use Rattle.whole.specs.laws.Bools.{and_left, and_right}
use Rattle.whole.specs.Fold.{all, total}
use Rattle.whole.specs.laws.Sums.{total-le}
use Rattle.lattice.specs.Cell.{edge_good, coordinate_good}
use Rattle.grid.specs.declared.Sides.{Sides}
use Rattle.grid.proofs.GoodSides.{good-sides}
use Rattle.tunnel.specs.Depth.{is_wall, open_fill}
use Rattle.tunnel.proofs.Columns.{open-le}
use Rattle.spelling.specs.Spelling.{spell_of, whole_of, metres_of, open-spelling}
use Rattle.spelling.proofs.Widths.{width_fits, plain-sign}
use Rattle.spelling.proofs.Putting.{whole_long, metres-long, spell-long, sign-most}
use Rattle.depths.specs.inner.Asks.{Measured}
use Rattle.depths.specs.Map.{depth_at, behind, row_text, rows_text}
use Rattle.depths.specs.Outcome.{map_of, corner_good, map_written}
use Rattle.depths.proofs.Measuring.{none-bad}
use Rattle.depths.proofs.Texts.{header-long, map-long, row-most}
use Rattle.depths.proofs.WrittenBy.{fit-measured, write-fit}
use Rattle.readback.specs.Demands.{Longest}
use Rattle.readback.proofs.Returned.{within}

-- ---- numbers
spell-upto : (j n : ℕ) → n < 10 ^ suc j → length (spell_of n) ≤ suc j
spell-upto j n h = omega (arith, spell-long n, width_fits 19 j n h)

five : length (whole_of (negsuc 9998)) ≡ 5
unfolding open-spelling
five = refl

value-cases : (b : Bool) (n : ℕ) → n < 100000 → length (whole_of (cond b (negsuc 9998) (pos n))) ≤ 5
value-cases true n h = omega (arith, five)
value-cases false n h = omega (arith, whole_long (pos n), ap length (plain-sign n), spell-upto 4 n h)

metres-upto : (z : ℤ) → nat_abs z ≤ 10000000000 → length (metres_of z) ≤ 13
metres-upto z h = omega (arith, metres-long z, sign-most z, spell-upto 7 (nat_abs z / 1000) (omega arith))

edge-upto : (z : ℤ) → edge_good z ≡ true → length (metres_of z) ≤ 5
edge-upto (pos n) e =
    let h : n ≤ 1000 = leb-true n 1000 (and_right (le_z (pos 1) (pos n)) (le_z (pos n) (pos 1000)) e) in
    omega (arith, metres-long (pos n), ap length (plain-sign n), spell-upto 0 (n / 1000) (omega arith))
edge-upto (negsuc n) e = absurd (false≢true (and_left (le_z (pos 1) (negsuc n)) (le_z (negsuc n) (pos 1000)) e))

-- ---- rows whose values have at most five bytes
row_upto : (v : ℕ → ℤ) (x n : ℕ) → ((i : ℕ) → i < x + n → length (whole_of (v i)) ≤ 5) → length (row_text v x n) ≤ 6 * n
unfolding row_text
row_upto v x zero h = omega arith
row_upto v x (suc n) h =
    omega (arith, length-append (whole_of (v x)) (behind n ∷ row_text v (suc x) n), h x (omega arith), row_upto v (suc x) n (λ i k. h i (omega arith)))

rows_upto : (v : ℕ → ℕ → ℤ) (n m k : ℕ) → ((y : ℕ) → y < m → length (row_text (λ x. v x y) 0 n) ≤ k) → length (rows_text v n m) ≤ k * m
unfolding rows_text
rows_upto v n zero k h = omega arith
rows_upto v n (suc m) k h =
    omega (arith, length-append (row_text (λ x. v x m) 0 n) (rows_text v n m), h m (omega arith), rows_upto v n m k (λ y j. h y (omega arith)), mul-suc k m)

module _ (s : Sides) (edge : ℕ) (flags fills : List ℕ) (m : Measured s edge flags fills) where
  abbrev depth : ℕ → ℕ → ℤ
  depth = depth_at s edge flags fills

  depth-upto : s.nz ≤ 99 → (x y : ℕ) → x < s.nx → y < s.ny → length (whole_of (depth x y)) ≤ 5
  unfolding depth_at
  depth-upto low x y h k =
      let n = total s.nz (open_fill s flags fills x y) in
      let l : n ≤ s.nz * 65536 = total-le s.nz (open_fill s flags fills x y) 65536 (λ z j. open-le s flags fills x y z (none-bad m h k) j) in
      let p : n * edge ≤ n * 1000 = mul-le-mul_left n m.short in
      value-cases (all s.nz (is_wall s flags x y)) (n * edge / 65536) (omega arith)

  few-layers : s.nz ≤ 99 → length (rows_text depth s.nx s.ny) ≤ 98304
  few-layers low =
      let g = good-sides s m.good in
      let l : length (rows_text depth s.nx s.ny) ≤ 6 * s.nx * s.ny =
      rows_upto depth s.nx s.ny (6 * s.nx) (λ y k. row_upto (λ x. depth x y) 0 s.nx (λ i j. depth-upto low i y (omega arith) k)) in
      let w : 6 * s.nx ≤ 768 = omega (arith, g.x.high) in
      let q : 6 * s.nx * s.ny ≤ 768 * 128 = mul-le-mul w g.y.high in
      omega arith

  many-layers : 100 ≤ s.nz → length (rows_text depth s.nx s.ny) ≤ 98304
  many-layers high =
      let g = good-sides s m.good in
      let l : length (rows_text depth s.nx s.ny) ≤ 22 * s.nx * s.ny = rows_upto depth s.nx s.ny (22 * s.nx) (λ y k. row-most (λ x. depth x y) 0 s.nx) in
      let c : s.nx * (s.ny * 100) ≤ s.nx * (s.ny * s.nz) = mul-le-mul_left s.nx (mul-le-mul_left s.ny high) in
      omega (arith, g.all, mul_assoc s.nx s.ny 100, mul_assoc 22 s.nx s.ny)

  rows_short : length (rows_text depth s.nx s.ny) ≤ 98304
  rows_short = go (leb s.nz 99) refl
    where
      go : (b : Bool) → leb s.nz 99 ≡ b → length (rows_text depth s.nx s.ny) ≤ 98304
      go true e = few-layers (leb-true s.nz 99 e)
      go false e = many-layers (omega (arith, leb-false s.nz 99 e))

pub longest : Longest
unfolding corner_good map_written
longest s t a room done =
    let f = write-fit s t a room done in
    let m = fit-measured s t a f in
    let g = good-sides s m.good in
    let e = f.corner in
    let ex = and_left (edge_good t.edge && coordinate_good t.x) (coordinate_good t.y) e in
    let x = metres-upto t.x (within t.x (and_right (edge_good t.edge) (coordinate_good t.x) ex)) in
    let y = metres-upto t.y (within t.y (and_right (edge_good t.edge && coordinate_good t.x) (coordinate_good t.y) e)) in
    let w = edge-upto t.edge (and_left (edge_good t.edge) (coordinate_good t.x) ex) in
    let l : length (map_of s t a) ≤ 98406 =
    omega (arith, map-long s t a.flags a.fills, header-long s t, spell-upto 2 s.nx (omega (arith, g.x.high)), spell-upto 2 s.ny (omega (arith, g.y.high)), x, y, w, rows_short s (nat_abs t.edge) a.flags a.fills m) in
    rw done l
