-- The flags that the second pass leaves are those of the invert: the layer holds each column's walls, and a cell is among them exactly if its centre lies
-- below the height. Assumes nothing.
use mathlib.Core.Path.{◌≡◌, refl, sym, ap, ap₂, ◌∙◌, subst}
use mathlib.Core.Logic.{◌⊎◌, ⊎_elim}
use mathlib.Core.Bool.{Bool, true, false, not, ◌||◌, cond}
use mathlib.Core.List.{List, ◌++◌}
use Prim.Native.Nat.{ℕ, zero, suc, ◌+◌, ◌-◌, ◌*◌, ◌/◌, ◌%◌, ◌≤◌, ◌<◌}
use native.Mathlib.Nat.{mul-le-mul, mul_comm, mul_assoc, le_refl, mod-lt, eq-or-lt_of_le, div-lt_iff_lt-mul, zero-add, mul-add, mod-add-div, add-mul-mod_self_left, mod-eq_of_lt}
use native.Mathlib.Omega.{arith}
use borrow.Author.Tests.{ltb-false, le-ltb, lt-ltb, not-true, not-false}
use lib.Dec.{ltb}
use lib.IntN.{ℤ, pos, negsuc, ◌*ℤ◌}
use lib.ListN.{length, drop, get_or, get_or-append}
use lib.Seq.{sets, sets-eq, get_or-append-add}
use lib.Signed.{quot_z, lt_z}
use Rattle.whole.specs.laws.Bools.{or-false}
use Rattle.whole.specs.laws.Order.{≤-or}
use Rattle.whole.specs.Fold.{first, tab}
use Rattle.whole.specs.laws.Search.{first_passes, before-first}
use Rattle.whole.specs.laws.Tab.{tab-cong}
use Rattle.grid.specs.declared.Sides.{Sides}
use Rattle.grid.specs.Grid.{sides_good, cells_of, grid_of}
use Rattle.grid.proofs.GoodSides.{good-sides}
use Rattle.numerals.specs.Text.{after_word, next_line, from_line}
use Rattle.numerals.specs.Number.{number_of}
use Rattle.heights.specs.Header.{is_no_data}
use Rattle.solids.specs.Invert.{or_zero, nth_word, value_at, solid_at, invert_flag, invert_flags}
use Rattle.solids.specs.inner.Walls.{height_of, row_heights, layer_of, wall_of, wall_by}
use Rattle.solids.proofs.Heights.{length-layer}
use Rattle.solids.proofs.Spread.{plane}

-- ---- a column's walls are its cells below the height

-- a centre that lies higher is not below either
lower-fails : (a b : ℕ) (w : ℤ) → a ≤ b → lt_z (pos a) w ≡ false → lt_z (pos b) w ≡ false
lower-fails a b (pos m) h e = le-ltb b m (omega (arith, ltb-false a m e))
lower-fails a b (negsuc m) h e = refl

solid-up : (v : ℤ) (edge k z : ℕ) → k ≤ z → solid_at v edge k ≡ false → solid_at v edge z ≡ false
unfolding solid_at
solid-up v edge k z h e =
    let p = or-false (is_no_data v) (lt_z (pos ((2 * k + 1) * edge)) (pos 2 *ℤ quot_z v (pos 1000))) e in
    let l : 2 * k + 1 ≤ 2 * z + 1 = omega arith in
    ap₂ ◌||◌ p.0 (lower-fails ((2 * k + 1) * edge) ((2 * z + 1) * edge) (pos 2 *ℤ quot_z v (pos 1000)) (mul-le-mul l (le_refl edge)) p.1)

pub among : (edge nz : ℕ) (v : ℤ) (z : ℕ) → z < nz → ltb z (height_of edge nz v) ≡ solid_at v edge z
unfolding height_of
among edge nz v z h = ⊎_elim over under (≤-or (first nz f) z)
  where
    f : ℕ → Bool
    f k = not (solid_at v edge k)

    over : first nz f ≤ z → ltb z (first nz f) ≡ solid_at v edge z
    over g =
        le-ltb z (first nz f) g
        ∙ sym (solid-up v edge (first nz f) z g (not-true (solid_at v edge (first nz f)) (first_passes nz 0 f (omega arith))))

    under : z < first nz f → ltb z (first nz f) ≡ solid_at v edge z
    under g = lt-ltb z (first nz f) g ∙ sym (not-false (solid_at v edge z) (sym (ap f (zero-add z)) ∙ before-first nz 0 f z (omega arith)))

-- ---- the layer, by coordinates
row_at : (edge nz n : ℕ) (t : List ℕ) (x : ℕ) → x < n → get_or (row_heights edge nz n t) x 0 ≡ height_of edge nz (or_zero (number_of (nth_word x t)))
unfolding row_heights nth_word
row_at edge nz zero t x h = absurd (omega arith)
row_at edge nz (suc n) t zero h = refl
row_at edge nz (suc n) t (suc x) h = row_at edge nz n (after_word t) x (omega arith)

shift : (k : ℕ) (t : List ℕ) → from_line (suc k) t ≡ from_line k (next_line t)
unfolding from_line
shift zero t = refl
shift (suc k) t = ap next_line (shift k t)

layer-at : (edge nz n m : ℕ) (t : List ℕ) (x y : ℕ) → x < n → y < m → get_or (layer_of edge nz n m t) (y * n + x) 0 ≡ height_of edge nz (value_at t m x y)
unfolding layer_of value_at from_line
layer-at edge nz n zero t x y h g = absurd (omega arith)
layer-at edge nz n (suc m) t x y h g = ⊎_elim last (λ k. before k (layer-at edge nz n m (next_line t) x y h k)) (split y m g)
  where
    A : List ℕ
    A = layer_of edge nz n m (next_line t)

    split : (y m : ℕ) → y < suc m → (y ≡ m) ⊎ (y < m)
    split y m g = eq-or-lt_of_le (let l : y ≤ m = omega arith in l)

    last : y ≡ m → get_or (A ++ row_heights edge nz n t) (y * n + x) 0 ≡ height_of edge nz (or_zero (number_of (nth_word x (from_line (suc m - 1 - y) t))))
    last e =
        let i : y * n + x ≡ length A + x = omega (arith, length-layer edge nz n m (next_line t), ap (λ (k : ℕ). k * n) e) in
        let z : 0 ≡ suc m - 1 - y = omega arith in
        ap (λ (k : ℕ). get_or (A ++ row_heights edge nz n t) k 0) i
        ∙ get_or-append-add A (row_heights edge nz n t) x 0
        ∙ row_at edge nz n t x h
        ∙ ap (λ (k : ℕ). height_of edge nz (or_zero (number_of (nth_word x (from_line k t))))) z

    before : y < m → get_or A (y * n + x) 0 ≡ height_of edge nz (or_zero (number_of (nth_word x (from_line (m - 1 - y) (next_line t)))))
        → get_or (A ++ row_heights edge nz n t) (y * n + x) 0 ≡ height_of edge nz (or_zero (number_of (nth_word x (from_line (suc m - 1 - y) t))))
    before k r =
        let p : suc y * n ≤ m * n = mul-le-mul k (le_refl n) in
        let z : suc (m - 1 - y) ≡ suc m - 1 - y = omega arith in
        get_or-append A (row_heights edge nz n t) 0 (y * n + x) (omega (arith, length-layer edge nz n m (next_line t)))
        ∙ r
        ∙ ap (λ (l : List ℕ). height_of edge nz (or_zero (number_of (nth_word x l)))) (sym (shift (m - 1 - y) t) ∙ ap (λ (k : ℕ). from_line k t) z)

-- ---- what is stored from the first place on
stored : (l vs : List ℕ) (j : ℕ) → length vs ≤ length l → j < length vs → get_or (sets l 0 vs) j 0 ≡ get_or vs j 0
stored l vs j h g =
    ap (λ (x : List ℕ). get_or x j 0) (sets-eq vs l 0 (omega arith)) ∙ get_or-append vs (drop (0 + length vs) l) 0 j g

-- ---- a cell's coordinates
plane-at : (c a b : ℕ) → 0 < a → 0 < b → c % (a * b) ≡ c / a % b * a + c % a
plane-at c a b p q =
    let r = c % a in
    let y = c / a % b in
    let z = c / a / b in
    let one : r + a * (c / a) ≡ c = mod-add-div c a in
    let two : y + b * z ≡ c / a = mod-add-div (c / a) b in
    let l : r < a = mod-lt c p in
    let k : y < b = mod-lt (c / a) q in
    let m : suc y * a ≤ b * a = mul-le-mul k (le_refl a) in
    let h : y * a + r < a * b = omega (arith, mul_comm a b) in
    let e : c ≡ y * a + r + a * b * z =
    sym one
    ∙ ap (λ (x : ℕ). r + a * x) (sym two)
    ∙ ap (λ (x : ℕ). r + x) (mul-add a y (b * z))
    ∙ omega (arith, mul_comm a y, mul_assoc a b z) in
    ap (λ (x : ℕ). x % (a * b)) e ∙ add-mul-mod_self_left (y * a + r) (a * b) z ∙ mod-eq_of_lt h

height-in : (c a b d : ℕ) → 0 < a * b → c < a * (b * d) → c / (a * b) < d
height-in c a b d p h = (div-lt_iff_lt-mul p).1 (subst (λ (x : ℕ). c < x) (sym (mul_assoc a b d) ∙ mul_comm (a * b) d) h)

-- ---- all cells
module _ (s : Sides) (g : sides_good s ≡ true) (edge : ℕ) (t flags : List ℕ) (long : length flags ≡ cells_of s) where
  L : List ℕ
  L = layer_of edge s.nz s.nx s.ny t

  fits : length L ≤ length flags
  unfolding L cells_of
  fits =
      let z : 3 ≤ s.nz = (good-sides s g).z.low in
      let p : s.ny * 1 ≤ s.ny * s.nz = mul-le-mul (le_refl s.ny) (let o : 1 ≤ s.nz = omega arith in o) in
      let q : s.nx * (s.ny * 1) ≤ s.nx * (s.ny * s.nz) = mul-le-mul (le_refl s.nx) p in
      let o : s.ny * 1 ≡ s.ny = omega arith in
      omega (arith, long, length-layer edge s.nz s.nx s.ny t, ap (λ (x : ℕ). s.nx * x) o, mul_comm s.nx s.ny)

  cell-is : (c : ℕ) → c < cells_of s → wall_by s (sets flags 0 L) c ≡ invert_flag s edge t c
  unfolding L cells_of wall_by wall_of invert_flag
  cell-is c h =
      let p = plane s g in
      let x = c % s.nx in
      let y = c / s.nx % s.ny in
      let z = c / (s.nx * s.ny) in
      let j = c % (s.nx * s.ny) in
      let i : j ≡ y * s.nx + x = plane-at c s.nx s.ny p.x p.y in
      let b : j < length L = omega (arith, mod-lt c {m = s.nx * s.ny} (omega (arith, p.some)), length-layer edge s.nz s.nx s.ny t, mul_comm s.nx s.ny) in
      let k : get_or (sets flags 0 L) j 0 ≡ height_of edge s.nz (value_at t s.ny x y) =
      stored flags L j fits b ∙ ap (λ (n : ℕ). get_or L n 0) i ∙ layer-at edge s.nz s.nx s.ny t x y (mod-lt c p.x) (mod-lt (c / s.nx) p.y) in
      let w : z < s.nz = height-in c s.nx s.ny s.nz (omega (arith, p.some)) h in
      ap (λ (n : ℕ). cond ((grid_of s).outer c || ltb z n) 3 0) k
      ∙ ap (λ (v : Bool). cond ((grid_of s).outer c || v) 3 0) (among edge s.nz (value_at t s.ny x y) z w)

  pub invert-is : tab (cells_of s) (wall_by s (sets flags 0 (layer_of edge s.nz s.nx s.ny t))) ≡ invert_flags s edge t
  unfolding invert_flags L
  invert-is = tab-cong (cells_of s) (wall_by s (sets flags 0 L)) (invert_flag s edge t) 0 cell-is

  pub layer_fits : s.ny * s.nx ≤ length flags
  unfolding L
  layer_fits = omega (arith, fits, length-layer edge s.nz s.nx s.ny t)
