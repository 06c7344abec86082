-- The text, line by line and value by value: what is left of it after each, and how long it is. Assumes nothing.
use mathlib.Core.Path.{◌≡◌, refl, sym, ap, ◌∙◌}
use mathlib.Core.List.{List, [], ◌∷◌, ◌++◌, append_assoc}
use Prim.Native.Nat.{ℕ, zero, suc, ◌+◌, ◌-◌, ◌*◌, ◌/◌, ◌≤◌, ◌<◌}
use native.Mathlib.Omega.{arith}
use lib.IntN.{ℤ, nat_abs}
use lib.ListN.{length, length-append}
use Rattle.grid.specs.declared.Sides.{Sides}
use Rattle.spelling.specs.Spelling.{spell_of, whole_of, metres_of}
use Rattle.spelling.proofs.Putting.{whole_long, metres-long, spell-long, width-most, sign-most}
use Rattle.depths.specs.declared.Corner.{Corner}
use Rattle.depths.specs.Map.{ncols, nrows, xllcorner, yllcorner, cellsize, NODATA-value, no_data, line_text, header_text, depth_at, behind, row_text, rows_text, map_text}

-- ---- the header
-- a line, and then what follows it
pub line-then : (key w rest more : List ℕ) → line_text key w rest ++ more ≡ line_text key w (rest ++ more)
line-then key w rest more =
    append_assoc key (32 ∷ (w ++ 10 ∷ rest)) more
    ∙ ap (λ (l : List ℕ). key ++ 32 ∷ l) (append_assoc w (10 ∷ rest) more)

pub line-long : (key w rest : List ℕ) → length (line_text key w rest) ≡ length key + 2 + length w + length rest
line-long key w rest =
    length-append key (32 ∷ (w ++ 10 ∷ rest)) ∙ omega (arith, length-append w (10 ∷ rest))

module _ (s : Sides) (t : Corner) where
  -- what is left of the header after each line
  abbrev pub last : List ℕ → List ℕ
  last rest = line_text NODATA-value no_data rest

  abbrev pub from_edge : List ℕ → List ℕ
  from_edge rest = line_text cellsize (metres_of t.edge) (last rest)

  abbrev pub from_south : List ℕ → List ℕ
  from_south rest = line_text yllcorner (metres_of t.y) (from_edge rest)

  abbrev pub from_west : List ℕ → List ℕ
  from_west rest = line_text xllcorner (metres_of t.x) (from_south rest)

  abbrev pub from_rows : List ℕ → List ℕ
  from_rows rest = line_text nrows (spell_of s.ny) (from_west rest)

  pub header_is : (rest : List ℕ) → header_text s t rest ≡ line_text ncols (spell_of s.nx) (from_rows rest)
  unfolding header_text
  header_is rest = refl

  -- the header, and then the rows
  pub header-then : (rows : List ℕ) → header_text s t [] ++ rows ≡ header_text s t rows
  unfolding header_text
  header-then rows =
      line-then ncols (spell_of s.nx) (from_rows []) rows
      ∙ ap (line_text ncols (spell_of s.nx))
      (line-then nrows (spell_of s.ny) (from_west []) rows
      ∙ ap (line_text nrows (spell_of s.ny))
      (line-then xllcorner (metres_of t.x) (from_south []) rows
      ∙ ap (line_text xllcorner (metres_of t.x))
      (line-then yllcorner (metres_of t.y) (from_edge []) rows
      ∙ ap (line_text yllcorner (metres_of t.y))
      (line-then cellsize (metres_of t.edge) (last []) rows
      ∙ ap (line_text cellsize (metres_of t.edge))
      (line-then NODATA-value no_data [] rows)))))

  pub header-long : length (header_text s t []) ≡ 65 + (length (spell_of s.nx) + length (spell_of s.ny)) + (length (metres_of t.x) + length (metres_of t.y)) + length (metres_of t.edge)
  unfolding header_text
  header-long =
      omega (
        arith,
        line-long ncols (spell_of s.nx) (from_rows []),
        line-long nrows (spell_of s.ny) (from_west []),
        line-long xllcorner (metres_of t.x) (from_south []),
        line-long yllcorner (metres_of t.y) (from_edge []),
        line-long cellsize (metres_of t.edge) (last []),
      )

-- ---- the rows
-- a value, what stands behind it, and the rest of the row
pub row_step : (v : ℕ → ℤ) (x n : ℕ) → x < n → row_text v x (n - x) ≡ (whole_of (v x) ++ behind (n - (x + 1)) ∷ []) ++ row_text v (x + 1) (n - (x + 1))
unfolding row_text
row_step v x n h =
    let k = n - (x + 1) in
    let e : n - x ≡ suc k = omega arith in
    let f : suc x ≡ x + 1 = omega arith in
    ap (row_text v x) e
    ∙ ap (λ (i : ℕ). whole_of (v x) ++ behind k ∷ row_text v i k) f
    ∙ sym (append_assoc (whole_of (v x)) (behind k ∷ []) (row_text v (x + 1) k))

pub row-none : (v : ℕ → ℤ) (x n : ℕ) → n ≤ x → row_text v x (n - x) ≡ []
unfolding row_text
row-none v x n h =
    let e : n - x ≡ 0 = omega arith in
    ap (row_text v x) e

-- the highest row, and those south of it
pub rows_step : (v : ℕ → ℕ → ℤ) (n y : ℕ) → 0 < y → rows_text v n y ≡ row_text (λ x. v x (y - 1)) 0 n ++ rows_text v n (y - 1)
unfolding rows_text
rows_step v n zero h = absurd (omega arith)
rows_step v n (suc m) h =
    let e : m ≡ suc m - 1 = omega arith in
    ap (λ (k : ℕ). row_text (λ x. v x k) 0 n ++ rows_text v n k) e

pub rows_none : (v : ℕ → ℕ → ℤ) (n y : ℕ) → y ≤ 0 → rows_text v n y ≡ []
unfolding rows_text
rows_none v n zero h = refl
rows_none v n (suc m) h = absurd (omega arith)

-- what stands behind a value that is not the last
pub behind-some : (n : ℕ) → (n ≡ 0 → ⊥) → 32 ≡ behind n
behind-some zero h = absurd (h refl)
behind-some (suc n) h = refl

-- nothing of the row is done yet
pub row-begin : (v : ℕ → ℤ) (n : ℕ) → row_text v 0 (n - 0) ≡ row_text v 0 n
row-begin v n =
    let e : n - 0 ≡ n = omega arith in
    ap (row_text v 0) e

-- ---- how long: a number has at most 21 bytes, and a row at most 22 a value
pub value-long : (z : ℤ) (n : ℕ) → length (whole_of z ++ behind n ∷ []) ≡ length (whole_of z) + 1
value-long z n = length-append (whole_of z) (behind n ∷ [])

pub row-step-long : (v : ℕ → ℤ) (x n : ℕ) → x < n → length (row_text v x (n - x)) ≡ length (whole_of (v x)) + 1 + length (row_text v (x + 1) (n - (x + 1)))
row-step-long v x n h =
    let k = n - (x + 1) in
    ap length (row_step v x n h) ∙ length-append (whole_of (v x) ++ behind k ∷ []) (row_text v (x + 1) k) ∙ ap (λ (i : ℕ). i + length (row_text v (x + 1) k)) (value-long (v x) k)

pub rows-step-long : (v : ℕ → ℕ → ℤ) (n y : ℕ) → 0 < y → length (rows_text v n y) ≡ length (row_text (λ x. v x (y - 1)) 0 n) + length (rows_text v n (y - 1))
rows-step-long v n y h = ap length (rows_step v n y h) ∙ length-append (row_text (λ x. v x (y - 1)) 0 n) (rows_text v n (y - 1))

pub whole-most : (z : ℤ) → length (whole_of z) ≤ 21
whole-most z = omega (arith, whole_long z, sign-most z, spell-long (nat_abs z), width-most 19 (nat_abs z))

pub spell-most : (n : ℕ) → length (spell_of n) ≤ 20
spell-most n = omega (arith, spell-long n, width-most 19 n)

pub metres-most : (z : ℤ) → length (metres_of z) ≤ 25
metres-most z = omega (arith, metres-long z, sign-most z, spell-most (nat_abs z / 1000))

pub row-most : (v : ℕ → ℤ) (x n : ℕ) → length (row_text v x n) ≤ 22 * n
unfolding row_text
row-most v x zero = omega arith
row-most v x (suc n) =
    omega (arith, length-append (whole_of (v x)) (behind n ∷ row_text v (suc x) n), whole-most (v x), row-most v (suc x) n)

pub rows-most : (v : ℕ → ℕ → ℤ) (n m : ℕ) → n ≤ 128 → length (rows_text v n m) ≤ 2816 * m
unfolding rows_text
rows-most v n zero h = omega arith
rows-most v n (suc m) h =
    omega (arith, length-append (row_text (λ x. v x m) 0 n) (rows_text v n m), row-most (λ x. v x m) 0 n, rows-most v n m h)

pub header-most : (s : Sides) (t : Corner) → length (header_text s t []) ≤ 180
header-most s t =
    omega (arith, header-long s t, spell-most s.nx, spell-most s.ny, metres-most t.x, metres-most t.y, metres-most t.edge)

-- ---- the map: the header, and then the rows
module _ (s : Sides) (t : Corner) (flags fills : List ℕ) where
  abbrev rows : List ℕ
  rows = rows_text (depth_at s (nat_abs t.edge) flags fills) s.nx s.ny

  pub map_is : header_text s t [] ++ rows ≡ map_text s t flags fills
  unfolding map_text
  map_is = header-then s t rows

  pub map-long : length (map_text s t flags fills) ≡ length (header_text s t []) + length rows
  map-long = ap length (sym map_is) ∙ length-append (header_text s t []) rows
