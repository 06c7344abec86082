-- The box of document 01 and the flume of document 02 as instances: an inner cell's neighbours are cells and lead back. Assumes nothing.
use mathlib.Core.Path.{◌≡◌, refl, sym, ap, ap₂, ◌∙◌, subst}
use mathlib.Core.Bool.{Bool, true, false, ◌&&◌, ◌||◌, false≢true}
use mathlib.Core.List.{List, [], ◌∷◌}
use Prim.Native.Nat.{ℕ, zero, suc, ◌+◌, ◌-◌, ◌*◌, ◌/◌, ◌%◌, ◌≤◌, ◌<◌}
use native.Mathlib.Nat.{add-le-add, mul-le-mul_left, mul-add, mul-suc, mul_comm, div-lt_iff_lt-mul, mod-lt, mod-add-div, div-div-eq-div-mul, div-one, le_trans, lt_of_not-le, zero-mul, mul-zero, one-mul}
use native.Mathlib.Omega.{arith}
use lib.IntN.{ℤ, pos, negsuc, neg_ℤ, nat_abs}
use lib.Dec.{eqb}
use lib.ListN.{get_or}
use borrow.Author.Tests.{eqb-true, eqb-false}
use Rattle.whole.specs.laws.Bools.{and_left, and_right, or-false}
use Rattle.whole.specs.Fold.{up, down, Dir}
use Rattle.lattice.specs.Lattice.{Lattice, Row, d3q19, d2q9, rows9}
use Rattle.lattice.proofs.Paired.{Paired, paired19, paired9}
use Rattle.grid.specs.declared.Sides.{Sides}
use Rattle.grid.specs.Grid.{at_end, cell_at, toward, box, flume, grid_of}
use Rattle.lattice.specs.Body.{eq_z}
use Rattle.grid.proofs.Laid.{Laid}

-- ---- cell numbers

pub cell-add : (nx ny x y z a b c : ℕ) → cell_at nx ny x y z + cell_at nx ny a b c ≡ cell_at nx ny (x + a) (y + b) (z + c)
cell-add nx ny x y z a b c =
    mix x (nx * (y + ny * z)) a (nx * (b + ny * c))
    ∙ ap (λ (t : ℕ). x + a + t) (sym (mul-add nx (y + ny * z) (b + ny * c)) ∙ ap (λ (t : ℕ). nx * t) (mix y (ny * z) b (ny * c) ∙ ap (λ (t : ℕ). y + b + t) (sym (mul-add ny z c))))
  where
    mix : (p q r s : ℕ) → p + q + (r + s) ≡ p + r + (q + s)
    mix p q r s = omega arith

cell-le : (nx ny x y z a b c : ℕ) → a ≤ x → b ≤ y → c ≤ z → cell_at nx ny a b c ≤ cell_at nx ny x y z
cell-le nx ny x y z a b c h k l = add-le-add h (mul-le-mul_left nx (add-le-add k (mul-le-mul_left ny l)))

-- a digit below its base, and the rest below m
pub digit : (n x m r : ℕ) → x < n → r < m → x + n * r < n * m
digit n x m r h k =
    let g : n * suc r ≤ n * m = mul-le-mul_left n k in
    let s : n * suc r ≡ n * r + n = mul-suc n r in
    omega arith

pub cell-lt : (nx ny nz x y z : ℕ) → x < nx → y < ny → z < nz → cell_at nx ny x y z < nx * (ny * nz)
cell-lt nx ny nz x y z h k l = digit nx x (ny * nz) (y + ny * z) h (digit ny y nz z k l)

-- there and back
round : (c U D : ℕ) → D ≤ c → c + U - D + D - U ≡ c
round c U D h = omega arith

-- ---- steps of one cell at most

pub up-turned : (a : ℤ) → up (neg_ℤ a) ≡ down a
up-turned (pos zero) = refl
up-turned (pos (suc n)) = refl
up-turned (negsuc n) = refl

pub down-turned : (a : ℤ) → down (neg_ℤ a) ≡ up a
down-turned (pos zero) = refl
down-turned (pos (suc n)) = refl
down-turned (negsuc n) = refl

up_small : (a : ℤ) → nat_abs a ≤ 1 → up a ≤ 1
up_small (pos n) h = h
up_small (negsuc n) h = omega arith

down-small : (a : ℤ) → nat_abs a ≤ 1 → down a ≤ 1
down-small (pos n) h = omega arith
down-small (negsuc n) h = h

-- not at an end: room on both sides
room : (n x : ℕ) → x < n → at_end n x ≡ false → (1 ≤ x) × (x + 1 < n)
room n x h e =
    let p = or-false (eqb x 0) (eqb (suc x) n) e in
    let u : x ≡ 0 → ⊥ = eqb-false x 0 p.0 in
    let v : suc x ≡ n → ⊥ = eqb-false (suc x) n p.1 in
    (low x u, high n x h v)
  where
    low : (x : ℕ) → (x ≡ 0 → ⊥) → 1 ≤ x
    low zero u = absurd (u refl)
    low (suc y) u = omega arith

    high : (n x : ℕ) → x < n → (suc x ≡ n → ⊥) → x + 1 < n
    high n x h v = lt_of_not-le (λ (g : n ≤ x + 1). v (omega arith))

module _ (L : Lattice) (p : Paired L) (nx ny nz : ℕ) where
  -- from a cell with room in the direction
  module _ (x y z i : ℕ) (d : Dir L.q i) (ax : down (L.e i).x ≤ x) (ay : down (L.e i).y ≤ y) (az : down (L.e i).z ≤ z)
      (bx : x + up (L.e i).x < nx) (by : y + up (L.e i).y < ny) (bz : z + up (L.e i).z < nz) where
    stays : toward L nx ny (cell_at nx ny x y z) i < nx * (ny * nz)
    unfolding toward
    stays =
        let u : cell_at nx ny (x + up (L.e i).x) (y + up (L.e i).y) (z + up (L.e i).z) < nx * (ny * nz) = cell-lt nx ny nz _ _ _ bx by bz in
        let e = cell-add nx ny x y z (up (L.e i).x) (up (L.e i).y) (up (L.e i).z) in
        less (cell_at nx ny x y z + cell_at nx ny (up (L.e i).x) (up (L.e i).y) (up (L.e i).z)) (cell_at nx ny (down (L.e i).x) (down (L.e i).y) (down (L.e i).z)) (nx * (ny * nz))
        (subst (λ (t : ℕ). t < nx * (ny * nz)) (sym e) u)
      where
        less : (a b m : ℕ) → a < m → a - b < m
        less a b m h = omega arith

    returns : toward L nx ny (toward L nx ny (cell_at nx ny x y z) i) (L.opp i) ≡ cell_at nx ny x y z
    unfolding toward
    returns =
        ap₂ (λ (s t : ℕ). cell_at nx ny x y z + U - D + s - t)
        (three (λ (a b c : ℕ). cell_at nx ny a b c) (ap up (p.ex i d).turned ∙ up-turned (L.e i).x) (ap up (p.ey i d).turned ∙ up-turned (L.e i).y) (ap up (p.ez i d).turned ∙ up-turned (L.e i).z))
        (three (λ (a b c : ℕ). cell_at nx ny a b c) (ap down (p.ex i d).turned ∙ down-turned (L.e i).x) (ap down (p.ey i d).turned ∙ down-turned (L.e i).y) (ap down (p.ez i d).turned ∙ down-turned (L.e i).z))
        ∙ round (cell_at nx ny x y z) U D (cell-le nx ny x y z _ _ _ ax ay az)
      where
        U : ℕ
        U = cell_at nx ny (up (L.e i).x) (up (L.e i).y) (up (L.e i).z)

        D : ℕ
        D = cell_at nx ny (down (L.e i).x) (down (L.e i).y) (down (L.e i).z)

        three : (f : ℕ → ℕ → ℕ → ℕ) {a b c a' b' c' : ℕ} → a ≡ a' → b ≡ b' → c ≡ c' → f a b c ≡ f a' b' c'
        three f u v w j = f (u j) (v j) (w j)

-- ---- the coordinates of a cell

module _ (nx ny nz c : ℕ) (h : c < nx * (ny * nz)) where
  pos-x : 0 < nx
  pos-x = go nx h
    where
      go : (m : ℕ) → c < m * (ny * nz) → 0 < m
      go zero k = absurd (omega (arith, zero-mul (ny * nz)))
      go (suc m) k = omega arith

  pos-y : 0 < ny
  pos-y = go ny h
    where
      go : (m : ℕ) → c < nx * (m * nz) → 0 < m
      go zero k = absurd (omega (arith, ap (λ (t : ℕ). nx * t) (zero-mul nz), mul-zero nx))
      go (suc m) k = omega arith

  low_x : c % nx < nx
  low_x = mod-lt c pos-x

  low-y : c / nx % ny < ny
  low-y = mod-lt (c / nx) pos-y

  low-z : c / nx / ny < nz
  low-z =
      (div-lt_iff_lt-mul pos-y).1 ((div-lt_iff_lt-mul pos-x).1 (subst (λ (t : ℕ). c < t) (mul_comm nx (ny * nz) ∙ ap (λ (t : ℕ). t * nx) (mul_comm ny nz)) h))

  is-cell_at : cell_at nx ny (c % nx) (c / nx % ny) (c / nx / ny) ≡ c
  is-cell_at =
      ap (λ (t : ℕ). c % nx + nx * t) (mod-add-div (c / nx) ny) ∙ mod-add-div c nx

small : (a x n : ℕ) → a ≤ 1 → x + 1 < n → x + a < n
small a x n h k = omega arith

pub box-laid : (L : Lattice) → Paired L → (nx ny nz : ℕ) → Laid L (box L nx ny nz)
unfolding box
box-laid L p nx ny nz = record {
  cell = λ c i h o d. subst (λ (t : ℕ). toward L nx ny t i < nx * (ny * nz)) (is-cell_at nx ny nz c h) (go c i h o d).0;
  back = λ c i h o d. subst (λ (t : ℕ). toward L nx ny (toward L nx ny t i) (L.opp i) ≡ t) (is-cell_at nx ny nz c h) (go c i h o d).1;
}
  where
    go : (c i : ℕ) → c < nx * (ny * nz) → (at_end nx (c % nx) || at_end ny (c / nx % ny) || at_end nz (c / (nx * ny))) ≡ false → Dir L.q i
        → (toward L nx ny (cell_at nx ny (c % nx) (c / nx % ny) (c / nx / ny)) i < nx * (ny * nz))
        × (toward L nx ny (toward L nx ny (cell_at nx ny (c % nx) (c / nx % ny) (c / nx / ny)) i) (L.opp i) ≡ cell_at nx ny (c % nx) (c / nx % ny) (c / nx / ny))
    go c i h o d =
        let s = or-false (at_end nx (c % nx) || at_end ny (c / nx % ny)) (at_end nz (c / (nx * ny))) o in
        let t = or-false (at_end nx (c % nx)) (at_end ny (c / nx % ny)) s.0 in
        let rx = room nx (c % nx) (low_x nx ny nz c h) t.0 in
        let ry = room ny (c / nx % ny) (low-y nx ny nz c h) t.1 in
        let rz = room nz (c / nx / ny) (low-z nx ny nz c h) (ap (at_end nz) (div-div-eq-div-mul c nx ny) ∙ s.1) in
        let dx : down (L.e i).x ≤ c % nx = le_trans (down-small (L.e i).x (p.ex i d).small) rx.0 in
        let dy : down (L.e i).y ≤ c / nx % ny = le_trans (down-small (L.e i).y (p.ey i d).small) ry.0 in
        let dz : down (L.e i).z ≤ c / nx / ny = le_trans (down-small (L.e i).z (p.ez i d).small) rz.0 in
        let ux : c % nx + up (L.e i).x < nx = small (up (L.e i).x) (c % nx) nx (up_small (L.e i).x (p.ex i d).small) rx.1 in
        let uy : c / nx % ny + up (L.e i).y < ny = small (up (L.e i).y) (c / nx % ny) ny (up_small (L.e i).y (p.ey i d).small) ry.1 in
        let uz : c / nx / ny + up (L.e i).z < nz = small (up (L.e i).z) (c / nx / ny) nz (up_small (L.e i).z (p.ez i d).small) rz.1 in
        (stays L p nx ny nz (c % nx) (c / nx % ny) (c / nx / ny) i d dx dy dz ux uy uz, returns L p nx ny nz (c % nx) (c / nx % ny) (c / nx / ny) i d dx dy dz ux uy uz)

-- the flume: one layer, and no direction leaves it
pub flume-laid : (L : Lattice) → Paired L → ((i : ℕ) → (L.e i).y ≡ pos 0) → (nx nz : ℕ) → Laid L (flume L nx nz)
unfolding flume
flume-laid L p flat nx nz = record {
  cell = λ c i h o d. subst (λ (m : ℕ). toward L nx 1 c i < m) (ap (λ (m : ℕ). nx * m) (one-mul nz))
      (subst (λ (t : ℕ). toward L nx 1 t i < nx * (1 * nz)) (is-cell_at nx 1 nz c (wide c h)) (go c i (wide c h) o d).0);
  back = λ c i h o d. subst (λ (t : ℕ). toward L nx 1 (toward L nx 1 t i) (L.opp i) ≡ t) (is-cell_at nx 1 nz c (wide c h)) (go c i (wide c h) o d).1;
}
  where
    wide : (c : ℕ) → c < nx * nz → c < nx * (1 * nz)
    wide c h = subst (λ (m : ℕ). c < nx * m) (sym (one-mul nz)) h

    go : (c i : ℕ) → c < nx * (1 * nz) → (at_end nx (c % nx) || at_end nz (c / nx)) ≡ false → Dir L.q i
        → (toward L nx 1 (cell_at nx 1 (c % nx) (c / nx % 1) (c / nx / 1)) i < nx * (1 * nz))
        × (toward L nx 1 (toward L nx 1 (cell_at nx 1 (c % nx) (c / nx % 1) (c / nx / 1)) i) (L.opp i) ≡ cell_at nx 1 (c % nx) (c / nx % 1) (c / nx / 1))
    go c i h o d =
        let t = or-false (at_end nx (c % nx)) (at_end nz (c / nx)) o in
        let rx = room nx (c % nx) (low_x nx 1 nz c h) t.0 in
        let rz = room nz (c / nx / 1) (low-z nx 1 nz c h) (ap (at_end nz) (div-one (c / nx)) ∙ t.1) in
        let ly : c / nx % 1 < 1 = low-y nx 1 nz c h in
        let dx : down (L.e i).x ≤ c % nx = le_trans (down-small (L.e i).x (p.ex i d).small) rx.0 in
        let dy : down (L.e i).y ≤ c / nx % 1 = subst (λ (a : ℤ). down a ≤ c / nx % 1) (sym (flat i)) (omega arith) in
        let dz : down (L.e i).z ≤ c / nx / 1 = le_trans (down-small (L.e i).z (p.ez i d).small) rz.0 in
        let ux : c % nx + up (L.e i).x < nx = small (up (L.e i).x) (c % nx) nx (up_small (L.e i).x (p.ex i d).small) rx.1 in
        let uy : c / nx % 1 + up (L.e i).y < 1 = subst (λ (a : ℤ). c / nx % 1 + up a < 1) (sym (flat i)) (omega arith) in
        let uz : c / nx / 1 + up (L.e i).z < nz = small (up (L.e i).z) (c / nx / 1) nz (up_small (L.e i).z (p.ez i d).small) rz.1 in
        (stays L p nx 1 nz (c % nx) (c / nx % 1) (c / nx / 1) i d dx dy dz ux uy uz, returns L p nx 1 nz (c % nx) (c / nx % 1) (c / nx / 1) i d dx dy dz ux uy uz)

-- no row of the flume has a y
flat_rows : List Row → Bool
flat_rows [] = true
flat_rows (r ∷ rs) = eq_z r.e.y (pos 0) && flat_rows rs

eq_z-zero : (z : ℤ) → eq_z z (pos 0) ≡ true → z ≡ pos 0
eq_z-zero (pos n) e = ap pos (eqb-true n 0 e)
eq_z-zero (negsuc n) e = absurd (false≢true e)

flat-at : (rs : List Row) (d : Row) → flat_rows rs ≡ true → d.e.y ≡ pos 0 → (i : ℕ) → (get_or rs i d).e.y ≡ pos 0
unfolding flat_rows
flat-at [] d t h i = h
flat-at (r ∷ rs) d t h zero = eq_z-zero r.e.y (and_left (eq_z r.e.y (pos 0)) (flat_rows rs) t)
flat-at (r ∷ rs) d t h (suc i) = flat-at rs d (and_right (eq_z r.e.y (pos 0)) (flat_rows rs) t) h i

pub flume9-laid : (nx nz : ℕ) → Laid d2q9 (flume d2q9 nx nz)
unfolding d2q9 rows9 flat_rows
flume9-laid nx nz = flume-laid d2q9 paired9 (flat-at rows9 _ refl refl) nx nz

pub grid-laid : (s : Sides) → Laid d3q19 (grid_of s)
unfolding grid_of
grid-laid s = box-laid d3q19 paired19 s.nx s.ny s.nz
