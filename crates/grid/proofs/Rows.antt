-- Rows: where a row begins, its cells stand at y and z with x counted up, and the next row begins where it ends. Assumes nothing.
use mathlib.Core.Path.{◌≡◌, refl, sym, ◌∙◌, subst}
use mathlib.Core.Bool.{Bool, true, false, not, ◌&&◌, ◌||◌, cond, true≢false}
use mathlib.Core.List.{List}
use Prim.Native.Nat.{ℕ, ◌+◌, ◌-◌, ◌*◌, ◌≤◌, ◌<◌}
use native.Mathlib.Nat.{mul-le-mul_left}
use native.Mathlib.Omega.{arith}
use native.Mathlib.Decide.{dec_lt}
use lib.Dec.{ltb, eqb}
use lib.ListN.{length, get_or}
use borrow.Author.Tests.{le-ltb}
use Rattle.whole.specs.laws.Search.{first-is, first-all}
use Rattle.grid.specs.declared.Sides.{Sides}
use Rattle.grid.specs.declared.Place.{Place}
use Rattle.grid.specs.Grid.{grid_of, box, cells_of, sides_good}
use Rattle.grid.specs.Good.{flag_good, bad_flag}
use Rattle.grid.specs.inner.Passes.{Stands, Of, RowAt, outer_at, place_after}
use Rattle.grid.proofs.GoodSides.{good-sides}
use Rattle.grid.proofs.Coordinates.{stands_after, place-of, outer-at}
use Rattle.grid.proofs.Lists.{get_or-there}

-- test 4's rule broken at a cell
abbrev pub bad : Sides → List ℕ → ℕ → Bool
bad s flags c = not (flag_good (grid_of s) (λ c. get_or flags c 3) c)

-- the test of one cell is the rule's
pub here : (s : Sides) (flags : List ℕ) (c : ℕ) (p : Place) → c < length flags → Stands s c p
    → not (ltb (get_or flags c 0) 4 && (not (outer_at s p) || eqb (get_or flags c 0) 3)) ≡ bad s flags c
unfolding flag_good
here s flags c p h st = rw (get_or-there flags c 3 0 h, outer-at st) refl

pub found : (s : Sides) (flags : List ℕ) (c : ℕ) → length flags ≡ cells_of s → c < length flags → ((k : ℕ) → k < c → bad s flags k ≡ false) → bad s flags c ≡ true
    → c ≡ bad_flag (grid_of s) (λ c. get_or flags c 3)
unfolding bad_flag grid_of box cells_of
found s flags c e h low t = sym (first-is (cells_of s) (bad s flags) c (omega (arith, e)) low t)

pub none_found : (s : Sides) (flags : List ℕ) (c : ℕ) → length flags ≡ cells_of s → c ≤ length flags → length flags ≤ c → ((k : ℕ) → k < c → bad s flags k ≡ false)
    → c ≡ bad_flag (grid_of s) (λ c. get_or flags c 3)
unfolding bad_flag grid_of box cells_of
none_found s flags c e h g low = sym (first-all (cells_of s) (bad s flags) (λ k l. low k (omega (arith, e))) ∙ omega (arith, e))

-- cell x of a row
abbrev pub along : Place → ℕ → Place
along p x = record { x = x; y = p.y; z = p.z }

module _ {s : Sides} {c : ℕ} {p : Place} (r : RowAt s c p) where
  pub row-stands : (x : ℕ) → x < s.nx → Stands s (c + x) (along p x)
  row-stands x h = record { is = omega (arith, r.stands.is, r.first); x-low = h; y-low = r.stands.y-low }

  pub row-place : (x : ℕ) → x < s.nx → c < cells_of s → Of s (along p x)
  row-place x h k = let o = place-of s c p r.stands k in record { x-low = h; y-low = o.y-low; z-low = o.z-low }

  -- the row ends in the grid
  pub row_room : c < cells_of s → c + s.nx ≤ cells_of s
  unfolding cells_of
  row_room k =
      let o = place-of s c p r.stands k in
      omega (arith, r.stands.is, r.first, mul-le-mul_left s.nx o.y-low, mul-le-mul_left (s.nx * s.ny) o.z-low)

  -- and the next one begins there
  pub row_next : sides_good s ≡ true → RowAt s (c + s.nx) (place_after s (along p (s.nx - 1)))
  unfolding place_after
  row_next g =
      let n = good-sides s g in
      let e : c + (s.nx - 1) + 1 ≡ c + s.nx = omega (arith, n.x.low) in
      let last : ltb (s.nx - 1 + 1) s.nx ≡ false = le-ltb (s.nx - 1 + 1) s.nx (omega (arith, n.x.low)) in
      record {
        stands = subst (λ (m : ℕ). Stands s m (place_after s (along p (s.nx - 1)))) e (stands_after s (c + (s.nx - 1)) (along p (s.nx - 1)) (row-stands (s.nx - 1) (omega (arith, n.x.low))));
        first = starts (ltb (s.nx - 1 + 1) s.nx) last (ltb (p.y + 1) s.ny);
      }
    where
      starts : (a : Bool) → a ≡ false → (b : Bool)
          → (cond {A = Place} a (record { x = s.nx - 1 + 1; y = p.y; z = p.z }) (cond b (record { x = 0; y = p.y + 1; z = p.z }) (record { x = 0; y = 0; z = p.z + 1 }))).x ≡ 0
      starts true e b = absurd (true≢false e)
      starts false e true = refl
      starts false e false = refl

-- what the rows before and the row's first cells give together
pub passed : (s : Sides) (flags : List ℕ) (c x : ℕ) → ((k : ℕ) → k < c → bad s flags k ≡ false) → ((k : ℕ) → k < x → bad s flags (c + k) ≡ false)
    → (k : ℕ) → k < c + x → bad s flags k ≡ false
passed s flags c x before within k h = by (dec_lt k c)
  where
    by : Dec (k < c) → bad s flags k ≡ false
    by (yes l) = before k l
    by (no f) =
        let e : c + (k - c) ≡ k = omega arith in
        subst (λ (m : ℕ). bad s flags m ≡ false) e (within (k - c) (omega arith))
