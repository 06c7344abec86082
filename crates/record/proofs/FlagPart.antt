-- The flag section as the code meets it: the part of the record from the first flag on, N bytes; its length, and the counts I and L of it. Assumes nothing.
use mathlib.Core.Path.{◌≡◌, refl, ap, ap₂, ◌∙◌}
use mathlib.Core.Bool.{Bool, true, false, ◌&&◌, cond}
use mathlib.Core.List.{List}
use mathlib.Core.Logic.{◌⊎◌, inl, inr}
use Prim.Native.Nat.{ℕ, ◌+◌, ◌-◌, ◌≤◌}
use native.Mathlib.Omega.{arith}
use lib.Dec.{leb, eqb}
use lib.ListN.{length, take, drop, length-drop}
use lib.Seq.{length-take-le}
use Rattle.grid.specs.declared.Sides.{Sides}
use Rattle.grid.specs.Grid.{grid_of}
use Rattle.grid.specs.Good.{bad_flag, bad_fluid}
use Rattle.grid.specs.State.{flag_of}
use Rattle.record.specs.Bytes.{part, u32_at}
use Rattle.record.specs.Places.{counts, totals_from}
use Rattle.record.specs.Layout.{interfaces, liquids}
use Rattle.record.specs.Reading.{sides_in, totals_in, flags_at, cells_in, flags_in, flag_in, interfaces_in, liquids_in}

-- section 4 holds one number or three
pub totals-cases : (r : List ℕ) → (totals_in r ≡ 1) ⊎ (totals_in r ≡ 3)
unfolding totals_in
totals-cases r = go (leb (totals_from counts + 4) (length r) && eqb (u32_at r (totals_from counts)) 1)
  where
    go : (b : Bool) → (◌≡◌ {A = ℕ} (cond b 1 3) 1) ⊎ (◌≡◌ {A = ℕ} (cond b 1 3) 3)
    go true = inl refl
    go false = inr refl

pub totals-few : (r : List ℕ) → totals_in r ≤ 3
totals-few r = go (totals-cases r)
  where
    go : (totals_in r ≡ 1) ⊎ (totals_in r ≡ 3) → totals_in r ≤ 3
    go (inl e) = omega arith
    go (inr e) = omega arith

-- a part of n bytes from `at` on, as `&r[at..at + n]` gives it, and its counts
module _ (r : List ℕ) {n at k j : ℕ} (is : n ≡ k) (from : at ≡ j) where
  pub part-is : take (at + n - at) (drop at r) ≡ part k j r
  part-is = ap₂ (λ (k j : ℕ). take k (drop j r)) (let e : at + n - at ≡ n = omega arith in e ∙ is) from

  pub length-part-is : j + k ≤ length r → length (part k j r) ≡ k
  length-part-is h = length-take-le k (drop j r) (omega (arith, length-drop j r))

  pub interfaces-part : j + k ≤ length r
      → interfaces (length (take (at + n - at) (drop at r))) (flag_of (take (at + n - at) (drop at r))) ≡ interfaces k (flag_of (part k j r))
  interfaces-part h = ap (λ (l : List ℕ). interfaces (length l) (flag_of l)) part-is ∙ ap (λ (m : ℕ). interfaces m (flag_of (part k j r))) (length-part-is h)

  pub liquids-part : j + k ≤ length r
      → liquids (length (take (at + n - at) (drop at r))) (flag_of (take (at + n - at) (drop at r))) ≡ liquids k (flag_of (part k j r))
  liquids-part h = ap (λ (l : List ℕ). liquids (length l) (flag_of l)) part-is ∙ ap (λ (m : ℕ). liquids m (flag_of (part k j r))) (length-part-is h)

module _ (r : List ℕ) {n at : ℕ} (is : n ≡ cells_in r) (from : at ≡ flags_at r) where
  pub flags-are : take (at + n - at) (drop at r) ≡ flags_in r
  unfolding flags_in
  flags-are = part-is r is from

  pub length-flags : flags_at r + cells_in r ≤ length r → length (flags_in r) ≡ cells_in r
  unfolding flags_in
  length-flags h = length-part-is r is from h

  -- the counts of the part, and the searches over it
  pub interfaces-are : flags_at r + cells_in r ≤ length r
      → interfaces (length (take (at + n - at) (drop at r))) (flag_of (take (at + n - at) (drop at r))) ≡ interfaces_in r
  unfolding interfaces_in flag_in flags_in
  interfaces-are h = interfaces-part r is from h

  pub liquids-are : flags_at r + cells_in r ≤ length r
      → liquids (length (take (at + n - at) (drop at r))) (flag_of (take (at + n - at) (drop at r))) ≡ liquids_in r
  unfolding liquids_in flag_in flags_in
  liquids-are h = liquids-part r is from h

  pub bad-flag-is : (s : Sides) → s ≡ sides_in r → bad_flag (grid_of s) (flag_of (take (at + n - at) (drop at r))) ≡ bad_flag (grid_of (sides_in r)) (flag_in r)
  unfolding flag_in
  bad-flag-is s e = ap₂ (λ (t : Sides) (l : List ℕ). bad_flag (grid_of t) (flag_of l)) e flags-are

  pub bad-fluid-is : (s : Sides) → s ≡ sides_in r → bad_fluid 18 (grid_of s) (flag_of (take (at + n - at) (drop at r))) ≡ bad_fluid 18 (grid_of (sides_in r)) (flag_in r)
  unfolding flag_in
  bad-fluid-is s e = ap₂ (λ (t : Sides) (l : List ℕ). bad_fluid 18 (grid_of t) (flag_of l)) e flags-are
