-- Bounds of a flow: what a passed test of stage 3 tells of its fields, and what the table's entries make of e·j. Assumes nothing.
use mathlib.Core.Path.{◌≡◌, subst}
use mathlib.Core.Bool.{true}
use mathlib.Core.List.{[], ◌∷◌}
use Prim.Native.Nat.{ℕ, ◌*◌, ◌≤◌}
use native.Mathlib.Omega.{arith}
use lib.IntN.{ℤ, pos, ◌+ℤ◌, ◌*ℤ◌}
use lib.Signed.{◌≤ℤ◌, le_z}
use Rattle.whole.specs.laws.Bools.{and_left, and_right}
use Rattle.whole.specs.laws.Bounds.{abs-below}
use Rattle.whole.specs.laws.Ring.{ring-by, quotes}
use Rattle.whole.specs.laws.Order.{le_z-true, slow-x}
use Rattle.whole.specs.laws.Machine.{Within, within_by}
use Rattle.lattice.specs.declared.Flow.{Flow}
use Rattle.lattice.specs.Lattice.{dot}
use Rattle.lattice.specs.Cell.{dense, slow, pull}
use Rattle.lattice.specs.inner.Held.{vec, Tame, steady_flow}
use Rattle.lattice.proofs.Reading.{reading}

pub dense-low : (ρ : ℤ) → dense ρ ≡ true → pos 294912 ≤ℤ ρ
unfolding dense
dense-low ρ e = le_z-true (and_left (le_z (pos 294912) ρ) (le_z ρ (pos 1179648)) e)

pub dense-in : (ρ : ℤ) → dense ρ ≡ true → Within ρ 1179648
unfolding dense
dense-in ρ e = record { abs = abs-below (dense-low ρ e) (le_z-true (and_right (le_z (pos 294912) ρ) (le_z ρ (pos 1179648)) e)) }

third : (a ρ : ℕ) → 3 * a ≤ ρ → ρ ≤ 1179648 → a ≤ 393216
third a ρ h k = omega arith

pub steady-tame : (v : Flow) → steady_flow v ≡ true → Tame v
unfolding steady_flow slow
steady-tame v e =
    let d = and_left (dense v.rho) (slow v.rho (dot (vec v) (vec v))) e in
    let s : (pos 9 *ℤ dot (vec v) (vec v)) ≤ℤ (v.rho *ℤ v.rho) = le_z-true (and_right (dense v.rho) (slow v.rho (dot (vec v) (vec v))) e) in
    let m = (dense-in v.rho d).abs in
    record {
      low = dense-low v.rho d;
      rho = dense-in v.rho d;
      x = record { abs = third _ _ (slow-x v.x v.y v.z v.rho s) m };
      y = record { abs = third _ _ (slow-x v.y v.x v.z v.rho (subst (λ (t : ℤ). t ≤ℤ (v.rho *ℤ v.rho)) (swap-y v.x v.y v.z) s)) m };
      z = record { abs = third _ _ (slow-x v.z v.x v.y v.rho (subst (λ (t : ℤ). t ≤ℤ (v.rho *ℤ v.rho)) (swap-z v.x v.y v.z) s)) m };
    }
  where
    swap-y : (x y z : ℤ) → pos 9 *ℤ (x *ℤ x +ℤ y *ℤ y +ℤ z *ℤ z) ≡ pos 9 *ℤ (y *ℤ y +ℤ x *ℤ x +ℤ z *ℤ z)
    swap-y x y z = ring-by (x ∷ y ∷ z ∷ []) (search quotes depth 20) (search quotes depth 20) tt

    swap-z : (x y z : ℤ) → pos 9 *ℤ (x *ℤ x +ℤ y *ℤ y +ℤ z *ℤ z) ≡ pos 9 *ℤ (z *ℤ z +ℤ x *ℤ x +ℤ y *ℤ y)
    swap-z x y z = ring-by (x ∷ y ∷ z ∷ []) (search quotes depth 20) (search quotes depth 20) tt

-- what gravity adds is small
pub pull-in : {ρ g : ℤ} → Within ρ 1700000000 → Within g 1048 → Within (pull ρ g) 1700000
unfolding pull
pull-in {ρ} {g} r h = within_by (search reading depth 20) tt

-- a tame component, as `speed_squared` asks it
pub wider : {a : ℤ} → Within a 393216 → Within a 400000000
wider h = record { abs = omega (arith, h.abs) }

-- and as `dots` asks it
pub widest : {a : ℤ} → Within a 393216 → Within a 1000000000
widest h = record { abs = omega (arith, h.abs) }
