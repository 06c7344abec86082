-- Stage 5's equilibrium is stage 4's collision of no parts at p 1024, which relaxes them whole. Assumes nothing.
use mathlib.Core.Path.{◌≡◌, sym, ◌∙◌, ap, ap₂}
use mathlib.Core.List.{[], ◌∷◌}
use Prim.Native.Nat.{ℕ, zero, suc, ◌*◌, ◌<◌}
use native.Mathlib.Nat.{mul-div-mul_left}
use native.Mathlib.Omega.{arith}
use lib.IntN.{ℤ, pos, negsuc, neg_ℤ, ◌+ℤ◌, ◌-ℤ◌, ◌*ℤ◌}
use lib.Signed.{◌≤ℤ◌, quot_z}
use Rattle.whole.specs.Fold.{tab}
use Rattle.whole.specs.laws.Sums.{sum-cong}
use Rattle.whole.specs.laws.Tab.{tab-cong}
use Rattle.whole.specs.laws.Ring.{*ℤ-neg, ring-by, quotes}
use Rattle.whole.specs.laws.Quot.{quot-neg}
use Rattle.lattice.specs.Lattice.{V3, dot, Lattice}
use Rattle.lattice.specs.Cell.{quad, relaxed, cut_equilibrium}
use Rattle.lattice.specs.Body.{relaxed_dir, collided_part, equilibrium_dir, equilibrium_part}

-- a cut quotient does not change where both sides are taken k times
scaled : (n : ℤ) (d k : ℕ) → 0 < k → quot_z (pos k *ℤ n) (pos (k * d)) ≡ quot_z n (pos d)
scaled (pos a) d k h = ap pos (mul-div-mul_left a d h)
scaled (negsuc a) d k h =
    ap (λ (z : ℤ). quot_z z (pos (k * d))) (*ℤ-neg (pos k) (pos (suc a)))
    ∙ quot-neg (pos (k * suc a)) (pos (k * d))
    ∙ ap (λ (n : ℕ). neg_ℤ (pos n)) (mul-div-mul_left (suc a) d h)
    ∙ sym (quot-neg (pos (suc a)) (pos d))

from-none : (w : ℕ) (Q : ℤ) (r : ℕ) → relaxed (pos 1024) w Q (pos r) (pos 0) ≡ cut_equilibrium w Q (pos r)
unfolding relaxed cut_equilibrium
from-none w Q r =
    alone (quot_z (pos 1024 *ℤ (pos w *ℤ Q -ℤ pos 72 *ℤ (pos r *ℤ pos 0))) (pos 73728 *ℤ pos r))
    ∙ ap₂ (λ (n : ℤ) (d : ℕ). quot_z (pos 1024 *ℤ n) (pos d)) (nothing-off (pos w) Q (pos r)) (omega arith)
    ∙ scaled (pos w *ℤ Q) (72 * r) 1024 (omega arith)
  where
    alone : (z : ℤ) → pos 0 +ℤ z ≡ z
    alone z = ring-by (z ∷ []) (search quotes depth 20) (search quotes depth 20) tt

    nothing-off : (w q r : ℤ) → w *ℤ q -ℤ pos 72 *ℤ (r *ℤ pos 0) ≡ w *ℤ q
    nothing-off w q r = ring-by (w ∷ q ∷ r ∷ []) (search quotes depth 20) (search quotes depth 20) tt

module _ (L : Lattice) (r : ℕ) (j : V3) (f : ℕ → ℤ) (none : (k : ℕ) → f k ≡ pos 0) where
  dir : (i : ℕ) → relaxed_dir L (pos r) j (pos 1024) f i ≡ equilibrium_dir L (pos r) j i
  unfolding relaxed_dir equilibrium_dir
  dir i =
      ap (λ (z : ℤ). relaxed (pos 1024) (L.weight i) (quad (pos r) (dot (L.e i) j) (dot j j)) (pos r) z) (none i)
      ∙ from-none (L.weight i) (quad (pos r) (dot (L.e i) j) (dot j j)) r

  part : (k : ℕ) → collided_part L (pos r) j (pos 1024) f k ≡ equilibrium_part L (pos r) j k
  unfolding collided_part equilibrium_part
  part zero = ap (λ (z : ℤ). pos r -ℤ z) (sum-cong L.q (λ a. relaxed_dir L (pos r) j (pos 1024) f (suc a)) (λ a. equilibrium_dir L (pos r) j (suc a)) (λ a h. dir (suc a)))
  part (suc k) = dir (suc k)

pub stilled : (L : Lattice) (n k : ℕ) (ρ : ℤ) (j : V3) (f : ℕ → ℤ) → pos k ≤ℤ ρ → ((i : ℕ) → f i ≡ pos 0) → tab n (collided_part L ρ j (pos 1024) f) ≡ tab n (equilibrium_part L ρ j)
stilled L n k (pos r) j f h none = tab-cong n (collided_part L (pos r) j (pos 1024) f) (equilibrium_part L (pos r) j) (pos 0) (λ a l. part L r j f none a)
stilled L n k (negsuc r) j f h none = absurd h.le
