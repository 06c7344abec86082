-- Ranges: a number within ±n by two tests, relaxation in range, and gravity out of range by one component alone. Assumes nothing.
use mathlib.Core.Path.{◌≡◌, refl, sym, ◌∙◌, ap}
use mathlib.Core.Logic.{⊎_elim}
use mathlib.Core.Bool.{Bool, true, false, not, ◌&&◌}
use Prim.Native.Nat.{ℕ, suc, ◌+◌, ◌*◌, ◌<◌, ◌≤◌}
use native.Mathlib.Nat.{mul-le-mul}
use native.Mathlib.Omega.{arith}
use lib.Dec.{leb, leb-suc-suc}
use lib.IntN.{ℤ, pos, negsuc, nat_abs, ◌+ℤ◌, ◌*ℤ◌}
use lib.Signed.{le_z}
use mir.Syntax.{w64}
use mir.Val.{SFits, to_z, of_z}
use mir.Facts.{to_z-of_z}
use borrow.Author.Tests.{leb-true, leb-false, lt-leb, not-true, not-false}
use Rattle.whole.specs.laws.Bools.{and_left, and_right}
use Rattle.whole.specs.laws.Bounds.{abs-below}
use Rattle.whole.specs.laws.Order.{le_z-true, ≤-or}
use Rattle.whole.specs.laws.Machine.{Within}
use Rattle.whole.specs.laws.Ring.{square-pos}
use Rattle.lattice.specs.Cell.{relaxation_good, gravity_good}

and_one : (t : Bool) → (t && true) ≡ t
and_one true = refl
and_one false = refl

pub between : (n : ℕ) (z : ℤ) → (le_z z (pos (suc n)) && le_z (negsuc n) z) ≡ leb (nat_abs z) (suc n)
between n (pos k) = and_one (leb k (suc n))
between n (negsuc k) = sym (leb-suc-suc k n)

-- relaxation in range
pub relaxation-in : (p : ℤ) → relaxation_good p ≡ true → Within p 2037
relaxation-in p e =
    record { abs = abs-below {k = 1} {z = p} (le_z-true (and_left (le_z (pos 1) p) (le_z p (pos 2037)) e)) (le_z-true (and_right (le_z (pos 1) p) (le_z p (pos 2037)) e)) }

-- 1049² is above 1,099,511, and no square takes away from a sum
sum-of-squares : (x y z : ℤ) → x *ℤ x +ℤ y *ℤ y +ℤ z *ℤ z ≡ pos (nat_abs x * nat_abs x + nat_abs y * nat_abs y + nat_abs z * nat_abs z)
sum-of-squares x y z = rw (square-pos x, square-pos y, square-pos z)

strong : (x y z : ℤ) → 1099511 < nat_abs x * nat_abs x + nat_abs y * nat_abs y + nat_abs z * nat_abs z → gravity_good x y z ≡ false
unfolding gravity_good
strong x y z h = ap (λ (s : ℤ). le_z s (pos 1099511)) (sum-of-squares x y z) ∙ lt-leb _ _ h

pub strong-x : (x y z : ℤ) → 1099511 < nat_abs x * nat_abs x → gravity_good x y z ≡ false
strong-x x y z h = strong x y z (omega arith)

pub strong-y : (x y z : ℤ) → 1099511 < nat_abs y * nat_abs y → gravity_good x y z ≡ false
strong-y x y z h = strong x y z (omega arith)

pub strong-z : (x y z : ℤ) → 1099511 < nat_abs z * nat_abs z → gravity_good x y z ≡ false
strong-z x y z h = strong x y z (omega arith)

-- what the answer of `small` tells of its argument, as the machine holds it
pub large : (z : ℤ) (r : Bool) → SFits w64 z → r ≡ leb (nat_abs (to_z w64 (of_z w64 z))) 1048 → not r ≡ true → 1099511 < nat_abs z * nat_abs z
large z r f e t =
    let h : 1049 ≤ nat_abs z = leb-false (nat_abs z) 1048 (sym (rw (to_z-of_z f) at e) ∙ not-true r t) in
    omega (arith, mul-le-mul h h)

pub little : (z : ℤ) (r : Bool) → SFits w64 z → r ≡ leb (nat_abs (to_z w64 (of_z w64 z))) 1048 → not r ≡ false → Within z 1048
little z r f e t = record { abs = leb-true (nat_abs z) 1048 (sym (rw (to_z-of_z f) at e) ∙ not-false r t) }

-- gravity in range: each component is within ±1048
module _ (x y z : ℤ) (e : gravity_good x y z ≡ true) where
  sum_low : nat_abs x * nat_abs x + nat_abs y * nat_abs y + nat_abs z * nat_abs z ≤ 1099511
  unfolding gravity_good
  sum_low = leb-true _ 1099511 (ap (λ (s : ℤ). le_z s (pos 1099511)) (sym (sum-of-squares x y z)) ∙ e)

  -- 1049² is too much
  root : (n s : ℕ) → n * n + s ≤ 1099511 → n ≤ 1048
  root n s h = ⊎_elim (λ k. k) (λ k. absurd (omega (arith, mul-le-mul k k))) (≤-or n 1048)

  pub weak-x : Within x 1048
  weak-x = record { abs = root (nat_abs x) (nat_abs y * nat_abs y + nat_abs z * nat_abs z) (omega (arith, sum_low)) }

  pub weak-y : Within y 1048
  weak-y = record { abs = root (nat_abs y) (nat_abs x * nat_abs x + nat_abs z * nat_abs z) (omega (arith, sum_low)) }

  pub weak-z : Within z 1048
  weak-z = record { abs = root (nat_abs z) (nat_abs x * nat_abs x + nat_abs y * nat_abs y) (omega (arith, sum_low)) }
