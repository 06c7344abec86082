-- An accepted act in numbers: what is moved is not negative, the mass keeps its range, the total keeps its. Assumes nothing.
use mathlib.Core.Path.{◌≡◌, refl}
use mathlib.Core.Bool.{Bool, true, false, ◌&&◌, cond}
use Prim.Native.Nat.{◌+◌, ◌≤◌, ◌<◌, ◌^◌}
use native.Mathlib.Omega.{arith}
use borrow.Author.Tests.{le-leb}
use lib.IntN.{ℤ, pos, nat_abs, ◌+ℤ◌, ◌-ℤ◌}
use lib.Signed.{le_z, lt_z, ◌≤ℤ◌, mag}
use mir.Syntax.{Width}
use mir.Val.{to_z, of_z, hbits}
use mir.Facts.{to_z-of_z}
use Rattle.whole.specs.laws.Bools.{and_left, and_right, and-true}
use Rattle.whole.specs.Fold.{up, down}
use Rattle.whole.specs.laws.Parts.{Is, is-self, is-add, add-pn, neg-pn, parts-≤, abs-max, one-zero}
use Rattle.whole.specs.laws.Order.{≤-le_z, test-le, test-nle, test-nlt}
use Rattle.whole.specs.laws.Machine.{Within}
use Rattle.lattice.specs.Cell.{mass_good}
use Rattle.pumps.specs.Three.{total_good}
use Rattle.pumps.specs.Acts.{amount_good, moved_of, mass_of, act_good}

-- a number that fits is what the machine reads back
pub held : (w : Width) (z : ℤ) → mag z < 2 ^ hbits w → to_z w (of_z w z) ≡ z
held w z h = to_z-of_z {w = w} {z = z} (record { sfits = h })

sub-pn : (a b : ℤ) → Is (a -ℤ b) (up a + down b) (down a + up b)
sub-pn a b = is-add (is-self a) (neg-pn b)

module _ (pour : Bool) (amount mass total : ℤ) (g : act_good pour amount mass total ≡ true) where
  abbrev light : Bool
  light = le_z (mass_of pour mass (moved_of pour amount mass)) (pos 2359296)

  abbrev few : Bool
  few = le_z (total +ℤ moved_of pour amount mass) (pos 1000000000000000)

  amount-good : amount_good amount ≡ true
  unfolding act_good
  amount-good = and_left (amount_good amount) light (and_left (amount_good amount && light) few g)

  light-good : light ≡ true
  unfolding act_good
  light-good = and_right (amount_good amount) light (and_left (amount_good amount && light) few g)

  few-good : few ≡ true
  unfolding act_good
  few-good = and_right (amount_good amount && light) few g

  least : le_z (pos 1) amount ≡ true
  least = and_left (le_z (pos 1) amount) (le_z amount (pos 589824)) amount-good

-- what is moved is not negative
moved_up : (pour : Bool) (amount mass : ℤ) → le_z (pos 1) amount ≡ true → pos 0 ≤ℤ moved_of pour amount mass
unfolding moved_of
moved_up true amount mass l = parts-≤ (omega (arith, test-le (pos 1) amount l))
moved_up false amount mass l = none (le_z mass (pos 0)) refl
  where
    less : (b : Bool) → le_z mass (pos 0) ≡ false → pos 0 ≤ℤ cond b mass amount
    less true e = parts-≤ (omega (arith, test-nle mass (pos 0) e))
    less false e = parts-≤ (omega (arith, test-le (pos 1) amount l))

    none : (b : Bool) → le_z mass (pos 0) ≡ b → pos 0 ≤ℤ cond b (pos 0) (cond (lt_z mass amount) mass amount)
    none true e = parts-≤ (omega arith)
    none false e = less (lt_z mass amount) e

-- the mass keeps its range
mass-in : (pour : Bool) (amount mass : ℤ) → le_z (pos 1) amount ≡ true → Within mass 2359296 → le_z (mass_of pour mass (moved_of pour amount mass)) (pos 2359296) ≡ true
    → nat_abs (mass_of pour mass (moved_of pour amount mass)) ≤ 2359296
unfolding moved_of
mass-in true amount mass l h e =
    let m = mass +ℤ amount in
    omega (arith, h.abs, test-le (pos 1) amount l, test-le m (pos 2359296) e, (add-pn mass amount).eq, abs-max m, abs-max mass, one-zero m, one-zero mass, one-zero amount)
mass-in false amount mass l h e = none (le_z mass (pos 0)) refl
  where
    less : (b : Bool) → lt_z mass amount ≡ b → le_z mass (pos 0) ≡ false → nat_abs (mass -ℤ cond b mass amount) ≤ 2359296
    less true t k = let m = mass -ℤ mass in omega (arith, h.abs, (sub-pn mass mass).eq, abs-max m, abs-max mass, one-zero m, one-zero mass)
    less false t k =
        let m = mass -ℤ amount in
        omega (arith, h.abs, test-le (pos 1) amount l, test-nlt mass amount t, test-nle mass (pos 0) k, (sub-pn mass amount).eq, abs-max m, abs-max mass, one-zero m, one-zero mass, one-zero amount)

    none : (b : Bool) → le_z mass (pos 0) ≡ b → nat_abs (mass -ℤ cond b (pos 0) (cond (lt_z mass amount) mass amount)) ≤ 2359296
    none true k = let m = mass -ℤ pos 0 in omega (arith, h.abs, (sub-pn mass (pos 0)).eq, abs-max m, abs-max mass, one-zero m, one-zero mass)
    none false k = less (lt_z mass amount) refl k

pub mass-kept : (pour : Bool) (amount mass total : ℤ) → act_good pour amount mass total ≡ true → Within mass 2359296
    → mass_good (mass_of pour mass (moved_of pour amount mass)) ≡ true
mass-kept pour amount mass total g h = le-leb _ _ (mass-in pour amount mass (least pour amount mass total g) h (light-good pour amount mass total g))

pub total_kept : (pour : Bool) (amount mass total : ℤ) → act_good pour amount mass total ≡ true → total_good total ≡ true → total_good (total +ℤ moved_of pour amount mass) ≡ true
total_kept pour amount mass total g h =
    let t = moved_of pour amount mass in
    let z : le_z (pos 0) t ≡ true = ≤-le_z (moved_up pour amount mass (least pour amount mass total g)) in
    let low : pos 0 ≤ℤ (total +ℤ t) =
    parts-≤ (omega (arith, test-le (pos 0) t z, test-le (pos 0) total (and_left (le_z (pos 0) total) (le_z total (pos 1000000000000000)) h), (add-pn total t).eq)) in
    and-true (le_z (pos 0) (total +ℤ t)) (le_z (total +ℤ t) (pos 1000000000000000)) (≤-le_z low) (few-good pour amount mass total g)
