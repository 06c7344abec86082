-- The flume's weights at the nineteen places, as the code's tests part them, and what both of a pair share. Assumes nothing.
use mathlib.Core.Path.{◌≡◌, refl, ◌∙◌, ap, ap₂}
use mathlib.Core.Logic.{⊎_elim}
use mathlib.Core.Bool.{Bool, true, false, ◌||◌, cond}
use Prim.Native.Nat.{ℕ, zero, suc, ◌+◌, ◌%◌, ◌<◌, ◌≤◌}
use native.Mathlib.Nat.{le_of_suc-le-suc}
use native.Mathlib.Omega.{arith}
use lib.Dec.{leb, ltb, eqb}
use lib.IntN.{pos}
use borrow.Author.Tests.{leb-true, eqb-true, eqb-false, ne_eqb, lt-ltb, le-ltb}
use Rattle.whole.specs.laws.Bools.{or_cases}
use Rattle.whole.specs.Fold.{all, open-fold}
use Rattle.whole.specs.laws.Machine.{Within}
use Rattle.whole.specs.laws.Search.{all-at}
use Rattle.lattice.specs.Lattice.{open-lattice}
use Rattle.flume.specs.inner.Spread.{narrow, idle, spread, spread_lattice}

-- by the four tests
abbrev pick : Bool → Bool → Bool → Bool → ℕ
pick a b c d = cond a 4 (cond b 0 (cond c 4 (cond d 0 1)))

weight-right : ℕ → Bool
weight-right a = eqb (spread_lattice.weight (suc a)) (pick (ltb (suc a) 3) (ltb (suc a) 5) (ltb (suc a) 7) (ltb (suc a) 15))

weights-right : all 18 weight-right ≡ true
unfolding open-fold open-lattice spread narrow idle weight-right
weights-right = refl

weight-at : (i : ℕ) → 0 < i → i < 19 → spread_lattice.weight i ≡ pick (ltb i 3) (ltb i 5) (ltb i 7) (ltb i 15)
unfolding weight-right
weight-at zero h k = absurd (omega arith)
weight-at (suc a) h k = eqb-true _ _ (all-at 18 weight-right weights-right a (le_of_suc-le-suc k))

pub along-x : (i : ℕ) → 0 < i → i < 3 → spread_lattice.weight i ≡ 4
along-x i h k = weight-at i h (omega arith) ∙ ap (λ (a : Bool). pick a (ltb i 5) (ltb i 7) (ltb i 15)) (lt-ltb i 3 k)

pub idle-y : (i : ℕ) → 3 ≤ i → i < 5 → spread_lattice.weight i ≡ 0
idle-y i h k = weight-at i (omega arith) (omega arith) ∙ ap₂ (λ (a b : Bool). pick a b (ltb i 7) (ltb i 15)) (le-ltb i 3 h) (lt-ltb i 5 k)

pub along-z : (i : ℕ) → 5 ≤ i → i < 7 → spread_lattice.weight i ≡ 4
along-z i h k =
    weight-at i (omega arith) (omega arith) ∙ ap₂ (λ (a b : Bool). pick a b (ltb i 7) (ltb i 15)) (le-ltb i 3 (omega arith)) (le-ltb i 5 h)
    ∙ ap (λ (c : Bool). pick false false c (ltb i 15)) (lt-ltb i 7 k)

pub idle-rest : (i : ℕ) → 7 ≤ i → i < 15 → spread_lattice.weight i ≡ 0
idle-rest i h k =
    weight-at i (omega arith) (omega arith) ∙ ap₂ (λ (a b : Bool). pick a b (ltb i 7) (ltb i 15)) (le-ltb i 3 (omega arith)) (le-ltb i 5 (omega arith))
    ∙ ap₂ (λ (c d : Bool). pick false false c d) (le-ltb i 7 h) (lt-ltb i 15 k)

pub diagonal : (i : ℕ) → 15 ≤ i → i < 19 → spread_lattice.weight i ≡ 1
diagonal i h k =
    weight-at i (omega arith) k ∙ ap₂ (λ (a b : Bool). pick a b (ltb i 7) (ltb i 15)) (le-ltb i 3 (omega arith)) (le-ltb i 5 (omega arith))
    ∙ ap₂ (λ (c d : Bool). pick false false c d) (le-ltb i 7 (omega arith)) (le-ltb i 15 h)

-- ---- no weight is above 4, and opposite directions have the same
opposite-right : ℕ → Bool
opposite-right i = eqb (i % 2) 0 || eqb (spread_lattice.weight (i + 1)) (spread_lattice.weight i)

opposites-right : all 18 opposite-right ≡ true
unfolding open-fold open-lattice spread narrow idle opposite-right
opposites-right = refl

pub weight-opposite : (i : ℕ) → i % 2 ≡ 1 → i < 19 → spread_lattice.weight (i + 1) ≡ spread_lattice.weight i
unfolding opposite-right
weight-opposite i o h =
    ⊎_elim (λ e. absurd (eqb-false (i % 2) 0 (ne_eqb (i % 2) 0 (λ z. omega arith)) (eqb-true (i % 2) 0 e))) (λ e. eqb-true _ _ e)
    (or_cases (eqb (i % 2) 0) _ (all-at 18 opposite-right opposites-right i (omega arith)))

light-right : ℕ → Bool
light-right a = leb (spread_lattice.weight (suc a)) 4

lights-right : all 18 light-right ≡ true
unfolding open-fold open-lattice spread narrow idle light-right
lights-right = refl

pub weight-in : (i : ℕ) → 0 < i → i < 19 → Within (pos (spread_lattice.weight i)) 4
unfolding light-right
weight-in zero h k = absurd (omega arith)
weight-in (suc a) h k = record { abs = leb-true _ 4 (all-at 18 light-right lights-right a (le_of_suc-le-suc k)) }
