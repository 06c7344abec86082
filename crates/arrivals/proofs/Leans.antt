-- Which way a cell leans, as the code reads it by places and offsets, is stage 1's own. Assumes nothing.
use mathlib.Core.Path.{◌≡◌, refl, sym, ap, ap₂, ◌∙◌}
use mathlib.Core.Bool.{Bool, ◌&&◌}
use mathlib.Core.List.{List, []}
use Prim.Native.Nat.{ℕ, zero, suc, ◌+◌, ◌-◌, ◌≤◌, ◌<◌}
use native.Mathlib.Omega.{arith}
use lib.Dec.{eqb}
use lib.IntN.{ℤ, pos, negsuc, nat_abs, ◌-ℤ◌}
use lib.ListN.{get_or, replicate}
use lib.Signed.{lt_z}
use borrow.Author.Tests.{lt-ltb, ne_eqb}
use Rattle.whole.specs.laws.Bounds.{abs-sub}
use Rattle.whole.specs.Fold.{tab, open-fold}
use Rattle.whole.specs.laws.Machine.{Within}
use Rattle.whole.specs.laws.Tab.{tab-cong, get_or-tab}
use Rattle.lattice.specs.Lattice.{V3, dot, d3q19}
use Rattle.lattice.specs.Cell.{is_positive}
use Rattle.lattice.specs.inner.Held.{vec}
use Rattle.lattice.specs.declared.Flow.{Flow}
use Rattle.lattice.specs.declared.Settings.{Settings}
use Rattle.grid.specs.State.{Scene, by_flag}
use Rattle.grid.specs.Step.{seen, normal, leans_to}
use Rattle.grid.specs.inner.Passes.{seen_at, seen_beside, normal_at, Sloping}
use Rattle.grid.specs.inner.Sight.{sight}
use Rattle.grid.proofs.Slopes.{seen-in, vector, dot-turn}
use Rattle.arrivals.specs.inner.Sources.{lean_at}

-- the code's test
pub above_zero : (x : ℤ) → lt_z (pos 0) x ≡ is_positive x
above_zero (pos zero) = refl
above_zero (pos (suc n)) = lt-ltb 0 (suc n) (omega arith)
above_zero (negsuc n) = refl

-- entry i of an array
pub entry : {l : List ℤ} (f : ℕ → ℤ) (i : ℕ) → l ≡ tab 19 f → i < 19 → get_or l i (pos 0) ≡ f i
entry f i e h = ap (λ l. get_or l i (pos 0)) e ∙ get_or-tab 19 f (pos 0) i h

-- ---- by cases of a flag
place-cases : (f : ℕ) (fill : ℕ → ℕ) (b c : ℕ) → pos (fill (by_flag f b b b c)) ≡ by_flag f (pos (fill b)) (pos (fill b)) (pos (fill b)) (pos (fill c))
place-cases zero fill b c = refl
place-cases (suc zero) fill b c = refl
place-cases (suc (suc zero)) fill b c = refl
place-cases (suc (suc (suc n))) fill b c = refl

lean-cases : (f : ℕ) {x y : ℤ} → x ≡ y → is_positive (by_flag f (pos 0) x (pos 0) (pos 0)) ≡ (eqb f 1 && is_positive y)
lean-cases zero e = refl
lean-cases (suc zero) e = ap is_positive e
lean-cases (suc (suc zero)) e = refl
lean-cases (suc (suc (suc n))) {y = y} e = sym (ap (λ (b : Bool). b && is_positive y) (ne_eqb (suc (suc (suc n))) 1 (λ h. omega arith)))

-- ---- what the code works out once for all directions
module _ (flags fills off : List ℕ) (low c : ℕ) where
  pub even-lean : (i : ℕ) → get_or flags c 3 ≡ 1 → dot (d3q19.e i) (normal_at flags fills off (c - low)) ≡ lean_at flags fills off low c i
  unfolding lean_at
  even-lean i e = rw e refl

  no-lean : (f : ℕ) (x : ℤ) → (f ≡ 1 → ⊥) → by_flag f (pos 0) x (pos 0) (pos 0) ≡ pos 0
  no-lean zero x n = refl
  no-lean (suc zero) x n = absurd (n refl)
  no-lean (suc (suc zero)) x n = refl
  no-lean (suc (suc (suc m))) x n = refl

  pub any-lean : (get_or flags c 3 ≡ 1 → ⊥) → replicate 19 (pos 0) ≡ tab 19 (lean_at flags fills off low c)
  unfolding lean_at open-fold
  any-lean n = tab-cong 19 (λ i. pos 0) (lean_at flags fills off low c) (pos 0) (λ i h. sym (no-lean (get_or flags c 3) _ n))

-- a normal's components are small
pub normal-low : {flags fills off : List ℕ} {k : ℕ} (v : Flow) → Sloping flags fills off k → vec v ≡ normal_at flags fills off k
    → Within v.x 1000000000 × Within v.y 1000000000 × Within v.z 1000000000
unfolding normal_at
normal-low {flags} {fills} {off} {k} v s e = (
  fall (ap (λ (m : V3). m.x) e) (at 2 (omega arith)) (at 1 (omega arith)),
  fall (ap (λ (m : V3). m.y) e) (at 4 (omega arith)) (at 3 (omega arith)),
  fall (ap (λ (m : V3). m.z) e) (at 6 (omega arith)) (at 5 (omega arith)),
)
  where
    at : (i : ℕ) → i < 19 → get_or fills (seen_at flags (k + get_or off 0 0) (k + get_or off i 0)) 0 ≤ 65536
    at i h = s.low _ (seen-in flags (k + get_or off 0 0) (k + get_or off i 0) (s.reach i h) (s.reach 0 (omega arith)))

    fall : {x : ℤ} {a b : ℕ} → x ≡ pos a -ℤ pos b → a ≤ 65536 → b ≤ 65536 → Within x 1000000000
    fall {x} {a} {b} e h l = record { abs = omega (arith, ap nat_abs e, abs-sub (pos a) (pos b)) }

module _ (weights : ℕ → ℕ) (flags : List ℕ) (part : ℕ → ℕ → ℤ) (fills off : List ℕ) (low : ℕ) (g : Settings) (c : ℕ) (self : (c - low) + get_or off 0 0 ≡ c) where
  abbrev S : Scene
  S = sight weights flags part [] fills off low g

  seen-is : (i : ℕ) → seen_beside flags fills off (c - low) i ≡ seen S c ((c - low) + get_or off i 0)
  unfolding seen_at seen sight
  seen-is i =
      let b = (c - low) + get_or off i 0 in
      ap (λ (n : ℕ). pos (get_or fills (by_flag (get_or flags b 3) b b b n) 0)) self
      ∙ place-cases (get_or flags b 3) (λ n. get_or fills n 0) b c

  normal-is : normal_at flags fills off (c - low) ≡ normal S c
  unfolding normal_at normal sight d3q19
  normal-is =
      vector (ap₂ ◌-ℤ◌ (seen-is 2) (seen-is 1)) (ap₂ ◌-ℤ◌ (seen-is 4) (seen-is 3)) (ap₂ ◌-ℤ◌ (seen-is 6) (seen-is 5))

  pub leans-is : (i : ℕ) → is_positive (lean_at flags fills off low c i) ≡ leans_to S c i
  unfolding lean_at leans_to sight
  leans-is i =
      lean-cases (get_or flags c 3) (ap (dot (d3q19.e i)) normal-is ∙ dot-turn (d3q19.e i) (normal S c))

  -- by the array in which the code has n·e
  pub leans-read : (i : ℕ) {x : ℤ} {n : List ℤ} → n ≡ tab 19 (lean_at flags fills off low c) → i < 19 → x ≡ get_or n i (pos 0) → is_positive x ≡ leans_to S c i
  leans-read i o h e = ap is_positive (e ∙ entry _ i o h) ∙ leans-is i
