-- Whose fill counts for a cell, by cases of the flag; and a fill as a signed number. Assumes nothing.
use mathlib.Core.Path.{◌≡◌, refl, subst}
use mathlib.Core.List.{List, [], ◌∷◌}
use Prim.Native.Nat.{ℕ, zero, suc, ◌+◌, ◌≤◌, ◌<◌}
use native.Mathlib.Omega.{arith}
use lib.IntN.{ℤ, pos}
use lib.ListN.{length, get_or}
use mir.Syntax.{w32}
use mir.Val.{SFits}
use Rattle.whole.specs.laws.Machine.{does-fit, known}
use Rattle.whole.specs.laws.Ring.{ring-by, quotes}
use Rattle.lattice.specs.Lattice.{V3, dot}
use Rattle.grid.specs.State.{by_flag}
use Rattle.grid.specs.inner.Passes.{seen_at, Sloping}
use Rattle.grid.proofs.Lists.{get_or-there}

-- ---- by cases of a flag
wall-is : (f b c : ℕ) → 2 < f → c ≡ by_flag f b b b c
wall-is zero b c h = absurd (omega arith)
wall-is (suc zero) b c h = absurd (omega arith)
wall-is (suc (suc zero)) b c h = absurd (omega arith)
wall-is (suc (suc (suc n))) b c h = refl

other-is : (f b c : ℕ) → f ≤ 2 → b ≡ by_flag f b b b c
other-is zero b c h = refl
other-is (suc zero) b c h = refl
other-is (suc (suc zero)) b c h = refl
other-is (suc (suc (suc n))) b c h = absurd (omega arith)

either-in : (f b c n : ℕ) → b < n → c < n → by_flag f b b b c < n
either-in zero b c n h l = h
either-in (suc zero) b c n h l = h
either-in (suc (suc zero)) b c n h l = h
either-in (suc (suc (suc m))) b c n h l = l

-- ---- of the flag as the code reads it
module _ (flags : List ℕ) (c b : ℕ) (h : b < length flags) where
  pub seen-wall : 2 < get_or flags b 0 → c ≡ seen_at flags c b
  unfolding seen_at
  seen-wall e = wall-is (get_or flags b 3) b c (subst (λ (f : ℕ). 2 < f) (get_or-there flags b 0 3 h) e)

  pub seen_other : get_or flags b 0 ≤ 2 → b ≡ seen_at flags c b
  unfolding seen_at
  seen_other e = other-is (get_or flags b 3) b c (subst (λ (f : ℕ). f ≤ 2) (get_or-there flags b 0 3 h) e)

  pub seen-in : c < length flags → seen_at flags c b < length flags
  unfolding seen_at
  seen-in l = either-in (get_or flags b 3) b c (length flags) h l

-- what `fall` asks of the neighbours in directions i and j
pub falls : {flags fills off : List ℕ} {k : ℕ} → Sloping flags fills off k → (i j : ℕ) → i < 19 → j < 19
    → (k + get_or off 0 0 < length flags) × (k + get_or off i 0 < length flags) × (k + get_or off j 0 < length flags) × (length fills ≡ length flags)
    × ((c : ℕ) → c < length flags → get_or fills c 0 ≤ 65536)
falls s i j h l = (s.reach 0 (omega arith), s.reach i h, s.reach j l, s.count, s.low)

-- ---- a fill as `n as i32`
pub fill-fits : {n : ℕ} → n ≤ 65536 → SFits w32 (pos n)
fill-fits {n} h = does-fit {w = w32} (known (pos n) 65536 h) tt

-- ---- vectors
pub vector : {x y z u v w : ℤ} → x ≡ u → y ≡ v → z ≡ w → ◌≡◌ {A = V3} (record { x = x; y = y; z = z }) (record { x = u; y = v; z = w })
vector p q r i = record { x = p i; y = q i; z = r i }

pub dot-turn : (a b : V3) → dot a b ≡ dot b a
dot-turn a b = ring-by (a.x ∷ a.y ∷ a.z ∷ b.x ∷ b.y ∷ b.z ∷ []) (search quotes depth 20) (search quotes depth 20) tt
