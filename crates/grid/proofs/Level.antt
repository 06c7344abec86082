-- A level pool has no slope: where each neighbour along the axes is a wall or as full as the cell itself, the normal is 0. Assumes nothing.
use mathlib.Core.Path.{◌≡◌, refl, ap, ap₂, ◌∙◌}
use mathlib.Core.List.{[], ◌∷◌}
use Prim.Native.Nat.{ℕ, zero, suc}
use lib.IntN.{ℤ, pos, ◌-ℤ◌}
use Rattle.whole.specs.laws.Ring.{ring-by, quotes}
use Rattle.grid.specs.State.{Scene, by_flag}
use Rattle.grid.specs.Step.{flag_at, near, seen, normal}

-- cell d is a wall, or as full as c
abbrev pub Even : Scene → ℕ → ℕ → Type 0
Even S c d = by_flag (flag_at S d) (S.old.fill d ≡ S.old.fill c) (S.old.fill d ≡ S.old.fill c) (S.old.fill d ≡ S.old.fill c) Unit

-- so are all six neighbours along the axes
pub record Level (S : Scene) (c : ℕ) : Type 0 where
  pub xp : Even S c (near S c S.lat.xp)
  pub xm : Even S c (near S c S.lat.xm)
  pub yp : Even S c (near S c S.lat.yp)
  pub ym : Even S c (near S c S.lat.ym)
  pub zp : Even S c (near S c S.lat.zp)
  pub zm : Even S c (near S c S.lat.zm)

-- c sees its own fill there
seen-even : (S : Scene) (c d : ℕ) → Even S c d → seen S c d ≡ pos (S.old.fill c)
unfolding seen
seen-even S c d e = by (flag_at S d) e
  where
    by : (f : ℕ) → by_flag f (S.old.fill d ≡ S.old.fill c) (S.old.fill d ≡ S.old.fill c) (S.old.fill d ≡ S.old.fill c) Unit
        → by_flag f (pos (S.old.fill d)) (pos (S.old.fill d)) (pos (S.old.fill d)) (pos (S.old.fill c)) ≡ pos (S.old.fill c)
    by zero p = ap pos p
    by (suc zero) p = ap pos p
    by (suc (suc zero)) p = ap pos p
    by (suc (suc (suc n))) p = refl

less-itself : (z : ℤ) → z -ℤ z ≡ pos 0
less-itself z = ring-by (z ∷ []) (search quotes depth 20) (search quotes depth 20) tt

-- along one axis, as between two walls
pub flat : (S : Scene) (c m p : ℕ) → Even S c m → Even S c p → seen S c m -ℤ seen S c p ≡ pos 0
flat S c m p e g = ap₂ (λ (a b : ℤ). a -ℤ b) (seen-even S c m e) (seen-even S c p g) ∙ less-itself (pos (S.old.fill c))

-- along all three
pub level : (S : Scene) (c : ℕ) → Level S c → normal S c ≡ record { x = pos 0; y = pos 0; z = pos 0 }
unfolding normal
level S c l i = record {
  x = flat S c (near S c S.lat.xm) (near S c S.lat.xp) l.xm l.xp i;
  y = flat S c (near S c S.lat.ym) (near S c S.lat.yp) l.ym l.yp i;
  z = flat S c (near S c S.lat.zm) (near S c S.lat.zp) l.zm l.zp i;
}
