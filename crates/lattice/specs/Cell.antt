-- The formulas of one cell: document 01's arithmetic on numbers. Nothing here knows a grid. Assumes nothing.
use Rattle.std.specs.Prelude.{ℕ, zero, suc, ◌+◌, ◌*◌, ◌/◌, min, Bool, true, false, ◌&&◌, cond, ℤ, pos, negsuc, neg_ℤ, nat_abs, ◌+ℤ◌, ◌-ℤ◌, ◌*ℤ◌, eqb, leb}
use Rattle.std.specs.Int.Signed.{lt_z, le_z, quot_z, shr_z}
use Rattle.whole.specs.Fold.{dirs, first}

-- "cut" means rounded towards zero; the floor is rounded down
abbrev pub cut : ℤ → ℤ → ℤ
cut a b = quot_z a b

abbrev pub floor : ℤ → ℕ → ℤ
floor a n = shr_z a n

-- ---- the ranges of a good state and of the settings

-- a part within ±1,179,648
abbrev pub part_good : ℤ → Bool
part_good f = leb (nat_abs f) 1179648

-- ρ in 294,912..1,179,648
unfoldable pub dense : ℤ → Bool
dense ρ = le_z (pos 294912) ρ && le_z ρ (pos 1179648)

-- 9·|j|² ≤ ρ²
unfoldable pub slow : ℤ → ℤ → Bool
slow ρ jj = le_z (pos 9 *ℤ jj) (ρ *ℤ ρ)

-- an interface mass within ±2,359,296
abbrev pub mass_good : ℤ → Bool
mass_good m = leb (nat_abs m) 2359296

-- the carry within ±10^12
abbrev pub carry_good : ℤ → Bool
carry_good k = leb (nat_abs k) 1000000000000

-- relaxation p in 1..2037
abbrev pub relaxation_good : ℤ → Bool
relaxation_good p = le_z (pos 1) p && le_z p (pos 2037)

-- gx² + gy² + gz² ≤ 1,099,511
unfoldable pub gravity_good : ℤ → ℤ → ℤ → Bool
gravity_good gx gy gz = le_z (gx *ℤ gx +ℤ gy *ℤ gy +ℤ gz *ℤ gz) (pos 1099511)

-- cell edge 1..1000 mm
abbrev pub edge_good : ℤ → Bool
edge_good e = le_z (pos 1) e && le_z e (pos 1000)

-- an origin or point coordinate within ±10^10 mm
abbrev pub coordinate_good : ℤ → Bool
coordinate_good x = le_z (negsuc 9999999999) x && le_z x (pos 10000000000)

-- ---- the stages

-- stage 1, where a part is rebuilt: cut(w·16,384·(2ρ² + 9(e·j)² − 3j²)/ρ²), what both opposite parts add up to
unfoldable pub gas_pair : ℕ → ℤ → ℤ → ℤ → ℤ
gas_pair w ρ ej jj = cut (pos (w * 16384) *ℤ (pos 2 *ℤ (ρ *ℤ ρ) +ℤ pos 9 *ℤ (ej *ℤ ej) -ℤ pos 3 *ℤ jj)) (ρ *ℤ ρ)

-- stage 2, between two interface cells with fills that add up to φ: cut(φ·d/131,072)
unfoldable pub exchange : ℕ → ℤ → ℤ
exchange φ d = cut (pos φ *ℤ d) (pos 131072)

-- stage 3: cut(ρ'·g/1,048,576)
unfoldable pub pull : ℤ → ℤ → ℤ
pull ρ g = cut (ρ *ℤ g) (pos 1048576)

-- stage 4: Q = 2ρ² + 6ρ(e·j) + 9(e·j)² − 3|j|²
unfoldable pub quad : ℤ → ℤ → ℤ → ℤ
quad ρ ej jj = pos 2 *ℤ (ρ *ℤ ρ) +ℤ pos 6 *ℤ (ρ *ℤ ej) +ℤ pos 9 *ℤ (ej *ℤ ej) -ℤ pos 3 *ℤ jj

-- stage 4: a part grows by cut(p(w·Q − 72ρ'·f)/(73,728·ρ'))
unfoldable pub relaxed : ℤ → ℕ → ℤ → ℤ → ℤ → ℤ
relaxed p w Q ρ f = f +ℤ cut (p *ℤ (pos w *ℤ Q -ℤ pos 72 *ℤ (ρ *ℤ f))) (pos 73728 *ℤ ρ)

-- stage 5: 1000m > 1001ρ', and 1000m < −ρ'
unfoldable pub over : ℤ → ℤ → Bool
over m ρ = lt_z (pos 1001 *ℤ ρ) (pos 1000 *ℤ m)

unfoldable pub under : ℤ → ℤ → Bool
under m ρ = lt_z (pos 1000 *ℤ m) (neg_ℤ ρ)

-- stage 5: a part of a new interface cell, cut(w·Q/(72ρ))
unfoldable pub cut_equilibrium : ℕ → ℤ → ℤ → ℤ
cut_equilibrium w Q ρ = cut (pos w *ℤ Q) (pos 72 *ℤ ρ)

-- stage 6: a number where it is positive, else 0
abbrev pub positive : ℤ → ℤ
positive (pos n) = pos n
positive (negsuc n) = pos 0

abbrev pub is_positive : ℤ → Bool
is_positive (pos zero) = false
is_positive (pos (suc n)) = true
is_positive (negsuc n) = false

-- stage 6: the excess x over directions 1 to q with weights w. Each gets its cut share of the total weight
unfoldable pub cut_share : ℕ → ℤ → (ℕ → ℤ) → ℕ → ℤ
cut_share q x w k = cut (x *ℤ w k) (dirs q w)

-- what the cut shares leave of the excess
unfoldable pub remainder : ℕ → ℤ → (ℕ → ℤ) → ℤ
remainder q x w = x -ℤ dirs q (cut_share q x w)

-- the lowest direction with positive weight
unfoldable pub lowest_dir : ℕ → (ℕ → ℤ) → ℕ
lowest_dir q w = suc (first q (λ a. is_positive (w (suc a))))

-- the share of direction k: the remainder goes to the lowest direction with positive weight
unfoldable pub share : ℕ → ℤ → (ℕ → ℤ) → ℕ → ℤ
share q x w k = cut_share q x w k +ℤ cond (eqb k (lowest_dir q w)) (remainder q x w) (pos 0)

-- the fill of an interface cell: floor(65,536·m/ρ) held to 0..65,536
abbrev pub fill_of : ℤ → ℤ → ℕ
fill_of (pos m) (pos ρ) = min 65536 (65536 * m / ρ)
fill_of (pos m) (negsuc r) = 0
fill_of (negsuc m) ρ = 0

-- names every definition of this file: whoever unfolds this computes with all of them
unfoldable pub open-cell : Unit {0}
unfolding dense slow gravity_good gas_pair exchange pull quad relaxed over under cut_equilibrium cut_share remainder lowest_dir share
open-cell = tt
