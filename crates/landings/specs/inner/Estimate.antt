-- The estimate of p times a cell's equilibrium parts, where a part lands by it, and whether it tells. Everything is in 2^-32, or 2^-33 where said.
-- Assumes nothing.
use Rattle.std.specs.Prelude.{◌≡◌, Bool, cond, List, ℕ, suc, ◌+◌, ◌*◌, ◌/◌, ◌<◌, ◌≤◌, ℤ, pos, nat_abs, ◌+ℤ◌, ◌-ℤ◌, ◌*ℤ◌, ◌<ℤ◌, get_or}
use Rattle.std.specs.Int.Signed.{lt_z, quot_z, shr_z}
use Rattle.whole.specs.laws.Machine.{Within}
use Rattle.lattice.specs.declared.Flow.{Flow}
use Rattle.lattice.specs.Lattice.{dot, Lattice, d3q19}
use Rattle.lattice.specs.Cell.{quad}
use Rattle.lattice.specs.inner.Held.{parts_of, vec}
use Rattle.lattice.specs.Body.{eq_z}
use Rattle.landings.specs.declared.estimate.Rates.{Rates}
use Rattle.landings.specs.declared.estimate.Two.{Two}
use Rattle.landings.specs.declared.estimate.Four.{Four}

-- p·2^52/ρ and p·2^35/3, cut
abbrev pub inverse : ℤ → ℤ → ℤ
inverse p ρ = quot_z (p *ℤ pos 4503599627370496) ρ

abbrev pub third : ℤ → ℤ
third p = quot_z (p *ℤ pos 34359738368) (pos 3)

-- p·x/ρ in 2^-33
unfoldable pub speed : ℤ → ℤ → ℤ → ℤ
speed p ρ x = shr_z (x *ℤ inverse p ρ) 524288

-- p·x/12
unfoldable pub odd : ℤ → ℤ → ℤ
odd p x = shr_z (x *ℤ third p) 32

-- p·(2ρ² − 3|j|²)/72ρ, with t for p·|j|²/ρ in 2^-33
unfoldable pub even : ℤ → ℤ → ℤ → ℤ
even p ρ t = quot_z (p *ℤ ρ *ℤ pos 1073741824 -ℤ pos 3 *ℤ shr_z t 16) (pos 9)

-- p·|j|²/ρ in 2^-33
unfoldable pub energy : ℤ → Flow → ℤ
energy p v = v.x *ℤ speed p v.rho v.x +ℤ v.y *ℤ speed p v.rho v.y +ℤ v.z *ℤ speed p v.rho v.z

pub record RatesAre (v : Flow) (p : ℤ) (k : Rates) : Type 0 where
  pub vx : k.vx ≡ speed p v.rho v.x
  pub vy : k.vy ≡ speed p v.rho v.y
  pub vz : k.vz ≡ speed p v.rho v.z
  pub ox : k.ox ≡ odd p v.x
  pub oy : k.oy ≡ odd p v.y
  pub oz : k.oz ≡ odd p v.z
  pub base : k.base ≡ even p v.rho (energy p v)

-- the ends of a direction with e·j = d, speed v and odd part o, and of its opposite: 2^18 is what the estimate may lack
unfoldable pub axis_end : ℤ → ℤ → ℤ → ℤ → ℤ
axis_end d v o b = b +ℤ (b -ℤ pos 262144) +ℤ shr_z (d *ℤ v) 8 +ℤ pos 2 *ℤ o

unfoldable pub axis_back : ℤ → ℤ → ℤ → ℤ → ℤ
axis_back d v o b = b +ℤ (b -ℤ pos 262144) +ℤ shr_z (d *ℤ v) 8 -ℤ pos 2 *ℤ o

unfoldable pub diagonal_end : ℤ → ℤ → ℤ → ℤ → ℤ
diagonal_end d v o b = b -ℤ pos 262144 +ℤ shr_z (d *ℤ v) 16 +ℤ o

unfoldable pub diagonal_back : ℤ → ℤ → ℤ → ℤ → ℤ
diagonal_back d v o b = b -ℤ pos 262144 +ℤ shr_z (d *ℤ v) 16 -ℤ o

-- a number that is the end z, below 2^61
pub record EndIs (z : ℤ) (e : ℕ) : Type 0 where
  pub is : pos e ≡ z
  pub most : e < 2305843009213693952

pub record EndsAre (to back : ℤ) (r : Two) : Type 0 where
  pub a : EndIs to r.a
  pub b : EndIs back r.b

pub record CrossedAre (x y vx vy ox oy base : ℤ) (r : Four) : Type 0 where
  pub a : EndIs (diagonal_end (x +ℤ y) (vx +ℤ vy) (ox +ℤ oy) base) r.a
  pub b : EndIs (diagonal_back (x +ℤ y) (vx +ℤ vy) (ox +ℤ oy) base) r.b
  pub c : EndIs (diagonal_end (x -ℤ y) (vx -ℤ vy) (ox -ℤ oy) base) r.c
  pub d : EndIs (diagonal_back (x -ℤ y) (vx -ℤ vy) (ox -ℤ oy) base) r.d

-- p·w·Q of a lattice's direction i
unfoldable pub weighed : Lattice → Flow → ℤ → ℕ → ℤ
weighed L v p i = p *ℤ (pos (L.weight i) *ℤ quad v.rho (dot (L.e i) (vec v)) (dot (vec v) (vec v)))

-- its end e, where the estimate lacks less than k: e·72ρ < p·w·Q·2^32 < (e + k)·72ρ
pub record Near (L : Lattice) (k : ℕ) (v : Flow) (p : ℤ) (i e : ℕ) : Type 0 where
  pub low : (pos 72 *ℤ (v.rho *ℤ pos e)) <ℤ (weighed L v p i *ℤ pos 4294967296)
  pub high : (weighed L v p i *ℤ pos 4294967296) <ℤ (pos 72 *ℤ (v.rho *ℤ pos e +ℤ pos k *ℤ v.rho))

-- document 01's eighteen, which lack less than 2^19 and are below 2^61
pub record EndsNear (v : Flow) (p : ℤ) (e : List ℕ) : Type 0 where
  pub at : (k : ℕ) → k < 18 → Near d3q19 524288 v p (suc k) (get_or e k 0)
  pub most : (k : ℕ) → k < 18 → get_or e k 0 < 2305843009213693952

-- 1024 times what part f tends to whose end is e, with c = 1024 − p; and numbers of which it fits 32 bits with one more
abbrev pub mixed : ℕ → ℤ → ℤ → ℤ
mixed e f c = pos (e / 4294967296) +ℤ c *ℤ f

pub record Mixes (e : ℕ) (f c : ℤ) : Type 0 where
  pub fit : e / 4294967296 + 1023 * nat_abs f ≤ 2147483646
  pub part : Within f 1572864
  pub own : Within c 1023

-- where it lands
unfoldable pub landed : ℕ → ℤ → ℤ → ℤ
landed e f c = cond (lt_z (shr_z (mixed e f c) 1024) f) (shr_z (mixed e f c) 1024 +ℤ pos 1) (shr_z (mixed e f c) 1024)

-- one more would not move it: that is the most by which the end, cut, may lie below the true number, cut
unfoldable pub tells : ℕ → ℤ → ℤ → Bool
tells e f c = eq_z (shr_z (mixed e f c) 1024) (shr_z (mixed e f c +ℤ pos 1) 1024)

-- of end k and its part
abbrev pub tells_at : List ℕ → List ℤ → ℤ → ℕ → Bool
tells_at e f c k = tells (get_or e k 0) (parts_of f (suc k)) c
