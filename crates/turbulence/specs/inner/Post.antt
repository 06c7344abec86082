-- What the code promises of a value with several fields, and what it asks of one. Assumes nothing.
use Rattle.std.specs.Prelude.{◌≡◌, ℕ, ◌+◌, ◌*◌, ◌-◌, ◌/◌, ◌≤◌, ◌<◌, ℤ, pos, nat_abs, ◌+ℤ◌, ◌-ℤ◌, ◌*ℤ◌, ◌≤ℤ◌}
use Rattle.whole.specs.laws.Machine.{Within}
use Rattle.lattice.specs.declared.Flow.{Flow}
use Rattle.lattice.specs.Lattice.{dot}
use Rattle.lattice.specs.inner.Held.{vec}
use Rattle.turbulence.specs.declared.stress.Shared.{Shared}
use Rattle.turbulence.specs.declared.stress.Nine.{Nine}
use Rattle.turbulence.specs.Turbulence.{square, own}

-- what the pairs of a cell share: 2ρ² − 3|j|², 6ρ, and floor(2^43/6ρ)
pub record SharedIs (v : Flow) (k : Shared) : Type 0 where
  pub base : k.base ≡ pos 2 *ℤ (v.rho *ℤ v.rho) -ℤ pos 3 *ℤ dot (vec v) (vec v)
  pub den : k.den ≡ 6 * nat_abs v.rho
  pub low : k.inv * k.den ≤ 8796093022208
  pub high : 8796093022208 < (k.inv + 1) * k.den

-- the part of Q that opposite directions share
abbrev pub even_of : ℤ → Shared → ℤ
even_of d k = k.base +ℤ pos 9 *ℤ d *ℤ d

-- its quotient by 6ρ
abbrev pub even_share : ℤ → Shared → ℕ
even_share d k = nat_abs (even_of d k) / k.den

-- a momentum e·j that a pair can be worked out with
pub record Apt (d : ℤ) (k : Shared) : Type 0 where
  pub near : Within d 1179648
  pub base : Within k.base 4174708211712
  pub den : k.den ≤ 7077888
  pub some : 0 < k.den
  pub low : k.inv * k.den ≤ 8796093022208
  pub high : 8796093022208 < (k.inv + 1) * k.den
  pub up : pos 0 ≤ℤ even_of d k
  pub most : nat_abs (even_of d k) ≤ 1179648 * k.den
  pub few : nat_abs (even_of d k) ≤ 8796093022208
  pub above : k.den * nat_abs d ≤ nat_abs (even_of d k)

-- two opposite parts of the equilibrium together, with the weight n twelfths
abbrev pub pair_of : ℤ → Shared → ℕ → ℤ
pair_of d k n = pos (nat_abs (pos (even_share d k) +ℤ d) / n + nat_abs (pos (even_share d k) -ℤ d) / n)

-- g of pair h: of directions 2h + 1 and 2h + 2
abbrev pub both : (ℕ → ℤ) → ℕ → ℤ
both g h = g (2 * h + 1) +ℤ g (2 * h + 2)

-- the nine pairs of g, in the order of the directions
pub record NineIs (g : ℕ → ℤ) (r : Nine) : Type 0 where
  pub x : r.x ≡ both g 0
  pub y : r.y ≡ both g 1
  pub z : r.z ≡ both g 2
  pub xy : r.xy ≡ both g 3
  pub yx : r.yx ≡ both g 4
  pub yz : r.yz ≡ both g 5
  pub zy : r.zy ≡ both g 6
  pub xz : r.xz ≡ both g 7
  pub zx : r.zx ≡ both g 8

-- each within 2^23
pub record Small (r : Nine) : Type 0 where
  pub x : Within r.x 8388608
  pub y : Within r.y 8388608
  pub z : Within r.z 8388608
  pub xy : Within r.xy 8388608
  pub yx : Within r.yx 8388608
  pub yz : Within r.yz 8388608
  pub zy : Within r.zy 8388608
  pub xz : Within r.xz 8388608
  pub zx : Within r.zx 8388608

-- T by pairs
abbrev pub tension_of : Nine → ℕ
tension_of n =
    square (n.x +ℤ n.xy +ℤ n.yx +ℤ n.xz +ℤ n.zx)
    + square (n.y +ℤ n.xy +ℤ n.yx +ℤ n.yz +ℤ n.zy)
    + square (n.z +ℤ n.yz +ℤ n.zy +ℤ n.xz +ℤ n.zx)
    + 2 * (square (n.xy -ℤ n.yx) + square (n.yz -ℤ n.zy) + square (n.xz -ℤ n.zx))

-- a tension below 2^60 that keeps p
pub record Keeps (p k : ℕ) : Type 0 where
  pub is : own p k ≡ p
  pub most : k < 1152921504606846976
