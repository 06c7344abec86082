-- What the collisions of a cell share, and what a pair of opposite parts becomes by the divider. Assumes nothing.
use Rattle.std.specs.Prelude.{◌≡◌, ◌≤◌, ℤ, pos, negsuc, nat_abs, ◌+ℤ◌, ◌-ℤ◌, ◌*ℤ◌, ◌≤ℤ◌}
use Rattle.std.specs.Int.Signed.{quot_z}
use Rattle.whole.specs.laws.Machine.{Within}
use Rattle.lattice.specs.declared.Flow.{Flow}
use Rattle.lattice.specs.Lattice.{dot}
use Rattle.lattice.specs.inner.Held.{vec}
use Rattle.landings.specs.declared.pairs.Common.{Common}
use Rattle.landings.specs.declared.pairs.Pair.{Pair}

-- stage 4: what the collisions of a cell share is worked out from its flow and the relaxation
pub record CommonIs (v : Flow) (relaxation : ℤ) (k : Common) : Type 0 where
  pub base : k.base ≡ pos 2 *ℤ (v.rho *ℤ v.rho) -ℤ pos 3 *ℤ dot (vec v) (vec v)
  pub six : k.six ≡ negsuc 5 *ℤ v.rho
  pub seventy : k.seventy ≡ negsuc 71 *ℤ v.rho
  pub den : k.den ≡ pos 73728 *ℤ v.rho
  pub p : k.p ≡ relaxation

-- its bounds, for a tame flow: every product of a collision fits
pub record Ready (k : Common) : Type 0 where
  pub base : Within k.base 4174708211712
  pub six : Within k.six 7077888
  pub seventy : Within k.seventy 84934656
  pub deep : 21233664 ≤ nat_abs k.seventy
  pub low : pos 21743271936 ≤ℤ k.den
  pub den : Within k.den 86973087744
  pub p : Within k.p 2037

-- a part, grown by the cut quotient
abbrev pub grown : ℤ → ℤ → ℤ → Common → ℤ
grown f w q k = f +ℤ quot_z (k.p *ℤ (w *ℤ q +ℤ k.seventy *ℤ f)) k.den

-- a pair of opposite parts: the even part of Q with the odd one taken away and added
pub record Paired (f g w d : ℤ) (k : Common) (r : Pair) : Type 0 where
  pub a : r.a ≡ grown f w (k.base +ℤ pos 9 *ℤ d *ℤ d -ℤ k.six *ℤ d) k
  pub b : r.b ≡ grown g w (k.base +ℤ pos 9 *ℤ d *ℤ d +ℤ k.six *ℤ d) k
  pub a_in : Within r.a 33554432
  pub b-in : Within r.b 33554432
