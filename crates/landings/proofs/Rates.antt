-- What a steady flow tells of its rates: each loses little, and each is small. Assumes nothing.
use mathlib.Core.Path.{◌≡◌}
use mathlib.Core.Bool.{true}
use mathlib.Core.List.{[], ◌∷◌}
use Prim.Native.Nat.{ℕ, ◌+◌, ◌*◌, ◌<◌, ◌≤◌}
use native.Mathlib.Omega.{arith}
use lib.IntN.{ℤ, pos, neg_ℤ, nat_abs, ◌+ℤ◌, ◌-ℤ◌, ◌*ℤ◌}
use lib.Signed.{◌≤ℤ◌, shr_z}
use Rattle.whole.specs.laws.Bools.{and_right}
use Rattle.whole.specs.laws.Bounds.{abs-above}
use Rattle.whole.specs.laws.Ring.{ring-by, quotes}
use Rattle.whole.specs.laws.Order.{le_z-true, slow-x}
use Rattle.whole.specs.laws.Machine.{Within, v+, v*, vpos, within_by}
use Rattle.lattice.specs.declared.Flow.{Flow}
use Rattle.lattice.specs.Lattice.{dot}
use Rattle.lattice.specs.Cell.{dense, slow, relaxation_good}
use Rattle.lattice.specs.inner.Held.{vec, Tame, steady_flow}
use Rattle.lattice.proofs.Tame.{steady-tame}
use Rattle.lattice.proofs.Ranges.{relaxation-in}
use Rattle.lattice.proofs.Reading.{inside, num, v/num}
use Rattle.landings.specs.inner.Estimate.{inverse, third, speed, odd, even, energy}
use Rattle.landings.proofs.Loss.{floor-near, cut_left, Err, err+, err-neg, within-pos, within+, within-neg, within*, shifting, vshr, by}
use Rattle.landings.proofs.Bracket.{speed-near, squares-near, base-near, inverse_left, speed-in}

-- no component above a third of the density
pub record Calm (v : Flow) : Type 0 where
  pub tame : Tame v
  pub slow : (pos 9 *ℤ dot (vec v) (vec v)) ≤ℤ (v.rho *ℤ v.rho)
  pub x : 3 * nat_abs v.x ≤ nat_abs v.rho
  pub y : 3 * nat_abs v.y ≤ nat_abs v.rho
  pub z : 3 * nat_abs v.z ≤ nat_abs v.rho
  pub some : 0 < nat_abs v.rho

pub calm : (v : Flow) → steady_flow v ≡ true → Calm v
unfolding steady_flow slow
calm v e =
    let s : (pos 9 *ℤ dot (vec v) (vec v)) ≤ℤ (v.rho *ℤ v.rho) = le_z-true (and_right (dense v.rho) (slow v.rho (dot (vec v) (vec v))) e) in
    let t = steady-tame v e in
    record {
      tame = t;
      slow = s;
      x = slow-x v.x v.y v.z v.rho s;
      y = slow-x v.y v.x v.z v.rho (rw (swap-y v.x v.y v.z) at s);
      z = slow-x v.z v.x v.y v.rho (rw (swap-z v.x v.y v.z) at s);
      some = omega (arith, abs-above t.low);
    }
  where
    swap-y : (x y z : ℤ) → pos 9 *ℤ (x *ℤ x +ℤ y *ℤ y +ℤ z *ℤ z) ≡ pos 9 *ℤ (y *ℤ y +ℤ x *ℤ x +ℤ z *ℤ z)
    swap-y x y z = ring-by (x ∷ y ∷ z ∷ []) (search quotes depth 20) (search quotes depth 20) tt

    swap-z : (x y z : ℤ) → pos 9 *ℤ (x *ℤ x +ℤ y *ℤ y +ℤ z *ℤ z) ≡ pos 9 *ℤ (z *ℤ z +ℤ x *ℤ x +ℤ y *ℤ y)
    swap-z x y z = ring-by (x ∷ y ∷ z ∷ []) (search quotes depth 20) (search quotes depth 20) tt

-- e·j = d with its speed and its odd part, as m components together
pub record Slope (p ρ d v o : ℤ) (m : ℕ) : Type 0 where
  pub far : Within d (m * 393216)
  pub speed : Err (pos 4 *ℤ (p *ℤ d *ℤ pos 8589934592 -ℤ ρ *ℤ v)) (nat_abs ρ) (m * 7)
  pub odd : Within (p *ℤ d *ℤ pos 34359738368 -ℤ pos 96 *ℤ o) (m * 786525)

module _ (p ρ x : ℤ) (hp : Within p 2037) (hx : Within x 393216) (slow : 3 * nat_abs x ≤ nat_abs ρ) (some : 0 < nat_abs ρ) where
  speed-err : Err (pos 4 *ℤ (p *ℤ x *ℤ pos 8589934592 -ℤ ρ *ℤ speed p ρ x)) (nat_abs ρ) 7
  unfolding speed
  speed-err = speed-near p ρ x (inverse p ρ) (speed p ρ x) hx (inverse_left p ρ x hp slow some) (floor-near (x *ℤ inverse p ρ) 524287)

  speed-within : Within (speed p ρ x) 5832565587969
  speed-within = speed-in p ρ x hp slow (speed p ρ x) some speed-err

  odd_is : x *ℤ (p *ℤ pos 34359738368 -ℤ pos 3 *ℤ third p) +ℤ pos 3 *ℤ (x *ℤ third p -ℤ pos 32 *ℤ odd p x) ≡ p *ℤ x *ℤ pos 34359738368 -ℤ pos 96 *ℤ odd p x
  odd_is = go p x (third p) (odd p x)
    where
      go : (p x c o : ℤ) → x *ℤ (p *ℤ pos 34359738368 -ℤ pos 3 *ℤ c) +ℤ pos 3 *ℤ (x *ℤ c -ℤ pos 32 *ℤ o) ≡ p *ℤ x *ℤ pos 34359738368 -ℤ pos 96 *ℤ o
      go p x c o = ring-by (p ∷ x ∷ c ∷ o ∷ []) (search quotes depth 20) (search quotes depth 20) tt

  odd-err : Within (p *ℤ x *ℤ pos 34359738368 -ℤ pos 96 *ℤ odd p x) 786525
  unfolding odd
  odd-err = rw odd_is at (within+ (within* hx (cut_left (p *ℤ pos 34359738368) 2)) (within* (within-pos 3) (floor-near (x *ℤ third p) 31)))

  odd-within : Within (odd p x) 286690000000000000
  unfolding odd
  odd-within = within_by (vshr {k = 32} (v* (inside hx) (v/num (v* (inside hp) vpos) num)) (by tt)) tt

  slope : Slope p ρ x (speed p ρ x) (odd p x) 1
  slope = record { far = hx; speed = speed-err; odd = odd-err }

-- the opposite direction, and two together
module _ (p ρ : ℤ) where
  pub turned : {d v o : ℤ} {m : ℕ} → Slope p ρ d v o m → Slope p ρ (neg_ℤ d) (neg_ℤ v) (neg_ℤ o) m
  turned {d} {v} {o} s =
      record {
        far = within-neg s.far;
        speed = rw (go-v p ρ d v) at (err-neg s.speed);
        odd = rw (go-o p d o) at (within-neg s.odd);
      }
    where
      go-v : (p ρ d v : ℤ) → neg_ℤ (pos 4 *ℤ (p *ℤ d *ℤ pos 8589934592 -ℤ ρ *ℤ v)) ≡ pos 4 *ℤ (p *ℤ neg_ℤ d *ℤ pos 8589934592 -ℤ ρ *ℤ neg_ℤ v)
      go-v p ρ d v = ring-by (p ∷ ρ ∷ d ∷ v ∷ []) (search quotes depth 20) (search quotes depth 20) tt

      go-o : (p d o : ℤ) → neg_ℤ (p *ℤ d *ℤ pos 34359738368 -ℤ pos 96 *ℤ o) ≡ p *ℤ neg_ℤ d *ℤ pos 34359738368 -ℤ pos 96 *ℤ neg_ℤ o
      go-o p d o = ring-by (p ∷ d ∷ o ∷ []) (search quotes depth 20) (search quotes depth 20) tt

  pub joined : {d v o e w q : ℤ} → Slope p ρ d v o 1 → Slope p ρ e w q 1 → Slope p ρ (d +ℤ e) (v +ℤ w) (o +ℤ q) 2
  joined {d} {v} {o} {e} {w} {q} s t =
      record {
        far = within+ s.far t.far;
        speed = rw (go-v p ρ d v e w) at (err+ s.speed t.speed);
        odd = rw (go-o p d o e q) at (within+ s.odd t.odd);
      }
    where
      go-v : (p ρ d v e w : ℤ) → pos 4 *ℤ (p *ℤ d *ℤ pos 8589934592 -ℤ ρ *ℤ v) +ℤ pos 4 *ℤ (p *ℤ e *ℤ pos 8589934592 -ℤ ρ *ℤ w) ≡ pos 4 *ℤ (p *ℤ (d +ℤ e) *ℤ pos 8589934592 -ℤ ρ *ℤ (v +ℤ w))
      go-v p ρ d v e w = ring-by (p ∷ ρ ∷ d ∷ v ∷ e ∷ w ∷ []) (search quotes depth 20) (search quotes depth 20) tt

      go-o : (p d o e q : ℤ) → p *ℤ d *ℤ pos 34359738368 -ℤ pos 96 *ℤ o +ℤ (p *ℤ e *ℤ pos 34359738368 -ℤ pos 96 *ℤ q) ≡ p *ℤ (d +ℤ e) *ℤ pos 34359738368 -ℤ pos 96 *ℤ (o +ℤ q)
      go-o p d o e q = ring-by (p ∷ d ∷ o ∷ e ∷ q ∷ []) (search quotes depth 20) (search quotes depth 20) tt

-- ---- of a flow
pub record Fair (v : Flow) (p : ℤ) : Type 0 where
  pub steady : steady_flow v ≡ true
  pub good : relaxation_good p ≡ true

-- a component of the flow: what it loses, and its bounds
pub record Axis (p ρ d u o : ℤ) : Type 0 where
  pub slope : Slope p ρ d u o 1
  pub u-in : Within u 5832565587969
  pub o-in : Within o 286690000000000000

module _ {v : Flow} {p : ℤ} (g : Fair v p) where
  pub p-in : Within p 2037
  p-in = relaxation-in p g.good

  pub calm_of : Calm v
  calm_of = calm v g.steady

  axis : (x : ℤ) → Within x 393216 → 3 * nat_abs x ≤ nat_abs v.rho → Axis p v.rho x (speed p v.rho x) (odd p x)
  axis x h t =
      record {
        slope = slope p v.rho x p-in h t calm_of.some;
        u-in = speed-within p v.rho x p-in h t calm_of.some;
        o-in = odd-within p v.rho x p-in h t calm_of.some;
      }

  pub axis-x : Axis p v.rho v.x (speed p v.rho v.x) (odd p v.x)
  axis-x = axis v.x calm_of.tame.x calm_of.x

  pub axis-y : Axis p v.rho v.y (speed p v.rho v.y) (odd p v.y)
  axis-y = axis v.y calm_of.tame.y calm_of.y

  pub axis-z : Axis p v.rho v.z (speed p v.rho v.z) (odd p v.z)
  axis-z = axis v.z calm_of.tame.z calm_of.z

  pub energy-in : Within (energy p v) 6880374330716454912
  unfolding energy
  energy-in =
      within_by
      (v+ (v+ (v* (inside calm_of.tame.x) (inside axis-x.u-in)) (v* (inside calm_of.tame.y) (inside axis-y.u-in)))
      (v* (inside calm_of.tame.z) (inside axis-z.u-in)))
      tt

  pub base-in : Within (even p v.rho (energy p v)) 430100000000000000
  unfolding even
  base-in =
      let r = calm_of.tame.rho in
      let q = p-in in
      let t = energy-in in
      within_by (search shifting depth 20) tt

  pub base-err : Err (pos 4 *ℤ (pos 144 *ℤ (v.rho *ℤ even p v.rho (energy p v)) -ℤ p *ℤ pos 8589934592 *ℤ (pos 2 *ℤ (v.rho *ℤ v.rho) -ℤ pos 3 *ℤ dot (vec v) (vec v)))) (nat_abs v.rho) 24773300
  unfolding even energy
  base-err =
      base-near p v.rho (dot (vec v) (vec v)) (energy p v) (shr_z (energy p v) 16) (even p v.rho (energy p v))
      (squares-near p v.rho v.x v.y v.z (speed p v.rho v.x) (speed p v.rho v.y) (speed p v.rho v.z)
      calm_of.tame.x calm_of.tame.y calm_of.tame.z axis-x.slope.speed axis-y.slope.speed axis-z.slope.speed)
      (floor-near (energy p v) 15)
      (cut_left (p *ℤ v.rho *ℤ pos 1073741824 -ℤ pos 3 *ℤ shr_z (energy p v) 16) 8)
