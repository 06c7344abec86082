-- The eighteen ends of a steady flow: each brackets p·w·Q of its direction, and none is negative. Assumes nothing.
use mathlib.Core.Path.{◌≡◌, refl, sym, ap₂, subst}
use mathlib.Core.List.{[], ◌∷◌}
use Prim.Native.Nat.{ℕ, ◌+◌, ◌*◌, ◌<◌, ◌≤◌}
use native.Mathlib.Nat.{mul-le-mul_right}
use native.Mathlib.Omega.{arith}
use lib.Dec.{T, leb, leb→le}
use lib.IntN.{ℤ, pos, negsuc, neg_ℤ, nat_abs, ◌+ℤ◌, ◌-ℤ◌, ◌*ℤ◌}
use lib.Signed.{◌≤ℤ◌, ◌<ℤ◌, le_z, shr_z}
use Rattle.whole.specs.laws.Bools.{and_left}
use Rattle.whole.specs.laws.Bounds.{abs-above}
use Rattle.whole.specs.laws.Ring.{ring-by, quotes}
use Rattle.whole.specs.laws.Order.{le_z-true}
use Rattle.whole.specs.laws.Machine.{Within}
use Rattle.lattice.specs.declared.Flow.{Flow}
use Rattle.lattice.specs.Lattice.{dot, Lattice}
use Rattle.lattice.specs.Cell.{quad}
use Rattle.lattice.specs.inner.Held.{vec}
use Rattle.landings.specs.inner.Estimate.{even, energy, EndsAre, CrossedAre, axis_end, axis_back, diagonal_end, diagonal_back, EndIs, weighed, Near}
use Rattle.landings.specs.declared.estimate.Two.{Two}
use Rattle.landings.specs.declared.estimate.Four.{Four}
use Rattle.landings.proofs.Loss.{Err, floor-near}
use Rattle.landings.proofs.Bracket.{axis-err, diag-err, end_below, end-above, deep, scaled, not_negative}
use Rattle.landings.proofs.Rates.{Slope, turned, joined, Fair, Axis, calm_of, base-in, base-err}

-- e is an end of n over 72ρ
pub record Brackets (ρ n e : ℤ) : Type 0 where
  pub low : (pos 72 *ℤ (ρ *ℤ e)) <ℤ (n *ℤ pos 4294967296)
  pub high : (n *ℤ pos 4294967296) <ℤ (pos 72 *ℤ (ρ *ℤ e +ℤ pos 524288 *ℤ ρ))
  pub some : pos 0 ≤ℤ e

of-nat : (r : ℕ) (n e : ℤ) → 294912 ≤ r → Err (pos 1152 *ℤ (pos r *ℤ e) +ℤ pos 301989888 *ℤ pos r -ℤ n *ℤ pos 68719476736) r 301989887
    → (pos 2 *ℤ (pos r *ℤ pos r)) ≤ℤ (pos 3 *ℤ n) → Brackets (pos r) n e
of-nat r n e low err big =
    let h = end-above (pos r *ℤ e) n r (omega arith) err.abs in
    record { low = end_below (pos r *ℤ e) n r (omega arith) err.abs; high = h; some = not_negative e n r low big h }

brackets : (ρ n e : ℤ) {k : ℕ} → pos 294912 ≤ℤ ρ → Err (pos 1152 *ℤ (ρ *ℤ e) +ℤ pos 301989888 *ℤ ρ -ℤ n *ℤ pos 68719476736) (nat_abs ρ) k → T (leb k 301989887)
    → (pos 2 *ℤ (ρ *ℤ ρ)) ≤ℤ (pos 3 *ℤ n) → Brackets ρ n e
brackets (pos r) n e {k} low err t big =
    of-nat r n e (abs-above low) (record { abs = omega (arith, err.abs, mul-le-mul_right r (leb→le k 301989887 t)) }) big
brackets (negsuc r) n e low err t big = absurd low.le

large : (p q ρ : ℤ) (w : ℕ) → pos 1 ≤ℤ p → 0 < w → (pos 2 *ℤ (ρ *ℤ ρ)) ≤ℤ (pos 3 *ℤ q) → (pos 2 *ℤ (ρ *ℤ ρ)) ≤ℤ (pos 3 *ℤ (p *ℤ (pos w *ℤ q)))
large (pos n) q ρ w h k b = scaled n w q ρ (abs-above h) k b
large (negsuc n) q ρ w h k b = absurd h.le

same-product : (d v : ℤ) → neg_ℤ d *ℤ neg_ℤ v ≡ d *ℤ v
same-product d v = ring-by (d ∷ v ∷ []) (search quotes depth 20) (search quotes depth 20) tt

axis-back : (d v o b : ℤ) → axis_end (neg_ℤ d) (neg_ℤ v) (neg_ℤ o) b ≡ axis_back d v o b
unfolding axis_end axis_back
axis-back d v o b = rw (same-product d v) (go b (shr_z (d *ℤ v) 8) o)
  where
    go : (b h o : ℤ) → b +ℤ (b -ℤ pos 262144) +ℤ h +ℤ pos 2 *ℤ neg_ℤ o ≡ b +ℤ (b -ℤ pos 262144) +ℤ h -ℤ pos 2 *ℤ o
    go b h o = ring-by (b ∷ h ∷ o ∷ []) (search quotes depth 20) (search quotes depth 20) tt

diagonal-back : (d v o b : ℤ) → diagonal_end (neg_ℤ d) (neg_ℤ v) (neg_ℤ o) b ≡ diagonal_back d v o b
unfolding diagonal_end diagonal_back
diagonal-back d v o b = rw (same-product d v) refl

module _ {v : Flow} {p : ℤ} (g : Fair v p) where
  abbrev ρ : ℤ
  ρ = v.rho

  abbrev J : ℤ
  J = dot (vec v) (vec v)

  abbrev b : ℤ
  b = even p ρ (energy p v)

  -- p·w·Q for e·j = d
  abbrev pub share : ℕ → ℤ → ℤ
  share w d = p *ℤ (pos w *ℤ (pos 2 *ℤ (ρ *ℤ ρ) +ℤ pos 6 *ℤ (ρ *ℤ d) +ℤ pos 9 *ℤ (d *ℤ d) -ℤ pos 3 *ℤ J))

  big : (w : ℕ) (d : ℤ) → 0 < w → (pos 2 *ℤ (ρ *ℤ ρ)) ≤ℤ (pos 3 *ℤ share w d)
  big w d h = large p (pos 2 *ℤ (ρ *ℤ ρ) +ℤ pos 6 *ℤ (ρ *ℤ d) +ℤ pos 9 *ℤ (d *ℤ d) -ℤ pos 3 *ℤ J) ρ w (le_z-true (and_left (le_z (pos 1) p) (le_z p (pos 2037)) g.good)) h (deep ρ d J (calm_of g).slow)

  pub axis-to : {d u o : ℤ} → Slope p ρ d u o 1 → Brackets ρ (share 2 d) (axis_end d u o b)
  unfolding axis_end
  axis-to {d} {u} {o} s =
      brackets ρ (share 2 d) (b +ℤ (b -ℤ pos 262144) +ℤ shr_z (d *ℤ u) 8 +ℤ pos 2 *ℤ o) (calm_of g).tame.low
      (axis-err p ρ d u b (shr_z (d *ℤ u) 8) o J s.far (base-err g) s.speed (floor-near (d *ℤ u) 7) s.odd)
      tt (big 2 d (omega arith))

  pub diagonal-to : {d u o : ℤ} → Slope p ρ d u o 2 → Brackets ρ (share 1 d) (diagonal_end d u o b)
  unfolding diagonal_end
  diagonal-to {d} {u} {o} s =
      brackets ρ (share 1 d) (b -ℤ pos 262144 +ℤ shr_z (d *ℤ u) 16 +ℤ o) (calm_of g).tame.low
      (diag-err p ρ d u b (shr_z (d *ℤ u) 16) o J s.far (base-err g) s.speed (floor-near (d *ℤ u) 15) s.odd)
      tt (big 1 d (omega arith))

  pub axis-fro : {d u o : ℤ} → Slope p ρ d u o 1 → Brackets ρ (share 2 (neg_ℤ d)) (axis_back d u o b)
  axis-fro {d} {u} {o} s = subst (Brackets ρ (share 2 (neg_ℤ d))) (axis-back d u o b) (axis-to (turned p ρ s))

  pub diagonal-fro : {d u o : ℤ} → Slope p ρ d u o 2 → Brackets ρ (share 1 (neg_ℤ d)) (diagonal_back d u o b)
  diagonal-fro {d} {u} {o} s = subst (Brackets ρ (share 1 (neg_ℤ d))) (diagonal-back d u o b) (diagonal-to (turned p ρ s))

  -- an end of a lattice's direction i
  pub near : (L : Lattice) (i w : ℕ) (d : ℤ) {z : ℤ} {e : ℕ} → L.weight i ≡ w → dot (L.e i) (vec v) ≡ d → Brackets ρ (share w d) z → EndIs z e → Near L 524288 v p i e
  unfolding weighed quad
  near L i w d {z} {e} hw hd h s =
      let n : weighed L v p i ≡ share w d = ap₂ (λ (m : ℕ) (t : ℤ). p *ℤ (pos m *ℤ (pos 2 *ℤ (ρ *ℤ ρ) +ℤ pos 6 *ℤ (ρ *ℤ t) +ℤ pos 9 *ℤ (t *ℤ t) -ℤ pos 3 *ℤ J))) hw hd in
      let k : Brackets ρ (weighed L v p i) (pos e) = subst (λ (m : ℤ). Brackets ρ m (pos e)) (sym n) (subst (Brackets ρ (share w d)) (sym s.is) h) in
      record { low = k.low; high = k.high }

  -- what the code asks of an axis and of two that cross, with the machine's d', u', o' and b' for d, u, o and b
  module _ {d u o : ℤ} (x : Axis p ρ d u o) {d' u' o' b' : ℤ} (ed : d' ≡ d) (eu : u' ≡ u) (eo : o' ≡ o) (eb : b' ≡ b) where
    pub asks-axis : (Within d' 393216 × Within u' 5832565587969 × Within o' 286690000000000000 × Within b' 430100000000000000) × ((pos 0 ≤ℤ axis_end d' u' o' b') × (pos 0 ≤ℤ axis_back d' u' o' b'))
    asks-axis = rw (ed, eu, eo, eb) ((x.slope.far, x.u-in, x.o-in, base-in g), ((axis-to x.slope).some, (axis-fro x.slope).some))

    pub axis-is : {r : Two} → EndsAre (axis_end d' u' o' b') (axis_back d' u' o' b') r → EndsAre (axis_end d u o b) (axis_back d u o b) r
    axis-is h = rw (ed, eu, eo, eb) at h

  module _ {d u o e w q : ℤ} (x : Axis p ρ d u o) (y : Axis p ρ e w q)
      {d' u' o' e' w' q' b' : ℤ} (ed : d' ≡ d) (ee : e' ≡ e) (eu : u' ≡ u) (ew : w' ≡ w) (eo : o' ≡ o) (eq : q' ≡ q) (eb : b' ≡ b)
    where
      pub asks-crossed : (Within d' 393216 × Within e' 393216 × Within u' 5832565587969 × Within w' 5832565587969 × Within o' 286690000000000000 × Within q' 286690000000000000 × Within b' 430100000000000000)
          × (((pos 0 ≤ℤ diagonal_end (d' +ℤ e') (u' +ℤ w') (o' +ℤ q') b') × (pos 0 ≤ℤ diagonal_back (d' +ℤ e') (u' +ℤ w') (o' +ℤ q') b'))
          × ((pos 0 ≤ℤ diagonal_end (d' -ℤ e') (u' -ℤ w') (o' -ℤ q') b') × (pos 0 ≤ℤ diagonal_back (d' -ℤ e') (u' -ℤ w') (o' -ℤ q') b')))
      asks-crossed =
          let a = joined p ρ x.slope y.slope in
          let c = joined p ρ x.slope (turned p ρ y.slope) in
          rw (ed, ee, eu, ew, eo, eq, eb)
          ((x.slope.far, y.slope.far, x.u-in, y.u-in, x.o-in, y.o-in, base-in g), (((diagonal-to a).some, (diagonal-fro a).some), ((diagonal-to c).some, (diagonal-fro c).some)))

      pub crossed-is : {r : Four} → CrossedAre d' e' u' w' o' q' b' r → CrossedAre d e u w o q b r
      crossed-is h = rw (ed, ee, eu, ew, eo, eq, eb) at h
