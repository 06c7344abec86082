-- An axis has weight 4 in the flume and 2 in the box: twice the box's end is its end, lacks less than 2^20 and is no larger than a part leaves room for.
-- Assumes nothing.
use mathlib.Core.Path.{◌≡◌, sym, ap₂, ◌∙◌, subst}
use mathlib.Core.List.{[], ◌∷◌}
use Prim.Native.Nat.{ℕ, ◌+◌, ◌*◌, ◌<◌, ◌≤◌}
use native.Mathlib.Nat.{mul-le-mul, mul-le-mul_left, le_of_mul-le-mul_left}
use native.Mathlib.Omega.{arith}
use lib.IntN.{ℤ, pos, negsuc, nat_abs, ◌+ℤ◌, ◌-ℤ◌, ◌*ℤ◌}
use lib.Signed.{◌≤ℤ◌, ◌<ℤ◌, le_z}
use Rattle.whole.specs.laws.Bools.{and_left}
use Rattle.whole.specs.laws.Bounds.{abs-mul}
use Rattle.whole.specs.laws.Machine.{Within}
use Rattle.whole.specs.laws.Order.{le_z-true, to≤, to<}
use Rattle.whole.specs.laws.Parts.{≤-parts, <-parts, parts-≤}
use Rattle.whole.specs.laws.Ring.{ring-by, quotes, square-pos}
use Rattle.lattice.specs.declared.Flow.{Flow}
use Rattle.lattice.specs.Lattice.{dot}
use Rattle.lattice.specs.Cell.{quad}
use Rattle.lattice.specs.inner.Held.{vec}
use Rattle.landings.specs.inner.Estimate.{EndIs, weighed, Near}
use Rattle.landings.proofs.Bracket.{abs-most, deep, third}
use Rattle.landings.proofs.Ends.{Brackets, share}
use Rattle.landings.proofs.Rates.{Fair, calm_of, p-in}
use Rattle.flume.specs.inner.Spread.{spread_lattice}

-- ---- twice an end
moved : {a b c d : ℤ} → a ≡ c → b ≡ d → c <ℤ d → a <ℤ b
moved {a} {b} {c} {d} p q h = subst (λ (t : ℤ). t <ℤ b) (sym p) (subst (λ (t : ℤ). c <ℤ t) (sym q) h)

doubled : (a b : ℤ) → a <ℤ b → (pos 2 *ℤ a) <ℤ (pos 2 *ℤ b)
doubled a b h = to< (a ∷ b ∷ []) (search quotes depth 20) (search quotes depth 20) (omega (arith, <-parts h))

end-twice : (ρ e : ℤ) → pos 72 *ℤ (ρ *ℤ (pos 2 *ℤ e)) ≡ pos 2 *ℤ (pos 72 *ℤ (ρ *ℤ e))
end-twice ρ e = ring-by (ρ ∷ e ∷ []) (search quotes depth 20) (search quotes depth 20) tt

lack-twice : (ρ e : ℤ) → pos 72 *ℤ (ρ *ℤ (pos 2 *ℤ e) +ℤ pos 1048576 *ℤ ρ) ≡ pos 2 *ℤ (pos 72 *ℤ (ρ *ℤ e +ℤ pos 524288 *ℤ ρ))
lack-twice ρ e = ring-by (ρ ∷ e ∷ []) (search quotes depth 20) (search quotes depth 20) tt

share_twice : (p q : ℤ) → p *ℤ (pos 4 *ℤ q) *ℤ pos 4294967296 ≡ pos 2 *ℤ (p *ℤ (pos 2 *ℤ q) *ℤ pos 4294967296)
share_twice p q = ring-by (p ∷ q ∷ []) (search quotes depth 20) (search quotes depth 20) tt

-- ---- how large an axis end is: Q is at most 5ρ² where |e·j| is at most a third of ρ
under-five : (S X D : ℕ) (x J : ℤ) → x ≤ℤ pos X → 3 * X ≤ S → 9 * D ≤ S → pos 0 ≤ℤ J
    → (pos 2 *ℤ pos S +ℤ pos 6 *ℤ x +ℤ pos 9 *ℤ pos D -ℤ pos 3 *ℤ J) ≤ℤ (pos 5 *ℤ pos S)
under-five S X D x J hx h3 h9 h_j = to≤ (x ∷ J ∷ []) (search quotes depth 20) (search quotes depth 20) (omega (arith, ≤-parts hx, ≤-parts h_j))

quad-most : (ρ d J : ℤ) → 3 * nat_abs d ≤ nat_abs ρ → pos 0 ≤ℤ J → (pos 2 *ℤ (ρ *ℤ ρ) +ℤ pos 6 *ℤ (ρ *ℤ d) +ℤ pos 9 *ℤ (d *ℤ d) -ℤ pos 3 *ℤ J) ≤ℤ (pos 5 *ℤ (ρ *ℤ ρ))
quad-most ρ d J slow some =
    let r = nat_abs ρ in
    let a = nat_abs d in
    let h3 : 3 * (r * a) ≤ r * r = omega (arith, mul-le-mul_left r slow) in
    let h9 : 9 * (a * a) ≤ r * r = omega (arith, mul-le-mul slow slow) in
    rw (square-pos ρ, square-pos d)
    (under-five (r * r) (r * a) (a * a) (ρ *ℤ d) J (abs-most (ρ *ℤ d) (r * a) (omega (arith, abs-mul ρ d))) h3 h9 some)

axis-most : (ρ p q : ℤ) (e : ℕ) → pos 294912 ≤ℤ ρ → Within ρ 1179648 → pos 1 ≤ℤ p → Within p 2037 → pos 0 ≤ℤ q → q ≤ℤ (pos 5 *ℤ (ρ *ℤ ρ))
    → (pos 72 *ℤ (ρ *ℤ pos e)) <ℤ (p *ℤ (pos 2 *ℤ q) *ℤ pos 4294967296) → e ≤ 1433411318899015680
axis-most (pos r) (pos n) (pos q) e low top one hp some hq h =
    let two : 2 * q ≤ 10 * (r * r) = omega (arith, ≤-parts hq) in
    let s : r * (72 * e) ≤ r * (87488483819520 * r) = omega (arith, <-parts h, mul-le-mul hp.abs two) in
    let t : 72 * e ≤ 87488483819520 * r = le_of_mul-le-mul_left {m = 72 * e} {n = 87488483819520 * r} {k = r} s (omega (arith, ≤-parts low)) in
    omega (arith, top.abs)
axis-most (pos r) (pos n) (negsuc q) e low top one hp some hq h = absurd some.le
axis-most (pos r) (negsuc n) q e low top one hp some hq h = absurd one.le
axis-most (negsuc r) p q e low top one hp some hq h = absurd low.le

squares : (x y z : ℤ) → pos 0 ≤ℤ (x *ℤ x +ℤ y *ℤ y +ℤ z *ℤ z)
squares x y z = rw (square-pos x, square-pos y, square-pos z) (parts-≤ (omega arith))

-- ---- an axis' end in the flume
module _ {v : Flow} {p : ℤ} (g : Fair v p) (d : ℤ) {z : ℤ} {e : ℕ} (b : Brackets v.rho (share g 2 d) z) (is : EndIs z e) where
  abbrev ρ : ℤ
  ρ = v.rho

  abbrev J : ℤ
  J = dot (vec v) (vec v)

  abbrev Q : ℤ
  Q = pos 2 *ℤ (ρ *ℤ ρ) +ℤ pos 6 *ℤ (ρ *ℤ d) +ℤ pos 9 *ℤ (d *ℤ d) -ℤ pos 3 *ℤ J

  half : Brackets ρ (share g 2 d) (pos e)
  half = subst (Brackets ρ (share g 2 d)) (sym is.is) b

  pub near-twice : (i : ℕ) → spread_lattice.weight i ≡ 4 → dot (spread_lattice.e i) (vec v) ≡ d → Near spread_lattice 1048576 v p i (2 * e)
  unfolding weighed quad
  near-twice i hw hd =
      let n : weighed spread_lattice v p i *ℤ pos 4294967296 ≡ pos 2 *ℤ (share g 2 d *ℤ pos 4294967296) =
      ap₂ (λ (m : ℕ) (t : ℤ). p *ℤ (pos m *ℤ (pos 2 *ℤ (ρ *ℤ ρ) +ℤ pos 6 *ℤ (ρ *ℤ t) +ℤ pos 9 *ℤ (t *ℤ t) -ℤ pos 3 *ℤ J)) *ℤ pos 4294967296) hw hd ∙ share_twice p Q
      in
      record {
        low = moved (end-twice ρ (pos e)) n (doubled (pos 72 *ℤ (ρ *ℤ pos e)) (share g 2 d *ℤ pos 4294967296) half.low);
        high = moved n (lack-twice ρ (pos e)) (doubled (share g 2 d *ℤ pos 4294967296) (pos 72 *ℤ (ρ *ℤ pos e +ℤ pos 524288 *ℤ ρ)) half.high);
      }

  pub twice_most : 3 * nat_abs d ≤ nat_abs ρ → 2 * e ≤ 2866822637798031360
  twice_most slow =
      let t = (calm_of g).tame in
      let m : e ≤ 1433411318899015680 =
      axis-most ρ p Q e t.low t.rho (le_z-true (and_left (le_z (pos 1) p) (le_z p (pos 2037)) g.good)) (p-in g) (third Q ρ (deep ρ d J (calm_of g).slow))
      (quad-most ρ d J slow (squares v.x v.y v.z)) half.low
      in
      omega arith
