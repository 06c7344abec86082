-- The interval of an end: e·72ρ < p·w·Q·2^32 < (e + 2^19)·72ρ, from the losses of each cut and shift on the way. Assumes nothing.
use mathlib.Core.Path.{◌≡◌, ap}
use mathlib.Core.List.{[], ◌∷◌}
use Prim.Native.Nat.{ℕ, ◌+◌, ◌*◌, ◌-◌, ◌<◌, ◌≤◌}
use native.Mathlib.Nat.{mul-suc, mul_assoc, mul_comm, mul-le-mul, mul-le-mul_right, le_of_mul-le-mul_left, div-mul-le_self}
use native.Mathlib.Omega.{arith}
use lib.IntN.{ℤ, pos, negsuc, neg_ℤ, nat_abs, ◌+ℤ◌, ◌-ℤ◌, ◌*ℤ◌}
use lib.Signed.{◌≤ℤ◌, ◌<ℤ◌, quot_z}
use Rattle.whole.specs.laws.Parts.{≤-parts, parts-≤, abs-parts}
use Rattle.whole.specs.laws.Bounds.{abs-sub, abs-mul, abs_neg, abs-quot}
use Rattle.whole.specs.laws.Ring.{ring-by, quotes, square-pos}
use Rattle.whole.specs.laws.Order.{to≤, to<, of≤, of<, ≤ℤ-trans}
use Rattle.whole.specs.laws.Quot.{cut-near}
use Rattle.whole.specs.laws.Machine.{Within}
use Rattle.landings.proofs.Loss.{Err, err+, err*, err_of, within-pos, of-negsuc, within+, within*}

-- ---- p·x/ρ in 2^-33
module _ (p ρ x i v : ℤ) (hx : Within x 393216) (cut : Within (p *ℤ pos 4503599627370496 -ℤ ρ *ℤ i) (nat_abs ρ)) (shr : Within (x *ℤ i -ℤ pos 524288 *ℤ v) 524287) where
  gap : ℤ
  gap = p *ℤ x *ℤ pos 8589934592 -ℤ ρ *ℤ v

  gap_is : pos 524288 *ℤ gap ≡ x *ℤ (p *ℤ pos 4503599627370496 -ℤ ρ *ℤ i) +ℤ ρ *ℤ (x *ℤ i -ℤ pos 524288 *ℤ v)
  unfolding gap
  gap_is = ring-by (p ∷ ρ ∷ x ∷ i ∷ v ∷ []) (search quotes depth 20) (search quotes depth 20) tt

  gap-err : Err (x *ℤ (p *ℤ pos 4503599627370496 -ℤ ρ *ℤ i) +ℤ ρ *ℤ (x *ℤ i -ℤ pos 524288 *ℤ v)) (nat_abs ρ) 917503
  gap-err = err+ (err* {k = 1} hx (record { abs = omega (arith, cut.abs) })) (err_of ρ shr)

  pub speed-near : Err (pos 4 *ℤ (p *ℤ x *ℤ pos 8589934592 -ℤ ρ *ℤ v)) (nat_abs ρ) 7
  unfolding gap
  speed-near = record { abs = omega (arith, gap-err.abs, ap nat_abs gap_is, abs-mul (pos 524288) gap, abs-mul (pos 4) gap) }

-- ---- the even part
module _ (p ρ x y z u v w : ℤ) (hx : Within x 393216) (hy : Within y 393216) (hz : Within z 393216)
    (eu : Err (pos 4 *ℤ (p *ℤ x *ℤ pos 8589934592 -ℤ ρ *ℤ u)) (nat_abs ρ) 7)
    (ev : Err (pos 4 *ℤ (p *ℤ y *ℤ pos 8589934592 -ℤ ρ *ℤ v)) (nat_abs ρ) 7)
    (ew : Err (pos 4 *ℤ (p *ℤ z *ℤ pos 8589934592 -ℤ ρ *ℤ w)) (nat_abs ρ) 7)
  where
    squares-is : x *ℤ (pos 4 *ℤ (p *ℤ x *ℤ pos 8589934592 -ℤ ρ *ℤ u)) +ℤ y *ℤ (pos 4 *ℤ (p *ℤ y *ℤ pos 8589934592 -ℤ ρ *ℤ v)) +ℤ z *ℤ (pos 4 *ℤ (p *ℤ z *ℤ pos 8589934592 -ℤ ρ *ℤ w)) ≡ pos 4 *ℤ (p *ℤ pos 8589934592 *ℤ (x *ℤ x +ℤ y *ℤ y +ℤ z *ℤ z) -ℤ ρ *ℤ (x *ℤ u +ℤ y *ℤ v +ℤ z *ℤ w))
    squares-is = ring-by (p ∷ ρ ∷ x ∷ y ∷ z ∷ u ∷ v ∷ w ∷ []) (search quotes depth 20) (search quotes depth 20) tt

    pub squares-near : Err (pos 4 *ℤ (p *ℤ pos 8589934592 *ℤ (x *ℤ x +ℤ y *ℤ y +ℤ z *ℤ z) -ℤ ρ *ℤ (x *ℤ u +ℤ y *ℤ v +ℤ z *ℤ w))) (nat_abs ρ) 8257536
    squares-near = rw squares-is at (err+ (err+ (err* hx eu) (err* hy ev)) (err* hz ew))

module _ (p ρ J T S b : ℤ)
    (e_t : Err (pos 4 *ℤ (p *ℤ pos 8589934592 *ℤ J -ℤ ρ *ℤ T)) (nat_abs ρ) 8257536)
    (h_s : Within (T -ℤ pos 16 *ℤ S) 15)
    (hb : Within (p *ℤ ρ *ℤ pos 1073741824 -ℤ pos 3 *ℤ S -ℤ pos 9 *ℤ b) 8)
  where
    base-is : pos 3 *ℤ (pos 4 *ℤ (p *ℤ pos 8589934592 *ℤ J -ℤ ρ *ℤ T)) +ℤ ρ *ℤ (pos 12 *ℤ (T -ℤ pos 16 *ℤ S) +ℤ negsuc 63 *ℤ (p *ℤ ρ *ℤ pos 1073741824 -ℤ pos 3 *ℤ S -ℤ pos 9 *ℤ b)) ≡ pos 4 *ℤ (pos 144 *ℤ (ρ *ℤ b) -ℤ p *ℤ pos 8589934592 *ℤ (pos 2 *ℤ (ρ *ℤ ρ) -ℤ pos 3 *ℤ J))
    base-is = ring-by (p ∷ ρ ∷ J ∷ T ∷ S ∷ b ∷ []) (search quotes depth 20) (search quotes depth 20) tt

    pub base-near : Err (pos 4 *ℤ (pos 144 *ℤ (ρ *ℤ b) -ℤ p *ℤ pos 8589934592 *ℤ (pos 2 *ℤ (ρ *ℤ ρ) -ℤ pos 3 *ℤ J))) (nat_abs ρ) 24773300
    base-near =
        rw base-is at
        (err+ (err* (within-pos 3) e_t)
        (err_of ρ (within+ (within* (within-pos 12) h_s) (within* {a = negsuc 63} {k = 64} (record { abs = omega arith }) hb))))

-- ---- the ends, and how far off they are
module _ (p ρ d v b h o J : ℤ) where
  abbrev eb : ℤ
  eb = pos 4 *ℤ (pos 144 *ℤ (ρ *ℤ b) -ℤ p *ℤ pos 8589934592 *ℤ (pos 2 *ℤ (ρ *ℤ ρ) -ℤ pos 3 *ℤ J))

  abbrev ev4 : ℤ
  ev4 = pos 4 *ℤ (p *ℤ d *ℤ pos 8589934592 -ℤ ρ *ℤ v)

  abbrev Q : ℤ
  Q = pos 2 *ℤ (ρ *ℤ ρ) +ℤ pos 6 *ℤ (ρ *ℤ d) +ℤ pos 9 *ℤ (d *ℤ d) -ℤ pos 3 *ℤ J

  axis-is : pos 4 *ℤ eb +ℤ negsuc 35 *ℤ (d *ℤ ev4) +ℤ ρ *ℤ (negsuc 143 *ℤ (d *ℤ v -ℤ pos 8 *ℤ h) +ℤ negsuc 23 *ℤ (p *ℤ d *ℤ pos 34359738368 -ℤ pos 96 *ℤ o)) ≡ pos 1152 *ℤ (ρ *ℤ (b +ℤ (b -ℤ pos 262144) +ℤ h +ℤ pos 2 *ℤ o)) +ℤ pos 301989888 *ℤ ρ -ℤ p *ℤ (pos 2 *ℤ Q) *ℤ pos 68719476736
  axis-is = ring-by (p ∷ ρ ∷ d ∷ v ∷ b ∷ h ∷ o ∷ J ∷ []) (search quotes depth 20) (search quotes depth 20) tt

  diag-is : pos 2 *ℤ eb +ℤ negsuc 17 *ℤ (d *ℤ ev4) +ℤ ρ *ℤ (negsuc 71 *ℤ (d *ℤ v -ℤ pos 16 *ℤ h) +ℤ negsuc 11 *ℤ (p *ℤ d *ℤ pos 34359738368 -ℤ pos 96 *ℤ o)) ≡ pos 1152 *ℤ (ρ *ℤ (b -ℤ pos 262144 +ℤ h +ℤ o)) +ℤ pos 301989888 *ℤ ρ -ℤ p *ℤ (pos 1 *ℤ Q) *ℤ pos 68719476736
  diag-is = ring-by (p ∷ ρ ∷ d ∷ v ∷ b ∷ h ∷ o ∷ J ∷ []) (search quotes depth 20) (search quotes depth 20) tt

  -- the losses together
  pub axis-err : Within d 393216 → Err eb (nat_abs ρ) 24773300 → Err ev4 (nat_abs ρ) 7 → Within (d *ℤ v -ℤ pos 8 *ℤ h) 7 → Within (p *ℤ d *ℤ pos 34359738368 -ℤ pos 96 *ℤ o) 786525
      → Err (pos 1152 *ℤ (ρ *ℤ (b +ℤ (b -ℤ pos 262144) +ℤ h +ℤ pos 2 *ℤ o)) +ℤ pos 301989888 *ℤ ρ -ℤ p *ℤ (pos 2 *ℤ Q) *ℤ pos 68719476736) (nat_abs ρ) 217061240
  axis-err hd hb hv hh ho =
      rw axis-is at
      (err+ (err+ (err* (within-pos 4) hb) (err* (of-negsuc 35) (err* hd hv)))
      (err_of ρ (within+ (within* (of-negsuc 143) hh) (within* (of-negsuc 23) ho))))

  pub diag-err : Within d 786432 → Err eb (nat_abs ρ) 24773300 → Err ev4 (nat_abs ρ) 14 → Within (d *ℤ v -ℤ pos 16 *ℤ h) 15 → Within (p *ℤ d *ℤ pos 34359738368 -ℤ pos 96 *ℤ o) 1573050
      → Err (pos 1152 *ℤ (ρ *ℤ (b -ℤ pos 262144 +ℤ h +ℤ o)) +ℤ pos 301989888 *ℤ ρ -ℤ p *ℤ (pos 1 *ℤ Q) *ℤ pos 68719476736) (nat_abs ρ) 266605144
  diag-err hd hb hv hh ho =
      rw diag-is at
      (err+ (err+ (err* (within-pos 2) hb) (err* (of-negsuc 17) (err* hd hv)))
      (err_of ρ (within+ (within* (of-negsuc 71) hh) (within* (of-negsuc 11) ho))))

-- ---- an end with losses below 2^18 brackets p·w·Q
pub abs-most : (z : ℤ) (n : ℕ) → nat_abs z ≤ n → z ≤ℤ pos n
abs-most z n h = parts-≤ (omega (arith, abs-parts z))

module _ (A N : ℤ) (r : ℕ) (some : 0 < r) (near : nat_abs (pos 1152 *ℤ A +ℤ pos 301989888 *ℤ pos r -ℤ N *ℤ pos 68719476736) ≤ 301989887 * r) where
  abbrev off : ℤ
  off = pos 1152 *ℤ A +ℤ pos 301989888 *ℤ pos r -ℤ N *ℤ pos 68719476736

  above : (off) ≤ℤ (pos 301989887 *ℤ pos r)
  above = abs-most off (301989887 * r) near

  below : (neg_ℤ off) ≤ℤ (pos 301989887 *ℤ pos r)
  below = abs-most (neg_ℤ off) (301989887 * r) (omega (arith, abs_neg off, near))

  pub end_below : (pos 72 *ℤ A) <ℤ (N *ℤ pos 4294967296)
  end_below =
      to< (A ∷ N ∷ pos r ∷ []) (search quotes depth 20) (search quotes depth 20)
      (omega (arith, of≤ (A ∷ N ∷ pos r ∷ []) (search quotes depth 20) (search quotes depth 20) above))

  pub end-above : (N *ℤ pos 4294967296) <ℤ (pos 72 *ℤ (A +ℤ pos 524288 *ℤ pos r))
  end-above =
      to< (A ∷ N ∷ pos r ∷ []) (search quotes depth 20) (search quotes depth 20)
      (omega (arith, of≤ (A ∷ N ∷ pos r ∷ []) (search quotes depth 20) (search quotes depth 20) below))

more : {a b z : ℤ} → pos 0 ≤ℤ z → b ≡ a +ℤ z → a ≤ℤ b
more {a} {b} {z} h e = rw e (to≤ (a ∷ z ∷ []) (search quotes depth 20) (search quotes depth 20) (omega (arith, ≤-parts h)))

-- Q is at least two thirds of ρ²
module _ (ρ d J : ℤ) (slow : (pos 9 *ℤ J) ≤ℤ (ρ *ℤ ρ)) where
  abbrev quadratic : ℤ
  quadratic = pos 2 *ℤ (ρ *ℤ ρ) +ℤ pos 6 *ℤ (ρ *ℤ d) +ℤ pos 9 *ℤ (d *ℤ d) -ℤ pos 3 *ℤ J

  completed : pos 3 *ℤ quadratic ≡ pos 2 *ℤ (ρ *ℤ ρ) +ℤ (pos 3 *ℤ ((ρ +ℤ pos 3 *ℤ d) *ℤ (ρ +ℤ pos 3 *ℤ d)) +ℤ (ρ *ℤ ρ -ℤ pos 9 *ℤ J))
  completed = ring-by (ρ ∷ d ∷ J ∷ []) (search quotes depth 20) (search quotes depth 20) tt

  spare : (m : ℕ) (a b : ℤ) → a ≤ℤ b → pos 0 ≤ℤ (pos 3 *ℤ pos m +ℤ (b -ℤ a))
  spare m a b h = to≤ (a ∷ b ∷ []) (search quotes depth 20) (search quotes depth 20) (omega (arith, ≤-parts h))

  pub deep : (pos 2 *ℤ (ρ *ℤ ρ)) ≤ℤ (pos 3 *ℤ quadratic)
  deep = more (rw (square-pos (ρ +ℤ pos 3 *ℤ d)) (spare _ (pos 9 *ℤ J) (ρ *ℤ ρ) slow)) completed

-- and so is p·w·Q
pub third : (q r : ℤ) → (pos 2 *ℤ (r *ℤ r)) ≤ℤ (pos 3 *ℤ q) → pos 0 ≤ℤ q
third (pos q) r h = parts-≤ (omega arith)
third (negsuc q) r h = absurd (omega (arith, of≤ (negsuc q ∷ []) (search quotes depth 20) (search quotes depth 20) (rw (square-pos r) at h)))

pub scaled : (n m : ℕ) (q r : ℤ) → 0 < n → 0 < m → (pos 2 *ℤ (r *ℤ r)) ≤ℤ (pos 3 *ℤ q) → (pos 2 *ℤ (r *ℤ r)) ≤ℤ (pos 3 *ℤ (pos n *ℤ (pos m *ℤ q)))
scaled n m (pos q) r hn hm h =
    let k : 1 * q ≤ m * q = mul-le-mul_right q hm in
    let l : 1 * (m * q) ≤ n * (m * q) = mul-le-mul_right (m * q) hn in
    ≤ℤ-trans h (parts-≤ (omega arith))
scaled n m (negsuc q) r hn hm h = absurd (third (negsuc q) r h).le

-- the end is not negative
pub not_negative : (e N : ℤ) (r : ℕ) → 294912 ≤ r → (pos 2 *ℤ (pos r *ℤ pos r)) ≤ℤ (pos 3 *ℤ N)
    → (N *ℤ pos 4294967296) <ℤ (pos 72 *ℤ (pos r *ℤ e +ℤ pos 524288 *ℤ pos r)) → pos 0 ≤ℤ e
not_negative (pos e) N r low h k = parts-≤ (omega arith)
not_negative (negsuc e) N r low h k = absurd (go (pos r *ℤ negsuc e) under k)
  where
    under : (pos r *ℤ negsuc e) ≤ℤ (neg_ℤ (pos r))
    under = to≤ (pos r ∷ negsuc e ∷ []) (search quotes depth 20) (search quotes depth 20) (omega (arith, mul-suc r e))

    go : (A : ℤ) → A ≤ℤ (neg_ℤ (pos r)) → (N *ℤ pos 4294967296) <ℤ (pos 72 *ℤ (A +ℤ pos 524288 *ℤ pos r)) → ⊥
    go A u k =
        omega (
          arith,
          mul-le-mul_right r low,
          of≤ (A ∷ pos r ∷ []) (search quotes depth 20) (search quotes depth 20) u,
          of≤ (N ∷ pos r ∷ []) (search quotes depth 20) (search quotes depth 20) h,
          of< (A ∷ N ∷ pos r ∷ []) (search quotes depth 20) (search quotes depth 20) k,
        )

-- ---- what fits: the product with the inverse, and the speed
module _ (p ρ x : ℤ) (hp : Within p 2037) (slow : 3 * nat_abs x ≤ nat_abs ρ) where
  pub inverse_left : 0 < nat_abs ρ → Within (p *ℤ pos 4503599627370496 -ℤ ρ *ℤ quot_z (p *ℤ pos 4503599627370496) ρ) (nat_abs ρ)
  inverse_left h = record { abs = omega (arith, cut-near (p *ℤ pos 4503599627370496) ρ h) }

  pub product-in : Within (x *ℤ quot_z (p *ℤ pos 4503599627370496) ρ) 3057944146984566784
  product-in =
      let i = quot_z (p *ℤ pos 4503599627370496) ρ in
      record {
        abs =
            omega (
              arith,
              abs-mul x i,
              mul-le-mul_right (nat_abs i) slow,
              abs-quot (p *ℤ pos 4503599627370496) ρ,
              div-mul-le_self (nat_abs (p *ℤ pos 4503599627370496)) (nat_abs ρ),
              mul_comm (nat_abs ρ) (nat_abs i),
              ap (λ (t : ℕ). t * nat_abs ρ) (abs-quot (p *ℤ pos 4503599627370496) ρ),
              abs-mul p (pos 4503599627370496),
              hp.abs,
              mul_assoc 3 (nat_abs x) (nat_abs i),
            );
      }

  pub speed-in : (v : ℤ) → 0 < nat_abs ρ → Err (pos 4 *ℤ (p *ℤ x *ℤ pos 8589934592 -ℤ ρ *ℤ v)) (nat_abs ρ) 7 → Within v 5832565587969
  speed-in v h e =
      let g = p *ℤ x *ℤ pos 8589934592 -ℤ ρ *ℤ v in
      let eq : ρ *ℤ v ≡ p *ℤ x *ℤ pos 8589934592 -ℤ g = ring-by (p ∷ ρ ∷ x ∷ v ∷ []) (search quotes depth 20) (search quotes depth 20) tt in
      let s : nat_abs ρ * (12 * nat_abs v) ≤ nat_abs ρ * 69990787055637 =
      omega (
        arith,
        ap nat_abs eq,
        abs-mul ρ v,
        abs-sub (p *ℤ x *ℤ pos 8589934592) g,
        abs-mul (p *ℤ x) (pos 8589934592),
        abs-mul p x,
        mul-le-mul hp.abs slow,
        e.abs,
        abs-mul (pos 4) g,
      )
      in
      record { abs = omega (arith, le_of_mul-le-mul_left {m = 12 * nat_abs v} {n = 69990787055637} {k = nat_abs ρ} s h) }
