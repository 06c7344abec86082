-- Where a part lands: an end that leaves no doubt gives the cut quotient of stage 4. Assumes nothing.
use mathlib.Core.Path.{◌≡◌, refl, sym, ◌∙◌, ap}
use mathlib.Core.List.{[], ◌∷◌}
use mathlib.Core.Bool.{Bool, true, false, cond}
use mathlib.Core.Logic.{◌⊎◌, inl, inr}
use Prim.Native.Nat.{ℕ, zero, suc, ◌+◌, ◌*◌, ◌-◌, ◌/◌, ◌%◌, ◌<◌, ◌≤◌}
use native.Mathlib.Nat.{div-add-mod, mod-lt, mul-add, mul_comm, mul-suc, mul-le-mul_left}
use native.Mathlib.Omega.{arith}
use lib.Dec.{T, leb, leb→le}
use lib.IntN.{ℤ, pos, negsuc, neg_ℤ, nat_abs, ◌+ℤ◌, ◌-ℤ◌, ◌*ℤ◌}
use lib.Signed.{clash_ℤ, ◌≤ℤ◌, ◌<ℤ◌, quot_z, shr_z, le_z, lt_z}
use Rattle.whole.specs.laws.Bools.{and_left, and_right}
use Rattle.whole.specs.laws.Machine.{Within}
use Rattle.whole.specs.laws.Parts.{is-self, is_pos, is-add, is_mul, eq_is, ≤-parts, <-parts, parts-<}
use Rattle.whole.specs.laws.Bounds.{abs_neg}
use Rattle.whole.specs.laws.Ring.{ring-by, ring-from, quotes}
use Rattle.whole.specs.laws.Order.{le_z-true, lt_z-true, lt_z-false, <ℤ→≤ℤ, to≤, to<, of<}
use Rattle.whole.specs.laws.Quot.{cut-only}
use Rattle.lattice.specs.declared.Flow.{Flow}
use Rattle.lattice.specs.Lattice.{dot, Lattice}
use Rattle.lattice.specs.Cell.{quad, relaxed, relaxation_good}
use Rattle.lattice.specs.inner.Held.{vec}
use Rattle.lattice.specs.Body.{relaxed_dir, eq_z}
use Rattle.lattice.proofs.Equal.{eq_z-true}
use Rattle.landings.specs.inner.Estimate.{mixed, landed, tells, weighed, Near}
use Rattle.landings.proofs.Loss.{left, floor-left, left-most}

module _ (e : ℕ) (f c : ℤ) where
  abbrev pub floored : ℤ
  floored = shr_z (mixed e f c) 1024

  pub landed-below : lt_z floored f ≡ true → floored +ℤ pos 1 ≡ landed e f c
  unfolding landed
  landed-below h = sym (ap (λ (b : Bool). cond b (floored +ℤ pos 1) floored) h)

  pub landed-above : lt_z floored f ≡ false → floored ≡ landed e f c
  unfolding landed
  landed-above h = sym (ap (λ (b : Bool). cond b (floored +ℤ pos 1) floored) h)

-- an end below n and a part within ±k leave room for what they are mixed to
pub room : {e : ℕ} {f : ℤ} (n k : ℕ) → e < n → Within f k → T (leb (n / 4294967296 + 1023 * k) 2147483646) → e / 4294967296 + 1023 * nat_abs f ≤ 2147483646
room {e} {f} n k h m t =
    let r : n % 4294967296 < 4294967296 = mod-lt n (omega arith) in
    omega (
      arith,
      div-add-mod e 4294967296,
      div-add-mod n 4294967296,
      m.abs,
      leb→le (n / 4294967296 + 1023 * k) 2147483646 t,
    )

-- 1024 − p is small
pub slack : (p : ℤ) → relaxation_good p ≡ true → Within (pos 1024 -ℤ p) 1023
slack p e =
    let low : pos 1 ≤ℤ p = le_z-true (and_left (le_z (pos 1) p) (le_z p (pos 2037)) e) in
    let high : p ≤ℤ pos 2037 = le_z-true (and_right (le_z (pos 1) p) (le_z p (pos 2037)) e) in
    record {
      abs = spread (pos 1024 -ℤ p)
          (to≤ (p ∷ []) (search quotes depth 20) (search quotes depth 20) (omega (arith, ≤-parts high)))
          (to≤ (p ∷ []) (search quotes depth 20) (search quotes depth 20) (omega (arith, ≤-parts low)));
    }
  where
    spread : (z : ℤ) → negsuc 1022 ≤ℤ z → z ≤ℤ pos 1023 → nat_abs z ≤ 1023
    spread (pos n) h k = omega (arith, ≤-parts k)
    spread (negsuc n) h k = omega (arith, ≤-parts h)

abs-inside : (z : ℤ) (n : ℕ) → pos 0 ≤ℤ z → z <ℤ pos n → nat_abs z < n
abs-inside (pos z) n h k = omega (arith, <-parts k)
abs-inside (negsuc z) n h k = absurd h.le

both-up : (b : ℕ) (q s : ℤ) → pos 0 ≤ℤ q → pos 0 <ℤ s → pos 0 <ℤ (pos b *ℤ q +ℤ s)
both-up b (pos q) s h k = to< (s ∷ []) (search quotes depth 20) (search quotes depth 20) (omega (arith, <-parts k))
both-up b (negsuc q) s h k = absurd h.le

both-down : (b : ℕ) (q s : ℤ) → q ≤ℤ pos 0 → s <ℤ pos 0 → (pos b *ℤ q +ℤ s) <ℤ pos 0
both-down b (pos zero) s h k = to< (s ∷ []) (search quotes depth 20) (search quotes depth 20) (omega (arith, <-parts k))
both-down b (pos (suc q)) s h k = absurd (omega (arith, ≤-parts h))
both-down b (negsuc q) s h k = to< (negsuc q ∷ s ∷ []) (search quotes depth 20) (search quotes depth 20) (omega (arith, <-parts k))

back : (f n : ℤ) → n ≡ f +ℤ (n -ℤ f)
back f n = ring-by (f ∷ n ∷ []) (search quotes depth 20) (search quotes depth 20) tt

back_one : (f n : ℤ) → n +ℤ pos 1 ≡ f +ℤ (n -ℤ f +ℤ pos 1)
back_one f n = ring-by (f ∷ n ∷ []) (search quotes depth 20) (search quotes depth 20) tt

-- where one more does not move the floor, it leaves at most 1022
told-left : (s : ℤ) → eq_z (shr_z s 1024) (shr_z (s +ℤ pos 1) 1024) ≡ true → left s 1024 ≤ 1022
told-left s e =
    let here = floor-left s 1024 (omega arith) in
    let next = rw (sym (eq_z-true (shr_z s 1024) (shr_z (s +ℤ pos 1) 1024) e)) at (floor-left (s +ℤ pos 1) 1024 (omega arith)) in
    let q = is_mul (is_pos 1024) (is-self (shr_z s 1024)) in
    omega (
      arith,
      left-most (s +ℤ pos 1) 1024 (omega arith),
      eq_is (is-self s) (is-add q (is_pos (left s 1024))) here,
      eq_is (is-add (is-self s) (is_pos 1)) (is-add q (is_pos (left (s +ℤ pos 1) 1024))) next,
    )

-- what leaves no doubt of a landing, where the end e lacks less than k: that one more would not move it, and no more than one is lacked; or that no whole
-- number lies so near above the end
abbrev pub Sure : ℕ → ℤ → ℤ → ℕ → Type 0
Sure e f c k = ((k ≤ 4294967296) × (tells e f c ≡ true)) ⊎ (e % 4294967296 + k < 4294967296)

module _ (r e k : ℕ) (N f p : ℤ)
    (some : 0 < r)
    (low : (pos 72 *ℤ (pos r *ℤ pos e)) <ℤ (N *ℤ pos 4294967296))
    (high : (N *ℤ pos 4294967296) <ℤ (pos 72 *ℤ (pos r *ℤ pos e +ℤ pos k *ℤ pos r)))
    (sure : Sure e f (pos 1024 -ℤ p) k)
  where
    abbrev u : ℕ
    u = e / 4294967296

    abbrev l : ℕ
    l = e % 4294967296

    abbrev s : ℤ
    s = mixed e f (pos 1024 -ℤ p)

    abbrev n : ℤ
    n = shr_z s 1024

    abbrev t : ℕ
    t = left s 1024

    split : r * e ≡ 4294967296 * (r * u) + r * l
    split = ap (λ (k : ℕ). r * k) (sym (div-add-mod e 4294967296)) ∙ (omega arith)

    -- p·w·Q lies strictly between u and u + w times 72ρ, and n leaves at most 1024 − w
    v_low : (pos (72 * (r * u))) <ℤ N
    v_low = parts-< (omega (arith, split, of< (N ∷ []) (search quotes depth 20) (search quotes depth 20) low))

    edge : (w : ℕ) × (N <ℤ pos (72 * (r * u + r * w))) × (t + w ≤ 1024)
    unfolding tells
    edge = go sure
      where
        go : Sure e f (pos 1024 -ℤ p) k → (w : ℕ) × (N <ℤ pos (72 * (r * u + r * w))) × (t + w ≤ 1024)
        go (inl (small, told)) =
            let h : l < 4294967296 = mod-lt e (omega arith) in (
              2,
              parts-< (omega (arith, split, mul-le-mul_left r h, mul-suc r l, mul-le-mul_left r small, mul_comm r k, of< (N ∷ []) (search quotes depth 20) (search quotes depth 20) high)),
              omega (arith, told-left s told),
            )
        go (inr clear) = (
          1,
          parts-< (omega (arith, split, mul-le-mul_left r clear, mul-suc r (l + k), mul-add r l k, mul_comm r k, of< (N ∷ []) (search quotes depth 20) (search quotes depth 20) high)),
          omega (arith, left-most s 1024 (omega arith)),
        )

    -- what n leaves
    rest : ℤ
    rest = N -ℤ pos (72 * (r * u)) +ℤ pos (72 * (r * t))

    rest-low : pos 0 <ℤ rest
    unfolding rest
    rest-low = to< (N ∷ []) (search quotes depth 20) (search quotes depth 20) (omega (arith, <-parts v_low))

    rest-high : rest <ℤ (pos (73728 * r))
    unfolding rest
    rest-high =
        to< (N ∷ []) (search quotes depth 20) (search quotes depth 20)
        (omega (arith, <-parts edge.1, mul-add r t edge.0, mul-le-mul_left r edge.2))

    abbrev growth : ℤ
    growth = N -ℤ p *ℤ (pos 72 *ℤ (pos r *ℤ f))

    growth-is : growth ≡ pos (73728 * r) *ℤ (n -ℤ f) +ℤ rest
    unfolding rest
    growth-is = identity N (pos r) p f n (pos t) (pos u) (floor-left s 1024 (omega arith))
      where
        identity : (N ρ p f n t u : ℤ) → u +ℤ (pos 1024 -ℤ p) *ℤ f ≡ pos 1024 *ℤ n +ℤ t
            → N -ℤ p *ℤ (pos 72 *ℤ (ρ *ℤ f)) ≡ pos 73728 *ℤ ρ *ℤ (n -ℤ f) +ℤ (N -ℤ pos 72 *ℤ (ρ *ℤ u) +ℤ pos 72 *ℤ (ρ *ℤ t))
        identity N ρ p f n t u h =
            ring-from (N ∷ ρ ∷ p ∷ f ∷ n ∷ t ∷ u ∷ []) {k = pos 72 *ℤ ρ} h (search quotes depth 20) (search quotes depth 20) (search quotes depth 20) (search quotes depth 20) (search quotes depth 20) tt

    -- n ≥ f: the growth is positive, and n − f is its cut quotient
    up-quot : f ≤ℤ n → n -ℤ f ≡ quot_z growth (pos (73728 * r))
    up-quot h =
        let k : pos 0 ≤ℤ (n -ℤ f) = to≤ (n ∷ f ∷ []) (search quotes depth 20) (search quotes depth 20) (omega (arith, ≤-parts h)) in
        cut-only growth (73728 * r) (n -ℤ f) rest growth-is (abs-inside rest (73728 * r) (<ℤ→≤ℤ rest-low) rest-high)
        (λ g. <ℤ→≤ℤ rest-low)
        (λ g. absurd (clash_ℤ (rw growth-is (both-up (73728 * r) (n -ℤ f) rest k rest-low)) g))

    -- n < f: it is negative, and n − f + 1 is
    below-is : growth ≡ pos (73728 * r) *ℤ (n -ℤ f +ℤ pos 1) +ℤ (rest -ℤ pos (73728 * r))
    below-is = growth-is ∙ moved (pos (73728 * r)) (n -ℤ f) rest
      where
        moved : (d q s : ℤ) → d *ℤ q +ℤ s ≡ d *ℤ (q +ℤ pos 1) +ℤ (s -ℤ d)
        moved d q s = ring-by (d ∷ q ∷ s ∷ []) (search quotes depth 20) (search quotes depth 20) tt

    rest_under : (rest -ℤ pos (73728 * r)) <ℤ pos 0
    rest_under = to< (rest ∷ []) (search quotes depth 20) (search quotes depth 20) (omega (arith, <-parts rest-high))

    rest-near : nat_abs (rest -ℤ pos (73728 * r)) < 73728 * r
    rest-near =
        rw (sym (abs_neg (rest -ℤ pos (73728 * r))))
        (abs-inside (neg_ℤ (rest -ℤ pos (73728 * r))) (73728 * r)
        (to≤ (rest ∷ []) (search quotes depth 20) (search quotes depth 20) (omega (arith, <-parts rest-high)))
        (to< (rest ∷ []) (search quotes depth 20) (search quotes depth 20) (omega (arith, <-parts rest-low))))

    down-quot : n <ℤ f → n -ℤ f +ℤ pos 1 ≡ quot_z growth (pos (73728 * r))
    down-quot h =
        let k : (n -ℤ f +ℤ pos 1) ≤ℤ pos 0 = to≤ (n ∷ f ∷ []) (search quotes depth 20) (search quotes depth 20) (omega (arith, <-parts h)) in
        cut-only growth (73728 * r) (n -ℤ f +ℤ pos 1) (rest -ℤ pos (73728 * r)) below-is rest-near
        (λ g. absurd (clash_ℤ (rw below-is (both-down (73728 * r) (n -ℤ f +ℤ pos 1) (rest -ℤ pos (73728 * r)) k rest_under)) g))
        (λ g. <ℤ→≤ℤ rest_under)

    pub landed-is : landed e f (pos 1024 -ℤ p) ≡ f +ℤ quot_z growth (pos 73728 *ℤ pos r)
    unfolding landed
    landed-is = go (lt_z n f) refl
      where
        go : (b : Bool) → lt_z n f ≡ b → cond b (n +ℤ pos 1) n ≡ f +ℤ quot_z growth (pos 73728 *ℤ pos r)
        go true h = back_one f n ∙ ap (λ (q : ℤ). f +ℤ q) (down-quot (lt_z-true {a = n} {b = f} h))
        go false h = back f n ∙ ap (λ (q : ℤ). f +ℤ q) (up-quot (lt_z-false {a = n} {b = f} h))

-- ---- for a flow: part i lands where stage 4 wants it
landed-any : (ρ n f p : ℤ) (e k : ℕ) → pos 294912 ≤ℤ ρ → (pos 72 *ℤ (ρ *ℤ pos e)) <ℤ (n *ℤ pos 4294967296)
    → (n *ℤ pos 4294967296) <ℤ (pos 72 *ℤ (ρ *ℤ pos e +ℤ pos k *ℤ ρ)) → Sure e f (pos 1024 -ℤ p) k
    → landed e f (pos 1024 -ℤ p) ≡ f +ℤ quot_z (n -ℤ p *ℤ (pos 72 *ℤ (ρ *ℤ f))) (pos 73728 *ℤ ρ)
landed-any (pos r) n f p e k deep low high sure = landed-is r e k n f p (omega (arith, ≤-parts deep)) low high sure
landed-any (negsuc r) n f p e k deep low high sure = absurd deep.le

pub landed-part : (L : Lattice) (v : Flow) (p : ℤ) (f : ℕ → ℤ) (i e k : ℕ) → pos 294912 ≤ℤ v.rho → Near L k v p i e → Sure e (f i) (pos 1024 -ℤ p) k
    → landed e (f i) (pos 1024 -ℤ p) ≡ relaxed_dir L v.rho (vec v) p f i
unfolding relaxed_dir relaxed weighed
landed-part L v p f i e k deep near sure =
    landed-any v.rho (weighed L v p i) (f i) p e k deep near.low near.high sure
    ∙ ap (λ (n : ℤ). f i +ℤ quot_z n (pos 73728 *ℤ v.rho)) (gathered p (pos (L.weight i) *ℤ quad v.rho (dot (L.e i) (vec v)) (dot (vec v) (vec v))) (pos 72 *ℤ (v.rho *ℤ f i)))
  where
    gathered : (p q t : ℤ) → p *ℤ q -ℤ p *ℤ t ≡ p *ℤ (q -ℤ t)
    gathered p q t = ring-by (p ∷ q ∷ t ∷ []) (search quotes depth 20) (search quotes depth 20) tt
