-- In a flow that passes stage 3's test every pair can be worked out by products: the even part of Q is in range and at least 6ρ·|e·j|, and the code's form of
-- a pair is the sum of the two parts of the equilibrium. Assumes nothing.
use mathlib.Core.Path.{◌≡◌, sym, ◌∙◌, ap, ap₂, subst}
use mathlib.Core.Logic.{⊎_elim}
use mathlib.Core.Bool.{true}
use mathlib.Core.List.{[], ◌∷◌}
use Prim.Native.Nat.{ℕ, ◌+◌, ◌*◌, ◌-◌, ◌/◌, ◌<◌, ◌≤◌}
use native.Mathlib.Nat.{mul-le-mul, mul-le-mul_left, le-div_iff_mul-le, mul_comm}
use native.Mathlib.Omega.{arith}
use lib.IntN.{ℤ, pos, nat_abs, neg_ℤ, ◌+ℤ◌, ◌-ℤ◌, ◌*ℤ◌}
use lib.Signed.{◌≤ℤ◌, le_z, quot_z, pos-nat_abs, yes_non_neg}
use Rattle.whole.specs.laws.Bools.{and_right}
use Rattle.whole.specs.laws.Parts.{is_pos, is-add, is-neg, is_eq, parts-≤}
use Rattle.whole.specs.laws.Bounds.{abs-add, abs-sub, abs_neg, abs-above}
use Rattle.whole.specs.laws.Ring.{ring-by, quotes, square-pos, *ℤ-assoc}
use Rattle.whole.specs.laws.Order.{le_z-true, ≤-or, ≤ℤ-trans, squares}
use Rattle.lattice.specs.declared.Flow.{Flow}
use Rattle.lattice.specs.Lattice.{dot, Lattice}
use Rattle.lattice.specs.Cell.{dense, slow, cut_equilibrium, quad}
use Rattle.lattice.specs.inner.Held.{vec, Tame, steady_flow}
use Rattle.lattice.specs.Body.{equilibrium_dir}
use Rattle.lattice.proofs.Tame.{steady-tame}
use Rattle.turbulence.specs.declared.stress.Shared.{Shared}
use Rattle.turbulence.specs.Turbulence.{square}
use Rattle.turbulence.specs.inner.Post.{SharedIs, Apt, even_of, even_share, pair_of}
use Rattle.turbulence.proofs.Still.{parted}

-- ---- squares of sums
mean : (a b : ℕ) → 2 * (a * b) ≤ a * a + b * b
mean a b = ⊎_elim (λ h. go a b h) (λ h. omega (arith, go b a (omega arith), mul_comm a b)) (≤-or a b)
  where
    at : (a d : ℕ) → 2 * (a * (a + d)) ≤ a * a + (a + d) * (a + d)
    at a d = omega arith

    go : (a b : ℕ) → a ≤ b → 2 * (a * b) ≤ a * a + b * b
    go a b h = subst (λ (x : ℕ). 2 * (a * x) ≤ a * a + x * x) (omega arith) (at a (b - a))

twice : (n a b : ℕ) → n ≤ a + b → n * n ≤ 2 * (a * a + b * b)
twice n a b h = omega (arith, mul-le-mul h h, mean a b)

pub sum-square : (x y : ℤ) → square (x +ℤ y) ≤ 2 * (square x + square y)
unfolding square
sum-square x y = twice (nat_abs (x +ℤ y)) (nat_abs x) (nat_abs y) (abs-add x y)

pub difference-square : (x y : ℤ) → square (x -ℤ y) ≤ 2 * (square x + square y)
unfolding square
difference-square x y = twice (nat_abs (x -ℤ y)) (nat_abs x) (nat_abs y) (abs-sub x y)

-- ---- the numbers
even-parts : (b f t : ℕ) → t ≤ b + f → pos b -ℤ pos t +ℤ pos f ≡ pos (b + f - t)
even-parts b f t h = is_eq (is-add (is-add (is_pos b) (is-neg (is_pos t))) (is_pos f)) (is_pos (b + f - t)) (omega arith)

module _ (r D J : ℕ) (most : r ≤ 1179648) (some : 294912 ≤ r) (slow : 9 * J ≤ r * r) (few : 9 * (D * D) ≤ 2 * (r * r)) where
  abbrev E : ℕ
  E = 2 * (r * r) + 9 * (D * D) - 3 * J

  E-most : E ≤ 1179648 * (6 * r)
  E-most = omega (arith, mul-le-mul_left r most)

  E-few : E ≤ 8796093022208
  E-few = omega (arith, mul-le-mul most most)

  E-above : 6 * r * D ≤ E
  E-above = omega (arith, mean r (3 * D))

  D-most : D ≤ 1179648
  D-most = ⊎_elim (λ h. omega arith) (λ h. absurd (omega (arith, mul-le-mul h h, mul-le-mul some some))) (≤-or D r)

-- ---- a flow
module _ (v : Flow) (steady : steady_flow v ≡ true) where
  tame : Tame v
  tame = steady-tame v steady

  abbrev r : ℕ
  r = nat_abs v.rho

  -- |j|²
  abbrev J : ℕ
  J = square v.x + square v.y + square v.z

  r_some : 294912 ≤ r
  r_some = abs-above tame.low

  r-most : r ≤ 1179648
  r-most = tame.rho.abs

  rho-is : v.rho ≡ pos r
  rho-is = sym (pos-nat_abs v.rho (yes_non_neg (≤ℤ-trans (record { le = tt }) tame.low)))

  pub slow-is : 9 * J ≤ r * r
  unfolding steady_flow slow square
  slow-is =
      squares v.x v.y v.z v.rho
      (le_z-true {a = pos 9 *ℤ dot (vec v) (vec v)} {b = v.rho *ℤ v.rho} (and_right (dense v.rho) (le_z (pos 9 *ℤ dot (vec v) (vec v)) (v.rho *ℤ v.rho)) steady))

  dot-is : dot (vec v) (vec v) ≡ pos J
  unfolding square
  dot-is = ap₂ ◌+ℤ◌ (ap₂ ◌+ℤ◌ (square-pos v.x) (square-pos v.y)) (square-pos v.z)

  module _ (k : Shared) (is : SharedIs v k) (d : ℤ) (few : 9 * square d ≤ 2 * (r * r)) where
    abbrev D : ℕ
    D = nat_abs d

    few-is : 9 * (D * D) ≤ 2 * (r * r)
    unfolding square
    few-is = few

    base-is : k.base ≡ pos (2 * (r * r)) -ℤ pos (3 * J)
    base-is = is.base ∙ ap₂ (λ (a b : ℤ). pos 2 *ℤ a -ℤ pos 3 *ℤ b) (square-pos v.rho) dot-is

    nine-is : pos 9 *ℤ d *ℤ d ≡ pos (9 * (D * D))
    nine-is = *ℤ-assoc (pos 9) d d ∙ ap (λ (z : ℤ). pos 9 *ℤ z) (square-pos d)

    even_is : even_of d k ≡ pos (E r D J r-most r_some slow-is few-is)
    even_is = ap₂ ◌+ℤ◌ base-is nine-is ∙ even-parts (2 * (r * r)) (9 * (D * D)) (3 * J) (omega (arith, slow-is))

    even-abs : nat_abs (even_of d k) ≡ E r D J r-most r_some slow-is few-is
    even-abs = ap nat_abs even_is

    pub apt : Apt d k
    apt =
        record {
          near = record { abs = D-most r D J r-most r_some slow-is few-is };
          base = record { abs = subst (λ (z : ℤ). nat_abs z ≤ 4174708211712) (sym base-is) (omega (arith, abs-sub (pos (2 * (r * r))) (pos (3 * J)), slow-is, mul-le-mul r-most r-most)) };
          den = omega (arith, is.den, r-most);
          some = omega (arith, is.den, r_some);
          low = is.low;
          high = is.high;
          up = subst (λ (z : ℤ). pos 0 ≤ℤ z) (sym even_is) (parts-≤ (omega arith));
          most = rw (even-abs, is.den) (E-most r D J r-most r_some slow-is few-is);
          few = rw even-abs (E-few r D J r-most r_some slow-is few-is);
          above = rw (even-abs, is.den) (E-above r D J r-most r_some slow-is few-is);
        }

    share-wide : nat_abs d ≤ nat_abs (even_of d k) / (6 * r)
    share-wide =
        let some : 0 < 6 * r = omega (arith, r_some) in
        (le-div_iff_mul-le some).1 (subst (λ (n : ℕ). nat_abs d * (6 * r) ≤ n) (sym even-abs) (omega (arith, E-above r D J r-most r_some slow-is few-is)))

    -- Q, and the part of the equilibrium, by the even part
    quad_is : (ρ q x u : ℤ) → u ≡ pos 2 *ℤ (ρ *ℤ ρ) -ℤ pos 3 *ℤ q +ℤ pos 9 *ℤ x *ℤ x → quad ρ x q ≡ u +ℤ pos 6 *ℤ ρ *ℤ x
    unfolding quad
    quad_is ρ q x u e = go ρ q x ∙ ap (λ (z : ℤ). z +ℤ pos 6 *ℤ ρ *ℤ x) (sym e)
      where
        go : (ρ q x : ℤ) → pos 2 *ℤ (ρ *ℤ ρ) +ℤ pos 6 *ℤ (ρ *ℤ x) +ℤ pos 9 *ℤ (x *ℤ x) -ℤ pos 3 *ℤ q ≡ pos 2 *ℤ (ρ *ℤ ρ) -ℤ pos 3 *ℤ q +ℤ pos 9 *ℤ x *ℤ x +ℤ pos 6 *ℤ ρ *ℤ x
        go ρ q x = ring-by (ρ ∷ q ∷ x ∷ []) (search quotes depth 20) (search quotes depth 20) tt

    whole_part : (L : Lattice) (i w : ℕ) → L.weight i ≡ w → dot (L.e i) (vec v) ≡ d
        → equilibrium_dir L v.rho (vec v) i ≡ quot_z (pos w *ℤ (pos (nat_abs (even_of d k)) +ℤ pos (6 * r) *ℤ d)) (pos (72 * r))
    unfolding equilibrium_dir cut_equilibrium
    whole_part L i w hw hd =
        ap₂ (λ (n : ℕ) (q : ℤ). quot_z (pos n *ℤ q) (pos 72 *ℤ v.rho)) hw
        (ap (λ (z : ℤ). quad v.rho z (dot (vec v) (vec v))) hd
        ∙ quad_is v.rho (dot (vec v) (vec v)) d (pos (nat_abs (even_of d k))) (ap pos even-abs ∙ sym even_is ∙ ap (λ (b : ℤ). b +ℤ pos 9 *ℤ d *ℤ d) is.base))
        ∙ ap (λ (ρ : ℤ). quot_z (pos w *ℤ (pos (nat_abs (even_of d k)) +ℤ pos 6 *ℤ ρ *ℤ d)) (pos 72 *ℤ ρ)) rho-is

    part-is : (L : Lattice) (i w n : ℕ) → 0 < w → w * n ≡ 12 → L.weight i ≡ w → dot (L.e i) (vec v) ≡ d
        → equilibrium_dir L v.rho (vec v) i ≡ pos (nat_abs (pos (even_share d k) +ℤ d) / n)
    part-is L i w n o t hw hd =
        whole_part L i w hw hd ∙ parted r (nat_abs (even_of d k)) d (omega (arith, r_some)) share-wide w n o t
        ∙ ap (λ (m : ℕ). pos (nat_abs (pos (nat_abs (even_of d k) / m) +ℤ d) / n)) (sym is.den)

  -- ---- a pair: directions i and j with opposite vectors
  neg-few : (d : ℤ) → 9 * square d ≤ 2 * (r * r) → 9 * square (neg_ℤ d) ≤ 2 * (r * r)
  unfolding square
  neg-few d h = rw (abs_neg d) h

  even-neg : (k : Shared) (d : ℤ) → even_of (neg_ℤ d) k ≡ even_of d k
  even-neg k d = go k.base d
    where
      go : (b d : ℤ) → b +ℤ pos 9 *ℤ neg_ℤ d *ℤ neg_ℤ d ≡ b +ℤ pos 9 *ℤ d *ℤ d
      go b d = ring-by (b ∷ d ∷ []) (search quotes depth 20) (search quotes depth 20) tt

  module _ (k : Shared) (is : SharedIs v k) (d : ℤ) (few : 9 * square d ≤ 2 * (r * r)) where
    pub pair_is : (L : Lattice) (i j w n : ℕ) → 0 < w → w * n ≡ 12 → L.weight i ≡ w → L.weight j ≡ w → dot (L.e i) (vec v) ≡ d → dot (L.e j) (vec v) ≡ neg_ℤ d
        → pair_of d k n ≡ equilibrium_dir L v.rho (vec v) i +ℤ equilibrium_dir L v.rho (vec v) j
    pair_is L i j w n o t wi wj hi hj =
        sym (ap₂ ◌+ℤ◌ (part-is k is d few L i w n o t wi hi)
        (part-is k is (neg_ℤ d) (neg-few d few) L j w n o t wj hj ∙ ap (λ (z : ℤ). pos (nat_abs (pos (nat_abs z / k.den) -ℤ d) / n)) (even-neg k d)))
