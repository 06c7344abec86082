-- How large the numbers of stage 1 can be, from cells with parts, density and speed in their ranges. Assumes nothing.
use mathlib.Core.Path.{◌≡◌, refl, sym, ap, ap₂, ◌∙◌, subst}
use mathlib.Core.Bool.{Bool, true, false, ◌||◌, false≢true}
use mathlib.Core.List.{List, [], ◌∷◌}
use mathlib.Core.Logic.{◌⊎◌, inl, inr, ⊎_elim}
use Prim.Native.Nat.{ℕ, zero, suc, ◌+◌, ◌-◌, ◌*◌, ◌/◌, ◌≤◌, ◌<◌}
use native.Mathlib.Nat.{mul-le-mul, mul-le-mul_left, mul-le-mul_right, div-le_of_le-mul, le_trans, le_of_eq}
use native.Mathlib.Omega.{arith}
use lib.Dec.{eqb, leb}
use lib.ListN.{length, get_or}
use lib.IntN.{ℤ, pos, nat_abs, ◌+ℤ◌, ◌-ℤ◌, ◌*ℤ◌}
use lib.Signed.{◌≤ℤ◌}
use borrow.Author.Tests.{leb-true}
use Rattle.whole.specs.laws.Bools.{and-true}
use Rattle.whole.specs.laws.Bounds.{abs-add, abs-sub, abs-mul, abs-quot}
use Rattle.whole.specs.Fold.{tab, open-fold}
use Rattle.whole.specs.laws.Machine.{Within}
use Rattle.whole.specs.laws.Order.{le_z-true, squares, slow-x}
use Rattle.whole.specs.laws.Ring.{ring-by, quotes}
use Rattle.whole.specs.laws.Search.{all-at}
use Rattle.whole.specs.laws.Tab.{get_or-tab}
use Rattle.lattice.specs.Lattice.{V3, dot, pair_opp, d3q19, density, momentum, open-lattice}
use Rattle.lattice.specs.Cell.{dense, slow, gas_pair}
use Rattle.lattice.specs.inner.Held.{parts_of, Bounded, vec, Tame, steady_flow}
use Rattle.lattice.specs.declared.Flow.{Flow}
use Rattle.lattice.specs.declared.Settings.{Settings}
use Rattle.lattice.proofs.Tame.{dense-in, steady-tame}
use Rattle.grid.specs.State.{Scene, liquid}
use Rattle.grid.specs.Step.{leans_to, arrives, streamed}
use Rattle.grid.specs.inner.Sight.{Body, Bodies, Around, sight}
use Rattle.grid.proofs.Same.{density-same, momentum-same}
use Rattle.arrivals.specs.inner.Sources.{Flows}
use Rattle.arrivals.proofs.Arrivals.{arrives-wall, arrives-rebuilt, arrives-liquid, opposite-some, opposite-most}

-- ---- the table: a direction's components, one computed test each

abbrev length-of : V3 → ℕ
length-of e = nat_abs e.x + nat_abs e.y + nat_abs e.z

pub short : (i : ℕ) → i < 19 → length-of (d3q19.e i) ≤ 2
unfolding open-lattice open-fold
short i h = leb-true (length-of (d3q19.e i)) 2 (all-at 19 (λ i. leb (length-of (d3q19.e i)) 2) refl i h)

pub weight-low : (i : ℕ) → 0 < i → i < 19 → d3q19.weight i ≤ 2
unfolding open-lattice open-fold
weight-low zero z h = absurd (omega arith)
weight-low (suc a) z h = leb-true (d3q19.weight (suc a)) 2 (all-at 18 (λ a. leb (d3q19.weight (suc a)) 2) refl a (omega arith))

-- ---- vectors

-- e·j, from a bound of each component of j
dot-abs : (e j : V3) → nat_abs (dot e j) ≤ nat_abs e.x * nat_abs j.x + nat_abs e.y * nat_abs j.y + nat_abs e.z * nat_abs j.z
dot-abs e j =
    omega (
      arith,
      abs-add (e.x *ℤ j.x +ℤ e.y *ℤ j.y) (e.z *ℤ j.z),
      abs-add (e.x *ℤ j.x) (e.y *ℤ j.y),
      abs-mul e.x j.x,
      abs-mul e.y j.y,
      abs-mul e.z j.z,
    )

leaning : (e j : V3) (r n : ℕ) → length-of e ≤ n → 3 * nat_abs j.x ≤ r → 3 * nat_abs j.y ≤ r → 3 * nat_abs j.z ≤ r → 3 * nat_abs (dot e j) ≤ n * r
leaning e j r n s hx hy hz =
    omega (
      arith,
      dot-abs e j,
      mul-le-mul_left (nat_abs e.x) hx,
      mul-le-mul_left (nat_abs e.y) hy,
      mul-le-mul_left (nat_abs e.z) hz,
      mul-le-mul_right r s,
    )

-- 9|j|² ≤ ρ², axis by axis
module _ (j : V3) (ρ : ℤ) (h : (pos 9 *ℤ dot j j) ≤ℤ (ρ *ℤ ρ)) where
  third-x : 3 * nat_abs j.x ≤ nat_abs ρ
  third-x = slow-x j.x j.y j.z ρ h

  third-y : 3 * nat_abs j.y ≤ nat_abs ρ
  third-y = slow-x j.y j.x j.z ρ (subst (λ (t : ℤ). t ≤ℤ (ρ *ℤ ρ)) (turn j.x j.y j.z) h)
    where
      turn : (x y z : ℤ) → pos 9 *ℤ (x *ℤ x +ℤ y *ℤ y +ℤ z *ℤ z) ≡ pos 9 *ℤ (y *ℤ y +ℤ x *ℤ x +ℤ z *ℤ z)
      turn x y z = ring-by (x ∷ y ∷ z ∷ []) (search quotes depth 20) (search quotes depth 20) tt

  third-z : 3 * nat_abs j.z ≤ nat_abs ρ
  third-z = slow-x j.z j.x j.y ρ (subst (λ (t : ℤ). t ≤ℤ (ρ *ℤ ρ)) (turn j.x j.y j.z) h)
    where
      turn : (x y z : ℤ) → pos 9 *ℤ (x *ℤ x +ℤ y *ℤ y +ℤ z *ℤ z) ≡ pos 9 *ℤ (z *ℤ z +ℤ x *ℤ x +ℤ y *ℤ y)
      turn x y z = ring-by (x ∷ y ∷ z ∷ []) (search quotes depth 20) (search quotes depth 20) tt

  square-third : 9 * nat_abs (dot j j) ≤ nat_abs ρ * nat_abs ρ
  square-third = omega (arith, dot-abs j j, squares j.x j.y j.z ρ h)

  -- what both opposite parts add up to beside an empty cell, before the division
  abbrev twice : ℤ → ℤ
  twice a = pos 2 *ℤ (ρ *ℤ ρ) +ℤ pos 9 *ℤ (a *ℤ a) -ℤ pos 3 *ℤ dot j j

  upper : (a : ℤ) (t : ℕ) → 3 * nat_abs a * (3 * nat_abs a) ≤ t → nat_abs (twice a) ≤ 3 * (nat_abs ρ * nat_abs ρ) + t
  upper a t k =
      omega (
        arith,
        abs-sub (pos 2 *ℤ (ρ *ℤ ρ) +ℤ pos 9 *ℤ (a *ℤ a)) (pos 3 *ℤ dot j j),
        abs-add (pos 2 *ℤ (ρ *ℤ ρ)) (pos 9 *ℤ (a *ℤ a)),
        abs-mul (pos 2) (ρ *ℤ ρ),
        abs-mul ρ ρ,
        abs-mul (pos 9) (a *ℤ a),
        abs-mul a a,
        abs-mul (pos 3) (dot j j),
        square-third,
      )

  gas-le : (w : ℕ) (a : ℤ) → nat_abs (twice a) * w ≤ 16 * (nat_abs ρ * nat_abs ρ) → Within (gas_pair w ρ a (dot j j)) 262144
  unfolding gas_pair
  gas-le w a k =
      let r = nat_abs ρ in
      let top : nat_abs (pos (w * 16384) *ℤ twice a) ≤ r * r * 262144 = omega (arith, abs-mul (pos (w * 16384)) (twice a)) in
      record {
        abs = le_trans (le_of_eq (abs-quot (pos (w * 16384) *ℤ twice a) (ρ *ℤ ρ) ∙ ap (λ (t : ℕ). nat_abs (pos (w * 16384) *ℤ twice a) / t) (abs-mul ρ ρ)))
            (div-le_of_le-mul (r * r) top);
      }

  -- the box's weights are at most 2; a weight of up to 4 goes with an axis
  pub gas-in : (w : ℕ) (e : V3) → ((w ≤ 4) × (length-of e ≤ 1)) ⊎ (w ≤ 2) → length-of e ≤ 2 → Within (gas_pair w ρ (dot e j) (dot j j)) 262144
  gas-in w e (inl h) s =
      let k = leaning e j (nat_abs ρ) 1 h.1 third-x third-y third-z in
      let b = upper (dot e j) _ (mul-le-mul k k) in
      gas-le w (dot e j) (omega (arith, mul-le-mul b h.0))
  gas-in w e (inr h) s =
      let k = leaning e j (nat_abs ρ) 2 s third-x third-y third-z in
      let b = upper (dot e j) _ (mul-le-mul k k) in
      gas-le w (dot e j) (omega (arith, mul-le-mul b h))

-- weights that gas and collisions can bear: at most 2, or along an axis at most 4
pub record Light (weights : ℕ → ℕ) : Type 0 where
  pub each : (i : ℕ) → 0 < i → i < 19 → ((weights i ≤ 4) × (length-of (d3q19.e i) ≤ 1)) ⊎ (weights i ≤ 2)

pub light-low : {weights : ℕ → ℕ} → Light weights → (i : ℕ) → 0 < i → i < 19 → weights i ≤ 4
light-low l i z h = ⊎_elim (λ a. a.0) (λ b. omega (arith, b)) (l.each i z h)

-- the box's
pub light19 : Light d3q19.weight
light19 = record { each = λ i z h. inr (weight-low i z h) }

-- ---- a liquid cell
module _ (f : ℕ → ℤ) (b : Body f) where
  abbrev ρ : ℤ
  ρ = density d3q19 f

  abbrev j : V3
  j = momentum d3q19 f

  within-third : (pos 9 *ℤ dot j j) ≤ℤ (ρ *ℤ ρ)
  unfolding slow
  within-third = le_z-true b.is-slow

  pub gas-body : {weights : ℕ → ℕ} → Light weights → (i : ℕ) → 0 < i → i < 19 → Within (gas_pair (weights i) ρ (dot (d3q19.e i) j) (dot j j)) 262144
  gas-body {weights} light i z h = gas-in j ρ within-third (weights i) (d3q19.e i) (light.each i z h) (short i h)

  pub along-body : (i : ℕ) → i < 19 → Within (dot (d3q19.e i) j) 1179648
  along-body i h =
      record { abs = omega (arith, leaning (d3q19.e i) j (nat_abs ρ) 2 (short i h) (third-x j ρ within-third) (third-y j ρ within-third) (third-z j ρ within-third), (dense-in ρ b.is-dense).abs) }

  pub tame-body : (v : Flow) → v.rho ≡ ρ → vec v ≡ j → Tame v
  unfolding steady_flow
  tame-body v p q =
      steady-tame v (and-true (dense v.rho) (slow v.rho (dot (vec v) (vec v))) (ap dense p ∙ b.is-dense) (ap₂ (λ (r : ℤ) (m : V3). slow r (dot m m)) p q ∙ b.is-slow))

  -- its parts, read into an array
  pub part-own : (l : List ℤ) → l ≡ tab 19 f → (k : ℕ) → k ≤ 18 → parts_of l k ≡ f k
  part-own l e k h = ap (λ (x : List ℤ). get_or x k (pos 0)) e ∙ get_or-tab 19 f (pos 0) k (omega arith)

  pub bounded-own : (l : List ℤ) → l ≡ tab 19 f → (r q : ℕ) → 1179648 ≤ r → 1179648 ≤ q → Bounded l r q
  bounded-own l e r q hr hq = record {
    rest = record { abs = omega (arith, ap nat_abs (part-own l e 0 (omega arith)), (b.parts 0 (omega arith)).abs) };
    at = λ k z h. record { abs = omega (arith, ap nat_abs (part-own l e k (omega arith)), (b.parts k (omega arith)).abs) };
  }

  pub density-own : (l : List ℤ) → l ≡ tab 19 f → density d3q19 (parts_of l) ≡ ρ
  unfolding d3q19
  density-own l e = density-same d3q19 (parts_of l) f (part-own l e)

  pub momentum-own : (l : List ℤ) → l ≡ tab 19 f → momentum d3q19 (parts_of l) ≡ j
  unfolding d3q19
  momentum-own l e = momentum-same d3q19 (parts_of l) f (part-own l e)

-- the flow of a cell, of its own parts
pub flows-own : (part : ℕ → ℕ → ℤ) (c : ℕ) {l : List ℤ} {v : Flow} → Body (part c) → l ≡ tab 19 (part c) → (v.rho ≡ density d3q19 (parts_of l)) × (vec v ≡ momentum d3q19 (parts_of l)) → Flows part c v
flows-own part c {l} b o e = record { density = e.0 ∙ density-own (part c) b l o; momentum = e.1 ∙ momentum-own (part c) b l o }

-- ---- what streams into a liquid cell
module _ (weights : ℕ → ℕ) (light : Light weights) (flags : List ℕ) (part : ℕ → ℕ → ℤ) (fills off : List ℕ) (low : ℕ) (g : Settings) (t : Bodies flags part) (c : ℕ) (a : Around (length flags) off low c) (l : liquid (get_or flags c 3) ≡ true) where
  abbrev S : Scene
  S = sight weights flags part [] fills off low g

  own_in : (k : ℕ) → k ≤ 18 → Within (part c k) 1179648
  own_in k h = (t.body c a.is-cell l).parts k h

  less : {x y : ℤ} → Within x 262144 → Within y 1179648 → Within (x -ℤ y) 1441792
  less {x} {y} h k = record { abs = omega (arith, abs-sub x y, h.abs, k.abs) }

  loose : {z : ℤ} → Within z 1179648 → Within z 1441792
  loose h = record { abs = omega (arith, h.abs) }

  arrives_in : (i k : ℕ) → 0 < i → i < 19 → k < 19 → Within (arrives S c i k) 1441792
  arrives_in i k z h m = go (get_or flags b 3) refl
    where
      b : ℕ
      b = (c - low) + get_or off i 0

      -- a neighbour that is no wall: rebuilt, or where it is liquid its own part
      open_in : get_or flags b 3 ≤ 2 → ((eqb (get_or flags b 3) 0 || leans_to S c i) ≡ false → liquid (get_or flags b 3) ≡ true) → Within (arrives S c i k) 1441792
      open_in n w = by (eqb (get_or flags b 3) 0 || leans_to S c i) refl
        where
          by : (r : Bool) → (eqb (get_or flags b 3) 0 || leans_to S c i) ≡ r → Within (arrives S c i k) 1441792
          by true e =
              subst (λ (x : ℤ). Within x 1441792) (sym (arrives-rebuilt weights flags part fills off low g c b i k refl n e))
              (less (gas-body (part c) (t.body c a.is-cell l) light i z h) (own_in i (omega arith)))
          by false e =
              subst (λ (x : ℤ). Within x 1441792) (sym (arrives-liquid weights flags part fills off low g c b i k refl n e))
              (loose ((t.body b (a.each i h) (w e)).parts k (omega arith)))

      go : (f : ℕ) → get_or flags b 3 ≡ f → Within (arrives S c i k) 1441792
      go zero e = open_in (omega arith) (λ n. absurd (false≢true (sym n ∙ rw e refl)))
      go (suc zero) e = open_in (omega arith) (λ n. ap liquid e)
      go (suc (suc zero)) e = open_in (omega arith) (λ n. ap liquid e)
      go (suc (suc (suc n))) e =
          subst (λ (x : ℤ). Within x 1441792) (sym (arrives-wall weights flags part fills off low g c b i k refl (omega arith))) (loose (own_in i (omega arith)))

  -- gas and an own part at the most
  pub streamed-low : (k : ℕ) → k ≤ 18 → Within (streamed S c k) 1441792
  unfolding streamed sight d3q19
  streamed-low zero h = loose (own_in 0 h)
  streamed-low (suc n) h = arrives_in (pair_opp (suc n)) (suc n) (opposite-some n) (opposite-most n (omega arith)) (omega arith)

  pub streamed-in : (k : ℕ) → k ≤ 18 → Within (streamed S c k) 1572864
  streamed-in k h = record { abs = omega (arith, (streamed-low k h).abs) }

  -- read into an array
  pub bounded-streamed : (x : List ℤ) → x ≡ tab 19 (streamed S c) → (r q : ℕ) → 1441792 ≤ r → 1441792 ≤ q → Bounded x r q
  bounded-streamed x e r q hr hq = record { rest = record { abs = omega (arith, (at 0 (omega arith)).abs) }; at = λ k z h. record { abs = omega (arith, (at k h).abs) } }
    where
      at : (k : ℕ) → k < 19 → Within (parts_of x k) 1441792
      at k h =
          subst (λ (y : ℤ). Within y 1441792) (sym (ap (λ (y : List ℤ). get_or y k (pos 0)) e ∙ get_or-tab 19 (streamed S c) (pos 0) k h)) (streamed-low k (omega arith))
