-- Where 10·|j|² ≤ ρ² the collision keeps the rule 9·|j|² ≤ ρ². A collided part lies less than one unit from its exact BGK value, and the exact ones have
-- stage 3's momentum but for what the relaxation leaves of gravity's pull: so along each axis it moves by less than a 128th of the density. Assumes nothing.
use mathlib.Core.Path.{◌≡◌, sym, ap, ap₂, ◌∙◌, subst}
use mathlib.Core.Bool.{true}
use mathlib.Core.List.{List, [], ◌∷◌}
use Prim.Native.Nat.{ℕ, suc, ◌+◌, ◌*◌, ◌≤◌, ◌<◌}
use native.Mathlib.Nat.{mul-le-mul, mul-le-mul_left, le_of_mul-le-mul_left, div-mul-le_self}
use native.Mathlib.Omega.{arith}
use lib.IntN.{ℤ, pos, neg_ℤ, nat_abs, ◌+ℤ◌, ◌-ℤ◌, ◌*ℤ◌, -ℤ-+ℤ_cancel}
use lib.Signed.{le_z, quot_z}
use lib.Dec.{leb}
use lib.ListN.{get_or}
use borrow.Author.Tests.{leb-true, le-leb}
use Rattle.whole.specs.Fold.{up, dirs, all, tab, open-fold}
use Rattle.whole.specs.laws.Bools.{and_left, and_yes}
use Rattle.whole.specs.laws.Bounds.{abs_neg, abs-add, abs-mul, abs-quot, abs-above}
use Rattle.whole.specs.laws.Machine.{Within}
use Rattle.whole.specs.laws.Quot.{cut-near}
use Rattle.whole.specs.laws.Ring.{ring-by, ring-from, square-pos, quotes}
use Rattle.whole.specs.laws.Sums.{sum-cong, sum_first, sum-add, sum-sub, sum-scale, sum-abs}
use Rattle.whole.specs.laws.Tab.{get_or-tab}
use Rattle.lattice.specs.Lattice.{V3, dot, d3q19, density, momentum, open-lattice}
use Rattle.lattice.specs.Cell.{part_good, dense, slow, pull, quad, relaxed, relaxation_good, open-cell}
use Rattle.lattice.specs.Body.{body_good, relaxed_dir, collided_part}
use Rattle.lattice.specs.inner.Held.{parts_of, vec, steady_flow}
use Rattle.lattice.specs.declared.Flow.{Flow}
use Rattle.lattice.specs.declared.Settings.{Settings}
use Rattle.lattice.proofs.Ranges.{weak-x, weak-y, weak-z}
use Rattle.lattice.proofs.Table.{unit-in}
use Rattle.lattice.proofs.Tame.{steady-tame}
use Rattle.collision.specs.inner.Post.{Pulled}
use Rattle.landings.proofs.Landed.{slack}
use Rattle.grid.specs.Outcome.{settings_good}
use Rattle.grid.proofs.Same.{density-same, momentum-same}
use Rattle.flow.specs.inner.Gentle.{gentle, Follows}
use Rattle.flow.proofs.Collisions.{gravity-of}

-- ---- parts that follow a gentle flow keep the rule: 16(x + a)² is 17x² + 272a² less (x − 16a)²
stretched : (x X : ℤ) → 16 * (nat_abs X * nat_abs X) ≤ 17 * (nat_abs x * nat_abs x) + 272 * (nat_abs (X -ℤ x) * nat_abs (X -ℤ x))
stretched x X =
    let s = x -ℤ pos 16 *ℤ (X -ℤ x) in
    let e : pos 17 *ℤ (x *ℤ x) +ℤ pos 272 *ℤ ((X -ℤ x) *ℤ (X -ℤ x)) ≡ pos 16 *ℤ (X *ℤ X) +ℤ (x -ℤ pos 16 *ℤ (X -ℤ x)) *ℤ (x -ℤ pos 16 *ℤ (X -ℤ x)) =
    ring-by (x ∷ X ∷ []) (search quotes depth 20) (search quotes depth 20) tt in
    omega (arith, ap up (rw (square-pos x, square-pos X, square-pos (X -ℤ x), square-pos s) at e))

nines : (r x y z X Y Z a b c : ℕ) → 10 * (x * x + y * y + z * z) ≤ r * r
    → 16 * (X * X) ≤ 17 * (x * x) + 272 * (a * a) → 16 * (Y * Y) ≤ 17 * (y * y) + 272 * (b * b) → 16 * (Z * Z) ≤ 17 * (z * z) + 272 * (c * c)
    → 128 * a ≤ r → 128 * b ≤ r → 128 * c ≤ r → 9 * (X * X + Y * Y + Z * Z) ≤ r * r
nines r x y z X Y Z a b c h hx hy hz ha hb hc = omega (arith, mul-le-mul ha ha, mul-le-mul hb hb, mul-le-mul hc hc)

squares : (k : ℕ) (a b c r : ℤ) → le_z (pos k *ℤ (a *ℤ a +ℤ b *ℤ b +ℤ c *ℤ c)) (r *ℤ r) ≡ leb (k * (nat_abs a * nat_abs a + nat_abs b * nat_abs b + nat_abs c * nat_abs c)) (nat_abs r * nat_abs r)
squares k a b c r = rw (square-pos a, square-pos b, square-pos c, square-pos r)

module _ (v : Flow) (f : List ℤ) (h : Follows v f) where
  abbrev J : V3
  J = momentum d3q19 (parts_of f)

  still-slow : gentle v ≡ true → slow (density d3q19 (parts_of f)) (dot J J) ≡ true
  unfolding gentle slow
  still-slow g =
      ap (λ (ρ : ℤ). slow ρ (dot J J)) h.rho
      ∙ squares 9 J.x J.y J.z v.rho
      ∙ le-leb _ _ (nines (nat_abs v.rho) (nat_abs v.x) (nat_abs v.y) (nat_abs v.z) (nat_abs J.x) (nat_abs J.y) (nat_abs J.z) _ _ _
      (leb-true _ _ (sym (squares 10 v.x v.y v.z v.rho) ∙ g))
      (stretched v.x J.x) (stretched v.y J.y) (stretched v.z J.z) h.x h.y h.z)

  -- of the rules of a liquid cell's body only that of the parts is left
  pub body_kept : steady_flow v ≡ true → gentle v ≡ true → all 19 (λ k. part_good (parts_of f k)) ≡ body_good d3q19 (parts_of f)
  unfolding body_good d3q19 steady_flow
  body_kept s g =
      sym (and_yes _ _ (still-slow g) ∙ and_yes _ _ (ap dense h.rho ∙ and_left (dense v.rho) (slow v.rho (dot (vec v) (vec v))) s))

-- ---- the equilibrium's momentum is the flow's, times 72ρ
abbrev equilibrium : ℤ → V3 → ℕ → ℤ
equilibrium ρ j k = pos (d3q19.weight k) *ℤ quad ρ (dot (d3q19.e k) j) (dot j j)

carried-x : (ρ : ℤ) (j : V3) → dirs 18 (λ k. equilibrium ρ j k *ℤ (d3q19.e k).x) ≡ pos 72 *ℤ (ρ *ℤ j.x)
unfolding open-fold open-lattice open-cell
carried-x ρ j = ring-by (ρ ∷ j.x ∷ j.y ∷ j.z ∷ []) (search quotes depth 60 fits 5000) (search quotes depth 20) tt

carried-y : (ρ : ℤ) (j : V3) → dirs 18 (λ k. equilibrium ρ j k *ℤ (d3q19.e k).y) ≡ pos 72 *ℤ (ρ *ℤ j.y)
unfolding open-fold open-lattice open-cell
carried-y ρ j = ring-by (ρ ∷ j.x ∷ j.y ∷ j.z ∷ []) (search quotes depth 60 fits 5000) (search quotes depth 20) tt

carried-z : (ρ : ℤ) (j : V3) → dirs 18 (λ k. equilibrium ρ j k *ℤ (d3q19.e k).z) ≡ pos 72 *ℤ (ρ *ℤ j.z)
unfolding open-fold open-lattice open-cell
carried-z ρ j = ring-by (ρ ∷ j.x ∷ j.y ∷ j.z ∷ []) (search quotes depth 60 fits 5000) (search quotes depth 20) tt

-- ---- along one axis, on which direction k goes u k
module _ (ρ : ℤ) (j : V3) (p : ℤ) (f u : ℕ → ℤ) where
  abbrev scale : ℤ
  scale = pos 73728 *ℤ ρ

  abbrev growth : ℕ → ℤ
  growth k = p *ℤ (equilibrium ρ j k -ℤ pos 72 *ℤ (ρ *ℤ f k))

  -- what the cut leaves of a part's growth
  abbrev left : ℕ → ℤ
  left k = growth k -ℤ scale *ℤ quot_z (growth k) scale

  one : (k : ℕ) → scale *ℤ (relaxed_dir d3q19 ρ j p f k *ℤ u k) ≡ pos 72 *ℤ (ρ *ℤ (pos 1024 -ℤ p)) *ℤ (f k *ℤ u k) +ℤ p *ℤ (equilibrium ρ j k *ℤ u k) -ℤ left k *ℤ u k
  unfolding relaxed_dir relaxed
  one k = apart ρ (f k) (quot_z (growth k) scale) (u k) p (equilibrium ρ j k)
    where
      apart : (ρ f q u p e : ℤ) → pos 73728 *ℤ ρ *ℤ ((f +ℤ q) *ℤ u)
          ≡ pos 72 *ℤ (ρ *ℤ (pos 1024 -ℤ p)) *ℤ (f *ℤ u) +ℤ p *ℤ (e *ℤ u) -ℤ (p *ℤ (e -ℤ pos 72 *ℤ (ρ *ℤ f)) -ℤ pos 73728 *ℤ ρ *ℤ q) *ℤ u
      apart ρ f q u p e = ring-by (ρ ∷ f ∷ q ∷ u ∷ p ∷ e ∷ []) (search quotes depth 30 fits 5000) (search quotes depth 30 fits 5000) tt

  abbrev before : ℤ
  before = dirs 18 (λ k. f k *ℤ u k)

  abbrev after : ℤ
  after = dirs 18 (λ k. relaxed_dir d3q19 ρ j p f k *ℤ u k)

  abbrev lost : ℤ
  lost = dirs 18 (λ k. left k *ℤ u k)

  together : scale *ℤ after ≡ pos 72 *ℤ (ρ *ℤ (pos 1024 -ℤ p)) *ℤ before +ℤ p *ℤ dirs 18 (λ k. equilibrium ρ j k *ℤ u k) -ℤ lost
  together =
      sym (sum-scale 18 scale (λ a. relaxed_dir d3q19 ρ j p f (suc a) *ℤ u (suc a)))
      ∙ sum-cong 18 _ _ (λ a h. one (suc a))
      ∙ sum-sub 18 (λ a. pos 72 *ℤ (ρ *ℤ (pos 1024 -ℤ p)) *ℤ (f (suc a) *ℤ u (suc a)) +ℤ p *ℤ (equilibrium ρ j (suc a) *ℤ u (suc a))) (λ a. left (suc a) *ℤ u (suc a))
      ∙ ap (λ (z : ℤ). z -ℤ lost)
      (sum-add 18 (λ a. pos 72 *ℤ (ρ *ℤ (pos 1024 -ℤ p)) *ℤ (f (suc a) *ℤ u (suc a))) (λ a. p *ℤ (equilibrium ρ j (suc a) *ℤ u (suc a)))
      ∙ ap₂ ◌+ℤ◌ (sum-scale 18 (pos 72 *ℤ (ρ *ℤ (pos 1024 -ℤ p))) (λ a. f (suc a) *ℤ u (suc a))) (sum-scale 18 p (λ a. equilibrium ρ j (suc a) *ℤ u (suc a))))

  -- where the flow is what streamed in and g more: what the relaxation leaves of g, and the cuts
  module _ (g : ℤ) (e : dirs 18 (λ k. equilibrium ρ j k *ℤ u k) ≡ pos 72 *ℤ (ρ *ℤ (before +ℤ g))) where
    moved : scale *ℤ (after -ℤ (before +ℤ g)) ≡ neg_ℤ (pos 72 *ℤ (ρ *ℤ (pos 1024 -ℤ p)) *ℤ g +ℤ lost)
    moved = so ρ p g after before lost (together ∙ ap (λ (w : ℤ). pos 72 *ℤ (ρ *ℤ (pos 1024 -ℤ p)) *ℤ before +ℤ p *ℤ w -ℤ lost) e)
      where
        so : (ρ p g A B S : ℤ) → pos 73728 *ℤ ρ *ℤ A ≡ pos 72 *ℤ (ρ *ℤ (pos 1024 -ℤ p)) *ℤ B +ℤ p *ℤ (pos 72 *ℤ (ρ *ℤ (B +ℤ g))) -ℤ S
            → pos 73728 *ℤ ρ *ℤ (A -ℤ (B +ℤ g)) ≡ neg_ℤ (pos 72 *ℤ (ρ *ℤ (pos 1024 -ℤ p)) *ℤ g +ℤ S)
        so ρ p g A B S h =
            ring-from (ρ ∷ p ∷ g ∷ A ∷ B ∷ S ∷ []) {k = pos 1} h (search quotes depth 30 fits 5000) (search quotes depth 30 fits 5000) (search quotes depth 30 fits 5000) (search quotes depth 30 fits 5000) (search quotes depth 30 fits 5000) tt

    module _ (n : 0 < nat_abs ρ) (s : Within (pos 1024 -ℤ p) 1023) (i : (k : ℕ) → k < 18 → nat_abs (u (suc k)) ≤ 1) where
      lost-in : nat_abs lost ≤ 18 * nat_abs scale
      lost-in =
          sum-abs 18 (λ a. left (suc a) *ℤ u (suc a)) (nat_abs scale)
          (λ a h. omega (arith, abs-mul (left (suc a)) (u (suc a)), mul-le-mul_left (nat_abs (left (suc a))) (i a h), cut-near (growth (suc a)) scale (omega (arith, abs-mul (pos 73728) ρ))))

      pub followed : nat_abs (after -ℤ (before +ℤ g)) ≤ nat_abs g + 18
      followed =
          least (nat_abs ρ) _ (nat_abs g) (nat_abs (pos 1024 -ℤ p)) (nat_abs lost) n s.abs (omega (arith, lost-in, abs-mul (pos 73728) ρ))
          (omega (
            arith,
            ap nat_abs moved,
            abs-mul scale (after -ℤ (before +ℤ g)),
            ap (λ (n : ℕ). n * nat_abs (after -ℤ (before +ℤ g))) (abs-mul (pos 73728) ρ),
            abs_neg (pos 72 *ℤ (ρ *ℤ (pos 1024 -ℤ p)) *ℤ g +ℤ lost),
            abs-add (pos 72 *ℤ (ρ *ℤ (pos 1024 -ℤ p)) *ℤ g) lost,
            abs-mul (pos 72 *ℤ (ρ *ℤ (pos 1024 -ℤ p))) g,
            ap (λ (n : ℕ). n * nat_abs g) (abs-mul (pos 72) (ρ *ℤ (pos 1024 -ℤ p))),
            ap (λ (n : ℕ). n * nat_abs g) (abs-mul ρ (pos 1024 -ℤ p)),
          ))
        where
          least : (r m G q S : ℕ) → 0 < r → q ≤ 1023 → S ≤ 18 * (73728 * r) → 73728 * r * m ≤ 72 * (r * q) * G + S → m ≤ G + 18
          least r m G q S n h k l =
              let t : 73728 * m ≤ 73656 * G + 1327104 = le_of_mul-le-mul_left (omega (arith, mul-le-mul_left (r * G) h)) n in
              omega arith

-- ---- gravity pulls by less than a thousandth of the density
pull-small : (ρ g : ℤ) → Within g 1048 → 1048576 * nat_abs (pull ρ g) ≤ 1048 * nat_abs ρ
unfolding pull
pull-small ρ g h =
    omega (arith, abs-quot (ρ *ℤ g) (pos 1048576), abs-mul ρ g, div-mul-le_self (nat_abs (ρ *ℤ g)) 1048576, mul-le-mul_left (nat_abs ρ) h.abs)

small : (m G r : ℕ) → m ≤ G + 18 → 1048576 * G ≤ 1048 * r → 294912 ≤ r → 128 * m ≤ r
small m G r h k l = omega arith

-- ---- all three axes
module _ (f r : List ℤ) (w v : Flow) (g : Settings) (p : ℤ) (s : settings_good g ≡ true) (q : relaxation_good p ≡ true) (t : steady_flow v ≡ true)
    (j : vec w ≡ momentum d3q19 (parts_of f)) (b : Pulled w g v) (made : r ≡ tab 19 (collided_part d3q19 v.rho (vec v) p (parts_of f))) where
  part-is : (k : ℕ) → k ≤ 18 → parts_of r k ≡ collided_part d3q19 v.rho (vec v) p (parts_of f) k
  part-is k h = ap (λ (x : List ℤ). get_or x k (pos 0)) made ∙ get_or-tab 19 _ (pos 0) k (omega arith)

  heavy : 294912 ≤ nat_abs v.rho
  heavy = abs-above (steady-tame v t).low

  -- along one axis
  along : (u : ℕ → ℤ) (was now pulls : ℤ) → ((k : ℕ) → k < 18 → nat_abs (u (suc k)) ≤ 1) → dirs 18 (λ k. equilibrium v.rho (vec v) k *ℤ u k) ≡ pos 72 *ℤ (v.rho *ℤ now)
      → was ≡ dirs 18 (λ k. parts_of f k *ℤ u k) → now ≡ was +ℤ pulls → 1048576 * nat_abs pulls ≤ 1048 * nat_abs v.rho
      → 128 * nat_abs (dirs 18 (λ k. relaxed_dir d3q19 v.rho (vec v) p (parts_of f) k *ℤ u k) -ℤ now) ≤ nat_abs v.rho
  along u was now pulls i e o n l =
      let is : now ≡ dirs 18 (λ k. parts_of f k *ℤ u k) +ℤ pulls = n ∙ ap (λ (z : ℤ). z +ℤ pulls) o in
      subst (λ (z : ℤ). 128 * nat_abs (dirs 18 (λ k. relaxed_dir d3q19 v.rho (vec v) p (parts_of f) k *ℤ u k) -ℤ z) ≤ nat_abs v.rho) (sym is)
      (small _ (nat_abs pulls) (nat_abs v.rho)
      (followed v.rho (vec v) p (parts_of f) u pulls (e ∙ ap (λ (z : ℤ). pos 72 *ℤ (v.rho *ℤ z)) is) (omega (arith, heavy)) (slack p q) i) l heavy)

  pulled-by : (a : ℤ) → Within a 1048 → 1048576 * nat_abs (pull w.rho a) ≤ 1048 * nat_abs v.rho
  pulled-by a h = subst (λ (z : ℤ). 1048576 * nat_abs (pull w.rho a) ≤ 1048 * nat_abs z) (sym b.rho) (pull-small w.rho a h)

  momentum-is : momentum d3q19 (parts_of r) ≡ momentum d3q19 (collided_part d3q19 v.rho (vec v) p (parts_of f))
  unfolding d3q19
  momentum-is = momentum-same d3q19 (parts_of r) (collided_part d3q19 v.rho (vec v) p (parts_of f)) part-is

  follows-rho : density d3q19 (parts_of r) ≡ v.rho
  unfolding d3q19 density collided_part
  follows-rho =
      density-same d3q19 (parts_of r) (collided_part d3q19 v.rho (vec v) p (parts_of f)) part-is
      ∙ sum_first 18 (collided_part d3q19 v.rho (vec v) p (parts_of f)) ∙ -ℤ-+ℤ_cancel v.rho (dirs 18 (relaxed_dir d3q19 v.rho (vec v) p (parts_of f)))

  pub follows : Follows v r
  unfolding d3q19 momentum collided_part
  follows =
      let G = gravity-of g s in
      record {
        rho = follows-rho;
        x = subst (λ (m : V3). 128 * nat_abs (m.x -ℤ v.x) ≤ nat_abs v.rho) (sym momentum-is)
            (along (λ k. (d3q19.e k).x) w.x v.x (pull w.rho g.gx) (λ k h. (unit-in (suc k) (omega arith)).0.abs) (carried-x v.rho (vec v)) (ap (λ (m : V3). m.x) j) b.x (pulled-by g.gx (weak-x g.gx g.gy g.gz G)));
        y = subst (λ (m : V3). 128 * nat_abs (m.y -ℤ v.y) ≤ nat_abs v.rho) (sym momentum-is)
            (along (λ k. (d3q19.e k).y) w.y v.y (pull w.rho g.gy) (λ k h. (unit-in (suc k) (omega arith)).1.abs) (carried-y v.rho (vec v)) (ap (λ (m : V3). m.y) j) b.y (pulled-by g.gy (weak-y g.gx g.gy g.gz G)));
        z = subst (λ (m : V3). 128 * nat_abs (m.z -ℤ v.z) ≤ nat_abs v.rho) (sym momentum-is)
            (along (λ k. (d3q19.e k).z) w.z v.z (pull w.rho g.gz) (λ k h. (unit-in (suc k) (omega arith)).2.abs) (carried-z v.rho (vec v)) (ap (λ (m : V3). m.z) j) b.z (pulled-by g.gz (weak-z g.gx g.gy g.gz G)));
      }
