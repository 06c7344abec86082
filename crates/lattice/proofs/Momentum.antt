-- The momentum by pairs: opposite directions differ in sign, so each pair's difference counts. Assumes nothing.
use mathlib.Core.Path.{◌≡◌, refl, ◌∙◌, ap, subst}
use mathlib.Core.List.{List, [], ◌∷◌}
use Prim.Native.Nat.{ℕ, suc, ◌+◌, ◌*◌, ◌<◌}
use native.Mathlib.Omega.{arith}
use lib.Dec.{lit<}
use lib.IntN.{ℤ, nat_abs, ◌+ℤ◌, ◌-ℤ◌}
use Rattle.whole.specs.Fold.{sum, open-fold}
use Rattle.whole.specs.laws.Bounds.{abs-add, abs-sub}
use Rattle.whole.specs.laws.Ring.{var, nth, Code, q+, q*, qneg, qpos, qnegsuc, ring-by}
use Rattle.whole.specs.laws.Sums.{sum_first, sum-abs}
use Rattle.whole.specs.laws.Machine.{Within, within_by}
use Rattle.lattice.specs.Lattice.{V3, density, momentum, d3q19, open-lattice}
use Rattle.lattice.specs.inner.Held.{parts_of, Bounded}
use Rattle.lattice.proofs.Reading.{reading}

-- ---- quoting with any number of variables
pub record Place (ρ : List ℤ) (a : ℤ) : Type 0 where
  pub at : ℕ
  pub is : nth ρ at ≡ a

abbrev pub here : {ρ : List ℤ} {a : ℤ} → Place (a ∷ ρ) a
here = record { at = 0; is = refl }

abbrev pub there : {ρ : List ℤ} {a b : ℤ} → Place ρ a → Place (b ∷ ρ) a
there p = record { at = suc p.at; is = p.is }

abbrev pub qvar : {ρ : List ℤ} {a : ℤ} → Place ρ a → Code ρ a
qvar p = record { code = var p.at; is = p.is }

pub ruleset many = (qvar, here, there, q+, q*, qneg, qpos, qnegsuc)

-- ---- the pairs
abbrev pub all-parts : (ℕ → ℤ) → List ℤ
all-parts f = f 1 ∷ f 2 ∷ f 3 ∷ f 4 ∷ f 5 ∷ f 6 ∷ f 7 ∷ f 8 ∷ f 9 ∷ f 10 ∷ f 11 ∷ f 12 ∷ f 13 ∷ f 14 ∷ f 15 ∷ f 16 ∷ f 17 ∷ f 18 ∷ []

-- what pair h carries along its direction
abbrev pub pair : (ℕ → ℤ) → ℕ → ℤ
pair f h = f (2 * h + 1) -ℤ f (2 * h + 2)

abbrev pub along-x : (ℕ → ℤ) → ℤ
along-x f = pair f 0 +ℤ pair f 3 +ℤ pair f 4 +ℤ pair f 7 +ℤ pair f 8

abbrev pub along-y : (ℕ → ℤ) → ℤ
along-y f = pair f 1 +ℤ pair f 3 -ℤ pair f 4 +ℤ pair f 5 +ℤ pair f 6

abbrev pub along-z : (ℕ → ℤ) → ℤ
along-z f = pair f 2 +ℤ pair f 5 -ℤ pair f 6 +ℤ pair f 7 -ℤ pair f 8

pub x-pairs : (f : ℕ → ℤ) → along-x f ≡ (momentum d3q19 f).x
unfolding open-fold open-lattice
x-pairs f = ring-by (all-parts f) (search many depth 60 fits 50000) (search many depth 60 fits 50000) tt

pub y-pairs : (f : ℕ → ℤ) → along-y f ≡ (momentum d3q19 f).y
unfolding open-fold open-lattice
y-pairs f = ring-by (all-parts f) (search many depth 60 fits 50000) (search many depth 60 fits 50000) tt

pub z-pairs : (f : ℕ → ℤ) → along-z f ≡ (momentum d3q19 f).z
unfolding open-fold open-lattice
z-pairs f = ring-by (all-parts f) (search many depth 60 fits 50000) (search many depth 60 fits 50000) tt

-- ---- bounds
pub pair-in : (f : List ℤ) → Bounded f 1073741824 33554432 → (h : ℕ) → h < 9 → Within (pair (parts_of f) h) 67108864
pair-in f b h k =
    record { abs = omega (arith, abs-sub (parts_of f (2 * h + 1)) (parts_of f (2 * h + 2)), (b.at (2 * h + 1) (omega arith) (omega arith)).abs, (b.at (2 * h + 2) (omega arith) (omega arith)).abs) }

module _ (f : List ℤ) (b : Bounded f 1073741824 33554432) where
  pub x-in : Within (momentum d3q19 (parts_of f)).x 335544320
  x-in =
      let x = pair-in f b 0 (lit< tt) in
      let xy = pair-in f b 3 (lit< tt) in
      let yx = pair-in f b 4 (lit< tt) in
      let xz = pair-in f b 7 (lit< tt) in
      let zx = pair-in f b 8 (lit< tt) in
      subst (λ (z : ℤ). Within z 335544320) (x-pairs (parts_of f)) (within_by (search reading depth 20) tt)

  pub y-in : Within (momentum d3q19 (parts_of f)).y 335544320
  y-in =
      let y = pair-in f b 1 (lit< tt) in
      let xy = pair-in f b 3 (lit< tt) in
      let yx = pair-in f b 4 (lit< tt) in
      let yz = pair-in f b 5 (lit< tt) in
      let zy = pair-in f b 6 (lit< tt) in
      subst (λ (z : ℤ). Within z 335544320) (y-pairs (parts_of f)) (within_by (search reading depth 20) tt)

  pub z-in : Within (momentum d3q19 (parts_of f)).z 335544320
  z-in =
      let z = pair-in f b 2 (lit< tt) in
      let yz = pair-in f b 5 (lit< tt) in
      let zy = pair-in f b 6 (lit< tt) in
      let xz = pair-in f b 7 (lit< tt) in
      let zx = pair-in f b 8 (lit< tt) in
      subst (λ (z : ℤ). Within z 335544320) (z-pairs (parts_of f)) (within_by (search reading depth 20) tt)

  pub density-in : Within (density d3q19 (parts_of f)) 1677721600
  unfolding density d3q19
  density-in =
      record {
        abs =
            omega (
              arith,
              ap nat_abs (sum_first 18 (parts_of f)),
              abs-add (parts_of f 0) (sum 18 (λ a. parts_of f (suc a))),
              b.rest.abs,
              sum-abs 18 (λ a. parts_of f (suc a)) 33554432 (λ a h. (b.at (suc a) (omega arith) (omega arith)).abs),
            );
      }

-- ---- vectors by components
pub same-vector : (a b : V3) → a.x ≡ b.x → a.y ≡ b.y → a.z ≡ b.z → a ≡ b
same-vector a b p q r =
    ap (λ (t : ℤ). vector t a.y a.z) p ∙ ap (λ (t : ℤ). vector b.x t a.z) q ∙ ap (λ (t : ℤ). vector b.x b.y t) r
  where
    vector : ℤ → ℤ → ℤ → V3
    vector x y z = record { x = x; y = y; z = z }
