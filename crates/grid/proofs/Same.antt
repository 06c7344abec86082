-- Two states that agree on the grid's cells break the same rules at the same places. Assumes nothing.
use mathlib.Core.Path.{◌≡◌, refl, sym, ap, ap₂, ◌∙◌}
use mathlib.Core.Bool.{Bool, ◌&&◌, not, cond}
use Prim.Native.Nat.{ℕ, zero, suc, ◌+◌, ◌≤◌, ◌<◌}
use native.Mathlib.Nat.{le_of_suc-le-suc, zero-add}
use native.Mathlib.Decide.{ℕ_discrete}
use native.Mathlib.Omega.{arith}
use lib.Arith.{lt_of_le-ne}
use lib.IntN.{ℤ, pos, ◌*ℤ◌}
use lib.Dec.{eqb}
use borrow.Author.Tests.{eq-eqb, ne_eqb}
use Rattle.whole.specs.Fold.{all, dirs}
use Rattle.whole.specs.laws.Search.{first_cong}
use Rattle.whole.specs.laws.Sums.{sum-cong}
use Rattle.lattice.specs.Lattice.{V3, dot, Lattice, density, momentum}
use Rattle.lattice.specs.Cell.{dense, slow, part_good, mass_good, carry_good}
use Rattle.grid.specs.State.{State, by_flag}
use Rattle.grid.specs.Step.{fill_for}
use Rattle.grid.specs.Good.{dry_good, interface_good, fluid_good, fill_good, cell_good, bad_rule}
use Rattle.lattice.specs.Body.{body_good, eq_z}
use Rattle.grid.specs.Demands.{Same}

pub all_same : (n : ℕ) (f g : ℕ → Bool) → ((a : ℕ) → a < n → f a ≡ g a) → all n f ≡ all n g
unfolding all
all_same zero f g h = refl
all_same (suc n) f g h = ap₂ (λ (x y : Bool). x && y) (all_same n f g (λ a k. h a (omega arith))) (h n (omega arith))

-- ---- parts that agree: density, momentum, and the rules of one cell
module _ (L : Lattice) (f g : ℕ → ℤ) (h : (k : ℕ) → k ≤ L.q → f k ≡ g k) where
  pub density-same : density L f ≡ density L g
  unfolding density
  density-same = sum-cong (suc L.q) f g (λ a k. h a (le_of_suc-le-suc k))

  moment-same : (e : ℕ → ℤ) → dirs L.q (λ k. f k *ℤ e k) ≡ dirs L.q (λ k. g k *ℤ e k)
  moment-same e = sum-cong L.q (λ a. f (suc a) *ℤ e (suc a)) (λ a. g (suc a) *ℤ e (suc a)) (λ a k. ap (λ (z : ℤ). z *ℤ e (suc a)) (h (suc a) k))

  pub momentum-same : momentum L f ≡ momentum L g
  unfolding momentum
  momentum-same i = record {
    x = moment-same (λ k. (L.e k).x) i;
    y = moment-same (λ k. (L.e k).y) i;
    z = moment-same (λ k. (L.e k).z) i;
  }

  pub body_same : body_good L f ≡ body_good L g
  unfolding body_good
  body_same =
      three (all_same (suc L.q) (λ k. part_good (f k)) (λ k. part_good (g k)) (λ a k. ap part_good (h a (le_of_suc-le-suc k))))
      (ap dense density-same) (ap₂ (λ (ρ : ℤ) (j : V3). slow ρ (dot j j)) density-same momentum-same)
    where
      three : {a b c d e f : Bool} → a ≡ b → c ≡ d → e ≡ f → (a && c && e) ≡ (b && d && f)
      three u v w i = u i && v i && w i

  pub zeros-same : all (suc L.q) (λ k. eq_z (f k) (pos 0)) ≡ all (suc L.q) (λ k. eq_z (g k) (pos 0))
  zeros-same = all_same (suc L.q) (λ k. eq_z (f k) (pos 0)) (λ k. eq_z (g k) (pos 0)) (λ a k. ap (λ (z : ℤ). eq_z z (pos 0)) (h a (le_of_suc-le-suc k)))

module _ (L : Lattice) (n : ℕ) (s t : State) (same : Same L.q n s t) where
  pub cell_same : (c : ℕ) → c < n → cell_good L s c ≡ cell_good L t c
  unfolding cell_good dry_good interface_good fluid_good fill_good
  cell_same c k i =
      by_flag (f i) (d i) (b i && mass_good (m i)) (b i && eq_z (m i) (ρ i)) (d i) && eqb (φ i) (fill_for (f i) (m i) (ρ i))
    where
      f : s.flag c ≡ t.flag c
      f = same.flags c k

      m : s.mass c ≡ t.mass c
      m = same.masses c k

      φ : s.fill c ≡ t.fill c
      φ = same.fills c k

      ρ : density L (s.part c) ≡ density L (t.part c)
      ρ = density-same L (s.part c) (t.part c) (λ j. same.parts c j k)

      b : body_good L (s.part c) ≡ body_good L (t.part c)
      b = body_same L (s.part c) (t.part c) (λ j. same.parts c j k)

      d : dry_good L s c ≡ dry_good L t c
      d = ap₂ (λ (x : ℤ) (y : Bool). eq_z x (pos 0) && y) m (zeros-same L (s.part c) (t.part c) (λ j. same.parts c j k))

  pub bad-rule-same : bad_rule L n s ≡ bad_rule L n t
  unfolding bad_rule
  bad-rule-same = first_cong (suc n) 0 (test s) (test t) (λ a k. ap (test s) (zero-add a) ∙ at a k (ℕ_discrete a n) ∙ ap (test t) (sym (zero-add a)))
    where
      test : State → ℕ → Bool
      test u c = cond (eqb c n) (not (carry_good u.carry)) (not (cell_good L u c))

      at : (a : ℕ) → a < suc n → Dec (a ≡ n) → test s a ≡ test t a
      at a k (yes e) =
          ap (λ (b : Bool). cond b (not (carry_good s.carry)) (not (cell_good L s a))) (eq-eqb a n e)
          ∙ ap (λ (z : ℤ). not (carry_good z)) same.carries
          ∙ sym (ap (λ (b : Bool). cond b (not (carry_good t.carry)) (not (cell_good L t a))) (eq-eqb a n e))
      at a k (no e) =
          ap (λ (b : Bool). cond b (not (carry_good s.carry)) (not (cell_good L s a))) (ne_eqb a n e)
          ∙ ap not (cell_same a (lt_of_le-ne (le_of_suc-le-suc k) e))
          ∙ sym (ap (λ (b : Bool). cond b (not (carry_good t.carry)) (not (cell_good L t a))) (ne_eqb a n e))
