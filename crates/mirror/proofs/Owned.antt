-- A reflection keeps own p: it changes signs of the tensor off the diagonal and no square. So in the turbulent mode a cell's relaxation goes with its cell.
-- Assumes nothing.
use mathlib.Core.Path.{◌≡◌, refl, sym, ap, ap₂, ◌∙◌}
use mathlib.Core.Bool.{Bool, true, false}
use Prim.Native.Nat.{ℕ, zero, suc, ◌*◌, ◌≤◌}
use native.Mathlib.Omega.{arith}
use lib.IntN.{ℤ, pos, nat_abs, ◌-ℤ◌, ◌*ℤ◌}
use Rattle.whole.specs.laws.Bounds.{abs_neg}
use Rattle.whole.specs.Fold.{Dir}
use Rattle.whole.specs.laws.Sums.{sum-cong}
use Rattle.lattice.specs.Lattice.{V3, Lattice}
use Rattle.turbulence.specs.Turbulence.{component, beyond, stress, square, tension, own, own_relaxation}
use Rattle.turbulence.proofs.Tensor.{tension-entries}
use Rattle.mirror.specs.Mirror.{Axes, turn, reflect, Turns}
use Rattle.mirror.proofs.Turned.{turn-out, turn-front, turn-sum}
use Rattle.mirror.proofs.Permuted.{dirs-alike, equilibrium-alike}

-- whether component a changes its sign
unfoldable axis_of : Axes → ℕ → Bool
axis_of t zero = t.x
axis_of t (suc zero) = t.y
axis_of t (suc (suc a)) = t.z

component-turned : (t : Axes) (a : ℕ) (v : V3) → component a (reflect t v) ≡ turn (axis_of t a) (component a v)
unfolding component reflect axis_of
component-turned t zero v = refl
component-turned t (suc zero) v = refl
component-turned t (suc (suc a)) v = refl

turn-abs : (b : Bool) (z : ℤ) → nat_abs (turn b z) ≡ nat_abs z
unfolding turn
turn-abs true z = abs_neg z
turn-abs false z = refl

both_out : (b d : Bool) (x y g : ℤ) → turn b x *ℤ turn d y *ℤ g ≡ turn b (turn d (x *ℤ y *ℤ g))
both_out b d x y g =
    ap (λ (z : ℤ). z *ℤ g) (turn-front b x (turn d y) ∙ ap (turn b) (turn-out d x y))
    ∙ turn-front b (turn d (x *ℤ y)) g ∙ ap (turn b) (turn-front d (x *ℤ y) g)

module _ (L : Lattice) (t : Axes) (π : ℕ → ℕ) (m : Turns L t π) where
  -- ---- the tensor of g, where g has what h has at the reflected direction
  module _ (g h : ℕ → ℤ) (same : (i : ℕ) → Dir L.q i → g i ≡ h (π i)) where
    component-at : (a i : ℕ) → Dir L.q i → component a (L.e i) ≡ turn (axis_of t a) (component a (L.e (π i)))
    component-at a i d =
        ap (λ (k : ℕ). component a (L.e k)) (sym (m.twice i d)) ∙ ap (component a) (m.e (π i) (m.dir i d)) ∙ component-turned t a (L.e (π i))

    entry-turned : (a b : ℕ) → stress L g a b ≡ turn (axis_of t a) (turn (axis_of t b) (stress L h a b))
    unfolding stress
    entry-turned a b =
        let x = axis_of t a in
        let y = axis_of t b in
        dirs-alike L t π m (λ i. component a (L.e i) *ℤ component b (L.e i) *ℤ g i) (λ i. turn x (component a (L.e i)) *ℤ turn y (component b (L.e i)) *ℤ h i)
        (λ i d j. component-at a i d j *ℤ component-at b i d j *ℤ same i d j)
        ∙ sum-cong L.q (λ i. turn x (component a (L.e (suc i))) *ℤ turn y (component b (L.e (suc i))) *ℤ h (suc i))
        (λ i. turn x (turn y (component a (L.e (suc i)) *ℤ component b (L.e (suc i)) *ℤ h (suc i))))
        (λ i k. both_out x y (component a (L.e (suc i))) (component b (L.e (suc i))) (h (suc i)))
        ∙ turn-sum x L.q (λ i. turn y (component a (L.e (suc i)) *ℤ component b (L.e (suc i)) *ℤ h (suc i)))
        ∙ ap (turn x) (turn-sum y L.q (λ i. component a (L.e (suc i)) *ℤ component b (L.e (suc i)) *ℤ h (suc i)))

    square-alike : (a b : ℕ) → square (stress L g a b) ≡ square (stress L h a b)
    unfolding square
    square-alike a b =
        let e : nat_abs (stress L g a b) ≡ nat_abs (stress L h a b) =
        ap nat_abs (entry-turned a b) ∙ turn-abs (axis_of t a) (turn (axis_of t b) (stress L h a b)) ∙ turn-abs (axis_of t b) (stress L h a b)
        in
        ap₂ ◌*◌ e e

    pub tension-alike : tension L g ≡ tension L h
    tension-alike =
        omega (
          arith,
          tension-entries L g,
          tension-entries L h,
          square-alike 0 0,
          square-alike 1 1,
          square-alike 2 2,
          square-alike 0 1,
          square-alike 1 2,
          square-alike 0 2,
        )

  -- ---- own p of the reflected cell
  pub own-alike : (ρ ρ' : ℤ) (j j' : V3) (p : ℤ) (f f' : ℕ → ℤ) → ρ ≡ ρ' → j ≡ reflect t j' → ((k : ℕ) → k ≤ L.q → f k ≡ f' (π k))
      → own_relaxation L ρ j p f ≡ own_relaxation L ρ' j' p f'
  unfolding own_relaxation beyond
  own-alike ρ ρ' j j' p f f' r e same =
      ap (λ (u : ℕ). pos (own (nat_abs p) u))
      (tension-alike (beyond L ρ j f) (beyond L ρ' j' f') (λ i d. ap₂ (λ (x y : ℤ). x -ℤ y) (same i d.most) (equilibrium-alike L t π m ρ ρ' j j' r e i d)))
