-- The tensor by pairs: opposite directions have the same products of components, so each entry is a sum of pairs, and it is symmetric. Assumes nothing.
use mathlib.Core.Path.{◌≡◌, sym, ◌∙◌, ap, ap₂}
use mathlib.Core.List.{[], ◌∷◌}
use Prim.Native.Nat.{ℕ, suc, ◌+◌, ◌*◌}
use native.Mathlib.Omega.{arith}
use lib.IntN.{ℤ, ◌+ℤ◌, ◌-ℤ◌, ◌*ℤ◌}
use Rattle.whole.specs.Fold.{total, open-fold}
use Rattle.whole.specs.laws.Sums.{sum-cong}
use Rattle.whole.specs.laws.Ring.{quotes, ring-by}
use Rattle.lattice.specs.Lattice.{Lattice, d3q19, open-lattice}
use Rattle.lattice.proofs.Momentum.{many, all-parts}
use Rattle.turbulence.specs.declared.stress.Nine.{Nine}
use Rattle.turbulence.specs.Turbulence.{component, stress, square, tension}
use Rattle.turbulence.specs.inner.Post.{both, NineIs, tension_of}

-- ---- any lattice: the tensor is symmetric
pub symmetric : (L : Lattice) (g : ℕ → ℤ) (a b : ℕ) → stress L g a b ≡ stress L g b a
unfolding stress
symmetric L g a b =
    sum-cong L.q _ _ (λ i h. swap (component a (L.e (suc i))) (component b (L.e (suc i))) (g (suc i)))
  where
    swap : (x y z : ℤ) → x *ℤ y *ℤ z ≡ y *ℤ x *ℤ z
    swap x y z = ring-by (x ∷ y ∷ z ∷ []) (search quotes depth 20) (search quotes depth 20) tt

-- ---- the box
module _ (g : ℕ → ℤ) where
  pub xx-is : stress d3q19 g 0 0 ≡ both g 0 +ℤ both g 3 +ℤ both g 4 +ℤ both g 7 +ℤ both g 8
  unfolding open-fold open-lattice stress component
  xx-is = ring-by (all-parts g) (search many depth 60 fits 50000) (search many depth 60 fits 50000) tt

  pub yy-is : stress d3q19 g 1 1 ≡ both g 1 +ℤ both g 3 +ℤ both g 4 +ℤ both g 5 +ℤ both g 6
  unfolding open-fold open-lattice stress component
  yy-is = ring-by (all-parts g) (search many depth 60 fits 50000) (search many depth 60 fits 50000) tt

  pub zz-is : stress d3q19 g 2 2 ≡ both g 2 +ℤ both g 5 +ℤ both g 6 +ℤ both g 7 +ℤ both g 8
  unfolding open-fold open-lattice stress component
  zz-is = ring-by (all-parts g) (search many depth 60 fits 50000) (search many depth 60 fits 50000) tt

  pub xy-is : stress d3q19 g 0 1 ≡ both g 3 -ℤ both g 4
  unfolding open-fold open-lattice stress component
  xy-is = ring-by (all-parts g) (search many depth 60 fits 50000) (search many depth 60 fits 50000) tt

  pub yz-is : stress d3q19 g 1 2 ≡ both g 5 -ℤ both g 6
  unfolding open-fold open-lattice stress component
  yz-is = ring-by (all-parts g) (search many depth 60 fits 50000) (search many depth 60 fits 50000) tt

  pub xz-is : stress d3q19 g 0 2 ≡ both g 7 -ℤ both g 8
  unfolding open-fold open-lattice stress component
  xz-is = ring-by (all-parts g) (search many depth 60 fits 50000) (search many depth 60 fits 50000) tt

-- T of any lattice: the diagonal once, the rest twice
pub tension-entries : (L : Lattice) (g : ℕ → ℤ)
    → tension L g
    ≡ square (stress L g 0 0) + square (stress L g 1 1) + square (stress L g 2 2) + 2 * (square (stress L g 0 1) + square (stress L g 1 2) + square (stress L g 0 2))
unfolding tension total
tension-entries L g =
    omega (
      arith,
      ap square (symmetric L g 1 0),
      ap square (symmetric L g 2 1),
      ap square (symmetric L g 2 0),
    )

module _ (g : ℕ → ℤ) (n : Nine) (is : NineIs g n) where
  five : {a b c d e : ℤ} {t u v w x : ℤ} → a ≡ t → b ≡ u → c ≡ v → d ≡ w → e ≡ x → a +ℤ b +ℤ c +ℤ d +ℤ e ≡ t +ℤ u +ℤ v +ℤ w +ℤ x
  five p q r s t = ap₂ ◌+ℤ◌ (ap₂ ◌+ℤ◌ (ap₂ ◌+ℤ◌ (ap₂ ◌+ℤ◌ p q) r) s) t

  pub tension-is : tension_of n ≡ tension d3q19 g
  tension-is =
      omega (
        arith,
        tension-entries d3q19 g,
        ap square (five is.x is.xy is.yx is.xz is.zx ∙ sym (xx-is g)),
        ap square (five is.y is.xy is.yx is.yz is.zy ∙ sym (yy-is g)),
        ap square (five is.z is.yz is.zy is.xz is.zx ∙ sym (zz-is g)),
        ap square (ap₂ ◌-ℤ◌ is.xy is.yx ∙ sym (xy-is g)),
        ap square (ap₂ ◌-ℤ◌ is.yz is.zy ∙ sym (yz-is g)),
        ap square (ap₂ ◌-ℤ◌ is.xz is.zx ∙ sym (xz-is g)),
      )
