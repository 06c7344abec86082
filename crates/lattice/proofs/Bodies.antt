-- A liquid cell's rules: parts in range bound the flow, and the code's order of tests is the definition's. Assumes nothing.
use mathlib.Core.Path.{◌≡◌, refl, sym, ◌∙◌, ap, ap₂, subst}
use mathlib.Core.Bool.{Bool, true, false, ◌&&◌, cond}
use mathlib.Core.List.{List}
use Prim.Native.Nat.{ℕ}
use native.Mathlib.Nat.{le_trans}
use native.Mathlib.Omega.{arith}
use lib.Dec.{T, leb, leb→le}
use lib.IntN.{ℤ, pos, nat_abs}
use lib.Signed.{◌<ℤ◌, ◌≤ℤ◌, <ℤ-≤ℤ_trans}
use borrow.Author.Tests.{leb-true}
use Rattle.whole.specs.Fold.{all}
use Rattle.whole.specs.laws.Search.{all-at}
use Rattle.whole.specs.laws.Machine.{Within}
use Rattle.lattice.specs.declared.Flow.{Flow}
use Rattle.lattice.specs.Lattice.{V3, dot, density, momentum, d3q19}
use Rattle.lattice.specs.Cell.{part_good, dense, slow}
use Rattle.lattice.specs.inner.Held.{parts_of, Bounded, vec, steady_flow, good_fluid, good_interface}
use Rattle.lattice.specs.Body.{body_good}
use Rattle.lattice.proofs.Momentum.{x-in, y-in, z-in, density-in}

-- parts that pass the test are bounded
pub inside-bounded : (f : List ℤ) → all 19 (λ k. part_good (parts_of f k)) ≡ true → Bounded f 1073741824 33554432
inside-bounded f e =
    record {
      rest = record { abs = omega (arith, leb-true (nat_abs (parts_of f 0)) 1179648 (all-at 19 (λ k. part_good (parts_of f k)) e 0 (omega arith))) };
      at = λ k h m. record { abs = omega (arith, leb-true (nat_abs (parts_of f k)) 1179648 (all-at 19 (λ k. part_good (parts_of f k)) e k m)) };
    }

-- the flow of bounded parts: within ±k for every k that is large enough
module _ (f : List ℤ) (b : Bounded f 1073741824 33554432) (v : Flow) where
  at_most : {a c : ℤ} {n k : ℕ} → a ≡ c → Within c n → T (leb n k) → Within a k
  at_most {a} {c} {n} {k} q h t = subst (λ (z : ℤ). Within z k) (sym q) (record { abs = le_trans h.abs (leb→le n k t) })

  pub flow-rho : v.rho ≡ density d3q19 (parts_of f) → (k : ℕ) → T (leb 1677721600 k) → Within v.rho k
  flow-rho e k t = at_most e (density-in f b) t

  module _ (e : vec v ≡ momentum d3q19 (parts_of f)) (k : ℕ) (t : T (leb 335544320 k)) where
    pub flow-x : Within v.x k
    flow-x = at_most (ap (λ (j : V3). j.x) e) (x-in f b) t

    pub flow-y : Within v.y k
    flow-y = at_most (ap (λ (j : V3). j.y) e) (y-in f b) t

    pub flow-z : Within v.z k
    flow-z = at_most (ap (λ (j : V3). j.z) e) (z-in f b) t

and_assoc : (a b c : Bool) → (a && (b && c)) ≡ (a && b && c)
and_assoc true b c = refl
and_assoc false b c = refl

-- parts in range and a steady flow are the rule of a liquid cell's body
pub body_is : (f : List ℤ) (v : Flow) → v.rho ≡ density d3q19 (parts_of f) → vec v ≡ momentum d3q19 (parts_of f)
    → (all 19 (λ k. part_good (parts_of f k)) && steady_flow v) ≡ body_good d3q19 (parts_of f)
unfolding steady_flow body_good d3q19
body_is f v r e =
    ap₂ (λ (ρ : ℤ) (j : V3). all 19 (λ k. part_good (parts_of f k)) && (dense ρ && slow ρ (dot j j))) r e
    ∙ and_assoc (all 19 (λ k. part_good (parts_of f k))) (dense (density d3q19 (parts_of f))) (slow (density d3q19 (parts_of f)) (dot (momentum d3q19 (parts_of f)) (momentum d3q19 (parts_of f))))

-- a cell whose body breaks a rule is bad as fluid and as interface
pub broken : (t : Bool) (f : ℕ → ℤ) (m : ℤ) (fill : ℕ) → body_good d3q19 f ≡ false → cond t (good_fluid d3q19 f m fill) (good_interface d3q19 f m fill) ≡ false
unfolding good_fluid good_interface
broken true f m fill e = rw e
broken false f m fill e = rw e

-- a dense density is positive
pub dense-positive : {ρ : ℤ} → pos 294912 ≤ℤ ρ → pos 0 <ℤ ρ
dense-positive h = <ℤ-≤ℤ_trans (record { lt = tt }) h

pub no-parts : (f : List ℤ) → all 19 (λ k. part_good (parts_of f k)) ≡ false → body_good d3q19 (parts_of f) ≡ false
unfolding body_good d3q19
no-parts f e = rw e
