-- The trade of mass by cases of the neighbour's flag, its bounds, and the same as the stages' definitions over what a cell sees. Assumes nothing.
use mathlib.Core.Path.{◌≡◌, refl, sym, ap, ◌∙◌, subst}
use mathlib.Core.Bool.{Bool, true, false, cond, true≢false, false≢true}
use mathlib.Core.List.{List}
use Prim.Native.Nat.{ℕ, zero, suc, ◌+◌, ◌-◌, ◌%◌, ◌<◌, ◌≤◌}
use native.Mathlib.Nat.{le_trans, le_of_eq, mul-le-mul_right, div-le_of_le-mul}
use native.Mathlib.Numerals.{add-one}
use native.Mathlib.Omega.{arith}
use lib.IntN.{ℤ, pos, nat_abs, ◌+ℤ◌, ◌*ℤ◌, +ℤ_assoc, +ℤ_idr}
use lib.ListN.{length, get_or}
use borrow.Author.Tests.{eq-eqb, ne_eqb}
use Rattle.whole.specs.Fold.{sum}
use Rattle.whole.specs.laws.Sums.{sum-abs}
use Rattle.whole.specs.laws.Bounds.{abs-add, abs-sub, abs-mul, abs-quot}
use Rattle.whole.specs.laws.Machine.{Within}
use Rattle.lattice.specs.Lattice.{d3q19, pair_opp}
use Rattle.lattice.specs.Cell.{exchange}
use Rattle.lattice.specs.declared.Settings.{Settings}
use Rattle.lattice.proofs.Paired.{paired19}
use Rattle.grid.specs.State.{by_flag, liquid}
use Rattle.grid.specs.Step.{traded, traded_mass, difference}
use Rattle.grid.specs.inner.Sight.{Bodies, Around, sight}
use Rattle.grid.proofs.Lists.{get_or-there}
use Rattle.arrivals.specs.inner.Trade.{Fills, Trading, apart, passed}

-- ---- a choice by flag
module _ {ℓ} {A : Type ℓ} where
  by-dry : (f : ℕ) (x y z : A) → liquid f ≡ false → by_flag f x y z x ≡ x
  by-dry zero x y z l = refl
  by-dry (suc zero) x y z l = absurd (true≢false l)
  by-dry (suc (suc zero)) x y z l = absurd (true≢false l)
  by-dry (suc (suc (suc n))) x y z l = refl

  by-interface : (f : ℕ) (x y z : A) → liquid f ≡ true → (f ≡ 2 → ⊥) → by_flag f x y z x ≡ y
  by-interface zero x y z l g = absurd (false≢true l)
  by-interface (suc zero) x y z l g = refl
  by-interface (suc (suc zero)) x y z l g = absurd (g refl)
  by-interface (suc (suc (suc n))) x y z l g = absurd (false≢true l)

  -- no interface cell
  pub by-other : (f : ℕ) (x y : A) → (f ≡ 1 → ⊥) → by_flag f x y x x ≡ x
  by-other zero x y h = refl
  by-other (suc zero) x y h = absurd (h refl)
  by-other (suc (suc zero)) x y h = refl
  by-other (suc (suc (suc n))) x y h = refl

-- ---- by cases, of the flag as the code reads it
module _ (flags : List ℕ) (part : ℕ → ℕ → ℤ) (fills : List ℕ) (c b i k : ℕ) (h : b < length flags) where
  read : (n : ℕ) → get_or flags b 0 ≡ n → get_or flags b 3 ≡ n
  read n e = get_or-there flags b 3 0 h ∙ e

  pub passed-fluid : get_or flags b 0 ≡ 2 → apart part c b i k ≡ passed flags part fills c b i k
  unfolding passed
  passed-fluid e = rw (read 2 e) refl

  -- liquid and not fluid
  pub passed-interface : liquid (get_or flags b 0) ≡ true → (get_or flags b 0 ≡ 2 → ⊥)
      → exchange (get_or fills c 0 + get_or fills b 0) (apart part c b i k) ≡ passed flags part fills c b i k
  unfolding passed
  passed-interface l g = rw (read _ refl) (sym (by-interface (get_or flags b 0) (pos 0) _ (apart part c b i k) l g))

  pub passed-dry : liquid (get_or flags b 0) ≡ false → pos 0 ≡ passed flags part fills c b i k
  unfolding passed
  passed-dry l = rw (read _ refl) (sym (by-dry (get_or flags b 0) (pos 0) (exchange (get_or fills c 0 + get_or fills b 0) (apart part c b i k)) (apart part c b i k) l))

-- ---- bounds

-- a mean of two fills is at most 1
pub exchange-within : (φ : ℕ) (d : ℤ) (k : ℕ) → φ ≤ 131072 → Within d k → Within (exchange φ d) k
unfolding exchange
exchange-within φ d k h w =
    record {
      abs = le_trans (le_of_eq (abs-quot (pos φ *ℤ d) (pos 131072)))
          (le_trans (div-le_of_le-mul 131072 (omega (arith, abs-mul (pos φ) d, mul-le-mul_right (nat_abs d) h))) w.abs);
    }

module _ {flags : List ℕ} {part : ℕ → ℕ → ℤ} (w : Bodies flags part) (c b i k : ℕ) (hi : i < 19) (hk : k < 19) (hc : c < length flags) (hb : b < length flags)
    (lc : liquid (get_or flags c 3) ≡ true) where
  -- both cells are liquid
  pub apart-within : liquid (get_or flags b 3) ≡ true → Within (apart part c b i k) 2359296
  apart-within lb =
      let x = (w.body b hb lb).parts k (omega arith) in
      let y = (w.body c hc lc).parts i (omega arith) in
      record { abs = omega (arith, abs-sub (part b k) (part c i), x.abs, y.abs) }

  pub passed-within : {fills : List ℕ} → Fills flags fills → Within (passed flags part fills c b i k) 2359296
  unfolding passed
  passed-within {fills} φ = go (get_or flags b 3) refl
    where
      go : (f : ℕ) → get_or flags b 3 ≡ f
          → Within (by_flag f (pos 0) (exchange (get_or fills c 0 + get_or fills b 0) (apart part c b i k)) (apart part c b i k) (pos 0)) 2359296
      go zero e = record { abs = omega arith }
      go (suc zero) e =
          exchange-within (get_or fills c 0 + get_or fills b 0) (apart part c b i k) 2359296 (omega (arith, φ.low c hc, φ.low b hb)) (apart-within (ap liquid e))
      go (suc (suc zero)) e = apart-within (ap liquid e)
      go (suc (suc (suc n))) e = record { abs = omega arith }

-- ---- over what a cell sees

-- the opposite of odd i is i + 1, and back
pub odd-opp : (i : ℕ) → i % 2 ≡ 1 → pair_opp i ≡ i + 1
odd-opp zero e = absurd (omega arith)
odd-opp (suc a) e = ap (λ (t : Bool). cond t (suc (suc a)) a) (eq-eqb (a % 2) 0 (omega arith)) ∙ omega arith

pub even-opp : (i : ℕ) → i % 2 ≡ 1 → pair_opp (i + 1) ≡ i
even-opp i e = ap pair_opp (add-one i) ∙ ap (λ (t : Bool). cond t (suc (suc i)) i) (ne_eqb (i % 2) 0 (λ z. omega arith))

-- two more directions
pub dirs-pair : (n m : ℕ) (f : ℕ → ℤ) → m ≡ n + 2 → sum m (λ a. f (suc a)) ≡ (sum n (λ a. f (suc a)) +ℤ f (n + 1)) +ℤ f (n + 1 + 1)
unfolding sum
dirs-pair n m f h =
    let e : m ≡ suc (suc n) = omega arith in
    let k : n + 1 + 1 ≡ suc (suc n) = omega arith in
    let l : n + 1 ≡ suc n = omega arith in
    rw (e, k, l) refl

-- a mass and what is gained from the first n directions, however they are numbered
unfoldable pub amassed : ℤ → (ℕ → ℤ) → ℕ → ℤ
amassed m gain n = m +ℤ sum n (λ a. gain (suc a))

module _ (m : ℤ) (gain : ℕ → ℤ) where
  pub amassed-none : m ≡ amassed m gain 0
  unfolding amassed sum
  amassed-none = sym (+ℤ_idr m)

  pub amassed-pair : (n k : ℕ) → k ≡ n + 2 → (amassed m gain n +ℤ gain (n + 1)) +ℤ gain (n + 1 + 1) ≡ amassed m gain k
  unfolding amassed
  amassed-pair n k h =
      ap (λ (z : ℤ). z +ℤ gain (n + 1 + 1)) (+ℤ_assoc m (sum n (λ a. gain (suc a))) (gain (n + 1)))
      ∙ +ℤ_assoc m (sum n (λ a. gain (suc a)) +ℤ gain (n + 1)) (gain (n + 1 + 1))
      ∙ ap (λ (z : ℤ). m +ℤ z) (sym (dirs-pair n k gain h))

  pub amassed-within : Within m 2359296 → (n : ℕ) → n ≤ 18 → ((a : ℕ) → a < n → Within (gain (suc a)) 2359296) → Within (amassed m gain n) 44826624
  unfolding amassed
  amassed-within h n k each =
      record { abs = omega (arith, abs-add m (sum n (λ b. gain (suc b))), h.abs, sum-abs n (λ b. gain (suc b)) 2359296 (λ b l. (each b l).abs)) }

module _ (flags : List ℕ) (part : ℕ → ℕ → ℤ) (masses : List ℤ) (fills off : List ℕ) (low c : ℕ) where
  -- what c gains from direction i
  unfoldable pub gain : ℕ → ℤ
  gain i = passed flags part fills c ((c - low) + get_or off i 0) i (pair_opp i)

  pub gain-is : (weights : ℕ → ℕ) (g : Settings) (i : ℕ) → gain i ≡ traded (sight weights flags part masses fills off low g) c i
  unfolding gain passed sight traded difference d3q19
  gain-is weights g i = refl

  -- the mass with what c gains from the first n directions
  unfoldable pub gained : ℕ → ℤ
  gained n = amassed (get_or masses c (pos 0)) gain n

  pub gained-none : get_or masses c (pos 0) ≡ gained 0
  unfolding gained
  gained-none = amassed-none (get_or masses c (pos 0)) gain

  pub gained-all : (weights : ℕ → ℕ) (g : Settings) → gained 18 ≡ traded_mass (sight weights flags part masses fills off low g) c
  unfolding gained amassed gain passed sight traded traded_mass difference d3q19
  gained-all weights g = refl

  -- as the loop takes them, two directions a turn
  pub first-is : (i : ℕ) → i % 2 ≡ 1 → passed flags part fills c ((c - low) + get_or off i 0) i (i + 1) ≡ gain i
  unfolding gain
  first-is i e = ap (λ (k : ℕ). passed flags part fills c ((c - low) + get_or off i 0) i k) (sym (odd-opp i e))

  pub second_is : (i : ℕ) → i % 2 ≡ 1 → passed flags part fills c ((c - low) + get_or off (i + 1) 0) (i + 1) i ≡ gain (i + 1)
  unfolding gain
  second_is i e = ap (λ (k : ℕ). passed flags part fills c ((c - low) + get_or off (i + 1) 0) (i + 1) k) (sym (even-opp i e))

  pub gained-pair : (n k : ℕ) → k ≡ n + 2 → (gained n +ℤ gain (n + 1)) +ℤ gain (n + 1 + 1) ≡ gained k
  unfolding gained
  gained-pair = amassed-pair (get_or masses c (pos 0)) gain

  -- ---- the bounds of an interface cell
  module _ (t : Trading flags part masses fills) (a : Around (length flags) off low c) (f : get_or flags c 3 ≡ 1) where
    pub gain-within : (i : ℕ) → 1 ≤ i → i < 19 → Within (gain i) 2359296
    unfolding gain d3q19
    gain-within i h k =
        let o = paired19.dir i (record { some = h; most = omega arith }) in
        passed-within t.bodies c ((c - low) + get_or off i 0) i (pair_opp i) k (omega (arith, o.most)) a.is-cell (a.each i k) (ap liquid f) t.fills-good

    pub gained-within : (n : ℕ) → n ≤ 18 → Within (gained n) 44826624
    unfolding gained
    gained-within n h =
        amassed-within (get_or masses c (pos 0)) gain (t.masses-good.low c a.is-cell f) n h (λ b k. gain-within (suc b) (omega arith) (omega arith))

    -- a mass that is the traded one under any settings, so under some
    pub mass-within : (weights : ℕ → ℕ) (m : ℤ) → ((g : Settings) → m ≡ traded_mass (sight weights flags part masses fills off low g) c) → Within m 44826624
    mass-within weights m e = subst (λ (z : ℤ). Within z 44826624) (gained-all weights some ∙ sym (e some)) (gained-within 18 (omega arith))
      where
        some : Settings
        some = record { p = pos 0; gx = pos 0; gy = pos 0; gz = pos 0; turbulent = false }
