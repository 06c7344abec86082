-- The amounts of stage 6, from a good state that passed test 7: a liquid cell's density, an interface cell's mass, and which cells take part. Assumes nothing.
use mathlib.Core.Path.{◌≡◌, refl, ap, subst}
use mathlib.Core.Bool.{Bool, true, false, ◌&&◌, not, cond}
use Prim.Native.Nat.{ℕ, zero, suc, ◌+◌, ◌*◌, ◌≤◌, ◌<◌}
use native.Mathlib.Nat.{div-le_of_le-mul, mul-le-mul_right}
use native.Mathlib.Omega.{arith}
use lib.IntN.{ℤ, pos, nat_abs, ◌-ℤ◌, ◌*ℤ◌}
use lib.Signed.{le_z}
use lib.ListN.{get_or}
use borrow.Author.Tests.{not-false}
use Rattle.whole.specs.laws.Bools.{and_left, and_right}
use Rattle.whole.specs.laws.Bounds.{abs-add, abs-sub, abs-mul, abs-quot, abs-below}
use Rattle.whole.specs.Fold.{dirs, first, Dir}
use Rattle.whole.specs.laws.Machine.{Within}
use Rattle.whole.specs.laws.Order.{le_z-true}
use Rattle.whole.specs.laws.Search.{as-dir, first-none}
use Rattle.whole.specs.laws.Sums.{sum-abs}
use Rattle.lattice.specs.Lattice.{dot, d3q19}
use Rattle.lattice.specs.Cell.{dense, slow, exchange, over, under}
use Rattle.lattice.proofs.Paired.{paired19}
use Rattle.grid.specs.State.{Scene, by_flag, liquid}
use Rattle.grid.specs.Step.{flag_at, difference, traded, traded_mass, streamed_density, streamed_momentum, unsteady, filled, emptied, beside_filled, beside_emptied, new_flag, flag_after}
use Rattle.grid.specs.inner.Between.{moved_mass, settled_mark}
use Rattle.grid.specs.inner.Passes.{Amid}
use Rattle.conversion.proofs.Field.{Field, scene_in, Standing}

-- ---- by cases on flags and tests alone

not-dense : (l d s : Bool) → l ≡ true → (l && not (d && s)) ≡ false → d ≡ true
not-dense l d s h e = and_left d s (not-false (d && s) (subst (λ (b : Bool). (b && not (d && s)) ≡ false) h e))

most : (φ n : ℕ) → φ ≤ 131072 → φ * n ≤ 131072 * n
most φ n h = mul-le-mul_right n h

exchange-le : (φ : ℕ) (d : ℤ) → φ ≤ 131072 → nat_abs (exchange φ d) ≤ nat_abs d
unfolding exchange
exchange-le φ d h =
    omega (arith, abs-quot (pos φ *ℤ d) (pos 131072), abs-mul (pos φ) d, div-le_of_le-mul 131072 (most φ (nat_abs d) h))

-- what one direction brings
traded-le : (f φ : ℕ) (d : ℤ) → φ ≤ 131072 → (liquid f ≡ true → nat_abs d ≤ 2359296) → nat_abs (by_flag f (pos 0) (exchange φ d) d (pos 0)) ≤ 2359296
traded-le zero φ d h k = omega arith
traded-le (suc zero) φ d h k = omega (arith, exchange-le φ d h, k refl)
traded-le (suc (suc zero)) φ d h k = k refl
traded-le (suc (suc (suc n))) φ d h k = omega arith

abbrev mark : Bool → Bool → ℕ
mark is-filled is-emptied = cond is-filled 1 (cond is-emptied 2 0)

-- a cell that becomes or stays interface is not converted
taker-cases : (f : ℕ) (bf ov un be : Bool) → flag_after f bf (by_flag f false ov false false) (by_flag f false un false false) be ≡ 1
    → mark (by_flag f false ov false false) (by_flag f false un false false) ≡ 0
taker-cases zero bf ov un be e = refl
taker-cases (suc zero) bf true un be e = absurd (omega arith)
taker-cases (suc zero) bf false true be e = absurd (omega arith)
taker-cases (suc zero) bf false false be e = refl
taker-cases (suc (suc zero)) bf ov un be e = refl
taker-cases (suc (suc (suc n))) bf ov un be e = refl

-- only interface cells convert
giver-cases : (f : ℕ) (ov un : Bool) → (mark (by_flag f false ov false false) (by_flag f false un false false) ≡ 0 → ⊥) → f ≡ 1
giver-cases zero ov un h = absurd (h refl)
giver-cases (suc zero) ov un h = refl
giver-cases (suc (suc zero)) ov un h = absurd (h refl)
giver-cases (suc (suc (suc n))) ov un h = absurd (h refl)

moved-le : (f : ℕ) (m ρ : ℤ) → (f ≡ 1 → nat_abs m ≤ 44826624) → (liquid f ≡ true → nat_abs ρ ≤ 1179648) → nat_abs (by_flag f (pos 0) m ρ (pos 0)) ≤ 44826624
moved-le zero m ρ h k = omega arith
moved-le (suc zero) m ρ h k = h refl
moved-le (suc (suc zero)) m ρ h k = omega (arith, k refl)
moved-le (suc (suc (suc n))) m ρ h k = omega arith

-- ---- any scene
module _ (S : Scene) where
  -- gather leans on this: the cells that it writes never give
  pub taker-unmarked : (c : ℕ) → new_flag S c ≡ 1 → settled_mark S c ≡ 0
  unfolding new_flag settled_mark filled emptied
  taker-unmarked c e =
      taker-cases (flag_at S c) (beside_filled S c) (over (traded_mass S c) (streamed_density S c)) (under (traded_mass S c) (streamed_density S c) && not (beside_filled S c)) (beside_emptied S c) e

  pub marked-interface : (c : ℕ) → (settled_mark S c ≡ 0 → ⊥) → flag_at S c ≡ 1
  unfolding settled_mark filled emptied
  marked-interface c h =
      giver-cases (flag_at S c) (over (traded_mass S c) (streamed_density S c)) (under (traded_mass S c) (streamed_density S c) && not (beside_filled S c)) h

-- ---- a good state
module _ (F : Field) (r : Standing F) where
  abbrev pub S : Scene
  S = scene_in F

  abbrev pub flag : ℕ → ℕ
  flag c = get_or F.flags c 3

  pub outer-not : (c : ℕ) → c < F.cells → (flag c ≡ 3 → ⊥) → F.grid.outer c ≡ false
  outer-not c h n = go (F.grid.outer c) refl
    where
      go : (b : Bool) → F.grid.outer c ≡ b → F.grid.outer c ≡ false
      go true e = absurd (n (r.walled c h e))
      go false e = e

  pub inner-cell : (c : ℕ) → c < F.cells → (flag c ≡ 3 → ⊥) → Amid F.cells F.low c
  inner-cell c h n = r.inner c h (outer-not c h n)

  pub near-cell : (c i : ℕ) → c < F.cells → (flag c ≡ 3 → ⊥) → i < 19 → F.grid.near c i < F.cells
  near-cell c i h n l = r.near-low c i (inner-cell c h n) l

  difference-in : (c i : ℕ) → c < F.cells → flag c ≡ 1 → Dir 18 i → liquid (flag (F.grid.near c i)) ≡ true
      → nat_abs (F.part (F.grid.near c i) (d3q19.opp i) -ℤ F.part c i) ≤ 2359296
  unfolding d3q19
  difference-in c i h f d l =
      let n : F.grid.near c i < F.cells = near-cell c i h (λ e. omega arith) (omega (arith, d.most)) in
      omega (
        arith,
        abs-sub (F.part (F.grid.near c i) (d3q19.opp i)) (F.part c i),
        ((r.body (F.grid.near c i) n l).parts (d3q19.opp i) (paired19.dir i d).most).abs,
        ((r.body c h (ap liquid f)).parts i d.most).abs,
      )

  pub traded-mass-in : (c : ℕ) → c < F.cells → flag c ≡ 1 → Within (traded_mass S c) 44826624
  unfolding traded_mass traded difference d3q19
  traded-mass-in c h f =
      record {
        abs = omega (
          arith,
          abs-add (S.old.mass c) (dirs 18 (traded S c)),
          (r.mass c h f).abs,
          sum-abs 18 (λ b. traded S c (suc b)) 2359296 (λ b k. each (suc b) (as-dir k)),
        );
      }
    where
      each : (i : ℕ) → Dir 18 i → nat_abs (traded S c i) ≤ 2359296
      each i d =
          let n : F.grid.near c i < F.cells = near-cell c i h (λ e. omega arith) (omega (arith, d.most)) in
          traded-le (flag (F.grid.near c i)) (get_or F.fills c 0 + get_or F.fills (F.grid.near c i) 0) _
          (omega (arith, r.fill c h, r.fill (F.grid.near c i) n)) (λ l. difference-in c i h f d l)

  -- ---- that passed test 7
  module _ (t : F.cells ≤ first F.cells (unsteady S)) where
    pub new-dense : (c : ℕ) → c < F.cells → liquid (flag c) ≡ true → dense (streamed_density S c) ≡ true
    unfolding unsteady
    new-dense c h l =
        not-dense (liquid (flag c)) (dense (streamed_density S c)) (slow (streamed_density S c) (dot (streamed_momentum S c) (streamed_momentum S c))) l
        (first-none F.cells (unsteady S) t c h)

    pub streamed-density-in : (c : ℕ) → c < F.cells → liquid (flag c) ≡ true → Within (streamed_density S c) 1179648
    unfolding dense
    streamed-density-in c h l =
        let e = new-dense c h l in
        record {
          abs = abs-below {k = 294912} {z = streamed_density S c} (le_z-true (and_left (le_z (pos 294912) (streamed_density S c)) (le_z (streamed_density S c) (pos 1179648)) e))
              (le_z-true (and_right (le_z (pos 294912) (streamed_density S c)) (le_z (streamed_density S c) (pos 1179648)) e));
        }

    pub moved-mass-in : (c : ℕ) → c < F.cells → Within (moved_mass S c) 44826624
    unfolding moved_mass
    moved-mass-in c h =
        record { abs = moved-le (flag c) (traded_mass S c) (streamed_density S c) (λ f. (traded-mass-in c h f).abs) (λ l. (streamed-density-in c h l).abs) }
