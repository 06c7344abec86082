-- Eight directions tell what eighteen places do, where the cell itself does not have the byte; and where it has, its own mark or flag has decided already.
-- Assumes nothing.
use mathlib.Core.Path.{◌≡◌, refl, sym, ap, ap₂, ◌∙◌}
use mathlib.Core.Bool.{Bool, true, false, ◌&&◌, not, cond}
use mathlib.Core.List.{List}
use Prim.Native.Nat.{ℕ, zero, suc, ◌+◌, ◌-◌, ◌≤◌}
use native.Mathlib.Omega.{arith}
use lib.Dec.{eqb}
use lib.ListN.{get_or}
use borrow.Author.Tests.{eqb-true}
use Rattle.whole.specs.Fold.{tab}
use Rattle.whole.specs.laws.Tab.{get_or-tab}
use Rattle.grid.specs.inner.Passes.{beside_at, open_mark, turned_at}
use Rattle.grid.specs.Step.{flag_after}
use Rattle.flume.specs.declared.FlumeSides.{FlumeSides}
use Rattle.flume.specs.Flume.{flume_grid}
use Rattle.flume.specs.inner.Spread.{wide, Idle}
use Rattle.flume.specs.inner.Offsets.{flume_low, flume_offset}
use Rattle.flume.proofs.Places.{any_same, spread_none}
use Rattle.flumemarks.specs.inner.Eight.{beside_eight, Idling}

module _ (bytes off : List ℕ) (low c m : ℕ) (idling : Idling off low) (from : low ≤ c) where
  here : (i : ℕ) → Idle i → c - low + get_or off i 0 ≡ c
  here i n = ap (λ (x : ℕ). c - low + x) (idling.at i n) ∙ omega arith

  pub eight-same : eqb (get_or bytes c 0) m ≡ false → beside_at bytes off (c - low) m ≡ beside_eight bytes off (c - low) m
  unfolding beside_at beside_eight
  eight-same e =
      any_same (λ i. eqb (get_or bytes (c - low + get_or off i 0) 0) m) (λ j. eqb (get_or bytes (c - low + get_or off (wide j) 0) 0) m) (λ k d. refl)
      (λ i n. ap (λ (x : ℕ). eqb (get_or bytes x 0) m) (here i n) ∙ e)

-- pass 0: only a fluid cell is marked, and it is no wall
open-cases : (f : ℕ) (x y : Bool) → (f ≡ 2 → x ≡ y) → open_mark f x ≡ open_mark f y
open-cases f x y h = go (eqb f 2) refl
  where
    go : (b : Bool) → eqb f 2 ≡ b → open_mark f x ≡ open_mark f y
    go true e = ap (open_mark f) (h (eqb-true f 2 e))
    go false e = ap (λ (b : Bool). cond (b && not x) 1 0) e ∙ sym (ap (λ (b : Bool). cond (b && not y) 1 0) e)

pub open-same : (flags off : List ℕ) (low c : ℕ) → Idling off low → low ≤ c
    → open_mark (get_or flags c 0) (beside_eight flags off (c - low) 3) ≡ open_mark (get_or flags c 0) (beside_at flags off (c - low) 3)
open-same flags off low c idling from =
    open-cases (get_or flags c 0) _ _ (λ e. sym (eight-same flags off low c 3 idling from (ap (λ (f : ℕ). eqb f 3) e)))

-- pass 3: a cell that is filled or emptied turns by its own mark, and any other has none
turned-cases : (f k : ℕ) (x y u v : Bool) → (eqb k 1 ≡ false → x ≡ y) → (eqb k 2 ≡ false → u ≡ v) → ((f ≡ 1 → ⊥) → k ≡ 0)
    → flag_after f x (eqb k 1) (eqb k 2) u ≡ flag_after f y (eqb k 1) (eqb k 2) v
turned-cases f zero x y u v h g o = ap₂ (λ (p q : Bool). flag_after f p false false q) (h refl) (g refl)
turned-cases zero (suc k) x y u v h g o = absurd (omega (arith, o (λ e. absurd (omega arith))))
turned-cases (suc zero) (suc k) x y u v h g o = refl
turned-cases (suc (suc f)) (suc k) x y u v h g o = absurd (omega (arith, o (λ e. absurd (omega arith))))

pub turned_same : (flags marks off : List ℕ) (low c : ℕ) → Idling off low → low ≤ c → ((get_or flags c 0 ≡ 1 → ⊥) → get_or marks c 0 ≡ 0)
    → flag_after (get_or flags c 0) (beside_eight marks off (c - low) 1) (eqb (get_or marks c 0) 1) (eqb (get_or marks c 0) 2) (beside_eight marks off (c - low) 2)
    ≡ turned_at flags marks off low c
turned_same flags marks off low c idling from only =
    turned-cases (get_or flags c 0) (get_or marks c 0) _ _ _ _ (λ e. sym (eight-same marks off low c 1 idling from e)) (λ e. sym (eight-same marks off low c 2 idling from e)) only

-- the flume's own offsets
pub idling : (s : FlumeSides) {off : List ℕ} {low : ℕ} → off ≡ tab 19 (flume_offset s) → low ≡ flume_low s → Idling off low
unfolding flume_offset
idling s e l = record {
  at = λ i n.
      ap (λ (x : List ℕ). get_or x i 0) e ∙ get_or-tab 19 (flume_offset s) 0 i (omega (arith, n.low)) ∙ spread_none (flume_low s) ((flume_grid s).near (flume_low s)) i n ∙ sym l;
}
