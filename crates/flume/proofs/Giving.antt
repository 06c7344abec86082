-- Stages 6 and 7 give the same among the nineteen places as on the flume's own lattice, where no cell is unsteady: a cell that gives is no target of its
-- own, and a cell that receives gives nothing, so that an idle direction, which leads to the cell itself, carries no gift. Assumes nothing.
use mathlib.Core.Path.{◌≡◌, refl, sym, ap, ap₂, ◌∙◌}
use mathlib.Core.Bool.{Bool, true, false, ◌&&◌, ◌||◌, not, cond, false≢true}
use Prim.Native.Nat.{ℕ, zero, suc}
use lib.Dec.{eqb}
use lib.IntN.{ℤ, pos, neg_ℤ, ◌+ℤ◌, ◌-ℤ◌}
use Rattle.whole.specs.laws.Bools.{never, cond_no}
use Rattle.whole.specs.Fold.{dirs, Dir}
use Rattle.whole.specs.laws.Sums.{sum-cong}
use Rattle.lattice.specs.Lattice.{dot, d3q19, d2q9}
use Rattle.lattice.specs.Cell.{over, under, positive, is_positive, share}
use Rattle.grid.specs.State.{Scene, by_flag}
use Rattle.grid.specs.Step.{traded_mass, streamed_density, filled, beside_filled, emptied, beside_emptied, flag_after, new_flag, new_part, converted, excess, target, any_target, lean, lean_weight, share_weight, gift, to_carry, received, new_mass, new_carry, fill_for, new_fill, next}
use Rattle.flume.specs.inner.Spread.{wide, plain_scene, spread_scene, Idle, SpreadOf}
use Rattle.flume.proofs.Places.{dirs-same, any_same, share-same}
use Rattle.flume.proofs.Flowing.{e-at, opp-at, opp-dir, near-at, near_none, normal-same, density-same, traded-mass-same, streamed-density-same}
use Rattle.flume.proofs.Turning.{Steady, filled-same, emptied-same, new-flag-same, base-mass-same, new-part-spreads}

-- a converted cell is not interface any more
turned : (f : ℕ) (b o e h : Bool) → (by_flag f false o false false || by_flag f false e false false) ≡ true
    → eqb (flag_after f b (by_flag f false o false false) (by_flag f false e false false) h) 1 ≡ false
turned zero b o e h t = absurd (false≢true t)
turned (suc zero) b true e h t = refl
turned (suc zero) b false true h t = refl
turned (suc zero) b false false h t = absurd (false≢true t)
turned (suc (suc zero)) b o e h t = absurd (false≢true t)
turned (suc (suc (suc n))) b o e h t = absurd (false≢true t)

pub no-interface : (X : Scene) (c : ℕ) → converted X c ≡ true → eqb (new_flag X c) 1 ≡ false
unfolding new_flag filled emptied
no-interface X c t =
    turned (X.old.flag c) (beside_filled X c) (over (traded_mass X c) (streamed_density X c)) (under (traded_mass X c) (streamed_density X c) && not (beside_filled X c)) (beside_emptied X c) t

gives_nothing : (X : Scene) (c k : ℕ) → converted X c ≡ false → gift X c k ≡ pos 0
unfolding gift
gives_nothing X c k e = ap (λ (b : Bool). cond (b && any_target X c) (share X.lat.q (excess X c) (share_weight X c) k) (pos 0)) e

strays-nothing : (X : Scene) (c : ℕ) → converted X c ≡ false → to_carry X c ≡ pos 0
unfolding to_carry
strays-nothing X c e = ap (λ (b : Bool). cond (b && not (any_target X c)) (excess X c) (pos 0)) e

weighs-nothing : (b : Bool) {x : ℤ} {t : Bool} → x ≡ pos 0 → t ≡ false → cond b x (cond t (pos 1) (pos 0)) ≡ pos 0
weighs-nothing true p q = p
weighs-nothing false p q = ap (λ (t : Bool). cond t (pos 1) (pos 0)) q

module _ (S : Scene) (steady : Steady S) where
  abbrev P : Scene
  P = plain_scene S

  abbrev T : Scene
  T = spread_scene S

  converted-same : (c : ℕ) → converted T c ≡ converted P c
  converted-same c j = filled-same S c j || emptied-same S steady c j

  excess-same : (c : ℕ) → excess T c ≡ excess P c
  unfolding excess
  excess-same c j =
      let m = traded-mass-same S c j in
      cond (filled-same S c j) (m -ℤ streamed-density-same S c j) (cond (emptied-same S steady c j) m (pos 0))

  target_at : (c k : ℕ) → Dir 8 k → target T c (wide k) ≡ target P c k
  unfolding target
  target_at c k d = ap (λ (m : ℕ). eqb (new_flag T m) 1) (near-at S c k d) ∙ ap (λ (f : ℕ). eqb f 1) (new-flag-same S steady (P.grid.near c k))

  lean-at : (c k : ℕ) → Dir 8 k → lean T c (wide k) ≡ lean P c k
  unfolding lean
  lean-at c k d j =
      let x = dot (normal-same S c j) (e-at k d j) in
      cond (filled-same S c j) x (neg_ℤ x)

  -- ---- a cell that is not interface any more
  module _ (c : ℕ) (e : eqb (new_flag P c) 1 ≡ false) where
    target_none : (i : ℕ) → Idle i → target T c i ≡ false
    unfolding target
    target_none i n = ap (λ (m : ℕ). eqb (new_flag T m) 1) (near_none S c i n) ∙ ap (λ (f : ℕ). eqb f 1) (new-flag-same S steady c) ∙ e

    any-target-same : any_target T c ≡ any_target P c
    unfolding any_target d3q19 d2q9
    any-target-same = any_same (target T c) (target P c) (target_at c) target_none

    lean-weight-at : (k : ℕ) → Dir 8 k → lean_weight T c (wide k) ≡ lean_weight P c k
    unfolding lean_weight
    lean-weight-at k d = ap₂ (λ (b : Bool) (x : ℤ). cond b (positive x) (pos 0)) (target_at c k d) (lean-at c k d)

    lean-weight-none : (i : ℕ) → Idle i → lean_weight T c i ≡ pos 0
    unfolding lean_weight
    lean-weight-none i n = cond_no (positive (lean T c i)) (pos 0) (target_none i n)

    share-weight-at : (k : ℕ) → Dir 8 k → share_weight T c (wide k) ≡ share_weight P c k
    unfolding share_weight d3q19 d2q9
    share-weight-at k d j =
        cond (is_positive (dirs-same (lean_weight T c) (lean_weight P c) lean-weight-at lean-weight-none j)) (lean-weight-at k d j) (cond (target_at c k d j) (pos 1) (pos 0))

    share-weight-none : (i : ℕ) → Idle i → share_weight T c i ≡ pos 0
    unfolding share_weight
    share-weight-none i n =
        weighs-nothing (is_positive (dirs d3q19.q (lean_weight T c))) {x = lean_weight T c i} {t = target T c i} (lean-weight-none i n) (target_none i n)

    share-at : (k : ℕ) → Dir 8 k → share 18 (excess T c) (share_weight T c) (wide k) ≡ share 8 (excess P c) (share_weight P c) k
    share-at k d =
        ap (λ (x : ℤ). share 18 x (share_weight T c) (wide k)) (excess-same c)
        ∙ share-same (excess P c) (share_weight T c) (share_weight P c) share-weight-at share-weight-none k d

    gives_at : (k : ℕ) → Dir 8 k → gift T c (wide k) ≡ gift P c k
    unfolding gift d3q19 d2q9
    gives_at k d j = cond (converted-same c j && any-target-same j) (share-at k d j) (pos 0)

    strays-at : to_carry T c ≡ to_carry P c
    unfolding to_carry
    strays-at j = cond (converted-same c j && not (any-target-same j)) (excess-same c j) (pos 0)

  pub gift-at : (c k : ℕ) → Dir 8 k → gift T c (wide k) ≡ gift P c k
  gift-at c k d = go (converted P c) refl
    where
      go : (b : Bool) → converted P c ≡ b → gift T c (wide k) ≡ gift P c k
      go true e = gives_at c (no-interface P c e) k d
      go false e = gives_nothing T c (wide k) (converted-same c ∙ e) ∙ sym (gives_nothing P c k e)

  pub to-carry-same : (c : ℕ) → to_carry T c ≡ to_carry P c
  to-carry-same c = go (converted P c) refl
    where
      go : (b : Bool) → converted P c ≡ b → to_carry T c ≡ to_carry P c
      go true e = strays-at c (no-interface P c e)
      go false e = strays-nothing T c (converted-same c ∙ e) ∙ sym (strays-nothing P c e)

  -- a cell that receives gives nothing
  received-same : (c : ℕ) → eqb (new_flag P c) 1 ≡ true → received T c ≡ received P c
  unfolding received d3q19 d2q9
  received-same c e =
      dirs-same (λ i. gift T (T.grid.near c i) (d3q19.opp i)) (λ k. gift P (P.grid.near c k) (d2q9.opp k))
      (λ k d. ap₂ (λ (m o : ℕ). gift T m o) (near-at S c k d) (opp-at k d) ∙ gift-at (P.grid.near c k) (d2q9.opp k) (opp-dir k d))
      (λ i n. ap (λ (m : ℕ). gift T m (d3q19.opp i)) (near_none S c i n) ∙ gives_nothing T c (d3q19.opp i) (converted-same c ∙ still))
    where
      still : converted P c ≡ false
      still = never (converted P c) (λ t. false≢true (sym (no-interface P c t) ∙ e))

  pub new-mass-same : (c : ℕ) → new_mass T c ≡ new_mass P c
  unfolding new_mass
  new-mass-same c =
      ap₂ (λ (x y : ℤ). x +ℤ y) (base-mass-same S steady c)
      (ap (λ (f : ℕ). cond (eqb f 1) (received T c) (pos 0)) (new-flag-same S steady c) ∙ go (eqb (new_flag P c) 1) refl)
    where
      go : (b : Bool) → eqb (new_flag P c) 1 ≡ b → cond (eqb (new_flag P c) 1) (received T c) (pos 0) ≡ cond (eqb (new_flag P c) 1) (received P c) (pos 0)
      go true e = ap (λ (x : ℤ). cond (eqb (new_flag P c) 1) x (pos 0)) (received-same c e)
      go false e = cond_no (received T c) (pos 0) e ∙ sym (cond_no (received P c) (pos 0) e)

  pub new-carry-same : new_carry T ≡ new_carry P
  unfolding new_carry
  new-carry-same = ap (λ (x : ℤ). S.old.carry +ℤ x) (sum-cong S.grid.cells (to_carry T) (to_carry P) (λ c k. to-carry-same c))

  pub new-fill-same : (c : ℕ) → new_fill T c ≡ new_fill P c
  unfolding new_fill
  new-fill-same c j =
      fill_for (new-flag-same S steady c j) (new-mass-same c j) (density-same (new_part T c) (new_part P c) (new-part-spreads S steady c) j)

  -- the next state among the nineteen places is the next state, spread
  pub next-spreads : SpreadOf (next P) (next T)
  unfolding next
  next-spreads = record {
    flags = new-flag-same S steady;
    parts = new-part-spreads S steady;
    masses = new-mass-same;
    fills = new-fill-same;
    carries = new-carry-same;
  }
