-- Stage 5 gives the same among the nineteen places as on the flume's own lattice, where no cell is unsteady: an idle direction leads to the cell itself,
-- which is neither filled beside an empty cell, nor emptied beside a fluid one, nor emptied where it is filled. Assumes nothing.
use mathlib.Core.Path.{◌≡◌, refl, sym, ap, ap₂, ◌∙◌}
use mathlib.Core.Bool.{Bool, true, false, ◌&&◌, not, cond, false≢true}
use Prim.Native.Nat.{ℕ, zero, suc}
use native.Mathlib.Omega.{arith}
use lib.IntN.{ℤ, pos, ◌-ℤ◌, ◌*ℤ◌, zero-*ℤ}
use lib.Signed.{quot_z}
use Rattle.lattice.specs.Body.{equilibrium_dir, equilibrium_part}
use Rattle.whole.specs.laws.Bools.{never, cond_no}
use Rattle.whole.specs.laws.Quot.{zero-quot}
use Rattle.whole.specs.Fold.{Dir}
use Rattle.lattice.specs.Lattice.{V3, dot, d3q19, d2q9}
use Rattle.lattice.specs.Cell.{dense, over, under, quad, cut_equilibrium, floor, cut}
use Rattle.grid.specs.State.{Scene, by_flag, liquid}
use Rattle.grid.specs.Step.{traded_mass, streamed_density, streamed_momentum, collided, filled, beside_filled, emptied, beside_emptied, flag_after, new_flag, base_mass, liquid_near, near_sum, born_density, born_momentum, born_dir, born, new_part}
use Rattle.grid.proofs.Accurate.{not-both, both-tests}
use Rattle.flume.specs.inner.Spread.{wide, spread, plain_scene, spread_scene, Idle, Spreads}
use Rattle.flume.proofs.Places.{spread_at, spread_none, dirs-same, any_same, count_same, spreads}
use Rattle.flume.proofs.Flowing.{e-at, near-at, near_none, traded-mass-same, streamed-density-same, streamed-momentum-same, collided-spreads}

-- stage 3 has passed: every liquid cell's ρ' is in its range
abbrev pub Steady : Scene → Type 0
Steady S = (c : ℕ) → liquid (S.old.flag c) ≡ true → dense (streamed_density (plain_scene S) c) ≡ true

-- ---- by cases on the old flag and the tests alone

interface-alone : (f : ℕ) (b : Bool) → (f ≡ 1 → ⊥) → by_flag f false b false false ≡ false
interface-alone zero b h = refl
interface-alone (suc zero) b h = absurd (h refl)
interface-alone (suc (suc zero)) b h = refl
interface-alone (suc (suc (suc n))) b h = refl

interface-liquid : (f : ℕ) (b : Bool) → by_flag f false b false false ≡ true → liquid f ≡ true
interface-liquid zero b e = absurd (false≢true e)
interface-liquid (suc zero) b e = refl
interface-liquid (suc (suc zero)) b e = absurd (false≢true e)
interface-liquid (suc (suc (suc n))) b e = absurd (false≢true e)

after_same : (f : ℕ) {b b' t t' e e' h h' : Bool} → (f ≡ 0 → b ≡ b') → t ≡ t' → e ≡ e' → (f ≡ 2 → h ≡ h') → flag_after f b t e h ≡ flag_after f b' t' e' h'
after_same zero p q r u = ap (λ (b : Bool). cond b 1 0) (p refl)
after_same (suc zero) p q r u = ap₂ (λ (t e : Bool). cond t 2 (cond e 0 1)) q r
after_same (suc (suc zero)) p q r u = ap (λ (h : Bool). cond h 1 2) (u refl)
after_same (suc (suc (suc n))) p q r u = refl

part_same : (f : ℕ) {b b' e e' : Bool} {x x' y y' : ℤ} → (f ≡ 0 → b ≡ b') → (f ≡ 0 → x ≡ x') → e ≡ e' → y ≡ y'
    → by_flag f (cond b x (pos 0)) (cond e (pos 0) y) y (pos 0) ≡ by_flag f (cond b' x' (pos 0)) (cond e' (pos 0) y') y' (pos 0)
part_same zero p q r u = ap₂ (λ (b : Bool) (x : ℤ). cond b x (pos 0)) (p refl) (q refl)
part_same (suc zero) p q r u = ap₂ (λ (e : Bool) (y : ℤ). cond e (pos 0) y) r u
part_same (suc (suc zero)) p q r u = u
part_same (suc (suc (suc n))) p q r u = refl

part_none : (f : ℕ) (b e : Bool) {x y : ℤ} → x ≡ pos 0 → y ≡ pos 0 → by_flag f (cond b x (pos 0)) (cond e (pos 0) y) y (pos 0) ≡ pos 0
part_none zero true e p q = p
part_none zero false e p q = refl
part_none (suc zero) b true p q = refl
part_none (suc zero) b false p q = q
part_none (suc (suc zero)) b e p q = q
part_none (suc (suc (suc n))) b e p q = refl

pub equilibrium-none : (Q ρ : ℤ) → cut_equilibrium 0 Q ρ ≡ pos 0
unfolding cut_equilibrium
equilibrium-none Q ρ = ap (λ (t : ℤ). quot_z t (pos 72 *ℤ ρ)) (zero-*ℤ Q) ∙ zero-quot (pos 72 *ℤ ρ)

-- a filled cell with a density in its range is not emptied
pub full-stays : (X : Scene) (c : ℕ) → (liquid (X.old.flag c) ≡ true → dense (streamed_density X c) ≡ true) → filled X c ≡ true → emptied X c ≡ false
unfolding filled emptied
full-stays X c d e =
    never (emptied X c) (λ t.
    let z = both-tests (X.old.flag c) (over (traded_mass X c) (streamed_density X c)) (under (traded_mass X c) (streamed_density X c)) (not (beside_filled X c)) e t in
    not-both (traded_mass X c) (streamed_density X c) (d (interface-liquid (X.old.flag c) (over (traded_mass X c) (streamed_density X c)) e)) z.0 z.1)

pub not-filled : (X : Scene) (c : ℕ) → (X.old.flag c ≡ 1 → ⊥) → filled X c ≡ false
unfolding filled
not-filled X c h = interface-alone (X.old.flag c) (over (traded_mass X c) (streamed_density X c)) h

pub not-emptied : (X : Scene) (c : ℕ) → (X.old.flag c ≡ 1 → ⊥) → emptied X c ≡ false
unfolding emptied
not-emptied X c h = interface-alone (X.old.flag c) (under (traded_mass X c) (streamed_density X c) && not (beside_filled X c)) h

module _ (S : Scene) where
  pub filled-same : (c : ℕ) → filled (spread_scene S) c ≡ filled (plain_scene S) c
  unfolding filled
  filled-same c j = by_flag (S.old.flag c) false (over (traded-mass-same S c j) (streamed-density-same S c j)) false false

  beside-filled-same : (c : ℕ) → filled (plain_scene S) c ≡ false → beside_filled (spread_scene S) c ≡ beside_filled (plain_scene S) c
  unfolding beside_filled d3q19 d2q9
  beside-filled-same c e =
      any_same (λ i. filled (spread_scene S) (spread c (S.grid.near c) i)) (λ k. filled (plain_scene S) (S.grid.near c k))
      (λ k d. ap (filled (spread_scene S)) (near-at S c k d) ∙ filled-same (S.grid.near c k))
      (λ i n. ap (filled (spread_scene S)) (near_none S c i n) ∙ filled-same c ∙ e)

module _ (S : Scene) (steady : Steady S) where
  abbrev P : Scene
  P = plain_scene S

  abbrev T : Scene
  T = spread_scene S

  pub emptied-same : (c : ℕ) → emptied T c ≡ emptied P c
  unfolding emptied
  emptied-same c = go (filled P c) refl
    where
      lean : filled P c ≡ false → emptied T c ≡ emptied P c
      lean e j =
          by_flag (S.old.flag c) false (under (traded-mass-same S c j) (streamed-density-same S c j) && not (beside-filled-same S c e j)) false false

      go : (b : Bool) → filled P c ≡ b → emptied T c ≡ emptied P c
      go true e =
          full-stays T c (λ l. ap dense (streamed-density-same S c) ∙ steady c l) (filled-same S c ∙ e) ∙ sym (full-stays P c (steady c) e)
      go false e = lean e

  beside-emptied-same : (c : ℕ) → emptied P c ≡ false → beside_emptied T c ≡ beside_emptied P c
  unfolding beside_emptied d3q19 d2q9
  beside-emptied-same c e =
      any_same (λ i. emptied T (T.grid.near c i)) (λ k. emptied P (P.grid.near c k))
      (λ k d. ap (emptied T) (near-at S c k d) ∙ emptied-same (P.grid.near c k))
      (λ i n. ap (emptied T) (near_none S c i n) ∙ emptied-same c ∙ e)

  beside-empty : (c : ℕ) → S.old.flag c ≡ 0 → beside_filled T c ≡ beside_filled P c
  beside-empty c z = beside-filled-same S c (not-filled P c (λ e. absurd (omega arith)))

  pub new-flag-same : (c : ℕ) → new_flag T c ≡ new_flag P c
  unfolding new_flag
  new-flag-same c =
      after_same (S.old.flag c) (beside-empty c) (filled-same S c) (emptied-same c) (λ z. beside-emptied-same c (not-emptied P c (λ e. absurd (omega arith))))

  pub base-mass-same : (c : ℕ) → base_mass T c ≡ base_mass P c
  unfolding base_mass
  base-mass-same c j =
      let m = traded-mass-same S c j in
      let ρ = streamed-density-same S c j in
      by_flag (S.old.flag c) (pos 0) (cond (filled-same S c j) ρ (cond (emptied-same c j) (pos 0) m)) ρ (pos 0)

  -- ---- a new interface cell: it was empty, and so is not liquid beside itself
  module _ (c : ℕ) (z : S.old.flag c ≡ 0) where
    wet-at : (k : ℕ) → Dir 8 k → liquid (S.old.flag (T.grid.near c (wide k))) ≡ liquid (S.old.flag (P.grid.near c k))
    wet-at k d = ap (λ (m : ℕ). liquid (S.old.flag m)) (near-at S c k d)

    wet-none : (i : ℕ) → Idle i → liquid (S.old.flag (T.grid.near c i)) ≡ false
    wet-none i n = ap (λ (m : ℕ). liquid (S.old.flag m)) (near_none S c i n) ∙ ap liquid z

    liquid-near-same : liquid_near T c ≡ liquid_near P c
    unfolding liquid_near d3q19 d2q9
    liquid-near-same =
        count_same (λ i. liquid (S.old.flag (T.grid.near c i))) (λ k. liquid (S.old.flag (P.grid.near c k))) wet-at wet-none

    near-sum-same : (f h : ℕ → ℤ) → ((d : ℕ) → f d ≡ h d) → near_sum T c f ≡ near_sum P c h
    unfolding near_sum d3q19 d2q9
    near-sum-same f h e =
        dirs-same (λ i. cond (liquid (S.old.flag (T.grid.near c i))) (f (T.grid.near c i)) (pos 0)) (λ k. cond (liquid (S.old.flag (P.grid.near c k))) (h (P.grid.near c k)) (pos 0))
        (λ k d. ap₂ (λ (b : Bool) (x : ℤ). cond b x (pos 0)) (wet-at k d) (ap f (near-at S c k d) ∙ e (P.grid.near c k)))
        (λ i n. cond_no (f (T.grid.near c i)) (pos 0) (wet-none i n))

    born-density-same : born_density T c ≡ born_density P c
    unfolding born_density
    born-density-same = ap₂ (λ (x : ℤ) (n : ℕ). floor x n) (near-sum-same (streamed_density T) (streamed_density P) (streamed-density-same S)) liquid-near-same

    born-momentum-same : born_momentum T c ≡ born_momentum P c
    unfolding born_momentum
    born-momentum-same j =
        let n = liquid-near-same j in
        record {
          x = cut (near-sum-same (λ d. (streamed_momentum T d).x) (λ d. (streamed_momentum P d).x) (λ d. ap (λ (v : V3). v.x) (streamed-momentum-same S d)) j) (pos n);
          y = cut (near-sum-same (λ d. (streamed_momentum T d).y) (λ d. (streamed_momentum P d).y) (λ d. ap (λ (v : V3). v.y) (streamed-momentum-same S d)) j) (pos n);
          z = cut (near-sum-same (λ d. (streamed_momentum T d).z) (λ d. (streamed_momentum P d).z) (λ d. ap (λ (v : V3). v.z) (streamed-momentum-same S d)) j) (pos n);
        }

    born-at : (k : ℕ) → Dir 8 k → born_dir T c (wide k) ≡ born_dir P c k
    unfolding equilibrium_dir
    born-at k d j =
        let m = born-momentum-same j in
        let ρ = born-density-same j in
        cut_equilibrium (spread_at 0 d2q9.weight k d.most j) (quad ρ (dot (e-at k d j) m) (dot m m)) ρ

    born-none : (i : ℕ) → Idle i → born_dir T c i ≡ pos 0
    unfolding equilibrium_dir
    born-none i n =
        let Q = quad (born_density T c) (dot (d3q19.e i) (born_momentum T c)) (dot (born_momentum T c) (born_momentum T c)) in
        ap (λ (w : ℕ). cut_equilibrium w Q (born_density T c)) (spread_none 0 d2q9.weight i n) ∙ equilibrium-none Q (born_density T c)

    born-spreads : Spreads (born T c) (born P c)
    unfolding born equilibrium_part d3q19 d2q9
    born-spreads =
        spreads (born T c) (born P c) (born_dir T c) (born_dir P c) (λ a. refl) (λ a. refl)
        (ap₂ (λ (x y : ℤ). x -ℤ y) born-density-same (dirs-same (born_dir T c) (born_dir P c) born-at born-none)) born-at born-none

  -- an idle place of a cell that was not empty holds nothing either way
  pub new-part-spreads : (c : ℕ) → Spreads (new_part T c) (new_part P c)
  unfolding new_part
  new-part-spreads c = record {
    at = λ k h. part_same (S.old.flag c) (beside-empty c) (λ z. (born-spreads c z).at k h) (emptied-same c) ((collided-spreads S c).at k h);
    none = λ i n. none i n;
  }
    where
      none : (i : ℕ) → Idle i → by_flag (S.old.flag c) (cond (beside_filled T c) (born T c i) (pos 0)) (cond (emptied T c) (pos 0) (collided T c i)) (collided T c i) (pos 0) ≡ pos 0
      none i n = dry (S.old.flag c) refl
        where
          dry : (f : ℕ) → S.old.flag c ≡ f → by_flag f (cond (beside_filled T c) (born T c i) (pos 0)) (cond (emptied T c) (pos 0) (collided T c i)) (collided T c i) (pos 0) ≡ pos 0
          dry zero z = part_none zero (beside_filled T c) (emptied T c) ((born-spreads c z).none i n) ((collided-spreads S c).none i n)
          dry (suc zero) z = part_none 1 (beside_filled T c) (emptied T c) {x = pos 0} refl ((collided-spreads S c).none i n)
          dry (suc (suc zero)) z = (collided-spreads S c).none i n
          dry (suc (suc (suc m))) z = refl
