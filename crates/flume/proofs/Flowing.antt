-- Stages 1 to 4 give the same among the nineteen places as on the flume's own lattice: an idle direction leads to the cell itself, with no part and no
-- weight, and so nothing streams, is exchanged or relaxes there. Assumes nothing.
use mathlib.Core.Path.{◌≡◌, refl, sym, ap, ap₂, ◌∙◌}
use mathlib.Core.Bool.{Bool, true, false, ◌&&◌, not, cond, false≢true}
use mathlib.Core.List.{[], ◌∷◌}
use Prim.Native.Nat.{ℕ, zero, suc, ◌+◌, ◌*◌, ◌≤◌}
use native.Mathlib.Omega.{arith}
use lib.Dec.{eqb}
use lib.IntN.{ℤ, pos, ◌+ℤ◌, ◌-ℤ◌, ◌*ℤ◌, *ℤ-zero, zero-*ℤ, +ℤ_invr}
use lib.Signed.{quot_z}
use Rattle.lattice.specs.Body.{collided_part, relaxed_dir}
use Rattle.whole.specs.Fold.{dirs, Dir}
use Rattle.whole.specs.laws.Quot.{zero-quot}
use Rattle.whole.specs.laws.Ring.{ring-by, quotes}
use Rattle.lattice.specs.Lattice.{V3, dot, density, momentum, d3q19, d2q9, open-lattice}
use Rattle.lattice.specs.Cell.{dense, slow, gas_pair, exchange, pull, quad, relaxed, is_positive}
use Rattle.lattice.proofs.Paired.{paired9}
use Rattle.grid.specs.Grid.{Grid}
use Rattle.grid.specs.State.{State, Scene, by_flag, liquid}
use Rattle.grid.specs.Step.{seen, normal, old_density, old_momentum, leans_to, rebuilds, rebuilt_part, arrives, streamed, difference, traded, traded_mass, streamed_density, streamed_momentum, unsteady, collided_dir, collided}
use Rattle.flume.specs.inner.Spread.{wide, narrow, idle, spread, spread_lattice, plain_scene, spread_scene, Idle, Spreads}
use Rattle.flume.proofs.Places.{by-eight, by-idle, is-idle, spread_at, spread_none, dirs-same, sum_same, spreads}

-- ---- the directions

pub e-at : (k : ℕ) → Dir 8 k → d3q19.e (wide k) ≡ d2q9.e k
unfolding open-lattice wide
e-at = by-eight (λ k. d3q19.e (wide k) ≡ d2q9.e k) refl refl refl refl refl refl refl refl

pub opp-at : (k : ℕ) → Dir 8 k → d3q19.opp (wide k) ≡ wide (d2q9.opp k)
unfolding open-lattice wide
opp-at = by-eight (λ k. d3q19.opp (wide k) ≡ wide (d2q9.opp k)) refl refl refl refl refl refl refl refl

pub opp-dir : (k : ℕ) → Dir 8 k → Dir 8 (d2q9.opp k)
unfolding d2q9
opp-dir k d = paired9.dir k d

pub opp-none : (i : ℕ) → Idle i → Idle (d3q19.opp i)
unfolding open-lattice narrow idle
opp-none =
    by-idle (λ i. Idle (d3q19.opp i)) (is-idle 4 refl refl) (is-idle 3 refl refl) (is-idle 8 refl refl) (is-idle 7 refl refl) (is-idle 10 refl refl)
    (is-idle 9 refl refl) (is-idle 12 refl refl) (is-idle 11 refl refl) (is-idle 14 refl refl) (is-idle 13 refl refl)

-- ---- density and momentum of nine parts among nineteen
module _ (f h : ℕ → ℤ) (z : Spreads f h) where
  pub density-same : density spread_lattice f ≡ density d2q9 h
  unfolding density d3q19 d2q9 wide
  density-same = sum_same f h (λ k d. z.at k d.most) z.none (z.at 0 (omega arith))

  moment-same : (a b : ℕ → ℤ) → ((k : ℕ) → Dir 8 k → a (wide k) ≡ b k) → dirs 18 (λ k. f k *ℤ a k) ≡ dirs 8 (λ k. h k *ℤ b k)
  moment-same a b e =
      dirs-same (λ k. f k *ℤ a k) (λ k. h k *ℤ b k) (λ k d. ap₂ (λ (x y : ℤ). x *ℤ y) (z.at k d.most) (e k d))
      (λ i n. ap (λ (x : ℤ). x *ℤ a i) (z.none i n) ∙ zero-*ℤ (a i))

  pub momentum-same : momentum spread_lattice f ≡ momentum d2q9 h
  unfolding momentum d3q19 d2q9
  momentum-same j = record {
    x = moment-same (λ k. (d3q19.e k).x) (λ k. (d2q9.e k).x) (λ k d. ap (λ (v : V3). v.x) (e-at k d)) j;
    y = moment-same (λ k. (d3q19.e k).y) (λ k. (d2q9.e k).y) (λ k d. ap (λ (v : V3). v.y) (e-at k d)) j;
    z = moment-same (λ k. (d3q19.e k).z) (λ k. (d2q9.e k).z) (λ k d. ap (λ (v : V3). v.z) (e-at k d)) j;
  }

-- ---- what has no weight and no part gives nothing
gas-none : (ρ ej jj : ℤ) → gas_pair 0 ρ ej jj ≡ pos 0
unfolding gas_pair
gas-none ρ ej jj =
    ap (λ (t : ℤ). quot_z t (ρ *ℤ ρ)) (zero-*ℤ (pos 2 *ℤ (ρ *ℤ ρ) +ℤ pos 9 *ℤ (ej *ℤ ej) -ℤ pos 3 *ℤ jj)) ∙ zero-quot (ρ *ℤ ρ)

exchange-none : (φ : ℕ) → exchange φ (pos 0) ≡ pos 0
unfolding exchange
exchange-none φ = ap (λ (t : ℤ). quot_z t (pos 131072)) (*ℤ-zero (pos φ)) ∙ zero-quot (pos 131072)

pub relaxed-none : (p Q ρ : ℤ) → relaxed p 0 Q ρ (pos 0) ≡ pos 0
unfolding relaxed
relaxed-none p Q ρ =
    ap (λ (t : ℤ). pos 0 +ℤ quot_z t (pos 73728 *ℤ ρ)) (nothing p Q ρ) ∙ ap (λ (t : ℤ). pos 0 +ℤ t) (zero-quot (pos 73728 *ℤ ρ))
  where
    nothing : (p Q ρ : ℤ) → p *ℤ (pos 0 *ℤ Q -ℤ pos 72 *ℤ (ρ *ℤ pos 0)) ≡ pos 0
    nothing p Q ρ = ring-by (p ∷ Q ∷ ρ ∷ []) (search quotes depth 20) (search quotes depth 20) tt

arrives-nothing : (b : Bool) (f : ℕ) {x y z : ℤ} → x ≡ pos 0 → y ≡ pos 0 → z ≡ pos 0 → cond b x (by_flag f (pos 0) y y z) ≡ pos 0
arrives-nothing true f u v w = u
arrives-nothing false zero u v w = refl
arrives-nothing false (suc zero) u v w = v
arrives-nothing false (suc (suc zero)) u v w = v
arrives-nothing false (suc (suc (suc n))) u v w = w

trades-nothing : (f : ℕ) {x y : ℤ} → x ≡ pos 0 → y ≡ pos 0 → by_flag f (pos 0) x y (pos 0) ≡ pos 0
trades-nothing zero u v = refl
trades-nothing (suc zero) u v = u
trades-nothing (suc (suc zero)) u v = v
trades-nothing (suc (suc (suc n))) u v = refl

-- on any grid, where no part stands at an idle place: nothing streams into one, is traded there, or is left there by a collision
module _ (G : Grid) (old : State) (g : V3) (relax : ℕ → ℤ) (quiet : (c i : ℕ) → Idle i → old.part c i ≡ pos 0) where
  abbrev Q : Scene
  Q = record { lat = spread_lattice; grid = G; old = old; g = g; relax = relax }

  rebuilt-none : (c i : ℕ) → Idle i → rebuilt_part Q c i ≡ pos 0
  unfolding rebuilt_part
  rebuilt-none c i n =
      ap₂ (λ (w : ℕ) (x : ℤ). gas_pair w (old_density Q c) (dot (d3q19.e i) (old_momentum Q c)) (dot (old_momentum Q c) (old_momentum Q c)) -ℤ x) (spread_none 0 d2q9.weight i n) (quiet c i n)
      ∙ ap (λ (x : ℤ). x -ℤ pos 0) (gas-none (old_density Q c) (dot (d3q19.e i) (old_momentum Q c)) (dot (old_momentum Q c) (old_momentum Q c)))

  arrives-none : (c i k : ℕ) → Idle i → Idle k → arrives Q c i k ≡ pos 0
  unfolding arrives
  arrives-none c i k n m =
      arrives-nothing (rebuilds Q c i) (old.flag (G.near c i)) (rebuilt-none c i n) (quiet (G.near c i) k m) (quiet c i n)

  pub arrives-idle : (c i : ℕ) → Idle i → arrives Q c (d3q19.opp i) i ≡ pos 0
  arrives-idle c i n = arrives-none c (d3q19.opp i) i (opp-none i n) n

  pub streamed-none : (c i : ℕ) → Idle i → streamed Q c i ≡ pos 0
  unfolding streamed idle narrow
  streamed-none c zero n = absurd (false≢true n.none)
  streamed-none c (suc a) n = arrives-idle c (suc a) n

  pub collided-dir-none : (c i : ℕ) → Idle i → collided_dir Q c i ≡ pos 0
  unfolding relaxed_dir
  collided-dir-none c i n =
      let R = quad (streamed_density Q c) (dot (d3q19.e i) (streamed_momentum Q c)) (dot (streamed_momentum Q c) (streamed_momentum Q c)) in
      ap₂ (λ (w : ℕ) (x : ℤ). relaxed (relax c) w R (streamed_density Q c) x) (spread_none 0 d2q9.weight i n) (streamed-none c i n) ∙ relaxed-none (relax c) R (streamed_density Q c)

  pub collided-none : (c i : ℕ) → Idle i → collided Q c i ≡ pos 0
  unfolding collided collided_part idle narrow
  collided-none c zero n = absurd (false≢true n.none)
  collided-none c (suc a) n = collided-dir-none c (suc a) n

  pub traded-none : (c i : ℕ) → Idle i → traded Q c i ≡ pos 0
  unfolding traded difference
  traded-none c i n =
      trades-nothing (old.flag (G.near c i)) (ap (exchange (old.fill c + old.fill (G.near c i))) none ∙ exchange-none (old.fill c + old.fill (G.near c i))) none
    where
      none : difference Q c i ≡ pos 0
      none = ap₂ (λ (x y : ℤ). x -ℤ y) (quiet (G.near c i) (d3q19.opp i) (opp-none i n)) (quiet c i n)

module _ (S : Scene) where
  abbrev P : Scene
  P = plain_scene S

  abbrev T : Scene
  T = spread_scene S

  -- ---- what a stage reads
  pub near-at : (c k : ℕ) → Dir 8 k → T.grid.near c (wide k) ≡ P.grid.near c k
  near-at c k d = spread_at c (S.grid.near c) k d.most

  pub near_none : (c i : ℕ) → Idle i → T.grid.near c i ≡ c
  near_none c i n = spread_none c (S.grid.near c) i n

  pub part-at : (c k : ℕ) → k ≤ 8 → T.old.part c (wide k) ≡ P.old.part c k
  part-at c k h = spread_at (pos 0) (S.old.part c) k h

  pub part_none : (c i : ℕ) → Idle i → T.old.part c i ≡ pos 0
  part_none c i n = spread_none (pos 0) (S.old.part c) i n

  pub old-spreads : (c : ℕ) → Spreads (T.old.part c) (P.old.part c)
  old-spreads c = record { at = part-at c; none = part_none c }

  weight-at : (k : ℕ) → Dir 8 k → T.lat.weight (wide k) ≡ P.lat.weight k
  weight-at k d = spread_at 0 d2q9.weight k d.most

  -- the normal: along y there is nothing to see but the cell itself
  pub normal-same : (c : ℕ) → normal T c ≡ normal P c
  unfolding normal seen d3q19 d2q9 spread narrow idle
  normal-same c j = record {
    x = (normal P c).x;
    y = (+ℤ_invr (seen T c (T.grid.near c 3)) ∙ sym (+ℤ_invr (seen P c (P.grid.near c 0)))) j;
    z = (normal P c).z;
  }

  old-density-same : (c : ℕ) → old_density T c ≡ old_density P c
  unfolding old_density
  old-density-same c = density-same (T.old.part c) (P.old.part c) (old-spreads c)

  old-momentum-same : (c : ℕ) → old_momentum T c ≡ old_momentum P c
  unfolding old_momentum
  old-momentum-same c = momentum-same (T.old.part c) (P.old.part c) (old-spreads c)

  -- ---- 1 streaming
  leans-at : (c k : ℕ) → Dir 8 k → leans_to T c (wide k) ≡ leans_to P c k
  unfolding leans_to
  leans-at c k d = ap₂ (λ (n e : V3). eqb (S.old.flag c) 1 && is_positive (dot n e)) (normal-same c) (e-at k d)

  rebuilds-at : (c k : ℕ) → Dir 8 k → rebuilds T c (wide k) ≡ rebuilds P c k
  unfolding rebuilds
  rebuilds-at c k d = ap₂ (λ (m : ℕ) (b : Bool). by_flag (S.old.flag m) true b b false) (near-at c k d) (leans-at c k d)

  rebuilt-at : (c k : ℕ) → Dir 8 k → rebuilt_part T c (wide k) ≡ rebuilt_part P c k
  unfolding rebuilt_part
  rebuilt-at c k d j =
      let m = old-momentum-same c j in
      gas_pair (weight-at k d j) (old-density-same c j) (dot (e-at k d j) m) (dot m m) -ℤ part-at c k d.most j

  beyond-at : (c i k : ℕ) → Dir 8 i → k ≤ 8 → T.old.part (T.grid.near c (wide i)) (wide k) ≡ P.old.part (P.grid.near c i) k
  beyond-at c i k d h = ap (λ (m : ℕ). T.old.part m (wide k)) (near-at c i d) ∙ part-at (P.grid.near c i) k h

  arrives_at : (c i k : ℕ) → Dir 8 i → Dir 8 k → arrives T c (wide i) (wide k) ≡ arrives P c i k
  unfolding arrives
  arrives_at c i k d t j =
      let x = beyond-at c i k d t.most j in
      cond (rebuilds-at c i d j) (rebuilt-at c i d j) (by_flag (S.old.flag (near-at c i d j)) (pos 0) x x (part-at c i d.most j))

  pub streamed-spreads : (c : ℕ) → Spreads (streamed T c) (streamed P c)
  unfolding streamed spread narrow idle
  streamed-spreads c =
      spreads (streamed T c) (streamed P c) (λ i. arrives T c (d3q19.opp i) i) (λ k. arrives P c (d2q9.opp k) k) (λ a. refl) (λ a. refl) refl
      (λ k d. ap (λ (o : ℕ). arrives T c o (wide k)) (opp-at k d) ∙ arrives_at c (d2q9.opp k) k (opp-dir k d) d)
      (arrives-idle T.grid T.old S.g S.relax part_none c)

  -- ---- 2 mass exchange
  difference-at : (c k : ℕ) → Dir 8 k → difference T c (wide k) ≡ difference P c k
  unfolding difference
  difference-at c k d =
      ap₂ (λ (x y : ℤ). x -ℤ y)
      (ap (λ (o : ℕ). T.old.part (T.grid.near c (wide k)) o) (opp-at k d) ∙ beyond-at c k (d2q9.opp k) d (opp-dir k d).most)
      (part-at c k d.most)

  traded-at : (c k : ℕ) → Dir 8 k → traded T c (wide k) ≡ traded P c k
  unfolding traded
  traded-at c k d j =
      let m = near-at c k d j in
      let x = difference-at c k d j in
      by_flag (S.old.flag m) (pos 0) (exchange (S.old.fill c + S.old.fill m) x) x (pos 0)

  pub traded-mass-same : (c : ℕ) → traded_mass T c ≡ traded_mass P c
  unfolding traded_mass d3q19 d2q9
  traded-mass-same c = ap (λ (x : ℤ). S.old.mass c +ℤ x) (dirs-same (traded T c) (traded P c) (traded-at c) (traded-none T.grid T.old S.g S.relax part_none c))

  -- ---- 3 gravity and test
  pub streamed-density-same : (c : ℕ) → streamed_density T c ≡ streamed_density P c
  unfolding streamed_density
  streamed-density-same c = density-same (streamed T c) (streamed P c) (streamed-spreads c)

  pub streamed-momentum-same : (c : ℕ) → streamed_momentum T c ≡ streamed_momentum P c
  unfolding streamed_momentum
  streamed-momentum-same c j =
      let m = momentum-same (streamed T c) (streamed P c) (streamed-spreads c) j in
      let ρ = streamed-density-same c j in
      record { x = m.x +ℤ pull ρ S.g.x; y = m.y +ℤ pull ρ S.g.y; z = m.z +ℤ pull ρ S.g.z }

  pub unsteady-same : (c : ℕ) → unsteady T c ≡ unsteady P c
  unfolding unsteady
  unsteady-same c j =
      let m = streamed-momentum-same c j in
      let ρ = streamed-density-same c j in
      liquid (S.old.flag c) && not (dense ρ && slow ρ (dot m m))

  -- ---- 4 collision
  collided-at : (c k : ℕ) → Dir 8 k → collided_dir T c (wide k) ≡ collided_dir P c k
  unfolding relaxed_dir
  collided-at c k d j =
      let m = streamed-momentum-same c j in
      let ρ = streamed-density-same c j in
      relaxed (S.relax c) (weight-at k d j) (quad ρ (dot (e-at k d j) m) (dot m m)) ρ ((streamed-spreads c).at k d.most j)

  pub collided-spreads : (c : ℕ) → Spreads (collided T c) (collided P c)
  unfolding collided collided_part d3q19 d2q9
  collided-spreads c =
      spreads (collided T c) (collided P c) (collided_dir T c) (collided_dir P c) (λ a. refl) (λ a. refl)
      (ap₂ (λ (x y : ℤ). x -ℤ y) (streamed-density-same c) (dirs-same (collided_dir T c) (collided_dir P c) (collided-at c) (collided-dir-none T.grid T.old S.g S.relax part_none c)))
      (collided-at c) (collided-dir-none T.grid T.old S.g S.relax part_none c)
