-- From one cell's sight to the step's scene: the test of stage 3, the moved parts, masses and marks. A liquid cell's neighbours are where the offsets
-- say; of any other cell nothing is asked. Assumes nothing.
use mathlib.Core.Path.{◌≡◌, refl, ap, ap₂, ◌∙◌}
use mathlib.Core.Bool.{Bool, true, false, cond}
use mathlib.Core.List.{List, []}
use Prim.Native.Nat.{ℕ, zero, suc, ◌+◌, ◌-◌, ◌≤◌, ◌<◌}
use native.Mathlib.Omega.{arith}
use lib.IntN.{ℤ, pos}
use lib.ListN.{get_or}
use Rattle.lattice.specs.Lattice.{d3q19}
use Rattle.lattice.specs.Cell.{over, under}
use Rattle.lattice.specs.declared.Settings.{Settings}
use Rattle.lattice.proofs.Paired.{paired19}
use Rattle.grid.specs.Grid.{Grid}
use Rattle.grid.specs.State.{Scene, by_flag, liquid}
use Rattle.grid.specs.Step.{streamed_density, traded_mass, unsteady, collided}
use Rattle.grid.specs.inner.Between.{moved_part, moved_mass, first_mark}
use Rattle.grid.specs.Mode.{scene_by}
use Rattle.grid.specs.inner.Sight.{weighing, sight}
use Rattle.flow.proofs.Plain.{axial19, streamed-density-same, unsteady-same, relax-same, collided-same, traded-mass-same}

-- ---- by cases on the flag alone
dry-part : (f : ℕ) (x y : ℤ) → (liquid f ≡ true → x ≡ y) → by_flag f (pos 0) x x (pos 0) ≡ by_flag f (pos 0) y y (pos 0)
dry-part zero x y h = refl
dry-part (suc zero) x y h = h refl
dry-part (suc (suc zero)) x y h = h refl
dry-part (suc (suc (suc n))) x y h = refl

dry-mass : (f : ℕ) (m n r q : ℤ) → (f ≡ 1 → m ≡ n) → r ≡ by_flag f (pos 0) q q (pos 0) → by_flag f r m r r ≡ by_flag f (pos 0) n q (pos 0)
dry-mass zero m n r q h e = e
dry-mass (suc zero) m n r q h e = h refl
dry-mass (suc (suc zero)) m n r q h e = e
dry-mass (suc (suc (suc k))) m n r q h e = e

mark-cases : (f : ℕ) (m n r q : ℤ) → (f ≡ 1 → (m ≡ n) × (r ≡ q))
    → ◌≡◌ {A = ℕ} (by_flag f 0 (cond (over m r) 1 (cond (under m r) 2 0)) 0 0) (by_flag f 0 (cond (over n q) 1 (cond (under n q) 2 0)) 0 0)
mark-cases zero m n r q h = refl
mark-cases (suc zero) m n r q h = ap₂ (λ (x y : ℤ). cond (over x y) 1 (cond (under x y) 2 0)) (h refl).0 (h refl).1
mark-cases (suc (suc zero)) m n r q h = refl
mark-cases (suc (suc (suc k))) m n r q h = refl

-- a step's scene: a grid, and a set's lists, with parts as a function
abbrev pub step_on : (ℕ → ℕ) → Grid → Settings → List ℕ → (ℕ → ℕ → ℤ) → List ℤ → List ℕ → ℤ → Scene
step_on weights G g flags part masses fills carry =
    scene_by (weighing weights) G (record { flag = λ c. get_or flags c 3; part = part; mass = λ c. get_or masses c (pos 0); fill = λ c. get_or fills c 0; carry = carry }) g

module _ (weights : ℕ → ℕ) (G : Grid) (g : Settings) (flags : List ℕ) (part : ℕ → ℕ → ℤ) (masses : List ℤ) (fills : List ℕ) (carry : ℤ) (off : List ℕ) (low c : ℕ)
    (placed : liquid (get_or flags c 3) ≡ true → (i : ℕ) → i < 19 → c - low + get_or off i 0 ≡ G.near c i) where
  -- the step's scene, and what functions of one cell see of it
  abbrev step : Scene
  step = step_on weights G g flags part masses fills carry

  abbrev seen : Scene
  seen = sight weights flags part [] fills off low g

  abbrev trader : Scene
  trader = sight weights flags part masses fills off low g

  near : liquid (get_or flags c 3) ≡ true → (i : ℕ) → i ≤ d3q19.q → c - low + get_or off i 0 ≡ G.near c i
  unfolding d3q19
  near l i d = placed l i (omega arith)

  -- stages 1, 3 and 4
  module _ (l : liquid (get_or flags c 3) ≡ true) where
    pub density-seen : streamed_density seen c ≡ streamed_density step c
    unfolding sight
    density-seen =
        streamed-density-same (weighing weights) paired19.dir axial19 seen.grid step.grid step.old.flag step.old.part step.old.fill c (near l)
        seen.old.mass step.old.mass seen.old.carry step.old.carry seen.g step.g seen.relax step.relax

    wet-fast : unsteady seen c ≡ unsteady step c
    unfolding sight
    wet-fast =
        unsteady-same (weighing weights) paired19.dir axial19 seen.grid step.grid step.old.flag step.old.part step.old.fill c (near l)
        seen.old.mass step.old.mass seen.old.carry step.old.carry step.g seen.relax step.relax

    relax-seen : seen.relax c ≡ step.relax c
    unfolding sight
    relax-seen =
        relax-same (weighing weights) paired19.dir axial19 seen.grid step.grid step.old.flag step.old.part step.old.fill c (near l)
        g.turbulent step.g g.p

    pub collided-seen : (k : ℕ) → k ≤ 18 → collided seen c k ≡ collided step c k
    unfolding sight d3q19
    collided-seen =
        collided-same (weighing weights) paired19.dir axial19 seen.grid step.grid step.old.flag step.old.part step.old.fill c (near l)
        seen.old.mass step.old.mass seen.old.carry step.old.carry step.g seen.relax step.relax relax-seen

    traded-seen : traded_mass trader c ≡ traded_mass step c
    unfolding sight
    traded-seen =
        traded-mass-same (weighing weights) paired19.dir axial19 trader.grid step.grid step.old.flag step.old.part step.old.fill c (near l)
        step.old.mass trader.old.carry step.old.carry trader.g step.g trader.relax step.relax

  pub fast-seen : unsteady seen c ≡ unsteady step c
  unfolding unsteady sight
  fast-seen = go (liquid (get_or flags c 3)) refl
    where
      go : (b : Bool) → liquid (get_or flags c 3) ≡ b → unsteady seen c ≡ unsteady step c
      go true l = wet-fast l
      go false l = rw l refl

  pub part-seen : (k : ℕ) → k ≤ 18 → moved_part seen c k ≡ moved_part step c k
  unfolding moved_part sight
  part-seen k m = dry-part (get_or flags c 3) (collided seen c k) (collided step c k) (λ l. collided-seen l k m)

  -- the density that the pass hands on: that of a liquid cell, else 0
  pub mass-seen : (rho : ℤ) → rho ≡ by_flag (get_or flags c 3) (pos 0) (streamed_density seen c) (streamed_density seen c) (pos 0)
      → by_flag (get_or flags c 3) rho (traded_mass trader c) rho rho ≡ moved_mass step c
  unfolding moved_mass sight
  mass-seen rho e =
      dry-mass (get_or flags c 3) (traded_mass trader c) (traded_mass step c) rho (streamed_density step c) (λ f. traded-seen (ap liquid f))
      (e ∙ dry-part (get_or flags c 3) (streamed_density seen c) (streamed_density step c) density-seen)

  pub mark-seen : (m rho : ℤ) → rho ≡ by_flag (get_or flags c 3) (pos 0) (streamed_density seen c) (streamed_density seen c) (pos 0) → m ≡ moved_mass step c
      → ◌≡◌ {A = ℕ} (by_flag (get_or flags c 3) 0 (cond (over m rho) 1 (cond (under m rho) 2 0)) 0 0) (first_mark step c)
  unfolding first_mark moved_mass sight
  mark-seen m rho e u =
      mark-cases (get_or flags c 3) m (traded_mass step c) rho (streamed_density step c)
      (λ f. (
        u ∙ ap (λ (k : ℕ). by_flag k (pos 0) (traded_mass step c) (streamed_density step c) (pos 0)) f,
        e ∙ ap (λ (k : ℕ). by_flag k (pos 0) (streamed_density seen c) (streamed_density seen c) (pos 0)) f ∙ density-seen (ap liquid f),
      ))
