-- What a step relaxes each cell by: p in the plain mode; in the turbulent one P10's own p from the cell's streamed parts and stage 3's density and momentum,
-- which is in 1..2037, at most p, and p where the cell holds exactly its equilibrium. Over any lattice and grid. Assumes nothing.
use mathlib.Core.Path.{◌≡◌, refl, ap, ◌∙◌}
use mathlib.Core.Bool.{Bool, true, false}
use Prim.Native.Nat.{ℕ, zero, suc}
use lib.IntN.{ℤ, ◌+ℤ◌}
use lib.Signed.{◌≤ℤ◌}
use Rattle.whole.specs.laws.Parts.{parts-≤}
use native.Mathlib.Omega.{arith}
use Rattle.whole.specs.Fold.{Dir}
use Rattle.lattice.specs.Lattice.{Lattice, density, momentum}
use Rattle.lattice.specs.Cell.{pull, relaxation_good}
use Rattle.lattice.specs.Body.{equilibrium_dir}
use Rattle.lattice.specs.declared.Settings.{Settings}
use Rattle.turbulence.specs.Turbulence.{own_relaxation}
use Rattle.turbulence.proofs.Laws.{own-cong, own-good, own-not-above, equilibrium-keeps}
use Rattle.grid.specs.Grid.{Grid}
use Rattle.grid.specs.State.{State, Scene}
use Rattle.grid.specs.Step.{seen, normal, old_density, old_momentum, leans_to, rebuilds, rebuilt_part, arrives, streamed, streamed_density, streamed_momentum}
use Rattle.grid.specs.Mode.{own_at, relax_in, before, pull_of, scene_by}

pub relax-good : (mode : Bool) (S : Scene) (p : ℤ) (c : ℕ) → relaxation_good p ≡ true → relaxation_good (relax_in mode S p c) ≡ true
unfolding own_at
relax-good false S p c e = e
relax-good true S p c e = own-good S.lat (streamed_density S c) (streamed_momentum S c) p (streamed S c)

pub relax-most : (mode : Bool) (S : Scene) (p : ℤ) (c : ℕ) → relaxation_good p ≡ true → relax_in mode S p c ≤ℤ p
unfolding own_at
relax-most false S p c e = parts-≤ (omega arith)
relax-most true S p c e = own-not-above S.lat (streamed_density S c) (streamed_momentum S c) p (streamed S c) e

-- ---- a step's scene
module _ (L : Lattice) (G : Grid) (s : State) (g : Settings) (c : ℕ) where
  abbrev S : Scene
  S = scene_by L G s g

  -- what stages 1 and 3 make of the cell turns on no relaxation
  abbrev first : Scene
  first = before L G s.flag s.part s.fill (pull_of g)

  streamed-first : (k : ℕ) → streamed first c k ≡ streamed S c k
  unfolding streamed arrives seen normal leans_to rebuilds rebuilt_part old_density old_momentum
  streamed-first zero = refl
  streamed-first (suc a) = refl

  density-first : streamed_density first c ≡ streamed_density S c
  unfolding streamed_density
  density-first i = density L (λ k. streamed-first k i)

  momentum-first : streamed_momentum first c ≡ streamed_momentum S c
  unfolding streamed_momentum
  momentum-first i =
      let j = momentum L (λ k. streamed-first k i) in
      record {
        x = j.x +ℤ pull (density-first i) g.gx;
        y = j.y +ℤ pull (density-first i) g.gy;
        z = j.z +ℤ pull (density-first i) g.gz;
      }

  pub plain-relax : g.turbulent ≡ false → S.relax c ≡ g.p
  plain-relax e = ap (λ (mode : Bool). relax_in mode first g.p c) e

  pub own-relax : g.turbulent ≡ true → S.relax c ≡ own_relaxation L (streamed_density S c) (streamed_momentum S c) g.p (streamed S c)
  unfolding own_at
  own-relax e =
      ap (λ (mode : Bool). relax_in mode first g.p c) e
      ∙ own-cong L (streamed_density first c) (streamed_density S c) (streamed_momentum first c) (streamed_momentum S c) g.p (streamed first c) (streamed S c) density-first momentum-first
      (λ i h. streamed-first i)

  -- a cell that holds exactly its equilibrium keeps p, in either mode
  pub equilibrium-relaxes : relaxation_good g.p ≡ true → ((i : ℕ) → Dir L.q i → streamed S c i ≡ equilibrium_dir L (streamed_density S c) (streamed_momentum S c) i) → S.relax c ≡ g.p
  equilibrium-relaxes e h = go g.turbulent refl
    where
      go : (mode : Bool) → g.turbulent ≡ mode → S.relax c ≡ g.p
      go false m = plain-relax m
      go true m = own-relax m ∙ equilibrium-keeps L (streamed_density S c) (streamed_momentum S c) g.p (streamed S c) e h
