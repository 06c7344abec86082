-- In a step of the reflected state own p is that of the reflected cell, in either mode. Assumes nothing.
use mathlib.Core.Path.{◌≡◌, refl}
use mathlib.Core.Bool.{Bool, true, false}
use Prim.Native.Nat.{ℕ, ◌<◌}
use lib.IntN.{ℤ, pos}
use Rattle.lattice.specs.Lattice.{V3, Lattice}
use Rattle.lattice.proofs.Paired.{Paired}
use Rattle.grid.specs.Grid.{Grid}
use Rattle.grid.specs.State.{State}
use Rattle.grid.specs.Mode.{own_at, relax_in, before}
use Rattle.grid.specs.Demands.{scene}
use Rattle.grid.proofs.Laid.{Laid}
use Rattle.mirror.specs.Mirror.{reflect, Mirror, Reflection, Reflects}
use Rattle.mirror.proofs.Stages.{streamed-alike, density-new, momentum-new}
use Rattle.mirror.proofs.Owned.{own-alike}

-- in a step of the reflected state it is that of the reflected cell
module _ (L : Lattice) (G : Grid) (M : Mirror) (paired : Paired L) (laid : Laid L G) (m : Reflection L G M)
    (s t : State) (same : Reflects M L.q G.cells s t) (g : V3) (p p' : ℕ → ℤ) where
  pub own-goes : (plain : ℤ) (c : ℕ) → c < G.cells → G.outer c ≡ false
      → own_at (scene L G t (reflect M.axes g) p') plain c ≡ own_at (scene L G s g p) plain (M.cell c)
  unfolding own_at
  own-goes plain c h o =
      own-alike L M.axes M.dir m.turns _ _ _ _ plain _ _ (density-new L G M paired laid m s t same g p p' c h o)
      (momentum-new L G M paired laid m s t same g p p' c h o) (streamed-alike L G M paired laid m s t same g p p' c h o)

-- what own p turns on: no masses and no carry
abbrev bare : State → State
bare s = record { flag = s.flag; part = s.part; mass = λ c. pos 0; fill = s.fill; carry = pos 0 }

-- in either mode the reflected cell's relaxation is the cell's
module _ (L : Lattice) (G : Grid) (M : Mirror) (paired : Paired L) (laid : Laid L G) (m : Reflection L G M) (s t : State) (same : Reflects M L.q G.cells s t) (g : V3) where
  bare-too : Reflects M L.q G.cells (bare s) (bare t)
  bare-too = record { flags = same.flags; parts = same.parts; masses = λ c h. refl; fills = same.fills; carries = refl }

  pub relax-goes : (mode : Bool) (p : ℤ) (c : ℕ) → c < G.cells → G.outer c ≡ false
      → relax_in mode (before L G t.flag t.part t.fill (reflect M.axes g)) p c ≡ relax_in mode (before L G s.flag s.part s.fill g) p (M.cell c)
  relax-goes false p c h o = refl
  relax-goes true p c h o = own-goes L G M paired laid m (bare s) (bare t) bare-too g (λ d. pos 0) (λ d. pos 0) p c h o
