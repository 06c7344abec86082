-- `solids::walls::invert_flags`: the layer, then all cells. Assumes nothing.
use mathlib.Core.Path.{ap, ◌∙◌}
use mathlib.Core.List.{List}
use Prim.Native.Nat.{ℕ}
use lib.ListN.{drop}
use Rattle.whole.specs.Fold.{tab}
use Rattle.grid.specs.Grid.{cells_of}
use Rattle.grid.proofs.GoodSides.{good-sides}
use Rattle.solids.specs.inner.Walls.{wall_by}
use Rattle.solids.proofs.Inverts.{invert-is, layer_fits}
use Rattle.solids.proofs.walls.invert_flags.Goals as goal

pub layer-requires : goal.layer-requires
layer-requires c =
    let s = c in
    let a = s.args in
    let g = good-sides a.sides s.requires.sides_value in
    record { at_in_bounds = s.requires.at_in_bounds; n_bound = g.x.high; m_bound = g.y.high; n_in_bounds = layer_fits a.sides s.requires.sides_value a.edge (drop a.at a.s.now) a.flags.now s.requires.flags_len; edge_bound = s.requires.edge_bound; nz_bound = g.z.high }

pub returns : goal.returns
returns c =
    let s = c in
    let a = s.args in
    let l = c in
    c.spread.ensures
    ∙ ap (λ (x : List ℕ). tab (cells_of a.sides) (wall_by a.sides x)) l.layer.ensures
    ∙ invert-is a.sides s.requires.sides_value a.edge (drop a.at a.s.now) a.flags.now s.requires.flags_len
