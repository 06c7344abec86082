-- `hostsurface::surface::skw_surface_count`: number, place and cells of what the question answers. Assumes nothing.
use mathlib.Core.Path.{ap, ◌∙◌}
use Rattle.index.specs.Outcome.{count_number, count_place, count_cells}
use Rattle.hostsurface.proofs.surface.skw_surface_count.Goals as goal

pub returns : goal.returns
returns c =
    let e = c.surface_count-a.ensures in
    record {
      number_is = c.count_number.ensures ∙ ap count_number e;
      place_is = c.count_place.ensures ∙ ap count_place e;
      cells_are = c.count_cells.ensures ∙ ap count_cells e;
    }
