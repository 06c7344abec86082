-- `hostsurface::surface::skw_surface_next`: number, place, kind, cell and words of what the question answers. Assumes nothing.
use mathlib.Core.Path.{ap, ◌∙◌}
use Rattle.index.specs.Outcome.{next_number, next_place, next_kind, next_cell, next_words}
use Rattle.hostsurface.proofs.surface.skw_surface_next.Goals as goal

pub returns : goal.returns
returns c =
    let e = c.surface_next-a.ensures in
    record {
      number_is = c.next_number.ensures ∙ ap next_number e;
      place_is = c.next_place.ensures ∙ ap next_place e;
      kind-is = c.next_kind.ensures ∙ ap next_kind e;
      cell-is = c.next_cell.ensures ∙ ap next_cell e;
      read_is = c.next_words.ensures ∙ ap next_words e;
    }
