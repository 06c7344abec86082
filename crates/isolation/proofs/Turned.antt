-- The same history as the other designer sees it: with mine and theirs exchanged, and the two schemes too. So what is proved of one scheme holds of the
-- other. Assumes nothing.
use mathlib.Core.Path.{◌≡◌, refl, ◌∙◌, ap}
use mathlib.Core.List.{List, [], ◌∷◌}
use Rattle.grid.specs.declared.Sides.{Sides}
use Rattle.isolation.specs.History.{does, asks, Turn, mine, theirs, World, world, after, reached}

abbrev pub turned : World → World
turned w = world w.map w.other w.own

abbrev pub turn : Turn → Turn
turn (mine a) = theirs a
turn (theirs a) = mine a

abbrev pub turns : List Turn → List Turn
turns [] = []
turns (t ∷ h) = turn t ∷ turns h

pub turned-after : (s : Sides) (t : Turn) (w : World) → after s (turn t) (turned w) ≡ turned (after s t w)
turned-after s (mine (does d)) w = refl
turned-after s (mine (asks add c)) w = refl
turned-after s (theirs (does d)) w = refl
turned-after s (theirs (asks add c)) w = refl

pub turned-reached : (s : Sides) (h : List Turn) (w : World) → reached s (turns h) (turned w) ≡ turned (reached s h w)
unfolding reached
turned-reached s [] w = refl
turned-reached s (t ∷ h) w = ap (reached s (turns h)) (turned-after s t w) ∙ turned-reached s h (after s t w)
