-- Figures of the readings, computed from the definitions: a placing on three axes, and the readings of case T. Document 01's own placings stand with its
-- other figures, in figures/specs/Table.antt. Assumes nothing.
use mathlib.Core.Path.{◌≡◌, refl}
use mathlib.Core.Bool.{cond}
use mathlib.Core.List.{List}
use Prim.Native.Nat.{ℕ}
use lib.Dec.{eqb}
use lib.IntN.{pos}
use Rattle.whole.specs.Fold.{tab, open-fold}
use Rattle.grid.specs.declared.Sides.{Sides}
use Rattle.grid.specs.Grid.{open-grid}
use Rattle.std.specs.Prelude.{Ok, Err}
use Rattle.grid.specs.declared.refusals.Refusal.TheVariants.{BadState, Outside}
use Rattle.tunnel.specs.Place.{placing_of, open-place}
use Rattle.tunnel.specs.Point.{point_of, open-point}
use Rattle.tunnel.specs.Depth.{solid, dry, deep, depth_of, open-depth}

-- edge 50, origin 5,200,000,000 on all three axes of a grid of 10×10×10: cells 2, 2 and 3
ten : Sides
ten = record { nx = 10; ny = 10; nz = 10 }

place-corner : placing_of ten (pos 50) (record { x = pos 5200000000; y = pos 5200000000; z = pos 5200000000 }) (record { x = pos 5200000149; y = pos 5200000149; z = pos 5200000150 }) ≡ Ok 322
unfolding open-place open-grid ten
place-corner = refl

-- case T: 3×3×3, the centre interface, its fill 32,768
three : Sides
three = record { nx = 3; ny = 3; nz = 3 }

flags : List ℕ
flags = tab 27 (λ c. cond (eqb c 13) 1 3)

fills : ℕ → List ℕ
fills m = tab 27 (λ c. cond (eqb c 13) m 0)

point-centre : point_of three (fills 32768) 13 ≡ Ok (record { x = 3; y = 3; z = 3; fill = 32768 })
unfolding open-point open-grid open-fold three fills
point-centre = refl

point-full : point_of three (fills 65537) 13 ≡ Err (BadState 13)
unfolding open-point open-grid open-fold three fills
point-full = refl

depth-half : depth_of three flags (fills 32768) 1 1 ≡ Ok (deep 32768)
unfolding open-depth open-grid open-fold three flags fills
depth-half = refl

depth-dry : depth_of three flags (fills 0) 1 1 ≡ Ok dry
unfolding open-depth open-grid open-fold three flags fills
depth-dry = refl

depth-solid : depth_of three flags (fills 32768) 0 1 ≡ Ok solid
unfolding open-depth open-grid open-fold three flags fills
depth-solid = refl

depth-outside : depth_of three flags (fills 32768) 3 1 ≡ Err Outside
unfolding open-depth open-grid open-fold three flags fills
depth-outside = refl
