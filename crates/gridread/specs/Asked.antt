-- What words and numbers ask for. Assumes nothing.
use Rattle.std.specs.Prelude.{ℕ, ℤ, Option, Some, None}
use Rattle.gridread.specs.declared.asking.Word.{Word}
use Rattle.gridread.specs.declared.asking.Word.TheVariants as word
use Rattle.gridread.specs.declared.asking.Request.{Request}
use Rattle.gridread.specs.declared.asking.Request.TheVariants.{Place, CellPoint, Depth}

-- place X Y Z, point C, depth X Y
abbrev pub numbers_after : Word → ℕ
numbers_after word.Place = 3
numbers_after word.Point = 1
numbers_after word.Depth = 2

abbrev pub width_of : Option Request → ℕ
width_of (Some (Place p)) = 3
width_of (Some (CellPoint c)) = 1
width_of (Some (Depth x y)) = 2
width_of None = 0

-- a request can be read if each of its numbers can
abbrev pub place_asked : Option ℤ → Option ℤ → Option ℤ → Option Request
place_asked (Some x) (Some y) (Some z) = Some (Place (record { x = x; y = y; z = z }))
place_asked (Some x) (Some y) None = None
place_asked (Some x) None z = None
place_asked None y z = None

abbrev pub point_asked : Option ℕ → Option Request
point_asked (Some c) = Some (CellPoint c)
point_asked None = None

abbrev pub depth_asked : Option ℕ → Option ℕ → Option Request
depth_asked (Some x) (Some y) = Some (Depth x y)
depth_asked (Some x) None = None
depth_asked None y = None
