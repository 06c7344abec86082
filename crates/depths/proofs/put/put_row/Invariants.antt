-- `depths::put::put_row`: what is stored, and the rest of the row, are the whole. Assumes nothing.
use Rattle.std.proofs.Common.{List, ℕ, ℤ, ◌-◌}
use Rattle.grid.specs.declared.Sides.{Sides}
use Rattle.depths.specs.Map.{depth_at, row_text}
use Rattle.depths.proofs.Storing.{Under}
use Rattle.depths.proofs.put.put_row.Given as goal

-- the values of a row
abbrev pub values : Sides → ℕ → List ℕ → List ℕ → ℕ → ℕ → ℤ
values s edge flags fills y x = depth_at s edge flags fills x y

abbrev pub invariant-loop-x : goal.invariant-loop-x
invariant-loop-x l = Under (row_text (values l.s l.edge l.flags l.fills l.y) 0 l.nx) l.initial.room l.at (row_text (values l.s l.edge l.flags l.fills l.y) l.x (l.nx - l.x)) l.room l.p
