-- A line's kind, by the kind that depth tells. Assumes nothing.
use Rattle.std.specs.Prelude.{ℕ, zero, suc}
use Rattle.tunnel.specs.Depth.{Reading, reading_kind}

-- 1 solid, 2 dry, 3 deep, as depth has them; 4 outside, where it has 0
abbrev pub line_for : ℕ → ℕ
line_for zero = 4
line_for (suc kind) = suc kind

abbrev pub line_kind : Reading → ℕ
line_kind w = line_for (reading_kind w)
