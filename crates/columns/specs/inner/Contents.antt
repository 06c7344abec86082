-- What the sum of a column tells its caller, of this layer or above. No promise of a call cites this file. Assumes nothing.
use Rattle.std.specs.Prelude.{◌≡◌, List, ℕ, ◌<◌}
use Rattle.grid.specs.declared.Sides.{Sides}
use Rattle.whole.specs.Fold.{all, total}
use Rattle.tunnel.specs.Depth.{is_wall, open_fill}
use Rattle.columns.specs.declared.sum.Contents.{Contents}

-- what a column holds, and that its sum is below 2^24
pub record ContentsAre (r : Contents) (s : Sides) (flags fills : List ℕ) (x y : ℕ) : Type 0 where
  pub walls : r.solid ≡ all s.nz (is_wall s flags x y)
  pub adds : r.sum ≡ total s.nz (open_fill s flags fills x y)
  pub few : r.sum < 16777216
