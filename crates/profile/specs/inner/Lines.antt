-- What the pass that writes the lines holds on the way. No promise of a public function cites this file. Assumes nothing.
use Rattle.std.specs.Prelude.{◌≡◌, true, cond, List, ℕ, ◌*◌, ◌<◌, ◌≤◌, ltb, ℤ, Float, length, get_or, Result}
use Rattle.whole.specs.Fold.{tab}
use Rattle.grid.specs.Grid.{sides_good}
use Rattle.grid.specs.declared.refusals.Refusal.{Refusal}
use Rattle.tunnel.specs.Exact.{Exactly}
use Rattle.tunnel.specs.Depth.{zero_float, told_of}
use Rattle.profile.specs.declared.Frame.{Frame}
use Rattle.profile.specs.declared.Best.{Best}
use Rattle.profile.specs.Kinds.{line_kind, line_for}
use Rattle.profile.specs.Profile.{Survey, survey, seen, depth_at, deepest}
use Rattle.profile.specs.Outcome.{DepthsOf}
use Rattle.tunnel.specs.declared.Depth.{Depth}

-- the deeper of the best so far and point i
unfoldable pub best_of : Best → ℕ → ℕ → Best
best_of b sum i = cond (ltb b.sum sum) (record { at = i; sum = sum }) b

-- the deepest of the points below i, by depths d: the first of them, or m with depth 0
pub record IsBest (d : ℕ → ℕ) (m i : ℕ) (b : Best) : Type 0 where
  pub most : (j : ℕ) → j < i → d j ≤ b.sum
  pub none : b.sum ≡ 0 → b.at ≡ m
  pub found : 0 < b.sum → b.at < i
  pub depth : 0 < b.sum → d b.at ≡ b.sum
  pub before : 0 < b.sum → (j : ℕ) → j < b.at → d j < b.sum

-- the lines below i are written
pub record LinesTo (v : Survey) (m i : ℕ) (kinds : List ℕ) (depths : List Float) : Type 0 where
  pub kinds-size : length kinds ≡ m
  pub depths-size : length depths ≡ m
  pub kind : (j : ℕ) → j < i → get_or kinds j 0 ≡ line_kind (seen v j)
  pub depth : (j : ℕ) → j < i → Exactly (get_or depths j zero_float) (depth_at v j) 65536

-- what the pass asks
pub record Ready (f : Frame) (points : List ℤ) (kinds : List ℕ) (depths : List Float) (m : ℕ) : Type 0 where
  pub sides : sides_good f.sides ≡ true
  pub points-size : length points ≡ 3 * m
  pub kinds-size : length kinds ≡ m
  pub depths-size : length depths ≡ m

-- what it tells
pub record Written (f : Frame) (flags fills : List ℕ) (points : List ℤ) (m at : ℕ) (kinds : List ℕ) (depths : List Float) : Type 0 where
  pub at-is : at ≡ deepest (survey f flags fills points) m
  pub kinds-are : kinds ≡ tab m (λ i. line_kind (seen (survey f flags fills points) i))
  pub depths-are : DepthsOf (survey f flags fills points) m depths

-- a line's kind of what the code answers: for inner functions, no promise of a public function cites it
abbrev pub depth_line : Result Depth Refusal → ℕ
depth_line a = line_for (told_of a).kind
