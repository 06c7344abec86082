-- An f32 that is a whole number of parts: what the way back from it asks. Assumes nothing.
use Rattle.std.specs.Prelude.{ℕ, ◌<◌, Float}
use Rattle.tunnel.specs.Exact.{Exactly}

-- x is n/d exactly, for some n below 2^24
pub record Parts (x : Float) (d : ℕ) : Type 0 where
  pub count : ℕ
  pub few : count < 16777216
  pub is : Exactly x count d
