-- When an `f32` is a fraction exactly. Assumes nothing.
use Rattle.std.specs.Prelude.{false, ℕ, T, Float}
use Rattle.std.specs.Float.{binary32}
use Rattle.std.specs.Float.Ieee.{fits}
use Rattle.std.specs.Float.Ieee.Exact.{HasValue}

-- x is an `f32`, it is finite, its sign is plus and its value is n/d, with no rounding: x is m·2^e with m·2^e·d = n
pub record Exactly (x : Float) (n d : ℕ) : Type 0 where
  pub holds : T (fits binary32 x)
  pub value : HasValue x false n d
