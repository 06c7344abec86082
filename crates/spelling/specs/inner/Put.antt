-- Bytes stored in a room from a place on. Assumes nothing.
use Rattle.std.specs.Prelude.{◌≡◌, List, ℕ, ◌+◌, length}
use Rattle.std.proofs.lemmas.List.Edits.{sets}

-- bytes stored in a room from a place on, and the place behind them
pub record Put (room : List ℕ) (at : ℕ) (bytes after : List ℕ) (r : ℕ) : Type 0 where
  pub room-is : after ≡ sets room at bytes
  pub end : r ≡ at + length bytes
