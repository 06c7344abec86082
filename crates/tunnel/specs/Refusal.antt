-- Tests in their order: a test that holds lets the next one answer; one that fails gives the refusal. Assumes nothing.
use Rattle.std.specs.Prelude.{Bool, true, false}

module _ {ℓ} {A : Type ℓ} where
  abbrev pub or_else : Bool → A → A → A
  or_else true refusal rest = rest
  or_else false refusal rest = refusal
