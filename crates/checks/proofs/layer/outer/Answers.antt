-- `checks::layer::outer` asks whether a coordinate is at either end. Assumes nothing.
use native.Mathlib.Numerals.{add-one}
use Rattle.grid.specs.inner.Passes.{outer_at}
use Rattle.checks.proofs.layer.outer.Goals as goal

pub returns : goal.returns
unfolding outer_at
returns c = simp add-one
