-- `flumegrid::layer::outer` asks whether a coordinate is at either end. Assumes nothing.
use native.Mathlib.Numerals.{add-one}
use Rattle.flumegrid.specs.inner.Layer.{edge}
use Rattle.flumegrid.proofs.layer.outer.Goals as goal

pub returns : goal.returns
unfolding edge
returns c = simp add-one
