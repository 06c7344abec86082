-- The collided and the newborn parts add up to the density they were made from. Assumes nothing.
use mathlib.Core.Path.{◌≡◌, ◌∙◌}
use Prim.Native.Nat.{ℕ}
use lib.IntN.{◌+ℤ◌, ◌-ℤ◌, -ℤ-+ℤ_cancel}
use Rattle.lattice.specs.Body.{collided_part, equilibrium_part}
use Rattle.whole.specs.Fold.{dirs}
use Rattle.whole.specs.laws.Sums.{sum_first}
use Rattle.lattice.specs.Lattice.{density}
use Rattle.grid.specs.State.{Scene}
use Rattle.grid.specs.Step.{streamed_density, collided, collided_dir, born_density, born, born_dir}

pub density-collided : (S : Scene) (c : ℕ) → density S.lat (collided S c) ≡ streamed_density S c
unfolding density collided collided_part
density-collided S c = sum_first S.lat.q (collided S c) ∙ -ℤ-+ℤ_cancel (streamed_density S c) (dirs S.lat.q (collided_dir S c))

pub density-born : (S : Scene) (c : ℕ) → density S.lat (born S c) ≡ born_density S c
unfolding density born equilibrium_part
density-born S c = sum_first S.lat.q (born S c) ∙ -ℤ-+ℤ_cancel (born_density S c) (dirs S.lat.q (born_dir S c))
