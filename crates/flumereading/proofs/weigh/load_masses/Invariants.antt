-- `flumereading::weigh::load_masses` fills both slices from the front; the place advances as the count of interface cells does. Assumes nothing.
use mathlib.Core.Path.{◌≡◌}
use Prim.Native.Nat.{◌+◌, ◌*◌}
use lib.IntN.{pos}
use Rattle.whole.specs.laws.Tab.{Upto}
use Rattle.lattice.specs.Lattice.{d2q9}
use Rattle.grid.specs.State.{flag_of}
use Rattle.record.specs.Layout.{interfaces}
use Rattle.record.specs.inner.Passes.{mass_loaded, fill_loaded}
use Rattle.flumereading.proofs.weigh.load_masses.Given as goal

abbrev pub invariant-loop-c : goal.invariant-loop-c
invariant-loop-c l =
    (l.at ≡ l.from + 4 * interfaces l.c (flag_of l.flags))
    × Upto (pos 0) (mass_loaded d2q9 9 l.rec l.flags l.from l.parts) l.masses l.c
    × Upto 0 (fill_loaded d2q9 9 l.rec l.flags l.from l.parts) l.fills l.c
