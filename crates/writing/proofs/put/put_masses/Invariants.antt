-- `writing::put::put_masses`: the place advances as the count of interface cells does. Assumes nothing.
use mathlib.Core.Path.{◌≡◌}
use Prim.Native.Nat.{◌+◌, ◌*◌}
use lib.IntN.{pos}
use lib.ListN.{get_or}
use lib.Seq.{sets}
use Rattle.grid.specs.State.{flag_of}
use Rattle.record.specs.Layout.{interfaces, mass_bytes}
use Rattle.writing.proofs.put.put_masses.Given as goal

abbrev pub invariant-loop-c : goal.invariant-loop-c
invariant-loop-c l = (l.at ≡ l.from + 4 * interfaces l.c (flag_of l.flags)) × (l.room ≡ sets l.initial.room l.from (mass_bytes l.c (flag_of l.flags) (λ a. get_or l.masses a (pos 0))))
