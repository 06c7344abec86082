-- `writing::put::put_flags` copies byte by byte. Assumes nothing.
use mathlib.Core.Path.{◌≡◌}
use lib.ListN.{take}
use lib.Seq.{sets}
use Rattle.writing.proofs.put.put_flags.Given as goal

abbrev pub invariant-loop-c : goal.invariant-loop-c
invariant-loop-c l = l.room ≡ sets l.initial.room l.at (take l.c l.flags)
