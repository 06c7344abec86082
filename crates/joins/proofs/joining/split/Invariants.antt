-- `joins::joining::split` leaves the own flags: cell by cell. Assumes nothing.
use mathlib.Core.List.{List}
use Prim.Native.Nat.{ℕ}
use lib.ListN.{get_or}
use Rattle.whole.specs.laws.Tab.{Upto}
use Rattle.schemes.specs.Scheme.{own_flag}
use Rattle.joins.proofs.joining.split.Given as goal

abbrev pub here : List ℕ → ℕ → ℕ
here grid c = own_flag (get_or grid c 3)

abbrev pub invariant-loop-c : goal.invariant-loop-c
invariant-loop-c l = Upto 0 (here l.grid) l.own l.c
