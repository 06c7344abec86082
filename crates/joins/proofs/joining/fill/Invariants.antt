-- `joins::joining::fill` leaves the joined flags: cell by cell. Assumes nothing.
use mathlib.Core.List.{List}
use Prim.Native.Nat.{ℕ}
use Rattle.whole.specs.laws.Tab.{Upto}
use Rattle.schemes.specs.Scheme.{wall_at, own_at, joined_flag}
use Rattle.joins.proofs.joining.fill.Given as goal

abbrev pub here : List ℕ → List ℕ → ℕ → ℕ
here map own c = joined_flag (wall_at map c) (own_at own c)

abbrev pub invariant-loop-c : goal.invariant-loop-c
invariant-loop-c l = Upto 0 (here l.map l.own) l.grid l.c
