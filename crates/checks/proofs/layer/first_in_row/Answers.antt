use mathlib.Core.Path.{◌≡◌, sym, ◌∙◌}
use mathlib.Core.Bool.{not, ◌&&◌, ◌||◌}
use mathlib.Core.List.{List}
use Prim.Native.Nat.{ℕ, ◌+◌, ◌<◌}
use native.Mathlib.Omega.{arith}
use borrow.Author.Count.{below_more}
use lib.Dec.{ltb, eqb}
use lib.ListN.{length, get_or}
use Rattle.grid.specs.declared.Place.{Place}
use Rattle.grid.specs.declared.Sides.{Sides}
use Rattle.grid.specs.Grid.{cells_of}
use Rattle.grid.specs.inner.Passes.{outer_at, RowAt}
use Rattle.grid.proofs.Rows.{bad, here, along, row-stands, row-place, row_room}
use Rattle.checks.proofs.layer.first_in_row.Goals as goal

-- the test of cell x of the row is the rule's
tested : (s : Sides) (flags : List ℕ) (c : ℕ) (p : Place) → length flags ≡ cells_of s → c < length flags → RowAt s c p → (x : ℕ) → x < s.nx
    → not (ltb (get_or flags (c + x) 0) 4 && (not (outer_at s (along p x)) || eqb (get_or flags (c + x) 0) 3)) ≡ bad s flags (c + x)
tested s flags c p n m r x h = here s flags (c + x) (along p x) (omega (arith, n, row_room r (omega (arith, n, m)))) (row-stands r x h)

pub bounds-flags-c : goal.bounds-flags-c
bounds-flags-c c = omega (arith, c.requires.1, row_room c.requires.3 (omega (arith, c.requires.1, c.requires.2)))

pub bad_flag-requires : goal.bad_flag-requires
bad_flag-requires c = (c.requires.0, row-place c.requires.3 _ (omega arith) (omega (arith, c.requires.1, c.requires.2)))

pub returns-then-bad_flag : goal.returns-then-bad_flag
returns-then-bad_flag c =
    let a = c.args in
    record {
      most = omega arith;
      before = c.loop-x.invariant;
      here = λ h. sym (tested a.s a.flags.now a.c a.p c.requires.1 c.requires.2 c.requires.3 c.loop-x.x h) ∙ sym c.bad_flag.ensures ∙ c.if-bad_flag.true;
    }

pub loop-x-preserved : goal.loop-x-preserved
loop-x-preserved c =
    let a = c.args in
    below_more _ _ c.loop-x.invariant
    (sym (tested a.s a.flags.now a.c a.p c.requires.1 c.requires.2 c.requires.3 c.loop-x.x c.loop-x-test.true) ∙ sym c.bad_flag.ensures ∙ c.if-bad_flag.false)
