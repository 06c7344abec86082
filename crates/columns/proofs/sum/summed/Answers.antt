use Rattle.std.proofs.Common.{◌≡◌, refl, sym, ap, ap₂, ◌∙◌, Bool, ◌&&◌, cond, ℕ, ◌+◌, List, get_or, arith}
use lib.Dec.{eqb}
use Rattle.grid.specs.declared.Sides.{Sides}
use Rattle.grid.specs.Grid.{cell_at}
use Rattle.whole.specs.Fold.{all, total}
use Rattle.tunnel.specs.Depth.{is_wall, open_fill}
use Rattle.tunnel.proofs.Columns.{in-column, below_length, high, few, all_more, total-more, open-le}
use Rattle.columns.proofs.sum.summed.Goals as goal

-- what the cell at height z adds to either
wall-is : (s : Sides) (flags : List ℕ) (x y z i : ℕ) → i ≡ cell_at s.nx s.ny x y z → eqb (get_or flags i 0) 3 ≡ is_wall s flags x y z
unfolding is_wall
wall-is s flags x y z i e = ap (λ (j : ℕ). eqb (get_or flags j 0) 3) e

part-is : (s : Sides) (flags fills : List ℕ) (x y z i r : ℕ) → i ≡ cell_at s.nx s.ny x y z → r ≡ cond (eqb (get_or flags i 0) 3) 0 (get_or fills i 0)
    → r ≡ open_fill s flags fills x y z
unfolding open_fill is_wall
part-is s flags fills x y z i r e h = h ∙ ap (λ (j : ℕ). cond (eqb (get_or flags j 0) 3) 0 (get_or fills j 0)) e

pub loop-z-init : goal.loop-z-init
unfolding all total
loop-z-init c = record { walls = refl; adds = refl; few = omega arith }

pub number-at-requires : goal.number-at-requires
number-at-requires c = in-column c.loop-z.z c.requires.in_column c.loop-z-test.true

pub bounds-flags-at : goal.bounds-flags-at
bounds-flags-at c = rw c.number-at.ensures (below_length c.loop-z.z c.requires.in_column c.loop-z-test.true)

pub offset_bounds-fills-at : goal.offset_bounds-fills-at
offset_bounds-fills-at c =
    record { fits = omega (arith, few c.requires.in_column_2, below_length c.loop-z.z c.requires.in_column_2 c.loop-z-test.true, c.number-at.ensures) }

pub bounds-fills-at : goal.bounds-fills-at
bounds-fills-at c = rw c.number-at.ensures (below_length c.loop-z.z c.requires.in_column_2 c.loop-z-test.true)

pub overflow_add-sum : goal.overflow_add-sum
overflow_add-sum c =
    let a = c.args in
    let p = part-is a.s a.flags.now a.fills.now a.x a.y c.loop-z.z _ _ c.number-at.ensures c.open_fill-sum.ensures in
    record {
      fits =
          omega (arith, p, open-le a.s a.flags.now a.fills.now a.x a.y c.loop-z.z c.requires.nz_bound c.loop-z-test.true, high c.requires.in_column, c.loop-z.invariant.few);
    }

pub loop-z-preserved : goal.loop-z-preserved
loop-z-preserved c =
    let a = c.args in
    let p = part-is a.s a.flags.now a.fills.now a.x a.y c.loop-z.z _ _ c.number-at.ensures c.open_fill-sum.ensures in
    record {
      walls = ap₂ (λ (m n : Bool). m && n) c.loop-z.invariant.walls (wall-is a.s a.flags.now a.x a.y c.loop-z.z _ c.number-at.ensures) ∙ sym (all_more c.loop-z.z _);
      adds = ap₂ (λ (m n : ℕ). m + n) c.loop-z.invariant.adds p ∙ sym (total-more c.loop-z.z _);
      few = omega (arith, p, open-le a.s a.flags.now a.fills.now a.x a.y c.loop-z.z c.requires.nz_bound c.loop-z-test.true, c.loop-z.invariant.few);
    }

pub returns : goal.returns
returns c =
    let a = c.args in
    let e : c.loop-z.z ≡ a.s.nz = omega arith in
    record {
      walls = c.loop-z.invariant.walls ∙ ap (λ (n : ℕ). all n (is_wall a.s a.flags.now a.x a.y)) e;
      adds = c.loop-z.invariant.adds ∙ ap (λ (n : ℕ). total n (open_fill a.s a.flags.now a.fills.now a.x a.y)) e;
      few = omega (arith, c.loop-z.invariant.few, high c.requires.in_column);
    }
