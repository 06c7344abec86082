-- A depth is below 2^24 65,536ths: each of the at most 128 fills of a column is at most 65,536. Assumes nothing.
use mathlib.Core.Path.{◌≡◌, refl}
use mathlib.Core.Bool.{Bool, true, false, ◌&&◌, cond}
use mathlib.Core.List.{List}
use Prim.Native.Nat.{ℕ, ◌*◌, ◌≤◌, ◌<◌}
use native.Mathlib.Omega.{arith}
use borrow.Author.Tests.{leb-true}
use lib.Dec.{eqb, leb, ltb}
use lib.ListN.{length}
use Rattle.whole.specs.Fold.{first, all, total}
use Rattle.whole.specs.laws.Sums.{total-le}
use Rattle.grid.specs.declared.Sides.{Sides}
use Rattle.grid.specs.Grid.{sides_good, cells_of}
use Rattle.grid.proofs.GoodSides.{good-sides}
use Rattle.tunnel.specs.Refusal.{or_else}
use Rattle.std.specs.Prelude.{Ok, Err}
use Rattle.grid.specs.declared.refusals.Refusal.{Refusal}
use Rattle.tunnel.specs.Depth.{Reading, reading_sum, solid, dry, deep, flag_bad, fill_bad, is_wall, open_fill, reading_of, measured_of, depth_of}
use Rattle.tunnel.proofs.Columns.{open-le}

abbrev Few : Reading → Type 0
Few w = reading_sum w < 16777216

few-sum : (walls none : Bool) (n : ℕ) → n < 16777216 → Few (Ok (cond walls solid (cond none dry (deep n))))
few-sum true none n h = omega arith
few-sum false true n h = omega arith
few-sum false false n h = h

few-or : (t : Bool) (refusal : Refusal) (w : Reading) → (t ≡ true → Few w) → Few (or_else t (Err refusal) w)
few-or true refusal w f = f refl
few-or false refusal w f = omega arith

few-total : (s : Sides) (flags fills : List ℕ) (x y : ℕ) → sides_good s ≡ true → s.nz ≤ first s.nz (fill_bad s fills x y)
    → total s.nz (open_fill s flags fills x y) < 16777216
few-total s flags fills x y g h =
    let l : total s.nz (open_fill s flags fills x y) ≤ s.nz * 65536 =
    total-le s.nz (open_fill s flags fills x y) 65536 (λ z k. open-le s flags fills x y z h k) in
    omega (arith, (good-sides s g).z.high)

few-measured : (s : Sides) (flags fills : List ℕ) (x y : ℕ) → sides_good s ≡ true → Few (measured_of s flags fills x y)
unfolding measured_of reading_of
few-measured s flags fills x y g =
    let f = first s.nz (flag_bad s flags x y) in
    let b = first s.nz (fill_bad s fills x y) in
    few-or (leb s.nz f) _ _
    (λ p. few-or (leb s.nz b) _ _
    (λ q. few-sum (all s.nz (is_wall s flags x y)) (eqb (total s.nz (open_fill s flags fills x y)) 0)
    (total s.nz (open_fill s flags fills x y)) (few-total s flags fills x y g (leb-true s.nz b q))))

pub few-depth : (s : Sides) (flags fills : List ℕ) (x y : ℕ) → reading_sum (depth_of s flags fills x y) < 16777216
unfolding depth_of
few-depth s flags fills x y =
    few-or (sides_good s) _ _
    (λ g. few-or (eqb (length flags) (cells_of s) && eqb (length fills) (cells_of s)) _ _
    (λ p. few-or (ltb x s.nx && ltb y s.ny) _ _ (λ q. few-measured s flags fills x y g)))
