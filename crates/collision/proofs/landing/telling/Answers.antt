use mathlib.Core.Path.{◌≡◌, ◌∙◌, ap, ap₂}
use mathlib.Core.Bool.{◌&&◌}
use mathlib.Core.List.{List}
use Prim.Native.Nat.{ℕ, suc, ◌+◌}
use native.Mathlib.Numerals.{add-one}
use native.Mathlib.Omega.{arith}
use lib.ListN.{get_or}
use lib.IntN.{ℤ}
use mir.Syntax.{w32}
use mir.Val.{to_z, of_z}
use mir.Facts.{to_z-of_z}
use Rattle.whole.specs.Fold.{all}
use Rattle.whole.specs.laws.Machine.{Within, v32, reads_as}
use Rattle.whole.specs.laws.Search.{all_none, all_more}
use Rattle.lattice.specs.inner.Held.{parts_of}
use Rattle.lattice.proofs.Reading.{inside}
use Rattle.landings.specs.inner.Estimate.{tells, tells_at}
use Rattle.collision.proofs.landing.telling.Goals as goal

-- the part of estimate k
part-is : (f : List ℤ) (k : ℕ) → Within (parts_of f (suc k)) 1572864 → to_z w32 (of_z w32 (parts_of f (k + 1))) ≡ parts_of f (suc k)
part-is f k h = rw add-one (reads_as (v32 (inside h)) tt)

pub loop-k-init : goal.loop-k-init
loop-k-init c = all_none (tells_at c.args.e c.args.f (to_z w32 (of_z w32 c.args.c)))

pub tells-w-requires : goal.tells-w-requires
tells-w-requires c =
    let h = c.requires c.loop-k.k (omega arith) in
    rw (part-is c.args.f c.loop-k.k h.part, to_z-of_z c.ranges.c) h

pub loop-k-preserved : goal.loop-k-preserved
loop-k-preserved c =
    let k = c.loop-k.k in
    let h = c.requires k (omega arith) in
    let z = to_z w32 (of_z w32 c.args.c) in
    ap₂ ◌&&◌ c.loop-k.invariant (c.tells-w.ensures ∙ ap (λ (x : ℤ). tells (get_or c.args.e k 0) x z) (part-is c.args.f k h.part))
    ∙ all_more k (tells_at c.args.e c.args.f z)

pub returns : goal.returns
returns c = c.loop-k.invariant ∙ ap₂ (λ (n : ℕ) (z : ℤ). all n (tells_at c.args.e c.args.f z)) (omega arith) (to_z-of_z c.ranges.c)
