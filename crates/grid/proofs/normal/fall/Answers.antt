-- `grid::normal::fall`: both places are cells, and fills are far below what 32 bits hold. Assumes nothing.
use mathlib.Core.Path.{sym, ap₂, ◌∙◌, subst}
use Prim.Native.Nat.{ℕ, ◌≤◌, ◌<◌}
use native.Mathlib.Omega.{arith}
use lib.IntN.{pos, ◌-ℤ◌}
use lib.ListN.{length, get_or}
use Rattle.whole.specs.laws.Machine.{does-fit, reads_as, v+, vneg, v32}
use Rattle.whole.specs.laws.Casts.{n32}
use Rattle.grid.proofs.Slopes.{seen-in, fill-fits}
use Rattle.grid.proofs.normal.fall.Lts as lts
use Rattle.grid.proofs.normal.fall.Reads as reads
use Rattle.grid.proofs.normal.fall.Tie as tie
use Rattle.grid.proofs.normal.fall.Goals as goal

abbrev At-After-seen : Type 0
At-After-seen = lts.After-seen tie.the-claims reads.Pre reads.Post

abbrev At-After-seen-2 : Type 0
At-After-seen-2 = lts.After-seen2 tie.the-claims reads.Pre reads.Post

-- both places are cells, and hold fills
from-there : (c : At-After-seen) → c.seen.result < length c.args.flags.now
from-there c =
    let s = c.before.before.before in
    subst (λ (n : ℕ). n < length s.args.flags.now) (sym c.seen.ensures) (seen-in s.args.flags.now s.args.c s.args.from s.requires.1 s.requires.0)

from_in : (c : At-After-seen) → get_or c.args.fills.now c.seen.result 0 ≤ 65536
from_in c = c.requires.4 c.seen.result (from-there c)

to-there : (c : At-After-seen-2) → c.seen-2.result < length c.args.flags.now
to-there c =
    let s = c.before.before.before.before.before in
    subst (λ (n : ℕ). n < length s.args.flags.now) (sym c.seen-2.ensures) (seen-in s.args.flags.now s.args.c s.args.to s.requires.2 s.requires.0)

to_in : (c : At-After-seen-2) → get_or c.args.fills.now c.seen-2.result 0 ≤ 65536
to_in c = c.requires.4 c.seen-2.result (to-there c)

pub offset_bounds-fills-seen : goal.offset_bounds-fills-seen
offset_bounds-fills-seen c = omega (arith, c.requires.3, from-there c.before)

pub bounds-fills-seen : goal.bounds-fills-seen
bounds-fills-seen c = omega (arith, c.requires.3, from-there c.before.before)

pub overflow_cast-result : goal.overflow_cast-result
overflow_cast-result c = fill-fits (from_in c.before.before)

pub offset_bounds-fills-seen-2 : goal.offset_bounds-fills-seen-2
offset_bounds-fills-seen-2 c = omega (arith, c.requires.3, to-there c.before)

pub bounds-fills-seen-2 : goal.bounds-fills-seen-2
bounds-fills-seen-2 c = omega (arith, c.requires.3, to-there c.before.before)

pub overflow_cast-result-2 : goal.overflow_cast-result-2
overflow_cast-result-2 c = fill-fits (to_in c.before.before)

pub overflow_sub-result : goal.overflow_sub-result
overflow_sub-result c = does-fit (v+ (n32 (from_in c.before.before.before.before)) (vneg (n32 (to_in c.before.before)))) tt

pub returns : goal.returns
returns c =
    let fills = c.args.fills.now in
    reads_as (v32 (v+ (n32 (from_in c.before.before.before.before)) (vneg (n32 (to_in c.before.before))))) tt
    ∙ ap₂ (λ (x y : ℕ). pos (get_or fills x 0) -ℤ pos (get_or fills y 0)) c.seen.ensures c.seen-2.ensures
