-- `collision::gravity::pulled`: what gravity adds is small, so each sum fits. Assumes nothing.
use mathlib.Core.Path.{◌≡◌, ◌∙◌, ap₂}
use lib.IntN.{ℤ}
use mir.Syntax.{w32, w64}
use mir.Val.{to_z, of_z}
use Rattle.whole.specs.laws.Machine.{Val, Within, same, v32, v64, within_by, does-fit, reads_as}
use Rattle.lattice.specs.Cell.{pull}
use Rattle.lattice.proofs.Ranges.{weak-x, weak-y, weak-z}
use Rattle.lattice.proofs.Reading.{reading, inside}
use Rattle.lattice.proofs.Tame.{pull-in}
use Rattle.collision.proofs.gravity.pulled.Lts as lts
use Rattle.collision.proofs.gravity.pulled.Reads as reads
use Rattle.collision.proofs.gravity.pulled.Tie as tie
use Rattle.collision.proofs.gravity.pulled.Goals as goal

abbrev At-Start : Type 0
At-Start = lts.Start tie.the-claims reads.Pre reads.Post

abbrev At-After-pull : Type 0
At-After-pull = lts.After-pull tie.the-claims reads.Pre reads.Post

abbrev At-After-pull-2 : Type 0
At-After-pull-2 = lts.After-pull2 tie.the-claims reads.Pre reads.Post

abbrev At-After-pull-3 : Type 0
At-After-pull-3 = lts.After-pull3 tie.the-claims reads.Pre reads.Post

-- gravity's components
module _ (s : At-Start) where
  x-in : Within s.args.g.gx 1048
  x-in = weak-x s.args.g.gx s.args.g.gy s.args.g.gz s.requires.4

  y-in : Within s.args.g.gy 1048
  y-in = weak-y s.args.g.gx s.args.g.gy s.args.g.gz s.requires.4

  z-in : Within s.args.g.gz 1048
  z-in = weak-z s.args.g.gx s.args.g.gy s.args.g.gz s.requires.4

-- what a call adds, from what it was handed as bits
abbrev gain : {ρ g r : ℤ} → r ≡ pull (to_z w32 (of_z w32 ρ)) (to_z w64 (of_z w64 g)) → Within ρ 1700000000 → Within g 1048 → Val r
gain e h k = same (e ∙ ap₂ pull (reads_as (v32 (inside h)) tt) (reads_as (v64 (inside k)) tt)) (inside (pull-in h k))

abbrev x-gain : (c : At-After-pull) → Val c.pull.result
x-gain c = let s = c in gain c.pull.ensures s.requires.0 (x-in s.before.before.before)

abbrev y-gain : (c : At-After-pull-2) → Val c.pull-2.result
y-gain c = let s = c in gain c.pull-2.ensures s.requires.0 (y-in s.before.before.before.before.before.before.before.before)

abbrev z-gain : (c : At-After-pull-3) → Val c.pull-3.result
z-gain c = let s = c in gain c.pull-3.ensures s.requires.0 (z-in s.before.before.before.before.before.before.before.before.before.before.before.before.before)

pub pull-requires : goal.pull-requires
pull-requires c =
    let s = c in
    let r = s.requires.0 in
    let g = x-in s.before.before.before in
    (within_by (search reading depth 20) tt, within_by (search reading depth 20) tt)

pub overflow_add-result : goal.overflow_add-result
overflow_add-result c =
    let h = c.requires.1 in
    let p = x-gain c.before.before.before in
    does-fit (search reading depth 20) tt

pub pull-requires-2 : goal.pull-requires-2
pull-requires-2 c =
    let s = c in
    let r = s.requires.0 in
    let g = y-in s.before.before.before.before.before.before.before.before in
    (within_by (search reading depth 20) tt, within_by (search reading depth 20) tt)

pub overflow_add-result-2 : goal.overflow_add-result-2
overflow_add-result-2 c =
    let h = c.requires.2 in
    let p = y-gain c.before.before.before in
    does-fit (search reading depth 20) tt

pub pull-requires-3 : goal.pull-requires-3
pull-requires-3 c =
    let s = c in
    let r = s.requires.0 in
    let g = z-in s.before.before.before.before.before.before.before.before.before.before.before.before.before in
    (within_by (search reading depth 20) tt, within_by (search reading depth 20) tt)

pub overflow_add-result-3 : goal.overflow_add-result-3
overflow_add-result-3 c =
    let h = c.requires.3 in
    let p = z-gain c.before.before.before in
    does-fit (search reading depth 20) tt

pub returns : goal.returns
returns c =
    let s = c in
    let r = s.requires.0 in
    let x = s.requires.1 in
    let y = s.requires.2 in
    let z = s.requires.3 in
    let a = x-gain c.before.before.before.before.before.before.before.before.before.before.before.before.before in
    let b = y-gain c.before.before.before.before.before.before.before.before in
    let d = z-gain c.before.before.before in
    record {
      rho = reads_as (search reading depth 20) tt;
      x = reads_as (search reading depth 20) tt;
      y = reads_as (search reading depth 20) tt;
      z = reads_as (search reading depth 20) tt;
    }
