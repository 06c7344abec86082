-- `landings::landing::settled`: the two ways out are the definition's. Assumes nothing.
use mathlib.Core.Path.{◌≡◌, sym, ◌∙◌, ap₂}
use lib.Signed.{lt_z, shr_z}
use mir.Syntax.{w32}
use mir.Val.{to_z, of_z}
use mir.Facts.{to_z-of_z}
use Rattle.whole.specs.laws.Machine.{Val, same, v32, within_by, does-fit, reads_as}
use Rattle.lattice.proofs.Reading.{inside}
use Rattle.landings.proofs.Loss.{shifting}
use Rattle.landings.proofs.Landed.{floored, landed-below, landed-above}
use Rattle.landings.proofs.landing.settled.Lts as lts
use Rattle.landings.proofs.landing.settled.Reads as reads
use Rattle.landings.proofs.landing.settled.Tie as tie
use Rattle.landings.proofs.landing.settled.Goals as goal

abbrev At-After-mixed-n : Type 0
At-After-mixed-n = lts.After-mixed tie.the-claims reads.Pre reads.Post

abbrev At-Start : Type 0
At-Start = lts.Start tie.the-claims reads.Pre reads.Post

-- the floor that is tested against f
module _ (c : At-After-mixed-n) where
  abbrev s : At-Start
  s = c.before

  abbrev mixed-is : Val c.mixed-n.result
  mixed-is =
      let m = rw (to_z-of_z s.ranges.f, to_z-of_z s.ranges.c) at c.mixed-n.ensures.0 in
      same m (inside (rw m at c.mixed-n.ensures.1))

  floor-is : to_z w32 (of_z w32 (shr_z (to_z w32 (of_z w32 c.mixed-n.result)) 1024)) ≡ floored s.args.e s.args.f s.args.c
  floor-is = let t = mixed-is in reads_as (search shifting depth 20) tt

  f-is : to_z w32 (of_z w32 s.args.f) ≡ s.args.f
  f-is = reads_as (v32 (inside s.requires.part)) tt

pub overflow_add-result : goal.overflow_add-result
overflow_add-result c = let t = mixed-is c.before in does-fit (search shifting depth 20) tt

pub returns-then-n-f : goal.returns-then-n-f
returns-then-n-f c =
    let s = c.before.before in
    let t = mixed-is c.before in
    (reads_as (search shifting depth 20) tt ∙ landed-below s.args.e s.args.f s.args.c (sym (ap₂ lt_z (floor-is c.before) (f-is c.before)) ∙ c.if-n-f.true), within_by (search shifting depth 20) tt)

pub returns : goal.returns
returns c =
    let s = c.before.before in
    let t = mixed-is c.before in
    (floor-is c.before ∙ landed-above s.args.e s.args.f s.args.c (sym (ap₂ lt_z (floor-is c.before) (f-is c.before)) ∙ c.if-n-f.false), within_by (search shifting depth 20) tt)
