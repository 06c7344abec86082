use mathlib.Core.Path.{◌≡◌, refl, ap, ◌∙◌}
use mathlib.Core.List.{List}
use Prim.Native.Nat.{ℕ, ◌+◌}
use native.Mathlib.Omega.{arith}
use lib.ListN.{length, take, get_or, set}
use lib.Seq.{sets, length-sets, take-length}
use Rattle.record.proofs.Gathered.{copy-turn}
use Rattle.writing.proofs.put.put_flags.Goals as goal

pub loop-c-init : goal.loop-c-init
loop-c-init c = refl

pub bounds-room-at : goal.bounds-room-at
bounds-room-at c = omega (arith, ap length c.loop-c.invariant ∙ length-sets c.args.room.now c.args.at (take c.loop-c.c c.args.flags.now))

pub loop-c-preserved : goal.loop-c-preserved
loop-c-preserved c =
    let a = c.args in
    ap (λ (o : List ℕ). set o (a.at + c.loop-c.c) (get_or a.flags.now c.loop-c.c 0)) c.loop-c.invariant ∙ copy-turn a.room.now a.flags.now a.at c.loop-c.c c.loop-c-test.true

pub shape_of-room : goal.shape_of-room
shape_of-room c = ap length c.loop-c.invariant ∙ length-sets c.args.room.now c.args.at (take c.loop-c.c c.args.flags.now)

pub returns : goal.returns
returns c =
    let a = c.args in
    let e : c.loop-c.c ≡ length a.flags.now = omega arith in
    c.loop-c.invariant ∙ ap (sets a.room.now a.at) (ap (λ (k : ℕ). take k a.flags.now) e ∙ take-length a.flags.now)
