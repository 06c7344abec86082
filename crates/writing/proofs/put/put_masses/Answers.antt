use Rattle.std.proofs.Common.{ℕ, ◌+◌, refl, ◌∙◌, pos, length, get_or, arith, rules}
use Rattle.whole.specs.Fold.{count}
use Rattle.record.specs.Bytes.{gathered}
use Rattle.grid.specs.State.{flag_of}
use Rattle.record.specs.Layout.{interfaces, mass_bytes}
use Rattle.record.proofs.Gathered.{interfaces-more, interfaces-le, mass-turn}
use Rattle.writing.proofs.put.put_masses.Goals as goal

pub loop-c-init : goal.loop-c-init
unfolding gathered mass_bytes interfaces count
loop-c-init c = (omega arith, refl)

pub put_mass-requires : goal.put_mass-requires
put_mass-requires c = let s = c.args.flags.now in
    let k = c.loop-c.c in
    omega (arith, interfaces-more s k c.loop-c-test.true, interfaces-le (k + 1) (length s) (flag_of s) (omega arith), c.loop-c.invariant.0)

pub overflow_add-at : goal.overflow_add-at
overflow_add-at c = let s = c.args.flags.now in
    let k = c.loop-c.c in
    omega (arith, c.one_interface.ensures, interfaces-more s k c.loop-c-test.true, interfaces-le (k + 1) (length s) (flag_of s) (omega arith), c.loop-c.invariant.0)

pub loop-c-preserved : goal.loop-c-preserved
loop-c-preserved c = let a = c.args in
    let h = c.loop-c-test.true in (
      omega (arith, c.one_interface.ensures, interfaces-more a.flags.now c.loop-c.c h, c.loop-c.invariant.0),
      search rules ∙ mass-turn a.room.now c.loop-c.room a.flags.now (λ (k : ℕ). get_or a.masses.now k (pos 0)) a.from c.loop-c.at c.loop-c.c h c.loop-c.invariant.0 c.loop-c.invariant.1,
    )
