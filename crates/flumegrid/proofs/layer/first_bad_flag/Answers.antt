use mathlib.Core.Path.{◌≡◌, ap, ◌∙◌}
use Prim.Native.Nat.{ℕ, ◌+◌, ◌*◌}
use native.Mathlib.Omega.{arith}
use native.Mathlib.Nat.{not-suc-le-zero}
use Rattle.flume.specs.Flume.{flume_cells}
use Rattle.flumegrid.specs.inner.Layer.{bad_at}
use Rattle.flumegrid.proofs.GoodSides.{few}
use Rattle.flumegrid.proofs.Rows.{found, none_found, row_room, passed}
use Rattle.flumegrid.proofs.layer.first_bad_flag.Goals as goal

pub loop-z-init : goal.loop-z-init
loop-z-init c = (omega arith, λ k l. absurd (not-suc-le-zero l))

pub first_in_row-x-requires : goal.first_in_row-x-requires
first_in_row-x-requires c = (c.requires.0, c.requires.1, record { starts = c.loop-z.invariant.0; high = c.loop-z-test.true })

pub overflow_add-result : goal.overflow_add-result
overflow_add-result c =
    let r = row_room c.args.s c.loop-z.c c.loop-z.z (record { starts = c.loop-z.invariant.0; high = c.loop-z-test.true }) in
    record { fits = omega (arith, r, c.first_in_row-x.ensures.most, few c.args.s c.requires.0) }

pub returns-then-x-s : goal.returns-then-x-s
returns-then-x-s c =
    let a = c.args in
    let l = c.loop-z in
    let f = c.first_in_row-x.ensures in
    let r = row_room c.args.s c.loop-z.c c.loop-z.z (record { starts = l.invariant.0; high = c.loop-z-test.true }) in
    found a.s a.flags.now (l.c + c.first_in_row-x.result) (omega (arith, r, c.if-x-s.true))
    (passed (bad_at a.s a.flags.now) l.c _ l.invariant.1 f.before) (f.here c.if-x-s.true)

pub overflow_add-c : goal.overflow_add-c
overflow_add-c c =
    let r = row_room c.args.s c.loop-z.c c.loop-z.z (record { starts = c.loop-z.invariant.0; high = c.loop-z-test.true }) in
    record { fits = omega (arith, r, few c.args.s c.requires.0) }

pub loop-z-preserved : goal.loop-z-preserved
loop-z-preserved c =
    let a = c.args in
    let l = c.loop-z in (
      omega (arith, l.invariant.0),
      λ k m. passed (bad_at a.s a.flags.now) l.c _ l.invariant.1 c.first_in_row-x.ensures.before k (omega (arith, c.if-x-s.false)),
    )

pub returns : goal.returns
unfolding flume_cells
returns c =
    let a = c.args in
    let last : c.loop-z.z ≡ a.s.nz = omega arith in
    none_found a.s a.flags.now c.loop-z.c (c.loop-z.invariant.0 ∙ ap (λ (m : ℕ). a.s.nx * m) last) c.loop-z.invariant.1
