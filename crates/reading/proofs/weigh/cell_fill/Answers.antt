-- `reading::weigh::cell_fill` goes by the flag; an interface cell has a density to divide by. Assumes nothing.
use mathlib.Core.Path.{◌≡◌, sym, ap, ap₂, ◌∙◌, subst}
use Prim.Native.Nat.{ℕ}
use native.Mathlib.Omega.{arith}
use lib.IntN.{ℤ, pos}
use lib.Signed.{◌<ℤ◌, nat_abs-le}
use mir.Syntax.{w32, w64}
use mir.Val.{to_z, of_z}
use mir.ValLaws.{to_z-of_z}
use Rattle.whole.specs.laws.Machine.{Within}
use Rattle.lattice.specs.Cell.{fill_of}
use Rattle.lattice.proofs.Bodies.{dense-positive}
use Rattle.grid.specs.Step.{fill_for}
use Rattle.record.proofs.ByFlag.{by-other}
use Rattle.reading.proofs.weigh.cell_fill.Reads as reads
use Rattle.reading.proofs.weigh.cell_fill.Lts as lts
use Rattle.reading.proofs.weigh.cell_fill.Lts as lts
use Rattle.reading.proofs.weigh.cell_fill.Reads as reads
use Rattle.reading.proofs.weigh.cell_fill.Tie as tie
use Rattle.reading.proofs.weigh.cell_fill.Goals as goal

abbrev At-After-wide-then-flag-eq1 : Type 0
At-After-wide-then-flag-eq1 = lts.After-wide2 tie.the-claims reads.Pre reads.Post

-- the density as it passed the calls
rho-is : (c : At-After-wide-then-flag-eq1) → to_z w64 (of_z w64 c.wide-then-flag-eq1.result) ≡ c.args.rho
rho-is c =
    let d = c in
    to_z-of_z w64 c.wide-then-flag-eq1.result (record { sfits = c.wide-then-flag-eq1.type_inv }) ∙ c.wide-then-flag-eq1.ensures ∙ to_z-of_z w32 d.args.rho d.ranges.rho

mass-is : (c : At-After-wide-then-flag-eq1) → to_z w64 (of_z w64 c.wide.result) ≡ c.args.m
mass-is c =
    let d = c in
    to_z-of_z w64 c.wide.result (record { sfits = c.wide.type_inv }) ∙ c.wide.ensures ∙ to_z-of_z w32 d.args.m d.ranges.m

pub part_fill-requires : goal.part_fill-requires
part_fill-requires c =
    let d = c in
    subst (λ (z : ℤ). (pos 0 <ℤ z) × Within z 1099511627776) (sym (rho-is c))
    (dense-positive (d.requires c.if-flag-eq1.true), record { abs = omega (arith, nat_abs-le d.args.rho d.ranges.rho.sfits) })

pub returns-then-flag-eq1 : goal.returns-then-flag-eq1
unfolding fill_for
returns-then-flag-eq1 c =
    let a = c.args in
    c.part_fill.ensures
    ∙ ap₂ fill_of (mass-is c.before) (rho-is c.before)
    ∙ sym (ap (λ (f : ℕ). fill_for f a.m a.rho) c.if-flag-eq1.true)

pub returns-then-flag-eq2 : goal.returns-then-flag-eq2
unfolding fill_for
returns-then-flag-eq2 c = let a = c.args in sym (ap (λ (f : ℕ). fill_for f a.m a.rho) c.if-flag-eq2.true)

pub returns : goal.returns
unfolding fill_for
returns c = let a = c.args in sym (by-other a.flag 0 (fill_of a.m a.rho) 65536 c.if-flag-eq1.false c.if-flag-eq2.false)
