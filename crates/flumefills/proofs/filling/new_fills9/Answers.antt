use mathlib.Core.Path.{◌≡◌, sym, ◌∙◌, ap, subst₂}
use mathlib.Core.Bool.{Bool, ◌&&◌}
use mathlib.Core.List.{List}
use Prim.Native.Nat.{ℕ, ◌+◌, ◌<◌}
use native.Mathlib.Omega.{arith}
use lib.IntN.{ℤ, pos}
use lib.ListN.{length, get_or, set}
use Rattle.lattice.specs.Lattice.{d3q19, density}
use Rattle.lattice.specs.Cell.{fill_of, mass_good}
use Rattle.grid.proofs.Lists.{get_or-there}
use Rattle.arrivals.proofs.Held.{held32, held64}
use borrow.Author.Rules.{rules}
use mir.Syntax.{w64}
use mir.Val.{to_z, of_z}
use Rattle.nine.specs.inner.Cells.{part_of9}
use Rattle.fills.proofs.Weighed.{fill_here, fair-here}
use Rattle.fills.proofs.Fills.{Passed, passed_none, passed-interface, passed-other, passed-gap, refilled}
use Rattle.flumefills.proofs.filling.new_fills9.Goals.{then-flags-c-eq1, else-flags-c-eq1}
use Rattle.flumefills.proofs.filling.new_fills9.Goals as goal

pub loop-c-init : goal.loop-c-init
loop-c-init c = passed_none _ _ _ _

pub interface_fill9-requires : goal.interface_fill9-requires
interface_fill9-requires c =
    let i = c.loop-c.c in
    let f = c.args.flags.now in
    (omega (arith, c.requires.0.parts-count), c.requires.0.weighty i c.loop-c-test.true (get_or-there f i 3 0 c.loop-c-test.true ∙ c.if-flags-c-eq1.true))

pub loop-c-preserved : goal.loop-c-preserved
loop-c-preserved c =
    let l = c.loop-c in
    let h : l.c < length c.args.flags.now = c.loop-c-test.true in
    let is = c.plain_fills.ensures in
    let n = c.next_of-c.ensures in
    let b = c.if-flags-c-eq1 in
    let f = c.args.flags.now in
    let p = part_of9 c.args.parts.now in
    let P : List ℕ → Bool → ℕ → Type 0 = Passed f p c.args.masses.now c.plain_fills.new.fills in
    passed-gap f p c.args.masses.now _ is b.fills b.fair (l.c + 1) c.next_of-c.result n.least n.most n.before
    (elim b.branch [
      | then-flags-c-eq1 w ↦
          let m : to_z w64 (of_z w64 w.wide-m.result) ≡ get_or c.args.masses.now l.c (pos 0) = held64 w.wide-m.result w.wide-m.type_inv ∙ w.wide-m.ensures ∙ held32 _ (search rules) in
          let fill : b.fills ≡ set l.fills l.c w.interface_fill9.result = w.fills-is in
          let fair : b.fair ≡ (l.fair && w.fair_mass-fair.result) = w.fair-is in
          subst₂ (λ (x : List ℕ) (y : Bool). P x y (l.c + 1)) (sym fill) (sym fair)
          (passed-interface f p c.args.masses.now _ is l.fills l.fair l.c w.interface_fill9.result w.fair_mass-fair.result h
          (w.interface_fill9.ensures ∙ ap (λ (z : ℤ). fill_of z (density d3q19 (p l.c))) m ∙ fill_here f p c.args.masses.now l.c h w.if-flags-c-eq1.true)
          (w.fair_mass-fair.ensures ∙ ap mass_good m ∙ fair-here f p c.args.masses.now l.c h w.if-flags-c-eq1.true)
          l.invariant)
      | else-flags-c-eq1 w ↦ subst₂ (λ (x : List ℕ) (y : Bool). P x y (l.c + 1)) (sym w.fills-is) (sym w.fair-is)
          (passed-other f p c.args.masses.now _ is l.fills l.fair l.c h w.if-flags-c-eq1.false l.invariant)
    ])

pub returns : goal.returns
returns c = refilled c.args.flags.now (part_of9 c.args.parts.now) c.args.masses.now _ c.plain_fills.ensures c.loop-c.fills c.loop-c.fair c.loop-c.c c.loop-c-test.false c.loop-c.invariant
