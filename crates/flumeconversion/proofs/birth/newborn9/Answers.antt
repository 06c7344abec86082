use mathlib.Core.List.{[]}
use mathlib.Core.Path.{◌≡◌, refl, ◌∙◌, ap, ap₂, subst}
use mathlib.Core.Bool.{Bool, ◌&&◌}
use Prim.Native.Nat.{ℕ, ◌+◌, ◌*◌, ◌≤◌}
use native.Mathlib.Omega.{arith}
use lib.ListN.{length}
use Rattle.whole.specs.Fold.{all}
use Rattle.conversion.specs.inner.Born.{newly_born, later_fair}
use Rattle.whole.specs.laws.Search.{all_none, all_more}
use Rattle.conversion.proofs.Newborns.{Reached, reached-zero, reached-more, reached-past, unborn}
use Rattle.nine.specs.inner.Cells.{part_of9}
use Rattle.flumearrivals.specs.inner.Seen.{sight9}
use Rattle.flumeconversion.proofs.Newborns.{visited-size, visited-list}
use Rattle.flumeconversion.proofs.birth.newborn9.Goals as goal

pub loop-c-init : goal.loop-c-init
loop-c-init c =
    let a = c.args in
    let S = sight9 a.flags.now a.parts.now [] a.fills.now a.off.now a.low a.g in
    let w = newly_born a.flags.now a.flags2.now in
    (omega arith, reached-zero S w (part_of9 a.parts2.now), refl, all_none (later_fair S w))

pub loop-c-preserved : goal.loop-c-preserved
loop-c-preserved c =
    let a = c.args in
    let l = c.loop-c in
    let S = sight9 a.flags.now a.parts.now [] a.fills.now a.off.now a.low a.g in
    let w = newly_born a.flags.now a.flags2.now in
    let v = c.visit9-fair.ensures in
    let room : 9 * l.c + 9 ≤ length l.parts2 = omega (arith, l.invariant.2, c.requires.1) in
    let n = c.next_of-c.ensures in
    let m : c.next_of-c.result ≤ length a.flags.now = omega (arith, n.most, c.requires.0.count) in
    let seen = visited-list a.flags.now a.parts.now a.fills.now a.off.now a.low a.g w l.parts2 l.c room v in
    -- up to the next interface cell nothing is born
    let r =
    reached-past S w (part_of9 a.parts2.now) _ (l.c + 1) c.next_of-c.result _ n.least
    (λ j k i. unborn a.flags.now a.flags2.now j (omega arith) c.requires.0.count (n.before j k i)) (
      reached-more S w (part_of9 a.parts2.now) (part_of9 l.parts2) _ l.c l.invariant.1 seen,
      ap₂ (λ (x y : Bool). x && y) l.invariant.3 v.fair-is ∙ all_more l.c (later_fair S w),
    ) in
    (m, r.0, visited-size a.flags.now a.parts.now a.fills.now a.off.now a.low a.g w l.parts2 l.c room v ∙ l.invariant.2, r.1)

pub returns : goal.returns
returns c =
    let a = c.args in
    let l = c.loop-c in
    let S = sight9 a.flags.now a.parts.now [] a.fills.now a.off.now a.low a.g in
    let w = newly_born a.flags.now a.flags2.now in
    let e : l.c ≡ length a.flags.now = omega arith in
    record {
      parts-there = l.invariant.2 ∙ c.requires.1;
      part-is = (subst (Reached S w (part_of9 a.parts2.now) (part_of9 l.parts2)) e l.invariant.1).done;
      fair-is = l.invariant.3 ∙ ap (λ (n : ℕ). all n (later_fair S w)) e;
    }
