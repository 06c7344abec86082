use mathlib.Core.Path.{◌≡◌, refl, ◌∙◌, ap, ap₂, subst}
use mathlib.Core.Bool.{Bool, ◌&&◌}
use mathlib.Core.List.{[], List}
use Prim.Native.Nat.{ℕ, ◌+◌, ◌*◌, ◌≤◌}
use native.Mathlib.Omega.{arith}
use lib.ListN.{length}
use Rattle.whole.specs.Fold.{all}
use Rattle.grid.specs.State.{part_of}
use Rattle.grid.specs.inner.Passes.{low_of}
use Rattle.grid.specs.inner.Sight.{box_sight}
use Rattle.conversion.specs.inner.Born.{newly_born, later_fair, Peopled}
use Rattle.whole.specs.laws.Search.{all_none, all_more}
use Rattle.conversion.proofs.Newborns.{Reached, reached-zero, reached-more, reached-past, unborn, visited-fair, visited-size, visited-list, peopled}
use Rattle.conversion.proofs.birth.newborn.Goals as goal

pub loop-c-init : goal.loop-c-init
loop-c-init c =
    let a = c.args in
    let S = box_sight a.flags.now a.parts.now [] a.fills.now c.offsets-off.result c.low_of-low.result a.g in
    let w = newly_born a.flags.now a.flags2.now in
    (omega arith, reached-zero S w (part_of a.parts2.now), refl, all_none (later_fair S w))

pub loop-c-preserved : goal.loop-c-preserved
loop-c-preserved c =
    let a = c.args in
    let l = c.loop-c in
    let S = box_sight a.flags.now a.parts.now [] a.fills.now c.offsets-off.result c.low_of-low.result a.g in
    let w = newly_born a.flags.now a.flags2.now in
    let v = c.visit-fair in
    let room : 19 * l.c + 19 ≤ length l.parts2 = omega (arith, l.invariant.2, c.requires.2) in
    let n = c.next_of-c.ensures in
    let m : c.next_of-c.result ≤ length a.flags.now = omega (arith, n.most, c.requires.1.count) in
    -- up to the next interface cell nothing is born
    let r =
    reached-past S w (part_of a.parts2.now) (part_of v.new.parts2) (l.c + 1) c.next_of-c.result _ n.least
    (λ j k i. unborn a.flags.now a.flags2.now j (omega arith) c.requires.1.count (n.before j k i)) (
      reached-more S w (part_of a.parts2.now) (part_of l.parts2) (part_of v.new.parts2) l.c l.invariant.1 (visited-list S w l.parts2 l.c room v.ensures),
      ap₂ (λ (x y : Bool). x && y) l.invariant.3 (visited-fair S w (part_of a.parts2.now) v.ensures) ∙ all_more l.c (later_fair S w),
    ) in
    (m, r.0, visited-size S w l.parts2 l.c room v.ensures ∙ l.invariant.2, r.1)

pub returns : goal.returns
returns c =
    let a = c.args in
    let o = c.offsets-off in
    let m = c.low_of-low in
    let l = c.loop-c in
    let S = box_sight a.flags.now a.parts.now [] a.fills.now o.result m.result a.g in
    let w = newly_born a.flags.now a.flags2.now in
    let e : l.c ≡ length a.flags.now = omega arith in
    subst (λ (off : List ℕ). Peopled (box_sight a.flags.now a.parts.now [] a.fills.now off (low_of a.s) a.g) w (length a.flags.now) a.parts2.now l.parts2 l.fair) o.ensures
    (subst (λ (low : ℕ). Peopled (box_sight a.flags.now a.parts.now [] a.fills.now o.result low a.g) w (length a.flags.now) a.parts2.now l.parts2 l.fair) m.ensures
    (peopled S w a.parts2.now l.parts2 (length a.flags.now) l.fair (l.invariant.2 ∙ c.requires.2) (subst (Reached S w (part_of a.parts2.now) (part_of l.parts2)) e l.invariant.1)
    (l.invariant.3 ∙ ap (λ (n : ℕ). all n (later_fair S w)) e)))
