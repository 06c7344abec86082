-- `turbulence::relaxation::by_roots`: by the definition; p is held only where it would be 0. Assumes nothing.
use mathlib.Core.Path.{◌≡◌, sym, ◌∙◌, ap}
use Prim.Native.Nat.{◌<◌, ◌≤◌}
use native.Mathlib.Omega.{arith}
use Rattle.turbulence.specs.Root.{root}
use Rattle.turbulence.specs.Turbulence.{under, divisor, nearest}
use Rattle.turbulence.proofs.Roots.{root_below}
use Rattle.turbulence.proofs.Own.{under-most, own-free, own-none}
use Rattle.turbulence.proofs.relaxation.by_roots.Lts as lts
use Rattle.turbulence.proofs.relaxation.by_roots.Reads as reads
use Rattle.turbulence.proofs.relaxation.by_roots.Tie as tie
use Rattle.turbulence.proofs.relaxation.by_roots.Goals as goal

abbrev At-After-nearest-o : Type 0
At-After-nearest-o = lts.After-nearest tie.the-claims reads.Pre reads.Post

-- the first root, and what stands under the second
first-most : (c : goal.After-root) → root c.args.t ≤ 1073741824
first-most c = root_below c.args.t 1073741824 (omega arith) (omega arith)

second-fit : (c : goal.After-root) → under c.args.p (root c.args.t) < 1152921504606846976
second-fit c = under-most c.args.p (root c.args.t) c.requires.0 c.requires.1 (first-most c)

nearest-is : (c : At-After-nearest-o)
    → c.nearest-o.result
    ≡ nearest c.args.p
    (divisor c.args.p (root (under c.args.p (root c.args.t))))
nearest-is c =
    let v = c.before in
    let b = v.before in
    let u = b.before in
    let a = u.before in
    let p = a.args.p in
    c.nearest-o.ensures.0
    ∙ ap (nearest p) (v.divisor.ensures.0 ∙ ap (divisor p) (b.root-2.ensures ∙ ap root (u.under.ensures.0 ∙ ap (under p) a.root.ensures)))

pub under-requires : goal.under-requires
under-requires c = (c.requires.0, c.requires.1, omega (arith, c.root.ensures, first-most c))

pub divisor-requires : goal.divisor-requires
divisor-requires c =
    let u = c.under in
    (c.requires.1, omega (arith, c.root-2.ensures, root_below u.result 1073741824 (omega arith) (omega arith)))

pub returns-then-o-lt1 : goal.returns-then-o-lt1
returns-then-o-lt1 c =
    let n = c.before in
    let a = n.before.before.before.before in
    let s = a.before in
    sym (own-none s.args.p s.args.t s.requires.0 s.requires.1 (omega (arith, second-fit a)) (omega (arith, nearest-is n)))

pub returns : goal.returns
returns c =
    let n = c.before in
    let a = n.before.before.before.before in
    let s = a.before in
    nearest-is n ∙ sym (own-free s.args.p s.args.t s.requires.0 s.requires.1 (omega (arith, second-fit a)) (omega (arith, nearest-is n)))
