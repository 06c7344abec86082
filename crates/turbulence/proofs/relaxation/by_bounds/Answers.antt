-- `turbulence::relaxation::by_bounds`: each root lies between its bounds, and so does p between what they give. Assumes nothing.
use mathlib.Core.Path.{◌≡◌, refl, sym, ◌∙◌, ap, subst}
use mathlib.Core.Logic.{◌⊎◌, inl, inr}
use Prim.Native.Nat.{ℕ, zero, suc, ◌+◌, ◌*◌, ◌-◌, ◌/◌, ◌≤◌, ◌<◌}
use native.Mathlib.Nat.{mul-le-mul}
use native.Mathlib.Omega.{arith}
use Rattle.turbulence.specs.Turbulence.{under, divisor, nearest}
use Rattle.turbulence.proofs.Own.{nearest-under, own-free, second-fit, decided}
use Rattle.turbulence.proofs.relaxation.by_bounds.Goals as goal

-- p is held only where it would be 0, which is what 0 says here
answer : (o f w : ℕ) → o ≡ f → (0 < f → w ≡ f) → (o ≡ 0) ⊎ (o ≡ w)
answer zero f w e k = inl refl
answer (suc o) f w e k = inr (e ∙ sym (k (omega arith)))

pub overflow_mul-low : goal.overflow_mul-low
overflow_mul-low c =
    let s = c.above-s.result in
    let h : s - s / 4096 ≤ 1073741824 = omega arith in
    record { fits = omega (arith, mul-le-mul h h) }

pub returns-then-t-low : goal.returns-then-t-low
returns-then-t-low c = inl refl

pub overflow_mul-least : goal.overflow_mul-least
overflow_mul-least c =
    let r = c.above-r.result in
    let h : r - r / 4096 ≤ 1073741824 = omega arith in
    record { fits = omega (arith, mul-le-mul h h) }

pub returns-then-under-least : goal.returns-then-under-least
returns-then-under-least c = inl refl

pub overflow_mul-o-2 : goal.overflow_mul-o-2
overflow_mul-o-2 c =
    let h : 2 * (c.nearest-o.result + 1) ≤ 8194 = omega arith in
    record { fits = omega (arith, mul-le-mul h c.divisor-d.ensures.2) }

pub returns-then-o-d : goal.returns-then-o-d
returns-then-o-d c = inl refl

pub returns : goal.returns
returns c =
    let n = c.before.before in
    let v = n.before in
    let m = v.before in
    let u = m.before in
    let b = u.before in
    let e = b.before.before in
    let a = e.before in
    let x = a.before in
    let p = x.args.p in
    let t = x.args.t in
    let s = a.above-s.result in
    let r = b.above-r.result in
    let low = s - s / 4096 in
    let least = r - r / 4096 in
    let o = n.nearest-o.result in
    let some = x.requires.0 in
    let most = x.requires.1 in
    let s-in = a.above-s.ensures.1 in
    let fit = x.requires.3 in
    let over = a.above-s.ensures.0 in
    let lower = e.if-t-low.false in
    let over-second = subst (λ (k : ℕ). k < (r + 1) * (r + 1)) b.under.ensures.0 b.above-r.ensures.0 in
    let lower-second = subst (λ (k : ℕ). least * least ≤ k) u.under-2.ensures.0 m.if-under-least.false in
    let o_is : o ≡ nearest p (divisor p r) = n.nearest-o.ensures.0 ∙ ap (nearest p) v.divisor.ensures.0 in
    let d-is = c.divisor-d.ensures.0 in
    let less : nearest p (divisor p least) < o + 1 =
    subst (λ (d : ℕ). nearest p d < o + 1) d-is (nearest-under p c.divisor-d.result (o + 1) (omega arith) (omega arith)) in
    let same = decided p t s low r least most s-in some fit over lower over-second lower-second (subst (λ (k : ℕ). nearest p (divisor p least) < k + 1) o_is less) in
    answer o _ _ (o_is ∙ sym same) (own-free p t some most (second-fit p t s low r least most s-in some fit over lower over-second lower-second))
