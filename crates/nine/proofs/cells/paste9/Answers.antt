use mathlib.Core.Path.{◌≡◌, sym, ap, ap₂, ◌∙◌}
use mathlib.Core.List.{List, ◌++◌}
use Prim.Native.Nat.{ℕ, ◌+◌, ◌*◌, ◌<◌}
use native.Mathlib.Numerals.{add-one}
use native.Mathlib.Nat.{le_of_eq}
use native.Mathlib.Omega.{arith}
use borrow.Author.Rules.{rules}
use lib.IntN.{ℤ, pos}
use lib.ListN.{length, get_or, set, take, drop}
use lib.Seq.{paste, paste-zero, paste-suc, take_all}
use mir.Syntax.{w32}
use mir.Val.{SFits}
use mir.Facts.{to_z-of_z}
use Rattle.whole.specs.laws.Tab.{length-tab, get_or-tab}
use Rattle.flume.specs.inner.Spread.{wide}
use Rattle.nine.specs.inner.Cells.{nine_of, pasted9}
use Rattle.nine.proofs.cells.paste9.Goals as goal

nine-long : (v : List ℤ) → length (nine_of v) ≡ 9
nine-long v = length-tab 9 (λ k. get_or v (wide k) (pos 0))

pub loop-k-init : goal.loop-k-init
loop-k-init c = paste-zero c.args.out.now (9 * c.args.c) (nine_of c.args.v)

pub loop-k-preserved : goal.loop-k-preserved
loop-k-preserved c =
    let v = c.args.v in
    let o = c.args.out.now in
    let k = c.loop-k.k in
    let h : k < length (nine_of v) = omega (arith, nine-long v, c.loop-k-test.true) in
    let g : 9 * c.args.c + k < length o = omega (arith, c.requires, c.loop-k-test.true) in
    let f : SFits w32 (get_or v c.place.result (pos 0)) = search rules in
    ap₂ (λ (l : List ℤ) (x : ℤ). set l (9 * c.args.c + k) x) c.loop-k.invariant
    (to_z-of_z f ∙ ap (λ (n : ℕ). get_or v n (pos 0)) c.place.ensures.0 ∙ sym (get_or-tab 9 (λ j. get_or v (wide j) (pos 0)) (pos 0) k c.loop-k-test.true))
    ∙ paste-suc o (9 * c.args.c) (nine_of v) k (pos 0) g h
    ∙ ap (λ (n : ℕ). paste o (9 * c.args.c) (nine_of v) n) (sym (add-one k))

pub returns : goal.returns
unfolding pasted9
returns c =
    let a = c.args in
    let e : c.loop-k.k ≡ 9 = omega arith in
    (rw e at c.loop-k.invariant)
    ∙ ap (λ (l : List ℤ). take (9 * a.c) a.out.now ++ l ++ drop (9 * a.c + 9) a.out.now) (take_all 9 (nine_of a.v) (le_of_eq (nine-long a.v)))
