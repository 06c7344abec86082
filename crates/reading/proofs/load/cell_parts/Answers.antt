-- `reading::load::cell_parts` is 0 at a dry cell, and what the record holds at a liquid one. Assumes nothing.
use mathlib.Core.Path.{◌≡◌, refl, sym, ◌∙◌}
use mathlib.Core.Bool.{cond}
use Prim.Native.Nat.{ℕ, zero, suc, ◌+◌, ◌*◌}
use native.Mathlib.Omega.{arith}
use lib.IntN.{ℤ, pos}
use lib.ListN.{replicate}
use Rattle.whole.specs.Fold.{tab, tab_from}
use Rattle.grid.specs.State.{by_flag, liquid}
use Rattle.record.specs.Bytes.{i32_at}
use Rattle.reading.proofs.load.cell_parts.Goals as goal

abbrev held : ℕ → (ℕ → ℤ) → ℕ → ℤ
held f g k = by_flag f (pos 0) (g k) (g k) (pos 0)

dry : (f : ℕ) (g : ℕ → ℤ) → ◌≡◌ {A = ℕ} (cond (liquid f) 1 0) 0 → replicate 19 (pos 0) ≡ tab 19 (held f g)
unfolding tab_from
dry zero g e = refl
dry (suc zero) g e = absurd (let z : ◌≡◌ {A = ℕ} 1 0 = e in omega arith)
dry (suc (suc zero)) g e = absurd (let z : ◌≡◌ {A = ℕ} 1 0 = e in omega arith)
dry (suc (suc (suc f))) g e = refl

wet : (f : ℕ) (g : ℕ → ℤ) → (◌≡◌ {A = ℕ} (cond (liquid f) 1 0) 0 → ⊥) → tab 19 g ≡ tab 19 (held f g)
wet zero g h = absurd (h refl)
wet (suc zero) g h = refl
wet (suc (suc zero)) g h = refl
wet (suc (suc (suc f))) g h = absurd (h refl)

pub returns-then-one_liquid-eq0 : goal.returns-then-one_liquid-eq0
returns-then-one_liquid-eq0 c =
    let a = c.args in
    dry a.flag (λ k. i32_at a.rec.now (a.at + 4 * k)) (sym c.one_liquid.ensures ∙ c.if-one_liquid-eq0.true)

pub returns : goal.returns
returns c =
    let a = c.args in
    c.parts_at.ensures
    ∙ wet a.flag (λ k. i32_at a.rec.now (a.at + 4 * k)) (λ e. c.if-one_liquid-eq0.false (c.one_liquid.ensures ∙ e))
