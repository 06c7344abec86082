-- `writing::put::put_liquid` writes the parts of a liquid cell alone. Assumes nothing.
use mathlib.Core.Path.{◌≡◌, refl, sym, ap, ◌∙◌, subst}
use mathlib.Core.Bool.{cond}
use mathlib.Core.List.{List, []}
use Prim.Native.Nat.{ℕ, zero, suc, ◌+◌, ◌*◌, ◌≤◌}
use native.Mathlib.Omega.{arith}
use lib.IntN.{ℤ, pos}
use lib.ListN.{length, get_or}
use lib.Seq.{sets}
use Rattle.grid.specs.State.{by_flag, liquid}
use Rattle.record.specs.Layout.{cell_numbers}
use Rattle.writing.proofs.put.put_liquid.Goals as goal

none : (f : ℕ) (x : List ℕ) → ◌≡◌ {A = ℕ} (cond (liquid f) 1 0) 0 → by_flag f [] x x [] ≡ []
none zero x h = refl
none (suc zero) x h = absurd (let k : ◌≡◌ {A = ℕ} 1 0 = h in omega arith)
none (suc (suc zero)) x h = absurd (let k : ◌≡◌ {A = ℕ} 1 0 = h in omega arith)
none (suc (suc (suc f))) x h = refl

some : (f : ℕ) (x : List ℕ) → (◌≡◌ {A = ℕ} (cond (liquid f) 1 0) 0 → ⊥) → by_flag f [] x x [] ≡ x
some zero x h = absurd (h refl)
some (suc zero) x h = refl
some (suc (suc zero)) x h = refl
some (suc (suc (suc f))) x h = absurd (h refl)

abbrev bytes : ℕ → List ℤ → ℕ → List ℕ
bytes w parts from = cell_numbers w (λ k. get_or parts (from + k) (pos 0))

-- a liquid cell is one
one : (f : ℕ) → (◌≡◌ {A = ℕ} (cond (liquid f) 1 0) 0 → ⊥) → ◌≡◌ {A = ℕ} (cond (liquid f) 1 0) 1
one zero h = absurd (h refl)
one (suc zero) h = refl
one (suc (suc zero)) h = refl
one (suc (suc (suc f))) h = absurd (h refl)

pub returns-then-one_liquid-eq0 : goal.returns-then-one_liquid-eq0
returns-then-one_liquid-eq0 c =
    let a = c.args in
    sym (ap (sets a.room.now a.at) (none a.flag (bytes a.w a.parts.now a.from) (sym c.one_liquid.ensures ∙ c.if-one_liquid-eq0.true)))

pub put_cell-requires : goal.put_cell-requires
put_cell-requires c =
    let d = c in
    let a = d.args in
    let is = one a.flag (λ e. c.if-one_liquid-eq0.false (c.one_liquid.ensures ∙ e)) in
    let room : a.at + 4 * a.w * 1 ≤ length a.room.now = subst (λ (k : ℕ). a.at + 4 * a.w * k ≤ length a.room.now) is d.requires.flag_in_bounds in
    record { w_in_bounds = omega (arith, room); w_in_bounds_2 = d.requires.w_in_bounds }

pub returns : goal.returns
returns c =
    let d = c in
    let a = d.args in
    c.put_cell.ensures
    ∙ sym (ap (sets a.room.now a.at) (some a.flag (bytes a.w a.parts.now a.from) (λ e. c.if-one_liquid-eq0.false (d.one_liquid.ensures ∙ e))))
