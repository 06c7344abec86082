-- Sums over the directions as the loops take them: one more at a time, with part 0 counted as nothing. Assumes nothing.
use mathlib.Core.Path.{◌≡◌, refl, ◌∙◌, ap}
use Prim.Native.Nat.{ℕ, zero, suc, ◌+◌, ◌<◌}
use native.Mathlib.Nat.{lt_irrefl}
use native.Mathlib.Numerals.{add-one}
use lib.IntN.{ℤ, pos, ◌+ℤ◌, +ℤ_idl}
use Rattle.whole.specs.Fold.{sum, dirs}
use Rattle.whole.specs.laws.Sums.{sum_first}

pub sum_one : (f : ℕ → ℤ) → sum 1 f ≡ f 0
unfolding sum
sum_one f = +ℤ_idl (f 0)

unfoldable pub off_rest : (ℕ → ℤ) → ℕ → ℤ
off_rest f zero = pos 0
off_rest f (suc a) = f (suc a)

pub off_at : (f : ℕ → ℤ) (i : ℕ) → 0 < i → off_rest f i ≡ f i
unfolding off_rest
off_at f zero h = absurd (lt_irrefl 0 h)
off_at f (suc a) h = refl

pub off-one : (f : ℕ → ℤ) → sum 1 (off_rest f) ≡ pos 0
unfolding off_rest
off-one f = sum_one (off_rest f)

pub off-dirs : (n : ℕ) (f : ℕ → ℤ) → sum (suc n) (off_rest f) ≡ dirs n f
unfolding off_rest
off-dirs n f = sum_first n (off_rest f) ∙ +ℤ_idl (dirs n f)

pub off_next : (i : ℕ) (f : ℕ → ℤ) → 0 < i → sum (i + 1) (off_rest f) ≡ sum i (off_rest f) +ℤ f i
unfolding sum
off_next i f h = rw add-one (ap (λ (x : ℤ). sum i (off_rest f) +ℤ x) (off_at f i h))
