-- Tables and loops of signed numbers: a table within a bound, by one computed test, and a list that a loop fills from the front.
-- Use: `table-abs l 1 tt i` bounds entry i of a table of −1, 0, 1; `filled P l i v h all here` keeps "each entry below i has P". Assumes nothing.
use Rattle.std.specs.Prelude.{◌≡◌, Bool, true, ◌&&◌, List, [], ◌∷◌, ℕ, zero, suc, ◌+◌, ◌≤◌, ◌<◌, T, leb, length, get_or, set, ℤ, pos, nat_abs}
use Rattle.std.proofs.Common.{sym, subst, zero-le, arith, below_more, leb→le, get_or-set_same, get_or-set_other}
use Rattle.whole.specs.laws.Bools.{T-left, T-right}

abbrev pub all_abs : ℕ → List ℤ → Bool
all_abs k [] = true
all_abs k (z ∷ l) = leb (nat_abs z) k && all_abs k l

pub table-abs : (l : List ℤ) (k : ℕ) → T (all_abs k l) → (i : ℕ) → nat_abs (get_or l i (pos 0)) ≤ k
table-abs [] k t i = zero-le
table-abs (z ∷ l) k t zero = leb→le (nat_abs z) k (T-left (leb (nat_abs z) k) (all_abs k l) t)
table-abs (z ∷ l) k t (suc i) = table-abs l k (T-right (leb (nat_abs z) k) (all_abs k l) t) i

pub filled : (P : ℕ → ℤ → Type 0) (l : List ℤ) (i : ℕ) (v : ℤ) → i < length l → ((k : ℕ) → k < i → P k (get_or l k (pos 0))) → P i v → (k : ℕ) → k < i + 1 → P k (get_or (set l i v) k (pos 0))
filled P l i v h all here =
    below_more (λ (k : ℕ). P k (get_or (set l i v) k (pos 0))) i (λ k b. subst (P k) (sym (get_or-set_other l i k v (pos 0) (λ e. omega arith))) (all k b))
    (subst (P i) (sym (get_or-set_same l i v (pos 0) h)) here)
