-- Sums, tests, counts and searches over the numbers below n and over the directions 1 to q, and lists by tabulating: the words that document 01's
-- definitions are written in. With them a direction, and the
-- two parts of a whole number. Their laws are in laws/Sums, Search, Counts and Tab.
-- Use: `sum 3 f` is f 0 + f 1 + f 2; `first 5 bad` is the lowest bad number below 5, or 5; `tab 3 f` is the list f 0, f 1, f 2. Assumes nothing.
use Rattle.std.specs.Prelude.{ℕ, zero, suc, ◌+◌, ◌<◌, ◌≤◌, Bool, true, false, ◌&&◌, ◌||◌, cond, List, [], ◌∷◌, ℤ, pos, negsuc, ◌+ℤ◌}

-- f 0 + .. + f (n − 1), of whole numbers and of naturals
unfoldable pub sum : ℕ → (ℕ → ℤ) → ℤ
sum zero f = pos 0
sum (suc n) f = sum n f +ℤ f n

unfoldable pub total : ℕ → (ℕ → ℕ) → ℕ
total zero f = 0
total (suc n) f = total n f + f n

-- some number below n passes; each does
unfoldable pub any : ℕ → (ℕ → Bool) → Bool
any zero f = false
any (suc n) f = any n f || f n

unfoldable pub all : ℕ → (ℕ → Bool) → Bool
all zero f = true
all (suc n) f = all n f && f n

-- how many numbers below n pass
unfoldable pub count : ℕ → (ℕ → Bool) → ℕ
count zero f = 0
count (suc n) f = count n f + cond (f n) 1 0

-- the lowest of the n numbers from i on that passes, i + n if none does
unfoldable pub first_from : ℕ → ℕ → (ℕ → Bool) → ℕ
first_from zero i f = i
first_from (suc n) i f = elim (f i) [ true ↦ i | false ↦ first_from n (suc i) f ]

abbrev pub first : ℕ → (ℕ → Bool) → ℕ
first n f = first_from n 0 f

-- i is a direction of q
pub record Dir (q i : ℕ) : Type 0 where
  pub some : 0 < i
  pub most : i ≤ q

-- over the directions 1 to q
abbrev pub dirs : ℕ → (ℕ → ℤ) → ℤ
dirs q f = sum q (λ a. f (suc a))

abbrev pub any_dir : ℕ → (ℕ → Bool) → Bool
any_dir q f = any q (λ a. f (suc a))

abbrev pub count_dir : ℕ → (ℕ → Bool) → ℕ
count_dir q f = count q (λ a. f (suc a))

-- the list f i, f (i + 1), .., n of them
module _ {ℓ} {A : Type ℓ} where
  unfoldable pub tab_from : ℕ → ℕ → (ℕ → A) → List A
  tab_from zero i f = []
  tab_from (suc n) i f = let h = f i in h ∷ tab_from n (suc i) f

  abbrev pub tab : ℕ → (ℕ → A) → List A
  tab n f = tab_from n 0 f

-- the positive and the negative part of a whole number: the other of the two is 0
abbrev pub up : ℤ → ℕ
up (pos n) = n
up (negsuc n) = 0

abbrev pub down : ℤ → ℕ
down (pos n) = 0
down (negsuc n) = suc n

-- names every definition of this file: whoever unfolds this computes with all of them
unfoldable pub open-fold : Unit {0}
unfolding sum total any all count first_from tab_from
open-fold = tt
