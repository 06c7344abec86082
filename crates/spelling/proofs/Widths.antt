-- How many digits numbers have, and their signs: what the code's storing goes by. Assumes nothing.
use mathlib.Core.Path.{◌≡◌, refl, ◌∙◌}
use mathlib.Core.Bool.{Bool, true, false}
use mathlib.Core.List.{[], ◌∷◌}
use Prim.Native.Nat.{ℕ, zero, suc, ◌+◌, ◌/◌, ◌%◌, ◌^◌, ◌≤◌, ◌<◌}
use native.Mathlib.Nat.{pow-succ'}
use native.Mathlib.Omega.{arith}
use borrow.Author.Tests.{ltb-true, ltb-false, le-ltb, lt-ltb}
use lib.Dec.{ltb}
use lib.IntN.{pos, negsuc}
use lib.ListN.{length, length-append}
use Rattle.spelling.specs.Spelling.{digits_of, width_from, sign_of}

pub length_digits : (k n : ℕ) → length (digits_of k n) ≡ k
unfolding digits_of
length_digits zero n = refl
length_digits (suc k) n = length-append (digits_of k (n / 10)) ((48 + n % 10) ∷ []) ∙ omega (arith, length_digits k (n / 10))

pub width-step : (f n : ℕ) → 10 ≤ n → width_from (suc f) n ≡ suc (width_from f (n / 10))
unfolding width_from
width-step f n h = rw (le-ltb n 10 h, width_from) refl

pub width-last : (f n : ℕ) → n < 10 → width_from f n ≡ 1
unfolding width_from
width-last zero n h = refl
width-last (suc f) n h = rw (lt-ltb n 10 h, width_from) refl

pub width_some : (f n : ℕ) → 1 ≤ width_from f n
unfolding width_from
width_some zero n = omega arith
width_some (suc f) n = go (ltb n 10)
  where
    go : (b : Bool) → 1 ≤ elim b [ true ↦ 1 | false ↦ suc (width_from f (n / 10)) ]
    go true = omega arith
    go false = omega arith

-- it holds the number, if it may have so many
pub width-holds : (f n : ℕ) → n < 10 ^ suc f → n < 10 ^ width_from f n
unfolding width_from
width-holds zero n h = h
width-holds (suc f) n h = go (ltb n 10) refl (λ k. width-holds f (n / 10) k)
  where
    go : (b : Bool) → ltb n 10 ≡ b → (n / 10 < 10 ^ suc f → n / 10 < 10 ^ width_from f (n / 10)) → n < 10 ^ elim b [ true ↦ 1 | false ↦ suc (width_from f (n / 10)) ]
    go true e r = omega (arith, ltb-true n 10 e)
    go false e r = omega (arith, r (omega (arith, pow-succ' 10 (suc f))), pow-succ' 10 (width_from f (n / 10)))

-- it is no longer than needed
pub width_fits : (f j n : ℕ) → n < 10 ^ suc j → width_from f n ≤ suc j
unfolding width_from
width_fits zero j n h = omega arith
width_fits (suc f) zero n h = go (ltb n 10) refl
  where
    go : (b : Bool) → ltb n 10 ≡ b → elim b [ true ↦ 1 | false ↦ suc (width_from f (n / 10)) ] ≤ 1
    go true e = omega arith
    go false e = absurd (omega (arith, ltb-false n 10 e))
width_fits (suc f) (suc j) n h = go (ltb n 10) (λ k. width_fits f j (n / 10) k)
  where
    go : (b : Bool) → (n / 10 < 10 ^ suc j → width_from f (n / 10) ≤ suc j) → elim b [ true ↦ 1 | false ↦ suc (width_from f (n / 10)) ] ≤ suc (suc j)
    go true r = omega arith
    go false r = omega (arith, r (omega (arith, pow-succ' 10 (suc j))))

pub plain-sign : (m : ℕ) → sign_of (pos m) ≡ []
unfolding sign_of
plain-sign m = simp (le-ltb m 0 (omega arith))

pub minus-sign : (m : ℕ) → sign_of (negsuc m) ≡ 45 ∷ []
unfolding sign_of
minus-sign m = refl
