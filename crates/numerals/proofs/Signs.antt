-- A magnitude below 10^15 as the code casts it: by `n as i64`, and by `!((n - 1) as i64)` behind a minus; and a word by its first byte. Assumes nothing.
use Rattle.std.proofs.Common.{None}
use mathlib.Core.Path.{◌≡◌, refl, ap, ◌∙◌}
use mathlib.Core.List.{List, [], ◌∷◌}
use Prim.Native.Nat.{ℕ, zero, suc, ◌-◌, ◌<◌}
use native.Mathlib.Omega.{arith}
use borrow.Author.Tests.{eq-eqb, ne_eqb}
use lib.IntN.{pos, neg_ℤ}
use lib.ListN.{length, get_or, take, drop}
use lib.Seq.{take_all}
use mir.Syntax.{w64}
use mir.Val.{SFits, to_z}
use mir.ValLaws.{to_z_pos, to_z-neg}
use Rattle.numerals.specs.Number.{plain_of, kept, negated, number_of}

pub half : {n : ℕ} → n < 1000000000000000 → SFits w64 (pos n)
half h = record { sfits = omega arith }

pub plainly : {n : ℕ} → n < 1000000000000000 → to_z w64 n ≡ pos n
plainly {n} h = to_z_pos w64 n (omega arith)

pub minus : (n : ℕ) → 0 < n → n < 1000000000000000 → to_z w64 (18446744073709551615 - (n - 1)) ≡ neg_ℤ (pos n)
minus zero p h = elim p [ ]
minus (suc k) p h =
    let e : 18446744073709551615 - (suc k - 1) ≡ 18446744073709551616 - suc k = omega arith in
    ap (to_z w64) e ∙ to_z-neg w64 k (omega arith)

-- ---- by the first byte
pub signed-none : (w : List ℕ) → length w ≡ 0 → None ≡ number_of w
unfolding number_of
signed-none [] h = refl
signed-none (b ∷ t) h = absurd (omega arith)

pub signed-minus : (w : List ℕ) → 0 < length w → get_or w 0 0 ≡ 45 → negated (plain_of (take (length w - 1) (drop 1 w))) ≡ number_of w
unfolding number_of
signed-minus [] h e = absurd (omega arith)
signed-minus (b ∷ t) h e =
    let a : take (suc (length t) - 1) t ≡ t = take_all (suc (length t) - 1) t (omega arith) in
    simp (eq-eqb b 45 e) (ap (λ (l : List ℕ). negated (plain_of l)) a)

pub signed-plain : (w : List ℕ) → 0 < length w → (get_or w 0 0 ≡ 45 → ⊥) → kept (plain_of w) ≡ number_of w
unfolding number_of
signed-plain [] h e = absurd (omega arith)
signed-plain (b ∷ t) h e = simp (ne_eqb b 45 e)
