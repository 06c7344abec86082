-- Amounts as the code makes them of a magnitude: by `n as i64`, and by `!((n - 1) as i64)` where a minus stands before it. Assumes nothing.
use mathlib.Core.Path.{◌≡◌, refl, ap, ◌∙◌}
use mathlib.Core.List.{List, [], ◌∷◌}
use Prim.Native.Nat.{ℕ, zero, suc, ◌-◌, ◌≤◌, ◌<◌}
use native.Mathlib.Omega.{arith}
use borrow.Author.Tests.{eq-eqb, ne_eqb}
use lib.IntN.{pos, neg_ℤ}
use lib.ListN.{length, get_or, take, drop}
use lib.Seq.{take_all}
use mir.Syntax.{w64}
use mir.Val.{SFits, to_z}
use mir.ValLaws.{to_z_pos, to_z-neg}
use Rattle.std.proofs.Common.{None}
use Rattle.console.specs.Decimal.{spelled_by}
use Rattle.console.specs.Signed.{kept, negated, signed_by}

pub half : {n : ℕ} → n ≤ 9223372036854775807 → SFits w64 (pos n)
half h = record { sfits = omega arith }

pub plain : {n : ℕ} → n ≤ 9223372036854775807 → to_z w64 n ≡ pos n
plain {n} h = to_z_pos w64 n (omega arith)

pub minus : (n : ℕ) → 0 < n → n ≤ 9223372036854775808 → to_z w64 (18446744073709551615 - (n - 1)) ≡ neg_ℤ (pos n)
minus zero p h = absurd (omega arith)
minus (suc k) p h =
    let e : 18446744073709551615 - (suc k - 1) ≡ 18446744073709551616 - suc k = omega arith in
    ap (to_z w64) e ∙ to_z-neg w64 k (omega arith)

-- ---- by the first byte
pub signed-none : (text : List ℕ) → length text ≡ 0 → None ≡ signed_by text
unfolding signed_by
signed-none [] h = refl
signed-none (b ∷ t) h = absurd (omega arith)

pub signed-minus : (text : List ℕ) → 0 < length text → get_or text 0 0 ≡ 45
    → negated (spelled_by (take (length text - 1) (drop 1 text)) 9223372036854775808) ≡ signed_by text
unfolding signed_by
signed-minus [] h e = absurd (omega arith)
signed-minus (b ∷ t) h e =
    let a : take (suc (length t) - 1) t ≡ t = take_all (suc (length t) - 1) t (omega arith) in
    simp (eq-eqb b 45 e) (ap (λ (l : List ℕ). negated (spelled_by l 9223372036854775808)) a)

pub signed-plain : (text : List ℕ) → 0 < length text → (get_or text 0 0 ≡ 45 → ⊥) → kept (spelled_by text 9223372036854775807) ≡ signed_by text
unfolding signed_by
signed-plain [] h e = absurd (omega arith)
signed-plain (b ∷ t) h e = simp (ne_eqb b 45 e)
