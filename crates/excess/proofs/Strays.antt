-- What strays into the carry, cell by cell: nothing from a cell with no mark, and never more than the sum of the largest excesses. Assumes nothing.
use mathlib.Core.Path.{◌≡◌, refl, sym, ap, ◌∙◌}
use mathlib.Core.Bool.{Bool, true, false, cond}
use mathlib.Core.List.{List}
use Prim.Native.Nat.{ℕ, suc, ◌+◌, ◌-◌, ◌≤◌, ◌<◌}
use native.Mathlib.Nat.{mul-le-mul_right}
use native.Mathlib.Omega.{arith}
use lib.IntN.{ℤ, pos, ◌+ℤ◌, +ℤ_idr, +ℤ_assoc}
use lib.Dec.{eqb}
use lib.ListN.{get_or}
use borrow.Author.Tests.{eq-eqb, ne_eqb, eqb-false}
use Rattle.whole.specs.laws.Bools.{cond_yes, cond_no}
use Rattle.whole.specs.Fold.{sum, any_dir}
use Rattle.whole.specs.laws.Machine.{Val, Within, within_by, v+}
use Rattle.whole.specs.laws.Sums.{sum-abs}
use Rattle.grid.specs.inner.Passes.{Past}
use Rattle.grid.proofs.Ranges.{over-gap}
use Rattle.excess.specs.inner.Gifts.{target_at, excess_at, lost_at, stray_at, Weighed}
use Rattle.excess.proofs.Readings.{held_in}
use Rattle.excess.proofs.Sent.{excess-in}

module _ (flags : List ℕ) (part : ℕ → ℕ → ℤ) (masses : List ℤ) (marks off : List ℕ) (low : ℕ) where
  abbrev pub stray : ℕ → ℤ
  stray = stray_at flags part masses marks off low

  pub stray-none : (c : ℕ) → get_or marks c 0 ≡ 0 → pos 0 ≡ stray c
  unfolding stray_at
  stray-none c e = sym (cond_yes (pos 0) (lost_at flags part masses off low c (get_or marks c 0)) (eq-eqb (get_or marks c 0) 0 e))

  pub stray-some : (c : ℕ) → (get_or marks c 0 ≡ 0 → ⊥) → lost_at flags part masses off low c (get_or marks c 0) ≡ stray c
  unfolding stray_at
  stray-some c n = sym (cond_no (pos 0) (lost_at flags part masses off low c (get_or marks c 0)) (ne_eqb (get_or marks c 0) 0 n))

  pub stray-in : {Room : ℕ → Type 0} (c : ℕ) → ((get_or marks c 0 ≡ 0 → ⊥) → Weighed Room part masses c) → Within (stray c) 46006272
  unfolding stray_at lost_at
  stray-in c w = go (eqb (get_or marks c 0) 0) refl (any_dir 18 (target_at flags off (c - low)))
    where
      go : (b : Bool) → eqb (get_or marks c 0) 0 ≡ b → (t : Bool) → Within (cond b (pos 0) (cond t (pos 0) (excess_at part masses (get_or marks c 0) c))) 46006272
      go true e t = record { abs = omega arith }
      go false e true = record { abs = omega arith }
      go false e false = excess-in part masses (get_or marks c 0) c (w (eqb-false (get_or marks c 0) 0 e))

  -- so far
  pub strays-in : {Room : ℕ → Type 0} (n : ℕ) → n ≤ 262144 → ((c : ℕ) → c < n → (get_or marks c 0 ≡ 0 → ⊥) → Weighed Room part masses c) → Within (sum n stray) 12060268167168
  strays-in n h w = record { abs = omega (arith, sum-abs n stray 46006272 (λ c k. (stray-in c (w c k)).abs), mul-le-mul_right 46006272 h) }

  -- the carry and what strayed from the cells before c
  pub strayed-in : {Room : ℕ → Type 0} {k carry : ℤ} (c n : ℕ) → c < n → n ≤ 262144 → ((j : ℕ) → j < n → (get_or marks j 0 ≡ 0 → ⊥) → Weighed Room part masses j) → k ≡ carry → Within carry 1000000000000
      → Within (k +ℤ sum c stray) 13060268167168
  strayed-in c n h l w e v = within_by (v+ (held_in e v) (held_in refl (strays-in c (omega arith) (λ j i. w j (omega arith))))) tt

  -- and one cell more
  abbrev pub strayed-sum : {Room : ℕ → Type 0} {k carry : ℤ} (c n : ℕ) → c < n → n ≤ 262144 → ((j : ℕ) → j < n → (get_or marks j 0 ≡ 0 → ⊥) → Weighed Room part masses j) → k ≡ carry → Within carry 1000000000000
      → {t x : ℤ} → t ≡ k +ℤ sum c stray → (get_or marks c 0 ≡ 0 → ⊥) → x ≡ lost_at flags part masses off low c (get_or marks c 0) → Val (t +ℤ x)
  strayed-sum c n h l w e v p m u = v+ (held_in p (strayed-in c n h l w e v)) (held_in (u ∙ stray-some c m) (stray-in c (w c h)))

  -- one more cell
  pub strays-more : (k : ℤ) (c : ℕ) → k +ℤ sum c stray +ℤ stray c ≡ k +ℤ sum (c + 1) stray
  unfolding sum
  strays-more k c =
      let e : suc c ≡ c + 1 = omega arith in
      +ℤ_assoc k (sum c stray) (stray c) ∙ ap (λ (n : ℕ). k +ℤ sum n stray) e

  pub strays-keep : (k : ℤ) (c : ℕ) → get_or marks c 0 ≡ 0 → k +ℤ sum c stray ≡ k +ℤ sum (c + 1) stray
  strays-keep k c e = sym (+ℤ_idr (k +ℤ sum c stray)) ∙ ap (λ (z : ℤ). k +ℤ sum c stray +ℤ z) (stray-none c e) ∙ strays-more k c

  -- up to the next mark nothing strays
  pub strays-on : {n : ℕ} (t k : ℤ) (c b : ℕ) → Past (λ (j : ℕ). get_or marks j 0 ≡ 0) n (c + 1) b → t ≡ k +ℤ sum (c + 1) stray → t ≡ k +ℤ sum b stray
  strays-on t k c b o = over-gap (λ j. t ≡ k +ℤ sum j stray) (c + 1) b o.least (λ j h i e. e ∙ strays-keep k j (o.before j h i))
