-- A list of nine parts a cell after one cell's are pasted: among the nineteen places that cell holds what was pasted, and no other cell changes. Assumes nothing.
use mathlib.Core.Path.{◌≡◌, sym, ap, ◌∙◌, subst}
use mathlib.Core.List.{List, ◌++◌}
use Prim.Native.Nat.{ℕ, zero, suc, ◌+◌, ◌*◌, ◌-◌, ◌≤◌, ◌<◌}
use native.Mathlib.Decide.{dec_lt}
use native.Mathlib.Nat.{le_of_suc-le-suc}
use native.Mathlib.Omega.{arith}
use lib.IntN.{ℤ, pos}
use lib.ListN.{length, get_or, take, drop, length-append, length-drop, get_or-append}
use lib.Seq.{length-take-le, get_or-append-add, get_or-take, get_or-drop, ext_get_or}
use Rattle.whole.specs.laws.Search.{as-dir}
use Rattle.whole.specs.laws.Tab.{length-tab, get_or-tab}
use Rattle.lattice.specs.inner.Held.{parts_of}
use Rattle.flume.specs.inner.Spread.{wide, spread}
use Rattle.flume.proofs.Places.{at_places, spread_at, spread_none}
use Rattle.nine.specs.inner.Cells.{nine_of, part_of9, pasted9, Quiet}

-- what is the same at the nine directions is the same at the nineteen places
pub spread_same : (f g : ℕ → ℤ) → ((k : ℕ) → k < 9 → f k ≡ g k) → (i : ℕ) → i < 19 → spread (pos 0) f i ≡ spread (pos 0) g i
unfolding wide
spread_same f g e zero h = spread_at (pos 0) f 0 (omega arith) ∙ e 0 (omega arith) ∙ sym (spread_at (pos 0) g 0 (omega arith))
spread_same f g e (suc a) h =
    at_places (λ i. spread (pos 0) f i ≡ spread (pos 0) g i)
    (λ k d. spread_at (pos 0) f k d.most ∙ e k (omega (arith, d.most)) ∙ sym (spread_at (pos 0) g k d.most))
    (λ i n. spread_none (pos 0) f i n ∙ sym (spread_none (pos 0) g i n)) (suc a) (as-dir (le_of_suc-le-suc h))

-- nineteen parts with nothing at the idle places are their nine directions' spread
pub quiet-spread : (v : List ℤ) → Quiet v → (i : ℕ) → i < 19 → spread (pos 0) (λ k. get_or v (wide k) (pos 0)) i ≡ get_or v i (pos 0)
unfolding wide
quiet-spread v q zero h = spread_at (pos 0) (λ k. get_or v (wide k) (pos 0)) 0 (omega arith)
quiet-spread v q (suc a) h =
    at_places (λ i. spread (pos 0) (λ k. get_or v (wide k) (pos 0)) i ≡ get_or v i (pos 0)) (λ k d. spread_at (pos 0) (λ k. get_or v (wide k) (pos 0)) k d.most)
    (λ i n. spread_none (pos 0) (λ k. get_or v (wide k) (pos 0)) i n ∙ sym (q.at i n)) (suc a) (as-dir (le_of_suc-le-suc h))

module _ (out : List ℤ) (c : ℕ) (v : List ℤ) (fits : 9 * c + 9 ≤ length out) where
  nine : length (nine_of v) ≡ 9
  nine = length-tab 9 (λ k. get_or v (wide k) (pos 0))

  front : length (take (9 * c) out) ≡ 9 * c
  front = length-take-le (9 * c) out (omega arith)

  pub length-pasted9 : length (pasted9 out c v) ≡ length out
  unfolding pasted9
  length-pasted9 =
      length-append (take (9 * c) out ++ nine_of v) (drop (9 * c + 9) out)
      ∙ omega (arith, front, nine, length-append (take (9 * c) out) (nine_of v), length-drop (9 * c + 9) out)

  both : length (take (9 * c) out ++ nine_of v) ≡ 9 * c + 9
  both = omega (arith, front, nine, length-append (take (9 * c) out) (nine_of v))

  inside : (k : ℕ) → k < 9 → get_or (pasted9 out c v) (9 * c + k) (pos 0) ≡ get_or v (wide k) (pos 0)
  unfolding pasted9
  inside k h =
      get_or-append (take (9 * c) out ++ nine_of v) (drop (9 * c + 9) out) (pos 0) (9 * c + k) (omega (arith, both))
      ∙ ap (λ (a : ℕ). get_or (take (9 * c) out ++ nine_of v) (a + k) (pos 0)) (sym front)
      ∙ get_or-append-add (take (9 * c) out) (nine_of v) k (pos 0)
      ∙ get_or-tab 9 (λ k. get_or v (wide k) (pos 0)) (pos 0) k h

  before : (j : ℕ) → j < 9 * c → get_or (pasted9 out c v) j (pos 0) ≡ get_or out j (pos 0)
  unfolding pasted9
  before j h =
      get_or-append (take (9 * c) out ++ nine_of v) (drop (9 * c + 9) out) (pos 0) j (omega (arith, both))
      ∙ get_or-append (take (9 * c) out) (nine_of v) (pos 0) j (omega (arith, front))
      ∙ get_or-take (9 * c) out j (pos 0) h

  after : (j : ℕ) → 9 * c + 9 ≤ j → get_or (pasted9 out c v) j (pos 0) ≡ get_or out j (pos 0)
  unfolding pasted9
  after j h =
      let i : ℕ = j - (9 * c + 9) in
      let e : j ≡ length (take (9 * c) out ++ nine_of v) + i = omega (arith, both) in
      ap (λ (a : ℕ). get_or (take (9 * c) out ++ nine_of v ++ drop (9 * c + 9) out) a (pos 0)) e
      ∙ get_or-append-add (take (9 * c) out ++ nine_of v) (drop (9 * c + 9) out) i (pos 0)
      ∙ get_or-drop (9 * c + 9) out i (pos 0)
      ∙ ap (λ (a : ℕ). get_or out a (pos 0)) (omega arith)

  -- that cell holds v
  pub pasted-here : Quiet v → (i : ℕ) → i < 19 → part_of9 (pasted9 out c v) c i ≡ parts_of v i
  unfolding part_of9
  pasted-here q i h = spread_same (λ k. get_or (pasted9 out c v) (9 * c + k) (pos 0)) (λ k. get_or v (wide k) (pos 0)) inside i h ∙ quiet-spread v q i h

  -- any other is as it was
  pub pasted-other : (j i : ℕ) → (j ≡ c → ⊥) → i < 19 → part_of9 (pasted9 out c v) j i ≡ part_of9 out j i
  unfolding part_of9
  pasted-other j i n h = spread_same (λ k. get_or (pasted9 out c v) (9 * j + k) (pos 0)) (λ k. get_or out (9 * j + k) (pos 0)) (λ k l. go k l (dec_lt j c)) i h
    where
      go : (k : ℕ) → k < 9 → Dec (j < c) → get_or (pasted9 out c v) (9 * j + k) (pos 0) ≡ get_or out (9 * j + k) (pos 0)
      go k l (yes m) = before (9 * j + k) (omega arith)
      go k l (no m) = after (9 * j + k) (omega arith)

  -- what stands there already changes nothing
  pub pasted-same : ((k : ℕ) → k < 9 → get_or out (9 * c + k) (pos 0) ≡ get_or v (wide k) (pos 0)) → pasted9 out c v ≡ out
  pasted-same same = ext_get_or (pos 0) (pasted9 out c v) out length-pasted9 (λ j h. go j (dec_lt j (9 * c)) (dec_lt j (9 * c + 9)))
    where
      go : (j : ℕ) → Dec (j < 9 * c) → Dec (j < 9 * c + 9) → get_or (pasted9 out c v) j (pos 0) ≡ get_or out j (pos 0)
      go j (yes m) d = before j m
      go j (no m) (yes l) =
          let k : ℕ = j - 9 * c in
          let e : j ≡ 9 * c + k = omega arith in
          subst (λ (i : ℕ). get_or (pasted9 out c v) i (pos 0) ≡ get_or out i (pos 0)) (sym e) (inside k (omega arith) ∙ sym (same k (omega arith)))
      go j (no m) (no l) = after j (omega arith)
