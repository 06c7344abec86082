-- A number written again is the part of the record that it was read from, and parts that follow each other join; so sections 5 to 7 of a record over any
-- counts are written again as its bytes from section 5 on. Assumes nothing.
use mathlib.Core.Path.{◌≡◌, refl, sym, ap, ap₂, ◌∙◌, subst}
use mathlib.Core.Bool.{Bool, true, cond}
use mathlib.Core.List.{List, [], ◌∷◌, ◌++◌}
use mathlib.Core.Logic.{⊎_elim}
use Prim.Native.Nat.{ℕ, zero, suc, ◌+◌, ◌*◌, ◌≤◌, ◌<◌}
use native.Mathlib.Nat.{le_step, lt-suc_self, le_trans, mul-le-mul}
use native.Mathlib.Omega.{arith}
use lib.Dec.{eqb}
use lib.IntN.{ℤ}
use lib.ListN.{length, get_or, take, drop, length-drop, get_or-eq_default}
use lib.Seq.{take-add, take_all, drop-drop, length-take-le, get_or-take, get_or-drop}
use borrow.Author.Tests.{ne_eqb}
use mir.Syntax.{w32, w64}
use Rattle.whole.specs.Fold.{count}
use Rattle.whole.specs.laws.Order.{≤-or}
use Rattle.grid.specs.State.{by_flag, liquid, flag_of}
use Rattle.record.specs.declared.Counts.{Counts}
use Rattle.record.specs.Bytes.{bytes_of, value, part, u32_at, i32_at, i64_at, u32_of, i32_of, i64_of, join, gathered, Held}
use Rattle.record.specs.Places.{cells_from, masses_from, parts_from, length_of}
use Rattle.record.specs.Layout.{interfaces, liquids, mass_bytes, cell_numbers, part_numbers, cell_sections}
use Rattle.record.specs.Reading.{mass_read, part_read}
use Rattle.record.proofs.Numbers.{Bytes, bytes_of-value, again}
use Rattle.whole.specs.laws.Counts.{count-le}

-- ---- parts of a record, one after the other
module _ (r : List ℕ) where
  pub joined : (i a j b : ℕ) {x y : List ℕ} → i + a ≡ j → x ≡ part a i r → y ≡ part b j r → x ++ y ≡ part (a + b) i r
  joined i a j b e p q =
      ap₂ (λ (x y : List ℕ). x ++ y) p (q ∙ ap (λ (k : ℕ). part b k r) (sym e))
      ∙ ap (λ (l : List ℕ). take a (drop i r) ++ take b l) (sym (drop-drop a i r))
      ∙ sym (take-add a b (drop i r))

module _ (r : List ℕ) (bytes : Bytes r) where
  bytes-part : (k i : ℕ) → Bytes (part k i r)
  bytes-part k i j = ⊎_elim (λ h. out h) (λ h. in-it h) (≤-or k j)
    where
      out : k ≤ j → get_or (part k i r) j 0 < 256
      out h = subst (λ (n : ℕ). n < 256) (sym (get_or-eq_default (part k i r) 0 {n = j} (le_trans (length_most k (drop i r)) h))) (omega arith)
        where
          length_most : (k : ℕ) (l : List ℕ) → length (take k l) ≤ k
          length_most zero l = omega arith
          length_most (suc k) [] = omega arith
          length_most (suc k) (x ∷ l) = let m = length_most k l in omega arith

      in-it : j < k → get_or (part k i r) j 0 < 256
      in-it h = subst (λ (n : ℕ). n < 256) (sym (get_or-take k (drop i r) j 0 h ∙ get_or-drop i r j 0)) (bytes (i + j))

  length_part : (k i : ℕ) → i + k ≤ length r → length (part k i r) ≡ k
  length_part k i h = length-take-le k (drop i r) (omega (arith, length-drop i r))

  -- a number is the part that it was read from
  pub word-again : (i : ℕ) → i + 4 ≤ length r → u32_of (u32_at r i) ≡ part 4 i r
  word-again i h = ap (λ (k : ℕ). bytes_of k (value (part 4 i r))) (sym (length_part 4 i h)) ∙ bytes_of-value (part 4 i r) (bytes-part 4 i)

  pub int-again : (i : ℕ) → i + 4 ≤ length r → i32_of (i32_at r i) ≡ part 4 i r
  int-again i h = again w32 4 (part 4 i r) (length_part 4 i h) (bytes-part 4 i) refl

  pub long-again : (i : ℕ) → i + 8 ≤ length r → i64_of (i64_at r i) ≡ part 8 i r
  long-again i h = again w64 8 (part 8 i r) (length_part 8 i h) (bytes-part 8 i) refl

  pub count-again : (i n size : ℕ) → Held r i n size → u32_of n ≡ part 4 i r
  count-again i n size h = ap u32_of (sym h.count) ∙ word-again i (omega (arith, h.inside))

  -- ---- sections 5 to 7: what is gathered from the cells is what they were read from
  gathered-again : (from size n : ℕ) (f : ℕ → List ℕ) (g : ℕ → Bool) → ((c : ℕ) → c < n → f c ≡ part (size * cond (g c) 1 0) (from + size * count c g) r)
      → gathered n f ≡ part (size * count n g) from r
  unfolding gathered count
  gathered-again from size zero f g h = let e : size * 0 ≡ 0 = omega arith in sym (ap (λ (k : ℕ). part k from r) e)
  gathered-again from size (suc n) f g h =
      joined r from (size * count n g) (from + size * count n g) (size * cond (g n) 1 0) refl (gathered-again from size n f g (λ c k. h c (le_step k))) (h n (lt-suc_self n))
      ∙ ap (λ (k : ℕ). part k from r) (let e : size * count n g + size * cond (g n) 1 0 ≡ size * (count n g + cond (g n) 1 0) = omega arith in e)

  some-again : (from n : ℕ) (p : ℕ → ℤ) → from + 4 * n ≤ length r → ((k : ℕ) → k < n → p k ≡ i32_at r (from + 4 * k)) → gathered n (λ k. i32_of (p k)) ≡ part (4 * n) from r
  unfolding gathered
  some-again from zero p h e = refl
  some-again from (suc n) p h e =
      joined r from (4 * n) (from + 4 * n) 4 refl (some-again from n p (omega arith) (λ k l. e k (le_step l)))
      (ap i32_of (e n (lt-suc_self n)) ∙ int-again (from + 4 * n) (omega arith))
      ∙ ap (λ (k : ℕ). part k from r) (let e : 4 * n + 4 ≡ 4 * suc n = omega arith in e)

  mass-again : (f at : ℕ) (m : ℤ) → (f ≡ 1 → m ≡ i32_at r at) → at + 4 * cond (eqb f 1) 1 0 ≤ length r
      → by_flag f [] (i32_of m) [] [] ≡ part (4 * cond (eqb f 1) 1 0) at r
  mass-again zero at m e h = refl
  mass-again (suc zero) at m e h = ap i32_of (e refl) ∙ int-again at h
  mass-again (suc (suc zero)) at m e h = refl
  mass-again (suc (suc (suc f))) at m e h = sym (ap (λ (b : Bool). part (4 * cond b 1 0) at r) (ne_eqb (suc (suc (suc f))) 1 (λ q. omega arith)))

  parts_again : (w f at : ℕ) (p : ℕ → ℤ) → (liquid f ≡ true → (k : ℕ) → k < w → p k ≡ i32_at r (at + 4 * k)) → at + 4 * w * cond (liquid f) 1 0 ≤ length r
      → by_flag f [] (cell_numbers w p) (cell_numbers w p) [] ≡ part (4 * w * cond (liquid f) 1 0) at r
  unfolding cell_numbers
  parts_again w zero at p e h = sym (ap (λ (k : ℕ). part k at r) (let z : 4 * w * 0 ≡ 0 = omega arith in z))
  parts_again w (suc zero) at p e h = some-again at w p (omega arith) (e refl) ∙ ap (λ (k : ℕ). part k at r) (let z : 4 * w ≡ 4 * w * 1 = omega arith in z)
  parts_again w (suc (suc zero)) at p e h = some-again at w p (omega arith) (e refl) ∙ ap (λ (k : ℕ). part k at r) (let z : 4 * w ≡ 4 * w * 1 = omega arith in z)
  parts_again w (suc (suc (suc f))) at p e h = sym (ap (λ (k : ℕ). part k at r) (let z : 4 * w * 0 ≡ 0 = omega arith in z))

  -- masses and parts that are the record's, of interface and of liquid cells
  module _ (K : Counts) (k N : ℕ) where
    abbrev F : ℕ → ℕ
    F = flag_of (part N (cells_from K k + 4) r)

    abbrev I : ℕ
    I = interfaces N (flag_of (part N (cells_from K k + 4) r))

    abbrev L : ℕ
    L = liquids N (flag_of (part N (cells_from K k + 4) r))

    abbrev w : ℕ
    w = K.parts

    pub record There (mass : ℕ → ℤ) (p : ℕ → ℕ → ℤ) : Type 0 where
      pub flags : Held r (cells_from K k) N 1
      pub masses : Held r (masses_from K k N) I 4
      pub parts : Held r (parts_from K k N I) (w * L) 4
      pub end : length r ≤ length_of K k N I (w * L)
      pub mass-is : (c : ℕ) → c < N → F c ≡ 1 → mass c ≡ mass_read K k N F r c
      pub part-is : (c j : ℕ) → c < N → j < w → liquid (F c) ≡ true → p c j ≡ part_read K k N F r I c j

    module _ (mass : ℕ → ℤ) (p : ℕ → ℕ → ℤ) (s : There mass p) where
      masses-again : mass_bytes N F mass ≡ part (4 * I) (masses_from K k N + 4) r
      unfolding mass_bytes interfaces count
      masses-again =
          gathered-again (masses_from K k N + 4) 4 N (λ c. by_flag (F c) [] (i32_of (mass c)) [] []) (λ c. eqb (F c) 1)
          (λ c h. mass-again (F c) (masses_from K k N + 4 + 4 * count c (λ a. eqb (F a) 1)) (mass c) (s.mass-is c h) (omega (arith, room c h, s.masses.inside)))
        where
          room : (c : ℕ) → c < N → count c (λ a. eqb (F a) 1) + cond (eqb (F c) 1) 1 0 ≤ count N (λ a. eqb (F a) 1)
          room c h = count-le (λ a. eqb (F a) 1) (suc c) N h

      liquids-again : part_numbers w N F p ≡ part (4 * w * L) (parts_from K k N I + 4) r
      unfolding part_numbers liquids count
      liquids-again =
          gathered-again (parts_from K k N I + 4) (4 * w) N (λ c. by_flag (F c) [] (cell_numbers w (p c)) (cell_numbers w (p c)) []) (λ c. liquid (F c))
          (λ c h. parts_again w (F c) (parts_from K k N I + 4 + 4 * w * count c (λ a. liquid (F a))) (p c) (λ e j l. s.part-is c j h l e ∙ is c j) (at_most c h))
        where
          is : (c j : ℕ) → i32_at r (parts_from K k N I + 4 + 4 * (w * count c (λ a. liquid (F a)) + j)) ≡ i32_at r (parts_from K k N I + 4 + 4 * w * count c (λ a. liquid (F a)) + 4 * j)
          is c j = ap (i32_at r) (let q : parts_from K k N I + 4 + 4 * (w * count c (λ a. liquid (F a)) + j) ≡ parts_from K k N I + 4 + 4 * w * count c (λ a. liquid (F a)) + 4 * j = omega arith in q)

          at_most : (c : ℕ) → c < N → parts_from K k N I + 4 + 4 * w * count c (λ a. liquid (F a)) + 4 * w * cond (liquid (F c)) 1 0 ≤ length r
          at_most c h =
              let most : 4 * w * (count c (λ a. liquid (F a)) + cond (liquid (F c)) 1 0) ≤ 4 * w * count N (λ a. liquid (F a)) = mul-le-mul (let z : 4 * w ≤ 4 * w = omega arith in z) (count-le (λ a. liquid (F a)) (suc c) N h) in
              omega (arith, s.parts.inside)

      -- the three sections
      abbrev rest : ℕ
      rest = 4 + (N + 0) + (4 + (4 * I + 0) + (4 + (4 * w * L + 0) + 0))

      cells-again : cell_sections w N (part N (cells_from K k + 4) r) mass p ≡ part rest (cells_from K k) r
      unfolding cell_sections join
      cells-again =
          let from = cells_from K k in
          let masses = masses_from K k N in
          let parts = parts_from K k N I in
          joined r from (4 + (N + 0)) masses (4 + (4 * I + 0) + (4 + (4 * w * L + 0) + 0)) (omega arith)
          (joined r from 4 (from + 4) (N + 0) refl (count-again from N 1 s.flags) (joined r (from + 4) N (from + 4 + N) 0 refl refl refl))
          (joined r masses (4 + (4 * I + 0)) parts (4 + (4 * w * L + 0) + 0) (omega arith)
          (joined r masses 4 (masses + 4) (4 * I + 0) refl (count-again masses I 4 s.masses) (joined r (masses + 4) (4 * I) (masses + 4 + 4 * I) 0 refl masses-again refl))
          (joined r parts (4 + (4 * w * L + 0)) (length_of K k N I (w * L)) 0 (omega arith)
          (joined r parts 4 (parts + 4) (4 * w * L + 0) refl (count-again parts (w * L) 4 s.parts) (joined r (parts + 4) (4 * w * L) (parts + 4 + 4 * w * L) 0 refl liquids-again refl))
          refl))

      -- they reach the record's end, and behind the sections before them are the whole record
      pub cells_rest : cell_sections w N (part N (cells_from K k + 4) r) mass p ≡ drop (cells_from K k) r
      cells_rest = cells-again ∙ take_all rest (drop (cells_from K k) r) (omega (arith, s.end, length-drop (cells_from K k) r))

      pub whole_again : (front : List ℕ) → front ≡ part (cells_from K k) 0 r → front ++ cell_sections w N (part N (cells_from K k + 4) r) mass p ≡ r
      whole_again front e =
          joined r 0 (cells_from K k) (cells_from K k) rest (omega arith) e cells-again ∙ take_all (cells_from K k + rest) r (omega (arith, s.end))
