-- A list of parts that is written cell by cell: what stands in it after one cell's parts are pasted, and what a pass over all cells has made of it.
-- Use: the invariant `Blocks f out c` of such a pass, kept by `blocks_more`, and `blocks-all` at its end. Assumes nothing.
use mathlib.Core.Path.{◌≡◌, sym, ap, ◌∙◌, subst}
use mathlib.Core.List.{List, ◌++◌, append_assoc}
use mathlib.Core.Logic.{⊎_elim}
use Prim.Native.Nat.{ℕ, ◌+◌, ◌*◌, ◌/◌, ◌%◌, ◌-◌, ◌≤◌, ◌<◌}
use native.Mathlib.Decide.{ℕ_discrete}
use native.Mathlib.Nat.{not-suc-le-zero, div-add-mod, mod-lt}
use native.Mathlib.Omega.{arith}
use lib.Arith.{lt_of_le-ne}
use lib.IntN.{ℤ, pos}
use lib.ListN.{length, get_or, take, drop, length-append, length-drop, get_or-append}
use lib.Seq.{take_all, length-take-le, paste, get_or-append-add, get_or-take, get_or-drop, ext_get_or}
use Rattle.whole.specs.Fold.{tab}
use Rattle.whole.specs.laws.Order.{≤-or}
use Rattle.whole.specs.laws.Tab.{length-tab, get_or-tab}
use Rattle.grid.specs.inner.Pasted.{pasted}

module _ (out : List ℤ) (at : ℕ) (v : List ℤ) (fits : at + 19 ≤ length out) (nineteen : length v ≡ 19) where
  -- the copy of nineteen elements, as a loop makes it
  pub pasted-is : paste out at v 19 ≡ pasted out at v
  unfolding pasted
  pasted-is =
      ap (λ (l : List ℤ). take at out ++ l ++ drop (at + 19) out) (take_all 19 v (omega arith))
      ∙ append_assoc (take at out) v (drop (at + 19) out)

  front : length (take at out) ≡ at
  front = length-take-le at out (omega arith)

  pub length-pasted : length (pasted out at v) ≡ length out
  unfolding pasted
  length-pasted =
      length-append (take at out) (v ++ drop (at + 19) out)
      ∙ omega (arith, front, length-append v (drop (at + 19) out), length-drop (at + 19) out)

  pub pasted-inside : (k : ℕ) → k < 19 → get_or (pasted out at v) (at + k) (pos 0) ≡ get_or v k (pos 0)
  unfolding pasted
  pasted-inside k h =
      ap (λ (a : ℕ). get_or (take at out ++ (v ++ drop (at + 19) out)) (a + k) (pos 0)) (sym front)
      ∙ get_or-append-add (take at out) (v ++ drop (at + 19) out) k (pos 0)
      ∙ get_or-append v (drop (at + 19) out) (pos 0) k (omega arith)

  pub pasted-before : (j : ℕ) → j < at → get_or (pasted out at v) j (pos 0) ≡ get_or out j (pos 0)
  unfolding pasted
  pasted-before j h =
      get_or-append (take at out) (v ++ drop (at + 19) out) (pos 0) j (omega (arith, front)) ∙ get_or-take at out j (pos 0) h

  pub pasted-after : (j : ℕ) → at + 19 ≤ j → get_or (pasted out at v) j (pos 0) ≡ get_or out j (pos 0)
  unfolding pasted
  pasted-after j h =
      let i : ℕ = j - (at + 19) in
      let e : j ≡ length (take at out) + (length v + i) = omega (arith, front) in
      ap (λ (a : ℕ). get_or (take at out ++ (v ++ drop (at + 19) out)) a (pos 0)) e
      ∙ get_or-append-add (take at out) (v ++ drop (at + 19) out) (length v + i) (pos 0)
      ∙ get_or-append-add v (drop (at + 19) out) i (pos 0)
      ∙ get_or-drop (at + 19) out i (pos 0)
      ∙ ap (λ (a : ℕ). get_or out a (pos 0)) (omega arith)

  -- what stands there already changes nothing
  pub pasted-same : ((k : ℕ) → k < 19 → get_or out (at + k) (pos 0) ≡ get_or v k (pos 0)) → pasted out at v ≡ out
  pasted-same same = ext_get_or (pos 0) (pasted out at v) out length-pasted (λ j h. ⊎_elim (λ l. behind j l) (λ l. pasted-before j l) (≤-or at j))
    where
      behind : (j : ℕ) → at ≤ j → get_or (pasted out at v) j (pos 0) ≡ get_or out j (pos 0)
      behind j l = ⊎_elim (λ m. pasted-after j m) (λ m. inside j l m) (≤-or (at + 19) j)
        where
          inside : (j : ℕ) → at ≤ j → j < at + 19 → get_or (pasted out at v) j (pos 0) ≡ get_or out j (pos 0)
          inside j l m =
              let k : ℕ = j - at in
              let e : j ≡ at + k = omega arith in
              subst (λ (i : ℕ). get_or (pasted out at v) i (pos 0) ≡ get_or out i (pos 0)) (sym e) (pasted-inside k (omega arith) ∙ sym (same k (omega arith)))

-- ---- a pass that pastes the parts f c of cell c, for c = 0, 1, ..
module _ (f : ℕ → ℕ → ℤ) where
  -- the first c cells hold theirs
  abbrev pub Blocks : List ℤ → ℕ → Type 0
  Blocks out c = (j k : ℕ) → j < c → k < 19 → get_or out (19 * j + k) (pos 0) ≡ f j k

  pub blocks-zero : (out : List ℤ) → Blocks out 0
  blocks-zero out j k h l = absurd (not-suc-le-zero h)

  pub blocks_more : (out v : List ℤ) (c : ℕ) → 19 * c + 19 ≤ length out → v ≡ tab 19 (f c) → Blocks out c → Blocks (pasted out (19 * c) v) (c + 1)
  blocks_more out v c fits e b j k h l = go (ℕ_discrete j c)
    where
      n : length v ≡ 19
      n = ap length e ∙ length-tab 19 (f c)

      go : Dec (j ≡ c) → get_or (pasted out (19 * c) v) (19 * j + k) (pos 0) ≡ f j k
      go (yes p) =
          ap (λ (i : ℕ). get_or (pasted out (19 * c) v) (19 * i + k) (pos 0)) p ∙ pasted-inside out (19 * c) v fits n k l
          ∙ ap (λ (x : List ℤ). get_or x k (pos 0)) e ∙ get_or-tab 19 (f c) (pos 0) k l ∙ ap (λ (i : ℕ). f i k) (sym p)
      go (no q) =
          let g : j < c = lt_of_le-ne (omega arith) q in
          pasted-before out (19 * c) v fits n (19 * j + k) (omega arith) ∙ b j k g l

  pub blocks-all : (out : List ℤ) (n : ℕ) → length out ≡ 19 * n → Blocks out n → out ≡ tab (19 * n) (λ m. f (m / 19) (m % 19))
  blocks-all out n e b =
      ext_get_or (pos 0) out (tab (19 * n) (λ m. f (m / 19) (m % 19))) (e ∙ sym (length-tab (19 * n) (λ m. f (m / 19) (m % 19)))) (λ m h. at m (subst (λ (l : ℕ). m < l) e h))
    where
      at : (m : ℕ) → m < 19 * n → get_or out m (pos 0) ≡ get_or (tab (19 * n) (λ m. f (m / 19) (m % 19))) m (pos 0)
      at m h =
          let r : m % 19 < 19 = mod-lt m (omega arith) in
          let d : 19 * (m / 19) + m % 19 ≡ m = div-add-mod m 19 in
          ap (λ (i : ℕ). get_or out i (pos 0)) (sym d) ∙ b (m / 19) (m % 19) (omega arith) r ∙ sym (get_or-tab (19 * n) (λ m. f (m / 19) (m % 19)) (pos 0) m h)
