-- The reader takes the rows that the writer writes: each a line of so many whole numbers, and nothing behind them. Assumes nothing.
use Rattle.std.proofs.Common.{Ok}
use mathlib.Core.Path.{◌≡◌, refl, ap, ◌∙◌}
use mathlib.Core.Bool.{true, false}
use mathlib.Core.List.{List, [], ◌∷◌, ◌++◌, append_assoc}
use Prim.Native.Nat.{ℕ, zero, suc, ◌+◌, ◌<◌}
use native.Mathlib.Omega.{arith}
use borrow.Author.Tests.{eq-eqb}
use lib.IntN.{ℤ, nat_abs}
use lib.ListN.{length, drop}
use lib.Seq.{drop-append-add}
use Rattle.numerals.specs.declared.text.Kind.TheVariants.{Word, Line}
use Rattle.numerals.specs.Text.{of_kind, run, behind, word, after_word, next_line, open-text}
use Rattle.numerals.specs.Number.{number_of}
use Rattle.heights.specs.Rows.{is_whole_number, row_good, tail_of, rows_of}
use Rattle.spelling.specs.Spelling.{whole_of}
use Rattle.depths.specs.Map.{row_text, rows_text}
use Rattle.depths.specs.Map as map
use Rattle.readback.proofs.Spelled.{Each, each_more, run-each, whole-spell}
use Rattle.readback.proofs.Words.{word-front, after_front, word-space, after-space, no_word, whole_word, whole-some}
use Rattle.readback.proofs.HeaderBack.{thousand-whole}
use Rattle.invert.proofs.Opened.{word_line}
use Rattle.heights.proofs.Rowing.{good-on, rows_on}

-- a number that the writer may be given for a depth
abbrev pub Small : ℤ → Type 0
Small z = nat_abs z < 1000000000000

-- ---- one row

-- a space before what is left does no harm
good-space : (n : ℕ) (r : List ℕ) → row_good (suc n) (32 ∷ r) ≡ row_good (suc n) r
unfolding row_good
good-space n r =
    ap (λ (w : List ℕ). elim (is_whole_number (number_of w)) [ true ↦ row_good n (after_word (32 ∷ r)) | false ↦ false ]) (word-space r)
    ∙ ap (λ (l : List ℕ). elim (is_whole_number (number_of (word r))) [ true ↦ row_good n l | false ↦ false ]) (after-space r)

good_none : (r : List ℕ) → row_good 0 (10 ∷ r) ≡ true
unfolding row_good
good_none r = eq-eqb (length (word (10 ∷ r))) 0 (ap length (no_word r))

no-word-byte : (n : ℕ) → of_kind Word (map.behind n) ≡ false
no-word-byte zero = refl
no-word-byte (suc n) = refl

whole-number : (z : ℤ) → Small z → is_whole_number (number_of (whole_of z)) ≡ true
whole-number z h = ap is_whole_number (whole-spell z h) ∙ thousand-whole z

module _ (v : ℕ → ℤ) where
  -- the row's text, a value in front
  row-front : (x n : ℕ) (rest : List ℕ) → row_text v x (suc n) ++ rest ≡ whole_of (v x) ++ map.behind n ∷ (row_text v (suc x) n ++ rest)
  unfolding row_text
  row-front x n rest = append_assoc (whole_of (v x)) (map.behind n ∷ row_text v (suc x) n) rest

  module _ (x n : ℕ) (rest : List ℕ) (h : Small (v x)) where
    abbrev left : List ℕ
    left = row_text v (suc x) n ++ rest

    one_word : word (row_text v x (suc n) ++ rest) ≡ whole_of (v x)
    one_word = ap word (row-front x n rest) ∙ word-front (whole_of (v x)) (map.behind n) left (whole_word (v x) h) (whole-some (v x) h) (no-word-byte n)

    one-after : after_word (row_text v x (suc n) ++ rest) ≡ map.behind n ∷ left
    one-after = ap after_word (row-front x n rest) ∙ after_front (whole_of (v x)) (map.behind n) left (whole_word (v x) h) (whole-some (v x) h) (no-word-byte n)

    one-good : row_good (suc n) (row_text v x (suc n) ++ rest) ≡ row_good n (map.behind n ∷ left)
    one-good = good-on n (row_text v x (suc n) ++ rest) (ap (λ (w : List ℕ). is_whole_number (number_of w)) one_word ∙ whole-number (v x) h) ∙ ap (row_good n) one-after

  row-good : (n x : ℕ) (rest : List ℕ) → ((i : ℕ) → i < x + suc n → Small (v i)) → row_good (suc n) (row_text v x (suc n) ++ rest) ≡ true
  row-good zero x rest h = one-good x 0 rest (h x (omega arith)) ∙ good_none (row_text v (suc x) 0 ++ rest)
  row-good (suc n) x rest h =
      one-good x (suc n) rest (h x (omega arith))
      ∙ good-space n (row_text v (suc x) (suc n) ++ rest)
      ∙ row-good n (suc x) rest (λ i k. h i (omega arith))

  -- ---- the line behind it
  past-line : (w r : List ℕ) → Each (of_kind Line) w → next_line (w ++ r) ≡ next_line r
  unfolding next_line behind
  past-line w r p =
      ap (λ (k : ℕ). drop 1 (drop k (w ++ r))) (run-each (of_kind Line) w r p)
      ∙ ap (drop 1) (drop-append-add w r (run (of_kind Line) r))

  past-space : (r : List ℕ) → next_line (32 ∷ r) ≡ next_line r
  past-space r = past-line (32 ∷ []) r (refl, tt)

  past_end : (r : List ℕ) → next_line (10 ∷ r) ≡ r
  unfolding open-text
  past_end r = refl

  -- the value in front lies in the line
  past_value : (n x : ℕ) (rest : List ℕ) → Small (v x) → next_line (row_text v x (suc n) ++ rest) ≡ next_line (map.behind n ∷ (row_text v (suc x) n ++ rest))
  past_value n x rest h =
      ap next_line (row-front x n rest)
      ∙ past-line (whole_of (v x)) (map.behind n ∷ (row_text v (suc x) n ++ rest)) (each_more (of_kind Word) (of_kind Line) word_line (whole_of (v x)) (whole_word (v x) h))

  row_next : (n x : ℕ) (rest : List ℕ) → ((i : ℕ) → i < x + suc n → Small (v i)) → next_line (row_text v x (suc n) ++ rest) ≡ rest
  unfolding row_text
  row_next zero x rest h = past_value 0 x rest (h x (omega arith)) ∙ past_end rest
  row_next (suc n) x rest h =
      past_value (suc n) x rest (h x (omega arith))
      ∙ past-space (row_text v (suc x) (suc n) ++ rest)
      ∙ row_next n (suc x) rest (λ i j. h i (omega arith))

-- ---- all rows

none_left : (n i : ℕ) → rows_of 0 n [] i ≡ Ok tt
unfolding rows_of tail_of
none_left n i = refl

pub rows-good : (v : ℕ → ℕ → ℤ) (n m i : ℕ) → ((x y : ℕ) → x < suc n → y < m → Small (v x y)) → rows_of m (suc n) (rows_text v (suc n) m) i ≡ Ok tt
unfolding rows_text
rows-good v n zero i h = none_left (suc n) i
rows-good v n (suc m) i h =
    let row : ℕ → ℤ = λ x. v x m in
    let rest = rows_text v (suc n) m in
    let small : (x : ℕ) → x < 0 + suc n → Small (v x m) = λ x k. h x m (omega arith) (omega arith) in
    rows_on m (suc n) (row_text row 0 (suc n) ++ rest) i (row-good row n 0 rest small)
    ∙ ap (λ (t : List ℕ). rows_of m (suc n) t (i + 1)) (row_next row n 0 rest small)
    ∙ rows-good v n m (i + 1) (λ x y k l. h x y k (omega arith))
