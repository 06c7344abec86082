-- What the writer spells are words of the reader, and its header lines are lines that the reader takes. Assumes nothing.
use Rattle.std.proofs.Common.{None}
use mathlib.Core.Path.{◌≡◌, refl, sym, ap, ◌∙◌, subst}
use mathlib.Core.Bool.{Bool, true, false, ◌&&◌, not, cond, false≢true}
use mathlib.Core.List.{List, [], ◌∷◌, ◌++◌, append_assoc}
use Prim.Native.Nat.{ℕ, ◌/◌, ◌%◌, ◌<◌}
use native.Mathlib.Omega.{arith}
use borrow.Author.Tests.{ne_eqb, leb-true}
use lib.Dec.{leb, eqb}
use lib.IntN.{ℤ, pos, negsuc, nat_abs}
use lib.ListN.{length, drop, length-append}
use lib.Seq.{take_at, drop_at}
use Rattle.whole.specs.laws.Bools.{and_left, and_right}
use Rattle.numerals.specs.declared.text.Kind.TheVariants.{Blank, Word, Line, Digit}
use Rattle.heights.specs.declared.header.Key.{Key}
use Rattle.heights.specs.declared.header.Key.TheVariants.{Columns, Rows, West, South, Edge, Missing}
use Rattle.numerals.specs.Text.{of_kind, blank, run, ahead, behind, word, after_word, next_line, alike, open-text}
use Rattle.numerals.specs.Number.{number_of}
use Rattle.heights.specs.Header.{key_of, checked, last_of, line_value}
use Rattle.spelling.specs.Spelling.{spell_of, sign_of, digits_of, whole_of, metres_of}
use Rattle.depths.specs.Map.{line_text}
use Rattle.numerals.proofs.Runs.{run-yes, run-no}
use Rattle.heights.proofs.Headers.{last-so}
use Rattle.spelling.proofs.Widths.{width_some, plain-sign}
use Rattle.readback.proofs.Spelled.{Each, each_append, each_more, run-each, digits-each, spell-each, length-spell}
use Rattle.invert.proofs.Opened.{word_line}

-- ---- words in front of what is left
front-take : (f : ℕ → Bool) (w : List ℕ) (b : ℕ) (r : List ℕ) → Each f w → f b ≡ false → ahead f (w ++ b ∷ r) ≡ w
unfolding ahead
front-take f w b r p e = take_at w (b ∷ r) (run f (w ++ b ∷ r)) (sym (run-each f w (b ∷ r) p ∙ omega (arith, run-no f b r e)))

pub front-drop : (f : ℕ → Bool) (w : List ℕ) (b : ℕ) (r : List ℕ) → Each f w → f b ≡ false → behind f (w ++ b ∷ r) ≡ b ∷ r
unfolding behind
front-drop f w b r p e = drop_at w (b ∷ r) (run f (w ++ b ∷ r)) (sym (run-each f w (b ∷ r) p ∙ omega (arith, run-no f b r e)))

not-blank : (b : ℕ) → of_kind Word b ≡ true → of_kind Blank b ≡ false
not-blank b e = go (blank b) e
  where
    go : (v : Bool) → (not v && not (eqb b 10)) ≡ true → v ≡ false
    go true e = absurd (false≢true e)
    go false e = refl

-- no blank before a word
no-blank : (w r : List ℕ) → Each (of_kind Word) w → 0 < length w → behind (of_kind Blank) (w ++ r) ≡ w ++ r
unfolding behind
no-blank [] r p h = absurd (omega arith)
no-blank (a ∷ w) r p h = ap (λ (n : ℕ). drop n (a ∷ (w ++ r))) (run-no (of_kind Blank) a (w ++ r) (not-blank a p.0))

-- a space before what is left
past-space : (r : List ℕ) → behind (of_kind Blank) (32 ∷ r) ≡ behind (of_kind Blank) r
unfolding behind
past-space r = ap (λ (n : ℕ). drop n (32 ∷ r)) (run-yes (of_kind Blank) 32 r refl)

-- the next word of a line, and what follows it
module _ (w : List ℕ) (b : ℕ) (r : List ℕ) (p : Each (of_kind Word) w) (h : 0 < length w) (e : of_kind Word b ≡ false) where
  pub word-front : word (w ++ b ∷ r) ≡ w
  unfolding word
  word-front = ap (ahead (of_kind Word)) (no-blank w (b ∷ r) p h) ∙ front-take (of_kind Word) w b r p e

  pub after_front : after_word (w ++ b ∷ r) ≡ b ∷ r
  unfolding after_word
  after_front = ap (behind (of_kind Word)) (no-blank w (b ∷ r) p h) ∙ front-drop (of_kind Word) w b r p e

pub word-space : (r : List ℕ) → word (32 ∷ r) ≡ word r
unfolding word
word-space r = ap (ahead (of_kind Word)) (past-space r)

pub after-space : (r : List ℕ) → after_word (32 ∷ r) ≡ after_word r
unfolding after_word
after-space r = ap (behind (of_kind Word)) (past-space r)

pub no_word : (r : List ℕ) → word (10 ∷ r) ≡ []
unfolding open-text
no_word r = refl

-- ---- a line of the header
passes : (ℕ → Bool) → List ℕ → Bool
passes f [] = true
passes f (b ∷ t) = f b && passes f t

each-by : (f : ℕ → Bool) (t : List ℕ) → passes f t ≡ true → Each f t
unfolding passes
each-by f [] e = tt
each-by f (b ∷ t) e = (and_left (f b) (passes f t) e, each-by f t (and_right (f b) (passes f t) e))

key-each : (k : Key) → Each (of_kind Word) (key_of k)
unfolding passes
key-each Columns = each-by (of_kind Word) (key_of Columns) refl
key-each Rows = each-by (of_kind Word) (key_of Rows) refl
key-each West = each-by (of_kind Word) (key_of West) refl
key-each South = each-by (of_kind Word) (key_of South) refl
key-each Edge = each-by (of_kind Word) (key_of Edge) refl
key-each Missing = each-by (of_kind Word) (key_of Missing) refl

key-some : (k : Key) → 0 < length (key_of k)
key-some Columns = omega arith
key-some Rows = omega arith
key-some West = omega arith
key-some South = omega arith
key-some Edge = omega arith
key-some Missing = omega arith

key-alike : (k : Key) → alike (key_of k) (key_of k) ≡ true
unfolding alike
key-alike Columns = refl
key-alike Rows = refl
key-alike West = refl
key-alike South = refl
key-alike Edge = refl
key-alike Missing = refl

module _ (k : Key) (w : List ℕ) (p : Each (of_kind Word) w) (h : 0 < length w) (rest : List ℕ) where
  pub line_reads : line_value k (line_text (key_of k) w rest) ≡ checked k (number_of w)
  unfolding line_value
  line_reads =
      let t = line_text (key_of k) w rest in
      let l : List ℕ = 32 ∷ (w ++ 10 ∷ rest) in
      let one : word t ≡ key_of k = word-front (key_of k) 32 (w ++ 10 ∷ rest) (key-each k) (key-some k) refl in
      let on : after_word t ≡ l = after_front (key_of k) 32 (w ++ 10 ∷ rest) (key-each k) (key-some k) refl in
      let two : word l ≡ w = word-space (w ++ 10 ∷ rest) ∙ word-front w 10 rest p h refl in
      let past : after_word l ≡ 10 ∷ rest = after-space (w ++ 10 ∷ rest) ∙ after_front w 10 rest p h refl in
      let none : length (word (after_word l)) ≡ 0 = ap (λ (x : List ℕ). length (word x)) past ∙ ap length (no_word rest) in
      ap (λ (x : List ℕ). cond (alike x (key_of k)) (last_of k (after_word t)) None) one
      ∙ ap (λ (b : Bool). cond b (last_of k (after_word t)) None) (key-alike k)
      ∙ ap (last_of k) on
      ∙ sym (last-so k l none)
      ∙ ap (λ (x : List ℕ). checked k (number_of x)) two

  pub line-next : next_line (line_text (key_of k) w rest) ≡ rest
  unfolding next_line
  line-next =
      let a : List ℕ = key_of k ++ 32 ∷ w in
      let q : Each (of_kind Line) a = each_append (of_kind Line) (key_of k) (32 ∷ w) (each_more (of_kind Word) (of_kind Line) word_line (key_of k) (key-each k)) (refl, each_more (of_kind Word) (of_kind Line) word_line w p) in
      ap (λ (x : List ℕ). drop 1 (behind (of_kind Line) x)) (sym (append_assoc (key_of k) (32 ∷ w) (10 ∷ rest)))
      ∙ ap (λ (x : List ℕ). drop 1 x) (front-drop (of_kind Line) a 10 rest q refl)

-- ---- the spelled numbers are words
digit-word : (b : ℕ) → of_kind Digit b ≡ true → of_kind Word b ≡ true
digit-word b e =
    let l = leb-true 48 b (and_left (leb 48 b) (leb b 57) e) in
    simp (ne_eqb b 32 (λ q. omega arith), ne_eqb b 9 (λ q. omega arith), ne_eqb b 13 (λ q. omega arith), ne_eqb b 10 (λ q. omega arith))

spell-word : (n : ℕ) → n < 1000000000000 → Each (of_kind Word) (spell_of n)
spell-word n h = each_more (of_kind Digit) (of_kind Word) digit-word (spell_of n) (spell-each n h)

sign_word : (z : ℤ) → Each (of_kind Word) (sign_of z)
unfolding sign_of
sign_word (pos n) = subst (Each (of_kind Word)) (sym (plain-sign n)) tt
sign_word (negsuc n) = (refl, tt)

pub whole_word : (z : ℤ) → nat_abs z < 1000000000000 → Each (of_kind Word) (whole_of z)
unfolding whole_of
whole_word z h = each_append (of_kind Word) (sign_of z) (spell_of (nat_abs z)) (sign_word z) (spell-word (nat_abs z) h)

pub metres-word : (z : ℤ) → nat_abs z < 1000000000000000 → Each (of_kind Word) (metres_of z)
unfolding metres_of
metres-word z h =
    let a = nat_abs z / 1000 in
    let d = digits_of 3 (nat_abs z % 1000) in
    each_append (of_kind Word) (sign_of z) (spell_of a ++ 46 ∷ d) (sign_word z)
    (each_append (of_kind Word) (spell_of a) (46 ∷ d) (spell-word a (omega arith)) (refl, each_more (of_kind Digit) (of_kind Word) digit-word d (digits-each 3 (nat_abs z % 1000))))

pub whole-some : (z : ℤ) → nat_abs z < 1000000000000 → 0 < length (whole_of z)
unfolding whole_of
whole-some z h = omega (arith, length-append (sign_of z) (spell_of (nat_abs z)), length-spell (nat_abs z) h, width_some 19 (nat_abs z))

pub metres-some : (z : ℤ) → 0 < length (metres_of z)
unfolding metres_of
metres-some z =
    let a = nat_abs z / 1000 in
    let d = digits_of 3 (nat_abs z % 1000) in
    omega (arith, length-append (sign_of z) (spell_of a ++ 46 ∷ d), length-append (spell_of a) (46 ∷ d))
