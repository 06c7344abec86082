-- The reader takes the header that the writer writes, whatever follows it, and finds the sides and the corner that were written. Assumes nothing.
use Rattle.std.proofs.Common.{Some, Ok}
use mathlib.Core.Path.{◌≡◌, refl, sym, ap, ap₂, ◌∙◌}
use mathlib.Core.Bool.{true}
use mathlib.Core.List.{List, [], ◌∷◌, ◌++◌}
use Prim.Native.Nat.{ℕ, ◌%◌, ◌<◌}
use native.Mathlib.Omega.{arith}
use borrow.Author.Tests.{eq-eqb}
use lib.IntN.{ℤ, pos, negsuc, nat_abs, ◌*ℤ◌}
use lib.ListN.{length}
use Rattle.whole.specs.laws.Bounds.{abs-mul}
use Rattle.whole.specs.laws.Quot.{quot-exact}
use Rattle.grid.specs.declared.Sides.{Sides}
use Rattle.numerals.specs.declared.text.Kind.TheVariants.{Word}
use Rattle.heights.specs.declared.header.Key.TheVariants.{Columns, Rows, West, South, Edge, Missing}
use Rattle.heights.specs.declared.header.Frame.{Frame}
use Rattle.numerals.specs.Text.{of_kind, next_line, from_line, open-text}
use Rattle.numerals.specs.Number.{number_of, open-number}
use Rattle.heights.specs.Header.{key_of, is_whole, checked, line_value, entry_of, header_of}
use Rattle.heights.proofs.Headers.{header-so}
use Rattle.spelling.specs.Spelling.{spell_of, whole_of, metres_of}
use Rattle.spelling.proofs.Widths.{plain-sign}
use Rattle.depths.specs.declared.Corner.{Corner}
use Rattle.depths.specs.Map.{ncols, nrows, line_text, header_text}
use Rattle.readback.proofs.Spelled.{Each, metres-spell, whole-spell}
use Rattle.readback.proofs.Words.{line_reads, line-next, whole_word, metres-word, whole-some, metres-some}

-- what the header of a map says
abbrev pub frame_of : Sides → Corner → Frame
frame_of s t = record { nx = pos s.nx; ny = pos s.ny; x = t.x; y = t.y; edge = t.edge }

-- a count of cells is spelled as a whole number is
spell-whole : (n : ℕ) → spell_of n ≡ whole_of (pos n)
unfolding whole_of
spell-whole n = ap (λ (l : List ℕ). l ++ spell_of n) (sym (plain-sign n))

-- a frame whose numbers the writer may be given: sides below 10^12, millimetres within ±10^15
pub record Written (f : Frame) : Type 0 where
  pub nx : nat_abs f.nx < 1000000000000
  pub ny : nat_abs f.ny < 1000000000000
  pub x : nat_abs f.x < 1000000000000000
  pub y : nat_abs f.y < 1000000000000000
  pub edge : nat_abs f.edge < 1000000000000000

pub thousand-whole : (z : ℤ) → is_whole (pos 1000 *ℤ z) ≡ true
thousand-whole z = eq-eqb (nat_abs (pos 1000 *ℤ z) % 1000) 0 (ap (λ (n : ℕ). n % 1000) (abs-mul (pos 1000) z) ∙ omega arith)

missing : List ℕ
missing = 45 ∷ 57 ∷ 57 ∷ 57 ∷ 57 ∷ []

missing-word : Each (of_kind Word) missing
unfolding missing
missing-word = (refl, (refl, (refl, (refl, (refl, tt)))))

missing-reads : checked Missing (number_of missing) ≡ Some (negsuc 9998999)
unfolding missing open-text open-number
missing-reads = refl

module _ (s : Sides) (t : Corner) (g : Written (frame_of s t)) (rest : List ℕ) where
  abbrev f : Frame
  f = frame_of s t

  l5 : List ℕ
  l5 = line_text (key_of Missing) missing rest

  l4 : List ℕ
  l4 = line_text (key_of Edge) (metres_of f.edge) l5

  l3 : List ℕ
  l3 = line_text (key_of South) (metres_of f.y) l4

  l2 : List ℕ
  l2 = line_text (key_of West) (metres_of f.x) l3

  l1 : List ℕ
  l1 = line_text (key_of Rows) (whole_of f.ny) l2

  l0 : List ℕ
  l0 = line_text (key_of Columns) (whole_of f.nx) l1

  is-l0 : header_text s t rest ≡ l0
  unfolding header_text l0 l1 l2 l3 l4 l5 missing
  is-l0 = ap₂ (λ (u v : List ℕ). line_text ncols u (line_text nrows v l2)) (spell-whole s.nx) (spell-whole s.ny)

  from-1 : from_line 1 l0 ≡ l1
  unfolding from_line l0
  from-1 = line-next Columns (whole_of f.nx) (whole_word f.nx g.nx) (whole-some f.nx g.nx) l1

  from-2 : from_line 2 l0 ≡ l2
  unfolding from_line l1
  from-2 = ap next_line from-1 ∙ line-next Rows (whole_of f.ny) (whole_word f.ny g.ny) (whole-some f.ny g.ny) l2

  from-3 : from_line 3 l0 ≡ l3
  unfolding from_line l2
  from-3 = ap next_line from-2 ∙ line-next West (metres_of f.x) (metres-word f.x g.x) (metres-some f.x) l3

  from-4 : from_line 4 l0 ≡ l4
  unfolding from_line l3
  from-4 = ap next_line from-3 ∙ line-next South (metres_of f.y) (metres-word f.y g.y) (metres-some f.y) l4

  from-5 : from_line 5 l0 ≡ l5
  unfolding from_line l4
  from-5 = ap next_line from-4 ∙ line-next Edge (metres_of f.edge) (metres-word f.edge g.edge) (metres-some f.edge) l5

  missing-some : 0 < length missing
  unfolding missing
  missing-some = omega arith

  from-6 : from_line 6 l0 ≡ rest
  unfolding from_line l5
  from-6 = ap next_line from-5 ∙ line-next Missing missing missing-word missing-some rest

  columns : entry_of Columns l0 ≡ Some (pos 1000 *ℤ f.nx)
  unfolding entry_of from_line l0
  columns =
      line_reads Columns (whole_of f.nx) (whole_word f.nx g.nx) (whole-some f.nx g.nx) l1
      ∙ ap (checked Columns) (whole-spell f.nx g.nx) ∙ simp (thousand-whole f.nx)

  rows : entry_of Rows l0 ≡ Some (pos 1000 *ℤ f.ny)
  unfolding entry_of l1
  rows =
      ap (line_value Rows) from-1
      ∙ line_reads Rows (whole_of f.ny) (whole_word f.ny g.ny) (whole-some f.ny g.ny) l2
      ∙ ap (checked Rows) (whole-spell f.ny g.ny) ∙ simp (thousand-whole f.ny)

  west : entry_of West l0 ≡ Some f.x
  unfolding entry_of l2
  west =
      ap (line_value West) from-2
      ∙ line_reads West (metres_of f.x) (metres-word f.x g.x) (metres-some f.x) l3
      ∙ ap (checked West) (metres-spell f.x g.x)

  south : entry_of South l0 ≡ Some f.y
  unfolding entry_of l3
  south =
      ap (line_value South) from-3
      ∙ line_reads South (metres_of f.y) (metres-word f.y g.y) (metres-some f.y) l4
      ∙ ap (checked South) (metres-spell f.y g.y)

  edge : entry_of Edge l0 ≡ Some f.edge
  unfolding entry_of l4
  edge =
      ap (line_value Edge) from-4
      ∙ line_reads Edge (metres_of f.edge) (metres-word f.edge g.edge) (metres-some f.edge) l5
      ∙ ap (checked Edge) (metres-spell f.edge g.edge)

  last : entry_of Missing l0 ≡ Some (negsuc 9998999)
  unfolding entry_of l5
  last = ap (line_value Missing) from-5 ∙ line_reads Missing missing missing-word missing-some rest ∙ missing-reads

  -- the header written is read, whatever rows follow it
  pub header-back : header_of (header_text s t rest) ≡ Ok (frame_of s t)
  header-back =
      ap header_of is-l0
      ∙ sym (header-so l0 columns rows west south edge last)
      ∙ (λ i. Ok (record { nx = quot-exact 1000 f.nx (omega arith) i; ny = quot-exact 1000 f.ny (omega arith) i; x = f.x; y = f.y; edge = f.edge }))

  -- and what follows are the rows
  pub rows_back : from_line 6 (header_text s t rest) ≡ rest
  rows_back = ap (from_line 6) is-l0 ∙ from-6
