-- What the reader of an invert answers, and what each lent slice then holds, for every input. Assumes nothing.
use Rattle.std.specs.Prelude.{◌≡◌, Bool, ◌&&◌, cond, List, ℕ, ◌*◌, eqb, ℤ, pos, negsuc, length, replicate, Result, Ok, Err}
use Rattle.lattice.specs.declared.Settings.{Settings}
use Rattle.grid.specs.declared.Sides.{Sides}
use Rattle.grid.specs.Answer.{Answer}
use Rattle.grid.specs.Answer.{Done}
use Rattle.grid.specs.Grid.{cells_of, sides_good}
use Rattle.grid.specs.State.{Lent, lent}
use Rattle.grid.specs.Outcome.{accepted, or_refuse}
use Rattle.record.specs.declared.Site.{Site}
use Rattle.record.specs.declared.Head.{Head}
use Rattle.record.specs.Layout.{site_good}
use Rattle.record.specs.Reading.{refused_head}
use Rattle.index.specs.Index.{Index, index, words_of}
use Rattle.heights.specs.declared.header.Frame.{Frame}
use Rattle.numerals.specs.Text.{from_line}
use Rattle.heights.specs.Header.{header_of}
use Rattle.heights.specs.Rows.{rows_of}
use Rattle.invert.specs.declared.testing.Lengths.{Lengths}
use Rattle.solids.specs.Invert.{invert_flags}
use Rattle.grid.specs.declared.refusals.Refusal.TheVariants.{BadHeader, BadLength, BadRow, BadSetting, BadSides}

-- ---- the grid that header and host say

-- a header's number as a count: a negative one is 0, which is out of every range
abbrev pub count_of : ℤ → ℕ
count_of (pos n) = n
count_of (negsuc n) = 0

abbrev pub sides_of : Frame → ℕ → Sides
sides_of f nz = record { nx = count_of f.nx; ny = count_of f.ny; nz = nz }

abbrev pub site_of : Frame → ℤ → Site
site_of f oz = record { edge = f.edge; x = f.x; y = f.y; z = oz }

-- ---- the tests

-- 2: N flags, 19N parts, N masses, N fills, three totals; W words and a count
unfoldable pub set_fits : ℕ → Lengths → Bool
set_fits n l =
    (eqb l.carry 3 && (eqb l.flags n && eqb l.parts (19 * n) && eqb l.masses n && eqb l.fills n))
    && (eqb l.words (words_of n) && eqb l.count 1)

-- 1, 2, 3
unfoldable pub given_answer : Sides → Settings → Site → Lengths → Answer → Answer
given_answer s g t l rest = or_refuse (sides_good s) BadSides (or_refuse (set_fits (cells_of s) l) BadLength (or_refuse (site_good g t) (BadSetting 0) rest))

-- 20 at the first line that is not as it should be
abbrev pub rows_answer : Result (Unit {0}) ℕ → Answer
rows_answer (Ok u) = Done
rows_answer (Err i) = Err (BadRow i)

-- all behind 19: the rows stand from line 7 on
unfoldable pub grid_answer : List ℕ → Sides → Settings → Site → Lengths → Answer
grid_answer text s g t l = given_answer s g t l (rows_answer (rows_of s.ny s.nx (from_line 6 text) 7))

-- ---- the outcome

-- values returned beside a refusal are 0
abbrev pub told_head : Answer → Sides → Settings → Site → Head
told_head a s g t = cond (accepted a) (record { answer = Done; sides = s; settings = g; site = t }) (refused_head a)

-- 19 at the first header line that is not as it should be, else what follows
abbrev pub head_by : Result Frame ℕ → List ℕ → ℕ → ℤ → Settings → Lengths → Head
head_by (Err i) text nz oz g l = refused_head (Err (BadHeader i))
head_by (Ok f) text nz oz g l = told_head (grid_answer text (sides_of f nz) g (site_of f oz) l) (sides_of f nz) g (site_of f oz)

unfoldable pub read_head : List ℕ → ℕ → ℤ → Settings → Lengths → Head
read_head text nz oz g l = head_by (header_of text) text nz oz g l

-- the grid of an invert: its walls, and no water
unfoldable pub dry : ℕ → List ℕ → Lent
dry n flags = lent flags (replicate (19 * n) (pos 0)) (replicate n (pos 0)) (replicate n 0) (replicate 3 (pos 0))

unfoldable pub dry_index : ℕ → Index
dry_index n = index (replicate (words_of n) 0) (replicate 1 0)

-- what the lent set and index hold beside such an answer: the grid read, or what they held
unfoldable pub set_by : Head → List ℕ → Lent → Lent
set_by h text a = cond (accepted h.answer) (dry (cells_of h.sides) (invert_flags h.sides (count_of h.site.edge) (from_line 6 text))) a

unfoldable pub index_by : Head → Index → Index
index_by h x = cond (accepted h.answer) (dry_index (cells_of h.sides)) x

abbrev pub lengths_of : Lent → Index → Lengths
lengths_of a x = record { flags = length a.flags; parts = length a.parts; masses = length a.masses; fills = length a.fills; carry = length a.carry; words = length x.words; count = length x.count }

-- the reader, lent set a and index x: its answer, and what both then are
pub record Inverted (text : List ℕ) (nz : ℕ) (oz : ℤ) (g : Settings) (a : Lent) (x : Index) (h : Head) (b : Lent) (y : Index) : Type 0 where
  pub head-is : h ≡ read_head text nz oz g (lengths_of a x)
  pub set_is : b ≡ set_by (read_head text nz oz g (lengths_of a x)) text a
  pub index_is : y ≡ index_by (read_head text nz oz g (lengths_of a x)) x

-- names every definition of this file: whoever unfolds this computes with all of them
unfoldable pub open-outcome : Unit {0}
unfolding set_fits given_answer grid_answer read_head dry dry_index set_by index_by
open-outcome = tt
