-- Case F's record of document 02, and what reader and writer answer of it: what the definitions give, and what the document says. Assumes nothing.
use Rattle.std.specs.Prelude.{Bool, true, false, ◌&&◌, cond, List, [], ◌∷◌, ◌++◌, ℕ, zero, suc, eqb, leb, pos, length, take, replicate}
use Rattle.grid.specs.Answer.{Answer}
use Rattle.grid.specs.Outcome.{number_of, place_of}
use Rattle.grid.specs.State.{Lent, lent}
use Rattle.flume.specs.Cases.{square, falling, case_f}
use Rattle.record.specs.Bytes.{u32_at}
use Rattle.record.specs.Places.{settings_from, origin_from, totals_from, cells_from, masses_from, parts_from}
use Rattle.flumerecord.specs.declared.FlumeSite.{FlumeSite}
use Rattle.flumerecord.specs.Layout.{flume_counts, flume_record_of, flume_record_length}
use Rattle.flumerecord.specs.Reading.{flume_read_answer}
use Rattle.flumerecord.specs.Writing.{flume_write_answer}

-- case F's edge is 50 mm, its origin (0, 0)
abbrev pub plain : FlumeSite
plain = record { edge = pos 50; x = pos 0; z = pos 0 }

abbrev pub record_f : List ℕ
record_f = flume_record_of (square 3) falling plain case_f

-- slices for nine cells
abbrev pub slices : Lent
slices = lent [] (replicate 81 (pos 0)) (replicate 9 (pos 0)) (replicate 9 0) (pos 0 ∷ [])

-- where the counts stand, and the end
abbrev pub places : List ℕ
places = 0 ∷ settings_from flume_counts ∷ origin_from flume_counts ∷ totals_from flume_counts ∷ cells_from flume_counts 1 ∷ masses_from flume_counts 1 9 ∷ parts_from flume_counts 1 9 1 ∷ []

-- the largest of the places not above k
abbrev pub highest : List ℕ → ℕ → ℕ → ℕ
highest [] k best = best
highest (p ∷ ps) k best = highest ps k (cond (leb p k) p best)

abbrev pub says : Answer → ℕ → ℕ → Bool
says a number place = eqb (number_of a) number && eqb (place_of a) place

-- every prefix of k < n bytes is 10 at the largest of the places not above k
abbrev pub prefixes : ℕ → Bool
prefixes zero = true
prefixes (suc k) = prefixes k && says (flume_read_answer (take k record_f) slices) 10 (highest places k 0)

-- the counts that it holds: 2, 4, 2, 1, 9, 1, 9
abbrev pub counts_in : List ℕ → List ℕ → Bool
counts_in [] [] = true
counts_in [] (n ∷ ns) = false
counts_in (p ∷ ps) [] = false
counts_in (p ∷ ps) (n ∷ ns) = eqb (u32_at record_f p) n && counts_in ps ns

abbrev same : List ℕ → List ℕ → Bool
same [] [] = true
same [] (y ∷ ys) = false
same (x ∷ xs) [] = false
same (x ∷ xs) (y ∷ ys) = eqb x y && same xs ys

-- the table: 125 bytes, counts at 0, 12, 32, 52, 64, 77, 85; a byte more is 10 at 125; room for 124 is 12 at 125, room for 125 suffices
abbrev pub figures : Bool
figures =
    eqb (length record_f) 125 && eqb (flume_record_length (square 3) case_f) 125
    && same places (0 ∷ 12 ∷ 32 ∷ 52 ∷ 64 ∷ 77 ∷ 85 ∷ [])
    && counts_in places (2 ∷ 4 ∷ 2 ∷ 1 ∷ 9 ∷ 1 ∷ 9 ∷ [])
    && says (flume_read_answer (record_f ++ (0 ∷ [])) slices) 10 125
    && says (flume_write_answer (square 3) falling plain case_f (replicate 124 0)) 12 125
