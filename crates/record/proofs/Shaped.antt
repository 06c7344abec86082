-- The grid record's sections in their order, in four groups, and what one whose sections all passed holds: the laws over any counts, with its own.
-- Assumes nothing.
use mathlib.Core.Path.{◌≡◌, refl}
use mathlib.Core.Bool.{Bool, true}
use mathlib.Core.List.{List}
use Prim.Native.Nat.{ℕ, ◌*◌}
use lib.ListN.{length}
use Rattle.grid.specs.Answer.{Answer}
use Rattle.grid.specs.Answer.{Done}
use Rattle.grid.specs.Grid.{sides_good, grid_of}
use Rattle.grid.specs.State.{Lent}
use Rattle.grid.specs.Good.{bad_flag}
use Rattle.grid.specs.Outcome.{accepted, if_none}
use Rattle.grid.proofs.Accepted.{accepted-done}
use Rattle.record.specs.Places.{counts, settings_from, origin_from, totals_from, cells_from}
use Rattle.record.specs.Reading.{opens_on, fronts_on, slices_fit, sides_in, totals_in, cells_in, flag_in, interfaces_in, liquids_in, shape_answer, content_answer, read_answer}
use Rattle.record.specs.inner.Behind.{ends, behind_flags}
use Rattle.record.specs.Bytes.{Held}
use Rattle.record.specs.inner.Passes.{Sound}
use Rattle.record.proofs.Answers.{Chain, chain-both}
use Rattle.record.proofs.Sections.{chain-opens-on, chain-fronts-on, opened-on, fronted-on, chain-shapes, shaped, fitted, shapes-pass}
use Rattle.grid.specs.declared.refusals.Refusal.TheVariants.{BadFlag}

-- ---- the groups
abbrev pub opens : List ℕ → ℕ → ℕ → ℕ → ℕ → Answer → Answer
opens r p m f k rest = opens_on r counts (sides_good (sides_in r)) (slices_fit (cells_in r) p m f k) rest

abbrev pub fronts : List ℕ → ℕ → Answer → Answer
fronts r n rest = fronts_on r counts (totals_in r) n rest

abbrev pub flagged : List ℕ → Answer → Answer
flagged r rest = if_none (cells_in r) BadFlag (bad_flag (grid_of (sides_in r)) (flag_in r)) rest

pub chain-opens : (r : List ℕ) (p m f k : ℕ) → Chain (opens r p m f k)
chain-opens r p m f k = chain-opens-on r counts (sides_good (sides_in r)) (slices_fit (cells_in r) p m f k)

pub chain-fronts : (r : List ℕ) (n : ℕ) → Chain (fronts r n)
chain-fronts r n = chain-fronts-on r counts (totals_in r) n

pub opened : (r : List ℕ) (p m f k : ℕ) → accepted (opens r p m f k Done) ≡ true
    → Held r 0 counts.sides 4 × (sides_good (sides_in r) ≡ true) × (slices_fit (cells_in r) p m f k ≡ true)
opened r p m f k e = opened-on r counts (sides_good (sides_in r)) (slices_fit (cells_in r) p m f k) e

pub fronted : (r : List ℕ) (n : ℕ) → accepted (fronts r n Done) ≡ true
    → Held r (settings_from counts) counts.settings 4 × Held r (origin_from counts) counts.origin 8 × Held r (totals_from counts) (totals_in r) 8 × Held r (cells_from counts (totals_in r)) n 1
fronted r n e = fronted-on r counts (totals_in r) n e

-- ---- all of them
module _ (r : List ℕ) (p m f k : ℕ) where
  abbrev good : Bool
  good = sides_good (sides_in r)

  abbrev fit : Bool
  fit = slices_fit (cells_in r) p m f k

  abbrev bad : ℕ
  bad = bad_flag (grid_of (sides_in r)) (flag_in r)

  pub shape_is : (rest : Answer)
      → shape_answer r p m f k rest ≡ opens r p m f k (fronts r (cells_in r) (flagged r (ends r (behind_flags r) (interfaces_in r) (liquids_in r) rest)))
  unfolding shape_answer
  shape_is rest = refl

  pub chain-shape : Chain (shape_answer r p m f k)
  unfolding shape_answer
  chain-shape = chain-shapes r counts (totals_in r) (cells_in r) (interfaces_in r) (19 * liquids_in r) good fit bad

  -- what a record whose sections passed holds
  pub sound : accepted (shape_answer r p m f k Done) ≡ true → Sound r
  unfolding shape_answer
  sound e = shaped r counts (totals_in r) (cells_in r) (interfaces_in r) (19 * liquids_in r) good fit bad e

  -- and the slices fit it
  pub fitting : accepted (shape_answer r p m f k Done) ≡ true → slices_fit (cells_in r) p m f k ≡ true
  unfolding shape_answer
  fitting e = fitted r counts (totals_in r) (cells_in r) (interfaces_in r) (19 * liquids_in r) good fit bad e

  -- and a record that holds them passes
  pub shape-passes : (rest : Answer) → Sound r → slices_fit (cells_in r) p m f k ≡ true → shape_answer r p m f k rest ≡ rest
  unfolding shape_answer
  shape-passes rest s fits = shapes-pass r counts (totals_in r) (cells_in r) (interfaces_in r) (19 * liquids_in r) good fit bad rest s fits

-- an accepted record has passed them
pub shape-accepted : (r : List ℕ) (a : Lent) → accepted (read_answer r a) ≡ true
    → accepted (shape_answer r (length a.parts) (length a.masses) (length a.fills) (length a.carry) Done) ≡ true
unfolding read_answer
shape-accepted r a e =
    (chain-both (shape_answer r (length a.parts) (length a.masses) (length a.fills) (length a.carry)) (λ rest. content_answer r)
    (chain-shape r (length a.parts) (length a.masses) (length a.fills) (length a.carry)) e).0

pub content-accepted : (r : List ℕ) (a : Lent) → accepted (read_answer r a) ≡ true → content_answer r ≡ Done
unfolding read_answer
content-accepted r a e =
    accepted-done (content_answer r)
    (chain-both (shape_answer r (length a.parts) (length a.masses) (length a.fills) (length a.carry)) (λ rest. content_answer r)
    (chain-shape r (length a.parts) (length a.masses) (length a.fills) (length a.carry)) e).1
