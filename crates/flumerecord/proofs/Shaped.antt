-- The flume's sections in their order, and what a record whose sections all passed holds: the laws over any counts, with the flume's. Assumes nothing.
use mathlib.Core.Path.{◌≡◌, refl}
use mathlib.Core.Bool.{Bool, true}
use mathlib.Core.List.{List}
use Prim.Native.Nat.{ℕ, ◌*◌}
use lib.ListN.{length}
use Rattle.grid.specs.Answer.{Answer}
use Rattle.grid.specs.Answer.{Done}
use Rattle.grid.specs.State.{Lent}
use Rattle.grid.specs.Good.{bad_flag}
use Rattle.grid.specs.Outcome.{accepted, if_none}
use Rattle.grid.proofs.Accepted.{accepted-done}
use Rattle.flume.specs.Flume.{flume_sides_good, flume_grid}
use Rattle.record.specs.Places.{masses_from}
use Rattle.record.specs.Reading.{opens_on, fronts_on, ends_on}
use Rattle.record.proofs.Answers.{Chain, chain-both}
use Rattle.record.proofs.Sections.{chain-opens-on, chain-fronts-on, chain-shapes, shaped, fitted, shapes-pass}
use Rattle.flumerecord.specs.Layout.{flume_counts}
use Rattle.flumerecord.specs.Reading.{flume_sides_in, flume_cells_in, flume_flag_in, flume_interfaces_in, flume_liquids_in, flume_slices_fit, flume_shape, flume_content, flume_read_answer}
use Rattle.flumerecord.specs.inner.Passes.{FlumeSound}
use Rattle.grid.specs.declared.refusals.Refusal.TheVariants.{BadFlag}

module _ (r : List ℕ) (p m f k : ℕ) where
  abbrev good : Bool
  good = flume_sides_good (flume_sides_in r)

  abbrev fit : Bool
  fit = flume_slices_fit (flume_cells_in r) p m f k

  abbrev bad : ℕ
  bad = bad_flag (flume_grid (flume_sides_in r)) (flume_flag_in r)

  -- ---- the groups
  abbrev pub opens : Answer → Answer
  opens rest = opens_on r flume_counts (flume_sides_good (flume_sides_in r)) (flume_slices_fit (flume_cells_in r) p m f k) rest

  pub chain-opens : Chain opens
  chain-opens = chain-opens-on r flume_counts good fit

  pub shape_is : (rest : Answer)
      → flume_shape r p m f k rest ≡ opens (fronts_on r flume_counts 1 (flume_cells_in r) (if_none (flume_cells_in r) BadFlag (bad_flag (flume_grid (flume_sides_in r)) (flume_flag_in r)) (ends_on r (masses_from flume_counts 1 (flume_cells_in r)) (flume_interfaces_in r) (9 * flume_liquids_in r) rest)))
  unfolding flume_shape
  shape_is rest = refl

  pub chain-shape : Chain (flume_shape r p m f k)
  unfolding flume_shape
  chain-shape = chain-shapes r flume_counts 1 (flume_cells_in r) (flume_interfaces_in r) (9 * flume_liquids_in r) good fit bad

  -- what a record whose sections passed holds
  pub sound : accepted (flume_shape r p m f k Done) ≡ true → FlumeSound r
  unfolding flume_shape
  sound e = shaped r flume_counts 1 (flume_cells_in r) (flume_interfaces_in r) (9 * flume_liquids_in r) good fit bad e

  -- and the slices fit it
  pub fitting : accepted (flume_shape r p m f k Done) ≡ true → flume_slices_fit (flume_cells_in r) p m f k ≡ true
  unfolding flume_shape
  fitting e = fitted r flume_counts 1 (flume_cells_in r) (flume_interfaces_in r) (9 * flume_liquids_in r) good fit bad e

  -- and a record that holds them passes
  pub shape-passes : (rest : Answer) → FlumeSound r → flume_slices_fit (flume_cells_in r) p m f k ≡ true → flume_shape r p m f k rest ≡ rest
  unfolding flume_shape
  shape-passes rest s fits = shapes-pass r flume_counts 1 (flume_cells_in r) (flume_interfaces_in r) (9 * flume_liquids_in r) good fit bad rest s fits

pub chain-fronts : (r : List ℕ) (n : ℕ) → Chain (fronts_on r flume_counts 1 n)
chain-fronts r n = chain-fronts-on r flume_counts 1 n

-- an accepted record has passed them
pub shape-accepted : (r : List ℕ) (a : Lent) → accepted (flume_read_answer r a) ≡ true
    → accepted (flume_shape r (length a.parts) (length a.masses) (length a.fills) (length a.carry) Done) ≡ true
unfolding flume_read_answer
shape-accepted r a e =
    (chain-both (flume_shape r (length a.parts) (length a.masses) (length a.fills) (length a.carry)) (λ rest. flume_content r)
    (chain-shape r (length a.parts) (length a.masses) (length a.fills) (length a.carry)) e).0

pub content-accepted : (r : List ℕ) (a : Lent) → accepted (flume_read_answer r a) ≡ true → flume_content r ≡ Done
unfolding flume_read_answer
content-accepted r a e =
    accepted-done (flume_content r)
    (chain-both (flume_shape r (length a.parts) (length a.masses) (length a.fills) (length a.carry)) (λ rest. flume_content r)
    (chain-shape r (length a.parts) (length a.masses) (length a.fills) (length a.carry)) e).1
