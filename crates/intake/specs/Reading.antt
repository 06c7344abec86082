-- What the reader answers, and what the lent slices and the index then hold, for every input: as the record's reader has it, with the index's lengths in
-- test 2. Assumes nothing.
use Rattle.std.specs.Prelude.{◌&&◌, cond, List, [], ℕ, length}
use Rattle.grid.specs.Answer.{Answer}
use Rattle.grid.specs.Grid.{sides_good}
use Rattle.grid.specs.Outcome.{accepted, or_refuse}
use Rattle.record.specs.declared.Head.{Head}
use Rattle.record.specs.Reading.{sides_in, cells_in, whole, slices_fit, refused_head}
use Rattle.record.specs.Reading as base
use Rattle.index.specs.Index.{Index, index_of, index_sized}
use Rattle.index.specs.Held.{Held, held}
use Rattle.grid.specs.declared.refusals.Refusal.TheVariants.{BadLength, BadSides}

-- section 1, then test 1, and test 2 of the four slices and the index
unfoldable pub open_answer : List ℕ → ℕ → ℕ → ℕ → ℕ → Index → Answer → Answer
open_answer r parts masses fills carry x rest =
    whole r 1 0 3 4
    (or_refuse (sides_good (sides_in r)) BadSides
    (or_refuse (slices_fit (cells_in r) parts masses fills carry && index_sized (cells_in r) x) BadLength rest))

-- then all else, in the order of the record's reader; what it tests again has passed
unfoldable pub read_answer : List ℕ → Held → Answer
read_answer r a =
    open_answer r (length a.set.parts) (length a.set.masses) (length a.set.fills) (length a.set.carry) a.index (base.read_answer r a.set)

-- the answer with sides, settings and origin; values returned beside a refusal are 0
unfoldable pub read_head : List ℕ → Held → Head
read_head r a = cond (accepted (read_answer r a)) (base.read_head r a.set) (refused_head (read_answer r a))

-- the flag section, the caller's own bytes from `flags_from` on; beside a refusal it is empty
unfoldable pub flags_from : List ℕ → Held → ℕ
flags_from r a = cond (accepted (read_answer r a)) (base.flags_from r a.set) 0

unfoldable pub read_flags : List ℕ → Held → List ℕ
read_flags r a = cond (accepted (read_answer r a)) (base.read_flags r a.set) []

-- the lent slices and the index: the state read and the index of the flags read, or untouched; `flags` is no part of them
unfoldable pub read_held : List ℕ → Held → Held
read_held r a = cond (accepted (read_answer r a)) (held (base.read_set r a.set) (index_of (cells_in r) (base.read_flags r a.set))) a

-- names every definition of this file: whoever unfolds this computes with all of them
unfoldable pub open-reading : Unit {0}
unfolding open_answer read_answer read_head flags_from read_flags read_held
open-reading = tt
