-- What an accepted record is written back as. Assumes nothing.
use Rattle.std.specs.Prelude.{ℕ, ◌+◌, cond, List, ◌++◌, eqb, take, drop, replicate}
use Rattle.record.specs.Bytes.{part, u32_of}
use Rattle.record.specs.Places.{counts, totals_from, cells_from}
use Rattle.record.specs.Reading.{totals_in}

-- with three numbers in section 4 the same bytes; with one its first 68 bytes, the count 3, its carry, sixteen bytes of 0, and the rest
unfoldable pub written_back : List ℕ → List ℕ
written_back r =
    cond (eqb (totals_in r) 3) r
    (take (totals_from counts) r ++ (u32_of 3 ++ (part 8 (totals_from counts + 4) r ++ (replicate 16 0 ++ drop (cells_from counts 1) r))))
