-- An accepted record whose section 4 has three numbers is written back as the same bytes: what the reader hands back, with the slices that it filled,
-- has the record r itself as its record. One with a single number there gets the count 3 and sixteen bytes of 0 behind its carry, and nothing else changes.
-- The one idea: each number of the record is the part of r that it was read from, and parts that follow each other join. Assumes nothing.
use mathlib.Core.Path.{◌≡◌, refl, sym, ap, ap₂, ◌∙◌}
use mathlib.Core.Bool.{true, cond}
use mathlib.Core.List.{List, [], ◌++◌, append_assoc}
use mathlib.Core.Logic.{⊎_elim}
use Prim.Native.Nat.{ℕ, ◌+◌, ◌≤◌, ◌<◌}
use native.Mathlib.Omega.{arith}
use lib.Dec.{eqb}
use lib.IntN.{ℤ, pos}
use lib.ListN.{length, take, drop, replicate}
use Rattle.lattice.specs.Lattice.{d3q19, density}
use Rattle.grid.specs.Answer.{Done}
use Rattle.grid.specs.Outcome.{accepted}
use Rattle.grid.specs.State.{Lent, lent, state_of, lent_of, by_flag}
use Rattle.grid.proofs.Accepted.{done-accepted}
use Rattle.grid.proofs.Listed.{same-listed}
use Rattle.record.specs.Bytes.{bytes_of, part, i64_at, u32_of, i64_of, join}
use Rattle.record.specs.Places.{counts, totals_from, cells_from}
use Rattle.record.specs.Layout.{site_bytes, totals_bytes, head_bytes, cells_bytes, record_of}
use Rattle.record.specs.Reading.{sides_in, settings_in, site_in, totals_in, carry_in, poured_in, taken_in, cells_in, flags_in, flag_in, interfaces_in, liquids_in, mass_at, part_at, mass_in, part_in, state_in, read_answer, read_head, read_flags, read_set}
use Rattle.record.specs.Back.{written_back}
use Rattle.record.specs.inner.Passes.{Sound}
use Rattle.record.proofs.Numbers.{Bytes}
use Rattle.record.proofs.Shaped.{sound, shape-accepted}
use Rattle.record.proofs.FlagPart.{totals-cases}
use Rattle.record.proofs.Again.{joined, word-again, int-again, long-again, count-again, There, cells_rest, whole_again}
use Rattle.record.proofs.ByFlag.{by-liquid}

-- one number made three
abbrev upgraded : List ℕ → List ℕ
upgraded r = take (totals_from counts) r ++ (u32_of 3 ++ (part 8 (totals_from counts + 4) r ++ (replicate 16 0 ++ drop (cells_from counts 1) r)))

one-upgraded : (r : List ℕ) → totals_in r ≡ 1 → written_back r ≡ upgraded r
unfolding written_back
one-upgraded r e = ap (λ (n : ℕ). cond (eqb n 3) r (upgraded r)) e

-- the grid that the reader hands back
abbrev pub grid_read : List ℕ → Lent → Lent
grid_read r b = lent (read_flags r b) (read_set r b).parts (read_set r b).masses (read_set r b).fills (read_set r b).carry

-- the claim
abbrev pub Claim : Type 0
Claim = (r : List ℕ) (b : Lent) → Bytes r → read_answer r b ≡ Done → record_of (read_head r b).sides (read_head r b).settings (read_head r b).site (grid_read r b) ≡ written_back r

-- with three numbers, the same bytes
pub three-same : (r : List ℕ) → totals_in r ≡ 3 → written_back r ≡ r
unfolding written_back
three-same r e = ap (λ (n : ℕ). cond (eqb n 3) r (upgraded r)) e

module _ (r : List ℕ) (bytes : Bytes r) where
  -- ---- sections 1 to 3
  head-again : Sound r → site_bytes (sides_in r) (settings_in r) (site_in r) ≡ part (totals_from counts) 0 r
  unfolding site_bytes join sides_in settings_in site_in
  head-again s =
      let h = s.origin.inside in
      let one = joined r 0 4 4 12 refl (count-again r bytes 0 3 4 s.first) (joined r 4 4 8 8 refl (word-again r bytes 4 (omega arith)) (joined r 8 4 12 4 refl (word-again r bytes 8 (omega arith)) (joined r 12 4 16 0 refl (word-again r bytes 12 (omega arith)) refl))) in
      let two =
      joined r 16 4 20 20 refl (count-again r bytes 16 5 4 s.settings)
      (joined r 20 4 24 16 refl (int-again r bytes 20 (omega arith))
      (joined r 24 4 28 12 refl (int-again r bytes 24 (omega arith))
      (joined r 28 4 32 8 refl (int-again r bytes 28 (omega arith)) (joined r 32 4 36 4 refl (int-again r bytes 32 (omega arith)) (joined r 36 4 40 0 refl (int-again r bytes 36 (omega arith)) refl))))) in
      let three =
      joined r 40 4 44 24 refl (count-again r bytes 40 3 8 s.origin)
      (joined r 44 8 52 16 refl (long-again r bytes 44 (omega arith)) (joined r 52 8 60 8 refl (long-again r bytes 52 (omega arith)) (joined r 60 8 68 0 refl (long-again r bytes 60 (omega arith)) refl))) in
      joined r 0 16 16 52 refl one (joined r 16 24 40 28 refl two (joined r 40 28 68 0 refl three refl))

  -- ---- section 4, with three numbers and with one
  three-again : Sound r → totals_in r ≡ 3 → totals_bytes (carry_in r) (poured_in r) (taken_in r) ≡ part 28 (totals_from counts) r
  unfolding totals_bytes join carry_in poured_in taken_in
  three-again s e =
      let h = s.totals.inside in
      let count : u32_of 3 ≡ part 4 68 r = ap u32_of (sym e) ∙ count-again r bytes 68 (totals_in r) 8 s.totals in
      let poured : i64_of (cond (eqb (totals_in r) 3) (i64_at r 80) (pos 0)) ≡ part 8 80 r = ap (λ (n : ℕ). i64_of (cond (eqb n 3) (i64_at r 80) (pos 0))) e ∙ long-again r bytes 80 (omega arith) in
      let taken : i64_of (cond (eqb (totals_in r) 3) (i64_at r 88) (pos 0)) ≡ part 8 88 r = ap (λ (n : ℕ). i64_of (cond (eqb n 3) (i64_at r 88) (pos 0))) e ∙ long-again r bytes 88 (omega arith) in
      joined r 68 4 72 24 refl count (joined r 72 8 80 16 refl (long-again r bytes 72 (omega arith)) (joined r 80 8 88 8 refl poured (joined r 88 8 96 0 refl taken refl)))

  one_again : Sound r → totals_in r ≡ 1 → totals_bytes (carry_in r) (poured_in r) (taken_in r) ≡ u32_of 3 ++ (part 8 (totals_from counts + 4) r ++ replicate 16 0)
  unfolding totals_bytes join carry_in poured_in taken_in bytes_of
  one_again s e =
      let h = s.totals.inside in
      let none : (z : ℤ) → i64_of (cond (eqb (totals_in r) 3) z (pos 0)) ≡ replicate 8 0 = λ z. ap (λ (n : ℕ). i64_of (cond (eqb n 3) z (pos 0))) e in
      ap₂ (λ (x y : List ℕ). u32_of 3 ++ (x ++ y)) (long-again r bytes 72 (omega arith)) (ap₂ (λ (x y : List ℕ). x ++ (y ++ [])) (none (i64_at r 80)) (none (i64_at r 88)))

  -- ---- masses and parts of the state, as its lists hold them
  module _ (s : Sound r) (mass : ℕ → ℤ) (p : ℕ → ℕ → ℤ) (ms : (c : ℕ) → c < cells_in r → mass c ≡ mass_in r c) (ps : (c k : ℕ) → c < cells_in r → k ≤ 18 → p c k ≡ part_in r c k) where
    abbrev N : ℕ
    N = cells_in r

    abbrev K : ℕ
    K = totals_in r

    there : There r bytes counts K N mass p
    unfolding interfaces_in liquids_in flag_in flags_in mass_in mass_at part_in part_at
    there = record {
      flags = s.flags;
      masses = s.masses;
      parts = s.parts;
      end = s.end;
      mass-is = λ c h e. ms c h ∙ ap (λ (f : ℕ). by_flag f (pos 0) (mass_at r c) (density d3q19 (part_in r c)) (pos 0)) e;
      part-is = λ c j h l e. ps c j h (omega arith) ∙ by-liquid (flag_in r c) (part_at r c j) e;
    }

    abbrev written : List ℕ
    written = head_bytes (sides_in r) (settings_in r) (site_in r) (carry_in r) (poured_in r) (taken_in r) ++ cells_bytes N (flags_in r) mass p

    -- with the first four the whole record
    whole-three : K ≡ 3 → written ≡ r
    unfolding head_bytes flags_in
    whole-three e =
        whole_again r bytes counts K N mass p there (head_bytes (sides_in r) (settings_in r) (site_in r) (carry_in r) (poured_in r) (taken_in r))
        (joined r 0 68 68 28 refl (head-again s) (three-again s e) ∙ ap (λ (k : ℕ). part (cells_from counts k) 0 r) (sym e))

    whole-more : K ≡ 1 → written ≡ upgraded r
    unfolding head_bytes flags_in
    whole-more e =
        ap₂ (λ (x y : List ℕ). (x ++ y) ++ cells_bytes N (flags_in r) mass p) (head-again s) (one_again s e)
        ∙ ap (λ (z : List ℕ). (take 68 r ++ (u32_of 3 ++ (part 8 72 r ++ replicate 16 0))) ++ z) (cells_rest r bytes counts K N mass p there ∙ ap (λ (k : ℕ). drop (cells_from counts k) r) e)
        ∙ append_assoc (take 68 r) (u32_of 3 ++ (part 8 72 r ++ replicate 16 0)) (drop 80 r)
        ∙ ap (λ (z : List ℕ). take 68 r ++ z) (append_assoc (u32_of 3) (part 8 72 r ++ replicate 16 0) (drop 80 r) ∙ ap (λ (z : List ℕ). u32_of 3 ++ z) (append_assoc (part 8 72 r) (replicate 16 0) (drop 80 r)))

    back : written ≡ written_back r
    back = ⊎_elim (λ e. whole-more e ∙ sym (one-upgraded r e)) (λ e. whole-three e ∙ sym (three-same r e)) (totals-cases r)

pub same_bytes : Claim
unfolding read_head read_flags read_set record_of state_of lent_of state_in carry_in cells_in
same_bytes r b bytes done =
    let ok : accepted (read_answer r b) ≡ true = done-accepted (read_answer r b) done in
    let same = same-listed 18 (cells_in r) (state_in r) in
    let s = sound r (length b.parts) (length b.masses) (length b.fills) (length b.carry) (shape-accepted r b ok) in
    rw ok
    (back r bytes s (state_of 18 (lent_of 18 (cells_in r) (state_in r))).mass (state_of 18 (lent_of 18 (cells_in r) (state_in r))).part
    (λ c h. sym (same.masses c h)) (λ c k h l. sym (same.parts c k h l)))
