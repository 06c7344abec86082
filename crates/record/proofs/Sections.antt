-- The reader's sections in their order over any counts, in four groups, and what a record whose sections all passed holds: each section's count and
-- bytes, good sides, slices that fit, flags that passed test 4, and no byte past the end. Assumes nothing.
use mathlib.Core.Path.{◌≡◌, ◌∙◌}
use mathlib.Core.Bool.{Bool, true}
use mathlib.Core.List.{List}
use Prim.Native.Nat.{ℕ}
use lib.Dec.{leb}
use lib.ListN.{length}
use borrow.Author.Tests.{leb-true, le-leb}
use Rattle.grid.specs.Answer.{Answer}
use Rattle.grid.specs.Answer.{Done}
use Rattle.grid.specs.Outcome.{accepted, or_refuse, if_none}
use Rattle.record.specs.declared.Counts.{Counts}
use Rattle.record.specs.Places.{past, settings_from, origin_from, totals_from, cells_from, masses_from}
use Rattle.record.specs.Reading.{whole, opens_on, fronts_on, ends_on, shapes_on}
use Rattle.record.specs.Bytes.{Held}
use Rattle.record.specs.inner.Passes.{Shaped}
use Rattle.record.proofs.Answers.{whole-held, Chain, chain-or, chain-whole, chain-both, chain-then, or-true, or-pass, whole-there}
use Rattle.grid.specs.declared.refusals.Refusal.TheVariants.{BadEnd, BadFlag, BadLength, BadSides}

-- ---- each group passes the rest on, or answers itself
module _ (r : List ℕ) (K : Counts) where
  pub chain-opens-on : (good fit : Bool) → Chain (opens_on r K good fit)
  chain-opens-on good fit =
      chain-then (whole r 1 0 K.sides 4) (λ rest. or_refuse good BadSides (or_refuse fit BadLength rest)) (chain-whole r 1 0 K.sides 4)
      (chain-then (or_refuse good BadSides) (or_refuse fit BadLength) (chain-or good BadSides) (chain-or fit BadLength))

  pub chain-fronts-on : (k n : ℕ) → Chain (fronts_on r K k n)
  chain-fronts-on k n =
      let two = whole r 2 (settings_from K) K.settings 4 in
      let three = whole r 3 (origin_from K) K.origin 8 in
      let four = whole r 4 (totals_from K) k 8 in
      let five = whole r 5 (cells_from K k) n 1 in
      chain-then two (λ rest. three (four (five rest))) (chain-whole r 2 (settings_from K) K.settings 4)
      (chain-then three (λ rest. four (five rest)) (chain-whole r 3 (origin_from K) K.origin 8)
      (chain-then four five (chain-whole r 4 (totals_from K) k 8) (chain-whole r 5 (cells_from K k) n 1)))

  -- what the first two show when they pass
  pub opened-on : (good fit : Bool) → accepted (opens_on r K good fit Done) ≡ true → Held r 0 K.sides 4 × (good ≡ true) × (fit ≡ true)
  opened-on good fit e =
      let one = chain-both (whole r 1 0 K.sides 4) (λ rest. or_refuse good BadSides (or_refuse fit BadLength rest)) (chain-whole r 1 0 K.sides 4) e in
      let tests = chain-both (or_refuse good BadSides) (or_refuse fit BadLength) (chain-or good BadSides) one.1 in
      (whole-held r 1 0 K.sides 4 one.0, or-true good BadSides tests.0, or-true fit BadLength tests.1)

  pub fronted-on : (k n : ℕ) → accepted (fronts_on r K k n Done) ≡ true
      → Held r (settings_from K) K.settings 4 × Held r (origin_from K) K.origin 8 × Held r (totals_from K) k 8 × Held r (cells_from K k) n 1
  fronted-on k n e =
      let second = whole r 2 (settings_from K) K.settings 4 in
      let third = whole r 3 (origin_from K) K.origin 8 in
      let fourth = whole r 4 (totals_from K) k 8 in
      let fifth = whole r 5 (cells_from K k) n 1 in
      let two = chain-both second (λ rest. third (fourth (fifth rest))) (chain-whole r 2 (settings_from K) K.settings 4) e in
      let three = chain-both third (λ rest. fourth (fifth rest)) (chain-whole r 3 (origin_from K) K.origin 8) two.1 in
      let four = chain-both fourth fifth (chain-whole r 4 (totals_from K) k 8) three.1 in (
        whole-held r 2 (settings_from K) K.settings 4 two.0,
        whole-held r 3 (origin_from K) K.origin 8 three.0,
        whole-held r 4 (totals_from K) k 8 four.0,
        whole-held r 5 (cells_from K k) n 1 four.1,
      )

pub chain-ends-on : (r : List ℕ) (from i m : ℕ) → Chain (ends_on r from i m)
chain-ends-on r from i m =
    let parts = past from 4 i in
    let end = past parts 4 m in
    chain-then (whole r 6 from i 4) (λ rest. whole r 7 parts m 4 (or_refuse (leb (length r) end) (BadEnd end) rest)) (chain-whole r 6 from i 4)
    (chain-then (whole r 7 parts m 4) (or_refuse (leb (length r) end) (BadEnd end)) (chain-whole r 7 parts m 4) (chain-or (leb (length r) end) (BadEnd end)))

-- ---- all of them
module _ (r : List ℕ) (K : Counts) (k n i m : ℕ) (good fit : Bool) (bad : ℕ) where
  abbrev back : Answer → Answer
  back rest = if_none n BadFlag bad (ends_on r (masses_from K k n) i m rest)

  chain_back : Chain back
  chain_back = chain-then (if_none n BadFlag bad) (ends_on r (masses_from K k n) i m) (chain-or (leb n bad) (BadFlag bad)) (chain-ends-on r (masses_from K k n) i m)

  pub chain-shapes : Chain (shapes_on r K k n i m good fit bad)
  chain-shapes =
      chain-then (opens_on r K good fit) (λ rest. fronts_on r K k n (back rest)) (chain-opens-on r K good fit)
      (chain-then (fronts_on r K k n) back (chain-fronts-on r K k n) chain_back)

  module _ (e : accepted (shapes_on r K k n i m good fit bad Done) ≡ true) where
    -- what a record whose sections passed holds
    pub shaped : Shaped r K k n i m good bad
    shaped =
        let from = masses_from K k n in
        let parts = past from 4 i in
        let last = past parts 4 m in
        let end = leb (length r) last in
        let all = chain-both (opens_on r K good fit) (λ rest. fronts_on r K k n (back rest)) (chain-opens-on r K good fit) e in
        let one = opened-on r K good fit all.0 in
        let later = chain-both (fronts_on r K k n) back (chain-fronts-on r K k n) all.1 in
        let two = fronted-on r K k n later.0 in
        let tested = chain-both (if_none n BadFlag bad) (ends_on r from i m) (chain-or (leb n bad) (BadFlag bad)) later.1 in
        let six = chain-both (whole r 6 from i 4) (λ rest. whole r 7 parts m 4 (or_refuse end (BadEnd last) rest)) (chain-whole r 6 from i 4) tested.1 in
        let seven = chain-both (whole r 7 parts m 4) (or_refuse end (BadEnd last)) (chain-whole r 7 parts m 4) six.1 in
        record {
          first = one.0;
          sides = one.1;
          settings = two.0;
          origin = two.1;
          totals = two.2;
          flags = two.3;
          tested = leb-true n bad (or-true (leb n bad) (BadFlag bad) tested.0);
          masses = whole-held r 6 from i 4 six.0;
          parts = whole-held r 7 parts m 4 seven.0;
          end = leb-true (length r) last (or-true end (BadEnd last) seven.1);
        }

    -- and the slices fit it
    pub fitted : fit ≡ true
    fitted = (opened-on r K good fit (chain-both (opens_on r K good fit) (λ rest. fronts_on r K k n (back rest)) (chain-opens-on r K good fit) e).0).2

  -- and a record that holds them passes
  pub shapes-pass : (rest : Answer) → Shaped r K k n i m good bad → fit ≡ true → shapes_on r K k n i m good fit bad rest ≡ rest
  shapes-pass rest s fits =
      let from = masses_from K k n in
      let parts = past from 4 i in
      let end = past parts 4 m in
      whole-there r 1 0 K.sides 4 _ s.first
      ∙ or-pass BadSides _ s.sides
      ∙ or-pass BadLength (fronts_on r K k n (back rest)) fits
      ∙ whole-there r 2 (settings_from K) K.settings 4 _ s.settings
      ∙ whole-there r 3 (origin_from K) K.origin 8 _ s.origin
      ∙ whole-there r 4 (totals_from K) k 8 _ s.totals
      ∙ whole-there r 5 (cells_from K k) n 1 (back rest) s.flags
      ∙ or-pass (BadFlag bad) (ends_on r from i m rest) (le-leb n bad s.tested)
      ∙ whole-there r 6 from i 4 _ s.masses
      ∙ whole-there r 7 parts m 4 (or_refuse (leb (length r) end) (BadEnd end) rest) s.parts
      ∙ or-pass (BadEnd end) rest (le-leb (length r) end s.end)
