-- The room that is taken for a record is its N wherever the reader comes to ask for it: N itself up to `most`, and nothing above. So test 2 of the slices
-- that are lent is the test that N is at most `most`. The one idea: a side of at most 128 is its own lowest byte. Assumes nothing.
use mathlib.Core.Path.{◌≡◌, refl, sym, ap, ◌∙◌}
use mathlib.Core.Bool.{Bool, true, false}
use mathlib.Core.List.{List}
use mathlib.Core.Logic.{⊎_elim}
use Prim.Native.Nat.{ℕ, ◌+◌, ◌*◌, ◌≤◌, ◌<◌}
use native.Mathlib.Omega.{arith}
use borrow.Author.Tests.{le-leb, lt-leb, eq-eqb, ne_eqb}
use lib.Dec.{leb}
use lib.ListN.{length, get_or, take}
use lib.Seq.{length-take-le}
use Rattle.whole.specs.laws.Order.{≤-or}
use Rattle.grid.specs.Answer.{Answer}
use Rattle.grid.specs.Answer.{Done}
use Rattle.grid.specs.Grid.{cells_of, sides_good, grid_of}
use Rattle.grid.specs.Good.{bad_flag}
use Rattle.grid.specs.State.{Lent}
use Rattle.grid.specs.Outcome.{accepted, or_refuse}
use Rattle.grid.proofs.GoodSides.{good-sides}
use Rattle.record.specs.Places.{counts}
use Rattle.record.specs.Reading.{sides_in, totals_in, cells_in, flag_in, interfaces_in, liquids_in, whole, opens_on, shapes_on, slices_fit, shape_answer, content_answer, read_answer}
use Rattle.record.specs.Bytes.{Held}
use Rattle.record.proofs.Numbers.{four}
use Rattle.record.proofs.Answers.{whole-refused, whole-passed, whole-held}
use Rattle.console.specs.Room.{low_cells, room_for}
use Rattle.console.proofs.Rooms.{room-over, room-enough}
use Rattle.grid.specs.declared.refusals.Refusal.TheVariants.{BadLength, BadSides}

low_byte : (b x n : ℕ) → n ≡ b + 256 * x → n ≤ 128 → b ≡ n
low_byte b x n e h = omega arith

-- ---- the room of a record whose section 1 is there with good sides
module _ (r : List ℕ) (h : Held r 0 3 4) (g : sides_good (sides_in r) ≡ true) where
  low_x : get_or r 4 0 ≡ (sides_in r).nx
  unfolding sides_in
  low_x = low_byte (get_or r 4 0) _ _ (four 4 r (omega (arith, h.inside))) (good-sides (sides_in r) g).x.high

  low-y : get_or r 8 0 ≡ (sides_in r).ny
  unfolding sides_in
  low-y = low_byte (get_or r 8 0) _ _ (four 8 r (omega (arith, h.inside))) (good-sides (sides_in r) g).y.high

  low-z : get_or r 12 0 ≡ (sides_in r).nz
  unfolding sides_in
  low-z = low_byte (get_or r 12 0) _ _ (four 12 r (omega (arith, h.inside))) (good-sides (sides_in r) g).z.high

  low-cells : low_cells r ≡ cells_in r
  unfolding low_cells cells_in cells_of
  low-cells = λ i. low_x i * (low-y i * low-z i)

  pub room_whole : (most : ℕ) → cells_in r ≤ most → room_for r most ≡ cells_in r
  room_whole most k = sym (room-enough r most (cells_in r) (omega (arith, h.inside)) (sym low-cells) k)

  pub room-none : (most : ℕ) → most < cells_in r → room_for r most ≡ 0
  room-none most k = sym (room-over r most (cells_in r) (omega (arith, h.inside)) (sym low-cells) k)

  -- slices of so much room fit the record exactly where there is room for it
  pub fits-room : (most : ℕ) {p m f k : ℕ} → p ≡ 19 * room_for r most → m ≡ room_for r most → f ≡ room_for r most → k ≡ 3
      → slices_fit (cells_in r) p m f k ≡ leb (cells_in r) most
  unfolding slices_fit
  fits-room most {p} {m} {f} {k} ep em ef ek = ⊎_elim (λ l. fits l) (λ l. lacks l) (≤-or (cells_in r) most)
    where
      fits : cells_in r ≤ most → slices_fit (cells_in r) p m f k ≡ leb (cells_in r) most
      fits l =
          let n = cells_in r in
          let e = room_whole most l in
          rw (eq-eqb p (19 * n) (ep ∙ ap (λ (x : ℕ). 19 * x) e), eq-eqb m n (em ∙ e), eq-eqb f n (ef ∙ e), eq-eqb k 3 ek, le-leb n most l) refl

      lacks : most < cells_in r → slices_fit (cells_in r) p m f k ≡ leb (cells_in r) most
      lacks l =
          let n = cells_in r in
          let e = room-none most l in
          rw (ne_eqb p (19 * n) (λ q. omega (arith, ep, e, q, l)), lt-leb n most l) refl

-- ---- the reader's answer in slices of so much room
under : (t x y : Bool) (rest : Answer) → (t ≡ true → x ≡ y) → or_refuse t BadSides (or_refuse x BadLength rest) ≡ or_refuse t BadSides (or_refuse y BadLength rest)
under true x y rest f = ap (λ (b : Bool). or_refuse b BadLength rest) (f refl)
under false x y rest f = refl

opens-same : (r : List ℕ) (t x y : Bool) (rest : Answer) → (Held r 0 3 4 → t ≡ true → x ≡ y) → opens_on r counts t x rest ≡ opens_on r counts t y rest
opens-same r t x y rest f = go (accepted (whole r 1 0 3 4 Done)) refl
  where
    go : (b : Bool) → accepted (whole r 1 0 3 4 Done) ≡ b → opens_on r counts t x rest ≡ opens_on r counts t y rest
    go true e =
        whole-passed r 1 0 3 4 (or_refuse t BadSides (or_refuse x BadLength rest)) e
        ∙ under t x y rest (f (whole-held r 1 0 3 4 e))
        ∙ sym (whole-passed r 1 0 3 4 (or_refuse t BadSides (or_refuse y BadLength rest)) e)
    go false e = whole-refused r 1 0 3 4 (or_refuse t BadSides (or_refuse x BadLength rest)) e ∙ sym (whole-refused r 1 0 3 4 (or_refuse t BadSides (or_refuse y BadLength rest)) e)

-- the reader's tests, of which 2 asks that N be at most `most`
abbrev pub answer_with : List ℕ → ℕ → Answer
answer_with r most =
    shapes_on r counts (totals_in r) (cells_in r) (interfaces_in r) (19 * liquids_in r) (sides_good (sides_in r)) (leb (cells_in r) most)
    (bad_flag (grid_of (sides_in r)) (flag_in r)) (content_answer r)

-- slices of that room
pub record Roomy (r : List ℕ) (most : ℕ) (a : Lent) : Type 0 where
  pub parts : length a.parts ≡ 19 * room_for r most
  pub masses : length a.masses ≡ room_for r most
  pub fills : length a.fills ≡ room_for r most
  pub carry : length a.carry ≡ 3

pub read_is : (r : List ℕ) (most : ℕ) (a : Lent) → Roomy r most a → read_answer r a ≡ answer_with r most
unfolding read_answer shape_answer
read_is r most a l =
    opens-same r (sides_good (sides_in r)) (slices_fit (cells_in r) (length a.parts) (length a.masses) (length a.fills) (length a.carry)) (leb (cells_in r) most) _
    (λ h g. fits-room r h g most l.parts l.masses l.fills l.carry)

-- the start of a list is as long as was asked
pub take-low : {A : Type 0} (n : ℕ) (xs : List A) (k : ℕ) → n ≤ length xs → n ≤ k → length (take n xs) ≤ k
take-low n xs k h l = omega (arith, length-take-le n xs h)
