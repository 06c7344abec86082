-- The reader with its index: tests 1 and 2 are the record's, then the index's lengths; refused there, refused later, and accepted with the index made of the
-- flags read, it leaves what the outcome's definition says. Assumes nothing.
use mathlib.Core.Path.{◌≡◌, refl, sym, ap, ap₂, ◌∙◌, subst}
use mathlib.Core.Bool.{Bool, true, false, ◌&&◌, cond}
use mathlib.Core.List.{List}
use Prim.Native.Nat.{ℕ, ◌-◌, ◌≤◌}
use native.Mathlib.Omega.{arith}
use lib.Dec.{eqb}
use lib.IntN.{ℤ}
use lib.ListN.{length, take, drop}
use Rattle.whole.specs.laws.Bools.{cond_yes, cond_no}
use Rattle.grid.specs.declared.Sides.{Sides}
use Rattle.grid.specs.Answer.{Answer}
use Rattle.grid.specs.Answer.{Done}
use Rattle.grid.specs.Grid.{cells_of, sides_good}
use Rattle.grid.specs.Outcome.{accepted, or_refuse}
use Rattle.grid.specs.State.{Lent}
use Rattle.record.specs.declared.Head.{Head}
use Rattle.record.specs.Reading.{sides_in, flags_at, cells_in, flags_in, slices_fit, whole, refused_head}
use Rattle.record.specs.Reading as base
use Rattle.record.specs.Promise as promise
use Rattle.record.proofs.Answers.{Chain, chain-or, chain-then, chain-both, chain-stops, or-true}
use Rattle.record.proofs.FlagPart.{length-flags}
use Rattle.record.proofs.Shaped.{opens, chain-opens, opened, sound, shape-accepted}
use Rattle.record.proofs.Spanned.{span-read}
use Rattle.index.specs.Index.{Index, words_of, index_of, index_sized}
use Rattle.index.specs.inner.Laid.{Room}
use Rattle.index.proofs.Flagged.{room_of}
use Rattle.index.specs.Held.{Held, held}
use Rattle.intake.specs.Reading.{open_answer, read_answer, read_head, read_held}
use Rattle.intake.specs.Promise.{Read}
use Rattle.grid.proofs.Inside.{few as few-cells}
use Rattle.grid.specs.declared.refusals.Refusal.{Refusal}
use Rattle.grid.specs.declared.refusals.Refusal.TheVariants.{BadLength, BadSides}
use Rattle.std.specs.Prelude.{Err}
use Rattle.std.specs.Prelude.{Ok}

-- ---- section 1, tests 1 and 2
or-and : (t u : Bool) (refusal : Refusal) (rest : Answer) → or_refuse (t && u) refusal rest ≡ or_refuse t refusal (or_refuse u refusal rest)
or-and true u refusal rest = refl
or-and false u refusal rest = refl

module _ (r : List ℕ) (p m f k : ℕ) (x : Index) where
  abbrev index-fits : Bool
  index-fits = index_sized (cells_in r) x

  -- the record's own tests, then the index's lengths
  pub open_is : (rest : Answer) → open_answer r p m f k x rest ≡ opens r p m f k (or_refuse index-fits BadLength rest)
  unfolding open_answer
  open_is rest = ap (λ (y : Answer). whole r 1 0 3 4 (or_refuse (sides_good (sides_in r)) BadSides y)) (or-and (slices_fit (cells_in r) p m f k) index-fits BadLength rest)

  chain-ours : Chain (λ rest. opens r p m f k (or_refuse index-fits BadLength rest))
  chain-ours = chain-then (opens r p m f k) (or_refuse index-fits BadLength) (chain-opens r p m f k) (chain-or index-fits BadLength)

  pub chain-open : Chain (open_answer r p m f k x)
  chain-open = record {
    refuses = λ e rest. open_is rest ∙ chain-ours.refuses (sym (ap accepted (open_is Done)) ∙ e) rest ∙ sym (open_is Done);
    passes = λ e rest. open_is rest ∙ chain-ours.passes (sym (ap accepted (open_is Done)) ∙ e) rest;
  }

  pub stops : {refusal : Refusal} → Err refusal ≡ opens r p m f k Done → Err refusal ≡ open_answer r p m f k x Done
  stops e = chain-stops (opens r p m f k) (chain-opens r p m f k) (or_refuse index-fits BadLength Done) e ∙ sym (open_is Done)

  -- the record's tests passed
  module _ (e : accepted (opens r p m f k Done) ≡ true) where
    pub first-section : 16 ≤ length r
    first-section = (opened r p m f k e).0.inside

    pub sides-pass : sides_good (sides_in r) ≡ true
    sides-pass = (opened r p m f k e).1

    told-by : (t : Bool) → index-fits ≡ t → or_refuse t BadLength Done ≡ open_answer r p m f k x Done
    told-by t h = ap (λ (u : Bool). or_refuse u BadLength Done) (sym h) ∙ sym (open_is Done ∙ (chain-opens r p m f k).passes e (or_refuse index-fits BadLength Done))

    pub wrong-index : index-fits ≡ false → Err BadLength ≡ open_answer r p m f k x Done
    wrong-index h = told-by false h

    pub opens-all : index-fits ≡ true → Done ≡ open_answer r p m f k x Done
    opens-all h = told-by true h

  -- as the code asks for it
  pub fits_told : {s : Sides} {n : ℕ} {t : Bool} → s ≡ sides_in r → n ≡ cells_of s → t ≡ (eqb (length x.words) (words_of n) && eqb (length x.count) 1) → t ≡ index-fits
  unfolding index_sized cells_in
  fits_told a b c = c ∙ ap (λ (n : ℕ). index_sized n x) (b ∙ ap cells_of a)

  -- and all of it
  both : accepted (open_answer r p m f k x Done) ≡ true → (accepted (opens r p m f k Done) ≡ true) × (accepted (or_refuse index-fits BadLength Done) ≡ true)
  both e = chain-both (opens r p m f k) (or_refuse index-fits BadLength) (chain-opens r p m f k) (sym (ap accepted (open_is Done)) ∙ e)

  pub index-room : accepted (open_answer r p m f k x Done) ≡ true → Room (cells_in r) x
  unfolding cells_in
  index-room e = room_of (cells_in r) x (few-cells (sides_in r) (sides-pass (both e).0)) (or-true index-fits BadLength (both e).1)

-- ---- the record's reader as it is met here
head-accepts : (r : List ℕ) (a : Lent) → accepted (base.read_head r a).answer ≡ accepted (base.read_answer r a)
unfolding base.read_head
head-accepts r a = go (base.read_answer r a)
  where
    go : (y : Answer) → accepted (cond {A = Head} (accepted y) (record { answer = Done; sides = sides_in r; settings = base.settings_in r; site = base.site_in r }) (refused_head y)).answer ≡ accepted y
    go (Ok _) = refl
    go (Err refusal) = refl

head-refused : (r : List ℕ) (a : Lent) → accepted (base.read_answer r a) ≡ false → base.read_head r a ≡ refused_head (base.read_answer r a)
unfolding base.read_head
head-refused r a e = cond_no _ _ e

set-refused : (r : List ℕ) (a : Lent) → accepted (base.read_answer r a) ≡ false → base.read_set r a ≡ a
unfolding base.read_set
set-refused r a e = cond_no _ _ e

flags-read : (r : List ℕ) (a : Lent) → accepted (base.read_answer r a) ≡ true → base.read_flags r a ≡ flags_in r
unfolding base.read_flags
flags-read r a e = cond_yes _ _ e

-- ---- the outcome
module _ (r : List ℕ) (a : Held) where
  abbrev opening : Answer → Answer
  opening = open_answer r (length a.set.parts) (length a.set.masses) (length a.set.fills) (length a.set.carry) a.index

  -- refused by the record's first section, the sides or a length
  pub refused-early : {refusal : Refusal} {h : Head} → Err refusal ≡ opening Done → h ≡ refused_head (Err refusal)
      → Read r a h a.set.parts a.set.masses a.set.fills a.set.carry a.index
  unfolding read_answer read_head read_held
  refused-early {refusal} {h} e i = record {
    head-is = i ∙ ap refused_head is ∙ sym (cond_no _ _ no_more);
    parts_are = ap (λ (b : Held). b.set.parts) (sym held-is);
    masses-are = ap (λ (b : Held). b.set.masses) (sym held-is);
    fills-are = ap (λ (b : Held). b.set.fills) (sym held-is);
    carry-is = ap (λ (b : Held). b.set.carry) (sym held-is);
    index_is = ap (λ (b : Held). b.index) (sym held-is);
  }
    where
      is : Err refusal ≡ read_answer r a
      is = chain-stops opening (chain-open r _ _ _ _ a.index) (base.read_answer r a.set) e

      no_more : accepted (read_answer r a) ≡ false
      no_more = ap accepted (sym is)

      held-is : read_held r a ≡ a
      held-is = cond_no _ _ no_more

  module _ (e : Done ≡ opening Done) where
    went : accepted (opening Done) ≡ true
    went = ap accepted (sym e)

    answer-is : read_answer r a ≡ base.read_answer r a.set
    unfolding read_answer
    answer-is = (chain-open r _ _ _ _ a.index).passes went (base.read_answer r a.set)

    module _ {h : Head} {parts masses : List ℤ} {fills : List ℕ} {carry : List ℤ} (d : promise.Read r a.set h parts masses fills carry) where
      told : accepted (base.read_answer r a.set) ≡ accepted h.answer
      told = sym (head-accepts r a.set) ∙ sym (ap (λ (g : Head). accepted g.answer) d.head-is)

      -- refused later
      pub refused-late : accepted h.answer ≡ false → Read r a h parts masses fills carry a.index
      unfolding read_head read_held
      refused-late w = record {
        head-is = d.head-is ∙ head-refused r a.set no_more ∙ ap refused_head (sym answer-is) ∙ sym (cond_no _ _ (ap accepted answer-is ∙ no_more));
        parts_are = d.parts_are ∙ ap (λ (b : Lent). b.parts) (set-refused r a.set no_more) ∙ ap (λ (b : Held). b.set.parts) (sym held-is);
        masses-are = d.masses-are ∙ ap (λ (b : Lent). b.masses) (set-refused r a.set no_more) ∙ ap (λ (b : Held). b.set.masses) (sym held-is);
        fills-are = d.fills-are ∙ ap (λ (b : Lent). b.fills) (set-refused r a.set no_more) ∙ ap (λ (b : Held). b.set.fills) (sym held-is);
        carry-is = d.carry-is ∙ ap (λ (b : Lent). b.carry) (set-refused r a.set no_more) ∙ ap (λ (b : Held). b.set.carry) (sym held-is);
        index_is = ap (λ (b : Held). b.index) (sym held-is);
      }
        where
          no_more : accepted (base.read_answer r a.set) ≡ false
          no_more = told ∙ w

          held-is : read_held r a ≡ a
          held-is = cond_no _ _ (ap accepted answer-is ∙ no_more)

      -- accepted: the flags are the record's own
      module _ (w : accepted h.answer ≡ true) where
        yes : accepted (base.read_answer r a.set) ≡ true
        yes = told ∙ w

        abbrev part : List ℕ
        part = let z = promise.span_of r h in take (z.to - z.from) (drop z.from r)

        pub part-is : part ≡ base.read_flags r a.set
        part-is = ap (λ (g : Head). let z = promise.span_of r g in take (z.to - z.from) (drop z.from r)) d.head-is ∙ (span-read r a.set).0

        pub part_length : length part ≡ cells_in r
        part_length =
            let s = sound r (length a.set.parts) (length a.set.masses) (length a.set.fills) (length a.set.carry) (shape-accepted r a.set yes) in
            ap length (part-is ∙ flags-read r a.set yes) ∙ length-flags r {n = cells_in r} {at = flags_at r} refl refl (omega (arith, s.flags.inside))

        pub room : {flags : List ℕ} → flags ≡ part → Room (length flags) a.index
        room i = subst (λ (n : ℕ). Room n a.index) (sym (ap length i ∙ part_length)) (index-room r _ _ _ _ a.index went)

        pub read_all : {flags : List ℕ} {x : Index} → flags ≡ part → x ≡ index_of (length flags) flags → Read r a h parts masses fills carry x
        unfolding read_head read_held
        read_all {flags} {x} i j = record {
          head-is = d.head-is ∙ sym (cond_yes _ _ ok);
          parts_are = d.parts_are ∙ ap (λ (b : Held). b.set.parts) (sym held-is);
          masses-are = d.masses-are ∙ ap (λ (b : Held). b.set.masses) (sym held-is);
          fills-are = d.fills-are ∙ ap (λ (b : Held). b.set.fills) (sym held-is);
          carry-is = d.carry-is ∙ ap (λ (b : Held). b.set.carry) (sym held-is);
          index_is = j ∙ ap₂ index_of (ap length i ∙ part_length) (i ∙ part-is) ∙ ap (λ (b : Held). b.index) (sym held-is);
        }
          where
            ok : accepted (read_answer r a) ≡ true
            ok = ap accepted answer-is ∙ yes

            held-is : read_held r a ≡ held (base.read_set r a.set) (index_of (cells_in r) (base.read_flags r a.set))
            held-is = cond_yes _ _ ok
