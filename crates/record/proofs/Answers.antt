-- Tests in a row: a section that is refused answers, one that is whole lets the rest answer, and then its count is right and its numbers are there.
-- Use: `whole-refused r k from n z rest e` is `whole r k from n z rest ≡ whole r k from n z Done`, from `e : accepted (whole r k from n z Done) ≡ false`. Assumes nothing.
use mathlib.Core.Path.{◌≡◌, refl, sym, ap, ◌∙◌}
use mathlib.Core.Bool.{Bool, true, false, false≢true}
use mathlib.Core.List.{List}
use Prim.Native.Nat.{ℕ, ◌+◌, ◌*◌, ◌≤◌, ◌<◌}
use native.Mathlib.Omega.{arith}
use lib.Dec.{leb, eqb}
use lib.ListN.{length}
use borrow.Author.Tests.{leb-true, eqb-true, le-leb, lt-leb, eq-eqb, ne_eqb}
use Rattle.grid.specs.Answer.{Answer}
use Rattle.grid.specs.Answer.{Done}
use Rattle.grid.specs.Outcome.{accepted, or_refuse}
use Rattle.record.specs.Bytes.{u32_at, Held}
use Rattle.record.specs.Reading.{whole}
use Rattle.grid.specs.declared.refusals.Refusal.TheVariants.{BadCount, BadEnd}
use Rattle.std.specs.Prelude.{Err}
use Rattle.grid.specs.declared.refusals.Refusal.{Refusal}

-- a single test
pub or-pass : {t : Bool} (refusal : Refusal) (rest : Answer) → t ≡ true → or_refuse t refusal rest ≡ rest
or-pass refusal rest e = rw e

pub or-fail : {t : Bool} (refusal : Refusal) (rest : Answer) → t ≡ false → or_refuse t refusal rest ≡ Err refusal
or-fail refusal rest e = rw e

module _ (r : List ℕ) (number from n size : ℕ) where
  abbrev three : (a b c : Bool) (rest : Answer) → Answer
  three a b c rest = or_refuse a (BadEnd from) (or_refuse b (BadCount number) (or_refuse c (BadEnd from) rest))

  refused-three : (a b c : Bool) (rest : Answer) → accepted (three a b c Done) ≡ false → three a b c rest ≡ three a b c Done
  refused-three false b c rest e = refl
  refused-three true false c rest e = refl
  refused-three true true false rest e = refl
  refused-three true true true rest e = absurd (false≢true (sym e))

  passed-three : (a b c : Bool) (rest : Answer) → accepted (three a b c Done) ≡ true → three a b c rest ≡ rest
  passed-three false b c rest e = absurd (false≢true e)
  passed-three true false c rest e = absurd (false≢true e)
  passed-three true true false rest e = absurd (false≢true e)
  passed-three true true true rest e = refl

  held-three : (a b c : Bool) → accepted (three a b c Done) ≡ true → (b ≡ true) × (c ≡ true)
  held-three false b c e = absurd (false≢true e)
  held-three true false c e = absurd (false≢true e)
  held-three true true false e = absurd (false≢true e)
  held-three true true true e = (refl, refl)

  pub whole-refused : (rest : Answer) → accepted (whole r number from n size Done) ≡ false → whole r number from n size rest ≡ whole r number from n size Done
  unfolding whole
  whole-refused rest e = refused-three (leb (from + 4) (length r)) (eqb (u32_at r from) n) (leb (from + 4 + size * n) (length r)) rest e

  pub whole-passed : (rest : Answer) → accepted (whole r number from n size Done) ≡ true → whole r number from n size rest ≡ rest
  unfolding whole
  whole-passed rest e = passed-three (leb (from + 4) (length r)) (eqb (u32_at r from) n) (leb (from + 4 + size * n) (length r)) rest e

  pub whole-held : accepted (whole r number from n size Done) ≡ true → Held r from n size
  unfolding whole
  whole-held e =
      let h = held-three (leb (from + 4) (length r)) (eqb (u32_at r from) n) (leb (from + 4 + size * n) (length r)) e in
      record { count = eqb-true (u32_at r from) n h.0; inside = leb-true (from + 4 + size * n) (length r) h.1 }

  -- each way through a section
  pub whole-short : (rest : Answer) → length r < from + 4 → whole r number from n size rest ≡ Err (BadEnd from)
  unfolding whole
  whole-short rest h = rw (lt-leb (from + 4) (length r) h)

  pub whole-wrong : (rest : Answer) → from + 4 ≤ length r → (u32_at r from ≡ n → ⊥) → whole r number from n size rest ≡ Err (BadCount number)
  unfolding whole
  whole-wrong rest h e = rw (le-leb (from + 4) (length r) h, ne_eqb (u32_at r from) n e)

  pub whole-cut : (rest : Answer) → from + 4 ≤ length r → u32_at r from ≡ n → length r < from + 4 + size * n → whole r number from n size rest ≡ Err (BadEnd from)
  unfolding whole
  whole-cut rest h e l =
      rw (le-leb (from + 4) (length r) h, eq-eqb (u32_at r from) n e, lt-leb (from + 4 + size * n) (length r) l)

  pub whole-there : (rest : Answer) → Held r from n size → whole r number from n size rest ≡ rest
  unfolding whole
  whole-there rest h =
      let l : from + 4 ≤ length r = omega (arith, h.inside) in
      rw (le-leb (from + 4) (length r) l, eq-eqb (u32_at r from) n h.count, le-leb (from + 4 + size * n) (length r) h.inside)

  -- the same as a caller meets it, by what the section answered
  pub stopped : {refusal : Refusal} (rest : Answer) → Err refusal ≡ whole r number from n size Done → Err refusal ≡ whole r number from n size rest
  stopped rest e = e ∙ sym (whole-refused rest (ap accepted (sym e)))

  pub went_on : (rest : Answer) → Done ≡ whole r number from n size Done → whole r number from n size rest ≡ rest
  went_on rest e = whole-passed rest (ap accepted (sym e))

  pub holds : Done ≡ whole r number from n size Done → Held r from n size
  holds e = whole-held (ap accepted (sym e))

-- ---- tests in a row, whatever they are: F passes `rest` on, or answers itself
pub record Chain (F : Answer → Answer) : Type 0 where
  pub refuses : accepted (F Done) ≡ false → (rest : Answer) → F rest ≡ F Done
  pub passes : accepted (F Done) ≡ true → (rest : Answer) → F rest ≡ rest

pub chain-or : (t : Bool) (refusal : Refusal) → Chain (or_refuse t refusal)
chain-or true refusal = record { refuses = λ e rest. absurd (false≢true (sym e)); passes = λ e rest. refl }
chain-or false refusal = record { refuses = λ e rest. refl; passes = λ e rest. absurd (false≢true e) }

pub chain-whole : (r : List ℕ) (number from n size : ℕ) → Chain (whole r number from n size)
chain-whole r number from n size = record {
  refuses = λ e rest. whole-refused r number from n size rest e;
  passes = λ e rest. whole-passed r number from n size rest e;
}

pub chain-both : (F G : Answer → Answer) → Chain F → accepted (F (G Done)) ≡ true → (accepted (F Done) ≡ true) × (accepted (G Done) ≡ true)
chain-both F G f e = go (accepted (F Done)) refl
  where
    go : (t : Bool) → accepted (F Done) ≡ t → (accepted (F Done) ≡ true) × (accepted (G Done) ≡ true)
    go true h = (h, sym (ap accepted (f.passes h (G Done))) ∙ e)
    go false h = absurd (false≢true (sym h ∙ sym (ap accepted (f.refuses h (G Done))) ∙ e))

pub chain-then : (F G : Answer → Answer) → Chain F → Chain G → Chain (λ rest. F (G rest))
chain-then F G f g = record { refuses = λ e rest. refuses (accepted (F Done)) refl e rest; passes = passes }
  where
    refuses : (t : Bool) → accepted (F Done) ≡ t → accepted (F (G Done)) ≡ false → (rest : Answer) → F (G rest) ≡ F (G Done)
    refuses true h e rest = ap F (g.refuses (sym (ap accepted (f.passes h (G Done))) ∙ e) rest)
    refuses false h e rest = f.refuses h (G rest) ∙ sym (f.refuses h (G Done))

    passes : accepted (F (G Done)) ≡ true → (rest : Answer) → F (G rest) ≡ rest
    passes e rest =
        let both = chain-both F G f e in
        f.passes both.0 (G rest) ∙ g.passes both.1 rest

-- as a caller meets it, by what F answered
pub chain-stops : (F : Answer → Answer) → Chain F → {refusal : Refusal} (rest : Answer) → Err refusal ≡ F Done → Err refusal ≡ F rest
chain-stops F f rest e = e ∙ sym (f.refuses (ap accepted (sym e)) rest)

pub chain-on : (F : Answer → Answer) → Chain F → (rest : Answer) → Done ≡ F Done → F rest ≡ rest
chain-on F f rest e = f.passes (ap accepted (sym e)) rest

pub chain-ok : (F : Answer → Answer) → Done ≡ F Done → accepted (F Done) ≡ true
chain-ok F e = ap accepted (sym e)

pub or-true : (t : Bool) (refusal : Refusal) → accepted (or_refuse t refusal Done) ≡ true → t ≡ true
or-true true refusal e = refl
or-true false refusal e = absurd (false≢true e)
