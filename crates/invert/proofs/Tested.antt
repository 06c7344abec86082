-- The tests in a row: what each that passed has shown, and what the reader's head then is. Assumes nothing.
use Rattle.std.proofs.Common.{Result, Ok, Err}
use mathlib.Core.Path.{◌≡◌, refl, sym, ap, ◌∙◌, subst}
use mathlib.Core.Bool.{Bool, true, false, ◌&&◌, cond, true≢false, false≢true}
use mathlib.Core.List.{List}
use Prim.Native.Nat.{ℕ, ◌*◌, ◌≤◌}
use native.Mathlib.Omega.{arith}
use borrow.Author.Tests.{eqb-true, leb-true, le-ltb}
use lib.Dec.{eqb}
use lib.IntN.{ℤ, pos, negsuc, nat_abs}
use lib.Signed.{le_z, lt_z}
use Rattle.whole.specs.laws.Bools.{and_left, and_right}
use Rattle.lattice.specs.Cell.{edge_good, coordinate_good}
use Rattle.lattice.specs.declared.Settings.{Settings}
use Rattle.grid.specs.declared.Sides.{Sides}
use Rattle.grid.specs.Answer.{Answer}
use Rattle.grid.specs.Answer.{Done}
use Rattle.grid.specs.Grid.{cells_of, sides_good}
use Rattle.grid.specs.Outcome.{accepted, or_refuse, settings_good}
use Rattle.grid.proofs.Accepted.{passed}
use Rattle.record.specs.declared.Site.{Site}
use Rattle.record.specs.declared.Head.{Head}
use Rattle.record.specs.Layout.{site_good}
use Rattle.record.specs.Reading.{refused_head}
use Rattle.index.specs.Index.{words_of}
use Rattle.heights.specs.declared.header.Frame.{Frame}
use Rattle.numerals.specs.Text.{from_line}
use Rattle.heights.specs.Header.{header_of}
use Rattle.heights.specs.Rows.{rows_of}
use Rattle.invert.specs.declared.testing.Lengths.{Lengths}
use Rattle.invert.specs.Outcome.{count_of, sides_of, site_of, set_fits, given_answer, rows_answer, grid_answer, told_head, head_by, read_head}
use Rattle.grid.specs.declared.refusals.Refusal.TheVariants.{BadHeader, BadLength, BadSetting, BadSides}

-- ---- counts
pub count-below : (z : ℤ) → lt_z z (pos 0) ≡ true → 0 ≡ count_of z
count-below (pos n) e = absurd (false≢true (sym (le-ltb n 0 (omega arith)) ∙ e))
count-below (negsuc n) e = refl

pub count-from : (z : ℤ) → lt_z z (pos 0) ≡ false → nat_abs z ≡ count_of z
count-from (pos n) e = refl
count-from (negsuc n) e = absurd (true≢false e)

pub sides-by : (f : Frame) {nz a b : ℕ} → a ≡ count_of f.nx → b ≡ count_of f.ny → ◌≡◌ {A = Sides} (record { nx = a; ny = b; nz = nz }) (sides_of f nz)
sides-by f {nz} p q = λ i. record { nx = p i; ny = q i; nz = nz }

-- ---- tests 1 to 3
three-stop : (a b c : Bool) (rest : Answer) → accepted (or_refuse a BadSides (or_refuse b BadLength (or_refuse c (BadSetting 0) Done))) ≡ false
    → or_refuse a BadSides (or_refuse b BadLength (or_refuse c (BadSetting 0) rest)) ≡ or_refuse a BadSides (or_refuse b BadLength (or_refuse c (BadSetting 0) Done))
three-stop false b c rest e = refl
three-stop true false c rest e = refl
three-stop true true false rest e = refl
three-stop true true true rest e = absurd (true≢false e)

three-on : (a b c : Bool) (rest : Answer) → accepted (or_refuse a BadSides (or_refuse b BadLength (or_refuse c (BadSetting 0) Done))) ≡ true → or_refuse a BadSides (or_refuse b BadLength (or_refuse c (BadSetting 0) rest)) ≡ rest
three-on false b c rest e = absurd (false≢true e)
three-on true false c rest e = absurd (false≢true e)
three-on true true false rest e = absurd (false≢true e)
three-on true true true rest e = refl

three-first : (a b c : Bool) → accepted (or_refuse a BadSides (or_refuse b BadLength (or_refuse c (BadSetting 0) Done))) ≡ true → a ≡ true
three-first false b c e = absurd (false≢true e)
three-first true b c e = refl

module _ (s : Sides) (g : Settings) (t : Site) (l : Lengths) where
  pub given-stops : (rest : Answer) → accepted (given_answer s g t l Done) ≡ false → given_answer s g t l rest ≡ given_answer s g t l Done
  unfolding given_answer
  given-stops rest e = three-stop (sides_good s) (set_fits (cells_of s) l) (site_good g t) rest e

  pub given-passes : (rest : Answer) → accepted (given_answer s g t l Done) ≡ true → given_answer s g t l rest ≡ rest
  unfolding given_answer
  given-passes rest e = three-on (sides_good s) (set_fits (cells_of s) l) (site_good g t) rest e

  pub given-sides : accepted (given_answer s g t l Done) ≡ true → sides_good s ≡ true
  unfolding given_answer
  given-sides e = three-first (sides_good s) (set_fits (cells_of s) l) (site_good g t) e

  pub sides-bad : sides_good s ≡ false → Err BadSides ≡ given_answer s g t l Done
  unfolding given_answer
  sides-bad e = simp e

  pub fits-bad : sides_good s ≡ true → set_fits (cells_of s) l ≡ false → Err BadLength ≡ given_answer s g t l Done
  unfolding given_answer
  fits-bad p e = simp (p, e)

  pub site-bad : sides_good s ≡ true → set_fits (cells_of s) l ≡ true → site_good g t ≡ false → Err (BadSetting 0) ≡ given_answer s g t l Done
  unfolding given_answer
  site-bad p q e = simp (p, q, e)

  pub given-good : sides_good s ≡ true → set_fits (cells_of s) l ≡ true → site_good g t ≡ true → Done ≡ given_answer s g t l Done
  unfolding given_answer
  given-good p q e = simp (p, q, e)

  pub fits-at : {n : ℕ} {r b : Bool} → n ≡ cells_of s → r ≡ set_fits n l → r ≡ b → set_fits (cells_of s) l ≡ b
  fits-at p q e = sym (ap (λ (n : ℕ). set_fits n l) p) ∙ sym q ∙ e

-- ---- the head
pub told-no : {a : Answer} (s : Sides) (g : Settings) (t : Site) → accepted a ≡ false → refused_head a ≡ told_head a s g t
told-no {a} s g t e = ap (λ (b : Bool). cond b (record { answer = Done; sides = s; settings = g; site = t }) (refused_head a)) (sym e)

pub told-yes : (a : Answer) (s : Sides) (g : Settings) (t : Site) → accepted a ≡ true → ◌≡◌ {A = Head} (record { answer = Done; sides = s; settings = g; site = t }) (told_head a s g t)
told-yes a s g t e = ap (λ (b : Bool). cond b (record { answer = Done; sides = s; settings = g; site = t }) (refused_head a)) (sym e)

module _ (text : List ℕ) (nz : ℕ) (oz : ℤ) (g : Settings) (l : Lengths) where
  pub head-bad : {i : ℕ} → Err i ≡ header_of text → refused_head (Err (BadHeader i)) ≡ read_head text nz oz g l
  unfolding read_head
  head-bad e = ap (λ (d : Result Frame ℕ). head_by d text nz oz g l) e

  pub head-so : {f : Frame} {s : Sides} {t : Site} {a : Answer} → Ok f ≡ header_of text → s ≡ sides_of f nz → t ≡ site_of f oz → a ≡ grid_answer text s g t l
      → told_head a s g t ≡ read_head text nz oz g l
  unfolding read_head
  head-so {s = s} {t = t} e p q r =
      ap (λ (a : Answer). told_head a s g t) r
      ∙ (λ i. told_head (grid_answer text (p i) g (q i) l) (p i) g (q i))
      ∙ ap (λ (d : Result Frame ℕ). head_by d text nz oz g l) e

-- ---- what an accepted head tells of the grid
pub record Taken (text : List ℕ) (l : Lengths) (s : Sides) (g : Settings) (t : Site) : Type 0 where
  pub sides : sides_good s ≡ true
  pub fits : set_fits (cells_of s) l ≡ true
  pub site : site_good g t ≡ true
  pub rows : rows_of s.ny s.nx (from_line 6 text) 7 ≡ Ok tt

rows-fine : (r : Result (Unit {0}) ℕ) → rows_answer r ≡ Done → r ≡ Ok tt
rows-fine (Ok u) e = refl
rows-fine (Err i) e = absurd (false≢true (ap accepted e))

pub grid-taken : (text : List ℕ) (s : Sides) (g : Settings) (t : Site) (l : Lengths) → grid_answer text s g t l ≡ Done → Taken text l s g t
unfolding grid_answer given_answer
grid-taken text s g t l e =
    let r = rows_of s.ny s.nx (from_line 6 text) 7 in
    let a = passed (sides_good s) BadSides (or_refuse (set_fits (cells_of s) l) BadLength (or_refuse (site_good g t) (BadSetting 0) (rows_answer r))) e in
    let b = passed (set_fits (cells_of s) l) BadLength (or_refuse (site_good g t) (BadSetting 0) (rows_answer r)) a.1 in
    let c = passed (site_good g t) (BadSetting 0) (rows_answer r) b.1 in
    record { sides = a.0; fits = b.0; site = c.0; rows = rows-fine r c.1 }

told-taken : (text : List ℕ) (s : Sides) (g : Settings) (t : Site) (l : Lengths) (a : Answer) → grid_answer text s g t l ≡ a → accepted (told_head a s g t).answer ≡ true
    → Taken text l (told_head a s g t).sides (told_head a s g t).settings (told_head a s g t).site
told-taken text s g t l (Ok _) e p = grid-taken text s g t l e
told-taken text s g t l (Err refusal) e p = absurd (false≢true p)

by-taken : (text : List ℕ) (nz : ℕ) (oz : ℤ) (g : Settings) (l : Lengths) (d : Result Frame ℕ) → accepted (head_by d text nz oz g l).answer ≡ true
    → Taken text l (head_by d text nz oz g l).sides (head_by d text nz oz g l).settings (head_by d text nz oz g l).site
by-taken text nz oz g l (Err i) e = absurd (false≢true e)
by-taken text nz oz g l (Ok f) e = told-taken text (sides_of f nz) g (site_of f oz) l (grid_answer text (sides_of f nz) g (site_of f oz) l) refl e

pub head-taken : (text : List ℕ) (nz : ℕ) (oz : ℤ) (g : Settings) (l : Lengths) (h : Head) → h ≡ read_head text nz oz g l → accepted h.answer ≡ true → Taken text l h.sides h.settings h.site
unfolding read_head
head-taken text nz oz g l h q e =
    subst (λ (k : Head). Taken text l k.sides k.settings k.site) (sym q)
    (by-taken text nz oz g l (header_of text) (sym (ap (λ (k : Head). accepted k.answer) q) ∙ e))

-- ---- the lengths, and the edge
pub record Fit (n : ℕ) (l : Lengths) : Type 0 where
  pub flags : l.flags ≡ n
  pub parts : l.parts ≡ 19 * n
  pub masses : l.masses ≡ n
  pub fills : l.fills ≡ n
  pub carry : l.carry ≡ 3
  pub words : l.words ≡ words_of n
  pub count : l.count ≡ 1

pub fit : (n : ℕ) (l : Lengths) → set_fits n l ≡ true → Fit n l
unfolding set_fits
fit n l e =
    let set = eqb l.carry 3 && (eqb l.flags n && eqb l.parts (19 * n) && eqb l.masses n && eqb l.fills n) in
    let a = and_left set (eqb l.words (words_of n) && eqb l.count 1) e in
    let b = and_right set (eqb l.words (words_of n) && eqb l.count 1) e in
    let four = and_right (eqb l.carry 3) (eqb l.flags n && eqb l.parts (19 * n) && eqb l.masses n && eqb l.fills n) a in
    let three = and_left (eqb l.flags n && eqb l.parts (19 * n) && eqb l.masses n) (eqb l.fills n) four in
    let two = and_left (eqb l.flags n && eqb l.parts (19 * n)) (eqb l.masses n) three in
    record {
      flags = eqb-true l.flags n (and_left (eqb l.flags n) (eqb l.parts (19 * n)) two);
      parts = eqb-true l.parts (19 * n) (and_right (eqb l.flags n) (eqb l.parts (19 * n)) two);
      masses = eqb-true l.masses n (and_right (eqb l.flags n && eqb l.parts (19 * n)) (eqb l.masses n) three);
      fills = eqb-true l.fills n (and_right (eqb l.flags n && eqb l.parts (19 * n) && eqb l.masses n) (eqb l.fills n) four);
      carry = eqb-true l.carry 3 (and_left (eqb l.carry 3) (eqb l.flags n && eqb l.parts (19 * n) && eqb l.masses n && eqb l.fills n) a);
      words = eqb-true l.words (words_of n) (and_left (eqb l.words (words_of n)) (eqb l.count 1) b);
      count = eqb-true l.count 1 (and_right (eqb l.words (words_of n)) (eqb l.count 1) b);
    }

edge-small : (z : ℤ) → edge_good z ≡ true → count_of z ≤ 1000
edge-small (pos n) e = leb-true n 1000 (and_right (le_z (pos 1) (pos n)) (le_z (pos n) (pos 1000)) e)
edge-small (negsuc n) e = omega arith

pub edge-fits : (g : Settings) (t : Site) → site_good g t ≡ true → count_of t.edge ≤ 1000
unfolding site_good
edge-fits g t e =
    let xyz = and_left (settings_good g && edge_good t.edge && coordinate_good t.x && coordinate_good t.y) (coordinate_good t.z) e in
    let xy = and_left (settings_good g && edge_good t.edge && coordinate_good t.x) (coordinate_good t.y) xyz in
    let x = and_left (settings_good g && edge_good t.edge) (coordinate_good t.x) xy in
    edge-small t.edge (and_right (settings_good g) (edge_good t.edge) x)
