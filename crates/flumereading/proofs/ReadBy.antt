-- The reader's promise, from what its tests and passes give: a refused record leaves everything as it was, an accepted one is taken. Assumes nothing.
use mathlib.Core.Path.{◌≡◌, refl, sym, ap, ◌∙◌}
use mathlib.Core.Bool.{true, false, ◌&&◌}
use mathlib.Core.List.{List}
use Prim.Native.Nat.{ℕ, ◌*◌}
use lib.Dec.{eqb}
use lib.IntN.{ℤ}
use borrow.Author.Tests.{eqb-true}
use Rattle.whole.specs.laws.Bools.{and_left, and_right}
use Rattle.flume.specs.declared.FlumeSettings.{FlumeSettings}
use Rattle.flume.specs.declared.FlumeSides.{FlumeSides}
use Rattle.grid.specs.Answer.{Answer}
use Rattle.grid.specs.Answer.{Done}
use Rattle.grid.specs.Outcome.{accepted}
use Rattle.grid.specs.State.{Lent}
use Rattle.flumerecord.specs.declared.FlumeSite.{FlumeSite}
use Rattle.flumerecord.specs.declared.FlumeHead.{FlumeHead}
use Rattle.flumerecord.specs.Reading.{flume_sides_in, flume_settings_in, flume_site_in, flume_slices_fit, flume_refused_head, flume_read_answer, flume_read_head, flume_read_set}
use Rattle.flumerecord.specs.inner.Passes.{FlumeTaken}
use Rattle.flumerecord.specs.Promise.{FlumeRead}

pub read-refused : (r : List ℕ) (a : Lent) (x : Answer) (head : FlumeHead) → x ≡ flume_read_answer r a → accepted x ≡ false → head ≡ flume_refused_head x
    → FlumeRead r a head a.parts a.masses a.fills a.carry
unfolding flume_read_head flume_read_set
read-refused r a x head e f h =
    let no : accepted (flume_read_answer r a) ≡ false = sym (ap accepted e) ∙ f in
    record {
      head-is = h ∙ ap flume_refused_head e ∙ rw no refl;
      parts_are = rw no refl;
      masses-are = rw no refl;
      fills-are = rw no refl;
      carry-is = rw no refl;
    }

pub read-accepted : (r : List ℕ) (a : Lent) (s : FlumeSides) (g : FlumeSettings) (t : FlumeSite) (parts masses : List ℤ) (fills : List ℕ) (carry : List ℤ)
    → accepted (flume_read_answer r a) ≡ true → s ≡ flume_sides_in r → g ≡ flume_settings_in r → t ≡ flume_site_in r → FlumeTaken r parts masses fills carry
    → FlumeRead r a (record { answer = Done; sides = s; settings = g; site = t }) parts masses fills carry
unfolding flume_read_head flume_read_set
read-accepted r a s g t parts masses fills carry ok p q u k =
    record {
      head-is = rw (p, q, u, ok) refl;
      parts_are = rw ok k.parts_are;
      masses-are = rw ok k.masses-are;
      fills-are = rw ok k.fills-are;
      carry-is = rw ok k.carry-is;
    }

-- test 2, read as equations
pub record Fitting (n p m f k : ℕ) : Type 0 where
  pub parts : p ≡ 9 * n
  pub masses : m ≡ n
  pub fills : f ≡ n
  pub carry : k ≡ 1

pub fits : (n p m f k : ℕ) → flume_slices_fit n p m f k ≡ true → Fitting n p m f k
unfolding flume_slices_fit
fits n p m f k e =
    let pmf = and_left (eqb p (9 * n) && eqb m n && eqb f n) (eqb k 1) e in
    let pm = and_left (eqb p (9 * n) && eqb m n) (eqb f n) pmf in
    record {
      parts = eqb-true p (9 * n) (and_left (eqb p (9 * n)) (eqb m n) pm);
      masses = eqb-true m n (and_right (eqb p (9 * n)) (eqb m n) pm);
      fills = eqb-true f n (and_right (eqb p (9 * n) && eqb m n) (eqb f n) pmf);
      carry = eqb-true k 1 (and_right (eqb p (9 * n) && eqb m n && eqb f n) (eqb k 1) e);
    }
