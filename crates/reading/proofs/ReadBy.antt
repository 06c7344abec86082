-- The reader's promise, from what its tests and passes give: a refused record leaves everything as it was, an accepted one is taken. Assumes nothing.
use mathlib.Core.Path.{◌≡◌, refl, sym, ap, ◌∙◌}
use mathlib.Core.Bool.{true, false, ◌&&◌}
use mathlib.Core.List.{List}
use Prim.Native.Nat.{ℕ, ◌*◌}
use lib.Dec.{eqb}
use lib.IntN.{ℤ}
use borrow.Author.Tests.{eqb-true}
use Rattle.whole.specs.laws.Bools.{and_left, and_right}
use Rattle.lattice.specs.declared.Settings.{Settings}
use Rattle.grid.specs.declared.Sides.{Sides}
use Rattle.grid.specs.Answer.{Answer}
use Rattle.grid.specs.Answer.{Done}
use Rattle.grid.specs.Outcome.{accepted}
use Rattle.grid.specs.State.{Lent}
use Rattle.record.specs.declared.Site.{Site}
use Rattle.record.specs.declared.Head.{Head}
use Rattle.record.specs.Reading.{sides_in, settings_in, site_in, slices_fit, refused_head, read_answer, read_head, read_set}
use Rattle.record.specs.inner.Passes.{Taken}
use Rattle.record.specs.Promise.{Read}

pub read-refused : (r : List ℕ) (a : Lent) (x : Answer) (head : Head) → x ≡ read_answer r a → accepted x ≡ false → head ≡ refused_head x
    → Read r a head a.parts a.masses a.fills a.carry
unfolding read_head read_set
read-refused r a x head e f h =
    let no : accepted (read_answer r a) ≡ false = sym (ap accepted e) ∙ f in
    record {
      head-is = h ∙ ap refused_head e ∙ rw no refl;
      parts_are = rw no refl;
      masses-are = rw no refl;
      fills-are = rw no refl;
      carry-is = rw no refl;
    }

pub read-accepted : (r : List ℕ) (a : Lent) (s : Sides) (g : Settings) (t : Site) (parts masses : List ℤ) (fills : List ℕ) (carry : List ℤ)
    → accepted (read_answer r a) ≡ true → s ≡ sides_in r → g ≡ settings_in r → t ≡ site_in r → Taken r parts masses fills carry
    → Read r a (record { answer = Done; sides = s; settings = g; site = t }) parts masses fills carry
unfolding read_head read_set
read-accepted r a s g t parts masses fills carry ok p q u k =
    record {
      head-is = rw (p, q, u, ok) refl;
      parts_are = rw ok k.parts_are;
      masses-are = rw ok k.masses-are;
      fills-are = rw ok k.fills-are;
      carry-is = rw ok k.carry-is;
    }

-- test 2, read as equations
pub record Fitting (n p m f k : ℕ) : Type 0 where
  pub parts : p ≡ 19 * n
  pub masses : m ≡ n
  pub fills : f ≡ n
  pub carry : k ≡ 3

pub fits : (n p m f k : ℕ) → slices_fit n p m f k ≡ true → Fitting n p m f k
unfolding slices_fit
fits n p m f k e =
    let pmf = and_left (eqb p (19 * n) && eqb m n && eqb f n) (eqb k 3) e in
    let pm = and_left (eqb p (19 * n) && eqb m n) (eqb f n) pmf in
    record {
      parts = eqb-true p (19 * n) (and_left (eqb p (19 * n)) (eqb m n) pm);
      masses = eqb-true m n (and_right (eqb p (19 * n)) (eqb m n) pm);
      fills = eqb-true f n (and_right (eqb p (19 * n) && eqb m n) (eqb f n) pmf);
      carry = eqb-true k 3 (and_right (eqb p (19 * n) && eqb m n && eqb f n) (eqb k 3) e);
    }
