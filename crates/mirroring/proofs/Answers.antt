-- The chain of tests as the code goes through it, what it leaves of an accepted mirror, and the second set by either answer. Assumes nothing.
use mathlib.Core.Path.{◌≡◌, refl, sym, ap, ap₂, ◌∙◌}
use mathlib.Core.Bool.{Bool, true, false, ◌&&◌}
use mathlib.Core.List.{[], List}
use Prim.Native.Nat.{ℕ, ◌≤◌}
use native.Mathlib.Omega.{arith}
use borrow.Author.Tests.{leb-true}
use lib.Dec.{eqb, leb}
use lib.IntN.{ℤ}
use lib.ListN.{length}
use Rattle.whole.specs.laws.Bools.{and_left, and_right}
use Rattle.whole.specs.Fold.{tab}
use Rattle.lattice.specs.Lattice.{d3q19}
use Rattle.grid.specs.declared.Sides.{Sides}
use Rattle.grid.specs.Answer.{Answer}
use Rattle.grid.specs.Answer.{Done}
use Rattle.grid.specs.Grid.{cells_of, sides_good}
use Rattle.grid.specs.State.{Lent, lent, state_of, lent_of}
use Rattle.grid.proofs.Accepted.{passed}
use Rattle.pumps.specs.Three.{three_lengths, three_good, three_answer}
use Rattle.pumps.proofs.Checked.{four, carry-three, head-sized, then-checked}
use Rattle.index.specs.Index.{Index, words_of, index_of, index_sized}
use Rattle.index.specs.Held.{Held, held, indexed}
use Rattle.index.specs.inner.Laid.{Room}
use Rattle.index.proofs.Flagged.{room_of}
use Rattle.mirror.specs.Mirror.{mirror_of, mirrored, mirrored_set}
use Rattle.mirror.proofs.Lattices.{turns19}
use Rattle.mirroring.specs.Turned.{turned_set, axes_of, turned}
use Rattle.mirroring.specs.Outcome.{mirror_answer, if_done, mirror_second}
use Rattle.mirroring.specs.Promise.{Mirrored}
use Rattle.mirroring.specs.inner.Between.{dir_in, table_mirror, Celled, Directed, Turnable}
use Rattle.mirroring.proofs.Reflected.{directed, by-table}
use Rattle.grid.proofs.Inside.{few as few-cells}
use Rattle.grid.specs.declared.refusals.Refusal.TheVariants.{BadLength, BadSetting, BadSides}
use Rattle.std.specs.Prelude.{Err}
use Rattle.grid.specs.declared.refusals.Refusal.{Refusal}

-- a set without its totals
abbrev pub bare : Lent → Lent
bare a = lent a.flags a.parts a.masses a.fills []

module _ (s : Sides) (axis : ℕ) (a : Lent) (b : Held) where
  abbrev lengths : Bool
  lengths = (three_lengths (cells_of s) a && three_lengths (cells_of s) b.set) && index_sized (cells_of s) b.index

  -- ---- the tests, one by one
  pub sides-refused : sides_good s ≡ false → Err BadSides ≡ mirror_answer s axis a b
  unfolding mirror_answer
  sides-refused e = rw e refl

  pub lengths-told : {n : ℕ} {u v w : Bool} → n ≡ cells_of s → u ≡ (eqb (length a.carry) 3 && four s a n) → v ≡ (eqb (length b.set.carry) 3 && four s b.set n)
      → w ≡ (eqb (length b.index.words) (words_of n) && eqb (length b.index.count) 1) → ((u && v) && w) ≡ lengths
  unfolding three_lengths index_sized
  lengths-told e p q r =
      ap₂ (λ (y z : Bool). y && z) (ap₂ (λ (y z : Bool). y && z) p q) r ∙ ap (λ (m : ℕ). (three_lengths m a && three_lengths m b.set) && index_sized m b.index) e

  module _ (g : sides_good s ≡ true) where
    pub lengths-refused : lengths ≡ false → Err BadLength ≡ mirror_answer s axis a b
    unfolding mirror_answer
    lengths-refused e = rw (g, e) refl

    module _ (l : lengths ≡ true) where
      pub axis-refused : leb axis 2 ≡ false → Err (BadSetting 0) ≡ mirror_answer s axis a b
      unfolding mirror_answer
      axis-refused e = rw (g, l, e) refl

      pub then-tested : leb axis 2 ≡ true → three_good s a Done ≡ mirror_answer s axis a b
      unfolding mirror_answer
      then-tested e = rw (g, l, e) refl

      pub first_three : three_lengths (cells_of s) a ≡ true
      first_three = and_left (three_lengths (cells_of s) a) (three_lengths (cells_of s) b.set) (and_left (three_lengths (cells_of s) a && three_lengths (cells_of s) b.set) (index_sized (cells_of s) b.index) l)

      pub second-three : three_lengths (cells_of s) b.set ≡ true
      second-three = and_right (three_lengths (cells_of s) a) (three_lengths (cells_of s) b.set) (and_left (three_lengths (cells_of s) a && three_lengths (cells_of s) b.set) (index_sized (cells_of s) b.index) l)

      pub second-room : Room (cells_of s) b.index
      second-room = room_of (cells_of s) b.index (few-cells s g) (and_right (three_lengths (cells_of s) a && three_lengths (cells_of s) b.set) (index_sized (cells_of s) b.index) l)

  -- ---- an accepted mirror
  celled : (d : Lent) → three_lengths (cells_of s) d ≡ true → Celled 18 (cells_of s) (bare d)
  celled d l = let z = head-sized s d l in record { flags = z.flags; parts = z.parts; masses = z.masses; fills = z.fills }

  box-directed : (dirs : List ℕ) → dirs ≡ tab 19 (dir_in d3q19 axis) → Directed 19 dirs
  unfolding d3q19
  box-directed dirs e = directed d3q19 (omega arith) axis dirs e (turns19 (axes_of axis))

  pub record Accepted : Type 0 where
    pub axis-good : axis ≤ 2
    pub turnable : (dirs : List ℕ) → dirs ≡ tab 19 (dir_in d3q19 axis) → Turnable s 18 dirs (bare a) (bare b.set)
    pub second-flags : length b.set.flags ≡ cells_of s
    pub first-carry : length a.carry ≡ 3
    pub second-carry : length b.set.carry ≡ 3
    pub room : Room (cells_of s) b.index
    pub good : three_answer s a ≡ Done

  pub accepted : mirror_answer s axis a b ≡ Done → Accepted
  unfolding mirror_answer
  accepted e =
      let x = passed (sides_good s) BadSides _ e in
      let y = passed lengths BadLength _ x.1 in
      let z = passed (leb axis 2) (BadSetting 0) _ y.1 in
      record {
        axis-good = leb-true axis 2 z.0;
        turnable = λ dirs t. record {
          few = few-cells s x.0;
          narrow = omega arith;
          directed = box-directed dirs t;
          first = celled a (first_three x.0 y.0);
          second = celled b.set (second-three x.0 y.0);
        };
        second-flags = (celled b.set (second-three x.0 y.0)).flags;
        first-carry = carry-three s a (first_three x.0 y.0);
        second-carry = carry-three s b.set (second-three x.0 y.0);
        room = second-room x.0 y.0;
        good = sym (then-checked s a x.0 (first_three x.0 y.0)) ∙ z.1;
      }

  -- ---- what either answer leaves
  pub refused : {refusal : Refusal} → Err refusal ≡ mirror_answer s axis a b → Mirrored s axis a b (Err refusal) b
  unfolding mirror_second
  refused e = record { answer-is = e; second_is = ap (λ (x : Answer). if_done x (indexed s (turned s axis a)) b) e }

  -- the cells do not look at the totals
  totals-aside : lent (turned s axis (bare a)).flags (turned s axis (bare a)).parts (turned s axis (bare a)).masses (turned s axis (bare a)).fills a.carry ≡ turned s axis a
  unfolding turned turned_set mirrored_set mirrored lent_of state_of
  totals-aside = refl

  -- by the table of directions
  tabled : (dirs : List ℕ) → dirs ≡ tab 19 (dir_in d3q19 axis) → turned_set (table_mirror s axis dirs) 18 (cells_of s) (bare a) ≡ turned s axis (bare a)
  unfolding turned mirror_of d3q19
  tabled dirs e = by-table d3q19 (omega arith) axis dirs e s (cells_of s) (bare a)

  pub done : mirror_answer s axis a b ≡ Done → {dirs : List ℕ} {d : Lent} {carry : List ℤ} {x : Index} → dirs ≡ tab 19 (dir_in d3q19 axis)
      → d ≡ turned_set (table_mirror s axis dirs) 18 (cells_of s) (bare a) → carry ≡ a.carry → length d.flags ≡ cells_of s
      → x ≡ index_of (length d.flags) d.flags → Mirrored s axis a b Done (held (lent d.flags d.parts d.masses d.fills carry) x)
  unfolding mirror_second indexed
  done e {dirs} {d} {carry} {x} r t k l i = record {
    answer-is = sym e;
    second_is =
        ap₂ held made (i ∙ ap₂ index_of l (ap (λ (y : Lent). y.flags) made))
        ∙ sym (ap (λ (y : Answer). if_done y (held (turned s axis a) (index_of (cells_of s) (turned s axis a).flags)) b) e);
  }
    where
      made : lent d.flags d.parts d.masses d.fills carry ≡ turned s axis a
      made = ap₂ (λ (y : Lent) (z : List ℤ). lent y.flags y.parts y.masses y.fills z) (t ∙ tabled dirs r) k ∙ totals-aside
