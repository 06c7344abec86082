-- The chain of tests as the code goes through it, what it leaves of an accepted mirror, and the second set by either answer. Assumes nothing.
use mathlib.Core.Path.{◌≡◌, refl, sym, ap, ap₂, ◌∙◌}
use mathlib.Core.Bool.{Bool, true, false, ◌&&◌}
use mathlib.Core.List.{List}
use Prim.Native.Nat.{ℕ, ◌*◌}
use native.Mathlib.Omega.{arith}
use lib.Dec.{eqb}
use lib.IntN.{ℤ}
use lib.ListN.{length}
use Rattle.whole.specs.laws.Bools.{and_left, and_right}
use Rattle.whole.specs.Fold.{tab}
use Rattle.lattice.specs.Lattice.{d2q9}
use Rattle.grid.specs.Answer.{Answer}
use Rattle.grid.specs.Answer.{Done}
use Rattle.grid.specs.Grid.{cells_of}
use Rattle.grid.specs.State.{Lent, lent, state_of, lent_of}
use Rattle.grid.specs.Outcome.{good_answer}
use Rattle.grid.proofs.Accepted.{passed}
use Rattle.flume.specs.declared.FlumeSides.{FlumeSides}
use Rattle.flume.specs.Flume.{flume_sides_good, flume_cells, flume_grid, flume_lengths}
use Rattle.flumegrid.specs.inner.Ready.{FlumeSized}
use Rattle.flumegrid.proofs.Checks.{sized, lengths-are}
use Rattle.flumegrid.proofs.GoodSides.{few}
use Rattle.mirror.specs.Mirror.{mirrored, mirrored_set}
use Rattle.mirroring.specs.Turned.{turned_set}
use Rattle.mirroring.specs.inner.Between.{dir_in, table_mirror, Celled, Turnable}
use Rattle.mirroring.proofs.Answers.{bare}
use Rattle.flumemirroring.specs.Turned.{flume_turned}
use Rattle.flumemirroring.specs.Outcome.{flume_axis, flume_mirror_answer, if_done, flume_mirror_second}
use Rattle.flumemirroring.specs.Promise.{FlumeMirrored}
use Rattle.flumemirroring.proofs.Reflected.{flume-directed, layer_of, layer-cells, layer-turned}
use Rattle.grid.specs.declared.refusals.Refusal.TheVariants.{BadLength, BadSetting, BadSides}
use Rattle.std.specs.Prelude.{Err}
use Rattle.grid.specs.declared.refusals.Refusal.{Refusal}

module _ (s : FlumeSides) (axis : ℕ) (a b : Lent) where
  abbrev pub lengths : Bool
  lengths = flume_lengths (flume_cells s) a && flume_lengths (flume_cells s) b

  -- ---- the tests, one by one
  pub sides-refused : flume_sides_good s ≡ false → Err BadSides ≡ flume_mirror_answer s axis a b
  unfolding flume_mirror_answer
  sides-refused e = rw e refl

  pub lengths-told : {n : ℕ} {x y : Bool} → n ≡ flume_cells s
      → x ≡ (eqb (length a.flags) n && eqb (length a.parts) (9 * n) && eqb (length a.masses) n && eqb (length a.fills) n && eqb (length a.carry) 1)
      → y ≡ (eqb (length b.flags) n && eqb (length b.parts) (9 * n) && eqb (length b.masses) n && eqb (length b.fills) n && eqb (length b.carry) 1)
      → (x && y) ≡ lengths
  lengths-told e p q i = lengths-are s a e p i && lengths-are s b e q i

  module _ (g : flume_sides_good s ≡ true) where
    pub lengths-refused : lengths ≡ false → Err BadLength ≡ flume_mirror_answer s axis a b
    unfolding flume_mirror_answer
    lengths-refused e = rw (g, e) refl

    module _ (l : lengths ≡ true) where
      pub axis-refused : flume_axis axis ≡ false → Err (BadSetting 0) ≡ flume_mirror_answer s axis a b
      unfolding flume_mirror_answer
      axis-refused e = rw (g, l, e) refl

      pub then-tested : flume_axis axis ≡ true → good_answer d2q9 (flume_grid s) (state_of 8 a) Done ≡ flume_mirror_answer s axis a b
      unfolding flume_mirror_answer
      then-tested e = rw (g, l, e) refl

      pub first_good : FlumeSized (flume_cells s) a
      first_good = sized (flume_cells s) a (and_left (flume_lengths (flume_cells s) a) (flume_lengths (flume_cells s) b) l)

      pub second-good : FlumeSized (flume_cells s) b
      second-good = sized (flume_cells s) b (and_right (flume_lengths (flume_cells s) a) (flume_lengths (flume_cells s) b) l)

  -- ---- an accepted mirror
  celled : (d : Lent) → FlumeSized (flume_cells s) d → Celled 8 (cells_of (layer_of s)) (bare d)
  celled d z =
      let e = sym (layer-cells s) in
      record { flags = z.flags ∙ e; parts = z.parts ∙ ap (λ (n : ℕ). 9 * n) e; masses = z.masses ∙ e; fills = z.fills ∙ e }

  pub record Accepted : Type 0 where
    pub axis-good : flume_axis axis ≡ true
    pub turnable : (dirs : List ℕ) → dirs ≡ tab 19 (dir_in d2q9 axis) → Turnable (layer_of s) 8 dirs (bare a) (bare b)
    pub first-carry : length a.carry ≡ 1
    pub second-carry : length b.carry ≡ 1
    pub sides : flume_sides_good s ≡ true
    pub first : FlumeSized (flume_cells s) a
    pub rules : good_answer d2q9 (flume_grid s) (state_of 8 a) Done ≡ Done

  pub accepted : flume_mirror_answer s axis a b ≡ Done → Accepted
  unfolding flume_mirror_answer
  accepted e =
      let x = passed (flume_sides_good s) BadSides _ e in
      let y = passed lengths BadLength _ x.1 in
      let z = passed (flume_axis axis) (BadSetting 0) _ y.1 in
      let f = first_good x.0 y.0 in
      let g = second-good x.0 y.0 in
      record {
        axis-good = z.0;
        turnable = λ dirs t. record {
          few = omega (arith, few s x.0, layer-cells s);
          narrow = omega arith;
          directed = flume-directed axis dirs t;
          first = celled a f;
          second = celled b g;
        };
        first-carry = f.carry;
        second-carry = g.carry;
        sides = x.0;
        first = f;
        rules = z.1;
      }

  -- ---- what either answer leaves
  pub refused : {refusal : Refusal} → Err refusal ≡ flume_mirror_answer s axis a b → FlumeMirrored s axis a b (Err refusal) b
  unfolding flume_mirror_second
  refused e = record { answer-is = e; second_is = ap (λ (x : Answer). if_done x (flume_turned s axis a) b) e }

  -- the cells do not look at the carry
  carry-aside : lent (flume_turned s axis (bare a)).flags (flume_turned s axis (bare a)).parts (flume_turned s axis (bare a)).masses (flume_turned s axis (bare a)).fills a.carry ≡ flume_turned s axis a
  unfolding flume_turned turned_set mirrored_set mirrored lent_of state_of
  carry-aside = refl

  pub done : flume_mirror_answer s axis a b ≡ Done → {dirs : List ℕ} {d : Lent} {carry : List ℤ} → dirs ≡ tab 19 (dir_in d2q9 axis)
      → d ≡ turned_set (table_mirror (layer_of s) axis dirs) 8 (cells_of (layer_of s)) (bare a) → carry ≡ a.carry
      → FlumeMirrored s axis a b Done (lent d.flags d.parts d.masses d.fills carry)
  unfolding flume_mirror_second
  done e {dirs} {d} {carry} r t k = record {
    answer-is = sym e;
    second_is =
        ap₂ (λ (y : Lent) (z : List ℤ). lent y.flags y.parts y.masses y.fills z) (t ∙ layer-turned s axis dirs (bare a) r) k
        ∙ carry-aside ∙ sym (ap (λ (y : Answer). if_done y (flume_turned s axis a) b) e);
  }
