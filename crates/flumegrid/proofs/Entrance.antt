-- Tests 1 to 6 before a flume's step, in the outcome's order; and what an answer Done tells of the sets. Assumes nothing.
use mathlib.Core.Path.{◌≡◌, refl}
use mathlib.Core.Bool.{Bool, true, false, ◌&&◌}
use mathlib.Core.List.{List}
use Prim.Native.Nat.{ℕ, ◌*◌}
use lib.Dec.{eqb}
use lib.ListN.{length}
use borrow.Author.Tests.{eqb-true}
use Rattle.whole.specs.laws.Bools.{and_left, and_right}
use Rattle.lattice.specs.Lattice.{d2q9}
use Rattle.grid.specs.Answer.{Done}
use Rattle.grid.specs.State.{Lent, state_of}
use Rattle.grid.specs.Outcome.{good_answer, settings_good}
use Rattle.grid.proofs.Accepted.{passed}
use Rattle.flume.specs.declared.FlumeSides.{FlumeSides}
use Rattle.flume.specs.declared.FlumeSettings.{FlumeSettings}
use Rattle.flume.specs.Flume.{flume_sides_good, flume_cells, flume_grid, flume_lengths, level_settings}
use Rattle.flume.specs.Outcome.{flume_entry}
use Rattle.flumegrid.specs.inner.Ready.{FlumeSized, FlumeEntered}
use Rattle.flumegrid.proofs.Checks.{sized, lengths-are}
use Rattle.grid.specs.declared.refusals.Refusal.TheVariants.{BadLength, BadSetting, BadSides}
use Rattle.std.specs.Prelude.{Err}

module _ (s : FlumeSides) (g : FlumeSettings) (a b : Lent) (marks : List ℕ) where
  -- test 2 of both sets and the marks
  abbrev pub lengths : Bool
  lengths = flume_lengths (flume_cells s) a && flume_lengths (flume_cells s) b && eqb (length marks) (flume_cells s)

  pub lengths-told : {n : ℕ} {x y : Bool} → n ≡ flume_cells s
      → x ≡ (eqb (length a.flags) n && eqb (length a.parts) (9 * n) && eqb (length a.masses) n && eqb (length a.fills) n && eqb (length a.carry) 1)
      → y ≡ (eqb (length b.flags) n && eqb (length b.parts) (9 * n) && eqb (length b.masses) n && eqb (length b.fills) n && eqb (length b.carry) 1)
      → (x && y && eqb (length marks) n) ≡ lengths
  lengths-told e p q i = lengths-are s a e p i && lengths-are s b e q i && eqb (length marks) (e i)

  pub refuses-sides : flume_sides_good s ≡ false → Err BadSides ≡ flume_entry s g a b marks Done
  unfolding flume_entry
  refuses-sides e = rw e refl

  module _ (es : flume_sides_good s ≡ true) where
    pub refuses-lengths : lengths ≡ false → Err BadLength ≡ flume_entry s g a b marks Done
    unfolding flume_entry flume_lengths
    refuses-lengths e = rw (es, e) refl

    module _ (el : lengths ≡ true) where
      pub first_good : FlumeSized (flume_cells s) a
      first_good =
          sized (flume_cells s) a (and_left (flume_lengths (flume_cells s) a) (flume_lengths (flume_cells s) b)
          (and_left (flume_lengths (flume_cells s) a && flume_lengths (flume_cells s) b) (eqb (length marks) (flume_cells s)) el))

      pub second-good : FlumeSized (flume_cells s) b
      second-good =
          sized (flume_cells s) b (and_right (flume_lengths (flume_cells s) a) (flume_lengths (flume_cells s) b)
          (and_left (flume_lengths (flume_cells s) a && flume_lengths (flume_cells s) b) (eqb (length marks) (flume_cells s)) el))

      pub refuses-settings : settings_good (level_settings g) ≡ false → Err (BadSetting 0) ≡ flume_entry s g a b marks Done
      unfolding flume_entry flume_lengths
      refuses-settings e = rw (es, el, e) refl

      pub then-good : settings_good (level_settings g) ≡ true → good_answer d2q9 (flume_grid s) (state_of 8 a) Done ≡ flume_entry s g a b marks Done
      unfolding flume_entry flume_lengths
      then-good e = rw (es, el, e) refl

  -- a step that passes them
  pub enters : flume_entry s g a b marks Done ≡ Done → FlumeEntered s g a b marks
  unfolding flume_entry flume_lengths
  enters e =
      let x = passed (flume_sides_good s) BadSides _ e in
      let y = passed lengths BadLength _ x.1 in
      let z = passed (settings_good (level_settings g)) (BadSetting 0) _ y.1 in
      record {
        ready = record { sides = x.0; sized = first_good x.0 y.0; settings = z.0; good = z.1 };
        second = second-good x.0 y.0;
        marks-room = eqb-true (length marks) (flume_cells s) (and_right (flume_lengths (flume_cells s) a && flume_lengths (flume_cells s) b) (eqb (length marks) (flume_cells s)) y.0);
      }
