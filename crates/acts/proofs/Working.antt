-- An act on one cell: refused it writes nothing, accepted it writes mass, fill and total. Assumes nothing.
use mathlib.Core.Path.{◌≡◌, ap, ◌∙◌}
use mathlib.Core.Bool.{Bool, true, false}
use mathlib.Core.List.{List}
use Prim.Native.Nat.{ℕ}
use lib.IntN.{ℤ, pos, ◌+ℤ◌}
use lib.ListN.{get_or, set}
use Rattle.lattice.specs.Lattice.{d3q19, density}
use Rattle.lattice.specs.Cell.{fill_of}
use Rattle.grid.specs.State.{part_of}
use Rattle.pumps.specs.Acts.{moved_of, mass_of, act_good}
use Rattle.pumps.specs.inner.Working.{Worked}
use Rattle.std.specs.Prelude.{Ok, Err}
use Rattle.grid.specs.declared.refusals.Refusal.TheVariants.{BadAmount}

module _ (pour : Bool) (c : ℕ) (amount : ℤ) (k : ℕ) (parts masses : List ℤ) (fills : List ℕ) (carry : List ℤ) where
  abbrev m : ℤ
  m = get_or masses c (pos 0)

  abbrev t : ℤ
  t = moved_of pour amount m

  abbrev good : Bool
  good = act_good pour amount m (get_or carry k (pos 0))

  pub work_none : good ≡ false → Worked pour c amount k parts masses fills carry (Err BadAmount) masses fills carry
  work_none e = record { answer-is = simp e; masses-are = simp e; fills-are = simp e; carry-is = simp e }

  pub work-done : good ≡ true → (moved mass total : ℤ) (fill : ℕ) → moved ≡ t → mass ≡ mass_of pour m t → fill ≡ fill_of (mass_of pour m t) (density d3q19 (part_of parts c)) → total ≡ get_or carry k (pos 0) +ℤ t
      → Worked pour c amount k parts masses fills carry (Ok moved) (set masses c mass) (set fills c fill) (set carry k total)
  work-done e moved mass total fill em es ef et =
      record {
        answer-is = ap Ok em ∙ simp e;
        masses-are = ap (set masses c) es ∙ simp e;
        fills-are = ap (set fills c) ef ∙ simp e;
        carry-is = ap (set carry k) et ∙ simp e;
      }
