-- The pass over new interface cells in a list of nine parts a cell: one visit there is that visit among the nineteen places. The visits one after another are
-- the box's, over any parts. Assumes nothing.
use mathlib.Core.Path.{◌≡◌, refl, sym, ap, ◌∙◌}
use mathlib.Core.Bool.{Bool, true, false, cond}
use mathlib.Core.List.{List, []}
use Prim.Native.Nat.{ℕ, zero, suc, ◌+◌, ◌*◌, ◌≤◌, ◌<◌}
use native.Mathlib.Omega.{arith}
use lib.IntN.{ℤ, pos}
use lib.ListN.{length, get_or}
use Rattle.whole.specs.laws.Bools.{cond_yes, cond_no}
use Rattle.whole.specs.Fold.{tab}
use Rattle.whole.specs.laws.Tab.{get_or-tab}
use Rattle.lattice.specs.Lattice.{dot, d3q19, d2q9}
use Rattle.lattice.specs.Cell.{quad, cut_equilibrium}
use Rattle.lattice.specs.Body.{body_good, equilibrium_dir, equilibrium_part}
use Rattle.lattice.specs.declared.Settings.{Settings}
use Rattle.grid.specs.State.{Scene}
use Rattle.grid.specs.Step.{born_density, born_momentum, born}
use Rattle.grid.specs.inner.Sight.{sight}
use Rattle.conversion.specs.inner.Born.{later_fair}
use Rattle.conversion.proofs.Newborns.{VisitedTo}
use Rattle.flume.specs.inner.Spread.{Idle}
use Rattle.flume.proofs.Places.{spread_none, idle-dir}
use Rattle.flume.proofs.Turning.{equilibrium-none}
use Rattle.nine.specs.inner.Cells.{part_of9, pasted9, Quiet}
use Rattle.nine.proofs.Pasted.{length-pasted9, pasted-here, pasted-other}
use Rattle.flumearrivals.specs.inner.Seen.{sight9}
use Rattle.flumeconversion.specs.inner.Born.{Placed9, Visited9}

-- ---- one visit
module _ {S : Scene} {w : ℕ → Bool} {c : ℕ} {before after : List ℤ} {fair : Bool} where
  pub visited-yes : w c ≡ true → Placed9 S c before after fair → Visited9 S w c before after fair
  unfolding later_fair
  visited-yes e p = record {
    parts = p.parts ∙ sym (cond_yes (pasted9 before c (tab 19 (born S c))) before e);
    fair-is = p.fair-is ∙ sym (cond_yes (body_good d3q19 (born S c)) true e);
  }

pub visited-no : {S : Scene} {w : ℕ → Bool} {c : ℕ} (before : List ℤ) → w c ≡ false → Visited9 S w c before before true
unfolding later_fair
visited-no {S} {w} {c} before e = record {
  parts = sym (cond_no (pasted9 before c (tab 19 (born S c))) before e);
  fair-is = sym (cond_no (body_good d3q19 (born S c)) true e);
}

-- ---- a new cell begins with nothing at an idle place
module _ (flags : List ℕ) (parts : List ℤ) (fills off : List ℕ) (low : ℕ) (g : Settings) (w : ℕ → Bool) where
  abbrev S : Scene
  S = sight9 flags parts [] fills off low g

  idle-born : (c i : ℕ) → Idle i → born S c i ≡ pos 0
  unfolding born equilibrium_part equilibrium_dir sight
  idle-born c zero n = absurd (omega (arith, (idle-dir zero n).some))
  idle-born c (suc a) n =
      let Q = quad (born_density S c) (dot (d3q19.e (suc a)) (born_momentum S c)) (dot (born_momentum S c) (born_momentum S c)) in
      ap (λ (m : ℕ). cut_equilibrium m Q (born_density S c)) (spread_none 0 d2q9.weight (suc a) n) ∙ equilibrium-none Q (born_density S c)

  born-at : (c k : ℕ) → k < 19 → get_or (tab 19 (born S c)) k (pos 0) ≡ born S c k
  born-at c k l = get_or-tab 19 (born S c) (pos 0) k l

  born-quiet : (c : ℕ) → Quiet (tab 19 (born S c))
  born-quiet c = record { at = λ i n. born-at c i (omega (arith, n.low)) ∙ idle-born c i n }

  -- ---- in the list
  module _ (parts2 : List ℤ) (c : ℕ) (f : 9 * c + 9 ≤ length parts2) where
    abbrev put : Bool → List ℤ
    put b = cond b (pasted9 parts2 c (tab 19 (born S c))) parts2

    size-cases : (b : Bool) → length (put b) ≡ length parts2
    size-cases true = length-pasted9 parts2 c (tab 19 (born S c)) f
    size-cases false = refl

    here-cases : (b : Bool) (k : ℕ) → k < 19 → part_of9 (put b) c k ≡ cond b (born S c k) (part_of9 parts2 c k)
    here-cases true k l = pasted-here parts2 c (tab 19 (born S c)) f (born-quiet c) k l ∙ born-at c k l
    here-cases false k l = refl

    other-cases : (b : Bool) (j k : ℕ) → (j ≡ c → ⊥) → k < 19 → part_of9 (put b) j k ≡ part_of9 parts2 j k
    other-cases true j k n l = pasted-other parts2 c (tab 19 (born S c)) f j k n l
    other-cases false j k n l = refl

    pub visited-size : {after : List ℤ} {fair : Bool} → Visited9 S w c parts2 after fair → length after ≡ length parts2
    visited-size v = ap length v.parts ∙ size-cases (w c)

    pub visited-list : {after : List ℤ} {fair : Bool} → Visited9 S w c parts2 after fair → VisitedTo S w c (part_of9 parts2) (part_of9 after)
    visited-list v = record {
      others = λ j k n l. ap (λ (x : List ℤ). part_of9 x j k) v.parts ∙ other-cases (w c) j k n l;
      here = λ k l. ap (λ (x : List ℤ). part_of9 x c k) v.parts ∙ here-cases (w c) k l;
    }
