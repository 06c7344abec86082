-- From the next state's flags, parts and masses to what the fills pass asks, and from what it leaves to the next state's fills. Assumes nothing.
use mathlib.Core.Path.{◌≡◌, refl, sym, ap, ap₂, ◌∙◌, subst}
use mathlib.Core.Bool.{Bool, true, false, ◌||◌, not, cond}
use mathlib.Core.List.{List, []}
use Prim.Native.Nat.{ℕ, zero, suc, ◌≤◌, ◌<◌}
use native.Mathlib.Omega.{arith}
use lib.Dec.{eqb}
use lib.IntN.{ℤ, pos}
use lib.ListN.{length, get_or}
use borrow.Author.Tests.{eq-eqb}
use Rattle.lattice.specs.Body.{collided_part, relaxed_dir, equilibrium_dir, equilibrium_part}
use Rattle.whole.specs.laws.Bools.{and-true, where-then, cond_no}
use Rattle.whole.specs.Fold.{tab, first}
use Rattle.whole.specs.laws.Machine.{Within}
use Rattle.whole.specs.laws.Search.{all-at}
use Rattle.whole.specs.laws.Tab.{get_or-tab, length-tab, tab-cong}
use Rattle.lattice.specs.Lattice.{dot, d3q19, density}
use Rattle.lattice.specs.Cell.{dense, slow, mass_good, relaxation_good}
use Rattle.lattice.specs.inner.Held.{Tame, steady_flow}
use Rattle.lattice.specs.declared.Flow.{Flow}
use Rattle.lattice.specs.declared.Settings.{Settings}
use Rattle.lattice.proofs.Ranges.{relaxation-in}
use Rattle.lattice.proofs.Tame.{steady-tame}
use Rattle.grid.specs.State.{Scene, by_flag, liquid}
use Rattle.grid.specs.Step.{streamed_density, streamed_momentum, unsteady, collided_dir, collided, filled, emptied, beside_filled, beside_emptied, flag_after, new_flag, liquid_near, born_density, born_momentum, born_dir, born, new_part, new_mass, fill_for, new_fill}
use Rattle.grid.specs.inner.Sight.{Around, sight}
use Rattle.grid.proofs.Dense.{born-part}
use Rattle.grid.proofs.Moved.{density-collided, density-born}
use Rattle.grid.proofs.Same.{density-same}
use Rattle.flow.proofs.Collisions.{relaxation-of}
use Rattle.flow.proofs.Modes.{relax-good}
use Rattle.flow.proofs.Onward.{collided-seen}
use Rattle.arrivals.proofs.Spans.{Light, light-low, streamed-in}
use Rattle.conversion.specs.inner.Born.{TestedOn}
use Rattle.grid.specs.inner.Fill.{Weighty}
use Rattle.fills.specs.inner.Filled.{Refilled, fill_at, fair_mass, fair_at}
use Rattle.conversion.proofs.Births.{wet-low}
use Rattle.conversion.proofs.Means.{born-tame}
use Rattle.conversion.proofs.Field.{Field, scene_in, sight_in, Standing}
use Rattle.conversion.proofs.Offspring.{near_of, tested, within, around, born-seen, fed, is-born}
use Rattle.step.proofs.Heavy.{equilibrium-in, relaxed-in, weighty, weighty-same, quad-of}

-- ---- one cell, as a function of one cell sees it
module _ (weights : ℕ → ℕ) (light : Light weights) (flags : List ℕ) (part : ℕ → ℕ → ℤ) (fills off : List ℕ) (low : ℕ) (g : Settings) (t : TestedOn weights flags part fills off low g) (relax : relaxation_good g.p ≡ true) (c : ℕ) where
  abbrev S : Scene
  S = sight weights flags part [] fills off low g

  module _ (h : c < length flags) (l : liquid (get_or flags c 3) ≡ true) where
    abbrev flow : Flow
    flow = record { rho = streamed_density S c; x = (streamed_momentum S c).x; y = (streamed_momentum S c).y; z = (streamed_momentum S c).z }

    tame : Tame flow
    unfolding steady_flow
    tame = steady-tame flow (and-true (dense (streamed_density S c)) (slow (streamed_density S c) (dot (streamed_momentum S c) (streamed_momentum S c))) (t.is-dense c h l) (t.is-slow c h l))

    moved_in : (i : ℕ) → 1 ≤ i → i < 19 → Within (collided_dir S c i) 33554432
    unfolding relaxed_dir sight
    moved_in i z k =
        relaxed-in tame.low tame.rho (relaxation-in (S.relax c) (relax-good g.turbulent _ g.p c relax)) (light-low light i z k) (quad-of flow tame i k)
        (streamed-in weights light flags part fills off low g t.bodies c (t.around c h (wet-low (get_or flags c 3) l)) l i (omega arith))

    pub collided-weighty : Weighty (collided S c)
    unfolding collided collided_part sight d3q19 density
    collided-weighty =
        weighty (streamed_density S c) (collided_dir S c) (collided S c) refl (λ a. refl) tame.low tame.rho moved_in (density-collided S c)

  module _ (a : Around (length flags) off low c) (some : 0 < liquid_near S c) where
    abbrev beginning : Flow
    beginning = record { rho = born_density S c; x = (born_momentum S c).x; y = (born_momentum S c).y; z = (born_momentum S c).z }

    begun : Tame beginning
    begun = born-tame weights flags part fills off low g c t a (record { rho = refl; momentum = refl }) some

    born-in : (i : ℕ) → 1 ≤ i → i < 19 → Within (born_dir S c i) 33554432
    unfolding equilibrium_dir sight
    born-in i z k = equilibrium-in begun.low begun.rho (light-low light i z k) (quad-of beginning begun i k)

    pub born-weighty : Weighty (born S c)
    unfolding born equilibrium_part sight d3q19 density
    born-weighty = weighty (born_density S c) (born_dir S c) (born S c) refl (λ b. refl) begun.low begun.rho born-in (density-born S c)

-- ---- the next state of a field
kept : (fi em : Bool) → ◌≡◌ {A = ℕ} (cond fi 2 (cond em 0 1)) 1 → em ≡ false
kept true em e = absurd (omega arith)
kept false true e = absurd (omega arith)
kept false false e = refl

module _ (F : Field) (r : Standing F) (fast : F.cells ≤ first F.cells (unsteady (scene_in F))) where
  abbrev step : Scene
  step = scene_in F

  abbrev seen : Scene
  seen = sight_in F

  abbrev flag : ℕ → ℕ
  flag c = get_or F.flags c 3

  calm : TestedOn F.weights F.flags F.part F.fills F.off F.low F.g
  calm = tested F r fast

  listed : {c : ℕ} → c < F.cells → c < length F.flags
  listed {c} h = subst (λ (n : ℕ). c < n) (sym r.count) h

  -- a cell that stays liquid, and a new interface cell
  wet-weighty : (c : ℕ) → c < F.cells → liquid (flag c) ≡ true → Weighty (collided step c)
  wet-weighty c h l =
      weighty-same (collided seen c) (collided step c)
      (λ k m. collided-seen F.weights F.grid F.g F.flags F.part F.masses F.fills F.carry F.off F.low c (near_of F r c h) l k m)
      (collided-weighty F.weights r.light F.flags F.part F.fills F.off F.low F.g calm (relaxation-of F.g r.settings) c (listed h) l)

  new-weighty : (c : ℕ) → c < F.cells → flag c ≡ 0 → new_flag step c ≡ 1 → Weighty (new_part step c)
  new-weighty c h z n =
      weighty-same (born seen c) (new_part step c)
      (λ k m. born-seen F r c (within F r c h (omega arith)) k ∙ sym (born-part step c z n k))
      (born-weighty F.weights r.light F.flags F.part F.fills F.off F.low F.g calm (relaxation-of F.g r.settings) c (around F r c h (omega arith))
      (fed F r (tab F.cells (new_flag step)) refl c h (is-born F r (tab F.cells (new_flag step)) refl c h z n)))

  pub next-weighty : (c : ℕ) → c < F.cells → new_flag step c ≡ 1 → Weighty (new_part step c)
  unfolding new_part new_flag
  next-weighty c h n = go (flag c) refl
    where
      go : (f : ℕ) → flag c ≡ f → Weighty (new_part step c)
      go zero e = new-weighty c h e n
      go (suc zero) e =
          let k = kept (filled step c) (emptied step c) (subst (λ (f : ℕ). flag_after f (beside_filled step c) (filled step c) (emptied step c) (beside_emptied step c) ≡ 1) e n) in
          weighty-same (collided step c) (new_part step c)
          (λ i l. sym (ap (λ (f : ℕ). by_flag f (cond (beside_filled step c) (born step c i) (pos 0)) (cond (emptied step c) (pos 0) (collided step c i)) (collided step c i) (pos 0)) e ∙ cond_no (pos 0) (collided step c i) k))
          (wet-weighty c h (ap liquid e))
      go (suc (suc zero)) e =
          weighty-same (collided step c) (new_part step c)
          (λ i l. sym (ap (λ (f : ℕ). by_flag f (cond (beside_filled step c) (born step c i) (pos 0)) (cond (emptied step c) (pos 0) (collided step c i)) (collided step c i) (pos 0)) e))
          (wet-weighty c h (ap liquid e))
      go (suc (suc (suc m))) e =
          absurd (omega (arith, subst (λ (f : ℕ). flag_after f (beside_filled step c) (filled step c) (emptied step c) (beside_emptied step c) ≡ 1) e n))

  -- ---- as the passes hold it
  module _ {flags2 : List ℕ} {part2 : ℕ → ℕ → ℤ} {masses2 : List ℤ} (flags-are : flags2 ≡ tab F.cells (new_flag step))
      (part-is : (c k : ℕ) → c < F.cells → k < 19 → part2 c k ≡ new_part step c k) (masses-are : masses2 ≡ tab F.cells (new_mass step)) where
    pub flags-count : length flags2 ≡ F.cells
    flags-count = ap length flags-are ∙ length-tab F.cells (new_flag step)

    flag_at : (c : ℕ) → c < F.cells → get_or flags2 c 3 ≡ new_flag step c
    flag_at c h = ap (λ (l : List ℕ). get_or l c 3) flags-are ∙ get_or-tab F.cells (new_flag step) 3 c h

    mass-at : (c : ℕ) → c < F.cells → get_or masses2 c (pos 0) ≡ new_mass step c
    mass-at c h = ap (λ (l : List ℤ). get_or l c (pos 0)) masses-are ∙ get_or-tab F.cells (new_mass step) (pos 0) c h

    -- what the pass over fills asks of an interface cell
    pub fills-weighty : (c : ℕ) → c < length flags2 → get_or flags2 c 3 ≡ 1 → Weighty (part2 c)
    fills-weighty c h e =
        let k = subst (λ (n : ℕ). c < n) flags-count h in
        weighty-same (new_part step c) (part2 c) (λ i l. sym (part-is c i k (omega arith))) (next-weighty c k (sym (flag_at c k) ∙ e))

    -- what the pass leaves is the next state's
    module _ {fills2 : List ℕ} {fair : Bool} (f : Refilled flags2 part2 masses2 fills2 fair) where
      fill-at : (c : ℕ) → c < F.cells → fill_at flags2 part2 masses2 c ≡ new_fill step c
      unfolding fill_at new_fill d3q19 density
      fill-at c h i =
          fill_for (flag_at c h i) (mass-at c h i) (density-same d3q19 (part2 c) (new_part step c) (λ k l. part-is c k h (omega arith)) i)

      pub fills-next : fills2 ≡ tab F.cells (new_fill step)
      fills-next =
          f.fills-are ∙ ap (λ (n : ℕ). tab n (fill_at flags2 part2 masses2)) flags-count
          ∙ tab-cong F.cells (fill_at flags2 part2 masses2) (new_fill step) 0 fill-at

      pub masses-fair : fair ≡ true → (c : ℕ) → c < F.cells → new_flag step c ≡ 1 → mass_good (new_mass step c) ≡ true
      unfolding fair_at fair_mass
      masses-fair t c h n =
          let a = all-at (length flags2) (fair_at flags2 masses2) (sym f.fair-is ∙ t) c (subst (λ (m : ℕ). c < m) (sym flags-count) h) in
          where-then (eqb (new_flag step c) 1) (mass_good (new_mass step c))
          (ap₂ (λ (f : ℕ) (m : ℤ). not (eqb f 1) || mass_good m) (sym (flag_at c h)) (sym (mass-at c h)) ∙ a) (eq-eqb (new_flag step c) 1 n)
