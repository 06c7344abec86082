-- From the step's scene to what the pass over new interface cells asks, and from what it leaves to the step's scene: a field that passed stage 3's test, new
-- flags, and moved parts. Assumes nothing.
use mathlib.Core.Path.{◌≡◌, refl, sym, ap, ap₂, ◌∙◌, subst}
use mathlib.Core.Bool.{Bool, true, false, ◌&&◌, not, cond, false≢true}
use mathlib.Core.List.{List}
use Prim.Native.Nat.{ℕ, zero, suc, ◌+◌, ◌-◌, ◌≤◌, ◌<◌}
use native.Mathlib.Omega.{arith}
use lib.Dec.{eqb}
use lib.IntN.{ℤ, pos}
use lib.ListN.{length, get_or}
use borrow.Author.Tests.{eqb-true, eq-eqb, ne_eqb}
use Rattle.whole.specs.laws.Bools.{and_left, and_right, and-true, cond_yes, cond_no}
use Rattle.whole.specs.Fold.{tab, all, count, first}
use Rattle.whole.specs.laws.Search.{all-at, first-none}
use Rattle.whole.specs.laws.Sums.{sum-cong}
use Rattle.whole.specs.laws.Tab.{get_or-tab, length-tab}
use Rattle.lattice.specs.Lattice.{V3, dot, d3q19}
use Rattle.lattice.specs.Cell.{cut, floor, dense, slow, relaxation_good, gravity_good}
use Rattle.lattice.specs.Body.{equilibrium_dir, equilibrium_part, body_good}
use Rattle.lattice.proofs.Paired.{paired19}
use Rattle.grid.specs.State.{Scene, by_flag, liquid}
use Rattle.grid.specs.Step.{streamed_density, streamed_momentum, unsteady, filled, beside_filled, emptied, beside_emptied, flag_after, new_flag, liquid_near, near_sum, born_density, born_momentum, born, new_part, collided}
use Rattle.grid.specs.Outcome.{settings_good}
use Rattle.grid.specs.inner.Between.{moved_part, born_part}
use Rattle.grid.specs.inner.Passes.{Amid}
use Rattle.grid.specs.inner.Sight.{weighing, Around, sight}
use Rattle.grid.proofs.Dense.{has-liquid, born-part}
use Rattle.grid.proofs.Same.{body_same}
use Rattle.arrivals.specs.inner.Trade.{Fills}
use Rattle.flow.proofs.Onward.{density-seen, fast-seen}
use Rattle.flow.proofs.Plain.{axial19, streamed-momentum-same}
use Rattle.conversion.specs.inner.Born.{TestedOn, newly_born, later_part, later_fair}
use Rattle.conversion.proofs.Amounts.{inner-cell}
use Rattle.conversion.proofs.Births.{wet-low}
use Rattle.conversion.proofs.Field.{Field, scene_in, sight_in, Standing}
use Rattle.whole.specs.laws.Counts.{count-cong}

-- ---- counts

-- what is not unsteady is dense and slow
steady-both : (l d s : Bool) → l ≡ true → (l && not (d && s)) ≡ false → (d ≡ true) × (s ≡ true)
steady-both true true true w e = (refl, refl)
steady-both true true false w e = absurd (false≢true (sym e))
steady-both true false s w e = absurd (false≢true (sym e))
steady-both false d s w e = absurd (false≢true w)

-- an empty cell that is interface afterwards is born; any other keeps its parts
later-cases : (f : ℕ) (bf fi em be : Bool) (b k : ℤ)
    → cond (eqb f 0 && eqb (flag_after f bf fi em be) 1) b (by_flag f (pos 0) k k (pos 0)) ≡ by_flag f (cond bf b (pos 0)) k k (pos 0)
later-cases zero true fi em be b k = refl
later-cases zero false fi em be b k = refl
later-cases (suc zero) bf fi em be b k = refl
later-cases (suc (suc zero)) bf fi em be b k = refl
later-cases (suc (suc (suc n))) bf fi em be b k =
    cond_no b (pos 0) (ap (λ (t : Bool). t && eqb (flag_after (suc (suc (suc n))) bf fi em be) 1) (ne_eqb (suc (suc (suc n))) 0 (λ e. omega arith)))

pick : (w : Bool) (b d x : ℤ) → (w ≡ true → b ≡ d) → cond w b x ≡ cond w d x
pick true b d x h = h refl
pick false b d x h = refl

module _ (F : Field) (r : Standing F) where
  abbrev step : Scene
  step = scene_in F

  abbrev seen : Scene
  seen = sight_in F

  abbrev flag : ℕ → ℕ
  flag c = get_or F.flags c 3

  is-cell : {c : ℕ} → c < length F.flags → c < F.cells
  is-cell {c} h = subst (λ (n : ℕ). c < n) r.count h

  -- no wall, so inner
  pub within : (c : ℕ) → c < F.cells → flag c < 3 → Amid F.cells F.low c
  within c h f = inner-cell F r c h (λ e. absurd (omega arith))

  pub near_of : (c : ℕ) → c < F.cells → liquid (flag c) ≡ true → (i : ℕ) → i < 19 → c - F.low + get_or F.off i 0 ≡ F.grid.near c i
  near_of c h l i k = r.place c i (within c h (wet-low (flag c) l)) k

  pub around : (c : ℕ) → c < F.cells → flag c < 3 → Around (length F.flags) F.off F.low c
  around c h f =
      let n = within c h f in
      subst (λ (m : ℕ). Around m F.off F.low c) (sym r.count)
      (record {
        is-cell = h;
        from = n.from;
        each = λ i k. subst (λ (m : ℕ). m < F.cells) (sym (r.place c i n k)) (r.near-low c i n k);
        self = r.place c 0 n (omega arith) ∙ r.self c;
      })

  pub fills-good : Fills F.flags F.fills
  fills-good = record { count = r.fills-count ∙ sym r.count; low = λ c h. r.fill c (is-cell h) }

  pub gravity : gravity_good F.g.gx F.g.gy F.g.gz ≡ true
  unfolding settings_good
  gravity = and_right (relaxation_good F.g.p) (gravity_good F.g.gx F.g.gy F.g.gz) r.settings

  module _ (fast : F.cells ≤ first F.cells (unsteady step)) where
    steady : (c : ℕ) → c < F.cells → liquid (flag c) ≡ true
        → (dense (streamed_density seen c) ≡ true) × (slow (streamed_density seen c) (dot (streamed_momentum seen c) (streamed_momentum seen c)) ≡ true)
    unfolding unsteady sight
    steady c h l =
        steady-both (liquid (flag c)) (dense (streamed_density seen c)) (slow (streamed_density seen c) (dot (streamed_momentum seen c) (streamed_momentum seen c))) l
        (fast-seen F.weights F.grid F.g F.flags F.part F.masses F.fills F.carry F.off F.low c (near_of c h) ∙ first-none F.cells (unsteady step) fast c h)

    pub tested : TestedOn F.weights F.flags F.part F.fills F.off F.low F.g
    tested = record {
      bodies = record { few = subst (λ (n : ℕ). n ≤ 262144) (sym r.count) r.few; body = λ c h l. r.body c (is-cell h) l };
      around = λ c h f. around c (is-cell h) f;
      is-dense = λ c h l. (steady c (is-cell h) l).0;
      is-slow = λ c h l. (steady c (is-cell h) l).1;
    }

  -- ---- the means of a cell that was empty
  momentum-seen : (c : ℕ) → c < F.cells → liquid (flag c) ≡ true → streamed_momentum seen c ≡ streamed_momentum step c
  unfolding sight d3q19
  momentum-seen c h l =
      streamed-momentum-same (weighing F.weights) paired19.dir axial19 seen.grid step.grid step.old.flag step.old.part step.old.fill c
      (λ i d. near_of c h l i (omega arith))
      seen.old.mass step.old.mass seen.old.carry step.old.carry step.g seen.relax step.relax

  module _ (c : ℕ) (inner : Amid F.cells F.low c) where
    place : (a : ℕ) → a < 18 → seen.grid.near c (suc a) ≡ step.grid.near c (suc a)
    unfolding sight
    place a k = r.place c (suc a) inner (omega arith)

    near-cell : (a : ℕ) → a < 18 → seen.grid.near c (suc a) < F.cells
    unfolding sight
    near-cell a k = let l : suc a < 19 = omega arith in subst (λ (m : ℕ). m < F.cells) (sym (r.place c (suc a) inner l)) (r.near-low c (suc a) inner l)

    pub liquid-seen : liquid_near seen c ≡ liquid_near step c
    unfolding liquid_near sight d3q19
    liquid-seen =
        count-cong 18 (λ a. liquid (flag (seen.grid.near c (suc a)))) (λ a. liquid (flag (step.grid.near c (suc a))))
        (λ a k. ap (λ (n : ℕ). liquid (flag n)) (place a k))

    sum-seen : (f h : ℕ → ℤ) → ((d : ℕ) → d < F.cells → liquid (flag d) ≡ true → f d ≡ h d) → near_sum seen c f ≡ near_sum step c h
    unfolding near_sum sight d3q19
    sum-seen f h e =
        sum-cong 18 (λ a. cond (liquid (flag (seen.grid.near c (suc a)))) (f (seen.grid.near c (suc a))) (pos 0))
        (λ a. cond (liquid (flag (step.grid.near c (suc a)))) (h (step.grid.near c (suc a))) (pos 0))
        (λ a k. go a k (liquid (flag (seen.grid.near c (suc a)))) refl)
      where
        go : (a : ℕ) → a < 18 → (b : Bool) → liquid (flag (seen.grid.near c (suc a))) ≡ b
            → cond (liquid (flag (seen.grid.near c (suc a)))) (f (seen.grid.near c (suc a))) (pos 0)
            ≡ cond (liquid (flag (step.grid.near c (suc a)))) (h (step.grid.near c (suc a))) (pos 0)
        go a k true l =
            cond_yes (f (seen.grid.near c (suc a))) (pos 0) l ∙ e (seen.grid.near c (suc a)) (near-cell a k) l
            ∙ sym (cond_yes (h (seen.grid.near c (suc a))) (pos 0) l)
            ∙ ap (λ (n : ℕ). cond (liquid (flag n)) (h n) (pos 0)) (place a k)
        go a k false l =
            cond_no (f (seen.grid.near c (suc a))) (pos 0) l
            ∙ sym (cond_no (h (seen.grid.near c (suc a))) (pos 0) l)
            ∙ ap (λ (n : ℕ). cond (liquid (flag n)) (h n) (pos 0)) (place a k)

    density-born-seen : born_density seen c ≡ born_density step c
    unfolding born_density
    density-born-seen =
        ap₂ (λ (z : ℤ) (k : ℕ). floor z k)
        (sum-seen (streamed_density seen) (streamed_density step)
        (λ d h l. density-seen F.weights F.grid F.g F.flags F.part F.masses F.fills F.carry F.off F.low d (near_of d h) l)) liquid-seen

    part-of-mean : (e : V3 → ℤ) → cut (near_sum seen c (λ d. e (streamed_momentum seen d))) (pos (liquid_near seen c)) ≡ cut (near_sum step c (λ d. e (streamed_momentum step d))) (pos (liquid_near step c))
    part-of-mean e =
        ap₂ (λ (z : ℤ) (k : ℕ). cut z (pos k))
        (sum-seen (λ d. e (streamed_momentum seen d)) (λ d. e (streamed_momentum step d)) (λ d h l. ap e (momentum-seen d h l))) liquid-seen

    momentum-born-seen : born_momentum seen c ≡ born_momentum step c
    unfolding born_momentum
    momentum-born-seen i = record {
      x = part-of-mean (λ v. v.x) i;
      y = part-of-mean (λ v. v.y) i;
      z = part-of-mean (λ v. v.z) i;
    }

    pub born-seen : (k : ℕ) → born seen c k ≡ born step c k
    unfolding born equilibrium_part equilibrium_dir sight
    born-seen zero =
        ap₂ (λ (ρ : ℤ) (j : V3). equilibrium_part (weighing F.weights) ρ j 0) density-born-seen momentum-born-seen
    born-seen (suc a) = ap₂ (λ (ρ : ℤ) (j : V3). equilibrium_part (weighing F.weights) ρ j (suc a)) density-born-seen momentum-born-seen

  -- ---- the new flags
  module _ (flags2 : List ℕ) (turned : flags2 ≡ tab F.cells (new_flag step)) where
    pub flags-there : length flags2 ≡ length F.flags
    flags-there = ap length turned ∙ length-tab F.cells (new_flag step) ∙ sym r.count

    new-at : (c : ℕ) → c < F.cells → get_or flags2 c 3 ≡ new_flag step c
    new-at c h = ap (λ (l : List ℕ). get_or l c 3) turned ∙ get_or-tab F.cells (new_flag step) 3 c h

    born-test : (c : ℕ) → c < F.cells → newly_born F.flags flags2 c ≡ (eqb (flag c) 0 && eqb (new_flag step c) 1)
    unfolding newly_born
    born-test c h = ap (λ (f : ℕ). eqb (flag c) 0 && eqb f 1) (new-at c h)

    was-empty : (c : ℕ) → newly_born F.flags flags2 c ≡ true → flag c ≡ 0
    unfolding newly_born
    was-empty c e = eqb-true (flag c) 0 (and_left (eqb (flag c) 0) (eqb (get_or flags2 c 3) 1) e)

    -- an empty cell becomes interface beside a filled cell, which was liquid
    pub fed : (c : ℕ) → c < F.cells → newly_born F.flags flags2 c ≡ true → 0 < liquid_near seen c
    fed c h e =
        let w = was-empty c e in
        let b = and_right (eqb (flag c) 0) (eqb (new_flag step c) 1) (sym (born-test c h) ∙ e) in
        subst (λ (n : ℕ). 0 < n) (sym (liquid-seen c (within c h (omega arith)))) (has-liquid step c w (eqb-true (new_flag step c) 1 b))

    pub is-born : (c : ℕ) → c < F.cells → flag c ≡ 0 → new_flag step c ≡ 1 → newly_born F.flags flags2 c ≡ true
    is-born c h z n = born-test c h ∙ and-true (eqb (flag c) 0) (eqb (new_flag step c) 1) (eq-eqb (flag c) 0 z) (eq-eqb (new_flag step c) 1 n)

    -- ---- what the pass leaves of parts that stages 1 to 4 moved
    pub later-is : (before : ℕ → ℕ → ℤ) (c k : ℕ) → c < F.cells → before c k ≡ moved_part step c k → later_part seen (newly_born F.flags flags2) before c k ≡ born_part step c k
    unfolding later_part born_part moved_part new_flag
    later-is before c k h m =
        pick (newly_born F.flags flags2 c) (born seen c k) (born step c k) (before c k) (λ e. born-seen c (within c h (omega (arith, was-empty c e))) k)
        ∙ ap₂ (λ (t : Bool) (x : ℤ). cond t (born step c k) x) (born-test c h) m
        ∙ later-cases (flag c) (beside_filled step c) (filled step c) (emptied step c) (beside_emptied step c) (born step c k) (collided step c k)

    -- where all are fair, each new interface cell keeps the rules of a liquid cell
    pub newborn-fair : {fair : Bool} → fair ≡ all (length F.flags) (later_fair seen (newly_born F.flags flags2)) → fair ≡ true
        → (c : ℕ) → c < F.cells → flag c ≡ 0 → new_flag step c ≡ 1 → body_good d3q19 (new_part step c) ≡ true
    unfolding d3q19 later_fair
    newborn-fair f t c h z n =
        let w = is-born c h z n in
        let a = all-at (length F.flags) (later_fair seen (newly_born F.flags flags2)) (sym f ∙ t) c (subst (λ (m : ℕ). c < m) (sym r.count) h) in
        body_same d3q19 (new_part step c) (born seen c) (λ k l. born-part step c z n k ∙ sym (born-seen c (within c h (omega (arith, was-empty c w))) k))
        ∙ sym (cond_yes (body_good d3q19 (born seen c)) true w) ∙ a
