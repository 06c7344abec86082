-- Pass 1, turn by turn: what holds once the first c cells have gone through stages 1 to 4, over what a function of one cell sees; and that once all have,
-- the second set's parts, masses and marks are those of the step's scene. Assumes nothing.
use mathlib.Core.Path.{◌≡◌, refl, sym, ap, ◌∙◌, subst}
use mathlib.Core.Logic.{⊎_elim}
use mathlib.Core.Bool.{Bool, true, false, ◌&&◌, cond, false≢true}
use mathlib.Core.List.{List, []}
use Prim.Native.Nat.{ℕ, zero, suc, ◌+◌, ◌-◌, ◌*◌, ◌≤◌, ◌<◌}
use native.Mathlib.Nat.{le_of_eq}
use native.Mathlib.Omega.{arith}
use lib.IntN.{ℤ, pos}
use lib.Dec.{eqb}
use lib.ListN.{length, get_or, set}
use lib.Seq.{get_or-set_other}
use borrow.Author.Tests.{eqb-true}
use borrow.Author.Count.{below_more}
use Rattle.whole.specs.laws.Bools.{and_left, and_right, or-false}
use Rattle.whole.specs.Fold.{tab, first}
use Rattle.whole.specs.laws.Order.{≤-or}
use Rattle.whole.specs.laws.Search.{first-all, first-is}
use Rattle.whole.specs.laws.Tab.{Upto, upto-more, upto_all, length-tab}
use Rattle.lattice.specs.Lattice.{d3q19}
use Rattle.lattice.specs.Cell.{over, under}
use Rattle.lattice.specs.declared.Settings.{Settings}
use Rattle.grid.specs.State.{part_of, Scene, by_flag, liquid}
use Rattle.grid.specs.Grid.{Grid}
use Rattle.grid.specs.Step.{streamed_density, traded_mass, unsteady, collided}
use Rattle.lattice.specs.Body.{body_good}
use Rattle.grid.specs.inner.Between.{moved_part, moved_mass, first_mark}
use Rattle.grid.specs.inner.Halfway.{Moved}
use Rattle.grid.specs.inner.Passes.{either_liquid}
use Rattle.grid.specs.inner.Pasted.{pasted}
use Rattle.grid.specs.inner.Sight.{sight}
use Rattle.grid.proofs.Blocks.{Blocks, blocks_more, blocks-all, pasted-after}
use Rattle.grid.proofs.Same.{body_same}
use Rattle.flow.specs.declared.moving.Put.{Put}
use Rattle.flow.specs.inner.PutAt.{Passed}
use Rattle.passes.specs.inner.Flowed.{MovedTo}
use Rattle.passes.specs.inner.Skipped.{Skipped}
use Rattle.passes.specs.inner.Stretch.{Cleared}
use Rattle.flow.specs.inner.Trade.{mark_for}
use Rattle.flow.proofs.Collisions.{by-dry, part_none, steady-dry}
use Rattle.flow.proofs.Onward.{step_on, fast-seen, part-seen, mass-seen, mark-seen, collided-seen}

-- a cell that is liquid in neither set
both-dry : (flags flags2 : List ℕ) (c : ℕ) → either_liquid flags flags2 c ≡ false → (liquid (get_or flags c 3) ≡ false) × (liquid (get_or flags2 c 3) ≡ false)
unfolding either_liquid
both-dry flags flags2 c e = or-false _ _ e

module _ (weights : ℕ → ℕ) (flags : List ℕ) (part : ℕ → ℕ → ℤ) (masses : List ℤ) (fills off : List ℕ) (low : ℕ) (g : Settings) where
  abbrev pub seen : Scene
  seen = sight weights flags part [] fills off low g

  abbrev pub trader : Scene
  trader = sight weights flags part masses fills off low g

  -- the density that is handed on, the mass and the mark of a cell
  unfoldable pub rho_of : ℕ → ℤ
  rho_of c = by_flag (get_or flags c 3) (pos 0) (streamed_density seen c) (streamed_density seen c) (pos 0)

  unfoldable pub mass_of : ℕ → ℤ
  mass_of c = by_flag (get_or flags c 3) (rho_of c) (traded_mass trader c) (rho_of c) (rho_of c)

  unfoldable pub mark_of : ℕ → ℕ
  mark_of c = by_flag (get_or flags c 3) 0 (cond (over (mass_of c) (rho_of c)) 1 (cond (under (mass_of c) (rho_of c)) 2 0)) 0 0

  unfoldable pub fair_of : ℕ → Bool
  fair_of c = by_flag (get_or flags c 3) true (body_good d3q19 (collided seen c)) (body_good d3q19 (collided seen c)) true

  -- the first c cells have gone through; the marks past them are as pass 0 left them
  pub record Walked (marks₀ : List ℕ) (part2 : ℕ → ℕ → ℤ) (masses2 : List ℤ) (marks : List ℕ) (fair calm : Bool) (c : ℕ) : Type 0 where
    pub steady : (j : ℕ) → j < c → unsteady seen j ≡ false
    pub parts-done : (j k : ℕ) → j < c → k < 19 → part2 j k ≡ moved_part seen j k
    pub masses-done : Upto (pos 0) mass_of masses2 c
    pub marks-done : Upto 0 mark_of marks c
    pub marks-left : (j : ℕ) → c ≤ j → get_or marks j 0 ≡ get_or marks₀ j 0
    pub fair-tells : fair ≡ true → (j : ℕ) → j < c → fair_of j ≡ true
    pub calm-tells : calm ≡ true → (j : ℕ) → j < c → mark_of j ≡ 0

  -- one turn: cell c's parts are put, those before it stay
  module _ (marks₀ : List ℕ) (part2 after : ℕ → ℕ → ℤ) (masses2 : List ℤ) (marks : List ℕ) (fair calm : Bool) (c : ℕ) (w : Walked marks₀ part2 masses2 marks fair calm c)
      (o : Put) (put : Passed seen c o)
      (one_more : ((j k : ℕ) → j < c → k < 19 → part2 j k ≡ moved_part seen j k) → (j k : ℕ) → j < c + 1 → k < 19 → after j k ≡ moved_part seen j k) where
    pub rho-is : o.rho ≡ rho_of c
    unfolding rho_of sight
    rho-is = put.rho

    pub mass-is : (m : ℤ) → m ≡ by_flag (get_or flags c 3) o.rho (traded_mass trader c) o.rho o.rho → m ≡ mass_of c
    unfolding mass_of
    mass-is m e = e ∙ ap (λ (r : ℤ). by_flag (get_or flags c 3) r (traded_mass trader c) r r) rho-is

    pub mark-is : (m : ℤ) (k : ℕ) → m ≡ mass_of c → ◌≡◌ {A = ℕ} k (by_flag (get_or flags c 3) 0 (cond (over m o.rho) 1 (cond (under m o.rho) 2 0)) 0 0) → k ≡ mark_of c
    unfolding mark_of
    mark-is m k e f =
        f ∙ ap (λ (x : ℤ). by_flag (get_or flags c 3) 0 (cond (over x o.rho) 1 (cond (under x o.rho) 2 0)) 0 0) e
        ∙ ap (λ (r : ℤ). by_flag (get_or flags c 3) 0 (cond (over (mass_of c) r) 1 (cond (under (mass_of c) r) 2 0)) 0 0) rho-is

    fair-is : o.fair ≡ fair_of c
    unfolding fair_of sight
    fair-is = put.fair

    pub walked_more : (m : ℤ) (k : ℕ) → c < length masses2 → c < length marks → m ≡ mass_of c → k ≡ mark_of c
        → Walked marks₀ after (set masses2 c m) (set marks c k) (fair && o.fair) (calm && eqb k 0) (c + 1)
    walked_more m k hm hk em ek = record {
      steady = below_more (λ (j : ℕ). unsteady seen j ≡ false) c w.steady put.steady;
      parts-done = one_more w.parts-done;
      masses-done = upto-more (pos 0) mass_of masses2 c m hm w.masses-done em;
      marks-done = upto-more 0 mark_of marks c k hk w.marks-done ek;
      marks-left = λ j h. get_or-set_other marks c j k 0 (λ e. absurd (omega arith)) ∙ w.marks-left j (omega arith);
      fair-tells = λ e. below_more (λ (j : ℕ). fair_of j ≡ true) c (w.fair-tells (and_left fair o.fair e)) (sym fair-is ∙ and_right fair o.fair e);
      calm-tells = λ e. below_more (λ (j : ℕ). mark_of j ≡ 0) c (w.calm-tells (and_left calm (eqb k 0) e)) (sym ek ∙ eqb-true k 0 (and_right calm (eqb k 0) e));
    }

    -- one turn of the code: the density as it is handed on twice, the mass as it is stored and handed on
    pub walked-turn : (m stored m' r r' : ℤ) (k f : ℕ) → f ≡ get_or flags c 3 → c < length masses2 → c < length marks
        → m ≡ by_flag (get_or flags c 3) r (traded_mass trader c) r r → r ≡ o.rho → stored ≡ m → k ≡ mark_for f m' r' → m' ≡ m → r' ≡ o.rho
        → Walked marks₀ after (set masses2 c stored) (set marks c k) (fair && o.fair) (calm && eqb k 0) (c + 1)
    unfolding mark_for
    walked-turn m stored m' r r' k f ef hm hk em er es ek em' er' =
        let e : m ≡ mass_of c = mass-is m (em ∙ ap (λ (x : ℤ). by_flag (get_or flags c 3) x (traded_mass trader c) x x) er) in
        walked_more stored k hm hk (es ∙ e)
        (mark-is m k e (ek ∙ ap (λ (x : ℕ). by_flag x 0 (cond (over m' r') 1 (cond (under m' r') 2 0)) 0 0) ef ∙ ap (λ (x : ℤ). by_flag (get_or flags c 3) 0 (cond (over x r') 1 (cond (under x r') 2 0)) 0 0) em'
        ∙ ap (λ (x : ℤ). by_flag (get_or flags c 3) 0 (cond (over m x) 1 (cond (under m x) 2 0)) 0 0) er'))

  -- cells that are dry and have no parts already, so that their masses and marks alone are made 0
  module _ {c e : ℕ} (h : c ≤ e) (dry : (j : ℕ) → c ≤ j → j < e → liquid (get_or flags j 3) ≡ false) where
    both : (P : ℕ → Type 0) → ((j : ℕ) → j < c → P j) → ((j : ℕ) → c ≤ j → j < e → P j) → (j : ℕ) → j < e → P j
    both P before here j l = ⊎_elim (λ m. here j m l) (λ m. before j m) (≤-or c j)

    mass-none : (j : ℕ) → c ≤ j → j < e → mass_of j ≡ pos 0
    unfolding mass_of rho_of
    mass-none j l m =
        by-dry (get_or flags j 3) (rho_of j) (traded_mass trader j) (rho_of j) (dry j l m)
        ∙ by-dry (get_or flags j 3) (pos 0) (streamed_density seen j) (streamed_density seen j) (dry j l m)

    mark-none : (j : ℕ) → c ≤ j → j < e → mark_of j ≡ 0
    unfolding mark_of
    mark-none j l m = by-dry (get_or flags j 3) 0 _ 0 (dry j l m)

    fair-dry : (j : ℕ) → c ≤ j → j < e → fair_of j ≡ true
    unfolding fair_of
    fair-dry j l m = by-dry (get_or flags j 3) true (body_good d3q19 (collided seen j)) (body_good d3q19 (collided seen j)) (dry j l m)

    walked-dry : {marks₀ : List ℕ} {part2 : ℕ → ℕ → ℤ} {masses2 after : List ℤ} {marks new : List ℕ} {fair calm : Bool} → Walked marks₀ part2 masses2 marks fair calm c
        → ((j k : ℕ) → c ≤ j → j < e → k < 19 → part2 j k ≡ pos 0) → Cleared (pos 0) c e masses2 after → Cleared 0 c e marks new → Walked marks₀ part2 after new fair calm e
    walked-dry {part2 = part2} {after = after} {new = new} w none zm zk = record {
      steady = both (λ j. unsteady seen j ≡ false) w.steady (λ j l m. steady-dry weights flags part fills off low g j (dry j l m));
      parts-done = λ j k l n. both (λ j. part2 j k ≡ moved_part seen j k) (λ j l. w.parts-done j k l n) (λ j l m. none j k l m n ∙ sym (part_none weights flags part fills off low g j (dry j l m) k)) j l;
      masses-done = both (λ j. get_or after j (pos 0) ≡ mass_of j) (λ j l. zm.before j l ∙ w.masses-done j l) (λ j l m. zm.here j l m ∙ sym (mass-none j l m));
      marks-done = both (λ j. get_or new j 0 ≡ mark_of j) (λ j l. zk.before j l ∙ w.marks-done j l) (λ j l m. zk.here j l m ∙ sym (mark-none j l m));
      marks-left = λ j l. zk.after j l ∙ w.marks-left j (omega arith);
      fair-tells = λ f. both (λ j. fair_of j ≡ true) (w.fair-tells f) fair-dry;
      calm-tells = λ f. both (λ j. mark_of j ≡ 0) (w.calm-tells f) mark-none;
    }

  -- those that are dry in both sets, if the second set's flags tell where it has no parts
  pub walked-skipped : {c e : ℕ} {flags2 marks₀ : List ℕ} {part2 : ℕ → ℕ → ℤ} {masses2 after : List ℤ} {marks new : List ℕ} {fair calm : Bool} → Skipped flags flags2 masses2 marks c e after new
      → Walked marks₀ part2 masses2 marks fair calm c → ((j k : ℕ) → c ≤ j → j < length flags → k < 19 → liquid (get_or flags2 j 3) ≡ false → part2 j k ≡ pos 0)
      → Walked marks₀ part2 after new fair calm e
  walked-skipped s w none =
      walked-dry (omega (arith, s.onward)) (λ j h l. (both-dry _ _ j (s.dry.before j h l)).0) w
      (λ j k h l n. none j k h (omega (arith, s.dry.most)) n (both-dry _ _ j (s.dry.before j h l)).1) s.massless s.unmarked

-- ---- to the step's scene
module _ (weights : ℕ → ℕ) (G : Grid) (g : Settings) (flags : List ℕ) (part : ℕ → ℕ → ℤ) (masses : List ℤ) (fills off : List ℕ) (low n : ℕ)
    (placed : (c : ℕ) → c < n → liquid (get_or flags c 3) ≡ true → (i : ℕ) → i < 19 → c - low + get_or off i 0 ≡ G.near c i) where
  abbrev step : Scene
  step = step_on weights G g flags part masses fills (pos 0)

  mass-same : (c : ℕ) → c < n → mass_of weights flags part masses fills off low g c ≡ moved_mass step c
  unfolding mass_of rho_of
  mass-same c h = mass-seen weights G g flags part masses fills (pos 0) off low c (placed c h) (rho_of weights flags part masses fills off low g c) refl

  mark-same : (c : ℕ) → c < n → mark_of weights flags part masses fills off low g c ≡ first_mark step c
  unfolding mark_of rho_of
  mark-same c h =
      mark-seen weights G g flags part masses fills (pos 0) off low c (placed c h) (mass_of weights flags part masses fills off low g c) (rho_of weights flags part masses fills off low g c) refl (mass-same c h)

  fair-liquid : (f : ℕ) (b : Bool) → liquid f ≡ true → by_flag f true b b true ≡ true → b ≡ true
  fair-liquid zero b l e = absurd (false≢true l)
  fair-liquid (suc zero) b l e = e
  fair-liquid (suc (suc zero)) b l e = e
  fair-liquid (suc (suc (suc n))) b l e = absurd (false≢true l)

  body_is : (c : ℕ) → c < n → liquid (get_or flags c 3) ≡ true → fair_of weights flags part masses fills off low g c ≡ true → body_good d3q19 (collided step c) ≡ true
  unfolding fair_of d3q19
  body_is c h l e =
      sym (body_same d3q19 (collided (seen weights flags part masses fills off low g) c) (collided step c) (collided-seen weights G g flags part masses fills (pos 0) off low c (placed c h) l))
      ∙ fair-liquid (get_or flags c 3) (body_good d3q19 (collided (seen weights flags part masses fills off low g) c)) l e

  fast-same : (c : ℕ) → c < n → unsteady (seen weights flags part masses fills off low g) c ≡ unsteady step c
  fast-same c h = fast-seen weights G g flags part masses fills (pos 0) off low c (placed c h)

  -- the cell that stopped the pass is the lowest that is unsteady
  pub walked-stopped : (marks₀ : List ℕ) (part2 : ℕ → ℕ → ℤ) (masses2 : List ℤ) (marks : List ℕ) (fair calm : Bool) (c : ℕ) → c < n
      → Walked weights flags part masses fills off low g marks₀ part2 masses2 marks fair calm c → unsteady (seen weights flags part masses fills off low g) c ≡ true
      → first n (unsteady step) ≡ c
  walked-stopped marks₀ part2 masses2 marks fair calm c h w e =
      first-is n (unsteady step) c h (λ b k. sym (fast-same b (omega arith)) ∙ w.steady b k) (sym (fast-same c h) ∙ e)

  pub walked-moved : (marks₀ : List ℕ) (part2 : ℕ → ℕ → ℤ) (masses2 : List ℤ) (marks : List ℕ) (fair calm : Bool) → length masses2 ≡ n → length marks ≡ n
      → Walked weights flags part masses fills off low g marks₀ part2 masses2 marks fair calm n → MovedTo step n part2 masses2 marks fair calm
  walked-moved marks₀ part2 masses2 marks fair calm lm lk w = record {
    steady = le_of_eq (sym (first-all n (unsteady step) (λ c h. sym (fast-same c h) ∙ w.steady c h)));
    part-is = λ j k h l. w.parts-done j k h l ∙ part-seen weights G g flags part masses fills (pos 0) off low j (placed j h) k (omega arith);
    masses-are = upto_all (pos 0) (moved_mass step) masses2 n lm (λ j h. w.masses-done j h ∙ mass-same j h);
    marks-are = upto_all 0 (first_mark step) marks n lk (λ j h. w.marks-done j h ∙ mark-same j h);
    fair-tells = λ e c h l. body_is c h l (w.fair-tells e c h);
    calm-tells = λ e c h. sym (mark-same c h) ∙ w.calm-tells e c h;
  }

-- ---- in the box's list
-- the cells after the one that is put stay
pub put-past : (S : Scene) (parts2 after : List ℤ) (c : ℕ) → 19 * c + 19 ≤ length parts2 → after ≡ pasted parts2 (19 * c) (tab 19 (moved_part S c))
    → (j k : ℕ) → c + 1 ≤ j → part_of after j k ≡ part_of parts2 j k
put-past S parts2 after c h e j k l =
    ap (λ (x : List ℤ). part_of x j k) e ∙ pasted-after parts2 (19 * c) (tab 19 (moved_part S c)) h (length-tab 19 (moved_part S c)) (19 * j + k) (omega arith)

pub put-more : (S : Scene) (parts2 after : List ℤ) (c : ℕ) → 19 * c + 19 ≤ length parts2 → after ≡ pasted parts2 (19 * c) (tab 19 (moved_part S c))
    → Blocks (moved_part S) parts2 c → Blocks (moved_part S) after (c + 1)
put-more S parts2 after c h e b =
    subst (λ (l : List ℤ). Blocks (moved_part S) l (c + 1)) (sym e) (blocks_more (moved_part S) parts2 (tab 19 (moved_part S c)) c h refl b)

pub moved-list : {S : Scene} {n : ℕ} {parts masses : List ℤ} {marks : List ℕ} {fair calm : Bool} → length parts ≡ 19 * n
    → MovedTo S n (part_of parts) masses marks fair calm → Moved S n parts masses marks fair calm
moved-list {S} {n} {parts} e m = record {
  steady = m.steady;
  parts_are = blocks-all (moved_part S) parts n e m.part-is;
  masses-are = m.masses-are;
  marks-are = m.marks-are;
  fair-tells = m.fair-tells;
  calm-tells = m.calm-tells;
}
