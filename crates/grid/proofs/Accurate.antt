-- Accurate: demand 2's bounds over the step's own outcome. After an accepted step, in a cell that stays liquid, each moving part of the second set lies
-- less than one unit from the exact BGK value, the rest part less than as many as there are directions: eighteen in the box. Assumes nothing.
use mathlib.Core.Path.{◌≡◌, refl, sym, ap, ◌∙◌, subst}
use mathlib.Core.Bool.{Bool, true, false, ◌&&◌, ◌||◌, not, cond, false≢true}
use mathlib.Core.List.{List, [], ◌∷◌}
use Prim.Native.Nat.{ℕ, zero, suc, ◌+◌, ◌*◌, ◌≤◌, ◌<◌}
use native.Mathlib.Omega.{arith}
use lib.IntN.{ℤ, pos, neg_ℤ, nat_abs, ◌+ℤ◌, ◌-ℤ◌, ◌*ℤ◌}
use lib.Signed.{le_z, ◌≤ℤ◌, ◌<ℤ◌}
use Rattle.whole.specs.laws.Bools.{and_left}
use Rattle.whole.specs.laws.Bounds.{abs-above}
use Rattle.whole.specs.Fold.{first, Dir}
use Rattle.whole.specs.laws.Order.{of<, of≤, le_z-true, lt_z-true}
use Rattle.whole.specs.laws.Ring.{quotes}
use Rattle.whole.specs.laws.Search.{first-none}
use Rattle.lattice.specs.Lattice.{dot, Lattice, d3q19}
use Rattle.lattice.specs.Cell.{dense, slow, over, under}
use Rattle.lattice.specs.declared.Settings.{Settings}
use Rattle.lattice.proofs.Balanced.{Balanced, balanced19}
use Rattle.grid.specs.declared.Sides.{Sides}
use Rattle.grid.specs.Answer.{Done}
use Rattle.grid.specs.Grid.{Grid, cells_of, sides_good, grid_of, box}
use Rattle.grid.specs.State.{Lent, State, Scene, by_flag, liquid, state_of}
use Rattle.grid.specs.Step.{streamed_density, streamed_momentum, traded_mass, unsteady, collided, filled, emptied, beside_filled, beside_emptied, new_flag, flag_after, new_part, born, next}
use Rattle.grid.specs.Outcome.{move_answer, lengths_good, scene_of, entry_answer, step_answer}
use Rattle.grid.specs.Ground.{Ground, ground, box_ground, state_on, scene_on, step_on, second_on}
use Rattle.grid.specs.Demands.{grid_answer, Same}
use Rattle.grid.proofs.Accepted.{none_found, sound}
use Rattle.grid.proofs.Bgk.{exact, error, error-is, bgk-holds}
use Rattle.grid.proofs.Conserved.{step-tells, second-next}
use Rattle.grid.proofs.Listed.{same-listed}
use Rattle.grid.specs.declared.refusals.Refusal.TheVariants.{BadFlow}

-- 73,728·ρ', by which all is multiplied
abbrev pub scale : Scene → ℕ → ℕ
scale S c = nat_abs (pos 73728 *ℤ streamed_density S c)

-- how far part k of cell c of a state lies from the exact BGK value, times that
abbrev pub apart : Scene → State → ℕ → ℕ → ℕ
apart S t c k = nat_abs (pos 73728 *ℤ streamed_density S c *ℤ t.part c k -ℤ exact S c k)

-- what is claimed of cell c: where it was liquid and still is, the moving parts, and the rest part
abbrev pub Accurate : Ground → Settings → Lent → Lent → List ℕ → ℕ → Type 0
Accurate G g a second marks c =
    liquid ((state_on G a).flag c) ≡ true → liquid ((state_on G (second_on G g a second marks)).flag c) ≡ true
    → ((i : ℕ) → Dir G.directions i → apart (scene_on G g a) (state_on G (second_on G g a second marks)) c i < scale (scene_on G g a) c)
    × (apart (scene_on G g a) (state_on G (second_on G g a second marks)) c 0 < G.directions * scale (scene_on G g a) c)

-- where the equilibrium of every momentum that stage 3 meets adds up to the density
abbrev pub Claim : Type 0
Claim =
    (L : Lattice) (M : Grid) (fits : Bool) (g : Settings) (a second : Lent) (marks : List ℕ) → ((c : ℕ) → Balanced L (streamed_momentum (scene_on (ground L M fits) g a) c)) → 0 < L.q
    → step_on (ground L M fits) g a second marks ≡ Done → (c : ℕ) → c < M.cells → Accurate (ground L M fits) g a second marks c

-- of document 01's grid
abbrev pub BoxClaim : Type 0
BoxClaim =
    (s : Sides) (g : Settings) (a second : Lent) (marks : List ℕ) → step_answer s g a second marks ≡ Done → (c : ℕ) → c < cells_of s
    → Accurate (box_ground s) g a second marks c

-- ---- a cell with a density in its range is not both filled and emptied
pub not-both : (m ρ : ℤ) → dense ρ ≡ true → over m ρ ≡ true → under m ρ ≡ true → ⊥
unfolding dense over under
not-both m ρ d o u =
    let v : List ℤ = m ∷ ρ ∷ [] in
    let low = le_z-true {a = pos 294912} {b = ρ} (and_left (le_z (pos 294912) ρ) (le_z ρ (pos 1179648)) d) in
    let x = lt_z-true {a = pos 1001 *ℤ ρ} {b = pos 1000 *ℤ m} o in
    let y = lt_z-true {a = pos 1000 *ℤ m} {b = neg_ℤ ρ} u in
    omega (
      arith,
      of≤ v (search quotes depth 20) (search quotes depth 20) low,
      of< v (search quotes depth 20) (search quotes depth 20) x,
      of< v (search quotes depth 20) (search quotes depth 20) y,
    )

-- ---- a cell that stays liquid holds the collided parts
part-cases : (f : ℕ) (bf fi em be : Bool) (b x : ℤ) → (fi ≡ true → em ≡ true → ⊥) → liquid f ≡ true → liquid (flag_after f bf fi em be) ≡ true
    → by_flag f (cond bf b (pos 0)) (cond em (pos 0) x) x (pos 0) ≡ x
part-cases zero bf fi em be b x n o l = absurd (false≢true o)
part-cases (suc zero) bf true true be b x n o l = absurd (n refl refl)
part-cases (suc zero) bf true false be b x n o l = refl
part-cases (suc zero) bf false true be b x n o l = absurd (false≢true l)
part-cases (suc zero) bf false false be b x n o l = refl
part-cases (suc (suc zero)) bf fi em be b x n o l = refl
part-cases (suc (suc (suc r))) bf fi em be b x n o l = absurd (false≢true o)

pub both-tests : (f : ℕ) (o u n : Bool) → by_flag f false o false false ≡ true → by_flag f false (u && n) false false ≡ true → (o ≡ true) × (u ≡ true)
both-tests zero o u n p q = absurd (false≢true p)
both-tests (suc zero) o u n p q = (p, and_left u n q)
both-tests (suc (suc zero)) o u n p q = absurd (false≢true p)
both-tests (suc (suc (suc r))) o u n p q = absurd (false≢true p)

pub stays : (S : Scene) (c k : ℕ) → dense (streamed_density S c) ≡ true → liquid (S.old.flag c) ≡ true → liquid (new_flag S c) ≡ true → new_part S c k ≡ collided S c k
unfolding new_part new_flag filled emptied
stays S c k d o l =
    part-cases (S.old.flag c) (beside_filled S c) (filled S c) (emptied S c) (beside_emptied S c) (born S c k) (collided S c k)
    (λ p q. let t = both-tests (S.old.flag c) (over (traded_mass S c) (streamed_density S c)) (under (traded_mass S c) (streamed_density S c)) (not (beside_filled S c)) p q in
    not-both (traded_mass S c) (streamed_density S c) d t.0 t.1)
    o l

-- ---- test 7 has passed
fair : (a b : Bool) → a ≡ true → (a && not b) ≡ false → b ≡ true
fair true true p e = refl
fair true false p e = sym e
fair false b p e = absurd (false≢true p)

pub tested : (S : Scene) → move_answer S ≡ Done → (c : ℕ) → c < S.grid.cells → liquid (S.old.flag c) ≡ true → dense (streamed_density S c) ≡ true
unfolding move_answer unsteady
tested S e c h l =
    let a = none_found S.grid.cells BadFlow (first S.grid.cells (unsteady S)) _ e in
    let t = first-none S.grid.cells (unsteady S) a.0 c h in
    and_left (dense (streamed_density S c)) (slow (streamed_density S c) (dot (streamed_momentum S c) (streamed_momentum S c)))
    (fair (liquid (S.old.flag c)) (dense (streamed_density S c) && slow (streamed_density S c) (dot (streamed_momentum S c) (streamed_momentum S c))) l t)

not-zero : (z : ℤ) → dense z ≡ true → 0 < nat_abs z
unfolding dense
not-zero z e = let h = abs-above (le_z-true {a = pos 294912} {b = z} (and_left (le_z (pos 294912) z) (le_z z (pos 1179648)) e)) in omega arith

module _ (L : Lattice) (M : Grid) (fits : Bool) (g : Settings) (a second : Lent) (marks : List ℕ) (e : step_on (ground L M fits) g a second marks ≡ Done) (c : ℕ) (h : c < M.cells)
    (o : liquid ((state_of L.q a).flag c) ≡ true) (l : liquid ((state_of L.q (second_on (ground L M fits) g a second marks)).flag c) ≡ true) where
  abbrev S : Scene
  S = scene_on (ground L M fits) g a

  abbrev after : State
  after = state_of L.q (second_on (ground L M fits) g a second marks)

  written : Same L.q M.cells (next S) after
  written =
      subst (λ (x : Lent). Same L.q M.cells (next S) (state_of L.q x)) (sym (second-next (ground L M fits) g a second marks e)) (same-listed L.q M.cells (next S))

  in-range : dense (streamed_density S c) ≡ true
  unfolding grid_answer
  in-range = tested S (sound L M (state_of L.q a) (move_answer S) (step-tells (ground L M fits) g a second marks e)).1 c h o

  held : (k : ℕ) → k ≤ L.q → after.part c k ≡ collided S c k
  unfolding next
  held k m =
      sym (written.parts c k h m)
      ∙ stays S c k in-range o (subst (λ (f : ℕ). liquid f ≡ true) (sym (written.flags c h)) l)

  same-error : (k : ℕ) → k ≤ L.q → apart S after c k ≡ nat_abs (error S c k)
  same-error k m =
      ap (λ (x : ℤ). nat_abs (pos 73728 *ℤ streamed_density S c *ℤ x -ℤ exact S c k)) (held k m)
      ∙ ap nat_abs (error-is S c k)

pub accurate-on : Claim
accurate-on L M fits g a second marks b some e c h o l =
    let S = scene_on (ground L M fits) g a in
    let t = bgk-holds S c (not-zero (streamed_density S c) (in-range L M fits g a second marks e c h o l)) (b c) in (
      λ i d. subst (λ (n : ℕ). n < scale S c) (sym (same-error L M fits g a second marks e c h o l i d.most)) (t.0 i d),
      subst (λ (n : ℕ). n < L.q * scale S c) (sym (same-error L M fits g a second marks e c h o l 0 (omega arith))) (t.1 some),
    )

pub accurate-holds : BoxClaim
unfolding step_answer entry_answer lengths_good scene_of grid_of box cells_of d3q19
accurate-holds s g a second marks e c h =
    accurate-on d3q19 (grid_of s) (sides_good s) g a second marks (λ d. balanced19 (streamed_momentum (scene_on (box_ground s) g a) d)) (omega arith) e c h
