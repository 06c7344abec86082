-- Reached: demand 3 over any number of accepted steps, gravity and relaxation chosen anew for each. From a state that passes tests 4 to 6, every state
-- reached passes them, so no step makes, or is refused for, a fluid cell beside an empty one; its water is the starting water, to the unit; and the carry
-- has changed by exactly what strayed. First over any lattice and grid, then over the step's own outcome. Assumes nothing.
use mathlib.Core.Path.{◌≡◌, refl, sym, ap, ap₂, ◌∙◌, subst}
use mathlib.Core.Bool.{false, ◌&&◌}
use mathlib.Core.List.{[], ◌∷◌}
use Prim.Native.Nat.{ℕ, zero, suc, ◌+◌, ◌*◌, ◌/◌, ◌%◌, ◌≤◌, ◌<◌}
use native.Mathlib.Omega.{arith}
use lib.IntN.{ℤ, pos, ◌+ℤ◌, +ℤ_idl, +ℤ_idr, +ℤ_assoc}
use Rattle.whole.specs.Fold.{sum, first}
use Rattle.whole.specs.laws.Sums.{sum-add, sum-cong}
use Rattle.lattice.specs.Lattice.{V3, Lattice, density}
use Rattle.lattice.proofs.Paired.{Paired}
use Rattle.grid.specs.Answer.{Done}
use Rattle.grid.specs.Grid.{Grid}
use Rattle.grid.specs.State.{State, by_flag}
use Rattle.grid.specs.Step.{new_flag, new_mass, unsteady, next}
use Rattle.grid.specs.Good.{bad_rule}
use Rattle.grid.specs.Outcome.{good_answer, move_answer}
use Rattle.grid.specs.Demands.{Walled, Closed, fluid_water, interface_water, water, strayed, scene, grid_answer, Same, Reaches, start, then, strays}
use Rattle.grid.proofs.Laid.{Laid, inner}
use Rattle.grid.proofs.Closed.{closed-holds, flags-hold, outer-stays}
use Rattle.grid.proofs.Total.{Massed, total-holds, carry-holds}
use Rattle.grid.proofs.Same.{bad-rule-same}
use Rattle.grid.proofs.Accepted.{Sound, sound, none_found, pass-good}
use Rattle.grid.specs.declared.refusals.Refusal.TheVariants.{BadFlow, BadNext}

module _ (L : Lattice) (G : Grid) where
  -- tests 4 to 6 pass
  abbrev pub Good : State → Type 0
  Good s = good_answer L G s Done ≡ Done

  -- what is claimed of a state t reached from s by r
  pub record Kept (s t : State) (r : Reaches L G s t) : Type 0 where
    pub good : Good t
    pub closed : Closed L.q G t.flag
    pub water-same : water G.cells t ≡ water G.cells s
    pub carry-is : t.carry ≡ s.carry +ℤ strays r

-- the claim: of every state reached
abbrev pub Claim : Type 0
Claim = (L : Lattice) (G : Grid) → Paired L → Laid L G → (s t : State) (r : Reaches L G s t) → Good L G s → Kept L G s t r

-- ---- the water of a massed state is the sum of its masses
by_kind : (f : ℕ) (m ρ : ℤ) → m ≡ by_flag f (pos 0) m ρ (pos 0) → by_flag f (pos 0) (pos 0) m (pos 0) +ℤ by_flag f (pos 0) m (pos 0) (pos 0) ≡ m
by_kind zero m ρ e = sym e
by_kind (suc zero) m ρ e = +ℤ_idl m
by_kind (suc (suc zero)) m ρ e = +ℤ_idr m
by_kind (suc (suc (suc n))) m ρ e = sym e

pub water-all : (L : Lattice) (n : ℕ) (s : State) → Massed L n s → water n s ≡ sum n s.mass +ℤ s.carry
unfolding water fluid_water interface_water
water-all L n s m =
    ap (λ (t : ℤ). t +ℤ s.carry)
    (sym (sum-add n (λ c. by_flag (s.flag c) (pos 0) (pos 0) (s.mass c) (pos 0)) (λ c. by_flag (s.flag c) (pos 0) (s.mass c) (pos 0) (pos 0)))
    ∙ sum-cong n (λ c. by_flag (s.flag c) (pos 0) (pos 0) (s.mass c) (pos 0) +ℤ by_flag (s.flag c) (pos 0) (s.mass c) (pos 0) (pos 0)) s.mass
    (λ c k. by_kind (s.flag c) (s.mass c) (density L (s.part c)) (m c k)))

-- ---- one accepted step
module _ (L : Lattice) (G : Grid) (p : Paired L) (l : Laid L G) (s t : State) (g : V3) (q : ℕ → ℤ)
    (e : grid_answer L G s g q ≡ Done) (same : Same L.q G.cells (next (scene L G s g q)) t) where
  before : Sound L G s × (move_answer (scene L G s g q) ≡ Done)
  unfolding grid_answer
  before = sound L G s (move_answer (scene L G s g q)) e

  rules : suc G.cells ≤ bad_rule L G.cells t
  unfolding move_answer
  rules =
      let a = none_found G.cells BadFlow (first G.cells (unsteady (scene L G s g q))) _ before.1 in
      let b = none_found (suc G.cells) BadNext (bad_rule L G.cells (next (scene L G s g q))) Done a.1 in
      subst (λ (k : ℕ). suc G.cells ≤ k) (bad-rule-same L G.cells (next (scene L G s g q)) t same) b.0

  new-flag : (c : ℕ) → c < G.cells → new_flag (scene L G s g q) c ≡ t.flag c
  unfolding next
  new-flag c k = same.flags c k

  flags : (c : ℕ) → c < G.cells → t.flag c < 4
  flags c k = subst (λ (f : ℕ). f < 4) (new-flag c k) (flags-hold (scene L G s g q) c)

  walls : Walled G t.flag
  walls c k o = sym (new-flag c k) ∙ outer-stays (scene L G s g q) before.0.walled c k o

  step-closed : Closed L.q G t.flag
  step-closed c i k some most f z =
      closed-holds (scene L G s g q) p l before.0.walled before.0.closed c i k some most fluid
      (new-flag (G.near c i) (l.cell c i k within (record { some = some; most = most })) ∙ z)
    where
      fluid : new_flag (scene L G s g q) c ≡ 2
      fluid = new-flag c k ∙ f

      within : G.outer c ≡ false
      within = inner G t.flag walls c k (λ w. absurd (omega arith))

  pub step-good : Good L G t
  step-good = pass-good L G t Done flags walls step-closed rules

  pub step-water : water G.cells t ≡ water G.cells s
  unfolding next
  step-water =
      water-all L G.cells t (sound L G t Done step-good).0.massed
      ∙ ap₂ (λ (x y : ℤ). x +ℤ y) (sum-cong G.cells t.mass (new_mass (scene L G s g q)) (λ c k. sym (same.masses c k))) (sym same.carries)
      ∙ total-holds (scene L G s g q) p l before.0.walled before.0.closed before.0.massed
      ∙ sym (water-all L G.cells s before.0.massed)

  pub step-carry : t.carry ≡ s.carry +ℤ strayed (scene L G s g q)
  unfolding next
  step-carry = sym same.carries ∙ carry-holds (scene L G s g q)

-- ---- any number of them
pub reached-holds : Claim
reached-holds L G p l s t start good =
    record { good = good; closed = (sound L G s Done good).0.closed; water-same = refl; carry-is = sym (+ℤ_idr s.carry) }
reached-holds L G p l s u (then {t} r g q e same) good =
    let k = reached-holds L G p l s t r good in
    let h = step-good L G p l t u g q e same in
    record {
      good = h;
      closed = (sound L G u Done h).0.closed;
      water-same = step-water L G p l t u g q e same ∙ k.water-same;
      carry-is =
          step-carry L G p l t u g q e same
          ∙ ap (λ (z : ℤ). z +ℤ strayed (scene L G t g q)) k.carry-is
          ∙ +ℤ_assoc s.carry (strays r) (strayed (scene L G t g q));
    }
