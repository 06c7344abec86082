-- There is a dry scheme beside every scheme: with no water at all the tests pass on every map on which some scheme passes them. So (b) speaks of
-- something. Assumes nothing.
use mathlib.Core.Path.{◌≡◌, refl, sym, ap, ◌∙◌}
use mathlib.Core.Bool.{Bool, true, false, ◌&&◌, not, cond}
use mathlib.Core.List.{List}
use Prim.Native.Nat.{ℕ, zero, suc, ◌+◌, ◌*◌, ◌/◌, ◌%◌, ◌≤◌, ◌<◌}
use native.Mathlib.Nat.{le_of_eq, le_of_suc-le-suc}
use native.Mathlib.Decide.{ℕ_discrete}
use native.Mathlib.Omega.{arith}
use lib.Arith.{lt_of_le-ne}
use lib.Dec.{eqb}
use lib.IntN.{ℤ, pos}
use lib.ListN.{get_or}
use borrow.Author.Tests.{eq-eqb, ne_eqb}
use Rattle.whole.specs.Fold.{all, tab_from}
use Rattle.whole.specs.laws.Bools.{and-true}
use Rattle.whole.specs.laws.Search.{first-all}
use Rattle.whole.specs.laws.Tab.{length-tab}
use Rattle.lattice.specs.Lattice.{d3q19}
use Rattle.lattice.specs.Cell.{carry_good}
use Rattle.lattice.specs.Body.{eq_z}
use Rattle.grid.specs.declared.Sides.{Sides}
use Rattle.grid.specs.Answer.{Done}
use Rattle.grid.specs.Grid.{cells_of, grid_of, box}
use Rattle.grid.specs.State.{Lent, State, state_of, lent_of}
use Rattle.grid.specs.Step.{fill_for}
use Rattle.grid.specs.Good.{dry_good, cell_good, bad_rule}
use Rattle.grid.specs.Demands.{Closed}
use Rattle.grid.proofs.Accepted.{pass-good}
use Rattle.pumps.specs.Three.{with_totals, three_lengths}
use Rattle.grid.proofs.Same.{all_same}
use Rattle.schemes.specs.Scheme.{wall_at, joined_flag, joined, mark_good, tested}
use Rattle.schemes.proofs.Tests.{Scheme, tells, passes, flag_at, good_as, joined-good, flags-low, outer-wall, other-own}
use Rattle.walls.proofs.Kept.{dry-not-fluid, dry-as}
use Rattle.walls.proofs.Alone.{Dry}

-- no water
unfoldable pub no_water : State
no_water = record { flag = λ c. 0; part = λ c k. pos 0; mass = λ c. pos 0; fill = λ c. 0; carry = pos 0 }

unfoldable pub dry_scheme : Sides → Lent
dry_scheme s = with_totals (lent_of 18 (cells_of s) no_water) (pos 0) (pos 0)

module _ {ℓ} {A : Type ℓ} (z : A) where
  alike : (n i c : ℕ) → get_or (tab_from n i (λ j. z)) c z ≡ z
  unfolding tab_from
  alike zero i c = refl
  alike (suc n) i zero = refl
  alike (suc n) i (suc c) = alike n (suc i) c

pub is-dry : (s : Sides) → Dry (dry_scheme s)
unfolding dry_scheme no_water lent_of
is-dry s c = alike 0 (cells_of s) 0 c

rules : (s : Sides) (c : ℕ) → good_as 0 (dry_scheme s) c ≡ true
unfolding dry_scheme no_water lent_of state_of dry_good fill_for d3q19 all
rules s c =
    three (ap (λ (m : ℤ). eq_z m (pos 0)) (alike (pos 0) (cells_of s) 0 c))
    (all_same 19 (λ k. eq_z (get_or (tab_from (19 * cells_of s) 0 (λ j. pos 0)) (19 * c + k) (pos 0)) (pos 0)) (λ k. true) (λ k h. ap (λ (m : ℤ). eq_z m (pos 0)) (alike (pos 0) (19 * cells_of s) 0 (19 * c + k))) ∙ every)
    (ap (λ (f : ℕ). eqb f 0) (alike 0 (cells_of s) 0 c))
  where
    three : {x y z : Bool} → x ≡ true → y ≡ true → z ≡ true → (x && y && z) ≡ true
    three u v w i = u i && v i && w i

    every : all 19 (λ k. true) ≡ true
    every = refl

module _ (s : Sides) (map : List ℕ) (a : Lent) (g : Scheme s map a) where
  dry-flag : (c : ℕ) → c < cells_of s → (state_of 18 (joined s map (dry_scheme s))).flag c ≡ joined_flag (wall_at map c) 0
  dry-flag c k = flag_at s map (dry_scheme s) c k ∙ ap (joined_flag (wall_at map c)) (is-dry s c)

  dry-marks : (c : ℕ) → c < cells_of s → mark_good s map (dry_scheme s).flags c ≡ true
  dry-marks c k = other-own s map a.flags (dry_scheme s).flags c (g.marks c k) (omega (arith, is-dry s c))

  dry-closed : Closed 18 (grid_of s) (state_of 18 (joined s map (dry_scheme s))).flag
  unfolding grid_of box cells_of
  dry-closed c i k some most f z = dry-not-fluid (wall_at map c) (sym (dry-flag c k) ∙ f)

  dry-cell : (c : ℕ) → c < cells_of s → cell_good d3q19 (state_of 18 (joined s map (dry_scheme s))) c ≡ true
  dry-cell c k =
      joined-good s map (dry_scheme s) c k ∙ ap (λ (f : ℕ). good_as (joined_flag (wall_at map c) f) (dry_scheme s) c) (is-dry s c)
      ∙ dry-as (dry_scheme s) c (wall_at map c) ∙ rules s c

  dry-carry : carry_good (state_of 18 (joined s map (dry_scheme s))).carry ≡ true
  unfolding joined state_of dry_scheme no_water lent_of
  dry-carry = refl

  dry-rules : suc (cells_of s) ≤ bad_rule d3q19 (cells_of s) (state_of 18 (joined s map (dry_scheme s)))
  unfolding bad_rule
  dry-rules = le_of_eq (sym (first-all (suc (cells_of s)) rule (λ c k. at c k (ℕ_discrete c (cells_of s)))))
    where
      rule : ℕ → Bool
      rule c = cond (eqb c (cells_of s)) (not (carry_good (state_of 18 (joined s map (dry_scheme s))).carry)) (not (cell_good d3q19 (state_of 18 (joined s map (dry_scheme s))) c))

      at : (c : ℕ) → c < suc (cells_of s) → Dec (c ≡ cells_of s) → rule c ≡ false
      at c k (yes e) =
          ap (λ (b : Bool). cond b (not (carry_good (state_of 18 (joined s map (dry_scheme s))).carry)) (not (cell_good d3q19 (state_of 18 (joined s map (dry_scheme s))) c))) (eq-eqb c (cells_of s) e)
          ∙ ap not dry-carry
      at c k (no n) =
          ap (λ (b : Bool). cond b (not (carry_good (state_of 18 (joined s map (dry_scheme s))).carry)) (not (cell_good d3q19 (state_of 18 (joined s map (dry_scheme s))) c))) (ne_eqb c (cells_of s) n)
          ∙ ap not (dry-cell c (lt_of_le-ne (le_of_suc-le-suc k) n))

  dry-sized : three_lengths (cells_of s) (dry_scheme s) ≡ true
  unfolding three_lengths dry_scheme lent_of
  dry-sized =
      and-true _ _
      (and-true _ _
      (and-true _ _ (eq-eqb _ _ (length-tab (cells_of s) no_water.flag)) (eq-eqb _ _ (length-tab (19 * cells_of s) (λ m. no_water.part (m / 19) (m % 19)))))
      (eq-eqb _ _ (length-tab (cells_of s) no_water.mass)))
      (eq-eqb _ _ (length-tab (cells_of s) no_water.fill))

  dry-scheme : Scheme s map (dry_scheme s)
  unfolding grid_of box cells_of d3q19 dry_scheme
  dry-scheme = record {
    sides = g.sides;
    sized = dry-sized;
    map-size = g.map-size;
    marks = dry-marks;
    dry = λ c k e. is-dry s c;
    grid = pass-good d3q19 (grid_of s) (state_of 18 (joined s map (dry_scheme s))) Done (flags-low s map (dry_scheme s) dry-marks) (outer-wall s map (dry_scheme s) dry-marks) dry-closed dry-rules;
    totals = refl;
  }

pub dry-passes : (s : Sides) (map : List ℕ) (a : Lent) → tested s map a true ≡ Done → tested s map (dry_scheme s) true ≡ Done
dry-passes s map a t = passes s map (dry_scheme s) (dry-scheme s map a (tells s map a true t).0)
