-- An accepted act keeps masses + carry + taken − poured, the check goes on accepting, carry, flags and parts stay. Assumes nothing.
use mathlib.Core.Path.{◌≡◌, refl, sym, ap, ap₂, ◌∙◌, subst}
use mathlib.Core.Bool.{Bool, true, false, not, cond, ◌&&◌}
use Prim.Native.Nat.{ℕ, suc, ◌*◌, ◌≤◌, ◌<◌}
use native.Mathlib.Nat.{le_of_eq, lt-suc_self}
use native.Mathlib.Decide.{ℕ_discrete}
use native.Mathlib.Omega.{arith}
use borrow.Author.Tests.{ltb-true, eqb-true, eq-eqb, ne_eqb, not-false}
use lib.Dec.{eqb, ltb}
use lib.IntN.{ℤ, pos, neg_ℤ, ◌+ℤ◌, ◌-ℤ◌}
use lib.ListN.{length, get_or, length-set}
use lib.Seq.{get_or-set_same, get_or-set_other}
use Rattle.whole.specs.laws.Bools.{and_left, and-true, cond_yes, cond_no}
use Rattle.whole.specs.Fold.{all}
use Rattle.whole.specs.laws.Search.{first-all, first-none}
use Rattle.lattice.specs.Lattice.{d3q19, density}
use Rattle.lattice.specs.Cell.{mass_good, carry_good, fill_of}
use Rattle.lattice.specs.Body.{eq_z, body_good}
use Rattle.grid.specs.declared.Sides.{Sides}
use Rattle.grid.specs.Answer.{Answer}
use Rattle.grid.specs.Answer.{Done}
use Rattle.grid.specs.Grid.{cells_of, grid_of, box}
use Rattle.grid.specs.State.{Lent, State, by_flag, state_of, part_of}
use Rattle.grid.specs.Step.{fill_for}
use Rattle.grid.specs.Good.{dry_good, interface_good, fluid_good, fill_good, cell_good, bad_rule}
use Rattle.grid.specs.Outcome.{or_refuse, good_answer}
use Rattle.grid.specs.Demands.{fluid_water, interface_water, water, water_of}
use Rattle.grid.proofs.Accepted.{passed, pass-good}
use Rattle.grid.proofs.Lists.{get_or-there}
use Rattle.grid.proofs.Prepared.{cell-mass}
use Rattle.pumps.specs.Three.{number_in, total_good, three_answer}
use Rattle.pumps.specs.Acts.{moved_of, mass_of, counted_in, act_good, and_then, act_answer, act_set}
use Rattle.pumps.specs.Demands.{balance, Kept}
use Rattle.pumps.proofs.Checked.{Passed, has-passed, four, head-state, accepts}
use Rattle.pumps.proofs.Amounts.{mass-kept, total_kept}
use Rattle.pumps.proofs.Balance.{water-more, poured, taken}
use Rattle.grid.specs.declared.refusals.Refusal.TheVariants.{BadAmount, NotInterface, Outside}
use Rattle.std.specs.Prelude.{Ok, Err}

-- ---- what acceptance tells
pub then-both : (x rest : Answer) → and_then x rest ≡ Done → (x ≡ Done) × (rest ≡ Done)
then-both (Ok _) rest e = (refl, e)
then-both (Err refusal) rest e = absurd (let z : ◌≡◌ {A = ℕ} 0 1 = cc in omega arith)

record Accepted (pour : Bool) (s : Sides) (c : ℕ) (amount : ℤ) (a : Lent) : Type 0 where
  pub three : three_answer s a ≡ Done
  pub inside : c < cells_of s
  pub interface : get_or a.flags c 0 ≡ 1
  pub good : act_good pour amount (get_or a.masses c (pos 0)) (number_in a (counted_in pour)) ≡ true

accepted : (pour : Bool) (s : Sides) (c : ℕ) (amount : ℤ) (a : Lent) → act_answer pour s c amount a ≡ Done → Accepted pour s c amount a
unfolding act_answer
accepted pour s c amount a e =
    let good = act_good pour amount (get_or a.masses c (pos 0)) (number_in a (counted_in pour)) in
    let x = then-both (three_answer s a) (or_refuse (ltb c (cells_of s)) Outside (or_refuse (eqb (get_or a.flags c 0) 1) (NotInterface c) (or_refuse good BadAmount Done))) e in
    let y = passed (ltb c (cells_of s)) Outside (or_refuse (eqb (get_or a.flags c 0) 1) (NotInterface c) (or_refuse good BadAmount Done)) x.1 in
    let z = passed (eqb (get_or a.flags c 0) 1) (NotInterface c) (or_refuse good BadAmount Done) y.1 in
    record {
      three = x.0;
      inside = ltb-true c (cells_of s) y.0;
      interface = eqb-true (get_or a.flags c 0) 1 z.0;
      good = (passed good BadAmount Done z.1).0;
    }

-- ---- a cell's rules look at its flag, parts, mass and fill
abbrev cell_of : ℕ → (ℕ → ℤ) → ℤ → ℕ → Bool
cell_of f part m φ =
    by_flag f (eq_z m (pos 0) && all (suc d3q19.q) (λ k. eq_z (part k) (pos 0))) (body_good d3q19 part && mass_good m) (body_good d3q19 part && eq_z m (density d3q19 part))
    (eq_z m (pos 0) && all (suc d3q19.q) (λ k. eq_z (part k) (pos 0)))
    && eqb φ (fill_for f m (density d3q19 part))

cell-is : (t : State) (j : ℕ) → cell_good d3q19 t j ≡ cell_of (t.flag j) (t.part j) (t.mass j) (t.fill j)
unfolding cell_good dry_good interface_good fluid_good fill_good
cell-is t j = refl

interface-good : (part : ℕ → ℤ) (m : ℤ) (φ : ℕ) (n : ℤ) → cell_of 1 part m φ ≡ true → mass_good n ≡ true → cell_of 1 part n (fill_of n (density d3q19 part)) ≡ true
unfolding fill_for
interface-good part m φ n e g =
    let body = and_left (body_good d3q19 part) (mass_good m) (and_left (body_good d3q19 part && mass_good m) (eqb φ (fill_of m (density d3q19 part))) e) in
    and-true (body_good d3q19 part && mass_good n) (eqb (fill_of n (density d3q19 part)) (fill_of n (density d3q19 part))) (and-true (body_good d3q19 part) (mass_good n) body g) (eq-eqb (fill_of n (density d3q19 part)) _ refl)

gain_of : Bool → ℤ → ℤ
gain_of true t = t
gain_of false t = neg_ℤ t

mass-gains : (pour : Bool) (m t : ℤ) → mass_of pour m t ≡ m +ℤ gain_of pour t
unfolding gain_of
mass-gains true m t = refl
mass-gains false m t = refl

module _ (pour : Bool) (s : Sides) (c : ℕ) (amount : ℤ) (a : Lent) (x : Accepted pour s c amount a) where
  abbrev b : Lent
  b = act_set pour c amount a

  abbrev m : ℤ
  m = get_or a.masses c (pos 0)

  abbrev t : ℤ
  t = moved_of pour amount m

  p : Passed s a
  p = has-passed s a x.three

  flag_is : (state_of 18 a).flag c ≡ 1
  unfolding state_of
  flag_is = get_or-there a.flags c 3 0 (subst (λ (n : ℕ). c < n) (sym p.sized.flags) x.inside) ∙ x.interface

  -- ---- the state after it
  flags-same : (j : ℕ) → (state_of 18 b).flag j ≡ (state_of 18 a).flag j
  unfolding state_of act_set
  flags-same j = refl

  part_same : (j : ℕ) → (state_of 18 b).part j ≡ (state_of 18 a).part j
  unfolding state_of act_set
  part_same j = refl

  mass-here : (state_of 18 b).mass c ≡ mass_of pour m t
  unfolding state_of act_set
  mass-here = get_or-set_same a.masses c (mass_of pour m t) (pos 0) (subst (λ (n : ℕ). c < n) (sym p.sized.masses) x.inside)

  mass-other : (j : ℕ) → (j ≡ c → ⊥) → (state_of 18 b).mass j ≡ (state_of 18 a).mass j
  unfolding state_of act_set
  mass-other j f = get_or-set_other a.masses c j (mass_of pour m t) (pos 0) f

  fill_here : (state_of 18 b).fill c ≡ fill_of (mass_of pour m t) (density d3q19 (part_of a.parts c))
  unfolding state_of act_set
  fill_here = get_or-set_same a.fills c (fill_of (mass_of pour m t) (density d3q19 (part_of a.parts c))) 0 (subst (λ (n : ℕ). c < n) (sym p.sized.fills) x.inside)

  fill-other : (j : ℕ) → (j ≡ c → ⊥) → (state_of 18 b).fill j ≡ (state_of 18 a).fill j
  unfolding state_of act_set
  fill-other j f = get_or-set_other a.fills c j (fill_of (mass_of pour m t) (density d3q19 (part_of a.parts c))) 0 f

  number-here : number_in b (counted_in pour) ≡ number_in a (counted_in pour) +ℤ t
  unfolding act_set
  number-here = get_or-set_same a.carry (counted_in pour) (number_in a (counted_in pour) +ℤ t) (pos 0) (below pour)
    where
      below : (q : Bool) → counted_in q < length a.carry
      below true = omega (arith, p.carry)
      below false = omega (arith, p.carry)

  number-other : (j : ℕ) → (j ≡ counted_in pour → ⊥) → number_in b j ≡ number_in a j
  unfolding act_set
  number-other j f = get_or-set_other a.carry (counted_in pour) j (number_in a (counted_in pour) +ℤ t) (pos 0) f

  carry_same : number_in b 0 ≡ number_in a 0
  carry_same = number-other 0 (apart pour)
    where
      apart : (q : Bool) → 0 ≡ counted_in q → ⊥
      apart true e = omega arith
      apart false e = omega arith

  -- ---- the check goes on accepting
  new : cell_of 1 ((state_of 18 a).part c) ((state_of 18 a).mass c) ((state_of 18 a).fill c) ≡ true
      → cell_of 1 ((state_of 18 a).part c) (mass_of pour m t) (fill_of (mass_of pour m t) (density d3q19 (part_of a.parts c))) ≡ true
  unfolding state_of
  new old =
      interface-good ((state_of 18 a).part c) ((state_of 18 a).mass c) ((state_of 18 a).fill c) (mass_of pour m t) old
      (mass-kept pour amount m (number_in a (counted_in pour)) x.good (cell-mass (cells_of s) (state_of 18 a) p.cells c x.inside flag_is))

  cells-good : (j : ℕ) → j < cells_of s → cell_good d3q19 (state_of 18 b) j ≡ true
  cells-good j h = by (ℕ_discrete j c)
    where
      by : Dec (j ≡ c) → cell_good d3q19 (state_of 18 b) j ≡ true
      by (yes e) =
          let old : cell_of 1 ((state_of 18 a).part c) ((state_of 18 a).mass c) ((state_of 18 a).fill c) ≡ true =
          ap (λ (f : ℕ). cell_of f ((state_of 18 a).part c) ((state_of 18 a).mass c) ((state_of 18 a).fill c)) (sym flag_is) ∙ sym (cell-is (state_of 18 a) c) ∙ p.cells c x.inside in
          ap (cell_good d3q19 (state_of 18 b)) e ∙ cell-is (state_of 18 b) c
          ∙ ap (λ (f : ℕ). cell_of f ((state_of 18 b).part c) ((state_of 18 b).mass c) ((state_of 18 b).fill c)) (flags-same c ∙ flag_is)
          ∙ ap₂ (λ (n : ℤ) (φ : ℕ). cell_of 1 ((state_of 18 b).part c) n φ) mass-here fill_here
          ∙ ap (λ (f : ℕ → ℤ). cell_of 1 f (mass_of pour m t) (fill_of (mass_of pour m t) (density d3q19 (part_of a.parts c)))) (part_same c)
          ∙ new old
      by (no f) =
          cell-is (state_of 18 b) j
          ∙ ap₂ (λ (n : ℤ) (φ : ℕ). cell_of ((state_of 18 b).flag j) ((state_of 18 b).part j) n φ) (mass-other j f) (fill-other j f)
          ∙ ap₂ (λ (g : ℕ) (f : ℕ → ℤ). cell_of g f ((state_of 18 a).mass j) ((state_of 18 a).fill j)) (flags-same j) (part_same j)
          ∙ sym (cell-is (state_of 18 a) j) ∙ p.cells j h

  carry-good : carry_good (state_of 18 b).carry ≡ true
  unfolding bad_rule state_of
  carry-good =
      ap carry_good carry_same
      ∙ not-false (carry_good (number_in a 0))
      (ap (λ (q : Bool). cond q (not (carry_good (number_in a 0))) (not (cell_good d3q19 (state_of 18 a) (cells_of s)))) (sym (eq-eqb (cells_of s) (cells_of s) refl))
      ∙ first-none (suc (cells_of s)) (λ j. cond (eqb j (cells_of s)) (not (carry_good (number_in a 0))) (not (cell_good d3q19 (state_of 18 a) j))) p.rules (cells_of s) (lt-suc_self (cells_of s)))

  less : (j n : ℕ) → j < suc n → (j ≡ n → ⊥) → j < n
  less j n k f = omega arith

  none-broken : (j : ℕ) → j < suc (cells_of s) → cond (eqb j (cells_of s)) (not (carry_good (state_of 18 b).carry)) (not (cell_good d3q19 (state_of 18 b) j)) ≡ false
  none-broken j k = by (ℕ_discrete j (cells_of s))
    where
      by : Dec (j ≡ cells_of s) → cond (eqb j (cells_of s)) (not (carry_good (state_of 18 b).carry)) (not (cell_good d3q19 (state_of 18 b) j)) ≡ false
      by (yes e) = cond_yes _ _ (eq-eqb j (cells_of s) e) ∙ ap not carry-good
      by (no f) = cond_no _ _ (ne_eqb j (cells_of s) f) ∙ ap not (cells-good j (less j (cells_of s) k f))

  rules-kept : suc (cells_of s) ≤ bad_rule d3q19 (cells_of s) (state_of 18 b)
  unfolding bad_rule
  rules-kept = le_of_eq (sym (first-all (suc (cells_of s)) (λ j. cond (eqb j (cells_of s)) (not (carry_good (state_of 18 b).carry)) (not (cell_good d3q19 (state_of 18 b) j))) none-broken))

  good-kept : good_answer d3q19 (grid_of s) (state_of 18 b) Done ≡ Done
  unfolding state_of act_set grid_of box cells_of
  good-kept = pass-good d3q19 (grid_of s) (state_of 18 b) Done p.sound-is.flagged p.sound-is.walled p.sound-is.closed rules-kept

  lengths-kept : four s b (cells_of s) ≡ true
  unfolding act_set
  lengths-kept =
      let n = cells_of s in
      let f = eq-eqb (length a.flags) n p.sized.flags in
      let g = eq-eqb (length a.parts) (19 * n) p.sized.parts in
      let h = eq-eqb (length b.masses) n (length-set a.masses c (mass_of pour m t) ∙ p.sized.masses) in
      let k = eq-eqb (length b.fills) n (length-set a.fills c (fill_of (mass_of pour m t) (density d3q19 (part_of a.parts c))) ∙ p.sized.fills) in
      and-true _ _ (and-true _ _ (and-true _ _ f g) h) k

  three-kept : length b.carry ≡ 3
  unfolding act_set
  three-kept = length-set a.carry (counted_in pour) (number_in a (counted_in pour) +ℤ t) ∙ p.carry

  total_here : total_good (number_in a (counted_in pour)) ≡ true → total_good (number_in b (counted_in pour)) ≡ true
  total_here h = ap total_good number-here ∙ total_kept pour amount m (number_in a (counted_in pour)) x.good h

  good-after : total_good (number_in b 1) ≡ true → total_good (number_in b 2) ≡ true → three_answer s b ≡ Done
  good-after h k =
      sym (accepts s b p.sides three-kept lengths-kept (ap (λ (q : State). good_answer d3q19 (grid_of s) q Done) (head-state s b) ∙ good-kept) h k)

  -- ---- the total
  water-after : water_of s b ≡ (fluid_water (cells_of s) (state_of 18 a) +ℤ (interface_water (cells_of s) (state_of 18 a) +ℤ gain_of pour t)) +ℤ number_in a 0
  unfolding water_of state_of
  water-after =
      water-more (cells_of s) (state_of 18 a) (state_of 18 b) c (gain_of pour t) x.inside flags-same flag_is (mass-here ∙ mass-gains pour m t) mass-other carry_same

-- ---- the two acts
water-is : (s : Sides) (a : Lent) → water_of s a ≡ (fluid_water (cells_of s) (state_of 18 a) +ℤ interface_water (cells_of s) (state_of 18 a)) +ℤ number_in a 0
unfolding water_of water state_of
water-is s a = refl

act-balance : (pour : Bool) (s : Sides) (c : ℕ) (amount : ℤ) (a : Lent) → Accepted pour s c amount a → balance s (act_set pour c amount a) ≡ balance s a
unfolding balance gain_of
act-balance true s c amount a x =
    let f = fluid_water (cells_of s) (state_of 18 a) in
    let i = interface_water (cells_of s) (state_of 18 a) in
    let t = moved_of true amount (get_or a.masses c (pos 0)) in
    ap₂ (λ (u v : ℤ). u -ℤ v) (ap₂ (λ (u v : ℤ). u +ℤ v) (water-after true s c amount a x) (number-other true s c amount a x 2 (λ e. omega arith))) (number-here true s c amount a x)
    ∙ poured f i (number_in a 0) (number_in a 2) (number_in a 1) t
    ∙ sym (ap (λ (w : ℤ). w +ℤ number_in a 2 -ℤ number_in a 1) (water-is s a))
act-balance false s c amount a x =
    let f = fluid_water (cells_of s) (state_of 18 a) in
    let i = interface_water (cells_of s) (state_of 18 a) in
    let t = moved_of false amount (get_or a.masses c (pos 0)) in
    ap₂ (λ (u v : ℤ). u -ℤ v) (ap₂ (λ (u v : ℤ). u +ℤ v) (water-after false s c amount a x) (number-here false s c amount a x)) (number-other false s c amount a x 1 (λ e. omega arith))
    ∙ taken f i (number_in a 0) (number_in a 2) (number_in a 1) t
    ∙ sym (ap (λ (w : ℤ). w +ℤ number_in a 2 -ℤ number_in a 1) (water-is s a))

act-good : (pour : Bool) (s : Sides) (c : ℕ) (amount : ℤ) (a : Lent) → Accepted pour s c amount a → three_answer s (act_set pour c amount a) ≡ Done
act-good true s c amount a x =
    good-after true s c amount a x (total_here true s c amount a x (p true s c amount a x).poured) (ap total_good (number-other true s c amount a x 2 (λ e. omega arith)) ∙ (p true s c amount a x).taken)
act-good false s c amount a x =
    good-after false s c amount a x (ap total_good (number-other false s c amount a x 1 (λ e. omega arith)) ∙ (p false s c amount a x).poured) (total_here false s c amount a x (p false s c amount a x).taken)

-- an accepted act
pub act-kept : (pour : Bool) (s : Sides) (c : ℕ) (amount : ℤ) (a : Lent) → act_answer pour s c amount a ≡ Done → Kept s a (act_set pour c amount a)
unfolding act_set
act-kept pour s c amount a e =
    let x = accepted pour s c amount a e in
    record {
      balance-kept = act-balance pour s c amount a x;
      still-good = act-good pour s c amount a x;
      carry-kept = carry_same pour s c amount a x;
      flags-kept = refl;
      parts-kept = refl;
    }
