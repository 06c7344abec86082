-- Test 6 of a record read: a cell's rules come to what its own numbers say, and the search over the cells with the carry behind it is test 6's place.
-- Assumes nothing.
use mathlib.Core.Path.{◌≡◌, refl, sym, ap, ap₂, ◌∙◌, subst}
use mathlib.Core.Bool.{Bool, true, false, not, cond, ◌&&◌}
use mathlib.Core.List.{List}
use mathlib.Core.Logic.{◌⊎◌, inl, inr}
use Prim.Native.Nat.{ℕ, zero, suc, ◌+◌, ◌*◌, ◌≤◌, ◌<◌}
use native.Mathlib.Nat.{add-suc, suc-add, zero-add, lt_irrefl, eq-or-lt_of_le, le_of_suc-le-suc}
use native.Mathlib.Omega.{arith}
use lib.Dec.{eqb}
use lib.IntN.{ℤ, pos}
use lib.ListN.{length, get_or}
use borrow.Author.Tests.{eq-eqb, ne_eqb}
use Rattle.whole.specs.laws.Bools.{and_yes}
use Rattle.whole.specs.Fold.{tab, all, first, first_from}
use Rattle.whole.specs.laws.Search.{first_cong, first-none, first-all, first-is}
use Rattle.whole.specs.laws.Tab.{get_or-tab}
use Rattle.lattice.specs.Lattice.{Lattice, d3q19, density}
use Rattle.lattice.specs.Cell.{mass_good, carry_good, fill_of}
use Rattle.lattice.specs.inner.Held.{parts_of}
use Rattle.lattice.specs.Body.{body_good, eq_z}
use Rattle.lattice.proofs.Equal.{eq_z-same}
use Rattle.grid.specs.State.{State, by_flag, liquid, flag_of}
use Rattle.grid.specs.Step.{fill_for}
use Rattle.grid.specs.Good.{dry_good, interface_good, fluid_good, fill_good, cell_good, bad_rule}
use Rattle.grid.proofs.Lists.{get_or-there}
use Rattle.grid.proofs.Same.{body_same}
use Rattle.record.specs.Bytes.{i32_at}
use Rattle.record.specs.Places.{counts, masses_from, parts_from}
use Rattle.record.specs.Layout.{interfaces, liquids}
use Rattle.record.specs.Reading.{totals_in, cells_in, flags_in, flag_in, interfaces_in, mass_at, part_at, mass_in, part_in, state_in}
use Rattle.record.specs.inner.Passes.{held_mass, part_held, fair_of, fair_held, fair_by, fair_at}

-- ---- one cell
-- parts read into an array
pub body-tab : (f : ℕ → ℤ) → body_good d3q19 (parts_of (tab 19 f)) ≡ body_good d3q19 f
unfolding d3q19
body-tab f =
    body_same d3q19 (parts_of (tab 19 f)) f (λ k h. get_or-tab 19 f (pos 0) k (omega arith))

abbrev Dry : ℕ → Type 0
Dry f = ◌≡◌ {A = ℕ} (cond (liquid f) 1 0) 0

-- each way through the test
pub fair-dry : (L : Lattice) (f : ℕ) (m : ℤ) (g : ℕ → ℤ) → Dry f → fair_of L f m g ≡ true
unfolding fair_of
fair-dry L zero m g e = refl
fair-dry L (suc zero) m g e = absurd (let z : ◌≡◌ {A = ℕ} 1 0 = e in omega arith)
fair-dry L (suc (suc zero)) m g e = absurd (let z : ◌≡◌ {A = ℕ} 1 0 = e in omega arith)
fair-dry L (suc (suc (suc f))) m g e = refl

pub fair-not : (L : Lattice) (f : ℕ) (m : ℤ) (g : ℕ → ℤ) → (Dry f → ⊥) → body_good L g ≡ false → fair_of L f m g ≡ false
unfolding fair_of
fair-not L zero m g h e = absurd (h refl)
fair-not L (suc zero) m g h e = rw e
fair-not L (suc (suc zero)) m g h e = e
fair-not L (suc (suc (suc f))) m g h e = absurd (h refl)

pub fair-fluid : (L : Lattice) (f : ℕ) (m : ℤ) (g : ℕ → ℤ) → (f ≡ 1 → ⊥) → body_good L g ≡ true → fair_of L f m g ≡ true
unfolding fair_of
fair-fluid L zero m g h e = refl
fair-fluid L (suc zero) m g h e = absurd (h refl)
fair-fluid L (suc (suc zero)) m g h e = e
fair-fluid L (suc (suc (suc f))) m g h e = refl

pub fair-interface : (L : Lattice) (f : ℕ) (m : ℤ) (g : ℕ → ℤ) → f ≡ 1 → body_good L g ≡ true → fair_of L f m g ≡ mass_good m
unfolding fair_of
fair-interface L f m g h e = rw (h, e)

-- a cell's numbers as a loop over the flags finds them
pub fair-at : (L : Lattice) (w : ℕ) (rec flags : List ℕ) (masses parts m p c : ℕ) → c < length flags → m ≡ masses + 4 * interfaces c (flag_of flags) → p ≡ parts + 4 * w * liquids c (flag_of flags)
    → fair_of L (get_or flags c 0) (i32_at rec m) (λ k. i32_at rec (p + 4 * k)) ≡ fair_held L w rec flags masses parts c
unfolding fair_held fair_of
fair-at L w rec flags masses parts m p c h e d =
    let g : ℕ → ℤ = λ k. i32_at rec (p + 4 * k) in
    let one : get_or flags c 0 ≡ flag_of flags c = get_or-there flags c 0 3 h in
    let same : body_good L g ≡ body_good L (part_held w rec flags parts c) =
    body_same L g (part_held w rec flags parts c) (λ k l. ap (i32_at rec) (let q : p + 4 * k ≡ parts + 4 * (w * liquids c (flag_of flags) + k) = omega arith in q)) in
    ap₂ (λ (f i : ℕ). fair_of L f (i32_at rec i) g) one e
    ∙ ap (λ (t : Bool). by_flag (flag_of flags c) true (t && mass_good (held_mass rec flags masses c)) t true) same

-- wall and empty cells keep their rules, fluid mass and every fill are worked out: what is left are the numbers that the record holds
all_yes : (n : ℕ) → all n (λ k. eq_z (pos 0) (pos 0)) ≡ true
unfolding all
all_yes zero = refl
all_yes (suc n) = and_yes (all n (λ k. eq_z (pos 0) (pos 0))) (eq_z (pos 0) (pos 0)) refl ∙ all_yes n

pub cell-by : (L : Lattice) (f : ℕ) (m : ℤ) (g : ℕ → ℤ) → let part : ℕ → ℤ = λ k. by_flag f (pos 0) (g k) (g k) (pos 0) in
    let mass : ℤ = by_flag f (pos 0) m (density L part) (pos 0) in
    let dry : Bool = eq_z mass (pos 0) && all (suc L.q) (λ k. eq_z (part k) (pos 0)) in
    (by_flag f dry (body_good L part && mass_good mass) (body_good L part && eq_z mass (density L part)) dry && eqb (fill_for f mass (density L part)) (fill_for f mass (density L part))) ≡ fair_of L f m g
unfolding fair_of fill_for
cell-by L zero m g = and_yes (eq_z (pos 0) (pos 0) && all (suc L.q) (λ k. eq_z (pos 0) (pos 0))) (eqb 0 0) refl ∙ ap (λ (b : Bool). true && b) (all_yes (suc L.q))
cell-by L (suc zero) m g =
    let ρ = density L g in
    and_yes (body_good L g && mass_good m) (eqb (fill_of m ρ) (fill_of m ρ)) (eq-eqb (fill_of m ρ) (fill_of m ρ) refl)
cell-by L (suc (suc zero)) m g =
    let ρ = density L g in
    and_yes (body_good L g && eq_z ρ ρ) (eqb 65536 65536) refl ∙ and_yes (body_good L g) (eq_z ρ ρ) (eq_z-same ρ)
cell-by L (suc (suc (suc f))) m g = and_yes (eq_z (pos 0) (pos 0) && all (suc L.q) (λ k. eq_z (pos 0) (pos 0))) (eqb 0 0) refl ∙ ap (λ (b : Bool). true && b) (all_yes (suc L.q))

pub cell-fair : (r : List ℕ) (masses parts c : ℕ) → masses ≡ masses_from counts (totals_in r) (cells_in r) + 4 → parts ≡ parts_from counts (totals_in r) (cells_in r) (interfaces_in r) + 4
    → cell_good d3q19 (state_in r) c ≡ fair_at r (flags_in r) masses parts c
unfolding cell_good dry_good interface_good fluid_good fill_good state_in mass_in part_in mass_at part_at flag_in fair_held d3q19
cell-fair r masses parts c e d =
    cell-by d3q19 (flag_in r c) (mass_at r c) (part_at r c)
    ∙ ap₂ (λ (i j : ℕ). fair_by (flag_in r c) (i32_at r (i + 4 * interfaces c (flag_in r))) (λ k. i32_at r (j + 4 * (19 * liquids c (flag_in r) + k)))) (sym e) (sym d)

-- ---- the search
from-longer : (n i : ℕ) (f : ℕ → Bool) → first_from n i f < i + n → first_from (suc n) i f ≡ first_from n i f
unfolding first_from
from-longer zero i f h = absurd (omega arith)
from-longer (suc n) i f h = go (f i) refl (λ k. from-longer n (suc i) f k)
  where
    go : (t : Bool) → f i ≡ t → (first_from n (suc i) f < suc i + n → first_from (suc n) (suc i) f ≡ first_from n (suc i) f)
        → first_from (suc (suc n)) i f ≡ first_from (suc n) i f
    go true e r = rw (e, first_from) refl
    go false e r =
        let k : first_from n (suc i) f < suc i + n = subst (λ (m : ℕ). first_from n (suc i) f < m) (add-suc i n ∙ sym (suc-add i n)) (rw (e, first_from) at h) in
        rw (e, first_from) (r k)

-- test 6 as the code goes: the cells first, and the carry where no cell is bad
module _ (L : Lattice) (n : ℕ) (S : State) (f : ℕ → Bool) (is : (c : ℕ) → c < n → f c ≡ not (cell_good L S c)) where
  abbrev bad : ℕ → Bool
  bad c = cond (eqb c n) (not (carry_good S.carry)) (not (cell_good L S c))

  at-cell : (c : ℕ) → c < n → bad c ≡ f c
  at-cell c h = ap (λ (t : Bool). cond t (not (carry_good S.carry)) (not (cell_good L S c))) (ne_eqb c n (λ e. lt_irrefl n (subst (λ (m : ℕ). m < n) e h))) ∙ sym (is c h)

  at-carry : bad n ≡ not (carry_good S.carry)
  at-carry = ap (λ (t : Bool). cond t (not (carry_good S.carry)) (not (cell_good L S n))) (eq-eqb n n refl)

  pub bad-cell : first n f < n → bad_rule L n S ≡ first n f
  unfolding bad_rule
  bad-cell h =
      let e : first n bad ≡ first n f = first_cong n 0 bad f (λ a k. ap bad (zero-add a) ∙ at-cell a k ∙ sym (ap f (zero-add a))) in
      from-longer n 0 bad (subst (λ (m : ℕ). m < 0 + n) (sym e) (omega arith)) ∙ e

  none : n ≤ first n f → (c : ℕ) → c < n → bad c ≡ false
  none h c k = at-cell c k ∙ first-none n f h c k

  pub bad-carry : n ≤ first n f → carry_good S.carry ≡ false → bad_rule L n S ≡ n
  unfolding bad_rule
  bad-carry h e = first-is (suc n) bad n (omega arith) (none h) (at-carry ∙ ap not e)

  pub none-bad : n ≤ first n f → carry_good S.carry ≡ true → bad_rule L n S ≡ suc n
  unfolding bad_rule
  none-bad h e = first-all (suc n) bad (λ c k. go c (eq-or-lt_of_le (le_of_suc-le-suc k)))
    where
      go : (c : ℕ) → (c ≡ n) ⊎ (c < n) → bad c ≡ false
      go c (inl p) = ap bad p ∙ at-carry ∙ ap not e
      go c (inr k) = none h c k
