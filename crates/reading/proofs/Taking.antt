-- What the reader's passes leave is the state of the record: parts, masses and fills of every cell. The passes see the flags as a part of the record
-- and the parts as the list that the first pass left; both are the record's own. Assumes nothing.
use mathlib.Core.Path.{◌≡◌, sym, ap, ap₂, ◌∙◌, subst}
use mathlib.Core.Bool.{true}
use mathlib.Core.List.{List}
use Prim.Native.Nat.{ℕ, suc, ◌+◌, ◌*◌, ◌/◌, ◌%◌, ◌≤◌, ◌<◌}
use native.Mathlib.Omega.{arith}
use lib.IntN.{ℤ, pos}
use lib.ListN.{length, get_or}
use lib.Signed.{◌≤ℤ◌}
use Rattle.whole.specs.Fold.{tab}
use Rattle.whole.specs.laws.Machine.{Within}
use Rattle.whole.specs.laws.Tab.{tab-cong}
use Rattle.lattice.specs.Lattice.{d3q19, density}
use Rattle.lattice.proofs.Tame.{dense-low}
use Rattle.grid.specs.Answer.{Done}
use Rattle.grid.specs.Grid.{grid_of, box, cells_of}
use Rattle.grid.specs.State.{by_flag, liquid, lent_of, flag_of}
use Rattle.grid.specs.Step.{fill_for}
use Rattle.grid.specs.Good.{bad_fluid, bad_rule, cell_good}
use Rattle.grid.specs.Outcome.{or_refuse, if_none}
use Rattle.pumps.specs.Three.{totals_good}
use Rattle.grid.specs.inner.Sight.{Body}
use Rattle.grid.proofs.Accepted.{passed, none_found, cell-good}
use Rattle.grid.proofs.Prepared.{cell-body}
use Rattle.grid.proofs.Listed.{part-at}
use Rattle.grid.proofs.Same.{density-same}
use Rattle.record.specs.Places.{counts, masses_from, parts_from}
use Rattle.record.specs.Layout.{site_good}
use Rattle.record.specs.Reading.{settings_in, site_in, sides_in, totals_in, poured_in, taken_in, cells_in, flags_in, flag_in, interfaces_in, mass_at, part_at, part_in, mass_in, state_in, content_answer}
use Rattle.record.specs.inner.Passes.{held_mass, held_part, Weighed, mass_loaded, fill_loaded, loaded_mass, loaded_fill}
use Rattle.grid.specs.declared.refusals.Refusal.TheVariants.{BadLayer, BadSetting, BadState}

module _ (r : List ℕ) where
  abbrev N : ℕ
  N = cells_in r

  abbrev pub state-parts : List ℤ
  state-parts = (lent_of 18 (cells_in r) (state_in r)).parts

  -- ---- parts
  pub parts-taken : (flags : List ℕ) (from : ℕ) → flags ≡ flags_in r → length flags ≡ cells_in r → from ≡ parts_from counts (totals_in r) (cells_in r) (interfaces_in r) + 4
      → tab (19 * length flags) (λ m. by_flag (flag_of flags (m / 19)) (pos 0) (held_part r flags from (m / 19) (m % 19)) (held_part r flags from (m / 19) (m % 19)) (pos 0)) ≡ state-parts
  unfolding lent_of state_in part_in part_at flag_in
  parts-taken flags from f n e =
      ap (λ (k : ℕ). tab (19 * k) (λ m. by_flag (flag_of flags (m / 19)) (pos 0) (held_part r flags from (m / 19) (m % 19)) (held_part r flags from (m / 19) (m % 19)) (pos 0))) n
      ∙ ap₂ (λ (l : List ℕ) (j : ℕ). tab (19 * cells_in r) (λ m. by_flag (flag_of l (m / 19)) (pos 0) (held_part r l j (m / 19) (m % 19)) (held_part r l j (m / 19) (m % 19)) (pos 0))) f e

  -- a part of the list is the cell's
  pub part-there : (c k : ℕ) → c < cells_in r → k ≤ 18 → get_or state-parts (19 * c + k) (pos 0) ≡ part_in r c k
  unfolding lent_of state_in
  part-there c k h l = part-at 18 (cells_in r) c k h l (part_in r)

  density-there : (c : ℕ) → c < cells_in r → density d3q19 (λ k. get_or state-parts (19 * c + k) (pos 0)) ≡ density d3q19 (part_in r c)
  unfolding d3q19
  density-there c h = density-same d3q19 (λ k. get_or state-parts (19 * c + k) (pos 0)) (part_in r c) (λ k l. part-there c k h l)

  -- ---- masses and fills
  mass-there : (from c : ℕ) → c < cells_in r → from ≡ masses_from counts (totals_in r) (cells_in r) + 4 → loaded_mass r (flags_in r) from state-parts c ≡ mass_in r c
  unfolding mass_loaded mass_in mass_at flag_in
  mass-there from c h e =
      ap₂ (λ (j : ℕ) (ρ : ℤ). by_flag (flag_of (flags_in r) c) (pos 0) (held_mass r (flags_in r) j c) ρ (pos 0)) e (density-there c h)

  fill-there : (from c : ℕ) → c < cells_in r → from ≡ masses_from counts (totals_in r) (cells_in r) + 4 → loaded_fill r (flags_in r) from state-parts c ≡ (state_in r).fill c
  unfolding fill_loaded state_in flag_in
  fill-there from c h e = ap₂ (λ (m ρ : ℤ). fill_for (flag_of (flags_in r) c) m ρ) (mass-there from c h e) (density-there c h)

  module _ (flags : List ℕ) (parts : List ℤ) (from : ℕ) (f : flags ≡ flags_in r) (n : length flags ≡ cells_in r) (p : parts ≡ state-parts) (e : from ≡ masses_from counts (totals_in r) (cells_in r) + 4) where
    pub masses-taken : tab (length flags) (loaded_mass r flags from parts) ≡ (lent_of 18 (cells_in r) (state_in r)).masses
    unfolding lent_of state_in
    masses-taken =
        ap (λ (k : ℕ). tab k (loaded_mass r flags from parts)) n
        ∙ ap₂ (λ (l : List ℕ) (q : List ℤ). tab (cells_in r) (loaded_mass r l from q)) f p
        ∙ tab-cong (cells_in r) (loaded_mass r (flags_in r) from state-parts) (mass_in r) (pos 0) (λ c h. mass-there from c h e)

    pub fills-taken : tab (length flags) (loaded_fill r flags from parts) ≡ (lent_of 18 (cells_in r) (state_in r)).fills
    unfolding lent_of
    fills-taken =
        ap (λ (k : ℕ). tab k (loaded_fill r flags from parts)) n
        ∙ ap₂ (λ (l : List ℕ) (q : List ℤ). tab (cells_in r) (loaded_fill r l from q)) f p
        ∙ tab-cong (cells_in r) (loaded_fill r (flags_in r) from state-parts) (state_in r).fill 0 (λ c h. fill-there from c h e)

  -- ---- a record that passed its tests
  module _ (done : content_answer r ≡ Done) where
    pub cells-good : (c : ℕ) → c < cells_in r → cell_good d3q19 (state_in r) c ≡ true
    unfolding content_answer grid_of box cells_in cells_of
    cells-good c h =
        let n = cells_in r in
        let last = or_refuse (totals_good (poured_in r) (taken_in r)) (BadState n) Done in
        let six = if_none (suc n) BadState (bad_rule d3q19 n (state_in r)) last in
        let five = if_none n BadLayer (bad_fluid 18 (grid_of (sides_in r)) (flag_in r)) six in
        let a = passed (site_good (settings_in r) (site_in r)) (BadSetting 0) five done in
        let b = none_found n BadLayer (bad_fluid 18 (grid_of (sides_in r)) (flag_in r)) six a.1 in
        let d = none_found (suc n) BadState (bad_rule d3q19 n (state_in r)) last b.1 in
        cell-good d3q19 (grid_of (sides_in r)) (state_in r) d.0 c h

    body-there : (c : ℕ) → c < cells_in r → liquid (flag_in r c) ≡ true → Body (part_in r c)
    unfolding state_in
    body-there c h l = cell-body (cells_in r) (state_in r) cells-good c h l

    pub weighed : (flags : List ℕ) (parts : List ℤ) → flags ≡ flags_in r → length flags ≡ cells_in r → parts ≡ state-parts → Weighed flags parts
    unfolding flag_in
    weighed flags parts f n p = record {
      inside = λ c h l k m.
          let hc : c < cells_in r = omega arith in
          subst (λ (z : ℤ). Within z 1179648) (sym (ap (λ (q : List ℤ). get_or q (19 * c + k) (pos 0)) p ∙ part-there c k hc (omega arith)))
          ((body-there c hc (sym (ap (λ (o : List ℕ). liquid (flag_of o c)) f) ∙ l)).parts k (omega arith));
      heavy = λ c h l.
          let hc : c < cells_in r = omega arith in
          subst (λ (z : ℤ). pos 294912 ≤ℤ z) (sym (ap (λ (q : List ℤ). density d3q19 (λ k. get_or q (19 * c + k) (pos 0))) p ∙ density-there c hc))
          (dense-low (density d3q19 (part_in r c)) (body-there c hc (ap liquid (sym (ap (λ (o : List ℕ). flag_of o c) f) ∙ l))).is-dense);
    }
