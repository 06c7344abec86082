-- What the flume reader's passes leave is the state of the record: parts, masses and fills of every cell. The passes see the flags as a part of the record
-- and the parts as the list that the first pass left; both are the record's own. Assumes nothing.
use mathlib.Core.Path.{◌≡◌, sym, ap, ap₂, ◌∙◌, subst}
use mathlib.Core.Bool.{true}
use mathlib.Core.List.{List}
use Prim.Native.Nat.{ℕ, suc, ◌+◌, ◌*◌, ◌/◌, ◌%◌, ◌≤◌, ◌<◌}
use native.Mathlib.Omega.{arith}
use lib.IntN.{ℤ, pos}
use lib.ListN.{length, get_or}
use lib.Signed.{◌≤ℤ◌}
use Rattle.whole.specs.Fold.{tab}
use Rattle.whole.specs.laws.Machine.{Within}
use Rattle.whole.specs.laws.Tab.{tab-cong}
use Rattle.lattice.specs.Lattice.{d2q9, density}
use Rattle.lattice.proofs.Tame.{dense-low}
use Rattle.grid.specs.Answer.{Done}
use Rattle.grid.specs.Grid.{flume}
use Rattle.grid.specs.State.{by_flag, liquid, lent_of, flag_of}
use Rattle.grid.specs.Step.{fill_for}
use Rattle.grid.specs.Good.{bad_fluid, bad_rule, cell_good}
use Rattle.grid.specs.Outcome.{if_none}
use Rattle.grid.proofs.Accepted.{passed, none_found, cell-good}
use Rattle.grid.proofs.Listed.{part-at}
use Rattle.grid.proofs.Same.{density-same}
use Rattle.flume.specs.Flume.{flume_cells, flume_grid}
use Rattle.record.specs.Places.{masses_from, parts_from}
use Rattle.record.specs.Reading.{parts_read, masses_read}
use Rattle.record.specs.inner.Passes.{held_mass, part_held, Heavy, mass_loaded, fill_loaded}
use Rattle.record.proofs.Rules.{part_small, is-dense}
use Rattle.flumerecord.specs.Layout.{flume_counts, flume_site_good}
use Rattle.flumerecord.specs.Reading.{flume_sides_in, flume_settings_in, flume_site_in, flume_cells_in, flume_flags_in, flume_flag_in, flume_interfaces_in, flume_state_in, flume_content}
use Rattle.grid.specs.declared.refusals.Refusal.TheVariants.{BadLayer, BadSetting, BadState}

module _ (r : List ℕ) where
  abbrev N : ℕ
  N = flume_cells_in r

  abbrev P : ℕ → ℕ → ℤ
  P = parts_read d2q9 flume_counts 1 (flume_cells_in r) (flume_flags_in r) r

  abbrev M : ℕ → ℤ
  M = masses_read d2q9 flume_counts 1 (flume_cells_in r) (flume_flags_in r) r

  abbrev pub state-parts : List ℤ
  state-parts = (lent_of 8 (flume_cells_in r) (flume_state_in r)).parts

  -- ---- parts
  pub parts-taken : (flags : List ℕ) (from : ℕ) → flags ≡ flume_flags_in r → length flags ≡ flume_cells_in r → from ≡ parts_from flume_counts 1 (flume_cells_in r) (flume_interfaces_in r) + 4
      → tab (9 * length flags) (λ m. by_flag (flag_of flags (m / 9)) (pos 0) (part_held 9 r flags from (m / 9) (m % 9)) (part_held 9 r flags from (m / 9) (m % 9)) (pos 0)) ≡ state-parts
  unfolding lent_of flume_state_in
  parts-taken flags from f n e =
      ap (λ (k : ℕ). tab (9 * k) (λ m. by_flag (flag_of flags (m / 9)) (pos 0) (part_held 9 r flags from (m / 9) (m % 9)) (part_held 9 r flags from (m / 9) (m % 9)) (pos 0))) n
      ∙ ap₂ (λ (l : List ℕ) (j : ℕ). tab (9 * flume_cells_in r) (λ m. by_flag (flag_of l (m / 9)) (pos 0) (part_held 9 r l j (m / 9) (m % 9)) (part_held 9 r l j (m / 9) (m % 9)) (pos 0))) f e

  -- a part of the list is the cell's
  part-there : (c k : ℕ) → c < flume_cells_in r → k ≤ 8 → get_or state-parts (9 * c + k) (pos 0) ≡ P c k
  unfolding lent_of flume_state_in
  part-there c k h l = part-at 8 (flume_cells_in r) c k h l P

  density-there : (c : ℕ) → c < flume_cells_in r → density d2q9 (λ k. get_or state-parts (9 * c + k) (pos 0)) ≡ density d2q9 (P c)
  unfolding d2q9
  density-there c h = density-same d2q9 (λ k. get_or state-parts (9 * c + k) (pos 0)) (P c) (λ k l. part-there c k h l)

  -- ---- masses and fills
  mass-there : (from c : ℕ) → c < flume_cells_in r → from ≡ masses_from flume_counts 1 (flume_cells_in r) + 4 → mass_loaded d2q9 9 r (flume_flags_in r) from state-parts c ≡ M c
  unfolding mass_loaded
  mass-there from c h e =
      ap₂ (λ (j : ℕ) (ρ : ℤ). by_flag (flag_of (flume_flags_in r) c) (pos 0) (held_mass r (flume_flags_in r) j c) ρ (pos 0)) e (density-there c h)

  fill-there : (from c : ℕ) → c < flume_cells_in r → from ≡ masses_from flume_counts 1 (flume_cells_in r) + 4 → fill_loaded d2q9 9 r (flume_flags_in r) from state-parts c ≡ (flume_state_in r).fill c
  unfolding fill_loaded flume_state_in
  fill-there from c h e = ap₂ (λ (m ρ : ℤ). fill_for (flag_of (flume_flags_in r) c) m ρ) (mass-there from c h e) (density-there c h)

  module _ (flags : List ℕ) (parts : List ℤ) (from : ℕ) (f : flags ≡ flume_flags_in r) (n : length flags ≡ flume_cells_in r) (p : parts ≡ state-parts) (e : from ≡ masses_from flume_counts 1 (flume_cells_in r) + 4) where
    pub masses-taken : tab (length flags) (mass_loaded d2q9 9 r flags from parts) ≡ (lent_of 8 (flume_cells_in r) (flume_state_in r)).masses
    unfolding lent_of flume_state_in
    masses-taken =
        ap (λ (k : ℕ). tab k (mass_loaded d2q9 9 r flags from parts)) n
        ∙ ap₂ (λ (l : List ℕ) (q : List ℤ). tab (flume_cells_in r) (mass_loaded d2q9 9 r l from q)) f p
        ∙ tab-cong (flume_cells_in r) (mass_loaded d2q9 9 r (flume_flags_in r) from state-parts) M (pos 0) (λ c h. mass-there from c h e)

    pub fills-taken : tab (length flags) (fill_loaded d2q9 9 r flags from parts) ≡ (lent_of 8 (flume_cells_in r) (flume_state_in r)).fills
    unfolding lent_of
    fills-taken =
        ap (λ (k : ℕ). tab k (fill_loaded d2q9 9 r flags from parts)) n
        ∙ ap₂ (λ (l : List ℕ) (q : List ℤ). tab (flume_cells_in r) (fill_loaded d2q9 9 r l from q)) f p
        ∙ tab-cong (flume_cells_in r) (fill_loaded d2q9 9 r (flume_flags_in r) from state-parts) (flume_state_in r).fill 0 (λ c h. fill-there from c h e)

  -- ---- a record that passed its tests
  module _ (done : flume_content r ≡ Done) where
    cells-good : (c : ℕ) → c < flume_cells_in r → cell_good d2q9 (flume_state_in r) c ≡ true
    unfolding flume_content flume_grid flume flume_cells_in flume_cells
    cells-good c h =
        let n = flume_cells_in r in
        let six = if_none (suc n) BadState (bad_rule d2q9 n (flume_state_in r)) Done in
        let five = if_none n BadLayer (bad_fluid 8 (flume_grid (flume_sides_in r)) (flume_flag_in r)) six in
        let a = passed (flume_site_good (flume_settings_in r) (flume_site_in r)) (BadSetting 0) five done in
        let b = none_found n BadLayer (bad_fluid 8 (flume_grid (flume_sides_in r)) (flume_flag_in r)) six a.1 in
        let d = none_found (suc n) BadState (bad_rule d2q9 n (flume_state_in r)) Done b.1 in
        cell-good d2q9 (flume_grid (flume_sides_in r)) (flume_state_in r) d.0 c h

    small-there : (c : ℕ) → c < flume_cells_in r → liquid (flume_flag_in r c) ≡ true → (k : ℕ) → k ≤ 8 → Within (P c k) 1179648
    unfolding flume_state_in d2q9
    small-there c h l k m = part_small d2q9 (flume_cells_in r) (flume_state_in r) c (cells-good c h) l k m

    dense-there : (c : ℕ) → c < flume_cells_in r → liquid (flume_flag_in r c) ≡ true → pos 294912 ≤ℤ density d2q9 (P c)
    unfolding flume_state_in
    dense-there c h l = dense-low (density d2q9 (P c)) (is-dense d2q9 (flume_cells_in r) (flume_state_in r) c (cells-good c h) l)

    pub weighed : (flags : List ℕ) (parts : List ℤ) → flags ≡ flume_flags_in r → length flags ≡ flume_cells_in r → parts ≡ state-parts → Heavy d2q9 9 flags parts
    weighed flags parts f n p = record {
      inside = λ c h l k m.
          let hc : c < flume_cells_in r = omega arith in
          subst (λ (z : ℤ). Within z 1179648) (sym (ap (λ (q : List ℤ). get_or q (9 * c + k) (pos 0)) p ∙ part-there c k hc (omega arith)))
          (small-there c hc (sym (ap (λ (o : List ℕ). liquid (flag_of o c)) f) ∙ l) k (omega arith));
      heavy = λ c h l.
          let hc : c < flume_cells_in r = omega arith in
          subst (λ (z : ℤ). pos 294912 ≤ℤ z) (sym (ap (λ (q : List ℤ). density d2q9 (λ k. get_or q (9 * c + k) (pos 0))) p ∙ density-there c hc))
          (dense-there c hc (ap liquid (sym (ap (λ (o : List ℕ). flag_of o c) f) ∙ l)));
    }
