-- From tests 1 to 6 of a flume to what a pass asks, and from that to what a law over the nineteen places asks of a cell. Assumes nothing.
use mathlib.Core.Path.{◌≡◌, refl, sym, ap, ◌∙◌}
use mathlib.Core.Bool.{Bool, true, not, cond, false≢true}
use mathlib.Core.List.{[]}
use Prim.Native.Nat.{ℕ, zero, suc, ◌≤◌, ◌<◌}
use native.Mathlib.Nat.{lt-suc_self}
use native.Mathlib.Omega.{arith}
use lib.IntN.{ℤ, pos}
use lib.Dec.{eqb}
use lib.ListN.{get_or}
use borrow.Author.Tests.{eq-eqb, not-false}
use Rattle.whole.specs.laws.Machine.{Within}
use Rattle.whole.specs.Fold.{Dir}
use Rattle.whole.specs.laws.Search.{first-none}
use Rattle.lattice.specs.Lattice.{d3q19, d2q9, density, momentum}
use Rattle.lattice.specs.Cell.{carry_good}
use Rattle.lattice.specs.Body.{body_good}
use Rattle.lattice.proofs.Fills.{fill-most}
use Rattle.grid.specs.Answer.{Done}
use Rattle.grid.specs.Grid.{flume}
use Rattle.grid.specs.State.{Lent, lent, State, liquid, state_of}
use Rattle.grid.specs.Step.{fill_for}
use Rattle.grid.specs.Good.{dry_good, interface_good, fluid_good, fill_good, cell_good, bad_rule}
use Rattle.grid.specs.Outcome.{good_answer}
use Rattle.grid.specs.Demands.{Closed}
use Rattle.grid.specs.inner.Passes.{Amid}
use Rattle.grid.specs.inner.Sight.{Body}
use Rattle.grid.proofs.Accepted.{Sound, sound, none_found, cell-good}
use Rattle.grid.proofs.Laid.{inner}
use Rattle.grid.proofs.Prepared.{cell-body, cell-mass, cell-dry, cell-fill}
use Rattle.flume.specs.declared.FlumeSides.{FlumeSides}
use Rattle.flume.specs.declared.FlumeSettings.{FlumeSettings}
use Rattle.flume.specs.Flume.{flume_cells, flume_grid}
use Rattle.flume.specs.inner.Offsets.{flume_low}
use Rattle.flume.specs.Outcome.{flume_scene}
use Rattle.flume.specs.inner.Spread.{spread_lattice, spread_state}
use Rattle.flume.proofs.Bridge.{cell-good-same, spread-of}
use Rattle.flume.proofs.Places.{at_places, spread_at, spread_none}
use Rattle.nine.specs.inner.Cells.{part_of9}
use Rattle.flumegrid.specs.inner.Ready.{FlumeReady, FlumeDried, FlumePoised}
use Rattle.flumegrid.proofs.Offsets.{wide_grid, inner_of}
use Rattle.grid.specs.declared.refusals.Refusal.TheVariants.{BadFlag, BadLayer, BadState}

-- ---- tests 1 to 6
module _ (s : FlumeSides) (g : FlumeSettings) (a : Lent) (r : FlumeReady s g a) where
  ready-sound : Sound d2q9 (flume_grid s) (state_of 8 a)
  ready-sound = (sound d2q9 (flume_grid s) (state_of 8 a) Done r.good).0

  rules : suc (flume_cells s) ≤ bad_rule d2q9 (flume_cells s) (state_of 8 a)
  unfolding good_answer flume_grid flume flume_cells
  rules =
      let x = none_found (flume_grid s).cells BadFlag _ _ r.good in
      let y = none_found (flume_grid s).cells BadLayer _ _ x.1 in
      (none_found (suc (flume_grid s).cells) BadState _ _ y.1).0

  -- the carry is in its range
  pub ready-carry : carry_good (get_or a.carry 0 (pos 0)) ≡ true
  unfolding bad_rule state_of
  ready-carry =
      not-false (carry_good (get_or a.carry 0 (pos 0)))
      (ap (λ (b : Bool). cond b (not (carry_good (get_or a.carry 0 (pos 0)))) (not (cell_good d2q9 (state_of 8 a) (flume_cells s)))) (sym (eq-eqb (flume_cells s) (flume_cells s) refl))
      ∙ first-none (suc (flume_cells s)) (λ c. cond (eqb c (flume_cells s)) (not (carry_good (get_or a.carry 0 (pos 0)))) (not (cell_good d2q9 (state_of 8 a) c))) rules (flume_cells s) (lt-suc_self (flume_cells s)))

  -- no rule of a cell reads the carry
  alone : (c : ℕ) → cell_good d2q9 (state_of 8 a) c ≡ cell_good d2q9 (state_of 8 (lent a.flags a.parts a.masses a.fills [])) c
  unfolding state_of cell_good dry_good interface_good fluid_good fill_good
  alone c = refl

  pub poised : FlumePoised s g (lent a.flags a.parts a.masses a.fills [])
  unfolding state_of flume_grid flume flume_cells d2q9
  poised = record {
    sides = r.sides;
    settings = r.settings;
    flags = r.sized.flags;
    parts = r.sized.parts;
    masses = r.sized.masses;
    fills = r.sized.fills;
    flagged = ready-sound.flagged;
    walled = ready-sound.walled;
    closed = ready-sound.closed;
    cells = λ c h. sym (alone c) ∙ cell-good d2q9 (flume_grid s) (state_of 8 a) rules c h;
  }

-- no fill is above 65,536
fill-cases : (f : ℕ) (m ρ : ℤ) → fill_for f m ρ ≤ 65536
unfolding fill_for
fill-cases zero m ρ = omega arith
fill-cases (suc zero) m ρ = fill-most m ρ
fill-cases (suc (suc zero)) m ρ = omega arith
fill-cases (suc (suc (suc n))) m ρ = omega arith

-- ---- one cell of a set that is poised, among the nineteen places
module _ (s : FlumeSides) (g : FlumeSettings) (a : Lent) (r : FlumePoised s g a) where
  abbrev W : State
  W = spread_state (state_of 8 a)

  -- no rule reads a weight
  weightless : (c : ℕ) → cell_good d3q19 W c ≡ cell_good spread_lattice W c
  unfolding cell_good dry_good interface_good fluid_good fill_good body_good density momentum
  weightless c = refl

  spread_same : (c : ℕ) → cell_good spread_lattice W c ≡ cell_good d2q9 (state_of 8 a) c
  unfolding flume_scene
  spread_same = cell-good-same (state_of 8 a) W (spread-of (flume_scene s g a))

  wide-cells : (c : ℕ) → c < flume_cells s → cell_good d3q19 W c ≡ true
  wide-cells c h = weightless c ∙ spread_same c ∙ r.cells c h

  pub body : (c : ℕ) → c < flume_cells s → liquid (get_or a.flags c 3) ≡ true → Body (part_of9 a.parts c)
  unfolding state_of part_of9
  body = cell-body (flume_cells s) W wide-cells

  pub mass : (c : ℕ) → c < flume_cells s → get_or a.flags c 3 ≡ 1 → Within (get_or a.masses c (pos 0)) 2359296
  unfolding state_of
  mass = cell-mass (flume_cells s) W wide-cells

  -- so the flags tell where parts are 0
  pub dried : FlumeDried s a.flags a.parts
  unfolding state_of part_of9
  dried = cell-dry (flume_cells s) W wide-cells

  -- every fill is as stage 7 has it
  pub fill_is : (c : ℕ) → c < flume_cells s → get_or a.fills c 0 ≡ fill_for (get_or a.flags c 3) (get_or a.masses c (pos 0)) (density d3q19 (part_of9 a.parts c))
  unfolding state_of part_of9
  fill_is = cell-fill (flume_cells s) W wide-cells

  pub fill : (c : ℕ) → c < flume_cells s → get_or a.fills c 0 ≤ 65536
  fill c h = omega (arith, fill_is c h, fill-cases (get_or a.flags c 3) (get_or a.masses c (pos 0)) (density d3q19 (part_of9 a.parts c)))

  pub flagged : (c : ℕ) → c < flume_cells s → get_or a.flags c 3 < 4
  unfolding state_of
  flagged = r.flagged

  pub walled : (c : ℕ) → c < flume_cells s → (wide_grid s).outer c ≡ true → get_or a.flags c 3 ≡ 3
  unfolding state_of flume_grid flume flume_cells
  walled = r.walled

  -- a fluid cell has no empty neighbour: an idle one is the cell itself
  pub closed : Closed 18 (wide_grid s) (λ c. get_or a.flags c 3)
  unfolding state_of
  closed c i h some most f z = at i (record { some = some; most = most }) z
    where
      at : (i : ℕ) → Dir 18 i → get_or a.flags ((wide_grid s).near c i) 3 ≡ 0 → ⊥
      at =
          at_places (λ i. get_or a.flags ((wide_grid s).near c i) 3 ≡ 0 → ⊥)
          (λ k d e. r.closed c k h d.some d.most f (ap (λ (b : ℕ). get_or a.flags b 3) (sym (spread_at c ((flume_grid s).near c) k d.most)) ∙ e))
          (λ i n e. let t : get_or a.flags c 3 ≡ 0 = ap (λ (b : ℕ). get_or a.flags b 3) (sym (spread_none c ((flume_grid s).near c) i n)) ∙ e in absurd (omega arith))

  -- a cell that is no wall has all its neighbours
  pub open-inner : (c : ℕ) → c < flume_cells s → (get_or a.flags c 3 ≡ 3 → ⊥) → Amid (flume_cells s) (flume_low s) c
  unfolding state_of flume_grid flume flume_cells
  open-inner c h n = inner_of s r.sides c h (inner (flume_grid s) (state_of 8 a).flag r.walled c h n)

  pub liquid-inner : (c : ℕ) → c < flume_cells s → liquid (get_or a.flags c 3) ≡ true → Amid (flume_cells s) (flume_low s) c
  liquid-inner c h l = open-inner c h (λ w. false≢true (sym (ap liquid w) ∙ l))
