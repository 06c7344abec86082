-- What the passes may take for granted: from tests 1 to 6, that the set is sized and sound, and what each liquid cell then has. Assumes nothing.
use mathlib.Core.Path.{◌≡◌, refl, sym, ap, ◌∙◌, subst}
use mathlib.Core.Bool.{Bool, true, false, ◌&&◌, not, cond, false≢true}
use Prim.Native.Nat.{ℕ, zero, suc, ◌+◌, ◌*◌, ◌≤◌, ◌<◌}
use native.Mathlib.Nat.{lt-suc_self}
use native.Mathlib.Omega.{arith}
use lib.IntN.{ℤ, pos, nat_abs}
use lib.Dec.{eqb}
use lib.ListN.{length, get_or}
use borrow.Author.Tests.{leb-true, eqb-true, eq-eqb, not-false}
use Rattle.whole.specs.laws.Bools.{and_left, and_right}
use Rattle.whole.specs.Fold.{all}
use Rattle.whole.specs.laws.Machine.{Within}
use Rattle.whole.specs.laws.Search.{all-at, first-none}
use Rattle.lattice.specs.Lattice.{dot, d3q19, density, momentum}
use Rattle.lattice.specs.Cell.{part_good, mass_good, carry_good, dense, slow}
use Rattle.lattice.specs.declared.Settings.{Settings}
use Rattle.lattice.proofs.Equal.{eq_z-true}
use Rattle.grid.specs.declared.Sides.{Sides}
use Rattle.grid.specs.Answer.{Done}
use Rattle.grid.specs.Grid.{cells_of, grid_of, box}
use Rattle.grid.specs.State.{Lent, State, by_flag, liquid, state_of}
use Rattle.grid.specs.Step.{fill_for}
use Rattle.grid.specs.Good.{dry_good, interface_good, fluid_good, fill_good, cell_good, bad_rule}
use Rattle.lattice.specs.Body.{body_good, eq_z}
use Rattle.grid.specs.Outcome.{lengths_good, good_answer}
use Rattle.grid.specs.inner.Between.{Sized, Ready}
use Rattle.grid.specs.inner.Halfway.{Dried}
use Rattle.grid.specs.inner.Sight.{Body}
use Rattle.grid.proofs.Accepted.{Sound, sound, none_found, cell-good}
use Rattle.grid.specs.declared.refusals.Refusal.TheVariants.{BadFlag, BadLayer, BadState}

pub sized : (n : ℕ) (a : Lent) → lengths_good n a ≡ true → Sized n a
unfolding lengths_good
sized n a e =
    let b = and_left (eqb (length a.flags) n && eqb (length a.parts) (19 * n) && eqb (length a.masses) n && eqb (length a.fills) n) (eqb (length a.carry) 1) e in
    let c = and_left (eqb (length a.flags) n && eqb (length a.parts) (19 * n) && eqb (length a.masses) n) (eqb (length a.fills) n) b in
    let d = and_left (eqb (length a.flags) n && eqb (length a.parts) (19 * n)) (eqb (length a.masses) n) c in
    record {
      flags = eqb-true _ _ (and_left (eqb (length a.flags) n) (eqb (length a.parts) (19 * n)) d);
      parts = eqb-true _ _ (and_right (eqb (length a.flags) n) (eqb (length a.parts) (19 * n)) d);
      masses = eqb-true _ _ (and_right (eqb (length a.flags) n && eqb (length a.parts) (19 * n)) (eqb (length a.masses) n) c);
      fills = eqb-true _ _ (and_right (eqb (length a.flags) n && eqb (length a.parts) (19 * n) && eqb (length a.masses) n) (eqb (length a.fills) n) b);
      carry = eqb-true _ _ (and_right (eqb (length a.flags) n && eqb (length a.parts) (19 * n) && eqb (length a.masses) n && eqb (length a.fills) n) (eqb (length a.carry) 1) e);
    }

pub body : (f : ℕ → ℤ) → body_good d3q19 f ≡ true → Body f
unfolding body_good d3q19
body f e =
    let l = and_left (all 19 (λ k. part_good (f k)) && dense (density d3q19 f)) (slow (density d3q19 f) (dot (momentum d3q19 f) (momentum d3q19 f))) e in
    record {
      parts = λ k h. record { abs = leb-true (nat_abs (f k)) 1179648 (all-at 19 (λ k. part_good (f k)) (and_left (all 19 (λ k. part_good (f k))) (dense (density d3q19 f)) l) k (omega arith)) };
      is-dense = and_right (all 19 (λ k. part_good (f k))) (dense (density d3q19 f)) l;
      is-slow = and_right (all 19 (λ k. part_good (f k)) && dense (density d3q19 f)) (slow (density d3q19 f) (dot (momentum d3q19 f) (momentum d3q19 f))) e;
    }

pub liquid-body : (f : ℕ) (dry b m e : Bool) → liquid f ≡ true → by_flag f dry (b && m) (b && e) dry ≡ true → b ≡ true
liquid-body zero dry b m e l h = absurd (false≢true l)
liquid-body (suc zero) dry b m e l h = and_left b m h
liquid-body (suc (suc zero)) dry b m e l h = and_left b e h
liquid-body (suc (suc (suc n))) dry b m e l h = absurd (false≢true l)

dry-good : (f : ℕ) (dry i u : Bool) → liquid f ≡ false → by_flag f dry i u dry ≡ true → dry ≡ true
dry-good zero dry i u l h = h
dry-good (suc zero) dry i u l h = absurd (false≢true (sym l))
dry-good (suc (suc zero)) dry i u l h = absurd (false≢true (sym l))
dry-good (suc (suc (suc n))) dry i u l h = h

interface-mass : (f : ℕ) (dry b m e : Bool) → f ≡ 1 → by_flag f dry (b && m) (b && e) dry ≡ true → m ≡ true
interface-mass f dry b m e l h = and_right b m (subst (λ (k : ℕ). by_flag k dry (b && m) (b && e) dry ≡ true) l h)

-- ---- a state whose cells keep test 6's rules
module _ (n : ℕ) (t : State) (cells : (c : ℕ) → c < n → cell_good d3q19 t c ≡ true) where
  kinds : (c : ℕ) → c < n → by_flag (t.flag c) (dry_good d3q19 t c) (interface_good d3q19 t c) (fluid_good d3q19 t c) (dry_good d3q19 t c) ≡ true
  unfolding cell_good
  kinds c h = and_left (by_flag (t.flag c) (dry_good d3q19 t c) (interface_good d3q19 t c) (fluid_good d3q19 t c) (dry_good d3q19 t c)) (fill_good d3q19 t c) (cells c h)

  -- a liquid cell's parts, density and speed are in their ranges
  pub cell-body : (c : ℕ) → c < n → liquid (t.flag c) ≡ true → Body (t.part c)
  unfolding interface_good fluid_good
  cell-body c h l =
      body (t.part c)
      (liquid-body (t.flag c) (dry_good d3q19 t c) (body_good d3q19 (t.part c)) (mass_good (t.mass c)) (eq_z (t.mass c) (density d3q19 (t.part c))) l (kinds c h))

  -- an interface cell's mass too
  pub cell-mass : (c : ℕ) → c < n → t.flag c ≡ 1 → Within (t.mass c) 2359296
  unfolding interface_good fluid_good
  cell-mass c h l =
      record {
        abs = leb-true (nat_abs (t.mass c)) 2359296
            (interface-mass (t.flag c) (dry_good d3q19 t c) (body_good d3q19 (t.part c)) (mass_good (t.mass c)) (eq_z (t.mass c) (density d3q19 (t.part c))) l (kinds c h));
      }

  -- a dry cell's parts are 0
  pub cell-dry : (c k : ℕ) → c < n → k < 19 → liquid (t.flag c) ≡ false → t.part c k ≡ pos 0
  unfolding dry_good d3q19
  cell-dry c k h hk l =
      eq_z-true (t.part c k) (pos 0)
      (all-at 19 (λ k. eq_z (t.part c k) (pos 0))
      (and_right (eq_z (t.mass c) (pos 0)) (all 19 (λ k. eq_z (t.part c k) (pos 0))) (dry-good (t.flag c) (dry_good d3q19 t c) (interface_good d3q19 t c) (fluid_good d3q19 t c) l (kinds c h))) k hk)

  -- every fill is as document 01 has it
  pub cell-fill : (c : ℕ) → c < n → t.fill c ≡ fill_for (t.flag c) (t.mass c) (density d3q19 (t.part c))
  unfolding cell_good fill_good
  cell-fill c h =
      eqb-true (t.fill c) (fill_for (t.flag c) (t.mass c) (density d3q19 (t.part c)))
      (and_right (by_flag (t.flag c) (dry_good d3q19 t c) (interface_good d3q19 t c) (fluid_good d3q19 t c) (dry_good d3q19 t c)) (fill_good d3q19 t c) (cells c h))

module _ (s : Sides) (g : Settings) (a : Lent) (r : Ready s g a) where
  pub ready-sound : Sound d3q19 (grid_of s) (state_of 18 a)
  ready-sound = (sound d3q19 (grid_of s) (state_of 18 a) Done r.good).0

  rules : suc (cells_of s) ≤ bad_rule d3q19 (cells_of s) (state_of 18 a)
  unfolding good_answer grid_of box cells_of
  rules =
      let x = none_found (grid_of s).cells BadFlag _ _ r.good in
      let y = none_found (grid_of s).cells BadLayer _ _ x.1 in
      (none_found (suc (grid_of s).cells) BadState _ _ y.1).0

  -- every cell keeps test 6's rules
  pub ready-cell : (c : ℕ) → c < cells_of s → cell_good d3q19 (state_of 18 a) c ≡ true
  unfolding grid_of box cells_of
  ready-cell c h = cell-good d3q19 (grid_of s) (state_of 18 a) rules c h

  -- so the flags tell where parts are 0
  pub ready-dried : Dried a.flags a.parts
  unfolding state_of
  ready-dried c k h hk l = cell-dry (cells_of s) (state_of 18 a) ready-cell c k (subst (λ (n : ℕ). c < n) r.sized.flags h) hk l

  -- the carry is in its range
  pub ready-carry : carry_good (get_or a.carry 0 (pos 0)) ≡ true
  unfolding bad_rule state_of
  ready-carry =
      not-false (carry_good (get_or a.carry 0 (pos 0)))
      (ap (λ (b : Bool). cond b (not (carry_good (get_or a.carry 0 (pos 0)))) (not (cell_good d3q19 (state_of 18 a) (cells_of s)))) (sym (eq-eqb (cells_of s) (cells_of s) refl))
      ∙ first-none (suc (cells_of s)) (λ c. cond (eqb c (cells_of s)) (not (carry_good (get_or a.carry 0 (pos 0)))) (not (cell_good d3q19 (state_of 18 a) c))) rules (cells_of s) (lt-suc_self (cells_of s)))
