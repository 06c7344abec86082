-- What an accepted answer tells: each test that could have refused has passed; a state that passes tests 4 to 6 is walled, closed and massed. Assumes nothing.
use mathlib.Core.Path.{◌≡◌, refl, sym, ap, ap₂, ◌∙◌}
use mathlib.Core.Bool.{Bool, true, false, ◌&&◌, ◌||◌, not, cond, false≢true, true≢false}
use Prim.Native.Nat.{ℕ, zero, suc, ◌+◌, ◌≤◌, ◌<◌}
use native.Mathlib.Nat.{le_of_eq}
use native.Mathlib.Omega.{arith}
use lib.IntN.{ℤ, pos}
use lib.Dec.{eqb, ltb, leb}
use borrow.Author.Tests.{leb-true, ltb-true, eqb-true, eq-eqb, le-leb, lt-ltb, not-false, ne_eqb}
use Rattle.whole.specs.laws.Bools.{and_left, and_right, where-then, never}
use Rattle.whole.specs.Fold.{all, any_dir}
use Rattle.whole.specs.laws.Search.{any-dir, any_where, first-none, first-all}
use Rattle.lattice.specs.Lattice.{Lattice, density}
use Rattle.lattice.specs.Cell.{carry_good}
use Rattle.grid.specs.Answer.{Answer, Done}
use Rattle.grid.specs.declared.refusals.Refusal.{Refusal}
use Rattle.std.specs.Prelude.{Ok, Err}
use Rattle.grid.specs.Grid.{Grid}
use Rattle.grid.specs.State.{State, by_flag}
use Rattle.grid.specs.Good.{flag_good, bad_flag, open_fluid, bad_fluid, dry_good, interface_good, fluid_good, fill_good, cell_good, bad_rule}
use Rattle.lattice.specs.Body.{body_good, eq_z}
use Rattle.lattice.proofs.Equal.{eq_z-true}
use Rattle.grid.specs.Outcome.{accepted, or_refuse, if_none, good_answer}
use Rattle.grid.specs.Demands.{Walled, Closed}
use Rattle.grid.proofs.Total.{Massed}
use Rattle.grid.specs.declared.refusals.Refusal.TheVariants.{BadFlag, BadLayer, BadState}

-- ---- a chain of tests that ends in Done
pub done-accepted : (a : Answer) → a ≡ Done → accepted a ≡ true
done-accepted a e = ap accepted e

pub accepted-done : (a : Answer) → accepted a ≡ true → a ≡ Done
accepted-done (Ok _) e = refl
accepted-done (Err _) e = absurd (false≢true e)

pub passed : (b : Bool) (refusal : Refusal) (rest : Answer) → or_refuse b refusal rest ≡ Done → (b ≡ true) × (rest ≡ Done)
passed true refusal rest e = (refl, e)
passed false refusal rest e = absurd (false≢true (ap accepted e))

pub none_found : (limit : ℕ) (refusal : ℕ → Refusal) (place : ℕ) (rest : Answer) → if_none limit refusal place rest ≡ Done → (limit ≤ place) × (rest ≡ Done)
none_found limit refusal place rest e =
    let p = passed (leb limit place) (refusal place) rest e in
    (leb-true limit place p.0, p.1)

pub skip : (limit : ℕ) (refusal : ℕ → Refusal) (place : ℕ) (rest : Answer) → limit ≤ place → if_none limit refusal place rest ≡ rest
skip limit refusal place rest h = ap (λ (b : Bool). or_refuse b (refusal place) rest) (le-leb limit place h)

module _ (L : Lattice) (G : Grid) (s : State) where
  -- what tests 4 to 6 leave
  pub record Sound : Type 0 where
    pub flagged : (c : ℕ) → c < G.cells → s.flag c < 4
    pub walled : Walled G s.flag
    pub closed : Closed L.q G s.flag
    pub massed : Massed L G.cells s

  flag-good : G.cells ≤ bad_flag G s.flag → (c : ℕ) → c < G.cells → (ltb (s.flag c) 4 && (not (G.outer c) || eqb (s.flag c) 3)) ≡ true
  unfolding bad_flag flag_good
  flag-good h c k = not-false _ (first-none G.cells (λ c. not (flag_good G s.flag c)) h c k)

  fluid-closed : G.cells ≤ bad_fluid L.q G s.flag → Closed L.q G s.flag
  unfolding bad_fluid open_fluid
  fluid-closed h c i k some most f z =
      let t : (eqb (s.flag c) 2 && any_dir L.q (λ i. eqb (s.flag (G.near c i)) 0)) ≡ false = first-none G.cells (open_fluid L.q G s.flag) h c k in
      let a : any_dir L.q (λ i. eqb (s.flag (G.near c i)) 0) ≡ true
      = any-dir L.q (λ i. eqb (s.flag (G.near c i)) 0) i (record { some = some; most = most }) (eq-eqb (s.flag (G.near c i)) 0 z) in
      true≢false (sym (ap₂ (λ (x y : Bool). x && y) (eq-eqb (s.flag c) 2 f) a) ∙ t)

  mass-cases : (f : ℕ) (m ρ : ℤ) (dry interface fluid : Bool) → (dry ≡ true → m ≡ pos 0) → (fluid ≡ true → m ≡ ρ)
      → by_flag f dry interface fluid dry ≡ true → m ≡ by_flag f (pos 0) m ρ (pos 0)
  mass-cases zero m ρ dry interface fluid u v e = u e
  mass-cases (suc zero) m ρ dry interface fluid u v e = refl
  mass-cases (suc (suc zero)) m ρ dry interface fluid u v e = v e
  mass-cases (suc (suc (suc n))) m ρ dry interface fluid u v e = u e

  pub cell-good : suc G.cells ≤ bad_rule L G.cells s → (c : ℕ) → c < G.cells → cell_good L s c ≡ true
  unfolding bad_rule
  cell-good h c k =
      not-false (cell_good L s c)
      (ap (λ (b : Bool). cond b (not (carry_good s.carry)) (not (cell_good L s c))) (sym (ne_eqb c G.cells (λ e. absurd (omega arith))))
      ∙ first-none (suc G.cells) (λ c. cond (eqb c G.cells) (not (carry_good s.carry)) (not (cell_good L s c))) h c (omega arith))

  cells-massed : suc G.cells ≤ bad_rule L G.cells s → Massed L G.cells s
  unfolding cell_good dry_good fluid_good
  cells-massed h c k =
      mass-cases (s.flag c) (s.mass c) (density L (s.part c)) (dry_good L s c) (interface_good L s c) (fluid_good L s c)
      (λ e. eq_z-true (s.mass c) (pos 0) (and_left (eq_z (s.mass c) (pos 0)) (all (suc L.q) (λ k. eq_z (s.part c k) (pos 0))) e))
      (λ e. eq_z-true (s.mass c) (density L (s.part c)) (and_right (body_good L (s.part c)) (eq_z (s.mass c) (density L (s.part c))) e))
      (and_left (by_flag (s.flag c) (dry_good L s c) (interface_good L s c) (fluid_good L s c) (dry_good L s c)) (fill_good L s c) (cell-good h c k))

  pub sound : (rest : Answer) → good_answer L G s rest ≡ Done → Sound × (rest ≡ Done)
  unfolding good_answer
  sound rest e =
      let a = none_found G.cells BadFlag _ _ e in
      let b = none_found G.cells BadLayer _ _ a.1 in
      let d = none_found (suc G.cells) BadState _ _ b.1 in (
        record {
          flagged = λ c k. ltb-true (s.flag c) 4 (and_left (ltb (s.flag c) 4) (not (G.outer c) || eqb (s.flag c) 3) (flag-good a.0 c k));
          walled = λ c k o. eqb-true (s.flag c) 3 (where-then (G.outer c) (eqb (s.flag c) 3) (and_right (ltb (s.flag c) 4) (not (G.outer c) || eqb (s.flag c) 3) (flag-good a.0 c k)) o);
          closed = fluid-closed b.0;
          massed = cells-massed d.0;
        },
        d.1,
      )

  -- ---- the other way: flags in order and the layer closed let tests 4 and 5 pass
  flag_true : (c : ℕ) → c < G.cells → s.flag c < 4 → Walled G s.flag → (b : Bool) → G.outer c ≡ b → flag_good G s.flag c ≡ true
  unfolding flag_good
  flag_true c k f w true o = three (s.flag c) (G.outer c) (lt-ltb (s.flag c) 4 f) (eq-eqb (s.flag c) 3 (w c k o))
    where
      three : (f : ℕ) (b : Bool) → ltb f 4 ≡ true → eqb f 3 ≡ true → (ltb f 4 && (not b || eqb f 3)) ≡ true
      three f true u v = ap₂ (λ (x y : Bool). x && y) u v
      three f false u v = ap (λ (x : Bool). x && true) u
  flag_true c k f w false o = ap₂ (λ (x y : Bool). x && (not y || eqb (s.flag c) 3)) (lt-ltb (s.flag c) 4 f) o

  pub pass-good : (rest : Answer) → ((c : ℕ) → c < G.cells → s.flag c < 4) → Walled G s.flag → Closed L.q G s.flag
      → suc G.cells ≤ bad_rule L G.cells s → good_answer L G s rest ≡ rest
  unfolding good_answer bad_flag bad_fluid open_fluid
  pass-good rest f w cl r =
      skip G.cells BadFlag _ _ (le_of_eq (sym (first-all G.cells (λ c. not (flag_good G s.flag c)) (λ c k. ap not (flag_true c k (f c k) w (G.outer c) refl)))))
      ∙ skip G.cells BadLayer _ _ (le_of_eq (sym (first-all G.cells (open_fluid L.q G s.flag) (λ c k. never (open_fluid L.q G s.flag c) (λ t. shut c k t)))))
      ∙ skip (suc G.cells) BadState _ rest r
    where
      shut : (c : ℕ) → c < G.cells → (eqb (s.flag c) 2 && any_dir L.q (λ i. eqb (s.flag (G.near c i)) 0)) ≡ true → ⊥
      shut c k t =
          let w = any_where L.q (λ a. eqb (s.flag (G.near c (suc a))) 0) (and_right (eqb (s.flag c) 2) (any_dir L.q (λ i. eqb (s.flag (G.near c i)) 0)) t) in
          let m : w.0 < L.q = w.1 in
          cl c (suc w.0) k (omega arith) m
          (eqb-true (s.flag c) 2 (and_left (eqb (s.flag c) 2) (any_dir L.q (λ i. eqb (s.flag (G.near c i)) 0)) t))
          (eqb-true (s.flag (G.near c (suc w.0))) 0 w.2)
