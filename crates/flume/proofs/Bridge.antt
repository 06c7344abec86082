-- The bridge: a step of the flume and of the same state spread over the nineteen places are answered alike, and leave the same: flags, masses, fills and
-- carry, and at each direction's place its part. So laws of the nineteen places serve the flume. Assumes nothing.
use mathlib.Core.Path.{◌≡◌, refl, sym, ap, ap₂, ◌∙◌, subst}
use mathlib.Core.Bool.{Bool, true, false, ◌&&◌, not, cond, false≢true}
use mathlib.Core.List.{[], ◌∷◌}
use Prim.Native.Nat.{ℕ, suc, ◌+◌, ◌-◌, ◌*◌, ◌/◌, ◌%◌, ◌≤◌, ◌<◌}
use native.Mathlib.Nat.{mod-lt, le_of_suc-le-suc}
use native.Mathlib.Omega.{arith}
use lib.Dec.{eqb, leb}
use lib.IntN.{ℤ, pos}
use borrow.Author.Tests.{leb-true, leb-false, eqb-true}
use Rattle.whole.specs.Fold.{all, tab, first, any_dir, up, down, Dir}
use Rattle.whole.specs.laws.Search.{first_cong, first-none}
use Rattle.whole.specs.laws.Tab.{tab-cong}
use Rattle.lattice.specs.Lattice.{dot, d3q19, d2q9}
use Rattle.lattice.specs.Cell.{part_good, dense, slow, mass_good, carry_good}
use Rattle.lattice.specs.Body.{body_good, eq_z}
use Rattle.grid.specs.Answer.{Answer}
use Rattle.grid.specs.Answer.{Done}
use Rattle.grid.specs.Grid.{Grid, cell_at, toward}
use Rattle.grid.specs.State.{lent, State, Scene, by_flag, liquid, lent_of}
use Rattle.grid.specs.Step.{streamed_density, streamed_momentum, unsteady, new_flag, new_part, new_mass, new_fill, new_carry, fill_for, next}
use Rattle.grid.specs.Good.{flag_good, bad_flag, open_fluid, bad_fluid, dry_good, interface_good, fluid_good, fill_good, cell_good, bad_rule}
use Rattle.grid.specs.Outcome.{or_refuse, if_none, good_answer, move_answer}
use Rattle.grid.proofs.Laid.{Laid}
use Rattle.flume.specs.inner.Spread.{wide, spread, spread_lattice, spread_grid, spread_state, plain_scene, spread_scene, SpreadOf}
use Rattle.flume.proofs.Places.{at_places, spread_at, spread_none, any_same, tests_same}
use Rattle.flume.proofs.Flowing.{e-at, opp-at, opp-dir, opp-none, density-same, momentum-same, old-spreads, unsteady-same}
use Rattle.flume.proofs.Turning.{Steady}
use Rattle.flume.proofs.Giving.{next-spreads}
use Rattle.grid.specs.declared.refusals.Refusal.TheVariants.{BadFlag, BadFlow, BadLayer, BadNext, BadState}

-- ---- the nineteen places are a lattice and a grid like any other

pub spread-laid : (G : Grid) → Laid d2q9 G → Laid spread_lattice (spread_grid G)
unfolding d3q19 d2q9
spread-laid G l = record { cell = λ c i h o. cell c h o i; back = λ c i h o. back c h o i }
  where
    cell : (c : ℕ) → c < G.cells → G.outer c ≡ false → (i : ℕ) → Dir 18 i → spread c (G.near c) i < G.cells
    cell c h o =
        at_places (λ i. spread c (G.near c) i < G.cells)
        (λ k d. subst (λ (m : ℕ). m < G.cells) (sym (spread_at c (G.near c) k d.most)) (l.cell c k h o d))
        (λ i n. subst (λ (m : ℕ). m < G.cells) (sym (spread_none c (G.near c) i n)) h)

    back : (c : ℕ) → c < G.cells → G.outer c ≡ false → (i : ℕ) → Dir 18 i → spread (spread c (G.near c) i) (G.near (spread c (G.near c) i)) (d3q19.opp i) ≡ c
    back c h o =
        at_places (λ i. spread (spread c (G.near c) i) (G.near (spread c (G.near c) i)) (d3q19.opp i) ≡ c)
        (λ k d.
        ap₂ (λ (m j : ℕ). spread m (G.near m) j) (spread_at c (G.near c) k d.most) (opp-at k d)
        ∙ spread_at (G.near c k) (G.near (G.near c k)) (d2q9.opp k) (opp-dir k d).most ∙ l.back c k h o d)
        (λ i n. ap (λ (m : ℕ). spread m (G.near m) (d3q19.opp i)) (spread_none c (G.near c) i n) ∙ spread_none c (G.near c) (d3q19.opp i) (opp-none i n))

-- one step from c in the flume is one step in the box of one layer, at the direction's place
pub toward-at : (nx c k : ℕ) → Dir 8 k → toward d3q19 nx 1 c (wide k) ≡ toward d2q9 nx 1 c k
unfolding toward
toward-at nx c k d j =
    let e = e-at k d j in
    c + cell_at nx 1 (up e.x) (up e.y) (up e.z) - cell_at nx 1 (down e.x) (down e.y) (down e.z)

-- ---- test 6's rules of a state and of what it is spread
module _ (s t : State) (z : SpreadOf s t) where
  body_same : (c : ℕ) → body_good spread_lattice (t.part c) ≡ body_good d2q9 (s.part c)
  unfolding body_good d3q19 d2q9 wide
  body_same c j =
      let m = momentum-same (t.part c) (s.part c) (z.parts c) j in
      let ρ = density-same (t.part c) (s.part c) (z.parts c) j in
      tests_same (λ k. part_good (t.part c k)) (λ k. part_good (s.part c k)) (ap part_good ((z.parts c).at 0 (omega arith)))
      (λ k d. ap part_good ((z.parts c).at k d.most)) (λ i n. ap part_good ((z.parts c).none i n)) j
      && dense ρ && slow ρ (dot m m)

  zeros-same : (c : ℕ) → all 19 (λ k. eq_z (t.part c k) (pos 0)) ≡ all 9 (λ k. eq_z (s.part c k) (pos 0))
  unfolding wide
  zeros-same c =
      tests_same (λ k. eq_z (t.part c k) (pos 0)) (λ k. eq_z (s.part c k) (pos 0)) (ap (λ (x : ℤ). eq_z x (pos 0)) ((z.parts c).at 0 (omega arith)))
      (λ k d. ap (λ (x : ℤ). eq_z x (pos 0)) ((z.parts c).at k d.most)) (λ i n. ap (λ (x : ℤ). eq_z x (pos 0)) ((z.parts c).none i n))

  pub cell-good-same : (c : ℕ) → cell_good spread_lattice t c ≡ cell_good d2q9 s c
  unfolding cell_good dry_good interface_good fluid_good fill_good d3q19 d2q9
  cell-good-same c j =
      let f = z.flags c j in
      let m = z.masses c j in
      let ρ = density-same (t.part c) (s.part c) (z.parts c) j in
      let b = body_same c j in
      let d = eq_z m (pos 0) && zeros-same c j in
      by_flag f d (b && mass_good m) (b && eq_z m ρ) d && eqb (z.fills c j) (fill_for f m ρ)

  pub bad-rule-same : (n : ℕ) → bad_rule spread_lattice n t ≡ bad_rule d2q9 n s
  unfolding bad_rule
  bad-rule-same n = first_cong (suc n) 0 _ _ (λ a k j. cond (eqb (0 + a) n) (not (carry_good (z.carries j))) (not (cell-good-same (0 + a) j)))

pub spread-of : (S : Scene) → SpreadOf S.old (spread_state S.old)
spread-of S = record { flags = λ c. refl; parts = old-spreads S; masses = λ c. refl; fills = λ c. refl; carries = refl }

-- ---- tests 4 and 5
pub bad-flag-same : (G : Grid) (flag : ℕ → ℕ) → bad_flag (spread_grid G) flag ≡ bad_flag G flag
unfolding bad_flag flag_good
bad-flag-same G flag = refl

pub bad-fluid-same : (G : Grid) (flag : ℕ → ℕ) → bad_fluid 18 (spread_grid G) flag ≡ bad_fluid 8 G flag
unfolding bad_fluid open_fluid
bad-fluid-same G flag =
    first_cong G.cells 0 (open_fluid 18 (spread_grid G) flag) (open_fluid 8 G flag) (λ a k. at (0 + a) (eqb (flag (0 + a)) 2) refl)
  where
    empty-beside : (c : ℕ) → flag c ≡ 2 → any_dir 18 (λ i. eqb (flag (spread c (G.near c) i)) 0) ≡ any_dir 8 (λ k. eqb (flag (G.near c k)) 0)
    empty-beside c e =
        any_same (λ i. eqb (flag (spread c (G.near c) i)) 0) (λ k. eqb (flag (G.near c k)) 0)
        (λ k d. ap (λ (m : ℕ). eqb (flag m) 0) (spread_at c (G.near c) k d.most))
        (λ i n. ap (λ (m : ℕ). eqb (flag m) 0) (spread_none c (G.near c) i n) ∙ ap (λ (f : ℕ). eqb f 0) e)

    at : (c : ℕ) (b : Bool) → eqb (flag c) 2 ≡ b
        → (eqb (flag c) 2 && any_dir 18 (λ i. eqb (flag (spread c (G.near c) i)) 0)) ≡ (eqb (flag c) 2 && any_dir 8 (λ k. eqb (flag (G.near c k)) 0))
    at c true e = ap (λ (x : Bool). eqb (flag c) 2 && x) (empty-beside c (eqb-true (flag c) 2 e))
    at c false e =
        ap (λ (b : Bool). b && any_dir 18 (λ i. eqb (flag (spread c (G.near c) i)) 0)) e
        ∙ sym (ap (λ (b : Bool). b && any_dir 8 (λ k. eqb (flag (G.near c k)) 0)) e)

-- ---- tests 4 to 6, and a step's tests 7 and 8
module _ (S : Scene) where
  abbrev P : Scene
  P = plain_scene S

  abbrev T : Scene
  T = spread_scene S

  pub good-answer-same : (rest : Answer) → good_answer T.lat T.grid T.old rest ≡ good_answer P.lat P.grid P.old rest
  unfolding good_answer d3q19 d2q9
  good-answer-same rest j =
      if_none S.grid.cells BadFlag (bad-flag-same S.grid S.old.flag j)
      (if_none S.grid.cells BadLayer (bad-fluid-same S.grid S.old.flag j)
      (if_none (suc S.grid.cells) BadState (bad-rule-same S.old (spread_state S.old) (spread-of S) S.grid.cells j) rest))

  -- what is no cell counts as wall
  abbrev pub Outside : Type 0
  Outside = (c : ℕ) → S.grid.cells ≤ c → S.old.flag c ≡ 3

  -- no cell is unsteady
  pub steady : Outside → S.grid.cells ≤ first S.grid.cells (unsteady P) → Steady S
  unfolding unsteady
  steady o e c l = go (leb S.grid.cells c) refl
    where
      fair : (a b d : Bool) → a ≡ true → (a && not (b && d)) ≡ false → b ≡ true
      fair true true d p q = refl
      fair true false d p q = sym q
      fair false b d p q = absurd (false≢true p)

      go : (b : Bool) → leb S.grid.cells c ≡ b → dense (streamed_density P c) ≡ true
      go true h = absurd (false≢true (sym (ap liquid (o c (leb-true S.grid.cells c h))) ∙ l))
      go false h =
          let k : c < S.grid.cells = leb-false S.grid.cells c h in
          fair (liquid (S.old.flag c)) (dense (streamed_density P c)) (slow (streamed_density P c) (dot (streamed_momentum P c) (streamed_momentum P c))) l
          (first-none S.grid.cells (unsteady P) e c k)

  pub fast-same : first S.grid.cells (unsteady T) ≡ first S.grid.cells (unsteady P)
  fast-same = first_cong S.grid.cells 0 (unsteady T) (unsteady P) (λ a k. unsteady-same S (0 + a))

  pub move-answer-same : Outside → move_answer T ≡ move_answer P
  unfolding move_answer
  move-answer-same o = go (leb S.grid.cells (first S.grid.cells (unsteady P))) refl
    where
      moves : S.grid.cells ≤ first S.grid.cells (unsteady P) → move_answer T ≡ move_answer P
      moves h j =
          if_none S.grid.cells BadFlow (fast-same j)
          (if_none (suc S.grid.cells) BadNext (bad-rule-same (next P) (next T) (next-spreads S (steady o h)) S.grid.cells j) Done)

      go : (b : Bool) → leb S.grid.cells (first S.grid.cells (unsteady P)) ≡ b → move_answer T ≡ move_answer P
      go true e = moves (leb-true S.grid.cells (first S.grid.cells (unsteady P)) e)
      go false e =
          ap (λ (m : ℕ). if_none S.grid.cells BadFlow m (if_none (suc S.grid.cells) BadNext (bad_rule spread_lattice S.grid.cells (next T)) Done)) fast-same
          ∙ refuses (leb S.grid.cells (first S.grid.cells (unsteady P))) (first S.grid.cells (unsteady P))
          (if_none (suc S.grid.cells) BadNext (bad_rule spread_lattice S.grid.cells (next T)) Done)
          (if_none (suc S.grid.cells) BadNext (bad_rule d2q9 S.grid.cells (next P)) Done) e
        where
          refuses : (b : Bool) (m : ℕ) (u v : Answer) → b ≡ false → or_refuse b (BadFlow m) u ≡ or_refuse b (BadFlow m) v
          refuses true m u v h = absurd (false≢true (sym h))
          refuses false m u v h = refl

  -- the next state as a set of nine parts a cell, read from the nineteen places
  pub next-lent : Outside → S.grid.cells ≤ first S.grid.cells (unsteady P) → (n : ℕ)
      → lent_of 8 n (next P) ≡ lent (tab n (new_flag T)) (tab (9 * n) (λ m. new_part T (m / 9) (wide (m % 9)))) (tab n (new_mass T)) (tab n (new_fill T)) (new_carry T ∷ [])
  unfolding lent_of next
  next-lent o e n j =
      let z = next-spreads S (steady o e) in
      lent (tab-cong n (new_flag P) (new_flag T) 0 (λ c k. sym (z.flags c)) j)
      (tab-cong (9 * n) (λ m. new_part P (m / 9) (m % 9)) (λ m. new_part T (m / 9) (wide (m % 9))) (pos 0)
      (λ m k. sym ((z.parts (m / 9)).at (m % 9) (le_of_suc-le-suc (mod-lt m (omega arith))))) j)
      (tab-cong n (new_mass P) (new_mass T) (pos 0) (λ c k. sym (z.masses c)) j)
      (tab-cong n (new_fill P) (new_fill T) 0 (λ c k. sym (z.fills c)) j)
      (sym z.carries j ∷ [])
