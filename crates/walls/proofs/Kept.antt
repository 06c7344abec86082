-- (a) After an accepted change of the map both schemes pass their tests, the cell is wall, or empty, in both, and no water has moved. The idea: the
-- cell's own flag is 0 in either scheme, so in either grid its flag goes from 0 to 3 or back, and empty cells and walls keep the same rules; a fluid
-- cell beside a cell that becomes empty would have been in the way. Assumes nothing.
use mathlib.Core.Path.{◌≡◌, refl, sym, ap, ap₂, ◌∙◌, subst}
use mathlib.Core.Bool.{Bool, true, false, ◌&&◌, ◌||◌, not, cond, true≢false}
use mathlib.Core.List.{List}
use Prim.Native.Nat.{ℕ, suc, ◌+◌, ◌≤◌, ◌<◌}
use native.Mathlib.Nat.{le_of_suc-le-suc}
use native.Mathlib.Decide.{ℕ_discrete}
use native.Mathlib.Omega.{arith}
use lib.Arith.{lt_of_le-ne}
use lib.Dec.{eqb, ltb, leb}
use lib.IntN.{ℤ, pos, ◌+ℤ◌}
use lib.ListN.{set, length-set}
use lib.Seq.{get_or-set_same, get_or-set_other}
use borrow.Author.Tests.{eqb-true, eq-eqb, not-false, not-true, eqb-false, ltb-true}
use Rattle.whole.specs.laws.Bools.{and_left, and_right, or-false}
use Rattle.whole.specs.Fold.{any_dir, sum, Dir}
use Rattle.whole.specs.laws.Search.{first_cong, any-dir}
use Rattle.whole.specs.laws.Sums.{sum-cong}
use Rattle.lattice.specs.Lattice.{d3q19}
use Rattle.lattice.specs.Cell.{carry_good}
use Rattle.lattice.proofs.Paired.{paired19}
use Rattle.grid.specs.declared.Sides.{Sides}
use Rattle.grid.specs.Answer.{Done}
use Rattle.grid.specs.Grid.{cells_of, grid_of, box}
use Rattle.grid.specs.State.{Lent, by_flag, state_of}
use Rattle.grid.specs.Good.{cell_good, bad_rule}
use Rattle.grid.specs.Outcome.{good_answer}
use Rattle.grid.specs.Demands.{Closed, fluid_water, interface_water, water, water_of}
use Rattle.grid.proofs.Accepted.{passed, none_found, sound, pass-good}
use Rattle.grid.proofs.Box.{grid-laid}
use Rattle.grid.proofs.Laid.{inner}
use Rattle.schemes.specs.Scheme.{wall_at, own_at, joined_flag, joined_flags, joined, mark_good, tested}
use Rattle.walls.specs.Outcome.{wanted, in_way, may_change, placed, clear, wall_answer, wall_map}
use Rattle.schemes.proofs.Tests.{Scheme, tells, passes, flag, flag_at, good_as, good-dry, joined-good, flags-low, outer-wall, map-low}
use Rattle.pumps.proofs.Kept.{then-both}
use Rattle.grid.specs.declared.refusals.Refusal.TheVariants.{BadChange, BadFlag, BadLayer, BadState, InTheWay, Outside}

-- a joined flag of 2 is a fluid cell of the scheme
fluid-own : (m f : ℕ) → joined_flag m f ≡ 2 → f ≡ 2
fluid-own m f e = go (eqb m 1) e
  where
    go : (b : Bool) → cond b 3 f ≡ 2 → f ≡ 2
    go true e = absurd (omega arith)
    go false e = e

pub dry-not-fluid : (m : ℕ) → joined_flag m 0 ≡ 2 → ⊥
dry-not-fluid m e = go (eqb m 1) e
  where
    go : (b : Bool) → ◌≡◌ {A = ℕ} (cond b 3 0) 2 → ⊥
    go true e = absurd (omega arith)
    go false e = absurd (omega arith)

pub dry-as : (x : Lent) (c m : ℕ) → good_as (joined_flag m 0) x c ≡ good_as 0 x c
dry-as x c m = go (eqb m 1)
  where
    go : (b : Bool) → good_as (cond b 3 0) x c ≡ good_as 0 x c
    go true = good-dry x c
    go false = refl

module _ (s : Sides) (map : List ℕ) (x : Lent) (add : Bool) (c : ℕ) (g : Scheme s map x) (h : c < cells_of s)
    (m : may_change s map add c ≡ true) (w : in_way s x.flags add c ≡ false) where
  abbrev map' : List ℕ
  map' = set map c (wanted add)

  inside : (grid_of s).outer c ≡ false
  unfolding may_change
  inside = not-true ((grid_of s).outer c) (and_left (not ((grid_of s).outer c)) (not (eqb (wall_at map c) (wanted add))) m)

  -- the cell is dry in the scheme
  pub own-dry : own_at x.flags c ≡ 0
  unfolding in_way may_change
  own-dry = go add w (not-true (eqb (wall_at map c) (wanted add)) (and_right (not ((grid_of s).outer c)) (not (eqb (wall_at map c) (wanted add))) m))
    where
      go : (b : Bool) → cond b (not (eqb (own_at x.flags c) 0)) (any_dir 18 (λ i. eqb (own_at x.flags ((grid_of s).near c i)) 2)) ≡ false → eqb (wall_at map c) (wanted b) ≡ false
          → own_at x.flags c ≡ 0
      go true w d = eqb-true (own_at x.flags c) 0 (not-false (eqb (own_at x.flags c) 0) w)
      go false w d =
          let n = eqb-false (wall_at map c) 0 d in
          let l = map-low s map x c (g.marks c h) in
          g.dry c h (one (wall_at map c) n l)
        where
          one : (y : ℕ) → (y ≡ 0 → ⊥) → y ≤ 1 → y ≡ 1
          one y n l = omega arith

  at_same : wall_at map' c ≡ wanted add
  at_same = get_or-set_same map c (wanted add) 1 (subst (λ (n : ℕ). c < n) (sym g.map-size) h)

  at_other : (d : ℕ) → (d ≡ c → ⊥) → wall_at map' d ≡ wall_at map d
  at_other d n = get_or-set_other map c d (wanted add) 1 n

  marks' : (d : ℕ) → d < cells_of s → mark_good s map' x.flags d ≡ true
  unfolding mark_good
  marks' d k = go (ℕ_discrete d c)
    where
      here : (b : Bool) → (leb (cond b 1 0) 1 && true && true) ≡ true
      here true = refl
      here false = refl

      go : Dec (d ≡ c) → (leb (wall_at map' d) 1 && leb (own_at x.flags d) 2 && (not ((grid_of s).outer d) || eqb (wall_at map' d) 1)) ≡ true
      go (yes e) = rw (e, at_same, own-dry, inside) (here add)
      go (no n) = rw (at_other d n) (g.marks d k)

  dry' : (d : ℕ) → d < cells_of s → wall_at map' d ≡ 1 → own_at x.flags d ≡ 0
  dry' d k e = go (ℕ_discrete d c)
    where
      go : Dec (d ≡ c) → own_at x.flags d ≡ 0
      go (yes q) = ap (λ (y : ℕ). own_at x.flags y) q ∙ own-dry
      go (no n) = g.dry d k (sym (at_other d n) ∙ e)

  -- ---- the grid's flags: the cell's is 3 or 0, all others stay
  flag_same : (d : ℕ) → (d ≡ c → ⊥) → flag s map' x d ≡ flag s map x d
  flag_same d n = ap (λ (y : ℕ). joined_flag y (own_at x.flags d)) (at_other d n)

  flag-dry : (map'' : List ℕ) → flag s map'' x c ≡ joined_flag (wall_at map'' c) 0
  flag-dry map'' = ap (joined_flag (wall_at map'' c)) own-dry

  pub flag-here : flag s map' x c ≡ cond add 3 0
  flag-here = flag-dry map' ∙ ap (λ (y : ℕ). joined_flag y 0) at_same ∙ go add
    where
      go : (b : Bool) → joined_flag (wanted b) 0 ≡ cond b 3 0
      go true = refl
      go false = refl

  -- what goes by the flags alike for empty cells and walls is as before
  module _ {ℓ} {A : Type ℓ} (f : ℕ → ℕ → A) (alike : (y : ℕ) → f c (joined_flag y 0) ≡ f c 0) where
    as_before : (d : ℕ) → f d (flag s map' x d) ≡ f d (flag s map x d)
    as_before d = go (ℕ_discrete d c)
      where
        go : Dec (d ≡ c) → f d (flag s map' x d) ≡ f d (flag s map x d)
        go (yes e) =
            subst (λ (y : ℕ). f y (flag s map' x y) ≡ f y (flag s map x y)) (sym e)
            (ap (f c) (flag-dry map') ∙ alike (wall_at map' c) ∙ sym (alike (wall_at map c)) ∙ sym (ap (f c) (flag-dry map)))
        go (no n) = ap (f d) (flag_same d n)

  cell_same : (d : ℕ) → d < cells_of s → cell_good d3q19 (state_of 18 (joined s map' x)) d ≡ cell_good d3q19 (state_of 18 (joined s map x)) d
  cell_same d k = joined-good s map' x d k ∙ as_before (λ d f. good_as f x d) (λ y. dry-as x c y) d ∙ sym (joined-good s map x d k)

  rules-same : bad_rule d3q19 (cells_of s) (state_of 18 (joined s map' x)) ≡ bad_rule d3q19 (cells_of s) (state_of 18 (joined s map x))
  unfolding bad_rule joined state_of
  rules-same = first_cong (suc (cells_of s)) 0 (rule map') (rule map) (λ a k. at (0 + a) (omega arith) (ℕ_discrete (0 + a) (cells_of s)))
    where
      rule : List ℕ → ℕ → Bool
      rule map'' d = cond (eqb d (cells_of s)) (not (carry_good (state_of 18 (joined s map'' x)).carry)) (not (cell_good d3q19 (state_of 18 (joined s map'' x)) d))

      at : (d : ℕ) → d < suc (cells_of s) → Dec (d ≡ cells_of s) → rule map' d ≡ rule map d
      at d k (yes e) =
          ap (λ (b : Bool). cond b (not (carry_good (state_of 18 (joined s map' x)).carry)) (not (cell_good d3q19 (state_of 18 (joined s map' x)) d))) (eq-eqb d (cells_of s) e)
          ∙ sym (ap (λ (b : Bool). cond b (not (carry_good (state_of 18 (joined s map x)).carry)) (not (cell_good d3q19 (state_of 18 (joined s map x)) d))) (eq-eqb d (cells_of s) e))
      at d k (no n) = ap (λ (b : Bool). cond (eqb d (cells_of s)) (not (carry_good (state_of 18 (joined s map x)).carry)) (not b)) (cell_same d (lt_of_le-ne (le_of_suc-le-suc k) n))

  -- ---- no fluid cell is beside an empty one
  old-closed : Closed 18 (grid_of s) (state_of 18 (joined s map x)).flag
  unfolding d3q19
  old-closed = (sound d3q19 (grid_of s) (state_of 18 (joined s map x)) Done g.grid).0.closed

  -- a fluid neighbour of the cell is in the way of taking its wall out
  no-fluid : add ≡ false → (i : ℕ) → Dir 18 i → own_at x.flags ((grid_of s).near c i) ≡ 2 → ⊥
  unfolding in_way
  no-fluid e i d f =
      true≢false
      (sym (any-dir 18 (λ i. eqb (own_at x.flags ((grid_of s).near c i)) 2) i d (eq-eqb _ 2 f))
      ∙ ap (λ (b : Bool). cond b (not (eqb (own_at x.flags c) 0)) (any_dir 18 (λ i. eqb (own_at x.flags ((grid_of s).near c i)) 2))) (sym e) ∙ w)

  removed : flag s map' x c ≡ 0 → add ≡ false
  removed e = go add (sym flag-here ∙ e)
    where
      go : (b : Bool) → ◌≡◌ {A = ℕ} (cond b 3 0) 0 → b ≡ false
      go true e = absurd (omega arith)
      go false e = refl

  closed' : Closed 18 (grid_of s) (state_of 18 (joined s map' x)).flag
  unfolding grid_of box cells_of d3q19
  closed' d i k some most f z = go (ℕ_discrete ((grid_of s).near d i) c)
    where
      dir : Dir 18 i
      dir = record { some = some; most = most }

      new : flag s map' x d ≡ 2
      new = sym (flag_at s map' x d k) ∙ f

      other : d ≡ c → ⊥
      other e = dry-not-fluid (wall_at map' c) (sym (flag-dry map') ∙ subst (λ (y : ℕ). flag s map' x y ≡ 2) e new)

      old : flag s map x d ≡ 2
      old = sym (flag_same d other) ∙ new

      within : (grid_of s).outer d ≡ false
      within = inner (grid_of s) (state_of 18 (joined s map' x)).flag (outer-wall s map' x marks') d k (λ e. absurd (omega arith))

      cell : (grid_of s).near d i < cells_of s
      cell = (grid-laid s).cell d i k within dir

      empty : flag s map' x ((grid_of s).near d i) ≡ 0
      empty = sym (flag_at s map' x ((grid_of s).near d i) cell) ∙ z

      go : Dec ((grid_of s).near d i ≡ c) → ⊥
      go (yes e) =
          no-fluid (removed (subst (λ (y : ℕ). flag s map' x y ≡ 0) e empty)) (d3q19.opp i) (paired19.dir i dir)
          (ap (own_at x.flags) (ap (λ (y : ℕ). (grid_of s).near y (d3q19.opp i)) (sym e) ∙ (grid-laid s).back d i k within dir) ∙ fluid-own (wall_at map d) (own_at x.flags d) old)
      go (no n) = old-closed d i k some most (flag_at s map x d k ∙ old) (flag_at s map x ((grid_of s).near d i) cell ∙ sym (flag_same ((grid_of s).near d i) n) ∙ empty)

  pub still-scheme : Scheme s map' x
  unfolding grid_of box cells_of d3q19 good_answer
  still-scheme = record {
    sides = g.sides;
    sized = g.sized;
    map-size = length-set map c (wanted add) ∙ g.map-size;
    marks = marks';
    dry = dry';
    grid =
        pass-good d3q19 (grid_of s) (state_of 18 (joined s map' x)) Done (flags-low s map' x marks') (outer-wall s map' x marks') closed'
        (subst (λ (n : ℕ). suc (cells_of s) ≤ n) (sym rules-same)
        (none_found (suc (grid_of s).cells) BadState _ _ (none_found (grid_of s).cells BadLayer _ _ (none_found (grid_of s).cells BadFlag _ _ g.grid).1).1).0);
    totals = g.totals;
  }

  -- ---- the water of the grid is as before
  pub water-same : water_of s (joined s map' x) ≡ water_of s (joined s map x)
  unfolding water_of water fluid_water interface_water joined state_of joined_flags
  water-same =
      ap₂ (λ (u v : ℤ). u +ℤ v +ℤ (state_of 18 (joined s map x)).carry)
      (kind (λ f z. by_flag f (pos 0) (pos 0) z (pos 0)) (λ b z. fluid b z))
      (kind (λ f z. by_flag f (pos 0) z (pos 0) (pos 0)) (λ b z. interface b z))
    where
      fluid : (b : Bool) (z : ℤ) → by_flag (cond b 3 0) (pos 0) (pos 0) z (pos 0) ≡ pos 0
      fluid true z = refl
      fluid false z = refl

      interface : (b : Bool) (z : ℤ) → by_flag (cond b 3 0) (pos 0) z (pos 0) (pos 0) ≡ pos 0
      interface true z = refl
      interface false z = refl

      kind : (f : ℕ → ℤ → ℤ) → ((b : Bool) (z : ℤ) → f (cond b 3 0) z ≡ pos 0)
          → sum (cells_of s) (λ d. f ((state_of 18 (joined s map' x)).flag d) ((state_of 18 x).mass d)) ≡ sum (cells_of s) (λ d. f ((state_of 18 (joined s map x)).flag d) ((state_of 18 x).mass d))
      kind f dry =
          sum-cong (cells_of s) (λ d. f ((state_of 18 (joined s map' x)).flag d) ((state_of 18 x).mass d)) (λ d. f ((state_of 18 (joined s map x)).flag d) ((state_of 18 x).mass d))
          (λ d k. ap (λ (y : ℕ). f y ((state_of 18 x).mass d)) (flag_at s map' x d k)
          ∙ as_before (λ d y. f y ((state_of 18 x).mass d)) (λ y. dry (eqb y 1) ((state_of 18 x).mass c) ∙ sym (dry false ((state_of 18 x).mass c))) d
          ∙ sym (ap (λ (y : ℕ). f y ((state_of 18 x).mass d)) (flag_at s map x d k)))

-- ---- the theorem

-- of one scheme x after the map has become map'
pub record Still (s : Sides) (map map' : List ℕ) (add : Bool) (c : ℕ) (x : Lent) : Type 0 where
  pub checked : tested s map' x true ≡ Done
  -- the cell is then wall, or empty
  pub cell-is : (state_of 18 (joined s map' x)).flag c ≡ cond add 3 0
  -- parts, masses, fills and carry are those of before, and so is the water
  pub parts_same : (joined s map' x).parts ≡ (joined s map x).parts
  pub masses-same : (joined s map' x).masses ≡ (joined s map x).masses
  pub fills_same : (joined s map' x).fills ≡ (joined s map x).fills
  pub carry_same : (joined s map' x).carry ≡ (joined s map x).carry
  pub water-is : water_of s (joined s map' x) ≡ water_of s (joined s map x)

abbrev pub Claim : Type 0
Claim =
    (s : Sides) (map : List ℕ) (a b : Lent) (add : Bool) (c : ℕ) → wall_answer s map a b add c ≡ Done
    → Still s map (wall_map s map a b add c) add c a × Still s map (wall_map s map a b add c) add c b

-- what an accepted change tells
pub record Granted (s : Sides) (map : List ℕ) (a b : Lent) (add : Bool) (c : ℕ) : Type 0 where
  pub own : tested s map a true ≡ Done
  pub other : tested s map b true ≡ Done
  pub cell : c < cells_of s
  pub may : may_change s map add c ≡ true
  pub own-way : in_way s a.flags add c ≡ false
  pub other_way : in_way s b.flags add c ≡ false

pub granted : (s : Sides) (map : List ℕ) (a b : Lent) (add : Bool) (c : ℕ) → wall_answer s map a b add c ≡ Done → Granted s map a b add c
unfolding wall_answer placed clear
granted s map a b add c e =
    let x = then-both (tested s map a true) _ e in
    let y = then-both (tested s map b true) _ x.1 in
    let p = passed (ltb c (cells_of s)) Outside _ y.1 in
    let q = passed (may_change s map add c) (BadChange c) _ p.1 in
    let r = passed (clear s a b add c) (InTheWay c) Done q.1 in
    let o = or-false (in_way s a.flags add c) (in_way s b.flags add c) (not-true _ r.0) in
    record { own = x.0; other = y.0; cell = ltb-true c (cells_of s) p.0; may = q.0; own-way = o.0; other_way = o.1 }

still : (s : Sides) (map : List ℕ) (x : Lent) (add : Bool) (c : ℕ) → tested s map x true ≡ Done → c < cells_of s → may_change s map add c ≡ true → in_way s x.flags add c ≡ false
    → Still s map (set map c (wanted add)) add c x
unfolding joined
still s map x add c t h m w =
    let g = (tells s map x true t).0 in
    record {
      checked = passes s (set map c (wanted add)) x (still-scheme s map x add c g h m w);
      cell-is = flag_at s (set map c (wanted add)) x c h ∙ flag-here s map x add c g h m w;
      parts_same = refl;
      masses-same = refl;
      fills_same = refl;
      carry_same = refl;
      water-is = water-same s map x add c g h m w;
    }

pub kept-holds : Claim
unfolding wall_map
kept-holds s map a b add c e =
    let t = granted s map a b add c e in
    rw e (still s map a add c t.own t.cell t.may t.own-way, still s map b add c t.other t.cell t.may t.other_way)
