-- What a scheme that passes its tests has, and that this is enough to pass them: the map and the own flags are in order, walls are dry, and the grid
-- that they make passes the base's own tests 4 to 6; poured and taken are in range. Assumes nothing.
use mathlib.Core.Path.{◌≡◌, refl, sym, ap, ap₂, ◌∙◌}
use mathlib.Core.Bool.{Bool, true, false, ◌&&◌, ◌||◌, not, cond, false≢true}
use mathlib.Core.List.{List}
use Prim.Native.Nat.{ℕ, suc, ◌≤◌, ◌<◌}
use native.Mathlib.Nat.{le_of_eq, le_of_suc-le-suc}
use native.Mathlib.Decide.{ℕ_discrete}
use native.Mathlib.Omega.{arith}
use lib.Arith.{lt_of_le-ne}
use lib.Dec.{eqb, ltb, leb}
use lib.IntN.{ℤ}
use lib.ListN.{length}
use borrow.Author.Tests.{leb-true, le-leb, eqb-true, eq-eqb, ne_eqb, lt-ltb, not-false, ltb-true}
use Rattle.whole.specs.laws.Bools.{and_left, and_right, and-true, or-false, where-then}
use Rattle.whole.specs.laws.Search.{first-none, first-all}
use Rattle.whole.specs.laws.Tab.{get_or-tab}
use Rattle.lattice.specs.Lattice.{d3q19, density}
use Rattle.lattice.specs.Cell.{carry_good}
use Rattle.grid.specs.declared.Sides.{Sides}
use Rattle.grid.specs.Answer.{Done}
use Rattle.grid.specs.Grid.{cells_of, sides_good, grid_of, box}
use Rattle.grid.specs.State.{Lent, by_flag, state_of}
use Rattle.grid.specs.Step.{fill_for}
use Rattle.grid.specs.Good.{flag_good, bad_flag, dry_good, interface_good, fluid_good, fill_good, cell_good, bad_rule}
use Rattle.grid.specs.Outcome.{or_refuse, good_answer}
use Rattle.grid.specs.Demands.{Walled}
use Rattle.grid.proofs.Accepted.{passed, none_found, skip}
use Rattle.pumps.specs.Three.{number_in, totals_good, three_lengths}
use Rattle.schemes.specs.Scheme.{wall_at, own_at, joined_flag, joined_flags, joined, mark_good, bad_mark, bad_open, wet_wall, bad_own, ruled, tested}
use Rattle.grid.specs.declared.refusals.Refusal.TheVariants.{BadFlag, BadLayer, BadLength, BadSides, BadState}

-- ---- one cell

-- a byte of the map, an own flag, an outer cell or not: the joined flag is a flag, and 3 at an outer cell
pub mark-flag : (m f : ℕ) (o : Bool) → (leb m 1 && leb f 2 && (not o || eqb m 1)) ≡ true
    → (ltb (joined_flag m f) 4 && (not o || eqb (joined_flag m f) 3)) ≡ true
mark-flag m f o e = go (eqb m 1) o (and_right (leb m 1 && leb f 2) (not o || eqb m 1) e)
  where
    low : ltb f 4 ≡ true
    low = let h : f ≤ 2 = leb-true f 2 (and_right (leb m 1) (leb f 2) (and_left (leb m 1 && leb f 2) (not o || eqb m 1) e)) in lt-ltb f 4 (omega arith)

    go : (b o : Bool) → (not o || b) ≡ true → (ltb (cond b 3 f) 4 && (not o || eqb (cond b 3 f) 3)) ≡ true
    go true true k = refl
    go true false k = refl
    go false true k = absurd (false≢true k)
    go false false k = ap (λ (x : Bool). x && true) low

-- test 6 of a cell as if its flag were f
abbrev pub good_as : ℕ → Lent → ℕ → Bool
good_as f a c =
    by_flag f (dry_good d3q19 (state_of 18 a) c) (interface_good d3q19 (state_of 18 a) c) (fluid_good d3q19 (state_of 18 a) c) (dry_good d3q19 (state_of 18 a) c)
    && eqb ((state_of 18 a).fill c) (fill_for f ((state_of 18 a).mass c) (density d3q19 ((state_of 18 a).part c)))

pub good-as : (a : Lent) (c : ℕ) → cell_good d3q19 (state_of 18 a) c ≡ good_as ((state_of 18 a).flag c) a c
unfolding cell_good fill_good
good-as a c = refl

-- an empty cell and a wall keep the same rules
pub good-dry : (a : Lent) (c : ℕ) → good_as 3 a c ≡ good_as 0 a c
unfolding fill_for
good-dry a c = refl

module _ (s : Sides) (map : List ℕ) (a : Lent) where
  pub cells_are : (grid_of s).cells ≡ cells_of s
  unfolding grid_of box cells_of
  cells_are = refl

  -- the grid's flag of a cell
  abbrev pub flag : ℕ → ℕ
  flag c = joined_flag (wall_at map c) (own_at a.flags c)

  pub flag_at : (c : ℕ) → c < cells_of s → (state_of 18 (joined s map a)).flag c ≡ flag c
  unfolding state_of joined joined_flags
  flag_at c h = get_or-tab (cells_of s) (λ c. joined_flag (wall_at map c) (own_at a.flags c)) 3 c h

  -- nothing but the flags is joined
  as_own : (f c : ℕ) → good_as f (joined s map a) c ≡ good_as f a c
  unfolding joined state_of dry_good interface_good fluid_good
  as_own f c = refl

  pub joined-good : (c : ℕ) → c < cells_of s → cell_good d3q19 (state_of 18 (joined s map a)) c ≡ good_as (flag c) a c
  joined-good c h = good-as (joined s map a) c ∙ as_own ((state_of 18 (joined s map a)).flag c) c ∙ ap (λ (f : ℕ). good_as f a c) (flag_at c h)

  pub joined-carry : (state_of 18 (joined s map a)).carry ≡ (state_of 18 a).carry
  unfolding joined state_of
  joined-carry = refl

  -- what the tests of a scheme tell
  pub record Scheme : Type 0 where
    pub sides : sides_good s ≡ true
    pub sized : three_lengths (cells_of s) a ≡ true
    pub map-size : length map ≡ cells_of s
    pub marks : (c : ℕ) → c < cells_of s → mark_good s map a.flags c ≡ true
    pub dry : (c : ℕ) → c < cells_of s → wall_at map c ≡ 1 → own_at a.flags c ≡ 0
    pub grid : good_answer d3q19 (grid_of s) (state_of 18 (joined s map a)) Done ≡ Done
    pub totals : totals_good (number_in a 1) (number_in a 2) ≡ true

  -- ---- test 6 of the scheme is the grid's, and dry walls
  abbrev own-rule : ℕ → Bool
  own-rule c = cond (eqb c (cells_of s)) (not (carry_good (state_of 18 a).carry)) (not (cell_good d3q19 (state_of 18 (joined s map a)) c) || wet_wall map a.flags c)

  abbrev grid-rule : ℕ → Bool
  grid-rule c = cond (eqb c (cells_of s)) (not (carry_good (state_of 18 (joined s map a)).carry)) (not (cell_good d3q19 (state_of 18 (joined s map a)) c))

  at-carry : (c : ℕ) → c ≡ cells_of s → own-rule c ≡ grid-rule c
  at-carry c e =
      ap (λ (b : Bool). cond b (not (carry_good (state_of 18 a).carry)) (not (cell_good d3q19 (state_of 18 (joined s map a)) c) || wet_wall map a.flags c)) (eq-eqb c (cells_of s) e)
      ∙ ap (λ (z : ℤ). not (carry_good z)) (sym joined-carry)
      ∙ sym (ap (λ (b : Bool). cond b (not (carry_good (state_of 18 (joined s map a)).carry)) (not (cell_good d3q19 (state_of 18 (joined s map a)) c))) (eq-eqb c (cells_of s) e))

  own_in : (c : ℕ) → (c ≡ cells_of s → ⊥) → own-rule c ≡ (not (cell_good d3q19 (state_of 18 (joined s map a)) c) || wet_wall map a.flags c)
  own_in c n = ap (λ (b : Bool). cond b (not (carry_good (state_of 18 a).carry)) (not (cell_good d3q19 (state_of 18 (joined s map a)) c) || wet_wall map a.flags c)) (ne_eqb c (cells_of s) n)

  grid-in : (c : ℕ) → (c ≡ cells_of s → ⊥) → grid-rule c ≡ not (cell_good d3q19 (state_of 18 (joined s map a)) c)
  grid-in c n = ap (λ (b : Bool). cond b (not (carry_good (state_of 18 (joined s map a)).carry)) (not (cell_good d3q19 (state_of 18 (joined s map a)) c))) (ne_eqb c (cells_of s) n)

  rules-grid : suc (cells_of s) ≤ bad_own s map a → suc (cells_of s) ≤ bad_rule d3q19 (cells_of s) (state_of 18 (joined s map a))
  unfolding bad_own bad_rule
  rules-grid h = le_of_eq (sym (first-all (suc (cells_of s)) grid-rule (λ c k. at c k (ℕ_discrete c (cells_of s)))))
    where
      at : (c : ℕ) → c < suc (cells_of s) → Dec (c ≡ cells_of s) → grid-rule c ≡ false
      at c k (yes e) = sym (at-carry c e) ∙ first-none (suc (cells_of s)) own-rule h c k
      at c k (no n) =
          grid-in c n
          ∙ (or-false (not (cell_good d3q19 (state_of 18 (joined s map a)) c)) (wet_wall map a.flags c) (sym (own_in c n) ∙ first-none (suc (cells_of s)) own-rule h c k)).0

  rules-dry : suc (cells_of s) ≤ bad_own s map a → (c : ℕ) → c < cells_of s → wall_at map c ≡ 1 → own_at a.flags c ≡ 0
  unfolding bad_own wet_wall
  rules-dry h c k e =
      let n : c ≡ cells_of s → ⊥ = λ q. absurd (omega arith) in
      let w : (eqb (wall_at map c) 1 && not (eqb (own_at a.flags c) 0)) ≡ false
      = (or-false (not (cell_good d3q19 (state_of 18 (joined s map a)) c)) (wet_wall map a.flags c) (sym (own_in c n) ∙ first-none (suc (cells_of s)) own-rule h c (omega arith))).1 in
      eqb-true (own_at a.flags c) 0 (not-false (eqb (own_at a.flags c) 0) (ap (λ (b : Bool). b && not (eqb (own_at a.flags c) 0)) (sym (eq-eqb (wall_at map c) 1 e)) ∙ w))

  dry-wall : (c : ℕ) → (wall_at map c ≡ 1 → own_at a.flags c ≡ 0) → wet_wall map a.flags c ≡ false
  unfolding wet_wall
  dry-wall c h = go (eqb (wall_at map c) 1) refl
    where
      go : (b : Bool) → eqb (wall_at map c) 1 ≡ b → (b && not (eqb (own_at a.flags c) 0)) ≡ false
      go true e = ap not (eq-eqb (own_at a.flags c) 0 (h (eqb-true (wall_at map c) 1 e)))
      go false e = refl

  grid-rules : ((c : ℕ) → c < cells_of s → wall_at map c ≡ 1 → own_at a.flags c ≡ 0) → suc (cells_of s) ≤ bad_rule d3q19 (cells_of s) (state_of 18 (joined s map a)) → suc (cells_of s) ≤ bad_own s map a
  unfolding bad_own bad_rule
  grid-rules d h = le_of_eq (sym (first-all (suc (cells_of s)) own-rule (λ c k. at c k (ℕ_discrete c (cells_of s)))))
    where
      at : (c : ℕ) → c < suc (cells_of s) → Dec (c ≡ cells_of s) → own-rule c ≡ false
      at c k (yes e) = at-carry c e ∙ first-none (suc (cells_of s)) grid-rule h c k
      at c k (no n) =
          own_in c n
          ∙ ap₂ (λ (x y : Bool). x || y) (sym (grid-in c n) ∙ first-none (suc (cells_of s)) grid-rule h c k) (dry-wall c (d c (lt_of_le-ne (le_of_suc-le-suc k) n)))

  -- ---- test 4 of the scheme lets the grid's pass
  mark-good : (c : ℕ) → c < cells_of s → mark_good s map a.flags c ≡ true → flag_good (grid_of s) (state_of 18 (joined s map a)).flag c ≡ true
  unfolding flag_good mark_good
  mark-good c k h =
      ap (λ (f : ℕ). ltb f 4 && (not ((grid_of s).outer c) || eqb f 3)) (flag_at c k)
      ∙ mark-flag (wall_at map c) (own_at a.flags c) ((grid_of s).outer c) h

  marks-flags : ((c : ℕ) → c < cells_of s → mark_good s map a.flags c ≡ true) → cells_of s ≤ bad_flag (grid_of s) (state_of 18 (joined s map a)).flag
  unfolding bad_flag grid_of box cells_of
  marks-flags h = le_of_eq (sym (first-all (cells_of s) (λ c. not (flag_good (grid_of s) (state_of 18 (joined s map a)).flag c)) (λ c k. ap not (mark-good c k (h c k)))))

  -- ---- flags that are in order
  module _ (h : (c : ℕ) → c < cells_of s → mark_good s map a.flags c ≡ true) where
    flag-good : (c : ℕ) → c < cells_of s → (ltb ((state_of 18 (joined s map a)).flag c) 4 && (not ((grid_of s).outer c) || eqb ((state_of 18 (joined s map a)).flag c) 3)) ≡ true
    unfolding flag_good
    flag-good c k = mark-good c k (h c k)

    pub flags-low : (c : ℕ) → c < (grid_of s).cells → (state_of 18 (joined s map a)).flag c < 4
    unfolding grid_of box cells_of
    flags-low c k = ltb-true _ 4 (and_left (ltb ((state_of 18 (joined s map a)).flag c) 4) (not ((grid_of s).outer c) || eqb ((state_of 18 (joined s map a)).flag c) 3) (flag-good c k))

    pub outer-wall : Walled (grid_of s) (state_of 18 (joined s map a)).flag
    unfolding grid_of box cells_of
    outer-wall c k o =
        eqb-true _ 3
        (where-then ((grid_of s).outer c) (eqb ((state_of 18 (joined s map a)).flag c) 3)
        (and_right (ltb ((state_of 18 (joined s map a)).flag c) 4) (not ((grid_of s).outer c) || eqb ((state_of 18 (joined s map a)).flag c) 3) (flag-good c k)) o)

  -- ---- the two ways
  pub tells : (more : Bool) → tested s map a more ≡ Done → Scheme × (more ≡ true)
  unfolding tested ruled bad_mark bad_open good_answer grid_of box cells_of d3q19
  tells more e =
      let x = passed (sides_good s) BadSides _ e in
      let y = passed (three_lengths (cells_of s) a && eqb (length map) (cells_of s) && more) BadLength _ x.1 in
      let l = and_left (three_lengths (cells_of s) a && eqb (length map) (cells_of s)) more y.0 in
      let m = none_found (cells_of s) BadFlag _ _ y.1 in
      let f = none_found (cells_of s) BadLayer _ _ m.1 in
      let r = none_found (suc (cells_of s)) BadState _ _ f.1 in
      let t = passed (totals_good (number_in a 1) (number_in a 2)) (BadState (cells_of s)) Done r.1 in
      let marks : (c : ℕ) → c < cells_of s → mark_good s map a.flags c ≡ true = λ c k. not-false _ (first-none (cells_of s) (λ c. not (mark_good s map a.flags c)) m.0 c k) in (
        record {
          sides = x.0;
          sized = and_left (three_lengths (cells_of s) a) (eqb (length map) (cells_of s)) l;
          map-size = eqb-true (length map) (cells_of s) (and_right (three_lengths (cells_of s) a) (eqb (length map) (cells_of s)) l);
          marks = marks;
          dry = rules-dry r.0;
          grid = skip (cells_of s) BadFlag _ _ (marks-flags marks) ∙ skip (cells_of s) BadLayer _ _ f.0 ∙ skip (suc (cells_of s)) BadState _ Done (rules-grid r.0);
          totals = t.0;
        },
        and_right (three_lengths (cells_of s) a && eqb (length map) (cells_of s)) more y.0,
      )

  pub passes : Scheme → tested s map a true ≡ Done
  unfolding tested ruled bad_mark bad_open good_answer grid_of box cells_of d3q19
  passes h =
      let x = none_found (cells_of s) BadFlag _ _ h.grid in
      let y = none_found (cells_of s) BadLayer _ _ x.1 in
      let z = none_found (suc (cells_of s)) BadState _ _ y.1 in
      let l = and-true (three_lengths (cells_of s) a && eqb (length map) (cells_of s)) true (and-true (three_lengths (cells_of s) a) (eqb (length map) (cells_of s)) h.sized (eq-eqb (length map) (cells_of s) h.map-size)) refl in
      rw (h.sides, l)
      (skip (cells_of s) BadFlag _ _ (le_of_eq (sym (first-all (cells_of s) (λ c. not (mark_good s map a.flags c)) (λ c k. ap not (h.marks c k)))))
      ∙ skip (cells_of s) BadLayer _ _ y.0
      ∙ skip (suc (cells_of s)) BadState _ _ (grid-rules h.dry z.0)
      ∙ ap (λ (b : Bool). or_refuse b (BadState (cells_of s)) Done) h.totals)

  -- ---- marks, read
  module _ (c : ℕ) (e : mark_good s map a.flags c ≡ true) where
    pub map-low : wall_at map c ≤ 1
    unfolding mark_good
    map-low = leb-true (wall_at map c) 1 (and_left (leb (wall_at map c) 1) (leb (own_at a.flags c) 2) (and_left (leb (wall_at map c) 1 && leb (own_at a.flags c) 2) (not ((grid_of s).outer c) || eqb (wall_at map c) 1) e))

    pub own-low : own_at a.flags c ≤ 2
    unfolding mark_good
    own-low = leb-true (own_at a.flags c) 2 (and_right (leb (wall_at map c) 1) (leb (own_at a.flags c) 2) (and_left (leb (wall_at map c) 1 && leb (own_at a.flags c) 2) (not ((grid_of s).outer c) || eqb (wall_at map c) 1) e))

-- a mark that is good stays good with another own flag
pub other-own : (s : Sides) (map own own' : List ℕ) (c : ℕ) → mark_good s map own c ≡ true → own_at own' c ≤ 2 → mark_good s map own' c ≡ true
unfolding mark_good
other-own s map own own' c e h = go (leb (wall_at map c) 1) (leb (own_at own c) 2) (leb (own_at own' c) 2) (not ((grid_of s).outer c) || eqb (wall_at map c) 1) e (le-leb (own_at own' c) 2 h)
  where
    go : (m f g o : Bool) → (m && f && o) ≡ true → g ≡ true → (m && g && o) ≡ true
    go m f g o e k =
        let mf = and_left (m && f) o e in
        three (and_left m f mf) k (and_right (m && f) o e)
      where
        three : {x y z : Bool} → x ≡ true → y ≡ true → z ≡ true → (x && y && z) ≡ true
        three u v w i = u i && v i && w i
