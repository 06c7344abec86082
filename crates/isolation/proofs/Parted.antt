-- Part and join undo each other. A scheme that passes its tests joins to a grid that the check accepts, and parts from it as it was; a good grid that has flag 3
-- exactly at the map's walls parts to a scheme that passes its tests and joins to that grid, and so does every good grid on the map of its own walls.
-- Assumes nothing.
use mathlib.Core.Path.{◌≡◌, refl, sym, ap, ◌∙◌, subst}
use mathlib.Core.Bool.{Bool, true, false, ◌&&◌, ◌||◌, not, cond}
use mathlib.Core.List.{List}
use Prim.Native.Nat.{ℕ, ◌*◌, ◌≤◌, ◌<◌}
use native.Mathlib.Omega.{arith}
use lib.Dec.{eqb}
use lib.ListN.{length, get_or}
use borrow.Author.Tests.{eqb-true, eq-eqb, eqb-false, le-leb}
use Rattle.whole.specs.laws.Bools.{and-true}
use Rattle.whole.specs.Fold.{tab}
use Rattle.whole.specs.laws.Tab.{length-tab, get_or-tab, tab-cong, tab-self}
use Rattle.lattice.specs.Lattice.{d3q19}
use Rattle.grid.specs.declared.Sides.{Sides}
use Rattle.grid.specs.Answer.{Done}
use Rattle.grid.specs.Grid.{cells_of, sides_good, grid_of, box}
use Rattle.grid.specs.State.{Lent, lent, State, state_of}
use Rattle.grid.specs.Outcome.{or_refuse, lengths_good, good_answer, check_answer}
use Rattle.grid.proofs.Accepted.{passed}
use Rattle.pumps.specs.Three.{number_in, head_of, total_good, totals_good, three_lengths, three_answer}
use Rattle.pumps.proofs.Base.{base-accepts}
use Rattle.pumps.proofs.Checked.{good-done, head-state, head-sized, has-passed}
use Rattle.schemes.specs.Scheme.{wall_at, own_at, joined_flag, own_flag, joined_flags, parted_flags, joined, parted, mark_good}
use Rattle.schemes.proofs.Tests.{Scheme, passes, flag, own-low}
use Rattle.isolation.specs.Claims.{Walls, walls_of, Begun}
use Rattle.grid.specs.declared.refusals.Refusal.TheVariants.{BadLength, BadSides, BadState}

-- ---- one flag

-- a joined flag of 3 is a wall of the map, if the own flag is one
wall-of : (m f : ℕ) → f ≤ 2 → joined_flag m f ≡ 3 → m ≡ 1
wall-of m f l h = go (eqb m 1) refl h
  where
    go : (b : Bool) → eqb m 1 ≡ b → cond b 3 f ≡ 3 → m ≡ 1
    go true e k = eqb-true m 1 e
    go false e k = absurd (omega arith)

-- a flag parted and joined again, by a map that has its walls
rejoined : (m f : ℕ) → (m ≡ 1 → f ≡ 3) → (f ≡ 3 → m ≡ 1) → joined_flag m (own_flag f) ≡ f
rejoined m f u v = go (eqb m 1) refl (eqb f 3) refl
  where
    go : (a : Bool) → eqb m 1 ≡ a → (b : Bool) → eqb f 3 ≡ b → cond a 3 (cond b 0 f) ≡ f
    go true p b q = sym (u (eqb-true m 1 p))
    go false p true q = absurd (eqb-false m 1 p (v (eqb-true f 3 q)))
    go false p false q = refl

-- a flag joined and parted again: an own flag, 0 at walls
reparted : (m f : ℕ) → f ≤ 2 → (m ≡ 1 → f ≡ 0) → own_flag (joined_flag m f) ≡ f
reparted m f l d = go (eqb m 1) refl (eqb f 3) refl
  where
    go : (a : Bool) → eqb m 1 ≡ a → (b : Bool) → eqb f 3 ≡ b → own_flag (cond a 3 f) ≡ f
    go true p b q = sym (d (eqb-true m 1 p))
    go false p true q = let e = eqb-true f 3 q in absurd (omega arith)
    go false p false q = ap (λ (b : Bool). cond b 0 f) q

own-small : (f : ℕ) → f < 4 → own_flag f ≤ 2
own-small f h = go (eqb f 3) refl
  where
    go : (b : Bool) → eqb f 3 ≡ b → cond b 0 f ≤ 2
    go true e = omega arith
    go false e = let n = eqb-false f 3 e in omega arith

-- ---- lengths and totals

-- other flags of the right number keep a set's lengths right
three-flags : (s : Sides) (x : Lent) (flags : List ℕ) → three_lengths (cells_of s) x ≡ true → length flags ≡ cells_of s
    → three_lengths (cells_of s) (lent flags x.parts x.masses x.fills x.carry) ≡ true
unfolding three_lengths
three-flags s x flags h e =
    ap (λ (b : Bool). eqb (length x.carry) 3 && (b && eqb (length x.parts) (19 * cells_of s) && eqb (length x.masses) (cells_of s) && eqb (length x.fills) (cells_of s)))
    (eq-eqb (length flags) (cells_of s) e ∙ sym (eq-eqb (length x.flags) (cells_of s) (head-sized s x h).flags))
    ∙ h

-- what the check with three numbers tells of a set
pub three-tells : (s : Sides) (x : Lent) → three_answer s x ≡ Done → three_lengths (cells_of s) x ≡ true
unfolding three_answer
three-tells s x e = (passed (three_lengths (cells_of s) x) BadLength _ (passed (sides_good s) BadSides _ e).1).0

checked-good : (s : Sides) (x : Lent) → check_answer s x ≡ Done → good_answer d3q19 (grid_of s) (state_of 18 x) Done ≡ Done
unfolding check_answer
checked-good s x e = (passed (lengths_good (cells_of s) x) BadLength _ (passed (sides_good s) BadSides _ e).1).1

three-good : (s : Sides) (x : Lent) → three_answer s x ≡ Done → good_answer d3q19 (grid_of s) (state_of 18 x) Done ≡ Done
three-good s x e = ap (λ (t : State). good_answer d3q19 (grid_of s) t Done) (sym (head-state s x)) ∙ checked-good s (head_of x) (base-accepts s x e)

-- ---- the grid of a scheme that passes its tests

module _ (s : Sides) (map : List ℕ) (a : Lent) (h : Scheme s map a) where
  pub grid-checked : three_answer s (joined s map a) ≡ Done
  unfolding three_answer joined joined_flags
  grid-checked =
      let flags = tab (cells_of s) (λ c. joined_flag (wall_at map c) (own_at a.flags c)) in
      rw (h.sides, three-flags s a flags h.sized (length-tab (cells_of s) (λ c. joined_flag (wall_at map c) (own_at a.flags c))))
      (good-done d3q19 (grid_of s) (state_of 18 (lent flags a.parts a.masses a.fills a.carry)) (or_refuse (totals_good (number_in a 1) (number_in a 2)) (BadState (cells_of s)) Done) h.grid
      ∙ ap (λ (b : Bool). or_refuse b (BadState (cells_of s)) Done) h.totals)

  grid-flag : (c : ℕ) → c < cells_of s → get_or (joined s map a).flags c 3 ≡ flag s map a c
  unfolding joined joined_flags
  grid-flag c k = get_or-tab (cells_of s) (λ c. joined_flag (wall_at map c) (own_at a.flags c)) 3 c k

  pub grid-walls : (c : ℕ) → c < cells_of s → Walls map (joined s map a) c
  grid-walls c k = record {
    wall-three = λ e. grid-flag c k ∙ ap (λ (b : Bool). cond b 3 (own_at a.flags c)) (eq-eqb (wall_at map c) 1 e);
    three-wall = λ e. wall-of (wall_at map c) (own_at a.flags c) (own-low s map a c (h.marks c k)) (sym (grid-flag c k) ∙ e);
  }

  -- part gives the scheme back
  part-flags : parted_flags s (joined s map a).flags ≡ a.flags
  unfolding parted_flags
  part-flags =
      tab-cong (cells_of s) (λ c. own_flag (get_or (joined s map a).flags c 3)) (λ c. own_at a.flags c) 0
      (λ c k. ap own_flag (grid-flag c k) ∙ reparted (wall_at map c) (own_at a.flags c) (own-low s map a c (h.marks c k)) (h.dry c k))
      ∙ ap (λ (n : ℕ). tab n (λ c. own_at a.flags c)) (sym (head-sized s a h.sized).flags)
      ∙ sym (tab-self 0 a.flags)

  pub parts_again : parted s (joined s map a) ≡ a
  unfolding parted joined
  parts_again = ap (λ (f : List ℕ). lent f a.parts a.masses a.fills a.carry) part-flags

-- ---- a state with the map's walls
module _ (s : Sides) (map : List ℕ) (x : Lent) (g : three_answer s x ≡ Done) (w : (c : ℕ) → c < cells_of s → Walls map x c) where
  own-flag : (c : ℕ) → c < cells_of s → own_at (parted s x).flags c ≡ own_flag (get_or x.flags c 3)
  unfolding parted parted_flags
  own-flag c k = get_or-tab (cells_of s) (λ c. own_flag (get_or x.flags c 3)) 0 c k

  flags-again : joined_flags s map (parted s x).flags ≡ x.flags
  unfolding joined_flags
  flags-again =
      tab-cong (cells_of s) (λ c. joined_flag (wall_at map c) (own_at (parted s x).flags c)) (λ c. get_or x.flags c 3) 0
      (λ c k. ap (joined_flag (wall_at map c)) (own-flag c k) ∙ rejoined (wall_at map c) (get_or x.flags c 3) (w c k).wall-three (w c k).three-wall)
      ∙ ap (λ (n : ℕ). tab n (λ c. get_or x.flags c 3)) (sym (head-sized s x (three-tells s x g)).flags)
      ∙ sym (tab-self 3 x.flags)

  pub again : joined s map (parted s x) ≡ x
  unfolding joined parted
  again = ap (λ (f : List ℕ). lent f x.parts x.masses x.fills x.carry) flags-again

  flag_small : (c : ℕ) → c < cells_of s → get_or x.flags c 3 < 4
  unfolding state_of grid_of box cells_of
  flag_small c k = (has-passed s x g).sound-is.flagged c k

  parted-sized : three_lengths (cells_of s) (parted s x) ≡ true
  unfolding parted parted_flags
  parted-sized = three-flags s x (tab (cells_of s) (λ c. own_flag (get_or x.flags c 3))) (three-tells s x g) (length-tab (cells_of s) (λ c. own_flag (get_or x.flags c 3)))

  parted-totals : totals_good (number_in (parted s x) 1) (number_in (parted s x) 2) ≡ true
  unfolding parted
  parted-totals = and-true (total_good (number_in x 1)) (total_good (number_in x 2)) (has-passed s x g).poured (has-passed s x g).taken

  pub own-two : (c : ℕ) → c < cells_of s → own_at (parted s x).flags c ≤ 2
  own-two c k = subst (λ (f : ℕ). f ≤ 2) (sym (own-flag c k)) (own-small (get_or x.flags c 3) (flag_small c k))

  pub parted-scheme : length map ≡ cells_of s → ((c : ℕ) → c < cells_of s → mark_good s map (parted s x).flags c ≡ true) → Scheme s map (parted s x)
  parted-scheme z m = record {
    sides = (has-passed s x g).sides;
    sized = parted-sized;
    map-size = z;
    marks = m;
    dry = λ c k e. own-flag c k ∙ ap own_flag ((w c k).wall-three e);
    grid = subst (λ (y : Lent). good_answer d3q19 (grid_of s) (state_of 18 y) Done ≡ Done) (sym again) (three-good s x g);
    totals = parted-totals;
  }

-- ---- every good grid begins a scheme

module _ (s : Sides) (x : Lent) (g : three_answer s x ≡ Done) where
  wall-byte : (c : ℕ) → c < cells_of s → wall_at (walls_of s x) c ≡ cond (eqb (get_or x.flags c 3) 3) 1 0
  wall-byte c k = get_or-tab (cells_of s) (λ c. cond (eqb (get_or x.flags c 3) 3) 1 0) 1 c k

  byte-three : (f : ℕ) → ◌≡◌ {A = ℕ} (cond (eqb f 3) 1 0) 1 → f ≡ 3
  byte-three f e = go (eqb f 3) refl e
    where
      go : (b : Bool) → eqb f 3 ≡ b → ◌≡◌ {A = ℕ} (cond b 1 0) 1 → f ≡ 3
      go true q e = eqb-true f 3 q
      go false q e = absurd (omega arith)

  own-walls : (c : ℕ) → c < cells_of s → Walls (walls_of s x) x c
  own-walls c k = record {
    wall-three = λ e. byte-three (get_or x.flags c 3) (sym (wall-byte c k) ∙ e);
    three-wall = λ e. wall-byte c k ∙ ap (λ (b : Bool). cond b 1 0) (eq-eqb (get_or x.flags c 3) 3 e);
  }

  outer-three : (c : ℕ) → c < cells_of s → (grid_of s).outer c ≡ true → get_or x.flags c 3 ≡ 3
  unfolding state_of grid_of box cells_of
  outer-three c k o = (has-passed s x g).sound-is.walled c k o

  own-marks : (c : ℕ) → c < cells_of s → mark_good s (walls_of s x) (parted s x).flags c ≡ true
  unfolding mark_good
  own-marks c k =
      and-true _ _ (and-true _ _ (le-leb (wall_at (walls_of s x) c) 1 (subst (λ (m : ℕ). m ≤ 1) (sym (wall-byte c k)) (low (eqb (get_or x.flags c 3) 3)))) (le-leb (own_at (parted s x).flags c) 2 (own-two s (walls_of s x) x g own-walls c k)))
      (outer ((grid_of s).outer c) refl)
    where
      low : (b : Bool) → cond b 1 0 ≤ 1
      low true = omega arith
      low false = omega arith

      outer : (o : Bool) → (grid_of s).outer c ≡ o → (not o || eqb (wall_at (walls_of s x) c) 1) ≡ true
      outer true e = eq-eqb (wall_at (walls_of s x) c) 1 ((own-walls c k).three-wall (outer-three c k e))
      outer false e = refl

pub begun-holds : Begun
begun-holds s x g = record {
  checked = passes s (walls_of s x) (parted s x) (parted-scheme s (walls_of s x) x g (own-walls s x g) (length-tab (cells_of s) (λ c. cond (eqb (get_or x.flags c 3) 3) 1 0)) (own-marks s x g));
  joins = again s (walls_of s x) x g (own-walls s x g);
}
