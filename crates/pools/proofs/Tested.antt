-- The outcome as the code goes through it: a test that refuses, what a lent set has once tests 1 to 6 have passed, and the two ends after them.
-- Assumes nothing.
use mathlib.Core.Path.{◌≡◌, refl, sym, ap, ap₂, ◌∙◌, subst}
use mathlib.Core.Bool.{Bool, true, false, ◌&&◌, cond}
use mathlib.Core.List.{List, ◌++◌}
use Prim.Native.Nat.{ℕ, zero, suc, ◌≤◌, ◌<◌}
use native.Mathlib.Omega.{arith}
use lib.Dec.{eqb, leb}
use lib.IntN.{ℤ, pos, nat_abs}
use lib.Signed.{le_z}
use lib.ListN.{length, get_or, replicate, drop}
use borrow.Author.Tests.{eqb-true, le-leb, lt-leb}
use Rattle.whole.specs.laws.Bools.{and_left, and_right}
use Rattle.whole.specs.laws.Bounds.{abs-below}
use Rattle.whole.specs.Fold.{count, sum, tab}
use Rattle.whole.specs.laws.Order.{le_z-true}
use Rattle.whole.specs.laws.Tab.{length-tab, get_or-tab}
use Rattle.lattice.specs.Lattice.{d3q19, density}
use Rattle.lattice.specs.Cell.{dense}
use Rattle.lattice.proofs.Paired.{paired19}
use Rattle.grid.specs.declared.Sides.{Sides}
use Rattle.grid.specs.Answer.{Answer}
use Rattle.grid.specs.Answer.{Done}
use Rattle.grid.specs.Grid.{cells_of, sides_good, grid_of, box}
use Rattle.grid.specs.State.{Lent, by_flag, liquid, state_of, flag_of}
use Rattle.grid.specs.Outcome.{good_answer}
use Rattle.grid.specs.inner.Passes.{Flagged}
use Rattle.grid.proofs.Accepted.{passed, none_found}
use Rattle.grid.proofs.Box.{grid-laid}
use Rattle.grid.proofs.GoodSides.{good-sides}
use Rattle.grid.proofs.Prepared.{cell-body, cell-mass}
use Rattle.pumps.specs.Three.{three_lengths, three_good}
use Rattle.pumps.proofs.Checked.{four, then-checked}
use Rattle.pumps.proofs.Checked as checked
use Rattle.pools.specs.Pools.{mark, pool_cells, pool_water}
use Rattle.pools.specs.Outcome.{Room, room, count_of, mark_of, cells_in, water_in, tested, fits, by_tests, pools_answer, pools_room, Asked}
use Rattle.pools.specs.inner.Flood.{Finished}
use Rattle.pools.specs.inner.Listing.{Listing, Listed}
use Rattle.pools.proofs.Marks.{mark-to}
use Rattle.pools.proofs.Flooding.{walled, cells_are}
use Rattle.pools.proofs.Listings.{headed}
use Rattle.whole.specs.laws.Sums.{sum-cong}
use Rattle.whole.specs.laws.Counts.{count-cong}
use Rattle.grid.specs.declared.refusals.Refusal.TheVariants.{BadFlag, BadLength, BadPools, BadSides}
use Rattle.std.specs.Prelude.{Ok, Err}
use Rattle.grid.specs.declared.refusals.Refusal.{Refusal}

-- what cell j adds to the water of pool k + 1, by its mark
abbrev mass-by : ℕ → List ℤ → ℕ → ℕ → ℤ
mass-by m masses k j = cond (eqb m (suc k)) (get_or masses j (pos 0)) (pos 0)

module _ (s : Sides) (a : Lent) (r : Room) where
  abbrev pub lengths : Bool
  lengths = three_lengths (cells_of s) a && eqb (length r.marks) (cells_of s) && eqb (length r.work) (cells_of s) && eqb (length r.counts) (length r.waters)

  -- ---- tests 1 and 2

  -- the code's test of the lengths is the definition's
  pub lengths-told : {n : ℕ} {b : Bool} → n ≡ cells_of s → b ≡ (eqb (length a.carry) 3 && four s a n)
      → (b && eqb (length r.marks) n && eqb (length r.work) n && eqb (length r.counts) (length r.waters)) ≡ lengths
  unfolding three_lengths
  lengths-told {n} {b} e q =
      ap (λ (x : Bool). x && eqb (length r.marks) n && eqb (length r.work) n && eqb (length r.counts) (length r.waters)) q
      ∙ ap (λ (m : ℕ). (eqb (length a.carry) 3 && four s a m) && eqb (length r.marks) m && eqb (length r.work) m && eqb (length r.counts) (length r.waters)) e

  pub refuses-sides : sides_good s ≡ false → Err BadSides ≡ tested s a r
  unfolding tested
  refuses-sides e = rw e refl

  module _ (g : sides_good s ≡ true) where
    pub refuses-lengths : lengths ≡ false → Err BadLength ≡ tested s a r
    unfolding tested
    refuses-lengths e = rw (g, e) refl

    module _ (l : lengths ≡ true) where
      pub then-tested : three_good s a Done ≡ tested s a r
      unfolding tested
      then-tested = rw (g, l) refl

  -- of the lengths those of the set
  pub set-lengths : lengths ≡ true → three_lengths (cells_of s) a ≡ true
  set-lengths l =
      and_left (three_lengths (cells_of s) a) (eqb (length r.marks) (cells_of s))
      (and_left (three_lengths (cells_of s) a && eqb (length r.marks) (cells_of s)) (eqb (length r.work) (cells_of s))
      (and_left (three_lengths (cells_of s) a && eqb (length r.marks) (cells_of s) && eqb (length r.work) (cells_of s)) (eqb (length r.counts) (length r.waters)) l))

  -- a set that one of the tests refuses: nothing is written
  pub refused : {refusal : Refusal} → Err refusal ≡ tested s a r → Asked s a r (Err refusal) r
  unfolding pools_answer pools_room
  refused e = record {
    told_is = ap (λ (x : Answer). by_tests x (fits s a r) Err (Err (BadPools (count_of s a.flags))) (Ok (count_of s a.flags))) e;
    room-is = ap (λ (x : Answer). by_tests x (fits s a r) (λ refusal. r)
        (room (replicate (cells_of s) 0) (replicate (cells_of s) 0) r.counts r.waters)
        (room (tab (cells_of s) (mark_of s a.flags)) (replicate (cells_of s) 0)
        (tab (count_of s a.flags) (λ k. cells_in s a.flags (suc k)) ++ drop (count_of s a.flags) r.counts)
        (tab (count_of s a.flags) (λ k. water_in s a (suc k)) ++ drop (count_of s a.flags) r.waters))) e;
  }

  -- ---- tests 1 to 6 have passed

  pub record Passed : Type 0 where
    pub set : checked.Passed s a
    pub good : three_good s a Done ≡ Done
    pub marks : length r.marks ≡ cells_of s
    pub work : length r.work ≡ cells_of s
    pub list : length r.counts ≡ length r.waters

  pub has-passed : tested s a r ≡ Done → Passed
  unfolding tested
  has-passed e =
      let x = passed (sides_good s) BadSides _ e in
      let y = passed lengths BadLength _ x.1 in
      let three = and_left (three_lengths (cells_of s) a && eqb (length r.marks) (cells_of s) && eqb (length r.work) (cells_of s)) (eqb (length r.counts) (length r.waters)) y.0 in
      record {
        set = checked.has-passed s a (sym (then-checked s a x.0 (set-lengths y.0)) ∙ y.1);
        good = y.1;
        marks = eqb-true _ _ (and_right (three_lengths (cells_of s) a) (eqb (length r.marks) (cells_of s)) (and_left (three_lengths (cells_of s) a && eqb (length r.marks) (cells_of s)) (eqb (length r.work) (cells_of s)) three));
        work = eqb-true _ _ (and_right (three_lengths (cells_of s) a && eqb (length r.marks) (cells_of s)) (eqb (length r.work) (cells_of s)) three);
        list = eqb-true _ _ (and_right (three_lengths (cells_of s) a && eqb (length r.marks) (cells_of s) && eqb (length r.work) (cells_of s)) (eqb (length r.counts) (length r.waters)) y.0);
      }

  module _ (p : Passed) where
    pub flagged : Flagged s a.flags
    unfolding good_answer grid_of box cells_of state_of
    flagged = record {
      sides = p.set.sides;
      count = p.set.sized.flags;
      tested = (none_found (grid_of s).cells BadFlag _ _ p.good).0;
    }

    dense-in : (ρ : ℤ) → dense ρ ≡ true → nat_abs ρ ≤ 2359296
    unfolding dense
    dense-in ρ e =
        let h : nat_abs ρ ≤ 1179648 = abs-below {k = 294912} {l = 1179648} {z = ρ} (le_z-true {a = pos 294912} {b = ρ} (and_left (le_z (pos 294912) ρ) (le_z ρ (pos 1179648)) e)) (le_z-true {a = ρ} {b = pos 1179648} (and_right (le_z (pos 294912) ρ) (le_z ρ (pos 1179648)) e)) in
        omega arith

    by_kind : (f : ℕ) (m ρ : ℤ) → m ≡ by_flag f (pos 0) m ρ (pos 0) → (f ≡ 1 → nat_abs m ≤ 2359296) → (liquid f ≡ true → nat_abs ρ ≤ 2359296) → nat_abs m ≤ 2359296
    by_kind zero m ρ e u v = subst (λ (z : ℤ). nat_abs z ≤ 2359296) (sym e) (omega arith)
    by_kind (suc zero) m ρ e u v = u refl
    by_kind (suc (suc zero)) m ρ e u v = subst (λ (z : ℤ). nat_abs z ≤ 2359296) (sym e) (v refl)
    by_kind (suc (suc (suc n))) m ρ e u v = subst (λ (z : ℤ). nat_abs z ≤ 2359296) (sym e) (omega arith)

    -- every mass is in the range of an interface cell's
    mass-in : (c : ℕ) → c < cells_of s → nat_abs ((state_of 18 a).mass c) ≤ 2359296
    mass-in c h =
        by_kind ((state_of 18 a).flag c) ((state_of 18 a).mass c) (density d3q19 ((state_of 18 a).part c))
        (p.set.sound-is.massed c (subst (λ (n : ℕ). c < n) (sym (cells_are s)) h))
        (λ e. (cell-mass (cells_of s) (state_of 18 a) p.set.cells c h e).abs)
        (λ l. dense-in (density d3q19 ((state_of 18 a).part c)) (cell-body (cells_of s) (state_of 18 a) p.set.cells c h l).is-dense)

    -- ---- the list has room for too few pools
    pub too_many : {n : ℕ} {marks work : List ℕ} → tested s a r ≡ Done → n ≡ count_of s a.flags → length r.counts < n → marks ≡ replicate (cells_of s) 0 → work ≡ replicate (cells_of s) 0
        → Asked s a r (Err (BadPools n)) (room marks work r.counts r.waters)
    unfolding pools_answer pools_room fits
    too_many {n} {marks} {work} t e h x y =
        let f : leb (count_of s a.flags) (length r.counts) ≡ false = lt-leb (count_of s a.flags) (length r.counts) (omega arith) in
        record {
          told_is = ap (λ (k : ℕ). Err (BadPools k)) e ∙ sym (rw (t, f) refl);
          room-is = ap₂ (λ (l m : List ℕ). room l m r.counts r.waters) x y ∙ sym (rw (t, f) refl);
        }

    -- ---- it has room
    module _ {n : ℕ} {marks work work' : List ℕ} (d : Finished s a.flags work' n marks work) (enough : n ≤ length r.counts) where
      size : length marks ≡ cells_of s
      size = ap length d.marks-are ∙ length-tab (cells_of s) (mark 18 (grid_of s) (flag_of a.flags))

      mark-at : (c : ℕ) → c < cells_of s → get_or marks c 0 ≡ mark 18 (grid_of s) (flag_of a.flags) c
      mark-at c h = ap (λ (l : List ℕ). get_or l c 0) d.marks-are ∙ get_or-tab (cells_of s) (mark 18 (grid_of s) (flag_of a.flags)) 0 c h

      pub may-list : Listing marks a.masses n r.counts r.waters
      unfolding d3q19 state_of cells_of
      may-list = record {
        room = enough;
        as_many = p.list;
        marks-low = λ c h.
            let k : c < cells_of s = subst (λ (m : ℕ). c < m) size h in
            subst (λ (m : ℕ). m ≤ n) (sym (mark-at c k)) (subst (λ (m : ℕ). mark 18 (grid_of s) (flag_of a.flags) c ≤ m) (sym d.number_is)
            (mark-to d3q19 (grid_of s) (flag_of a.flags) paired19 (grid-laid s) (walled flagged) c (subst (λ (m : ℕ). c < m) (sym (cells_are s)) k)));
        masses-size = p.set.sized.masses ∙ sym size;
        few = omega (arith, size, (good-sides s p.set.sides).all);
        masses-in = λ c h. mass-in c (subst (λ (m : ℕ). c < m) size h);
      }

      cells-in : (k : ℕ) → count (length marks) (λ j. eqb (get_or marks j 0) (suc k)) ≡ cells_in s a.flags (suc k)
      unfolding pool_cells
      cells-in k =
          ap (λ (m : ℕ). count m (λ j. eqb (get_or marks j 0) (suc k))) (size ∙ sym (cells_are s))
          ∙ count-cong (grid_of s).cells (λ j. eqb (get_or marks j 0) (suc k)) (λ j. eqb (mark 18 (grid_of s) (flag_of a.flags) j) (suc k))
          (λ j h. ap (λ (x : ℕ). eqb x (suc k)) (mark-at j (subst (λ (m : ℕ). j < m) (cells_are s) h)))

      water-in : (k : ℕ) → sum (length marks) (λ j. mass-by (get_or marks j 0) a.masses k j) ≡ water_in s a (suc k)
      unfolding pool_water state_of
      water-in k =
          ap (λ (m : ℕ). sum m (λ j. mass-by (get_or marks j 0) a.masses k j)) (size ∙ sym (cells_are s))
          ∙ sum-cong (grid_of s).cells (λ j. mass-by (get_or marks j 0) a.masses k j) (λ j. mass-by (mark 18 (grid_of s) (flag_of a.flags) j) a.masses k j)
          (λ j h. ap (λ (x : ℕ). mass-by x a.masses k j) (mark-at j (subst (λ (m : ℕ). j < m) (cells_are s) h)))

      pub accepted : {counts : List ℕ} {waters : List ℤ} {work'' : List ℕ} → tested s a r ≡ Done → work'' ≡ replicate (cells_of s) 0
          → Listed marks a.masses n (length marks) r.counts r.waters counts waters → Asked s a r (Ok n) (room marks work'' counts waters)
      unfolding pools_answer pools_room fits
      accepted {counts} {waters} {work''} t y l =
          let e = d.number_is in
          let f : leb (count_of s a.flags) (length r.counts) ≡ true = le-leb (count_of s a.flags) (length r.counts) (omega arith) in
          let x : counts ≡ tab n (λ k. cells_in s a.flags (suc k)) ++ drop n r.counts
          = headed 0 r.counts counts n (λ k. cells_in s a.flags (suc k)) enough l.counts-size (λ k h. l.cells k h ∙ cells-in k) l.cells_rest in
          let z : waters ≡ tab n (λ k. water_in s a (suc k)) ++ drop n r.waters
          = headed (pos 0) r.waters waters n (λ k. water_in s a (suc k)) (omega (arith, enough, p.list)) l.waters-size (λ k h. l.water k h ∙ water-in k) l.water-rest in
          record {
            told_is = ap (λ (k : ℕ). Ok k) e ∙ sym (rw (t, f) refl);
            room-is =
                four d.marks-are y
                (x ∙ ap (λ (k : ℕ). tab k (λ k. cells_in s a.flags (suc k)) ++ drop k r.counts) e)
                (z ∙ ap (λ (k : ℕ). tab k (λ k. water_in s a (suc k)) ++ drop k r.waters) e)
                ∙ sym (rw (t, f) refl);
          }
        where
          four : {i i' j j' k k' : List ℕ} {m m' : List ℤ} → i ≡ i' → j ≡ j' → k ≡ k' → m ≡ m' → room i j k m ≡ room i' j' k' m'
          four u v w x t = room (u t) (v t) (w t) (x t)

-- a list cleared, by its length
pub cleared : {xs : List ℕ} {m n : ℕ} → xs ≡ replicate m 0 → m ≡ n → xs ≡ replicate n 0
cleared e h = e ∙ ap (λ (k : ℕ). replicate k 0) h

pub marks-size : {s : Sides} {flags work : List ℕ} {n : ℕ} {marks work' : List ℕ} → Finished s flags work n marks work' → length marks ≡ cells_of s
marks-size {s} {flags} d = ap length d.marks-are ∙ length-tab (cells_of s) (mark 18 (grid_of s) (flag_of flags))
