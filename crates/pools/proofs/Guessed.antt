-- Guessed: a guess at every cell's lowest cell that passes a test which can be computed is right, and so is the outcome worked out from it. So the
-- worked figures are computed, which the definition by chains is not meant for. The test wants a way down: a liquid cell is its own lowest or has a
-- liquid neighbour of a lower number, and all its liquid neighbours have the same guess. Assumes nothing.
use mathlib.Core.Path.{◌≡◌, refl, sym, ap, ◌∙◌, subst}
use mathlib.Core.Logic.{◌⊎◌, inl, inr}
use mathlib.Core.Bool.{Bool, true, false, ◌&&◌, ◌||◌, not, cond, true≢false}
use mathlib.Core.List.{List, ◌++◌}
use Prim.Native.Nat.{ℕ, zero, suc, ◌≤◌, ◌<◌}
use native.Mathlib.Omega.{arith}
use lib.Dec.{eqb, leb, ltb}
use lib.IntN.{ℤ, pos}
use lib.ListN.{length, drop, replicate}
use borrow.Author.Tests.{eqb-true, leb-true, ltb-true, not-true}
use Rattle.whole.specs.laws.Bools.{and_left, and_right, and-true, or_cases, where-then, cond_no}
use Rattle.whole.specs.Fold.{all, any_dir, count, sum, tab}
use Rattle.whole.specs.laws.Search.{any-dir, any_where, all-at}
use Rattle.whole.specs.laws.Sums.{sum-cong}
use Rattle.whole.specs.laws.Tab.{tab-cong}
use Rattle.lattice.specs.Lattice.{Lattice, d3q19}
use Rattle.lattice.proofs.Paired.{Paired, paired19}
use Rattle.grid.specs.declared.Sides.{Sides}
use Rattle.grid.specs.Answer.{Answer}
use Rattle.grid.specs.Answer.{Done}
use Rattle.grid.specs.Grid.{Grid, cells_of, grid_of}
use Rattle.grid.specs.State.{Lent, liquid, state_of, flag_of}
use Rattle.grid.specs.Demands.{Walled}
use Rattle.grid.proofs.Laid.{Laid}
use Rattle.grid.proofs.Box.{grid-laid}
use Rattle.pools.specs.Pools.{Chain, start, then, lowest, is_lowest, pool_count, mark, pool_cells, pool_water}
use Rattle.pools.specs.Outcome.{Told, Room, room, mark_of, cells_in, water_in, tested, fits, by_tests, pools_answer, pools_room}
use Rattle.pools.proofs.Chains.{Wet, wet-end, chain-on, lowest-is}
use Rattle.pools.proofs.Flooding.{walled, cells_are}
use Rattle.pools.proofs.Tested.{has-passed, flagged}
use Rattle.whole.specs.laws.Counts.{count-cong}
use Rattle.grid.specs.declared.refusals.Refusal.TheVariants.{BadPools}
use Rattle.std.specs.Prelude.{Ok, Err}

-- ---- the test, and what is worked out from a guess

module _ (q : ℕ) (G : Grid) (flag low : ℕ → ℕ) where
  -- c is its own lowest cell, or a liquid neighbour has a lower number
  unfoldable pub goes_down : ℕ → Bool
  goes_down c = eqb (low c) c || any_dir q (λ i. liquid (flag (G.near c i)) && ltb (G.near c i) c)

  -- every liquid neighbour has the same guess
  unfoldable pub alike : ℕ → Bool
  alike c = not (any_dir q (λ i. liquid (flag (G.near c i)) && not (eqb (low (G.near c i)) (low c))))

  unfoldable pub guessed : Bool
  guessed = all G.cells (λ c. not (liquid (flag c)) || (leb (low c) c && goes_down c && alike c))

  unfoldable pub low_guess : ℕ → Bool
  low_guess c = liquid (flag c) && eqb (low c) c

  unfoldable pub count_guess : ℕ
  count_guess = count G.cells low_guess

  unfoldable pub mark_guess : ℕ → ℕ
  mark_guess c = cond (liquid (flag c)) (count (suc (low c)) low_guess) 0

  unfoldable pub cells_guess : ℕ → ℕ
  cells_guess k = count G.cells (λ c. eqb (mark_guess c) k)

  unfoldable pub water_guess : (ℕ → ℤ) → ℕ → ℤ
  water_guess mass k = sum G.cells (λ c. cond (eqb (mark_guess c) k) (mass c) (pos 0))

-- names every definition above: whoever unfolds this computes with all of them
unfoldable pub open-guess : Unit {0}
unfolding goes_down alike guessed low_guess count_guess mark_guess cells_guess water_guess
open-guess = tt

-- ---- a guess that passes is right

module _ (L : Lattice) (G : Grid) (flag low : ℕ → ℕ) (p : Paired L) (laid : Laid L G) (outer : Walled G flag) (passes : guessed L.q G flag low ≡ true) where
  abbrev q : ℕ
  q = L.q

  abbrev Wets : ℕ → Type 0
  Wets c = Wet L G flag p laid outer c

  here : {c : ℕ} → Wets c → (leb (low c) c && goes_down q G flag low c && alike q G flag low c) ≡ true
  unfolding guessed
  here {c} w =
      where-then (liquid (flag c)) (leb (low c) c && goes_down q G flag low c && alike q G flag low c)
      (all-at G.cells (λ c. not (liquid (flag c)) || (leb (low c) c && goes_down q G flag low c && alike q G flag low c)) passes c w.is-cell) w.is-liquid

  at_most : {c : ℕ} → Wets c → low c ≤ c
  at_most {c} w =
      leb-true (low c) c (and_left (leb (low c) c) (goes_down q G flag low c) (and_left (leb (low c) c && goes_down q G flag low c) (alike q G flag low c) (here w)))

  beside : {c : ℕ} → Wets c → (i : ℕ) → 0 < i → i ≤ q → liquid (flag (G.near c i)) ≡ true → low (G.near c i) ≡ low c
  unfolding alike
  beside {c} w i h k l = go (eqb (low (G.near c i)) (low c)) refl
    where
      none : any_dir q (λ i. liquid (flag (G.near c i)) && not (eqb (low (G.near c i)) (low c))) ≡ false
      none = not-true _ (and_right (leb (low c) c && goes_down q G flag low c) (alike q G flag low c) (here w))

      go : (b : Bool) → eqb (low (G.near c i)) (low c) ≡ b → low (G.near c i) ≡ low c
      go true e = eqb-true (low (G.near c i)) (low c) e
      go false e =
          absurd (true≢false (sym (any-dir q (λ i. liquid (flag (G.near c i)) && not (eqb (low (G.near c i)) (low c))) i (record { some = h; most = k })
          (and-true (liquid (flag (G.near c i))) (not (eqb (low (G.near c i)) (low c))) l (ap not e))) ∙ none))

  -- the way down leads to the guess
  down : (n c : ℕ) → c < n → Wets c → Chain q G flag c (low c)
  unfolding goes_down
  down zero c h w = absurd (omega arith)
  down (suc n) c h w = go (or_cases (eqb (low c) c) (any_dir q (λ i. liquid (flag (G.near c i)) && ltb (G.near c i) c)) way) (λ d l v. down n d (omega (arith, h, l)) v)
    where
      way : (eqb (low c) c || any_dir q (λ i. liquid (flag (G.near c i)) && ltb (G.near c i) c)) ≡ true
      way = and_right (leb (low c) c) (goes_down q G flag low c) (and_left (leb (low c) c && goes_down q G flag low c) (alike q G flag low c) (here w))

      go : (eqb (low c) c ≡ true) ⊎ (any_dir q (λ i. liquid (flag (G.near c i)) && ltb (G.near c i) c) ≡ true)
          → ((d : ℕ) → d < c → Wets d → Chain q G flag d (low d)) → Chain q G flag c (low c)
      go (inl e) r = subst (λ (m : ℕ). Chain q G flag c m) (sym (eqb-true (low c) c e)) start
      go (inr e) r =
          let v = any_where q (λ a. liquid (flag (G.near c (suc a))) && ltb (G.near c (suc a)) c) e in
          let i = suc v.0 in
          let d = G.near c i in
          let l = and_left (liquid (flag d)) (ltb d c) v.2 in
          let s : Chain q G flag c d = then start i (omega arith) v.1 refl l in
          chain-on q G flag s
          (subst (λ (m : ℕ). Chain q G flag d m) (beside w i (omega arith) v.1 l)
          (r d (ltb-true d c (and_right (liquid (flag d)) (ltb d c) v.2)) (wet-end L G flag p laid outer w s)))

  -- a chain keeps the guess
  along : {c d : ℕ} → Wets c → Chain q G flag c d → low d ≡ low c
  along w start = refl
  along w (then r i h k e l) =
      ap low (sym e) ∙ beside (wet-end L G flag p laid outer w r) i h k (subst (λ (m : ℕ). liquid (flag m) ≡ true) (sym e) l) ∙ along w r

  right : {c : ℕ} → Wets c → lowest q G flag c ≡ low c
  right {c} w =
      let x = lowest-is L G flag p laid outer w in
      let h : lowest q G flag c ≤ low c = x.least (low c) (down (suc c) c (omega arith) w) in
      omega (arith, h, at_most x.wet, along w x.chain)

  lows : (c : ℕ) → c < G.cells → is_lowest q G flag c ≡ low_guess q G flag low c
  unfolding is_lowest low_guess
  lows c h = go (liquid (flag c)) refl
    where
      go : (b : Bool) → liquid (flag c) ≡ b → (liquid (flag c) && eqb (lowest q G flag c) c) ≡ (liquid (flag c) && eqb (low c) c)
      go true e = ap (λ (m : ℕ). liquid (flag c) && eqb m c) (right (record { is-cell = h; is-liquid = e }))
      go false e = ap (λ (t : Bool). t && eqb (lowest q G flag c) c) e ∙ sym (ap (λ (t : Bool). t && eqb (low c) c) e)

  pub counts : pool_count q G flag ≡ count_guess q G flag low
  unfolding pool_count count_guess
  counts = count-cong G.cells (is_lowest q G flag) (low_guess q G flag low) lows

  pub marks : (c : ℕ) → c < G.cells → mark q G flag c ≡ mark_guess q G flag low c
  unfolding mark mark_guess
  marks c h = go (liquid (flag c)) refl
    where
      go : (b : Bool) → liquid (flag c) ≡ b
          → cond (liquid (flag c)) (count (suc (lowest q G flag c)) (is_lowest q G flag)) 0 ≡ cond (liquid (flag c)) (count (suc (low c)) (low_guess q G flag low)) 0
      go true e =
          let w : Wets c = record { is-cell = h; is-liquid = e } in
          ap (λ (n : ℕ). cond (liquid (flag c)) n 0)
          (ap (λ (l : ℕ). count (suc l) (is_lowest q G flag)) (right w)
          ∙ count-cong (suc (low c)) (is_lowest q G flag) (low_guess q G flag low) (λ a k. lows a (omega (arith, k, at_most w, h))))
      go false e = cond_no _ 0 e ∙ sym (cond_no _ 0 e)

  pub cells : (k : ℕ) → pool_cells q G flag k ≡ cells_guess q G flag low k
  unfolding pool_cells cells_guess
  cells k =
      count-cong G.cells (λ c. eqb (mark q G flag c) k) (λ c. eqb (mark_guess q G flag low c) k) (λ c h. ap (λ (m : ℕ). eqb m k) (marks c h))

  pub waters : (mass : ℕ → ℤ) (k : ℕ) → pool_water q G flag mass k ≡ water_guess q G flag low mass k
  unfolding pool_water water_guess
  waters mass k =
      sum-cong G.cells (λ c. cond (eqb (mark q G flag c) k) (mass c) (pos 0)) (λ c. cond (eqb (mark_guess q G flag low c) k) (mass c) (pos 0))
      (λ c h. ap (λ (m : ℕ). cond (eqb m k) (mass c) (pos 0)) (marks c h))

-- ---- the outcome of a lent set that passes tests 1 to 6, from a guess

module _ (s : Sides) (a : Lent) (r : Room) (low : ℕ → ℕ) where
  abbrev flag : ℕ → ℕ
  flag = flag_of a.flags

  abbrev pub number : ℕ
  number = count_guess 18 (grid_of s) flag low

  unfoldable pub told_guess : Told
  told_guess = by_tests Done (leb number (length r.counts)) Err (Err (BadPools number)) (Ok number)

  unfoldable pub room_guess : Room
  room_guess =
      by_tests Done (leb number (length r.counts)) (λ refusal. r)
      (room (replicate (cells_of s) 0) (replicate (cells_of s) 0) r.counts r.waters)
      (room (tab (cells_of s) (mark_guess 18 (grid_of s) flag low)) (replicate (cells_of s) 0)
      (tab number (λ k. cells_guess 18 (grid_of s) flag low (suc k)) ++ drop number r.counts)
      (tab number (λ k. water_guess 18 (grid_of s) flag low (state_of 18 a).mass (suc k)) ++ drop number r.waters))

  pub record Right : Type 0 where
    pub told_is : pools_answer s a r ≡ told_guess
    pub room-is : pools_room s a r ≡ room_guess

  pub guess-right : tested s a r ≡ Done → guessed 18 (grid_of s) flag low ≡ true → Right
  unfolding d3q19 pools_answer pools_room told_guess room_guess fits
  guess-right done passes =
      let outer = walled (flagged s a r (has-passed s a r done)) in
      let n = counts d3q19 (grid_of s) flag low paired19 (grid-laid s) outer passes in
      let m : tab (cells_of s) (mark_of s a.flags) ≡ tab (cells_of s) (mark_guess 18 (grid_of s) flag low)
      = tab-cong (cells_of s) (mark_of s a.flags) (mark_guess 18 (grid_of s) flag low) 0
      (λ c h. marks d3q19 (grid_of s) flag low paired19 (grid-laid s) outer passes c (subst (λ (k : ℕ). c < k) (sym (cells_are s)) h)) in
      let c : tab number (λ k. cells_in s a.flags (suc k)) ≡ tab number (λ k. cells_guess 18 (grid_of s) flag low (suc k))
      = tab-cong number (λ k. cells_in s a.flags (suc k)) (λ k. cells_guess 18 (grid_of s) flag low (suc k)) 0 (λ k h. cells d3q19 (grid_of s) flag low paired19 (grid-laid s) outer passes (suc k)) in
      let w : tab number (λ k. water_in s a (suc k)) ≡ tab number (λ k. water_guess 18 (grid_of s) flag low (state_of 18 a).mass (suc k))
      = tab-cong number (λ k. water_in s a (suc k)) (λ k. water_guess 18 (grid_of s) flag low (state_of 18 a).mass (suc k)) (pos 0)
      (λ k h. waters d3q19 (grid_of s) flag low paired19 (grid-laid s) outer passes (state_of 18 a).mass (suc k)) in
      record {
        told_is = ap (λ (k : ℕ). by_tests (tested s a r) (leb k (length r.counts)) Err (Err (BadPools k)) (Ok k)) n
            ∙ ap (λ (x : Answer). by_tests x (leb number (length r.counts)) Err (Err (BadPools number)) (Ok number)) done;
        room-is =
            ap (λ (k : ℕ). by_tests (tested s a r) (leb k (length r.counts)) (λ refusal. r)
            (room (replicate (cells_of s) 0) (replicate (cells_of s) 0) r.counts r.waters)
            (room (tab (cells_of s) (mark_of s a.flags)) (replicate (cells_of s) 0)
            (tab k (λ k. cells_in s a.flags (suc k)) ++ drop k r.counts)
            (tab k (λ k. water_in s a (suc k)) ++ drop k r.waters))) n
            ∙ three m c w
            ∙ ap (λ (x : Answer). by_tests x (leb number (length r.counts)) (λ refusal. r)
            (room (replicate (cells_of s) 0) (replicate (cells_of s) 0) r.counts r.waters)
            (room (tab (cells_of s) (mark_guess 18 (grid_of s) flag low)) (replicate (cells_of s) 0)
            (tab number (λ k. cells_guess 18 (grid_of s) flag low (suc k)) ++ drop number r.counts)
            (tab number (λ k. water_guess 18 (grid_of s) flag low (state_of 18 a).mass (suc k)) ++ drop number r.waters))) done;
      }
    where
      three : {m m' c c' : List ℕ} {w w' : List ℤ} → m ≡ m' → c ≡ c' → w ≡ w'
          → by_tests (tested s a r) (leb number (length r.counts)) (λ refusal. r)
          (room (replicate (cells_of s) 0) (replicate (cells_of s) 0) r.counts r.waters)
          (room m (replicate (cells_of s) 0) (c ++ drop number r.counts) (w ++ drop number r.waters))
          ≡ by_tests (tested s a r) (leb number (length r.counts)) (λ refusal. r)
          (room (replicate (cells_of s) 0) (replicate (cells_of s) 0) r.counts r.waters)
          (room m' (replicate (cells_of s) 0) (c' ++ drop number r.counts) (w' ++ drop number r.waters))
      three u v x i =
          by_tests (tested s a r) (leb number (length r.counts)) (λ refusal. r)
          (room (replicate (cells_of s) 0) (replicate (cells_of s) 0) r.counts r.waters)
          (room (u i) (replicate (cells_of s) 0) (v i ++ drop number r.counts) (x i ++ drop number r.waters))
