-- Answered: an accepted answer has what P9 asks of it; and no second answer, and no second content of a lent slice, fits the promise. Assumes nothing.
use mathlib.Core.Path.{◌≡◌, refl, sym, ap, ◌∙◌, subst}
use mathlib.Core.Logic.{◌⊎◌, inl, inr, ⊎_elim}
use mathlib.Core.Bool.{Bool, true, false}
use mathlib.Core.List.{List, ◌++◌}
use Prim.Native.Nat.{ℕ, zero, suc, ◌-◌, ◌*◌, ◌/◌, ◌≤◌, ◌<◌}
use native.Mathlib.Omega.{arith}
use lib.IntN.{ℤ, pos, ◌+ℤ◌}
use lib.ListN.{get_or, drop, get_or-append}
use Rattle.whole.specs.Fold.{count, sum, tab}
use Rattle.whole.specs.laws.Order.{≤-or}
use Rattle.whole.specs.laws.Sums.{sum-cong}
use Rattle.whole.specs.laws.Tab.{length-tab, get_or-tab}
use Rattle.lattice.specs.Lattice.{d3q19}
use Rattle.lattice.proofs.Paired.{paired19}
use Rattle.grid.specs.declared.Sides.{Sides}
use Rattle.grid.specs.Answer.{Answer}
use Rattle.grid.specs.Answer.{Done}
use Rattle.grid.specs.Grid.{cells_of, grid_of}
use Rattle.grid.specs.State.{Lent, state_of, flag_of}
use Rattle.grid.specs.Demands.{water, water_of}
use Rattle.grid.specs.inner.Passes.{Flagged}
use Rattle.grid.proofs.Box.{grid-laid}
use Rattle.pools.specs.Pools.{start, is_lowest, lowest, pool_count, mark}
use Rattle.pools.specs.Outcome.{Told, Room, count_of, mark_of, water_in, tested, fits, by_tests, pools_answer, pools_room, Asked}
use Rattle.pools.specs.Demands.{Liquid, LowestOf, Answered}
use Rattle.pools.proofs.Counts.{count_yes, count_no}
use Rattle.pools.proofs.Chains.{Wet, lowest-is}
use Rattle.pools.proofs.Marks.{leads-wet, lowest-leads, mark-wet, mark-same, mark-apart, mark-from, mark-to, mark-dry}
use Rattle.pools.proofs.Bound.{few, quarter}
use Rattle.pools.proofs.Water.{water-holds}
use Rattle.pools.proofs.Flooding.{walled, cells_are}
use Rattle.pools.proofs.Tested.{Passed, has-passed, flagged}
use Rattle.whole.specs.laws.Counts.{count-le}
use Rattle.grid.specs.declared.refusals.Refusal.TheVariants.{BadPools}
use Rattle.std.specs.Prelude.{Ok, Err}

abbrev pub Claim : Type 0
Claim = (s : Sides) (a : Lent) (r : Room) (n : ℕ) → pools_answer s a r ≡ Ok n → Answered s a r n

-- no second answer fits
pub asked-unique : {s : Sides} {a : Lent} {r : Room} {t u : Told} {x y : Room} → Asked s a r t x → Asked s a r u y → (t ≡ u) × (x ≡ y)
asked-unique p q = (p.told_is ∙ sym q.told_is, p.room-is ∙ sym q.room-is)

-- the k-th of those that pass
found_at : (n : ℕ) (f : ℕ → Bool) (k : ℕ) → 0 < k → k ≤ count n f → (c : ℕ) × (c < n) × (f c ≡ true) × (count (suc c) f ≡ k)
unfolding count
found_at zero f k h l = absurd (omega arith)
found_at (suc n) f k h l = go (f n) refl (≤-or k (count n f)) (found_at n f k h)
  where
    go : (b : Bool) → f n ≡ b → (k ≤ count n f) ⊎ (count n f < k) → (k ≤ count n f → (c : ℕ) × (c < n) × (f c ≡ true) × (count (suc c) f ≡ k)) → (c : ℕ) × (c < suc n) × (f c ≡ true) × (count (suc c) f ≡ k)
    go b e (inl m) r = let x = r m in let y : x.0 < n = x.1 in (x.0, omega arith, x.2, x.3)
    go true e (inr m) r = (n, omega arith, e, (let q = count_yes n f e in omega (arith, q, l, m)))
    go false e (inr m) r = absurd (omega (arith, count_no n f e, l, m))

-- an answer that counts pools
counted : (x : Answer) (b : Bool) (k n : ℕ) → by_tests x b Err (Err (BadPools k)) (Ok k) ≡ Ok n → (x ≡ Done) × (b ≡ true) × (k ≡ n)
counted (Ok _) true k n e = (refl, refl, cc)
counted (Ok _) false k n e = absurd (let z : ◌≡◌ {A = ℕ} 0 1 = cc in omega arith)
counted (Err refusal) b k n e = absurd (let z : ◌≡◌ {A = ℕ} 0 1 = cc in omega arith)

module _ (s : Sides) (a : Lent) (r : Room) (n : ℕ) (e : pools_answer s a r ≡ Ok n) where
  ways : (tested s a r ≡ Done) × (fits s a r ≡ true) × (count_of s a.flags ≡ n)
  unfolding pools_answer
  ways = counted (tested s a r) (fits s a r) (count_of s a.flags) n e

  pass : Passed s a r
  pass = has-passed s a r ways.0

  flags-are : Flagged s a.flags
  flags-are = flagged s a r pass

  marks-are : (pools_room s a r).marks ≡ tab (cells_of s) (mark_of s a.flags)
  unfolding pools_room
  marks-are = rw (ways.0, ways.1) refl

  waters-are : (pools_room s a r).waters ≡ tab n (λ k. water_in s a (suc k)) ++ drop n r.waters
  unfolding pools_room
  waters-are = rw (ways.0, ways.1) (ap (λ (m : ℕ). tab m (λ k. water_in s a (suc k)) ++ drop m r.waters) ways.2)

  mark-at : (c : ℕ) → c < cells_of s → get_or (pools_room s a r).marks c 0 ≡ mark 18 (grid_of s) (flag_of a.flags) c
  mark-at c h = ap (λ (l : List ℕ). get_or l c 0) marks-are ∙ get_or-tab (cells_of s) (mark 18 (grid_of s) (flag_of a.flags)) 0 c h

  abbrev Wets : ℕ → Type 0
  Wets c = Wet d3q19 (grid_of s) (flag_of a.flags) paired19 (grid-laid s) (walled flags-are) c

  wet : (c : ℕ) → c < cells_of s → Liquid a c → Wets c
  wet c h l = record { is-cell = subst (λ (m : ℕ). c < m) (sym (cells_are s)) h; is-liquid = l }

  abbrev leads : ℕ → Bool
  leads c = is_lowest 18 (grid_of s) (flag_of a.flags) c

  -- the lowest cell of a pool passes the definition's test
  leads-at : {k c : ℕ} → LowestOf s a r k c → leads c ≡ true
  unfolding d3q19
  leads-at {k} {c} l =
      let w = wet c l.is-cell l.is-liquid in
      let x = lowest-is d3q19 (grid_of s) (flag_of a.flags) paired19 (grid-laid s) (walled flags-are) w in
      lowest-leads d3q19 (grid_of s) (flag_of a.flags) paired19 (grid-laid s) (walled flags-are) w (same (x.least c start) (l.least (lowest 18 (grid_of s) (flag_of a.flags) c) x.chain))
    where
      same : {x y : ℕ} → x ≤ y → y ≤ x → x ≡ y
      same h k = omega arith

  -- its mark counts the lowest cells up to it
  mark-of : (c : ℕ) → c < cells_of s → leads c ≡ true → mark 18 (grid_of s) (flag_of a.flags) c ≡ count (suc c) leads
  unfolding d3q19
  mark-of c h t =
      let x = leads-wet d3q19 (grid_of s) (flag_of a.flags) paired19 (grid-laid s) (walled flags-are) (subst (λ (m : ℕ). c < m) (sym (cells_are s)) h) t in
      mark-wet d3q19 (grid_of s) (flag_of a.flags) paired19 (grid-laid s) (walled flags-are) x.0 ∙ ap (λ (l : ℕ). count (suc l) leads) x.1

  count_at : {k c : ℕ} → LowestOf s a r k c → count (suc c) leads ≡ k
  count_at {k} {c} l = sym (mark-of c l.is-cell (leads-at l)) ∙ sym (mark-at c l.is-cell) ∙ l.is-marked

  number : count_of s a.flags ≡ count (grid_of s).cells leads
  unfolding pool_count
  number = refl

  each : (k : ℕ) → 0 < k → k ≤ n → (c : ℕ) × LowestOf s a r k c
  unfolding d3q19
  each k h l =
      let f = found_at (grid_of s).cells leads k h (subst (λ (m : ℕ). k ≤ m) (sym ways.2 ∙ number) l) in
      let c : f.0 < cells_of s = subst (λ (m : ℕ). f.0 < m) (cells_are s) f.1 in
      let x = leads-wet d3q19 (grid_of s) (flag_of a.flags) paired19 (grid-laid s) (walled flags-are) f.1 f.2 in
      let y = lowest-is d3q19 (grid_of s) (flag_of a.flags) paired19 (grid-laid s) (walled flags-are) x.0 in (
        f.0,
        record {
          is-cell = c;
          is-liquid = x.0.is-liquid;
          is-marked = mark-at f.0 c ∙ mark-of f.0 c f.2 ∙ f.3;
          least = λ d t. subst (λ (m : ℕ). m ≤ d) x.1 (y.least d t);
        },
      )

  in_order : (k l c d : ℕ) → LowestOf s a r k c → LowestOf s a r l d → k < l → c < d
  in_order k l c d x y h =
      ⊎_elim (λ (m : d ≤ c). absurd (omega (arith, count_at x, count_at y, count-le leads (suc d) (suc c) (up m)))) (λ (m : c < d). m) (≤-or d c)
    where
      up : {x y : ℕ} → x ≤ y → suc x ≤ suc y
      up h = omega arith

  waters-at : (k : ℕ) → k < n → get_or (pools_room s a r).waters k (pos 0) ≡ water_in s a (suc k)
  waters-at k h =
      ap (λ (l : List ℤ). get_or l k (pos 0)) waters-are
      ∙ get_or-append (tab n (λ k. water_in s a (suc k))) (drop n r.waters) (pos 0) k (subst (λ (m : ℕ). k < m) (sym (length-tab n (λ k. water_in s a (suc k)))) h)
      ∙ get_or-tab n (λ k. water_in s a (suc k)) (pos 0) k h

  water-adds : sum n (λ k. get_or (pools_room s a r).waters k (pos 0)) +ℤ get_or a.carry 0 (pos 0) ≡ water_of s a
  unfolding d3q19 state_of water_of
  water-adds =
      ap (λ (z : ℤ). z +ℤ get_or a.carry 0 (pos 0))
      (sum-cong n (λ k. get_or (pools_room s a r).waters k (pos 0)) (λ k. water_in s a (suc k)) waters-at ∙ ap (λ (m : ℕ). sum m (λ k. water_in s a (suc k))) (sym ways.2))
      ∙ water-holds d3q19 (grid_of s) (state_of 18 a) paired19 (grid-laid s) (walled flags-are)
      ∙ ap (λ (m : ℕ). water m (state_of 18 a)) (cells_are s)

  pub answered : Answered s a r n
  unfolding d3q19
  answered = record {
    joined_same = λ c d h k x y j. mark-at c h ∙ mark-same d3q19 (grid_of s) (flag_of a.flags) paired19 (grid-laid s) (walled flags-are) (wet c h x) j ∙ sym (mark-at d k);
    same-joined = λ c d h k x y q. mark-apart d3q19 (grid_of s) (flag_of a.flags) paired19 (grid-laid s) (walled flags-are) (wet c h x) (wet d k y) (sym (mark-at c h) ∙ q ∙ mark-at d k);
    from_one = λ c h x. subst (λ (m : ℕ). 0 < m) (sym (mark-at c h)) (mark-from d3q19 (grid_of s) (flag_of a.flags) paired19 (grid-laid s) (walled flags-are) (wet c h x));
    to-all = λ c h. subst (λ (m : ℕ). m ≤ n) (sym (mark-at c h)) (subst (λ (m : ℕ). mark 18 (grid_of s) (flag_of a.flags) c ≤ m) ways.2
        (mark-to d3q19 (grid_of s) (flag_of a.flags) paired19 (grid-laid s) (walled flags-are) c (subst (λ (m : ℕ). c < m) (sym (cells_are s)) h)));
    others = λ c h x. mark-at c h ∙ mark-dry d3q19 (grid_of s) (flag_of a.flags) paired19 (grid-laid s) (walled flags-are) c x;
    each = each;
    in_order = in_order;
    water = water-adds;
    few = subst (λ (m : ℕ). m ≤ (s.nx - 1) * (s.ny - 1) * (s.nz - 1) / 4) ways.2 (quarter s (flag_of a.flags) pass.set.sides (walled flags-are));
    two_bytes = subst (λ (m : ℕ). m < 65536) ways.2 (few s (flag_of a.flags) pass.set.sides (walled flags-are));
  }

pub answered-holds : Claim
answered-holds = answered
