-- Stage 6 over lists is stage 6 of the step's scene: weights, excess, gifts, what is received, what strays and what settles, one law each. Assumes nothing.
use mathlib.Core.Path.{◌≡◌, refl, sym, ap, ap₂, ◌∙◌}
use mathlib.Core.Bool.{Bool, true, false, ◌&&◌, ◌||◌, not, cond, false≢true}
use mathlib.Core.List.{List, [], ◌∷◌}
use Prim.Native.Nat.{ℕ, zero, suc, ◌+◌, ◌-◌, ◌*◌, ◌≤◌, ◌<◌}
use native.Mathlib.Omega.{arith}
use lib.IntN.{ℤ, pos, neg_ℤ, ◌+ℤ◌, ◌-ℤ◌, +ℤ_idr}
use lib.Dec.{eqb}
use lib.ListN.{get_or}
use borrow.Author.Tests.{eq-eqb, eqb-true}
use Rattle.whole.specs.laws.Bools.{cond_yes}
use Rattle.whole.specs.Fold.{sum, any_dir, first, tab, Dir}
use Rattle.whole.specs.laws.Ring.{ring-by, quotes}
use Rattle.whole.specs.laws.Search.{as-dir, any-dir, any-cong}
use Rattle.whole.specs.laws.Sums.{sum-cong}
use Rattle.whole.specs.laws.Tab.{get_or-tab, tab-cong}
use Rattle.lattice.specs.Lattice.{V3, dot, d3q19, density}
use Rattle.lattice.specs.Cell.{positive, is_positive, share}
use Rattle.lattice.proofs.Paired.{paired19}
use Rattle.grid.specs.State.{Scene, by_flag}
use Rattle.grid.specs.Step.{flag_at, unsteady, traded_mass, streamed_density, collided, filled, beside_filled, emptied, beside_emptied, flag_after, new_flag, seen, normal, target, any_target, lean, lean_weight, share_weight, excess, converted, gift, to_carry, received, new_carry}
use Rattle.grid.specs.inner.Between.{moved_mass, settled_mark, born_part, gathered_mass}
use Rattle.grid.specs.inner.Passes.{seen_at, seen_beside, normal_at, Amid}
use Rattle.grid.proofs.Closed.{wall-stays}
use Rattle.grid.proofs.Moved.{density-collided}
use Rattle.grid.proofs.Same.{density-same}
use Rattle.grid.proofs.Slopes.{dot-turn}
use Rattle.excess.specs.inner.Gifts.{back, leaning_at, target_at, lean_weight_at, even_at, weight_at, density_at, excess_at, gift_at, gift_from, received_at, gathered_at, lost_at, stray_at}
use Rattle.excess.proofs.Portions.{share-cong}
use Rattle.conversion.proofs.Amounts.{marked-interface, outer-not, inner-cell}
use Rattle.conversion.proofs.Field.{Field, scene_in, Standing}

-- ---- by cases on marks alone

abbrev mark : Bool → Bool → ℕ
mark is-filled is-emptied = cond is-filled 1 (cond is-emptied 2 0)

-- a mark is 1 exactly where a cell is filled
mark-filled : (fi em : Bool) → eqb (mark fi em) 1 ≡ fi
mark-filled true em = refl
mark-filled false true = refl
mark-filled false false = refl

-- and 0 where it is not converted
mark-none : (fi em : Bool) → eqb (mark fi em) 0 ≡ not (fi || em)
mark-none true em = refl
mark-none false true = refl
mark-none false false = refl

mark-excess : (fi em : Bool) (m ρ : ℤ) → (fi || em) ≡ true → cond fi (m -ℤ ρ) m ≡ cond fi (m -ℤ ρ) (cond em m (pos 0))
mark-excess true em m ρ h = refl
mark-excess false true m ρ h = refl
mark-excess false false m ρ h = absurd (false≢true h)

given-cases : (b t : Bool) (x y : ℤ) → t ≡ true → (b ≡ true → x ≡ y) → cond (not b) (pos 0) x ≡ cond (b && t) y (pos 0)
given-cases true t x y h e = e refl ∙ sym (cond_yes y (pos 0) h)
given-cases false t x y h e = refl

stray-cases : (b t : Bool) (x y : ℤ) → (b ≡ true → x ≡ y) → cond (not b) (pos 0) (cond t (pos 0) x) ≡ cond (b && not t) y (pos 0)
stray-cases true true x y e = refl
stray-cases true false x y e = e refl
stray-cases false t x y e = refl

dot-back : (a b : V3) → dot a (back b) ≡ neg_ℤ (dot b a)
dot-back a b = ring-by (a.x ∷ a.y ∷ a.z ∷ b.x ∷ b.y ∷ b.z ∷ []) (search quotes depth 20) (search quotes depth 20) tt

lean-cases : (fi : Bool) (e n : V3) → dot e (cond fi n (back n)) ≡ cond fi (dot n e) (neg_ℤ (dot n e))
lean-cases true e n = dot-turn e n
lean-cases false e n = dot-back e n

-- a wall is a wall in the new flags as in the old
wall-cases : (f : ℕ) (bf fi em be : Bool) (fill : ℕ → ℕ) (d c : ℕ)
    → pos (fill (by_flag (flag_after f bf fi em be) d d d c)) ≡ by_flag f (pos (fill d)) (pos (fill d)) (pos (fill d)) (pos (fill c))
wall-cases zero true fi em be fill d c = refl
wall-cases zero false fi em be fill d c = refl
wall-cases (suc zero) bf true em be fill d c = refl
wall-cases (suc zero) bf false true be fill d c = refl
wall-cases (suc zero) bf false false be fill d c = refl
wall-cases (suc (suc zero)) bf fi em true fill d c = refl
wall-cases (suc (suc zero)) bf fi em false fill d c = refl
wall-cases (suc (suc (suc n))) bf fi em be fill d c = refl

gathered-cases : (b : Bool) (m x y : ℤ) → (b ≡ true → x ≡ y) → cond b (m +ℤ x) m ≡ m +ℤ cond b y (pos 0)
gathered-cases true m x y e = ap (λ (z : ℤ). m +ℤ z) (e refl)
gathered-cases false m x y e = sym (+ℤ_idr m)

-- ---- where stage 6 begins: from a good state that passed test 7, with flags, newborn parts, masses and settled marks in their places
pub record Midway (F : Field) (flags fills : List ℕ) (part : ℕ → ℕ → ℤ) (masses : List ℤ) (marks : List ℕ) : Type 0 where
  pub stands : Standing F
  pub steady : F.cells ≤ first F.cells (unsteady (scene_in F))
  pub fills-are : fills ≡ F.fills
  pub flags-are : flags ≡ tab F.cells (new_flag (scene_in F))
  pub part-is : (c k : ℕ) → c < F.cells → k ≤ 18 → part c k ≡ born_part (scene_in F) c k
  pub masses-are : masses ≡ tab F.cells (moved_mass (scene_in F))
  pub marks-are : marks ≡ tab F.cells (settled_mark (scene_in F))

-- ---- what the lists hold
module _ {F : Field} {flags fills : List ℕ} {part : ℕ → ℕ → ℤ} {masses : List ℤ} {marks : List ℕ} (w : Midway F flags fills part masses marks) where
  abbrev S : Scene
  S = scene_in F

  pub flag_is : (c : ℕ) → c < F.cells → get_or flags c 0 ≡ new_flag S c
  flag_is c h = rw w.flags-are (get_or-tab F.cells (new_flag S) 0 c h)

  flag-there : (c : ℕ) → c < F.cells → get_or flags c 3 ≡ new_flag S c
  flag-there c h = rw w.flags-are (get_or-tab F.cells (new_flag S) 3 c h)

  pub mark-is : (c : ℕ) → c < F.cells → get_or marks c 0 ≡ settled_mark S c
  mark-is c h = rw w.marks-are (get_or-tab F.cells (settled_mark S) 0 c h)

  pub mass-is : (c : ℕ) → c < F.cells → get_or masses c (pos 0) ≡ moved_mass S c
  mass-is c h = rw w.masses-are (get_or-tab F.cells (moved_mass S) (pos 0) c h)

  pub part-is : (c k : ℕ) → c < F.cells → k ≤ 18 → part c k ≡ born_part S c k
  part-is = w.part-is

  -- ---- marks
  pub filled_is : (c : ℕ) → c < F.cells → eqb (get_or marks c 0) 1 ≡ filled S c
  unfolding settled_mark
  filled_is c h = ap (λ (m : ℕ). eqb m 1) (mark-is c h) ∙ mark-filled (filled S c) (emptied S c)

  pub none_is : (c : ℕ) → c < F.cells → eqb (get_or marks c 0) 0 ≡ not (converted S c)
  unfolding settled_mark
  none_is c h = ap (λ (m : ℕ). eqb m 0) (mark-is c h) ∙ mark-none (filled S c) (emptied S c)

  pub converted-interface : (c : ℕ) → converted S c ≡ true → get_or F.flags c 3 ≡ 1
  unfolding settled_mark
  converted-interface c h = marked-interface S c (λ e. marked (filled S c) (emptied S c) h e)
    where
      marked : (fi em : Bool) → (fi || em) ≡ true → mark fi em ≡ 0 → ⊥
      marked true em h e = omega arith
      marked false true h e = omega arith
      marked false false h e = false≢true h

  pub marked-converted : (c : ℕ) → c < F.cells → (get_or marks c 0 ≡ 0 → ⊥) → converted S c ≡ true
  marked-converted c h n = go (converted S c) refl
    where
      go : (b : Bool) → converted S c ≡ b → converted S c ≡ true
      go true e = e
      go false e = absurd (n (eqb-true (get_or marks c 0) 0 (none_is c h ∙ ap not e)))

  -- ---- a cell that is inner
  abbrev off : List ℕ
  off = F.off

  abbrev low : ℕ
  low = F.low

  module _ (c : ℕ) (n : Amid F.cells F.low c) where
    near-low : (i : ℕ) → i < 19 → F.grid.near c i < F.cells
    near-low i h = w.stands.near-low c i n h

    pub target_is : (k : ℕ) → k < 19 → target_at flags off (c - low) k ≡ target S c k
    unfolding target_at target
    target_is k h = ap (λ (x : ℕ). eqb x 1) (ap (λ (j : ℕ). get_or flags j 0) (w.stands.place c k n h) ∙ flag_is (F.grid.near c k) (near-low k h))

    pub any-target-is : any_dir 18 (target_at flags off (c - low)) ≡ any_target S c
    unfolding any_target d3q19
    any-target-is = any-cong 18 (λ b. target_at flags off (c - low) (suc b)) (λ b. target S c (suc b)) (λ b k. target_is (suc b) (omega arith))

    own-place : c - low + get_or off 0 0 ≡ c
    own-place = w.stands.place c 0 n (omega arith) ∙ w.stands.self c

    fill-seen : (i : ℕ) → i < 19 → seen_beside flags fills off (c - low) i ≡ seen S c (F.grid.near c i)
    unfolding seen_at seen new_flag
    fill-seen i h =
        let d = F.grid.near c i in
        ap₂ (λ (j m : ℕ). pos (get_or fills (seen_at flags m j) 0)) (w.stands.place c i n h) own-place
        ∙ ap₂ (λ (f : ℕ) (l : List ℕ). pos (get_or l (by_flag f d d d c) 0)) (flag-there d (near-low i h)) w.fills-are
        ∙ wall-cases (flag_at S d) (beside_filled S d) (filled S d) (emptied S d) (beside_emptied S d) (λ j. get_or F.fills j 0) d c

    normal-is : normal_at flags fills off (c - low) ≡ normal S c
    unfolding normal_at normal d3q19
    normal-is i = record {
      x = fill-seen 2 (omega arith) i -ℤ fill-seen 1 (omega arith) i;
      y = fill-seen 4 (omega arith) i -ℤ fill-seen 3 (omega arith) i;
      z = fill-seen 6 (omega arith) i -ℤ fill-seen 5 (omega arith) i;
    }

    module _ (h : c < F.cells) where
      abbrev m : ℕ
      m = get_or marks c 0

      lean-is : (k : ℕ) → dot (d3q19.e k) (leaning_at flags fills off (c - low) m) ≡ lean S c k
      unfolding leaning_at lean
      lean-is k =
          ap₂ (λ (b : Bool) (v : V3). dot (d3q19.e k) (cond b v (back v))) (filled_is c h) normal-is
          ∙ lean-cases (filled S c) (d3q19.e k) (normal S c)

      lean-weight-is : (k : ℕ) → k < 19 → lean_weight_at flags (leaning_at flags fills off (c - low) m) off (c - low) k ≡ lean_weight S c k
      unfolding lean_weight_at lean_weight
      lean-weight-is k l = ap₂ (λ (b : Bool) (z : ℤ). cond b (positive z) (pos 0)) (target_is k l) (lean-is k)

      pub weight_is : (k : ℕ) → k < 19 → weight_at flags fills off (c - low) m k ≡ share_weight S c k
      unfolding weight_at share_weight even_at d3q19
      weight_is k l i =
          cond (is_positive (sum-cong 18 (λ b. lean_weight_at flags (leaning_at flags fills off (c - low) m) off (c - low) (suc b)) (λ b. lean_weight S c (suc b)) (λ b j. lean-weight-is (suc b) (omega arith)) i))
          (lean-weight-is k l i) (cond (target_is k l i) (pos 1) (pos 0))

  -- ---- a converted cell's density, mass and excess
  module _ (c : ℕ) (h : c < F.cells) (t : converted S c ≡ true) where
    pub born-is : (k : ℕ) → born_part S c k ≡ collided S c k
    unfolding born_part
    born-is k = rw (converted-interface c t) refl

    pub density-is : density_at part c ≡ streamed_density S c
    unfolding density_at d3q19 density
    density-is = density-same d3q19 (part c) (collided S c) (λ k l. part-is c k h l ∙ born-is k) ∙ density-collided S c

    moved-is : moved_mass S c ≡ traded_mass S c
    unfolding moved_mass
    moved-is = rw (converted-interface c t) refl

    traded-is : get_or masses c (pos 0) ≡ traded_mass S c
    traded-is = mass-is c h ∙ moved-is

    pub excess-is : excess_at part masses (get_or marks c 0) c ≡ excess S c
    unfolding excess_at excess
    excess-is =
        (λ i. cond (filled_is c h i) (traded-is i -ℤ density-is i) (traded-is i))
        ∙ mark-excess (filled S c) (emptied S c) (traded_mass S c) (streamed_density S c) t

  -- ---- what cell b gives in direction k, where the neighbour is a target
  some-target : (b k : ℕ) → Dir 18 k → target S b k ≡ true → any_target S b ≡ true
  unfolding any_target d3q19
  some-target b k d e = any-dir 18 (target S b) k d e

  given_is : (b k : ℕ) → b < F.cells → converted S b ≡ true → Dir 18 k
      → gift_at flags fills part masses off low b (get_or marks b 0) k ≡ share 18 (excess S b) (share_weight S b) k
  unfolding gift_at
  given_is b zero h t d = absurd (omega (arith, d.some))
  given_is b (suc j) h t d =
      let n : Amid F.cells F.low b = inner-cell F w.stands b h (λ f. omega (arith, converted-interface b t)) in
      ap (λ (x : ℤ). share 18 x (weight_at flags fills off (b - low) (get_or marks b 0)) (suc j)) (excess-is b h t)
      ∙ share-cong 18 (excess S b) (weight_at flags fills off (b - low) (get_or marks b 0)) (share_weight S b) (λ i l. weight_is b n h (suc i) (omega arith)) j d.most

  pub gift-is : (b k : ℕ) → b < F.cells → Dir 18 k → target S b k ≡ true → gift_from flags fills part masses marks off low b k ≡ gift S b k
  unfolding gift_from gift d3q19
  gift-is b k h d e =
      ap (λ (x : Bool). cond x (pos 0) (gift_at flags fills part masses off low b (get_or marks b 0) k)) (none_is b h)
      ∙ given-cases (converted S b) (any_target S b) (gift_at flags fills part masses off low b (get_or marks b 0) k) (share 18 (excess S b) (share_weight S b) k)
      (some-target b k d e) (λ t. given_is b k h t d)

  pub taker-inner : (c : ℕ) → new_flag S c ≡ 1 → get_or F.flags c 3 ≡ 3 → ⊥
  taker-inner c e f = absurd (omega (arith, wall-stays S c f))

  opp-dir : (i : ℕ) → Dir 18 i → Dir 18 (d3q19.opp i)
  unfolding d3q19
  opp-dir i d = paired19.dir i d

  pub there_back : (c i : ℕ) → c < F.cells → new_flag S c ≡ 1 → Dir 18 i → F.grid.near (F.grid.near c i) (d3q19.opp i) ≡ c
  there_back c i h e d = w.stands.back c i h (outer-not F w.stands c h (taker-inner c e)) d

  comes_back : (c i : ℕ) → c < F.cells → new_flag S c ≡ 1 → Dir 18 i → target S (F.grid.near c i) (d3q19.opp i) ≡ true
  unfolding target
  comes_back c i h e d = ap (λ (b : ℕ). eqb (new_flag S b) 1) (there_back c i h e d) ∙ eq-eqb (new_flag S c) 1 e

  pub received_is : (c : ℕ) → c < F.cells → new_flag S c ≡ 1 → received_at flags fills part masses marks off low c ≡ received S c
  unfolding received_at received d3q19
  received_is c h e =
      sum-cong 18 (λ b. gift_from flags fills part masses marks off low (c - low + get_or off (suc b) 0) (d3q19.opp (suc b)))
      (λ b. gift S (F.grid.near c (suc b)) (d3q19.opp (suc b))) (λ b k. one (suc b) (as-dir k))
    where
      n : Amid F.cells F.low c
      n = inner-cell F w.stands c h (taker-inner c e)

      one : (i : ℕ) → Dir 18 i → gift_from flags fills part masses marks off low (c - low + get_or off i 0) (d3q19.opp i) ≡ gift S (F.grid.near c i) (d3q19.opp i)
      one i d =
          let l : i < 19 = omega (arith, d.most) in
          ap (λ (b : ℕ). gift_from flags fills part masses marks off low b (d3q19.opp i)) (w.stands.place c i n l)
          ∙ gift-is (F.grid.near c i) (d3q19.opp i) (w.stands.near-low c i n l) (opp-dir i d) (comes_back c i h e d)

  gathered-at : (c : ℕ) → c < F.cells → gathered_at flags fills part masses marks off low c ≡ gathered_mass S c
  unfolding gathered_at gathered_mass
  gathered-at c h =
      (λ i. cond (eqb (flag_is c h i) 1) (mass-is c h i +ℤ received_at flags fills part masses marks off low c) (mass-is c h i))
      ∙ gathered-cases (eqb (new_flag S c) 1) (moved_mass S c) _ _ (λ e. received_is c h (eqb-true (new_flag S c) 1 e))

  -- stage 6's masses
  pub gathered-is : tab F.cells (gathered_at flags fills part masses marks off low) ≡ tab F.cells (gathered_mass S)
  gathered-is = tab-cong F.cells (gathered_at flags fills part masses marks off low) (gathered_mass S) (pos 0) gathered-at

  pub stray-is : (c : ℕ) → c < F.cells → stray_at flags part masses marks off low c ≡ to_carry S c
  unfolding stray_at lost_at to_carry
  stray-is c h =
      ap (λ (x : Bool). cond x (pos 0) (lost_at flags part masses off low c (get_or marks c 0))) (none_is c h)
      ∙ by (converted S c) refl
    where
      by : (b : Bool) → converted S c ≡ b
          → cond (not b) (pos 0) (cond (any_dir 18 (target_at flags off (c - low))) (pos 0) (excess_at part masses (get_or marks c 0) c)) ≡ cond (b && not (any_target S c)) (excess S c) (pos 0)
      by true t =
          let n : Amid F.cells F.low c = inner-cell F w.stands c h (λ f. omega (arith, converted-interface c t)) in
          ap₂ (λ (x : Bool) (y : ℤ). cond x (pos 0) y) (any-target-is c n) (excess-is c h t) ∙ stray-cases true (any_target S c) (excess S c) (excess S c) (λ e. refl)
      by false t = refl

  -- the new carry
  pub carry-is : F.carry +ℤ sum F.cells (stray_at flags part masses marks off low) ≡ new_carry S
  unfolding new_carry
  carry-is = ap (λ (x : ℤ). F.carry +ℤ x) (sum-cong F.cells (stray_at flags part masses marks off low) (to_carry S) stray-is ∙ ap (λ (m : ℕ). sum m (to_carry S)) (sym w.stands.cells_are))
