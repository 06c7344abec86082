-- What an interface cell takes in stage 6: each neighbour that is marked can give towards it, the sum fits, and it does not turn on the masses of cells
-- that take. Assumes nothing.
use mathlib.Core.Path.{◌≡◌, refl, sym, ap, ◌∙◌, subst}
use mathlib.Core.Bool.{Bool, true, false, ◌&&◌, not, cond, false≢true}
use mathlib.Core.List.{List}
use Prim.Native.Nat.{ℕ, suc, ◌+◌, ◌-◌, ◌≤◌, ◌<◌}
use native.Mathlib.Decide.{dec_lt}
use native.Mathlib.Nat.{mul-le-mul_right}
use native.Mathlib.Omega.{arith}
use lib.IntN.{ℤ, pos, ◌+ℤ◌, ◌-ℤ◌}
use lib.Dec.{eqb, leb, ltb}
use lib.ListN.{length, get_or}
use borrow.Author.Tests.{eq-eqb, ne_eqb, eqb-false, le-leb, lt-ltb}
use Rattle.whole.specs.laws.Bools.{cond_yes, cond_no, and-true}
use Rattle.whole.specs.Fold.{sum, any_dir, Dir}
use Rattle.whole.specs.laws.Machine.{Val, Within, v+}
use Rattle.whole.specs.laws.Search.{as-dir, any-dir}
use Rattle.whole.specs.laws.Sums.{sum-cong, sum-abs, sum-zero}
use Rattle.lattice.specs.Lattice.{d3q19}
use Rattle.lattice.specs.Cell.{share}
use Rattle.lattice.proofs.Paired.{paired19}
use Rattle.grid.specs.inner.Passes.{NextOf}
use Rattle.grid.proofs.Ranges.{Ranged, ranged, over-gap, ranged-keep}
use Rattle.excess.specs.inner.Gifts.{target_at, weight_at, density_at, excess_at, gift_at, gift_from, marked_at, received_at, gathered_at, Giver, Giving}
use Rattle.excess.proofs.Sent.{from_in}
use Rattle.excess.proofs.Readings.{held_in}

-- what the neighbour in direction a + 1 of the cell with k = c − low gives
abbrev pub sent : List ℕ → List ℕ → (ℕ → ℕ → ℤ) → List ℤ → List ℕ → List ℕ → ℕ → ℕ → ℕ → ℤ
sent flags fills part masses marks off low k a = gift_from flags fills part masses marks off low (k + get_or off (suc a) 0) (d3q19.opp (suc a))

-- what is asked of cell b to give towards direction o
abbrev pub Asked : List ℕ → List ℕ → (ℕ → Type 0) → (ℕ → ℕ → ℤ) → List ℤ → List ℕ → List ℕ → ℕ → ℕ → ℕ → Type 0
Asked flags fills Room part masses marks off low b o =
    (b < length marks) × Dir 18 o × ((get_or marks b 0 ≡ 0 → ⊥) → Giver flags fills Room part masses off low b × (target_at flags off (b - low) o ≡ true))

-- one more term of a sum that counts from 1
pub sum_more : (f : ℕ → ℤ) (i : ℕ) → 1 ≤ i → sum (i - 1) f +ℤ f (i - 1) ≡ sum (i + 1 - 1) f
unfolding sum
sum_more f i h = let e : suc (i - 1) ≡ i + 1 - 1 = omega arith in ap (λ (n : ℕ). sum n f) e

-- a call's answer is what is sent from direction i
pub sent-at : (flags fills : List ℕ) (part : ℕ → ℕ → ℤ) (masses : List ℤ) (marks off : List ℕ) (low k i o : ℕ) → 1 ≤ i → o ≡ d3q19.opp i
    → gift_from flags fills part masses marks off low (k + get_or off i 0) o ≡ sent flags fills part masses marks off low k (i - 1)
sent-at flags fills part masses marks off low k i o h e =
    let n : i ≡ suc (i - 1) = omega arith in
    ap (gift_from flags fills part masses marks off low (k + get_or off i 0)) e
    ∙ ap (λ (j : ℕ). gift_from flags fills part masses marks off low (k + get_or off j 0) (d3q19.opp j)) n

opp-dir : (i : ℕ) → Dir 18 i → Dir 18 (d3q19.opp i)
unfolding d3q19
opp-dir i d = paired19.dir i d

module _ {flags fills : List ℕ} {Room : ℕ → Type 0} {part : ℕ → ℕ → ℤ} {masses : List ℤ} {marks off : List ℕ} {low : ℕ} (g : Giving flags fills Room part masses marks off low) (c : ℕ) (h : c < length flags) (f : get_or flags c 0 ≡ 1) where
  pub asked : (i : ℕ) → Dir 18 i → Asked flags fills Room part masses marks off low (c - low + get_or off i 0) (d3q19.opp i)
  unfolding target_at
  asked i d =
      let l : c - low + get_or off i 0 < length flags = (g.taker c h f).each i (omega (arith, d.most)) in (
        subst (λ (n : ℕ). c - low + get_or off i 0 < n) (sym g.marks-there) l,
        opp-dir i d,
        λ m. (g.giver (c - low + get_or off i 0) l m, eq-eqb _ 1 (ap (λ (j : ℕ). get_or flags j 0) (g.returns c i h f d m) ∙ f)),
      )

  pub asked-of : (i o : ℕ) → Dir 18 i → o ≡ d3q19.opp i → Asked flags fills Room part masses marks off low (c - low + get_or off i 0) o
  asked-of i o d e = subst (Asked flags fills Room part masses marks off low (c - low + get_or off i 0)) (sym e) (asked i d)

  pub sent-in : (a : ℕ) → a < 18 → Within (sent flags fills part masses marks off low (c - low) a) 92012544
  sent-in a l =
      let q = asked (suc a) (as-dir l) in
      from_in flags fills part masses off low marks (c - low + get_or off (suc a) 0) (d3q19.opp (suc a)) (λ m. (q.2 m).0) q.1

  -- so far
  pub sum-in : (n : ℕ) → n ≤ 18 → Within (sum n (sent flags fills part masses marks off low (c - low))) 1656225792
  sum-in n l =
      record {
        abs = omega (arith, sum-abs n (sent flags fills part masses marks off low (c - low)) 92012544 (λ a k. (sent-in a (omega arith)).abs), mul-le-mul_right 92012544 l);
      }

  -- what stands in the code's sum, and what the neighbour in direction i gave
  abbrev pub more : (i o : ℕ) → 1 ≤ i → i < 19 → {t x : ℤ} → t ≡ sum (i - 1) (sent flags fills part masses marks off low (c - low)) → o ≡ d3q19.opp i
      → x ≡ gift_from flags fills part masses marks off low (c - low + get_or off i 0) o → Val (t +ℤ x)
  more i o z l e p u =
      v+ (held_in e (sum-in (i - 1) (omega arith))) (held_in (u ∙ sent-at flags fills part masses marks off low (c - low) i o z p) (sent-in (i - 1) (omega arith)))

  pub received-in : Within (received_at flags fills part masses marks off low c) 1656225792
  unfolding received_at
  received-in = sum-in 18 (omega arith)

-- where no neighbour is marked
pub nothing-sent : (flags fills : List ℕ) (part : ℕ → ℕ → ℤ) (masses : List ℤ) (marks off : List ℕ) (low c : ℕ) → any_dir 18 (marked_at marks off (c - low)) ≡ false
    → pos 0 ≡ received_at flags fills part masses marks off low c
unfolding received_at gift_from
nothing-sent flags fills part masses marks off low c e =
    sym (sum-zero 18 (sent flags fills part masses marks off low (c - low)) (λ a h. cond_yes (pos 0) _ (quiet a h (eqb (get_or marks (c - low + get_or off (suc a) 0) 0) 0) refl)))
  where
    quiet : (a : ℕ) → a < 18 → (t : Bool) → eqb (get_or marks (c - low + get_or off (suc a) 0) 0) 0 ≡ t → t ≡ true
    quiet a h true u = refl
    quiet a h false u = absurd (false≢true (sym e ∙ any-dir 18 (marked_at marks off (c - low)) (suc a) (as-dir h) (ap not u)))

-- ---- masses that changed at takers alone
module _ {flags fills : List ℕ} {Room : ℕ → Type 0} {part : ℕ → ℕ → ℤ} {masses₀ : List ℤ} {marks off : List ℕ} {low : ℕ} (g : Giving flags fills Room part masses₀ marks off low) (masses : List ℤ)
    (size : length masses ≡ length masses₀) (same : (j : ℕ) → j < length flags → (get_or marks j 0 ≡ 0 → ⊥) → get_or masses j (pos 0) ≡ get_or masses₀ j (pos 0)) where
  giver-still : (c : ℕ) → c < length flags → (get_or marks c 0 ≡ 0 → ⊥) → Giver flags fills Room part masses off low c
  giver-still c h m =
      let v = g.giver c h m in
      record {
        around = v.around;
        fills-there = v.fills-there;
        fills-in = v.fills-in;
        weighed = record {
          there = omega (arith, v.weighed.there, size);
          parts_in = v.weighed.parts_in;
          mass-in = subst (λ (z : ℤ). Within z 44826624) (sym (same c h m)) v.weighed.mass-in;
          density-in = v.weighed.density-in;
        };
      }

  pub giving-still : Giving flags fills Room part masses marks off low
  giving-still = record {
    masses-there = size ∙ g.masses-there;
    marks-there = g.marks-there;
    giver = giver-still;
    taker = g.taker;
    apart = g.apart;
    returns = g.returns;
  }

  from-still : (b i : ℕ) → b < length flags → gift_from flags fills part masses marks off low b i ≡ gift_from flags fills part masses₀ marks off low b i
  unfolding gift_from gift_at excess_at
  from-still b i h = go (eqb (get_or marks b 0) 0) refl
    where
      go : (t : Bool) → eqb (get_or marks b 0) 0 ≡ t
          → cond t (pos 0) (gift_at flags fills part masses off low b (get_or marks b 0) i) ≡ cond t (pos 0) (gift_at flags fills part masses₀ off low b (get_or marks b 0) i)
      go true e = refl
      go false e =
          ap (λ (z : ℤ). share 18 (cond (eqb (get_or marks b 0) 1) (z -ℤ density_at part b) z) (weight_at flags fills off (b - low) (get_or marks b 0)) i)
          (same b h (eqb-false (get_or marks b 0) 0 e))

  pub received-still : (c : ℕ) → c < length flags → get_or flags c 0 ≡ 1 → received_at flags fills part masses marks off low c ≡ received_at flags fills part masses₀ marks off low c
  unfolding received_at
  received-still c h f =
      sum-cong 18 (sent flags fills part masses marks off low (c - low)) (sent flags fills part masses₀ marks off low (c - low))
      (λ a k. from-still (c - low + get_or off (suc a) 0) (d3q19.opp (suc a)) ((g.taker c h f).each (suc a) (omega arith)))

-- ---- the loop: cells before c have taken
module _ {flags fills : List ℕ} {Room : ℕ → Type 0} {part : ℕ → ℕ → ℤ} {masses₀ : List ℤ} {marks off : List ℕ} {low : ℕ} (g : Giving flags fills Room part masses₀ marks off low) where
  abbrev pub taking : ℕ → ℤ
  taking = gathered_at flags fills part masses₀ marks off low

  pub took : (c : ℕ) → get_or flags c 0 ≡ 1 → get_or masses₀ c (pos 0) +ℤ received_at flags fills part masses₀ marks off low c ≡ taking c
  unfolding gathered_at
  took c f = sym (cond_yes _ (get_or masses₀ c (pos 0)) (eq-eqb (get_or flags c 0) 1 f))

  pub kept : (c : ℕ) → (get_or flags c 0 ≡ 1 → ⊥) → get_or masses₀ c (pos 0) ≡ taking c
  unfolding gathered_at
  kept c n = sym (cond_no _ (get_or masses₀ c (pos 0)) (ne_eqb (get_or flags c 0) 1 n))

  either : (b : Bool) (x y z : ℤ) → x ≡ z → y ≡ z → cond b x y ≡ z
  either true x y z p q = p
  either false x y z p q = q

  -- a marked cell's mass is as it was
  pub marked-still : {n : ℕ} (masses : List ℤ) (c : ℕ) → Ranged (pos 0) taking masses₀ 0 n masses c
      → (j : ℕ) → j < length flags → (get_or marks j 0 ≡ 0 → ⊥) → get_or masses j (pos 0) ≡ get_or masses₀ j (pos 0)
  marked-still {n} masses c r j h m = go (dec_lt j c)
    where
      go : Dec (j < c) → get_or masses j (pos 0) ≡ get_or masses₀ j (pos 0)
      go (yes l) = r.done j l ∙ either (leb 0 j && ltb j n) (taking j) (get_or masses₀ j (pos 0)) (get_or masses₀ j (pos 0)) (sym (kept j (λ f. m (g.apart j h f)))) refl
      go (no l) = r.rest j (omega arith)

  -- what the cells can give by the masses as they stand then
  pub giving-then : {n : ℕ} (masses : List ℤ) (c : ℕ) → Ranged (pos 0) taking masses₀ 0 n masses c → Giving flags fills Room part masses marks off low
  giving-then masses c r = giving-still g masses r.size (marked-still masses c r)

  -- the mass of cell c and what it receives, as they are read then
  abbrev pub taken-sum : (masses : List ℤ) (c : ℕ) → Ranged (pos 0) taking masses₀ 0 (length flags) masses c → c < length flags → get_or flags c 0 ≡ 1 → Within (get_or masses₀ c (pos 0)) 44826624
      → {x y : ℤ} → x ≡ get_or masses c (pos 0) → y ≡ received_at flags fills part masses marks off low c → Val (x +ℤ y)
  taken-sum masses c r h f w e u =
      v+ (held_in (e ∙ r.rest c (omega arith)) w) (held_in (u ∙ received-still g masses r.size (marked-still masses c r) c h f) (received-in g c h f))

  -- up to the next interface cell masses stay
  pub taken-on : (masses : List ℤ) (c n : ℕ) → NextOf flags (c + 1) 1 n → Ranged (pos 0) taking masses₀ 0 (length flags) masses (c + 1) → Ranged (pos 0) taking masses₀ 0 (length flags) masses n
  taken-on masses c n o r =
      over-gap (Ranged (pos 0) taking masses₀ 0 (length flags) masses) (c + 1) n o.least
      (λ j k m u. ranged-keep (pos 0) taking masses₀ 0 (length flags) masses j u (omega (arith, o.most)) (kept j (o.before j k m))) r

-- a cell of the range
pub in-range : (f : ℕ → ℤ) (old : List ℤ) (n j : ℕ) → j < n → ranged (pos 0) f old 0 n j ≡ f j
in-range f old n j h = cond_yes (f j) (get_or old j (pos 0)) (and-true (leb 0 j) (ltb j n) (le-leb 0 j (omega arith)) (lt-ltb j n h))

-- the offsets that the code has are the grid's
pub giving-as : {flags fills : List ℕ} {Room : ℕ → Type 0} {part : ℕ → ℕ → ℤ} {masses : List ℤ} {marks off off' : List ℕ} {low low' : ℕ} → off ≡ off' → low ≡ low'
    → Giving flags fills Room part masses marks off' low' → Giving flags fills Room part masses marks off low
giving-as {flags} {fills} {Room} {part} {masses} {marks} {off} {off'} {low} {low'} p q g =
    subst (λ (o : List ℕ). Giving flags fills Room part masses marks o low) (sym p) (subst (λ (n : ℕ). Giving flags fills Room part masses marks off' n) (sym q) g)
