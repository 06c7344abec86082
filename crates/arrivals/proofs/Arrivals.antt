-- What streams into a cell, as the code reads it: by places, by pairs of directions, by the neighbour's flag. Assumes nothing.
use mathlib.Core.Path.{◌≡◌, refl, sym, ap, ap₂, ◌∙◌, subst}
use mathlib.Core.Bool.{Bool, true, false, ◌||◌, cond, false≢true}
use mathlib.Core.List.{List, []}
use Prim.Native.Nat.{ℕ, zero, suc, ◌+◌, ◌-◌, ◌*◌, ◌%◌, ◌≤◌, ◌<◌}
use native.Mathlib.Omega.{arith}
use lib.Dec.{eqb, ltb}
use lib.IntN.{ℤ, pos, ◌-ℤ◌}
use lib.ListN.{get_or}
use borrow.Author.Tests.{eqb-true, ltb-true, ltb-false}
use Rattle.lattice.specs.Lattice.{dot, pair_opp, d3q19, density, momentum}
use Rattle.lattice.specs.Cell.{gas_pair}
use Rattle.lattice.specs.declared.Settings.{Settings}
use Rattle.grid.specs.State.{Scene, by_flag, liquid}
use Rattle.grid.specs.Step.{old_density, old_momentum, leans_to, rebuilds, rebuilt_part, arrives, streamed}
use Rattle.grid.specs.inner.Sight.{sight, Around}
use Rattle.arrivals.specs.inner.Sources.{Mirrored, source_of, Immersed}
use Rattle.arrivals.proofs.Trades.{odd-opp, even-opp}

-- ---- opposite directions: an odd one and the one after it

-- the opposite of a direction is one
pub opposite-some : (a : ℕ) → 0 < pair_opp (suc a)
opposite-some zero = omega arith
opposite-some (suc a) = go (eqb (suc a % 2) 0)
  where
    go : (b : Bool) → 0 < cond b (suc (suc (suc a))) (suc a)
    go true = omega arith
    go false = omega arith

pub opposite-most : (a : ℕ) → a < 18 → pair_opp (suc a) < 19
opposite-most a h = go (eqb (a % 2) 0) refl
  where
    go : (b : Bool) → eqb (a % 2) 0 ≡ b → cond b (suc (suc a)) a < 19
    go true e = let z : a % 2 ≡ 0 = eqb-true (a % 2) 0 e in omega arith
    go false e = omega arith

-- ---- by the neighbour's flag

wall-case : (f : ℕ) (b : Bool) (r a o : ℤ) → 2 < f → cond (by_flag f true b b false) r (by_flag f (pos 0) a a o) ≡ o
wall-case zero b r a o h = absurd (omega arith)
wall-case (suc zero) b r a o h = absurd (omega arith)
wall-case (suc (suc zero)) b r a o h = absurd (omega arith)
wall-case (suc (suc (suc n))) b r a o h = refl

-- empty, or the cell leans there
rebuilds-case : (f : ℕ) (b : Bool) (r a o : ℤ) → f ≤ 2 → (eqb f 0 || b) ≡ true → cond (by_flag f true b b false) r (by_flag f (pos 0) a a o) ≡ r
rebuilds-case zero b r a o h e = refl
rebuilds-case (suc zero) b r a o h e = rw e refl
rebuilds-case (suc (suc zero)) b r a o h e = rw e refl
rebuilds-case (suc (suc (suc n))) b r a o h e = absurd (omega arith)

liquid-case : (f : ℕ) (b : Bool) (r a o : ℤ) → f ≤ 2 → (eqb f 0 || b) ≡ false → cond (by_flag f true b b false) r (by_flag f (pos 0) a a o) ≡ a
liquid-case zero b r a o h e = absurd (false≢true (sym e))
liquid-case (suc zero) b r a o h e = rw e refl
liquid-case (suc (suc zero)) b r a o h e = rw e refl
liquid-case (suc (suc (suc n))) b r a o h e = absurd (omega arith)

-- a liquid neighbour, to which the cell does not lean
unleaning : (f : ℕ) (b : Bool) → liquid f ≡ true → b ≡ false → (f ≤ 2) × ((eqb f 0 || b) ≡ false)
unleaning zero b l e = absurd (false≢true l)
unleaning (suc zero) b l e = (omega arith, e)
unleaning (suc (suc zero)) b l e = (omega arith, e)
unleaning (suc (suc (suc n))) b l e = absurd (false≢true l)

-- neither empty nor a wall
wet : (f : ℕ) → f ≤ 2 → (f ≡ 0 → ⊥) → liquid f ≡ true
wet zero h z = absurd (z refl)
wet (suc zero) h z = refl
wet (suc (suc zero)) h z = refl
wet (suc (suc (suc n))) h z = absurd (omega arith)

-- over any parts and weights
module _ (weights : ℕ → ℕ) (flags : List ℕ) (part : ℕ → ℕ → ℤ) (fills off : List ℕ) (low : ℕ) (g : Settings) where
  abbrev S : Scene
  S = sight weights flags part [] fills off low g

  -- the neighbour in direction i
  abbrev pub beside : ℕ → ℕ → ℕ
  beside c i = (c - low) + get_or off i 0

  module _ (c b i k : ℕ) (e : b ≡ (c - low) + get_or off i 0) where
    pub arrives-wall : 2 < get_or flags b 3 → arrives S c i k ≡ part c i
    unfolding arrives rebuilds sight
    arrives-wall h = wall-case (get_or flags (beside c i) 3) (leans_to S c i) (rebuilt_part S c i) (part (beside c i) k) (part c i) (subst (λ (n : ℕ). 2 < get_or flags n 3) e h)

    pub arrives-rebuilt : get_or flags b 3 ≤ 2 → (eqb (get_or flags b 3) 0 || leans_to S c i) ≡ true
        → arrives S c i k
        ≡ gas_pair (weights i) (density d3q19 (part c)) (dot (d3q19.e i) (momentum d3q19 (part c))) (dot (momentum d3q19 (part c)) (momentum d3q19 (part c))) -ℤ part c i
    unfolding arrives rebuilds rebuilt_part old_density old_momentum sight density momentum
    arrives-rebuilt h l =
        rebuilds-case (get_or flags (beside c i) 3) (leans_to S c i) (rebuilt_part S c i) (part (beside c i) k) (part c i)
        (subst (λ (n : ℕ). get_or flags n 3 ≤ 2) e h) (subst (λ (n : ℕ). (eqb (get_or flags n 3) 0 || leans_to S c i) ≡ true) e l)

    pub arrives-liquid : get_or flags b 3 ≤ 2 → (eqb (get_or flags b 3) 0 || leans_to S c i) ≡ false → arrives S c i k ≡ part b k
    unfolding arrives rebuilds sight
    arrives-liquid h l =
        liquid-case (get_or flags (beside c i) 3) (leans_to S c i) (rebuilt_part S c i) (part (beside c i) k) (part c i)
        (subst (λ (n : ℕ). get_or flags n 3 ≤ 2) e h) (subst (λ (n : ℕ). (eqb (get_or flags n 3) 0 || leans_to S c i) ≡ false) e l)
        ∙ ap (λ (n : ℕ). part n k) (sym e)

    -- a fluid cell leans nowhere
    pub arrives-straight : get_or flags c 3 ≡ 2 → liquid (get_or flags b 3) ≡ true → arrives S c i k ≡ part b k
    unfolding leans_to sight
    arrives-straight f h =
        let l : leans_to S c i ≡ false = rw f refl in
        let u = unleaning (get_or flags b 3) (leans_to S c i) h l in
        arrives-liquid u.0 u.1

    -- at a fluid cell without an empty neighbour, from the one place or the other
    pub arrives-enclosed : get_or flags c 3 ≡ 2 → (get_or flags b 3 ≡ 0 → ⊥) → cond (ltb 2 (get_or flags b 3)) (part c i) (part b k) ≡ arrives S c i k
    arrives-enclosed f z = go (ltb 2 (get_or flags b 3)) refl
      where
        go : (t : Bool) → ltb 2 (get_or flags b 3) ≡ t → cond t (part c i) (part b k) ≡ arrives S c i k
        go true h = sym (arrives-wall (ltb-true 2 (get_or flags b 3) h))
        go false h = sym (arrives-straight f (wet (get_or flags b 3) (ltb-false 2 (get_or flags b 3) h) z))

  -- ---- part by part
  pub streamed-rest : (c : ℕ) → streamed S c 0 ≡ part c 0
  unfolding streamed sight
  streamed-rest c = refl

  pub streamed-odd : (c i : ℕ) → i % 2 ≡ 1 → streamed S c i ≡ arrives S c (i + 1) i
  unfolding streamed sight d3q19
  streamed-odd c zero h = absurd (omega arith)
  streamed-odd c (suc a) h = ap (λ (n : ℕ). arrives S c n (suc a)) (odd-opp (suc a) h)

  pub streamed-even : (c i : ℕ) → i % 2 ≡ 1 → streamed S c (i + 1) ≡ arrives S c i (i + 1)
  unfolding streamed sight d3q19
  streamed-even c i h =
      let e : i + 1 ≡ suc i = omega arith in
      ap (streamed S c) e ∙ ap₂ (λ (n m : ℕ). arrives S c n m) (ap pair_opp (sym e) ∙ even-opp i h) (sym e)

-- ---- places

pub source_is : (off : List ℕ) (low i : ℕ) → Mirrored off low → i < 19 → 19 * (low + low - get_or off i 0) + i ≡ source_of off i
unfolding source_of
source_is off low i m h = omega (arith, m.pair i h)

-- where the box's list holds the part that streams straight into cell c
pub at_source : (off : List ℕ) (low c k : ℕ) → 19 * (c - low) + source_of off k ≡ 19 * (c - low + get_or off (pair_opp k) 0) + k
unfolding source_of
at_source off low c k = omega arith

-- with liquid all around, every part comes straight from the cell opposite
module _ (weights : ℕ → ℕ) (flags : List ℕ) (part : ℕ → ℕ → ℤ) (fills off : List ℕ) (low : ℕ) (g : Settings) (m : Mirrored off low) (c : ℕ) (l : low ≤ c) (d : Immersed flags off low c) where
  pub streamed-straight : (k : ℕ) → k < 19 → part (c - low + get_or off (pair_opp k) 0) k ≡ streamed (sight weights flags part [] fills off low g) c k
  unfolding streamed sight d3q19
  streamed-straight zero h =
      let z : c - low + get_or off 0 0 ≡ c = omega (arith, m.pair 0 h) in
      ap (λ (n : ℕ). part n 0) z
  streamed-straight (suc a) h =
      sym (arrives-straight weights flags part fills off low g c (c - low + get_or off (pair_opp (suc a)) 0) (pair_opp (suc a)) (suc a) refl d.fluid
      (d.each (pair_opp (suc a)) (opposite-some a) (opposite-most a (omega arith))))

pub opposite-low : (k : ℕ) → k < 19 → pair_opp k < 19
opposite-low zero h = omega arith
opposite-low (suc a) h = opposite-most a (omega arith)

pub source-low : (n : ℕ) (off : List ℕ) (low c k : ℕ) → Around n off low c → k < 19 → 19 * (c - low) + source_of off k < 19 * n
unfolding source_of
source-low n off low c k a h = omega (arith, a.each (pair_opp k) (opposite-low k h))
