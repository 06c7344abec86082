-- What is asked of a lattice, that opposite directions are paired, and that D3Q19 and D2Q9 have it, each by one test that antt computes. Assumes nothing.
use mathlib.Core.Path.{◌≡◌, refl, sym, ap, ◌∙◌, subst}
use mathlib.Core.Bool.{Bool, true, false, ◌&&◌, false≢true}
use Prim.Native.Nat.{ℕ, zero, suc, pred, ◌≤◌, ◌<◌}
use native.Mathlib.Nat.{lt_irrefl, suc-pred-eq_of_pos, suc_inj}
use lib.IntN.{ℤ, pos, negsuc, neg_ℤ, nat_abs}
use lib.Dec.{leb, ltb, eqb}
use borrow.Author.Tests.{leb-true, ltb-true, eqb-true}
use Rattle.whole.specs.laws.Bools.{and_left, and_right}
use Rattle.whole.specs.Fold.{all, dirs, open-fold, Dir}
use Rattle.whole.specs.laws.Search.{as-dir, all-at}
use Rattle.whole.specs.laws.Sums.{sum-cong, sum-paired}
use Rattle.lattice.specs.Lattice.{Lattice, d3q19, d2q9, open-lattice}

-- b is the opposite of the unit step a
pub record Turned (a b : ℤ) : Type 0 where
  pub small : nat_abs a ≤ 1
  pub turned : b ≡ neg_ℤ a

-- the opposite of a direction is a direction, whose opposite it is, with the opposite vector and the same weight
pub record Paired (L : Lattice) : Type 0 where
  pub dir : (i : ℕ) → Dir L.q i → Dir L.q (L.opp i)
  pub twice : (i : ℕ) → Dir L.q i → L.opp (L.opp i) ≡ i
  pub ex : (i : ℕ) → Dir L.q i → Turned (L.e i).x (L.e (L.opp i)).x
  pub ey : (i : ℕ) → Dir L.q i → Turned (L.e i).y (L.e (L.opp i)).y
  pub ez : (i : ℕ) → Dir L.q i → Turned (L.e i).z (L.e (L.opp i)).z
  pub same : (i : ℕ) → Dir L.q i → L.weight (L.opp i) ≡ L.weight i

-- ---- the test

unfoldable same_z : ℤ → ℤ → Bool
same_z (pos a) (pos b) = eqb a b
same_z (pos a) (negsuc b) = false
same_z (negsuc a) (pos b) = false
same_z (negsuc a) (negsuc b) = eqb a b

same_z-true : (a b : ℤ) → same_z a b ≡ true → a ≡ b
unfolding same_z
same_z-true (pos a) (pos b) e = ap pos (eqb-true a b e)
same_z-true (pos a) (negsuc b) e = absurd (false≢true e)
same_z-true (negsuc a) (pos b) e = absurd (false≢true e)
same_z-true (negsuc a) (negsuc b) e = ap negsuc (eqb-true a b e)

unfoldable turned_test : ℤ → ℤ → Bool
turned_test a b = leb (nat_abs a) 1 && same_z b (neg_ℤ a)

turned-true : (a b : ℤ) → turned_test a b ≡ true → Turned a b
unfolding turned_test
turned-true a b e = record {
  small = leb-true (nat_abs a) 1 (and_left (leb (nat_abs a) 1) (same_z b (neg_ℤ a)) e);
  turned = same_z-true b (neg_ℤ a) (and_right (leb (nat_abs a) 1) (same_z b (neg_ℤ a)) e);
}

unfoldable dir_test : Lattice → ℕ → Bool
dir_test L i = ltb 0 (L.opp i) && leb (L.opp i) L.q

unfoldable axis_test : Lattice → ℕ → Bool
axis_test L i =
    turned_test (L.e i).x (L.e (L.opp i)).x && (turned_test (L.e i).y (L.e (L.opp i)).y && turned_test (L.e i).z (L.e (L.opp i)).z)

unfoldable test : Lattice → ℕ → Bool
test L i = dir_test L i && (eqb (L.opp (L.opp i)) i && (axis_test L i && eqb (L.weight (L.opp i)) (L.weight i)))

-- each of the four tests that are joined
pub four : (a b c d : Bool) → (a && (b && (c && d))) ≡ true → (a ≡ true) × (b ≡ true) × (c ≡ true) × (d ≡ true)
four true true true d e = (refl, refl, refl, e)
four true true false d e = absurd (false≢true e)
four true false c d e = absurd (false≢true e)
four false b c d e = absurd (false≢true e)

three : (a b c : Bool) → (a && (b && c)) ≡ true → (a ≡ true) × (b ≡ true) × (c ≡ true)
three true true c e = (refl, refl, e)
three true false c e = absurd (false≢true e)
three false b c e = absurd (false≢true e)

paired : (L : Lattice) → all L.q (λ a. test L (suc a)) ≡ true → Paired L
unfolding test dir_test axis_test
paired L t = record {
  dir = λ i d. record {
    some = ltb-true 0 (L.opp i) (and_left (ltb 0 (L.opp i)) (leb (L.opp i) L.q) (at i d).0);
    most = leb-true (L.opp i) L.q (and_right (ltb 0 (L.opp i)) (leb (L.opp i) L.q) (at i d).0);
  };
  twice = λ i d. eqb-true (L.opp (L.opp i)) i (at i d).1;
  ex = λ i d. turned-true (L.e i).x (L.e (L.opp i)).x (axes i d).0;
  ey = λ i d. turned-true (L.e i).y (L.e (L.opp i)).y (axes i d).1;
  ez = λ i d. turned-true (L.e i).z (L.e (L.opp i)).z (axes i d).2;
  same = λ i d. eqb-true (L.weight (L.opp i)) (L.weight i) (at i d).3;
}
  where
    holds : (i : ℕ) → Dir L.q i → test L i ≡ true
    holds zero d = absurd (lt_irrefl zero d.some)
    holds (suc a) d = all-at L.q (λ b. test L (suc b)) t a d.most

    at : (i : ℕ) → Dir L.q i → (dir_test L i ≡ true) × (eqb (L.opp (L.opp i)) i ≡ true) × (axis_test L i ≡ true) × (eqb (L.weight (L.opp i)) (L.weight i) ≡ true)
    at i d = four (dir_test L i) (eqb (L.opp (L.opp i)) i) (axis_test L i) (eqb (L.weight (L.opp i)) (L.weight i)) (holds i d)

    axes : (i : ℕ) → Dir L.q i → (turned_test (L.e i).x (L.e (L.opp i)).x ≡ true) × (turned_test (L.e i).y (L.e (L.opp i)).y ≡ true) × (turned_test (L.e i).z (L.e (L.opp i)).z ≡ true)
    axes i d =
        three (turned_test (L.e i).x (L.e (L.opp i)).x) (turned_test (L.e i).y (L.e (L.opp i)).y) (turned_test (L.e i).z (L.e (L.opp i)).z) (at i d).2

-- ---- the two lattices

pub paired19 : Paired d3q19
unfolding open-fold open-lattice test dir_test axis_test turned_test same_z
paired19 = paired d3q19 refl

pub paired9 : Paired d2q9
unfolding open-fold open-lattice test dir_test axis_test turned_test same_z
paired9 = paired d2q9 refl

-- ---- a sum over the directions in the order of any pairing of them, and of the opposites

pub dirs-paired : (q : ℕ) (ν : ℕ → ℕ) → ((i : ℕ) → Dir q i → Dir q (ν i)) → ((i : ℕ) → Dir q i → ν (ν i) ≡ i) → (h : ℕ → ℤ)
    → dirs q (λ i. h (ν i)) ≡ dirs q h
dirs-paired q ν dir two h =
    sum-cong q (λ a. h (ν (suc a))) (λ a. h (suc (σ a))) (λ a k. ap h (sym (up a k))) ∙ sum-paired q σ (λ b. h (suc b)) low twice
  where
    σ : ℕ → ℕ
    σ a = pred (ν (suc a))

    up : (a : ℕ) → a < q → suc (σ a) ≡ ν (suc a)
    up a k = suc-pred-eq_of_pos (dir (suc a) (as-dir k)).some

    low : (a : ℕ) → a < q → σ a < q
    low a k = subst (λ (m : ℕ). m ≤ q) (sym (up a k)) (dir (suc a) (as-dir k)).most

    twice : (a : ℕ) → a < q → σ (σ a) ≡ a
    twice a k = suc_inj (up (σ a) (low a k) ∙ ap ν (up a k) ∙ two (suc a) (as-dir k))

pub dirs-opp : (L : Lattice) → Paired L → (h : ℕ → ℤ) → dirs L.q (λ i. h (L.opp i)) ≡ dirs L.q h
dirs-opp L p h = dirs-paired L.q L.opp p.dir p.twice h
