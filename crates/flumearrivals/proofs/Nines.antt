-- Nine stored parts among the nineteen places: where a part lies, the pairs of directions, the weights, and that nothing is at an idle place. Assumes nothing.
use mathlib.Core.Path.{◌≡◌, refl, sym, ap, ◌∙◌, subst}
use mathlib.Core.Logic.{◌⊎◌, inl, inr, ⊎_elim}
use mathlib.Core.Bool.{Bool, true, ◌&&◌, ◌||◌}
use mathlib.Core.List.{List, []}
use Prim.Native.Nat.{ℕ, zero, suc, ◌+◌, ◌-◌, ◌*◌, ◌%◌, ◌≤◌, ◌<◌}
use native.Mathlib.Nat.{le_of_suc-le-suc}
use native.Mathlib.Omega.{arith}
use lib.Dec.{leb}
use lib.IntN.{ℤ, pos, nat_abs, -ℤ-+ℤ_cancel}
use lib.ListN.{get_or, set}
use lib.Seq.{set_comm}
use borrow.Author.Tests.{leb-true}
use Rattle.whole.specs.laws.Bools.{and_left, and_right, or_cases}
use Rattle.whole.specs.Fold.{all, tab, dirs, open-fold}
use Rattle.whole.specs.laws.Search.{all-at, as-dir}
use Rattle.whole.specs.laws.Sums.{sum-cong, sum_first}
use Rattle.whole.specs.laws.Tab.{get_or-tab, tab-cong}
use Rattle.lattice.specs.Lattice.{V3, pair_opp, d3q19, density, open-lattice}
use Rattle.lattice.specs.inner.Held.{parts_of}
use Rattle.lattice.specs.Body.{relaxed_dir, collided_part}
use Rattle.lattice.specs.declared.Settings.{Settings}
use Rattle.grid.specs.Step.{streamed}
use Rattle.grid.specs.inner.Sight.{sight}
use Rattle.arrivals.specs.inner.Sources.{Mirrored}
use Rattle.arrivals.proofs.Spans.{Light}
use Rattle.flume.specs.inner.Spread.{wide, narrow, idle, spread, spread_lattice, Idle}
use Rattle.flume.proofs.Places.{by-eight, by-nine, spread_at, spread_none, is-spread}
use Rattle.flume.proofs.Flowing.{streamed-none}
use Rattle.nine.specs.inner.Cells.{part_of9, Quiet}
use Rattle.nine.proofs.Places.{Filled, filled_more}
use Rattle.flumearrivals.specs.inner.Seen.{sight9, source_of9}

-- ---- where a part lies
pub part-at : (parts : List ℤ) (c k : ℕ) → k < 9 → part_of9 parts c (wide k) ≡ get_or parts (9 * c + k) (pos 0)
unfolding part_of9
part-at parts c k h = spread_at (pos 0) (λ j. get_or parts (9 * c + j) (pos 0)) k (le_of_suc-le-suc h)

pub part_none : (parts : List ℤ) (c i : ℕ) → Idle i → part_of9 parts c i ≡ pos 0
unfolding part_of9
part_none parts c i n = spread_none (pos 0) (λ j. get_or parts (9 * c + j) (pos 0)) i n

-- ---- a pair of directions stands at a pair of places
pub record Paired (k : ℕ) : Type 0 where
  pub next : wide (k + 1) ≡ wide k + 1
  pub odd : wide k % 2 ≡ 1
  pub low : wide k < 18

-- pair number p of the four, and the place of its second
pub nth-pair : (p : ℕ) → p < 4 → Paired (2 * p + 1)
unfolding wide
nth-pair zero h = record { next = refl; odd = refl; low = omega arith }
nth-pair (suc zero) h = record { next = refl; odd = refl; low = omega arith }
nth-pair (suc (suc zero)) h = record { next = refl; odd = refl; low = omega arith }
nth-pair (suc (suc (suc zero))) h = record { next = refl; odd = refl; low = omega arith }
nth-pair (suc (suc (suc (suc p)))) h = absurd (omega arith)

pub nth-second : (p i : ℕ) → p < 4 → i ≡ wide (2 * p + 1) → i + 1 < 19
nth-second p i h e = omega (arith, (nth-pair p h).low, e)

pub place-low : (k : ℕ) → k < 9 → wide k < 19
unfolding wide
place-low k h =
    by-nine (λ k. wide k < 19) (omega arith) (by-eight (λ k. wide k < 19) (omega arith) (omega arith) (omega arith) (omega arith) (omega arith) (omega arith) (omega arith) (omega arith)) k (le_of_suc-le-suc h)

-- ---- an axis has weight 4, any other direction at most 2
abbrev e-long : ℕ → ℕ
e-long i = nat_abs (d3q19.e i).x + nat_abs (d3q19.e i).y + nat_abs (d3q19.e i).z

light-test : ℕ → Bool
light-test i = (leb (spread_lattice.weight i) 4 && leb (e-long i) 1) || leb (spread_lattice.weight i) 2

light-tests : all 18 (λ a. light-test (suc a)) ≡ true
unfolding open-fold open-lattice spread narrow idle light-test
light-tests = refl

pub light9 : Light spread_lattice.weight
unfolding light-test
light9 = record { each = go }
  where
    go : (i : ℕ) → 0 < i → i < 19 → ((spread_lattice.weight i ≤ 4) × (e-long i ≤ 1)) ⊎ (spread_lattice.weight i ≤ 2)
    go zero z h = absurd (omega arith)
    go (suc a) z h =
        let i = suc a in
        ⊎_elim
        (λ t. inl (leb-true _ _ (and_left (leb (spread_lattice.weight i) 4) _ t), leb-true _ _ (and_right (leb (spread_lattice.weight i) 4) _ t)))
        (λ t. inr (leb-true _ _ t))
        (or_cases (leb (spread_lattice.weight i) 4 && leb (e-long i) 1) (leb (spread_lattice.weight i) 2) (all-at 18 (λ a. light-test (suc a)) light-tests a (le_of_suc-le-suc h)))

-- ---- what streams in: nothing at an idle place
module _ (flags : List ℕ) (parts : List ℤ) (fills off : List ℕ) (low : ℕ) (g : Settings) (c : ℕ) where
  pub idle-streamed : (i : ℕ) → Idle i → streamed (sight9 flags parts [] fills off low g) c i ≡ pos 0
  unfolding sight
  idle-streamed i n = streamed-none _ _ _ _ (part_none parts) c i n

  -- the nine that stream in, at their places
  pub streamed-spread : (f : ℕ → ℤ) → ((k : ℕ) → k < 9 → f k ≡ streamed (sight9 flags parts [] fills off low g) c (wide k))
      → tab 19 (spread (pos 0) f) ≡ tab 19 (streamed (sight9 flags parts [] fills off low g) c)
  unfolding wide
  streamed-spread f e = tab-cong 19 _ _ (pos 0) go
    where
      go : (i : ℕ) → i < 19 → spread (pos 0) f i ≡ streamed (sight9 flags parts [] fills off low g) c i
      go zero h = spread_at (pos 0) f 0 (omega arith) ∙ e 0 (omega arith)
      go (suc a) h =
          sym (is-spread (pos 0) (streamed (sight9 flags parts [] fills off low g) c) f (λ k d. sym (e k (omega (arith, d.most)))) idle-streamed (suc a) (as-dir (le_of_suc-le-suc h)))

  -- read into an array
  pub quiet-streamed : (x : List ℤ) → x ≡ tab 19 (streamed (sight9 flags parts [] fills off low g) c) → Quiet x
  quiet-streamed x e = record {
    at = λ i n. ap (λ (y : List ℤ). get_or y i (pos 0)) e ∙ get_or-tab 19 (streamed (sight9 flags parts [] fills off low g) c) (pos 0) i (omega (arith, n.low)) ∙ idle-streamed i n;
  }

-- ---- a loop that stores a pair a turn, the second first
pub filled-pair : (g : ℕ → ℤ) (v : List ℤ) (k n i : ℕ) (x y : ℤ) → Filled g v k → Paired k → k + 1 < 9 → n ≡ k + 2 → i ≡ wide k → y ≡ g k → x ≡ g (k + 1) → Filled g (set (set v (i + 1) x) i y) n
filled-pair g v k n i x y f p h s e ey ex =
    let first = filled_more g v k i y f (omega arith) e (omega (arith, p.low, e)) ey in
    let both = filled_more g (set v i y) (k + 1) (i + 1) x first h (ap (λ (n : ℕ). n + 1) e ∙ sym p.next) (omega (arith, p.low, e)) ex in
    subst (λ (l : List ℤ). Filled g l n) (set_comm v i (i + 1) y x (λ e. omega arith))
    (subst (λ (n : ℕ). Filled g (set (set v i y) (i + 1) x) n) (omega arith) both)

-- ---- places
pub source_is : (off : List ℕ) (low k i : ℕ) → Mirrored off low → k < 9 → i ≡ wide k → 9 * (low + low - get_or off i 0) + k ≡ source_of9 off k
unfolding source_of9
source_is off low k i m h e = rw e (omega (arith, m.pair (wide k) (place-low k h)))

pub at_source : (off : List ℕ) (low c k : ℕ) → 9 * (c - low) + source_of9 off k ≡ 9 * (c - low + get_or off (pair_opp (wide k)) 0) + k
unfolding source_of9
at_source off low c k = omega arith

-- ---- what a collision leaves adds up to the density that it was given
pub density-made : (ρ : ℤ) (j : V3) (p : ℤ) (f r : List ℤ) → r ≡ tab 19 (collided_part spread_lattice ρ j p (parts_of f)) → density d3q19 (parts_of r) ≡ ρ
unfolding density collided_part d3q19
density-made ρ j p f r e =
    sum-cong 19 (parts_of r) (collided_part spread_lattice ρ j p (parts_of f)) (λ k h. ap (λ (x : List ℤ). get_or x k (pos 0)) e ∙ get_or-tab 19 (collided_part spread_lattice ρ j p (parts_of f)) (pos 0) k h)
    ∙ sum_first 18 (collided_part spread_lattice ρ j p (parts_of f)) ∙ -ℤ-+ℤ_cancel ρ (dirs 18 (relaxed_dir spread_lattice ρ j p (parts_of f)))
