-- Nine parts at their places: where each stands, an array that a loop fills with them, and what an idle part becomes. Assumes nothing.
use mathlib.Core.Path.{◌≡◌, refl, sym, ap, ap₂, ◌∙◌}
use mathlib.Core.Bool.{false, false≢true, cond}
use mathlib.Core.List.{List}
use Prim.Native.Nat.{ℕ, zero, suc, ◌+◌, ◌/◌, ◌≤◌, ◌<◌}
use native.Mathlib.Decide.{ℕ_discrete}
use native.Mathlib.Nat.{le_of_suc-le-suc}
use native.Mathlib.Omega.{arith}
use lib.Arith.{lt_of_le-ne}
use lib.IntN.{ℤ, pos, ◌+ℤ◌, ◌*ℤ◌, *ℤ-zero}
use lib.Signed.{lt_z, shr_z}
use lib.ListN.{length, get_or, set, replicate, length-set}
use lib.Seq.{get_or-set_same, get_or-set_other}
use Rattle.whole.specs.Fold.{tab}
use Rattle.whole.specs.laws.Search.{as-dir}
use Rattle.whole.specs.laws.Tab.{upto_all, get_or-tab}
use Rattle.lattice.specs.Lattice.{V3, dot, d2q9}
use Rattle.lattice.specs.Cell.{quad, relaxed}
use Rattle.lattice.specs.inner.Held.{parts_of}
use Rattle.lattice.specs.Body.{relaxed_dir, collided_part}
use Rattle.landings.specs.inner.Estimate.{landed}
use Rattle.flume.specs.inner.Spread.{wide, narrow, idle, spread, Idle, spread_lattice}
use Rattle.flume.proofs.Places.{by-eight, by-nine, by-idle, spread_at, spread_none, is-spread, narrow_back}
use Rattle.flume.proofs.Flowing.{relaxed-none}
use Rattle.nine.specs.inner.Cells.{Quiet}

-- ---- the place of direction k
pub place-low : (k : ℕ) → k < 3 → k ≡ wide k
unfolding wide
place-low zero h = refl
place-low (suc zero) h = refl
place-low (suc (suc zero)) h = refl
place-low (suc (suc (suc k))) h = absurd (omega arith)

pub place-mid : (k : ℕ) → 3 ≤ k → k < 5 → k + 2 ≡ wide k
unfolding wide
place-mid zero h l = absurd (omega arith)
place-mid (suc zero) h l = absurd (omega arith)
place-mid (suc (suc zero)) h l = absurd (omega arith)
place-mid (suc (suc (suc zero))) h l = refl
place-mid (suc (suc (suc (suc zero)))) h l = refl
place-mid (suc (suc (suc (suc (suc k))))) h l = absurd (omega arith)

pub place-high : (k : ℕ) → 5 ≤ k → k ≤ 8 → k + 10 ≡ wide k
unfolding wide
place-high k h l =
    by-nine (λ k. 5 ≤ k → k + 10 ≡ wide k) (λ m. absurd (omega arith))
    (by-eight (λ k. 5 ≤ k → k + 10 ≡ wide k) (λ m. absurd (omega arith)) (λ m. absurd (omega arith)) (λ m. absurd (omega arith)) (λ m. absurd (omega arith)) (λ m. refl) (λ m. refl) (λ m. refl) (λ m. refl))
    k l h

not-idle : (k : ℕ) → k ≤ 8 → idle (wide k) ≡ false
unfolding wide narrow idle
not-idle = by-nine (λ k. idle (wide k) ≡ false) refl (by-eight (λ k. idle (wide k) ≡ false) refl refl refl refl refl refl refl refl)

apart : (j k : ℕ) → j ≤ 8 → k ≤ 8 → (j ≡ k → ⊥) → wide j ≡ wide k → ⊥
apart j k h l n e = n (sym (narrow_back j h) ∙ ap narrow e ∙ narrow_back k l)

idle-apart : (i k : ℕ) → Idle i → k ≤ 8 → i ≡ wide k → ⊥
idle-apart i k n l e = false≢true (sym (not-idle k l) ∙ ap idle (sym e) ∙ n.none)

-- ---- an array of nineteen that holds g's parts below k at their places, and nothing at the idle ones
pub record Filled (g : ℕ → ℤ) (v : List ℤ) (k : ℕ) : Type 0 where
  pub len : length v ≡ 19
  pub most : k ≤ 9
  pub at : (j : ℕ) → j < k → get_or v (wide j) (pos 0) ≡ g j
  pub none : (i : ℕ) → Idle i → get_or v i (pos 0) ≡ pos 0

module _ (g : ℕ → ℤ) where
  pub filled_zero : Filled g (replicate 19 (pos 0)) 0
  filled_zero = record {
    len = refl;
    most = omega arith;
    at = λ j h. absurd (omega arith);
    none = by-idle (λ i. get_or (replicate 19 (pos 0)) i (pos 0) ≡ pos 0) refl refl refl refl refl refl refl refl refl refl;
  }

  pub filled_more : (v : List ℤ) (k i : ℕ) (x : ℤ) → Filled g v k → k < 9 → i ≡ wide k → i < 19 → x ≡ g k → Filled g (set v i x) (k + 1)
  filled_more v k i x f h e l ex = record {
    len = simp length-set f.len;
    most = omega arith;
    at = λ j m. go j m (ℕ_discrete j k);
    none = λ o n. get_or-set_other v i o x (pos 0) (λ d. idle-apart o k n (omega arith) (d ∙ e)) ∙ f.none o n;
  }
    where
      go : (j : ℕ) → j < k + 1 → Dec (j ≡ k) → get_or (set v i x) (wide j) (pos 0) ≡ g j
      go j m (yes p) =
          ap (λ (n : ℕ). get_or (set v i x) n (pos 0)) (ap wide p ∙ sym e) ∙ get_or-set_same v i x (pos 0) (omega (arith, f.len)) ∙ ex ∙ ap g (sym p)
      go j m (no q) =
          let b : j < k = lt_of_le-ne (omega arith) q in
          get_or-set_other v i (wide j) x (pos 0) (λ d. apart j k (omega arith) (omega arith) q (d ∙ e)) ∙ f.at j b

  pub filled-all : (v : List ℤ) → Filled g v 9 → v ≡ tab 19 (spread (pos 0) g)
  unfolding wide
  filled-all v f = upto_all (pos 0) (spread (pos 0) g) v 19 f.len go
    where
      go : (i : ℕ) → i < 19 → get_or v i (pos 0) ≡ spread (pos 0) g i
      go zero h = f.at 0 (omega arith) ∙ sym (spread_at (pos 0) g 0 (omega arith))
      go (suc a) h = is-spread (pos 0) (λ i. get_or v i (pos 0)) g (λ k d. f.at k (omega (arith, d.most))) f.none (suc a) (as-dir (le_of_suc-le-suc h))

-- an array of nineteen with nothing at the idle places is the one that its nine parts fill
pub quiet_all : (v r : List ℤ) → length v ≡ 19 → Quiet v → Filled (λ (j : ℕ). get_or v (wide j) (pos 0)) r 9 → r ≡ v
unfolding wide
quiet_all v r e q f = filled-all (λ (j : ℕ). get_or v (wide j) (pos 0)) r f ∙ sym (upto_all (pos 0) (spread (pos 0) (λ (j : ℕ). get_or v (wide j) (pos 0))) v 19 e go)
  where
    go : (i : ℕ) → i < 19 → get_or v i (pos 0) ≡ spread (pos 0) (λ (j : ℕ). get_or v (wide j) (pos 0)) i
    go zero h = sym (spread_at (pos 0) (λ (j : ℕ). get_or v (wide j) (pos 0)) 0 (omega arith))
    go (suc a) h = is-spread (pos 0) (λ i. get_or v i (pos 0)) (λ (j : ℕ). get_or v (wide j) (pos 0)) (λ k d. refl) q.at (suc a) (as-dir (le_of_suc-le-suc h))

-- ---- an idle part: it lands at 0, where stage 4 leaves it
pub landed_none : (c : ℤ) → landed 0 (pos 0) c ≡ pos 0
unfolding landed
landed_none c =
    ap (λ (t : ℤ). cond (lt_z (shr_z (pos (0 / 4294967296) +ℤ t) 1024) (pos 0)) (shr_z (pos (0 / 4294967296) +ℤ t) 1024 +ℤ pos 1) (shr_z (pos (0 / 4294967296) +ℤ t) 1024)) (*ℤ-zero c)

pub idle-stays : (ρ : ℤ) (j : V3) (p : ℤ) (f : ℕ → ℤ) (i : ℕ) → Idle i → f i ≡ pos 0 → relaxed_dir spread_lattice ρ j p f i ≡ pos 0
unfolding relaxed_dir
idle-stays ρ j p f i n e =
    let Q = quad ρ (dot (spread_lattice.e i) j) (dot j j) in
    ap₂ (λ (w : ℕ) (x : ℤ). relaxed p w Q ρ x) (spread_none 0 d2q9.weight i n) e ∙ relaxed-none p Q ρ

-- so what a collision makes of parts with nothing at the idle places has nothing there either
pub quiet-collided : (ρ : ℤ) (j : V3) (p : ℤ) (f r : List ℤ) → Quiet f → r ≡ tab 19 (collided_part spread_lattice ρ j p (parts_of f)) → Quiet r
unfolding collided_part idle narrow
quiet-collided ρ j p f r q e = record { at = go }
  where
    go : (i : ℕ) → Idle i → parts_of r i ≡ pos 0
    go zero n = absurd (false≢true n.none)
    go (suc a) n =
        ap (λ (x : List ℤ). get_or x (suc a) (pos 0)) e ∙ get_or-tab 19 (collided_part spread_lattice ρ j p (parts_of f)) (pos 0) (suc a) (omega (arith, n.low))
        ∙ idle-stays ρ j p (parts_of f) (suc a) n (q.at (suc a) n)
