-- The means over the liquid neighbours of a cell: the sums as a loop makes them, their bounds, and that a new interface cell begins with a flow that
-- collisions can take. Assumes nothing.
use mathlib.Core.Path.{◌≡◌, refl, sym, ap, ap₂, ◌∙◌, subst}
use mathlib.Core.Bool.{Bool, true, cond}
use mathlib.Core.List.{List, []}
use Prim.Native.Nat.{ℕ, zero, suc, ◌+◌, ◌-◌, ◌*◌, ◌<◌, ◌≤◌}
use native.Mathlib.Nat.{div-le_of_le-mul, le_trans, le_of_eq}
use native.Mathlib.Omega.{arith}
use lib.IntN.{ℤ, pos, negsuc, nat_abs, ◌+ℤ◌}
use lib.Signed.{◌≤ℤ◌, ◌<ℤ◌, quot_z, shr_z}
use lib.ListN.{length, get_or}
use Rattle.whole.specs.laws.Bools.{and-true}
use Rattle.whole.specs.laws.Bounds.{abs-quot}
use Rattle.whole.specs.Fold.{sum, count}
use Rattle.whole.specs.laws.Machine.{Within}
use Rattle.whole.specs.laws.Parts.{≤-parts, parts-<}
use Rattle.lattice.specs.Lattice.{V3, dot, d3q19}
use Rattle.lattice.specs.Cell.{dense, slow}
use Rattle.lattice.specs.inner.Held.{Tame, steady_flow}
use Rattle.lattice.specs.declared.Flow.{Flow}
use Rattle.lattice.specs.declared.Settings.{Settings}
use Rattle.lattice.proofs.Tame.{steady-tame}
use Rattle.grid.specs.State.{Scene, liquid}
use Rattle.grid.specs.Step.{streamed_density, streamed_momentum, liquid_near, near_sum, born_density, born_momentum}
use Rattle.grid.specs.inner.Sight.{Around, sight}
use Rattle.grid.proofs.Picked.{count-le, count-more, picked, picked_more, picked-abs, picked_low, floor-low, floor-abs}
use Rattle.conversion.specs.declared.birth.Sum.{Sum}
use Rattle.conversion.specs.inner.Born.{TestedOn, Roomy, Added, Countable, Meant, Begins}

module _ (weights : ℕ → ℕ) (flags : List ℕ) (part : ℕ → ℕ → ℤ) (fills off : List ℕ) (low : ℕ) (g : Settings) (c : ℕ) where
  abbrev S : Scene
  S = sight weights flags part [] fills off low g

  -- the neighbour in direction a + 1, and whether it is liquid
  abbrev next-to : ℕ → ℕ
  next-to a = (c - low) + get_or off (suc a) 0

  abbrev wet : ℕ → Bool
  wet a = liquid (get_or flags (next-to a) 3)

  -- of the first n directions
  pub record Summed (m : ℕ) (t : Sum) : Type 0 where
    pub n : t.n ≡ pos (count m wet)
    pub rho : t.rho ≡ picked wet (λ a. streamed_density S (next-to a)) m
    pub x : t.x ≡ picked wet (λ a. (streamed_momentum S (next-to a)).x) m
    pub y : t.y ≡ picked wet (λ a. (streamed_momentum S (next-to a)).y) m
    pub z : t.z ≡ picked wet (λ a. (streamed_momentum S (next-to a)).z) m

  pub summed-none : Summed 0 (record { n = pos 0; rho = pos 0; x = pos 0; y = pos 0; z = pos 0 })
  unfolding picked sum count
  summed-none = record { n = refl; rho = refl; x = refl; y = refl; z = refl }

  summed-next : (n : ℕ) {t r : Sum} → Summed n t → Added S t (next-to n) r → Summed (n + 1) r
  unfolding sight
  summed-next n {t} s a = record {
    n = a.n ∙ ap (λ (k : ℤ). k +ℤ cond (wet n) (pos 1) (pos 0)) s.n ∙ count-more wet n;
    rho = a.rho ∙ ap (λ (k : ℤ). k +ℤ cond (wet n) (streamed_density S (next-to n)) (pos 0)) s.rho ∙ picked_more wet (λ a. streamed_density S (next-to a)) n;
    x = a.x ∙ ap (λ (k : ℤ). k +ℤ cond (wet n) (streamed_momentum S (next-to n)).x (pos 0)) s.x ∙ picked_more wet (λ a. (streamed_momentum S (next-to a)).x) n;
    y = a.y ∙ ap (λ (k : ℤ). k +ℤ cond (wet n) (streamed_momentum S (next-to n)).y (pos 0)) s.y ∙ picked_more wet (λ a. (streamed_momentum S (next-to a)).y) n;
    z = a.z ∙ ap (λ (k : ℤ). k +ℤ cond (wet n) (streamed_momentum S (next-to n)).z (pos 0)) s.z ∙ picked_more wet (λ a. (streamed_momentum S (next-to a)).z) n;
  }

  -- as the loop counts, from direction 1
  pub summed-more : (i : ℕ) {t r : Sum} → 1 ≤ i → Summed (i - 1) t → Added S t ((c - low) + get_or off i 0) r → Summed (i + 1 - 1) r
  summed-more zero h s a = absurd (omega arith)
  summed-more (suc n) {t} {r} h s a =
      let d : suc n - 1 ≡ n = omega arith in
      let u : suc n + 1 - 1 ≡ n + 1 = omega arith in
      subst (λ (m : ℕ). Summed m r) (sym u) (summed-next n (subst (λ (m : ℕ). Summed m t) d s) a)

  -- ---- bounds: stage 3 has passed, and every neighbour is a cell
  module _ (t : TestedOn weights flags part fills off low g) (around : Around (length flags) off low c) where
    tame : (a : ℕ) → a < 18 → wet a ≡ true
        → Tame (record { rho = streamed_density S (next-to a); x = (streamed_momentum S (next-to a)).x; y = (streamed_momentum S (next-to a)).y; z = (streamed_momentum S (next-to a)).z })
    unfolding steady_flow
    tame a h e =
        let k = around.each (suc a) (omega arith) in
        steady-tame _ (and-true (dense (streamed_density S (next-to a))) (slow (streamed_density S (next-to a)) (dot (streamed_momentum S (next-to a)) (streamed_momentum S (next-to a))))
        (t.is-dense (next-to a) k e) (t.is-slow (next-to a) k e))

    module _ (m : ℕ) (h : m ≤ 18) where
      pub rho-abs : nat_abs (picked wet (λ a. streamed_density S (next-to a)) m) ≤ count m wet * 1179648
      rho-abs = picked-abs wet (λ a. streamed_density S (next-to a)) 1179648 m (λ a k e. (tame a (omega arith) e).rho.abs)

      pub rho-low : pos (count m wet * 294912) ≤ℤ picked wet (λ a. streamed_density S (next-to a)) m
      rho-low = picked_low wet (λ a. streamed_density S (next-to a)) 294912 m (λ a k e. (tame a (omega arith) e).low)

      pub x-abs : nat_abs (picked wet (λ a. (streamed_momentum S (next-to a)).x) m) ≤ count m wet * 393216
      x-abs = picked-abs wet (λ a. (streamed_momentum S (next-to a)).x) 393216 m (λ a k e. (tame a (omega arith) e).x.abs)

      pub y-abs : nat_abs (picked wet (λ a. (streamed_momentum S (next-to a)).y) m) ≤ count m wet * 393216
      y-abs = picked-abs wet (λ a. (streamed_momentum S (next-to a)).y) 393216 m (λ a k e. (tame a (omega arith) e).y.abs)

      pub z-abs : nat_abs (picked wet (λ a. (streamed_momentum S (next-to a)).z) m) ≤ count m wet * 393216
      z-abs = picked-abs wet (λ a. (streamed_momentum S (next-to a)).z) 393216 m (λ a k e. (tame a (omega arith) e).z.abs)

      few : count m wet ≤ 18
      few = omega (arith, count-le wet m)

      -- what a sum of so few terms is within
      rho-in : {s : ℤ} → s ≡ picked wet (λ a. streamed_density S (next-to a)) m → Within s 21233664
      rho-in {s} e = record { abs = omega (arith, ap nat_abs e, rho-abs, few) }

      part_in : {s v : ℤ} → s ≡ v → nat_abs v ≤ count m wet * 393216 → Within s 21233664
      part_in {s} {v} e k = record { abs = omega (arith, ap nat_abs e, few) }

      wide : {s : ℤ} → Within s 21233664 → Within s 1000000000000
      wide w = record { abs = omega (arith, w.abs) }

      pub roomy : {s : Sum} → Summed m s → Roomy s
      roomy {s} e = record {
        n = record { abs = omega (arith, ap nat_abs e.n, few) };
        rho = wide (rho-in e.rho);
        x = wide (part_in e.x x-abs);
        y = wide (part_in e.y y-abs);
        z = wide (part_in e.z z-abs);
      }

      countable : {s : Sum} → Summed m s → 0 < count m wet → Countable s
      countable {s} e k = record {
        some = subst (λ (z : ℤ). pos 0 <ℤ z) (sym e.n) (parts-< (omega arith));
        rho = rho-in e.rho;
        x = part_in e.x x-abs;
        y = part_in e.y y-abs;
        z = part_in e.z z-abs;
      }

    pub countable-all : {s : Sum} → Summed 18 s → 0 < liquid_near S c → Countable s
    unfolding liquid_near sight d3q19
    countable-all e k = countable 18 (omega arith) e k

    -- ---- the flow of a new interface cell

    -- of a number that is not negative the cut mean is the floor
    cut-floor : (s : ℤ) (b n : ℕ) → pos b ≤ℤ s → quot_z s (pos n) ≡ shr_z s n
    cut-floor (pos m) b n h = refl
    cut-floor (negsuc m) b n h = absurd (omega (arith, ≤-parts h))

    pub begins : {s : Sum} {r : Flow} → Summed 18 s → Meant s r → Begins S c r
    unfolding born_density born_momentum near_sum liquid_near sight picked d3q19
    begins {s} {r} e m = record {
      rho = m.rho ∙ ap₂ quot_z e.rho e.n ∙ cut-floor (picked wet (λ a. streamed_density S (next-to a)) 18) (count 18 wet * 294912) (count 18 wet) (rho-low 18 (omega arith));
      momentum = λ i. record {
        x = (m.x ∙ ap₂ quot_z e.x e.n) i;
        y = (m.y ∙ ap₂ quot_z e.y e.n) i;
        z = (m.z ∙ ap₂ quot_z e.z e.n) i;
      };
    }

    -- a mean lies where the terms lie
    cut-abs : (s : ℤ) (k b : ℕ) → nat_abs s ≤ k * b → Within (quot_z s (pos k)) b
    cut-abs s k b l = record { abs = le_trans (le_of_eq (abs-quot s (pos k))) (div-le_of_le-mul k l) }

    pub born-tame : {r : Flow} → Begins S c r → 0 < liquid_near S c → Tame r
    unfolding born_density born_momentum near_sum liquid_near sight picked d3q19
    born-tame {r} e k = record {
      low = subst (λ (z : ℤ). pos 294912 ≤ℤ z) (sym e.rho) (floor-low (picked wet (λ a. streamed_density S (next-to a)) 18) (count 18 wet) 294912 k (rho-low 18 (omega arith)));
      rho = subst (λ (z : ℤ). Within z 1179648) (sym e.rho)
          (floor-abs (picked wet (λ a. streamed_density S (next-to a)) 18) (count 18 wet) (count 18 wet * 294912) 1179648 (rho-low 18 (omega arith)) (rho-abs 18 (omega arith)));
      x = subst (λ (z : ℤ). Within z 393216) (sym (ap (λ (v : V3). v.x) e.momentum)) (cut-abs (picked wet (λ a. (streamed_momentum S (next-to a)).x) 18) (count 18 wet) 393216 (x-abs 18 (omega arith)));
      y = subst (λ (z : ℤ). Within z 393216) (sym (ap (λ (v : V3). v.y) e.momentum)) (cut-abs (picked wet (λ a. (streamed_momentum S (next-to a)).y) 18) (count 18 wet) 393216 (y-abs 18 (omega arith)));
      z = subst (λ (z : ℤ). Within z 393216) (sym (ap (λ (v : V3). v.z) e.momentum)) (cut-abs (picked wet (λ a. (streamed_momentum S (next-to a)).z) 18) (count 18 wet) 393216 (z-abs 18 (omega arith)));
    }
