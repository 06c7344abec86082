-- Stages 3 and 4 of a cell, as the code works them out from the array of what streamed in: density, momentum, test and parts are the definitions'.
-- Assumes nothing.
use mathlib.Core.Path.{◌≡◌, refl, sym, ap, ap₂, ◌∙◌}
use mathlib.Core.Bool.{Bool, true, false, ◌&&◌, not, false≢true}
use mathlib.Core.List.{List, []}
use Prim.Native.Nat.{ℕ, zero, suc, ◌+◌, ◌*◌, ◌≤◌}
use native.Mathlib.Omega.{arith}
use lib.IntN.{ℤ, pos, nat_abs, ◌+ℤ◌, ◌-ℤ◌}
use lib.ListN.{length, get_or, replicate}
use borrow.Author.Tests.{not-true, not-false}
use Rattle.std.specs.Prelude.{Some, None}
use Rattle.whole.specs.laws.Bools.{and_left, and_right}
use Rattle.whole.specs.laws.Bounds.{abs-add}
use Rattle.whole.specs.Fold.{tab, open-fold}
use Rattle.whole.specs.laws.Machine.{Within}
use Rattle.whole.specs.laws.Sums.{sum-cong}
use Rattle.whole.specs.laws.Tab.{length-tab, get_or-tab, tab-cong}
use Rattle.lattice.specs.Lattice.{V3, dot, d3q19, density, momentum}
use Rattle.lattice.specs.Cell.{dense, slow, pull, quad, relaxed, relaxation_good, gravity_good}
use Rattle.lattice.specs.inner.Held.{parts_of, Bounded, vec, steady_flow}
use Rattle.lattice.specs.Body.{body_good, relaxed_dir, collided_part}
use Rattle.lattice.specs.declared.Flow.{Flow}
use Rattle.lattice.specs.declared.Settings.{Settings}
use Rattle.lattice.proofs.Momentum.{x-in, y-in, z-in, density-in}
use Rattle.lattice.proofs.Ranges.{weak-x, weak-y, weak-z}
use Rattle.lattice.proofs.Tame.{pull-in}
use Rattle.lattice.proofs.Paired.{paired19}
use Rattle.collision.specs.inner.Post.{Pulled}
use Rattle.turbulence.proofs.Laws.{own-cong}
use Rattle.grid.specs.State.{Scene, by_flag, liquid}
use Rattle.grid.specs.Step.{streamed, streamed_density, streamed_momentum, unsteady, collided_dir, collided}
use Rattle.grid.specs.Mode.{own_at, relax_in, before}
use Rattle.grid.specs.inner.Between.{moved_part}
use Rattle.grid.specs.Outcome.{settings_good}
use Rattle.grid.specs.inner.Sight.{weighing, sight}
use Rattle.grid.specs.inner.Pasted.{pasted}
use Rattle.grid.proofs.Blocks.{length-pasted}
use Rattle.grid.proofs.Same.{density-same, momentum-same, body_same}
use Rattle.flow.specs.declared.moving.Put.{Put}
use Rattle.flow.specs.inner.PutAt.{Passed, PutAt}
use Rattle.flow.specs.inner.Relaxed.{relaxed_by}
use Rattle.flow.proofs.Plain.{axial19, streamed-same, streamed-density-same, streamed-momentum-same}

by-liquid {ℓ} : {A : Type ℓ} (f : ℕ) (d x : A) → liquid f ≡ true → by_flag f d x x d ≡ x
by-liquid zero d x h = absurd (false≢true h)
by-liquid (suc zero) d x h = refl
by-liquid (suc (suc zero)) d x h = refl
by-liquid (suc (suc (suc n))) d x h = absurd (false≢true h)

pub by-dry {ℓ} : {A : Type ℓ} (f : ℕ) (d x y : A) → liquid f ≡ false → by_flag f d x y d ≡ d
by-dry zero d x y h = refl
by-dry (suc zero) d x y h = absurd (false≢true (sym h))
by-dry (suc (suc zero)) d x y h = absurd (false≢true (sym h))
by-dry (suc (suc (suc n))) d x y h = refl

module _ (weights : ℕ → ℕ) (flags : List ℕ) (part : ℕ → ℕ → ℤ) (fills off : List ℕ) (low : ℕ) (g : Settings) (c : ℕ) (f : List ℤ)
    (e : f ≡ tab 19 (streamed (sight weights flags part [] fills off low g) c)) where
  abbrev S : Scene
  S = sight weights flags part [] fills off low g

  pub part-is : (k : ℕ) → k ≤ 18 → parts_of f k ≡ streamed S c k
  part-is k h = ap (λ (x : List ℤ). get_or x k (pos 0)) e ∙ get_or-tab 19 _ (pos 0) k (omega arith)

  pub density-is : density d3q19 (parts_of f) ≡ streamed_density S c
  unfolding streamed_density sight d3q19 density
  density-is = density-same d3q19 (parts_of f) (streamed S c) part-is

  pub momentum-is : momentum d3q19 (parts_of f) ≡ momentum d3q19 (streamed S c)
  unfolding d3q19
  momentum-is = momentum-same d3q19 (parts_of f) (streamed S c) part-is

  -- the flow with gravity
  module _ (v w : Flow) (r : v.rho ≡ density d3q19 (parts_of f)) (j : vec v ≡ momentum d3q19 (parts_of f)) (p : Pulled v g w) where
    rho-old : v.rho ≡ streamed_density S c
    rho-old = r ∙ density-is

    vec-old : vec v ≡ momentum d3q19 (streamed S c)
    vec-old = j ∙ momentum-is

    pub rho-is : w.rho ≡ streamed_density S c
    rho-is = p.rho ∙ rho-old

    pub vec-is : vec w ≡ streamed_momentum S c
    unfolding streamed_momentum sight momentum
    vec-is t = record {
      x = (p.x ∙ ap₂ ◌+ℤ◌ (ap (λ (m : V3). m.x) vec-old) (ap (λ (z : ℤ). pull z g.gx) rho-old)) t;
      y = (p.y ∙ ap₂ ◌+ℤ◌ (ap (λ (m : V3). m.y) vec-old) (ap (λ (z : ℤ). pull z g.gy) rho-old)) t;
      z = (p.z ∙ ap₂ ◌+ℤ◌ (ap (λ (m : V3). m.z) vec-old) (ap (λ (z : ℤ). pull z g.gz) rho-old)) t;
    }

    passed : (l b : Bool) → l ≡ true → b ≡ not (l && not b)
    passed true true h = refl
    passed true false h = refl
    passed false b h = absurd (false≢true h)

    -- stage 3's test
    pub steady-is : liquid (get_or flags c 3) ≡ true → steady_flow w ≡ not (unsteady S c)
    unfolding steady_flow unsteady sight
    steady-is l =
        ap₂ (λ (x : ℤ) (m : V3). dense x && slow x (dot m m)) rho-is vec-is
        ∙ passed (liquid (get_or flags c 3)) _ l

    -- the cell's relaxation as the code has it
    abbrev pace : ℤ
    pace = relaxed_by g.turbulent (weighing weights) w.rho (vec w) g.p (parts_of f)

    abbrev plain : Scene
    plain = before (weighing weights) S.grid S.old.flag S.old.part S.old.fill S.g

    pace-in : (mode : Bool) → relaxed_by mode (weighing weights) w.rho (vec w) g.p (parts_of f) ≡ relax_in mode plain g.p c
    unfolding relaxed_by own_at sight d3q19
    pace-in false = refl
    pace-in true =
        own-cong (weighing weights) w.rho (streamed_density plain c) (vec w) (streamed_momentum plain c) g.p (parts_of f) (streamed plain c)
        (rho-is ∙ streamed-density-same (weighing weights) paired19.dir axial19 S.grid S.grid S.old.flag part S.old.fill c (λ i h. refl) S.old.mass plain.old.mass S.old.carry plain.old.carry S.g S.g S.relax plain.relax)
        (vec-is ∙ streamed-momentum-same (weighing weights) paired19.dir axial19 S.grid S.grid S.old.flag part S.old.fill c (λ i h. refl) S.old.mass plain.old.mass S.old.carry plain.old.carry S.g S.relax plain.relax)
        (λ i h. part-is i h ∙ streamed-same (weighing weights) paired19.dir axial19 S.grid S.grid S.old.flag part S.old.fill c (λ i h. refl) S.old.mass plain.old.mass S.old.carry plain.old.carry S.g S.g S.relax plain.relax i h)

    pace-is : pace ≡ S.relax c
    unfolding sight
    pace-is = pace-in g.turbulent

    along : (i : ℕ) → i ≤ 18 → relaxed_dir (weighing weights) w.rho (vec w) pace (parts_of f) i ≡ collided_dir S c i
    unfolding relaxed_dir sight
    along i h t = relaxed (pace-is t) (weights i) (quad (rho-is t) (dot (d3q19.e i) (vec-is t)) (dot (vec-is t) (vec-is t))) (rho-is t) (part-is i h t)

    -- stage 4
    pub collided-is : (k : ℕ) → k ≤ 18 → collided_part (weighing weights) w.rho (vec w) pace (parts_of f) k ≡ collided S c k
    unfolding collided_part collided sight d3q19
    collided-is zero h = ap₂ ◌-ℤ◌ rho-is (sum-cong 18 _ _ (λ a k. along (suc a) (omega arith)))
    collided-is (suc a) h = along (suc a) h

    -- ---- the cell put where it belongs
    module _ (l : liquid (get_or flags c 3) ≡ true) where
      kind {ℓ} : {A : Type ℓ} (d x : A) → by_flag (get_or flags c 3) d x x d ≡ x
      kind d x = by-liquid (get_or flags c 3) d x l

      pub is-unsteady : steady_flow w ≡ false → unsteady S c ≡ true
      is-unsteady e = not-false _ (sym (steady-is l) ∙ e)

      pub put_refused : (out : List ℤ) → steady_flow w ≡ false → PutAt S c out out None
      put_refused out e = record { kept = refl; told = is-unsteady e; parts = tt }

      module _ (x : List ℤ) (made : x ≡ tab 19 (collided_part (weighing weights) w.rho (vec w) pace (parts_of f))) where
        new-part : (k : ℕ) → k ≤ 18 → parts_of x k ≡ collided S c k
        new-part k h = ap (λ (y : List ℤ). get_or y k (pos 0)) made ∙ get_or-tab 19 _ (pos 0) k (omega arith) ∙ collided-is k h

        pub moved : x ≡ tab 19 (moved_part S c)
        unfolding moved_part sight
        moved = made ∙ tab-cong 19 _ _ (pos 0) (λ k h. collided-is k (omega arith) ∙ sym (kind (pos 0) (collided S c k)))

        fair-is : body_good d3q19 (parts_of x) ≡ body_good d3q19 (collided S c)
        unfolding body_good d3q19
        fair-is = body_same d3q19 (parts_of x) (collided S c) new-part

        pub has-passed : (b : Put) → steady_flow w ≡ true → b.rho ≡ w.rho → b.fair ≡ body_good d3q19 (parts_of x) → Passed S c b
        unfolding sight
        has-passed b e r o = record {
          steady = not-true _ (sym (steady-is l) ∙ e);
          rho = r ∙ rho-is ∙ sym (kind (pos 0) (streamed_density S c));
          fair = o ∙ fair-is ∙ sym (kind true (body_good d3q19 (collided S c)));
        }

        pub put-accepted : (before after : List ℤ) (b : Put) → 19 * c + 19 ≤ length before → after ≡ pasted before (19 * c) x
            → steady_flow w ≡ true → b.rho ≡ w.rho → b.fair ≡ body_good d3q19 (parts_of x) → PutAt S c before after (Some b)
        put-accepted before after b room put e r o = record {
          kept = ap length put ∙ length-pasted before (19 * c) x room (ap length made ∙ length-tab 19 _);
          told = has-passed b e r o;
          parts = put ∙ ap (pasted before (19 * c)) moved;
        }

-- ---- a cell that is not liquid
module _ (weights : ℕ → ℕ) (flags : List ℕ) (part : ℕ → ℕ → ℤ) (fills off : List ℕ) (low : ℕ) (g : Settings) (c : ℕ) (d : liquid (get_or flags c 3) ≡ false) where
  abbrev T : Scene
  T = sight weights flags part [] fills off low g

  pub part_none : (k : ℕ) → moved_part T c k ≡ pos 0
  unfolding moved_part sight
  part_none k = by-dry (get_or flags c 3) (pos 0) (collided T c k) (collided T c k) d

  pub none : tab 19 (moved_part T c) ≡ replicate 19 (pos 0)
  unfolding open-fold
  none = tab-cong 19 (moved_part T c) (λ k. pos 0) (pos 0) (λ k h. part_none k)

  pub steady-dry : unsteady T c ≡ false
  unfolding unsteady sight
  steady-dry = ap (λ (b : Bool). b && not (dense (streamed_density T c) && slow (streamed_density T c) (dot (streamed_momentum T c) (streamed_momentum T c)))) d

  pub passed-dry : Passed T c (record { fair = true; rho = pos 0 })
  unfolding sight
  passed-dry = record {
    steady = steady-dry;
    rho = sym (by-dry (get_or flags c 3) (pos 0) (streamed_density T c) (streamed_density T c) d);
    fair = sym (by-dry (get_or flags c 3) true (body_good d3q19 (collided T c)) (body_good d3q19 (collided T c)) d);
  }

  pub put-dry : (before after : List ℤ) → 19 * c + 19 ≤ length before → after ≡ pasted before (19 * c) (replicate 19 (pos 0))
      → PutAt T c before after (Some (record { fair = true; rho = pos 0 }))
  put-dry before after room put = record {
    kept = ap length put ∙ length-pasted before (19 * c) (replicate 19 (pos 0)) room refl;
    told = passed-dry;
    parts = put ∙ ap (pasted before (19 * c)) (sym none);
  }

-- ---- how large a flow can be

pub loosened : (f : List ℤ) (r b R B : ℕ) → Bounded f r b → r ≤ R → b ≤ B → Bounded f R B
loosened f r b R B d hr hb = record {
  rest = record { abs = omega (arith, d.rest.abs) };
  at = λ k z h. record { abs = omega (arith, (d.at k z h).abs) };
}

pub gravity-of : (g : Settings) → settings_good g ≡ true → gravity_good g.gx g.gy g.gz ≡ true
unfolding settings_good
gravity-of g s = and_right (relaxation_good g.p) (gravity_good g.gx g.gy g.gz) s

pub relaxation-of : (g : Settings) → settings_good g ≡ true → relaxation_good g.p ≡ true
unfolding settings_good
relaxation-of g s = and_left (relaxation_good g.p) (gravity_good g.gx g.gy g.gz) s

module _ (f : List ℤ) (b : Bounded f 1073741824 33554432) (v : Flow) (r : v.rho ≡ density d3q19 (parts_of f)) (j : vec v ≡ momentum d3q19 (parts_of f)) where
  pub flow-rho : Within v.rho 1700000000
  flow-rho = record { abs = omega (arith, ap nat_abs r, (density-in f b).abs) }

  pub flow-x : Within v.x 340000000
  flow-x = record { abs = omega (arith, ap (λ (m : V3). nat_abs m.x) j, (x-in f b).abs) }

  pub flow-y : Within v.y 340000000
  flow-y = record { abs = omega (arith, ap (λ (m : V3). nat_abs m.y) j, (y-in f b).abs) }

  pub flow-z : Within v.z 340000000
  flow-z = record { abs = omega (arith, ap (λ (m : V3). nat_abs m.z) j, (z-in f b).abs) }

  module _ (g : Settings) (s : settings_good g ≡ true) (w : Flow) (p : Pulled v g w) where
    more : (a t u : ℤ) → a ≡ t +ℤ u → Within t 340000000 → Within u 1700000 → Within a 400000000
    more a t u e h k = record { abs = omega (arith, ap nat_abs e, abs-add t u, h.abs, k.abs) }

    pub pulled-x : Within w.x 400000000
    pulled-x = more w.x v.x (pull v.rho g.gx) p.x flow-x (pull-in flow-rho (weak-x g.gx g.gy g.gz (gravity-of g s)))

    pub pulled-y : Within w.y 400000000
    pulled-y = more w.y v.y (pull v.rho g.gy) p.y flow-y (pull-in flow-rho (weak-y g.gx g.gy g.gz (gravity-of g s)))

    pub pulled-z : Within w.z 400000000
    pulled-z = more w.z v.z (pull v.rho g.gz) p.z flow-z (pull-in flow-rho (weak-z g.gx g.gy g.gz (gravity-of g s)))
