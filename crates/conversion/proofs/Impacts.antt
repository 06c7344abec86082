-- What a collision leaves of a cell that passed test 7 is in range: each part of a direction far below 2^25, and part 0 far below 2^30. Assumes nothing.
use mathlib.Core.Path.{◌≡◌, sym, ap, ◌∙◌, subst}
use mathlib.Core.List.{[]}
use mathlib.Core.Bool.{Bool, true, false, ◌&&◌, not, false≢true}
use Prim.Native.Nat.{ℕ, zero, suc, ◌-◌, ◌+◌, ◌*◌, ◌≤◌, ◌<◌}
use native.Mathlib.Nat.{mul-le-mul}
use native.Mathlib.Omega.{arith}
use lib.IntN.{ℤ, pos, nat_abs, ◌+ℤ◌, ◌-ℤ◌, ◌*ℤ◌}
use lib.Signed.{quot_z}
use lib.ListN.{length, get_or}
use borrow.Author.Tests.{not-false}
use Rattle.lattice.specs.Body.{collided_part, relaxed_dir}
use Rattle.whole.specs.laws.Bounds.{abs-add, abs-sub, abs-mul, abs-above}
use Rattle.whole.specs.Fold.{dirs, first, Dir}
use Rattle.whole.specs.laws.Machine.{Within}
use Rattle.whole.specs.laws.Search.{as-dir, first-none}
use Rattle.whole.specs.laws.Sums.{sum-abs}
use Rattle.lattice.specs.Lattice.{V3, dot, d3q19}
use Rattle.lattice.specs.Cell.{dense, slow, quad, relaxed}
use Rattle.lattice.specs.inner.Held.{Tame, steady_flow}
use Rattle.lattice.specs.declared.Flow.{Flow}
use Rattle.lattice.proofs.Ranges.{relaxation-in}
use Rattle.lattice.proofs.Paired.{paired19}
use Rattle.lattice.proofs.Reading.{quot-abs}
use Rattle.lattice.proofs.Tame.{steady-tame}
use Rattle.grid.specs.State.{Scene, liquid}
use Rattle.grid.specs.Step.{streamed, streamed_density, streamed_momentum, unsteady, collided_dir, collided}
use Rattle.grid.specs.inner.Passes.{Amid}
use Rattle.grid.specs.inner.Sight.{weighing, Around, Bodies, sight}
use Rattle.flow.proofs.Modes.{relax-good}
use Rattle.flow.proofs.Collisions.{relaxation-of}
use Rattle.flow.proofs.Plain.{axial19, streamed-same}
use Rattle.arrivals.proofs.Spans.{light-low, streamed-in}
use Rattle.conversion.proofs.Amounts.{inner-cell}
use Rattle.conversion.proofs.Field.{Field, scene_in, Standing}

-- a product of two numbers in range
times-in : (a b : ℤ) (m n : ℕ) → nat_abs a ≤ m → nat_abs b ≤ n → nat_abs (a *ℤ b) ≤ m * n
times-in a b m n h k = omega (arith, abs-mul a b, mul-le-mul h k)

-- ---- numbers alone
quad-in : (ρ ej jj : ℤ) → nat_abs ρ ≤ 1179648 → nat_abs ej ≤ 1179648 → nat_abs jj ≤ 463856467968 → nat_abs (quad ρ ej jj) ≤ 26000000000000
unfolding quad
quad-in ρ ej jj h k l =
    omega (
      arith,
      abs-sub (pos 2 *ℤ (ρ *ℤ ρ) +ℤ pos 6 *ℤ (ρ *ℤ ej) +ℤ pos 9 *ℤ (ej *ℤ ej)) (pos 3 *ℤ jj),
      abs-add (pos 2 *ℤ (ρ *ℤ ρ) +ℤ pos 6 *ℤ (ρ *ℤ ej)) (pos 9 *ℤ (ej *ℤ ej)),
      abs-add (pos 2 *ℤ (ρ *ℤ ρ)) (pos 6 *ℤ (ρ *ℤ ej)),
      abs-mul (pos 2) (ρ *ℤ ρ),
      abs-mul (pos 6) (ρ *ℤ ej),
      abs-mul (pos 9) (ej *ℤ ej),
      abs-mul (pos 3) jj,
      times-in ρ ρ 1179648 1179648 h h,
      times-in ρ ej 1179648 1179648 h k,
      times-in ej ej 1179648 1179648 k k,
    )

relaxed-in : (p : ℤ) (w : ℕ) (Q ρ f : ℤ) → nat_abs p ≤ 2037 → w ≤ 4 → nat_abs Q ≤ 26000000000000 → 294912 ≤ nat_abs ρ → nat_abs ρ ≤ 1179648 → nat_abs f ≤ 1572864
    → nat_abs (relaxed p w Q ρ f) ≤ 33554432
unfolding relaxed
relaxed-in p w Q ρ f hp hw h_q low hρ hf =
    let n = pos w *ℤ Q -ℤ pos 72 *ℤ (ρ *ℤ f) in
    let inner : nat_abs n ≤ 282120883699712 =
    omega (arith, abs-sub (pos w *ℤ Q) (pos 72 *ℤ (ρ *ℤ f)), times-in (pos w) Q 4 26000000000000 hw h_q, abs-mul (pos 72) (ρ *ℤ f), times-in ρ f 1179648 1572864 hρ hf) in
    let top : nat_abs (p *ℤ n) ≤ 574680240096313344 = omega (arith, times-in p n 2037 282120883699712 hp inner) in
    let bottom : 21743271936 ≤ nat_abs (pos 73728 *ℤ ρ) = omega (arith, abs-mul (pos 73728) ρ) in
    let q : nat_abs (quot_z (p *ℤ n) (pos 73728 *ℤ ρ)) ≤ 26430255 = quot-abs (p *ℤ n) (pos 73728 *ℤ ρ) 574680240096313344 21743271936 top (omega arith) bottom in
    omega (arith, abs-add f (quot_z (p *ℤ n) (pos 73728 *ℤ ρ)))

-- e·j, of a direction
along-in : (j : V3) (i : ℕ) → Dir 18 i → nat_abs j.x ≤ 393216 → nat_abs j.y ≤ 393216 → nat_abs j.z ≤ 393216 → nat_abs (dot (d3q19.e i) j) ≤ 1179648
unfolding d3q19
along-in j i d hx hy hz =
    let e = d3q19.e i in
    omega (
      arith,
      abs-add (e.x *ℤ j.x +ℤ e.y *ℤ j.y) (e.z *ℤ j.z),
      abs-add (e.x *ℤ j.x) (e.y *ℤ j.y),
      times-in e.x j.x 1 393216 (paired19.ex i d).small hx,
      times-in e.y j.y 1 393216 (paired19.ey i d).small hy,
      times-in e.z j.z 1 393216 (paired19.ez i d).small hz,
    )

square-in : (j : V3) → nat_abs j.x ≤ 393216 → nat_abs j.y ≤ 393216 → nat_abs j.z ≤ 393216 → nat_abs (dot j j) ≤ 463856467968
square-in j hx hy hz =
    omega (
      arith,
      abs-add (j.x *ℤ j.x +ℤ j.y *ℤ j.y) (j.z *ℤ j.z),
      abs-add (j.x *ℤ j.x) (j.y *ℤ j.y),
      times-in j.x j.x 393216 393216 hx hx,
      times-in j.y j.y 393216 393216 hy hy,
      times-in j.z j.z 393216 393216 hz hz,
    )

passes : (l d s : Bool) → l ≡ true → (l && not (d && s)) ≡ false → (d && s) ≡ true
passes l d s h e = not-false (d && s) (subst (λ (b : Bool). (b && not (d && s)) ≡ false) h e)

-- ---- a liquid cell of a good state that passed test 7
module _ (F : Field) (r : Standing F) (t : F.cells ≤ first F.cells (unsteady (scene_in F))) (c : ℕ) (h : c < F.cells) (l : liquid (get_or F.flags c 3) ≡ true) where
  abbrev S : Scene
  S = scene_in F

  inside : Amid F.cells F.low c
  inside = inner-cell F r c h (λ e. false≢true (sym (ap liquid e) ∙ l))

  abbrev seen : Scene
  seen = sight F.weights F.flags F.part [] F.fills F.off F.low F.g

  near : (i : ℕ) → i ≤ d3q19.q → S.grid.near c i ≡ seen.grid.near c i
  unfolding sight d3q19
  near i d = sym (r.place c i inside (omega arith))

  around : Around (length F.flags) F.off F.low c
  around =
      subst (λ (n : ℕ). Around n F.off F.low c) (sym r.count)
      (record {
        is-cell = h;
        from = inside.from;
        each = λ i k. subst (λ (m : ℕ). m < F.cells) (sym (r.place c i inside k)) (r.near-low c i inside k);
        self = r.place c 0 inside (omega arith) ∙ r.self c;
      })

  bodies : Bodies F.flags F.part
  bodies = record { few = subst (λ (n : ℕ). n ≤ 262144) (sym r.count) r.few; body = λ d k. r.body d (subst (λ (n : ℕ). d < n) r.count k) }

  stream-in : (k : ℕ) → k ≤ 18 → Within (streamed S c k) 1572864
  unfolding sight d3q19
  stream-in k m =
      subst (λ (z : ℤ). Within z 1572864)
      (sym (streamed-same (weighing F.weights) paired19.dir axial19 S.grid seen.grid S.old.flag S.old.part S.old.fill c near
      S.old.mass seen.old.mass S.old.carry seen.old.carry S.g seen.g S.relax seen.relax k m))
      (streamed-in F.weights r.light F.flags F.part F.fills F.off F.low F.g bodies c around l k m)

  -- density and momentum as a flow
  flow : Flow
  flow = record { rho = streamed_density S c; x = (streamed_momentum S c).x; y = (streamed_momentum S c).y; z = (streamed_momentum S c).z }

  tame : Tame flow
  unfolding flow steady_flow unsteady
  tame =
      steady-tame flow
      (passes (liquid (get_or F.flags c 3)) (dense (streamed_density S c)) (slow (streamed_density S c) (dot (streamed_momentum S c) (streamed_momentum S c))) l
      (first-none F.cells (unsteady S) t c h))

  dir-in : (i : ℕ) → Dir 18 i → nat_abs (collided_dir S c i) ≤ 33554432
  unfolding relaxed_dir flow
  dir-in i d =
      relaxed-in (S.relax c) (F.weights i) _ (streamed_density S c) (streamed S c i) (relaxation-in (S.relax c) (relax-good F.g.turbulent _ F.g.p c (relaxation-of F.g r.settings))).abs (light-low r.light i d.some (omega (arith, d.most)))
      (quad-in (streamed_density S c) (dot (d3q19.e i) (streamed_momentum S c)) (dot (streamed_momentum S c) (streamed_momentum S c)) tame.rho.abs
      (along-in (streamed_momentum S c) i d tame.x.abs tame.y.abs tame.z.abs) (square-in (streamed_momentum S c) tame.x.abs tame.y.abs tame.z.abs))
      (abs-above tame.low) tame.rho.abs (stream-in i d.most).abs

  pub collided-rest : Within (collided S c 0) 1073741824
  unfolding collided collided_part flow d3q19
  collided-rest =
      record {
        abs = omega (arith, abs-sub (streamed_density S c) (dirs 18 (collided_dir S c)), tame.rho.abs, sum-abs 18 (λ b. collided_dir S c (suc b)) 33554432 (λ b k. dir-in (suc b) (as-dir k)));
      }

  pub collided-at : (k : ℕ) → 0 < k → k < 19 → Within (collided S c k) 33554432
  unfolding collided collided_part
  collided-at zero z m = absurd (omega arith)
  collided-at (suc b) z m = record { abs = dir-in (suc b) (as-dir (omega arith)) }
