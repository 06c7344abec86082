-- Stages 1 to 4 do not read the carry: scenes that differ in it alone agree in them. So pass 1, which is not lent the carry, can be followed by passes that
-- are. Assumes nothing.
use mathlib.Core.Path.{◌≡◌, refl, sym, ap, ◌∙◌, subst}
use mathlib.Core.Bool.{Bool, ◌&&◌, not, cond}
use mathlib.Core.List.{List}
use Prim.Native.Nat.{ℕ, zero, suc, ◌≤◌}
use lib.IntN.{ℤ, pos, ◌+ℤ◌, ◌-ℤ◌}
use Rattle.whole.specs.Fold.{dirs, tab, first}
use Rattle.lattice.specs.Body.{body_good, collided_part, relaxed_dir}
use Rattle.lattice.specs.Lattice.{V3, dot, Lattice, d3q19, density, momentum}
use Rattle.lattice.specs.Cell.{dense, slow, pull, quad, relaxed, over, under}
use Rattle.grid.specs.Grid.{Grid}
use Rattle.grid.specs.State.{Scene, by_flag, liquid}
use Rattle.grid.specs.Step.{seen, normal, old_density, old_momentum, leans_to, rebuilds, rebuilt_part, arrives, streamed, difference, traded, traded_mass, streamed_density, streamed_momentum, unsteady, collided_dir, collided}
use Rattle.grid.specs.inner.Between.{moved_part, moved_mass, first_mark}
use Rattle.passes.specs.inner.Flowed.{MovedTo}

module _ (L : Lattice) (G : Grid) (flag : ℕ → ℕ) (part : ℕ → ℕ → ℤ) (mass : ℕ → ℤ) (fill : ℕ → ℕ) (g : V3) (p : ℕ → ℤ) (k k' : ℤ) where
  abbrev A : Scene
  A = record { lat = L; grid = G; old = record { flag = flag; part = part; mass = mass; fill = fill; carry = k }; g = g; relax = p }

  abbrev B : Scene
  B = record { lat = L; grid = G; old = record { flag = flag; part = part; mass = mass; fill = fill; carry = k' }; g = g; relax = p }

  -- ---- stages 1 to 4
  streamed-is : (c d : ℕ) → streamed A c d ≡ streamed B c d
  unfolding streamed arrives seen normal leans_to rebuilds rebuilt_part old_density old_momentum
  streamed-is c zero = refl
  streamed-is c (suc a) = refl

  traded-is : (c : ℕ) → traded_mass A c ≡ traded_mass B c
  unfolding traded_mass traded difference
  traded-is c = refl

  density-is : (c : ℕ) → streamed_density A c ≡ streamed_density B c
  unfolding streamed_density
  density-is c i = density L (λ d. streamed-is c d i)

  momentum-is : (c : ℕ) → streamed_momentum A c ≡ streamed_momentum B c
  unfolding streamed_momentum
  momentum-is c i = record {
    x = (momentum L (λ d. streamed-is c d i)).x +ℤ pull (density-is c i) g.x;
    y = (momentum L (λ d. streamed-is c d i)).y +ℤ pull (density-is c i) g.y;
    z = (momentum L (λ d. streamed-is c d i)).z +ℤ pull (density-is c i) g.z;
  }

  pub fast-is : unsteady A ≡ unsteady B
  unfolding unsteady
  fast-is i c = liquid (flag c) && not (dense (density-is c i) && slow (density-is c i) (dot (momentum-is c i) (momentum-is c i)))

  collided-dir-is : (c d : ℕ) → collided_dir A c d ≡ collided_dir B c d
  unfolding relaxed_dir
  collided-dir-is c d i =
      relaxed (p c) (L.weight d) (quad (density-is c i) (dot (L.e d) (momentum-is c i)) (dot (momentum-is c i) (momentum-is c i))) (density-is c i) (streamed-is c d i)

  collided-at : (c d : ℕ) → collided A c d ≡ collided B c d
  unfolding collided collided_part
  collided-at c zero = λ i. density-is c i -ℤ dirs L.q (λ d. collided-dir-is c d i)
  collided-at c (suc a) = λ i. collided-dir-is c (suc a) i

  pub collided-is : collided A ≡ collided B
  collided-is i c d = collided-at c d i

  pub moved-part-is : moved_part A ≡ moved_part B
  unfolding moved_part
  moved-part-is i c d = by_flag (flag c) (pos 0) (collided-at c d i) (collided-at c d i) (pos 0)

  pub moved-mass-is : moved_mass A ≡ moved_mass B
  unfolding moved_mass
  moved-mass-is i c = by_flag (flag c) (pos 0) (traded-is c i) (density-is c i) (pos 0)

  pub first-mark-is : first_mark A ≡ first_mark B
  unfolding first_mark
  first-mark-is i c = by_flag (flag c) 0 (cond (over (traded-is c i) (density-is c i)) 1 (cond (under (traded-is c i) (density-is c i)) 2 0)) 0 0

  -- all of pass 1
  pub moved-carried : {n : ℕ} {part2 : ℕ → ℕ → ℤ} {masses2 : List ℤ} {marks : List ℕ} {fair calm : Bool} → MovedTo A n part2 masses2 marks fair calm → MovedTo B n part2 masses2 marks fair calm
  moved-carried {n} m = record {
    steady = subst (λ (f : ℕ → Bool). n ≤ first n f) fast-is m.steady;
    part-is = λ c d h l. m.part-is c d h l ∙ ap (λ (f : ℕ → ℕ → ℤ). f c d) moved-part-is;
    masses-are = m.masses-are ∙ ap (tab n) moved-mass-is;
    marks-are = m.marks-are ∙ ap (tab n) first-mark-is;
    fair-tells = λ e c h l. sym (ap (λ (f : ℕ → ℕ → ℤ). body_good d3q19 (f c)) collided-is) ∙ m.fair-tells e c h l;
    calm-tells = λ e c h. sym (ap (λ (f : ℕ → ℕ). f c) first-mark-is) ∙ m.calm-tells e c h;
  }
