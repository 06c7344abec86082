use mathlib.Core.Path.{◌≡◌, refl, sym, ap, subst, ◌∙◌}
use mathlib.Core.Bool.{Bool, true, false, cond}
use mathlib.Core.List.{[], List}
use Prim.Native.Nat.{ℕ, ◌+◌, ◌*◌, ◌-◌, ◌<◌}
use native.Mathlib.Nat.{add-zero}
use native.Mathlib.Omega.{arith}
use borrow.Author.Rules.{rules}
use lib.Dec.{ltb}
use lib.IntN.{ℤ, pos}
use lib.ListN.{length, get_or, replicate, length-set}
use Rattle.whole.specs.laws.Tab.{upto_zero, upto-more, upto_all}
use Rattle.lattice.specs.Lattice.{d3q19}
use Rattle.lattice.specs.declared.Settings.{Settings}
use Rattle.grid.specs.State.{part_of}
use Rattle.grid.specs.Step.{arrives}
use Rattle.grid.specs.inner.Sight.{Bodied, Around, box_sight}
use Rattle.arrivals.specs.inner.Sources.{Enclosed, arrival_at}
use Rattle.arrivals.proofs.Arrivals.{arrives-enclosed, streamed-rest, streamed-odd, streamed-even}
use Rattle.flow.proofs.Stores.{upto-pair}
use Rattle.flow.proofs.streaming.reflected.Goals as goal

-- what stands where the code looks, by the neighbour in direction i, whose opposite is k: a place of a part, and the part that arrives
module _ {flags : List ℕ} {parts : List ℤ} {off : List ℕ} {low c : ℕ} (bodied : Bodied flags parts) (around : Around (length flags) off low c) (i k r : ℕ) (hi : i < 19) where
  there : k < 19 → r ≡ arrival_at flags c (c - low + get_or off i 0) i k → r < length parts
  unfolding arrival_at
  there hk e = subst (λ n. n < length parts) (sym e) (go (ltb 2 (get_or flags (c - low + get_or off i 0) 3)))
    where
      go : (t : Bool) → cond t (19 * c + i) (19 * (c - low + get_or off i 0) + k) < length parts
      go true = omega (arith, bodied.count, around.is-cell)
      go false = omega (arith, bodied.count, around.each i hi)

  arrived : (fills : List ℕ) (g : Settings) → get_or flags c 3 ≡ 2 → Enclosed flags off low c → 0 < i → r ≡ arrival_at flags c (c - low + get_or off i 0) i k
      → get_or parts r (pos 0) ≡ arrives (box_sight flags parts [] fills off low g) c i k
  unfolding arrival_at
  arrived fills g f h z e =
      ap (λ n. get_or parts n (pos 0)) e ∙ picked (ltb 2 (get_or flags (c - low + get_or off i 0) 3))
      ∙ arrives-enclosed d3q19.weight flags (part_of parts) fills off low g c (c - low + get_or off i 0) i k refl f (h f i z hi)
    where
      picked : (t : Bool) → get_or parts (cond t (19 * c + i) (19 * (c - low + get_or off i 0) + k)) (pos 0) ≡ cond t (part_of parts c i) (part_of parts (c - low + get_or off i 0) k)
      picked true = refl
      picked false = refl

pub loop-pair-init : goal.loop-pair-init
loop-pair-init c = (refl, λ fills g. upto-more (pos 0) _ (replicate 19 (pos 0)) 0 _ (omega arith) (upto_zero (pos 0) _ (replicate 19 (pos 0))) (search rules ∙ ap (λ n. get_or c.args.parts.now n (pos 0)) (sym (add-zero (19 * c.args.c))) ∙ sym (streamed-rest _ _ _ _ _ _ _ _)))

pub offset_bounds-parts-source : goal.offset_bounds-parts-source
offset_bounds-parts-source c = omega (arith, there c.requires.0 c.requires.1 _ _ _ (omega arith) (omega arith) c.source.ensures, c.requires.0.few, c.requires.0.count)

pub bounds-parts-source : goal.bounds-parts-source
bounds-parts-source c = there c.requires.0 c.requires.1 _ _ _ (omega arith) (omega arith) c.source.ensures

pub offset_bounds-parts-source-in-loop-pair : goal.offset_bounds-parts-source-in-loop-pair
offset_bounds-parts-source-in-loop-pair c =
    omega (arith, there c.requires.0 c.requires.1 _ _ _ (omega arith) (omega arith) c.source-in-loop-pair.ensures, c.requires.0.few, c.requires.0.count)

pub bounds-parts-source-in-loop-pair : goal.bounds-parts-source-in-loop-pair
bounds-parts-source-in-loop-pair c = there c.requires.0 c.requires.1 _ _ _ (omega arith) (omega arith) c.source-in-loop-pair.ensures

pub loop-pair-preserved : goal.loop-pair-preserved
loop-pair-preserved c =
    let l = c.loop-pair.invariant in (
      simp length-set l.0,
      λ fills g. upto-pair (pos 0) _ _ _ _ _ _ (omega arith) (omega arith) (l.1 fills g)
          (search rules ∙ arrived c.requires.0 c.requires.1 _ _ _ (omega arith) fills g c.requires.2 c.requires.3 (omega arith) c.source-in-loop-pair.ensures ∙ sym (streamed-odd _ _ _ _ _ _ _ _ _ (omega arith)))
          (search rules ∙ arrived c.requires.0 c.requires.1 _ _ _ (omega arith) fills g c.requires.2 c.requires.3 (omega arith) c.source.ensures ∙ sym (streamed-even _ _ _ _ _ _ _ _ _ (omega arith))),
    )

pub returns : goal.returns
returns c fills g = let l = c.loop-pair.invariant in upto_all (pos 0) _ _ 19 l.0 (λ j h. l.1 fills g j (omega arith))
