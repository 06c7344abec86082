-- From the tests and the work on one cell to the act's outcome, and that no second outcome fits. Assumes nothing.
use mathlib.Core.Path.{◌≡◌, refl, sym, ap, ◌∙◌, subst}
use mathlib.Core.Bool.{Bool, true, false}
use mathlib.Core.List.{List}
use Prim.Native.Nat.{ℕ, ◌≤◌, ◌<◌}
use native.Mathlib.Omega.{arith}
use borrow.Author.Tests.{lt-ltb, le-ltb, eq-eqb, ne_eqb}
use lib.Dec.{eqb, ltb}
use lib.IntN.{ℤ, pos}
use lib.Signed.{le_z, ◌<ℤ◌}
use lib.ListN.{length, get_or}
use Rattle.whole.specs.laws.Bools.{and_left, and_right, cond_yes, cond_no}
use Rattle.whole.specs.laws.Bounds.{abs-below}
use Rattle.whole.specs.laws.Parts.{≤-parts, parts-<}
use Rattle.whole.specs.laws.Order.{le_z-true}
use Rattle.whole.specs.laws.Machine.{Within}
use Rattle.lattice.specs.Lattice.{d3q19, density}
use Rattle.lattice.specs.Cell.{dense}
use Rattle.grid.specs.declared.Sides.{Sides}
use Rattle.grid.specs.Answer.{Answer}
use Rattle.grid.specs.Answer.{Done}
use Rattle.grid.specs.Grid.{cells_of}
use Rattle.grid.specs.State.{Lent, lent, liquid, state_of, part_of}
use Rattle.grid.specs.inner.Sight.{Body}
use Rattle.grid.specs.Outcome.{or_refuse}
use Rattle.grid.proofs.Lists.{get_or-there}
use Rattle.grid.proofs.Prepared.{cell-body, cell-mass}
use Rattle.grid.specs.inner.Fill.{Weighty}
use Rattle.pumps.specs.Acts.{Acted}
use Rattle.pumps.specs.Three.{number_in, total_good, three_answer}
use Rattle.pumps.specs.Acts.{moved_of, counted_in, act_good, and_then, act_answer, act_set, acted_by, set_by, ActTold}
use Rattle.pumps.specs.inner.Working.{Working, move_or, Worked}
use Rattle.pumps.proofs.Checked.{Passed}
use Rattle.grid.specs.declared.refusals.Refusal.TheVariants.{BadAmount, NotInterface, Outside}
use Rattle.std.specs.Prelude.{Err}
use Rattle.grid.specs.declared.refusals.Refusal.{Refusal}

-- ---- what the work asks of a set that passed
dense-some : (ρ : ℤ) → dense ρ ≡ true → pos 0 <ℤ ρ
unfolding dense
dense-some ρ e = parts-< (omega (arith, ≤-parts {a = pos 294912} {b = ρ} (le_z-true (and_left (le_z (pos 294912) ρ) (le_z ρ (pos 1179648)) e))))

weighty : (f : ℕ → ℤ) → Body f → Weighty f
weighty f b = record {
  rest = record { abs = omega (arith, (b.parts 0 (omega arith)).abs) };
  each = λ k p h. record { abs = omega (arith, (b.parts k (omega arith)).abs) };
  some = dense-some (density d3q19 f) b.is-dense;
}

total-in : (z : ℤ) → total_good z ≡ true → Within z 1000000000000000
total-in z e = record { abs = abs-below {k = 0} {z = z} (le_z-true (and_left (le_z (pos 0) z) (le_z z (pos 1000000000000000)) e)) (le_z-true (and_right (le_z (pos 0) z) (le_z z (pos 1000000000000000)) e)) }

module _ (pour : Bool) (s : Sides) (a : Lent) (c : ℕ) (p : Passed s a) (h : c < cells_of s) (f : get_or a.flags c 0 ≡ 1) where
  flag_is : (state_of 18 a).flag c ≡ 1
  unfolding state_of
  flag_is = get_or-there a.flags c 3 0 (subst (λ (n : ℕ). c < n) (sym p.sized.flags) h) ∙ f

  body_of : Body (part_of a.parts c)
  unfolding state_of
  body_of = cell-body (cells_of s) (state_of 18 a) p.cells c h (ap liquid flag_is)

  mass-of : Within (get_or a.masses c (pos 0)) 2359296
  unfolding state_of
  mass-of = cell-mass (cells_of s) (state_of 18 a) p.cells c h flag_is

  total_of : (b : Bool) → Within (number_in a (counted_in b)) 1000000000000000
  total_of true = total-in (number_in a 1) p.poured
  total_of false = total-in (number_in a 2) p.taken

  counted-in : (b : Bool) → counted_in b < length a.carry
  counted-in true = omega (arith, p.carry)
  counted-in false = omega (arith, p.carry)

  pub may-work : (k : ℕ) → k ≡ counted_in pour → Working a.parts a.masses a.fills a.carry c k
  may-work k e =
      subst (λ (i : ℕ). Working a.parts a.masses a.fills a.carry c i) (sym e)
      (record {
        parts-size = omega (arith, p.sized.parts);
        weighty = weighty (part_of a.parts c) body_of;
        in-masses = omega (arith, p.sized.masses);
        in-fills = omega (arith, p.sized.fills);
        in-carry = counted-in pour;
        mass = mass-of;
        total = total_of pour;
      })

-- ---- the outcome
module _ (pour : Bool) (s : Sides) (c : ℕ) (amount : ℤ) (a : Lent) where
  abbrev m : ℤ
  m = get_or a.masses c (pos 0)

  abbrev good : Bool
  good = act_good pour amount m (number_in a (counted_in pour))

  refuse : (refusal : Refusal) → Err refusal ≡ act_answer pour s c amount a → ActTold pour s c amount a (Err refusal) a
  refuse refusal e = record {
    answer-is = ap (λ (x : Answer). acted_by x (moved_of pour amount m)) e;
    set_is = ap (λ (x : Answer). set_by x (act_set pour c amount a) a) e;
  }

  pub told-refused : {refusal : Refusal} → Err refusal ≡ three_answer s a → ActTold pour s c amount a (Err refusal) a
  unfolding act_answer
  told-refused {refusal} e =
      refuse refusal (ap (λ (x : Answer). and_then x (or_refuse (ltb c (cells_of s)) Outside (or_refuse (eqb (get_or a.flags c 0) 1) (NotInterface c) (or_refuse good BadAmount Done)))) e)

  module _ (ok : three_answer s a ≡ Done) where
    pub told-outside : cells_of s ≤ c → ActTold pour s c amount a (Err Outside) a
    unfolding act_answer
    told-outside h = refuse Outside (simp (ok, le-ltb c (cells_of s) h))

    module _ (h : c < cells_of s) where
      pub told-other : (get_or a.flags c 0 ≡ 1 → ⊥) → ActTold pour s c amount a (Err (NotInterface c)) a
      unfolding act_answer
      told-other f = refuse (NotInterface c) (simp (ok, lt-ltb c (cells_of s) h, ne_eqb (get_or a.flags c 0) 1 f))

      module _ (f : get_or a.flags c 0 ≡ 1) where
        answer-by : act_answer pour s c amount a ≡ or_refuse good BadAmount Done
        unfolding act_answer
        answer-by = simp (ok, lt-ltb c (cells_of s) h, eq-eqb (get_or a.flags c 0) 1 f)

        by-good : (b : Bool) → good ≡ b → (r : Acted) (masses : List ℤ) (fills : List ℕ) (carry : List ℤ)
            → Worked pour c amount (counted_in pour) a.parts a.masses a.fills a.carry r masses fills carry
            → ActTold pour s c amount a r (lent a.flags a.parts masses fills carry)
        unfolding act_set
        by-good true e r masses fills carry w =
            let d : act_answer pour s c amount a ≡ Done = answer-by ∙ simp e in
            record {
              answer-is = w.answer-is ∙ ap (λ (b : Bool). move_or b (moved_of pour amount m)) e ∙ sym (ap (λ (x : Answer). acted_by x (moved_of pour amount m)) d);
              set_is = (λ i. lent a.flags a.parts ((w.masses-are ∙ cond_yes _ _ e) i) ((w.fills-are ∙ cond_yes _ _ e) i) ((w.carry-is ∙ cond_yes _ _ e) i)) ∙ sym (ap (λ (x : Answer). set_by x (act_set pour c amount a) a) d);
            }
        by-good false e r masses fills carry w =
            let d : act_answer pour s c amount a ≡ Err BadAmount = answer-by ∙ simp e in
            record {
              answer-is = w.answer-is ∙ ap (λ (b : Bool). move_or b (moved_of pour amount m)) e ∙ sym (ap (λ (x : Answer). acted_by x (moved_of pour amount m)) d);
              set_is = (λ i. lent a.flags a.parts ((w.masses-are ∙ cond_no _ _ e) i) ((w.fills-are ∙ cond_no _ _ e) i) ((w.carry-is ∙ cond_no _ _ e) i)) ∙ sym (ap (λ (x : Answer). set_by x (act_set pour c amount a) a) d);
            }

        pub told-worked : (k : ℕ) → k ≡ counted_in pour → (r : Acted) (masses : List ℤ) (fills : List ℕ) (carry : List ℤ)
            → Worked pour c amount k a.parts a.masses a.fills a.carry r masses fills carry
            → ActTold pour s c amount a r (lent a.flags a.parts masses fills carry)
        told-worked k e r masses fills carry w =
            by-good good refl r masses fills carry (subst (λ (i : ℕ). Worked pour c amount i a.parts a.masses a.fills a.carry r masses fills carry) e w)

-- ---- no second outcome fits
pub told-one : (pour : Bool) (s : Sides) (c : ℕ) (amount : ℤ) (a : Lent) (r t : Acted) (one other : Lent)
    → ActTold pour s c amount a r one → ActTold pour s c amount a t other → (r ≡ t) × (one ≡ other)
told-one pour s c amount a r t one other x y = (x.answer-is ∙ sym y.answer-is, x.set_is ∙ sym y.set_is)
