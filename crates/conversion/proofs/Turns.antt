-- From stages 1 to 4 to the conversion made, in any field: passes 2 to 7 one after the other, and the case that nothing converts, where copies of flags and
-- carry are the next state's. Assumes nothing.
use mathlib.Core.Path.{◌≡◌, refl, sym, ap, ◌∙◌, subst}
use mathlib.Core.Bool.{Bool, true, ◌&&◌}
use mathlib.Core.List.{List, [], ◌∷◌}
use Prim.Native.Nat.{ℕ, ◌<◌}
use native.Mathlib.Omega.{arith}
use lib.IntN.{ℤ, pos, nat_abs, ◌+ℤ◌}
use lib.ListN.{length, get_or, replicate}
use borrow.Author.Tests.{leb-true}
use Rattle.whole.specs.laws.Bools.{and_left, and_right}
use Rattle.whole.specs.Fold.{tab, all, sum}
use Rattle.whole.specs.laws.Machine.{Within}
use Rattle.whole.specs.laws.Tab.{tab-cong, tab-self}
use Rattle.lattice.specs.Cell.{carry_good}
use Rattle.grid.specs.State.{Scene}
use Rattle.grid.specs.Step.{new_flag, new_mass, new_carry}
use Rattle.grid.specs.inner.Between.{moved_mass, first_mark, settled_mark, gathered_mass}
use Rattle.passes.specs.inner.Flowed.{MovedTo}
use Rattle.excess.specs.inner.Gifts.{gathered_at, stray_at}
use Rattle.conversion.specs.inner.Settled.{settled_mass, settled_part}
use Rattle.conversion.proofs.Settles.{tab-replicate}
use Rattle.conversion.specs.inner.Born.{newly_born, later_part, later_fair}
use Rattle.conversion.specs.inner.Turned.{TurnedTo}
use Rattle.conversion.proofs.Field.{Field, scene_in, sight_in, Sound, laid, walled}
use Rattle.conversion.proofs.Given.{Midway, gathered-is, carry-is}
use Rattle.conversion.proofs.Handed.{mass-after, part-after, marks-count}
use Rattle.conversion.proofs.Offspring.{later-is, newborn-fair}
use Rattle.conversion.proofs.Quiet.{flags-stay, parts_stay, masses-stay, carry-stays}

module _ (F : Field) (v : Sound F) where
  abbrev S : Scene
  S = scene_in F

  abbrev n : ℕ
  n = F.cells

  pub carry-within : Within F.carry 1000000000000
  carry-within = record { abs = leb-true (nat_abs F.carry) 1000000000000 v.carry-good }

  -- ---- where nothing converts
  module _ {part : ℕ → ℕ → ℤ} {masses : List ℤ} {marks : List ℕ} {fair : Bool} (m : MovedTo S n part masses marks fair true) where
    in-grid : {c : ℕ} → c < n → c < F.grid.cells
    in-grid {c} h = subst (λ (k : ℕ). c < k) (sym v.stands.cells_are) h

    in_field : {c : ℕ} → c < F.grid.cells → c < n
    in_field {c} h = subst (λ (k : ℕ). c < k) v.stands.cells_are h

    quiet : (c : ℕ) → c < F.grid.cells → first_mark S c ≡ 0
    quiet c h = m.calm-tells refl c (in_field h)

    flagged : (c : ℕ) → c < F.grid.cells → get_or F.flags c 3 < 4
    flagged c h = v.flagged c (in_field h)

    flag-stays : (c : ℕ) → c < n → new_flag S c ≡ get_or F.flags c 3
    flag-stays c h = flags-stay S (laid F v.stands) (walled F v.stands) flagged quiet c (in-grid h)

    carry_same : new_carry S ≡ F.carry
    carry_same = carry-stays S (laid F v.stands) (walled F v.stands) flagged quiet

    pub calm-turned : {flags : List ℕ} {carry : List ℤ} → flags ≡ F.flags → carry ≡ F.carry ∷ [] → TurnedTo S n flags part masses carry marks true
    calm-turned ef ec = record {
      flags-are = ef ∙ tab-self 3 F.flags ∙ ap (λ (k : ℕ). tab k (λ j. get_or F.flags j 3)) v.stands.count
          ∙ tab-cong n (λ j. get_or F.flags j 3) (new_flag S) 3 (λ c h. sym (flag-stays c h));
      part-is = λ c k h l. m.part-is c k h l ∙ sym (parts_stay S (laid F v.stands) (walled F v.stands) flagged quiet c k (in-grid h));
      masses-are = m.masses-are ∙ tab-cong n (moved_mass S) (new_mass S) (pos 0) (λ c h. sym (masses-stay S (laid F v.stands) (walled F v.stands) flagged quiet c (in-grid h)));
      carry-is = ec ∙ ap (λ (z : ℤ). z ∷ []) (sym carry_same);
      marks-are = m.marks-are ∙ tab-cong n (first_mark S) (λ c. 0) 0 (λ c h. m.calm-tells refl c h) ∙ tab-replicate n 0 0;
      newborn = λ e c h f k. absurd (omega (arith, flag-stays c h));
      carry-fair = λ e. ap carry_good carry_same ∙ v.carry-good;
    }

  -- ---- the conversion, once pass 2 has settled the marks and pass 3 has turned the flags
  module _ {before : ℕ → ℕ → ℤ} {masses : List ℤ} {first : List ℕ} {fair calm : Bool} (m : MovedTo S n before masses first fair calm)
      {flags marks : List ℕ} (ef : flags ≡ tab n (new_flag S)) (ek : marks ≡ tab n (settled_mark S))
      {part : ℕ → ℕ → ℤ} (ep : (c k : ℕ) → c < n → k < 19 → part c k ≡ later_part (sight_in F) (newly_born F.flags flags) before c k) where
    -- pass 4 has given new interface cells their parts: where stage 6 begins
    pub midway : Midway F flags F.fills part masses marks
    midway = record {
      stands = v.stands;
      steady = m.steady;
      fills-are = refl;
      flags-are = ef;
      part-is = λ c k h l. let t : k < 19 = omega arith in ep c k h t ∙ later-is F v.stands flags ef before c k h (m.part-is c k h t);
      masses-are = m.masses-are;
      marks-are = ek;
    }

    pub carry-told : {k z : ℤ} → z ≡ F.carry → k ≡ z +ℤ sum n (stray_at flags part masses marks F.off F.low) → k ≡ new_carry S
    carry-told e f = f ∙ ap (λ (x : ℤ). x +ℤ sum n (stray_at flags part masses marks F.off F.low)) e ∙ carry-is midway

    pub masses-gathered : {after : List ℤ} → after ≡ tab n (gathered_at flags F.fills part masses marks F.off F.low) → after ≡ tab n (gathered_mass S)
    masses-gathered e = e ∙ gathered-is midway

    -- passes 5 to 7
    module _ {carry : ℤ} (ec : carry ≡ new_carry S) {gathered : List ℤ} (eg : gathered ≡ tab n (gathered_mass S))
        {part'' : ℕ → ℕ → ℤ} {masses'' : List ℤ} {marks'' : List ℕ} (sp : (c k : ℕ) → c < n → k < 19 → part'' c k ≡ settled_part part marks c k)
        (sm : masses'' ≡ tab (length marks) (settled_mass part gathered marks)) (sk : marks'' ≡ replicate (length marks) 0) where
      pub converted : {a b : Bool} → a ≡ all (length F.flags) (later_fair (sight_in F) (newly_born F.flags flags)) → b ≡ carry_good carry
          → TurnedTo S n flags part'' masses'' (carry ∷ []) marks'' (a && b)
      converted {a} {b} fa fb = record {
        flags-are = ef;
        part-is = λ c k h l. sp c k h l ∙ part-after midway c k h (omega arith);
        masses-are = sm ∙ ap (λ (k : ℕ). tab k (settled_mass part gathered marks)) (marks-count midway) ∙ tab-cong n (settled_mass part gathered marks) (new_mass S) (pos 0) (mass-after midway gathered eg);
        carry-is = ap (λ (z : ℤ). z ∷ []) ec;
        marks-are = sk ∙ ap (λ (k : ℕ). replicate k 0) (marks-count midway);
        newborn = λ e. newborn-fair F v.stands flags ef fa (and_left a b e);
        carry-fair = λ e. ap carry_good (sym ec) ∙ sym fb ∙ and_right a b e;
      }
