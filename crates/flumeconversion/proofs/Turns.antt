-- The conversion in the flume, pass by pass: what each of passes 2 to 7 asks of the lists that the one before it left, and that the last leaves the next state.
-- All of it is the flume's instance of the laws of a field. Assumes nothing.
use mathlib.Core.Path.{◌≡◌, refl, sym, ap, ◌∙◌, subst}
use mathlib.Core.Bool.{Bool, true, false, ◌&&◌, false≢true}
use mathlib.Core.List.{List, [], ◌∷◌}
use Prim.Native.Nat.{ℕ, ◌+◌, ◌*◌, ◌≤◌, ◌<◌}
use native.Mathlib.Omega.{arith}
use lib.IntN.{ℤ, pos, ◌+ℤ◌}
use lib.ListN.{length, get_or, set}
use Rattle.whole.specs.Fold.{tab, sum}
use Rattle.whole.specs.laws.Machine.{Within}
use Rattle.whole.specs.laws.Tab.{length-tab}
use Rattle.lattice.specs.Cell.{carry_good}
use Rattle.lattice.specs.declared.Settings.{Settings}
use Rattle.grid.specs.State.{Lent, Scene}
use Rattle.grid.specs.Step.{new_flag, new_carry}
use Rattle.grid.specs.inner.Between.{settled_mark, gathered_mass}
use Rattle.grid.specs.inner.Passes.{kept_by, turned_by, EmptyingBy, MarkedBy}
use Rattle.passes.specs.inner.Flowed.{MovedTo}
use Rattle.excess.specs.inner.Gifts.{stray_at, gathered_at}
use Rattle.conversion.specs.inner.Born.{newly_born}
use Rattle.conversion.specs.inner.Turned.{TurnedTo}
use Rattle.conversion.proofs.Amounts.{moved-mass-in}
use Rattle.conversion.proofs.Field.{Field, Sound}
use Rattle.conversion.proofs.Given.{Midway, mass-is}
use Rattle.conversion.proofs.Handed.{flags-count, marks-count, cell, around, giver-inner, giving, weighed, countable}
use Rattle.conversion.proofs.Offspring.{tested, fills-good, gravity, flags-there, fed}
use Rattle.conversion.proofs.Settled.{emptying, settled-marks, settled-marked, turned-flags}
use Rattle.conversion.proofs.Turns as turns
use Rattle.flume.specs.declared.FlumeSides.{FlumeSides}
use Rattle.flume.specs.Flume.{flume_cells}
use Rattle.flume.specs.inner.Offsets.{flume_low, flume_offset}
use Rattle.nine.specs.inner.Cells.{part_of9}
use Rattle.flumearrivals.specs.inner.Seen.{sight9}
use Rattle.flumepasses.specs.inner.Flowed.{wide_scene}
use Rattle.flumeexcess.specs.inner.Gathered.{RoomOf9, Gathering, Straying}
use Rattle.flumeconversion.specs.inner.Settled.{Settling, Settled}
use Rattle.flumeconversion.specs.inner.Born.{Fertile9, Peopled9}
use Rattle.flumeconversion.specs.inner.Turned.{FlumeTurning, FlumeTurned}
use Rattle.flumeconversion.proofs.Fields.{flume_field, flume-sound}
use Rattle.conversion.proofs.Converts.{single}

-- ---- what the passes of stage 6 ask, in a list of nine parts a cell
module _ {F : Field} {flags fills : List ℕ} (parts : List ℤ) {masses : List ℤ} {marks : List ℕ} (w : Midway F flags fills (part_of9 parts) masses marks) (count : length parts ≡ 9 * F.cells) where
  room : (c : ℕ) → c < F.cells → RoomOf9 parts c
  room c h = omega (arith, count)

  gathering : Gathering flags fills parts masses marks F.off F.low
  gathering = record {
    giving = giving w room;
    taken = λ c h f. subst (λ (z : ℤ). Within z 44826624) (sym (mass-is w c (cell w h))) (moved-mass-in F w.stands w.steady c (cell w h));
  }

  straying : Straying flags parts masses marks F.off F.low
  straying = record {
    few = subst (λ (n : ℕ). n ≤ 262144) (sym (flags-count w)) w.stands.few;
    marks-there = marks-count w ∙ sym (flags-count w);
    around = λ c h m. around w c (giver-inner w c (cell w h) m) (cell w h);
    weighed = weighed w room;
  }

  settling : (masses' : List ℤ) → length masses' ≡ F.cells → Settling parts masses' marks
  settling masses' e = record {
    few = subst (λ (n : ℕ). n ≤ 262144) (sym (marks-count w)) w.stands.few;
    parts-there = count ∙ ap (λ (n : ℕ). 9 * n) (sym (marks-count w));
    masses-there = e ∙ sym (marks-count w);
    each = countable w room;
  }

set_single : (xs : List ℤ) (z : ℤ) → length xs ≡ 1 → set xs 0 z ≡ z ∷ []
set_single [] z e = absurd (omega arith)
set_single (x ∷ []) z e = refl
set_single (x ∷ (y ∷ xs)) z e = absurd (omega arith)

module _ {s : FlumeSides} {g : Settings} {a : Lent} {flags0 : List ℕ} {parts0 masses0 carry0 : List ℤ} {marks0 : List ℕ} {calm : Bool} (t : FlumeTurning s g a flags0 parts0 masses0 carry0 marks0 calm) where
  abbrev n : ℕ
  n = flume_cells s

  abbrev S : Scene
  S = wide_scene s g a

  -- ---- where nothing converts
  pub calm-turned : calm ≡ true → {flags : List ℕ} {carry : List ℤ} → flags ≡ a.flags → carry ≡ a.carry → FlumeTurned s g a flags parts0 masses0 carry marks0 true
  calm-turned e ef ec = record {
    parts-there = t.parts-room;
    turned = turns.calm-turned (flume_field s g a (tab 19 (flume_offset s)) (flume_low s)) (flume-sound s g a t.ready t.level refl refl)
        (subst (λ (b : Bool). MovedTo S n (part_of9 parts0) masses0 marks0 false b) e t.moved) ef (ec ∙ single a.carry t.ready.sized.carry);
  }

  -- what the conversion asks, where it is to be made
  pub turning-on : {flags : List ℕ} {carry : List ℤ} → flags ≡ a.flags → carry ≡ a.carry → FlumeTurning s g a flags parts0 masses0 carry marks0 false
  turning-on ef ec = record {
    ready = t.ready;
    level = t.level;
    moved = record {
      steady = t.moved.steady;
      part-is = t.moved.part-is;
      masses-are = t.moved.masses-are;
      marks-are = t.moved.marks-are;
      fair-tells = t.moved.fair-tells;
      calm-tells = λ e. absurd (false≢true e);
    };
    flags-room = ap length ef ∙ t.ready.sized.flags;
    parts-room = t.parts-room;
    carry-room = ap length ec ∙ t.ready.sized.carry;
  }

  -- ---- the conversion, with the offsets that the code lists
  module _ {off : List ℕ} {low : ℕ} (eo : off ≡ tab 19 (flume_offset s)) (el : low ≡ flume_low s) where
    abbrev F : Field
    F = flume_field s g a off low

    v : Sound F
    v = flume-sound s g a t.ready t.level eo el

    pub carry-within : Within (get_or a.carry 0 (pos 0)) 1000000000000
    carry-within = turns.carry-within F v

    pub asks-emptying : EmptyingBy marks0 off low
    asks-emptying = emptying F v t.moved.marks-are

    -- pass 2 has settled the marks
    module _ {marks1 : List ℕ} (km : marks1 ≡ tab (length marks0) (kept_by marks0 off low)) where
      ek : marks1 ≡ tab n (settled_mark S)
      ek = settled-marks F v t.moved.marks-are km

      pub asks-marked : MarkedBy a.flags marks1 off low
      asks-marked = settled-marked F v ek

      -- pass 3 has turned the flags
      module _ {flags1 : List ℕ} (kf : flags1 ≡ tab (length a.flags) (turned_by a.flags marks1 off low)) where
        ef : flags1 ≡ tab n (new_flag S)
        ef = turned-flags F v ek t.moved.steady kf

        pub asks-fertile : Fertile9 a.flags a.parts a.fills off low g flags1
        asks-fertile = record {
          tested = record {
            count = t.ready.sized.parts ∙ ap (λ (m : ℕ). 9 * m) (sym t.ready.sized.flags);
            fills-good = fills-good F v.stands;
            gravity = gravity F v.stands;
            cells = tested F v.stands t.moved.steady;
          };
          count = flags-there F v.stands flags1 ef;
          fed = λ c h e. fed F v.stands flags1 ef c (subst (λ (m : ℕ). c < m) t.ready.sized.flags h) e;
        }

        pub parts-long : length parts0 ≡ 9 * length a.flags
        parts-long = t.parts-room ∙ ap (λ (m : ℕ). 9 * m) (sym t.ready.sized.flags)

        pub flags_long : length flags1 ≡ n
        flags_long = ap length ef ∙ length-tab n (new_flag S)

        -- pass 4 has given new interface cells their parts
        module _ {parts1 : List ℤ} {fair : Bool} (kp : Peopled9 (sight9 a.flags a.parts [] a.fills off low g) (newly_born a.flags flags1) (length a.flags) parts0 parts1 fair) where
          in-set : {c : ℕ} → c < n → c < length a.flags
          in-set {c} h = subst (λ (m : ℕ). c < m) (sym t.ready.sized.flags) h

          w : Midway F flags1 a.fills (part_of9 parts1) masses0 marks1
          w = turns.midway F v t.moved ef ek (λ c k h l. kp.part-is c k (in-set h) l)

          count1 : length parts1 ≡ 9 * n
          count1 = kp.parts-there ∙ ap (λ (m : ℕ). 9 * m) t.ready.sized.flags

          pub asks-straying : Straying flags1 parts1 masses0 marks1 off low
          asks-straying = straying parts1 w count1

          pub asks-gathering : Gathering flags1 a.fills parts1 masses0 marks1 off low
          asks-gathering = gathering parts1 w count1

          -- pass 5 has worked out the carry
          pub carry-told : {k z : ℤ} → z ≡ get_or a.carry 0 (pos 0) → k ≡ z +ℤ sum (length flags1) (stray_at flags1 (part_of9 parts1) masses0 marks1 off low) → k ≡ new_carry S
          carry-told {k} {z} e f =
              turns.carry-told F v t.moved ef ek (λ c k h l. kp.part-is c k (in-set h) l) e
              (f ∙ ap (λ (m : ℕ). z +ℤ sum m (stray_at flags1 (part_of9 parts1) masses0 marks1 off low)) flags_long)

          -- pass 6 has gathered the gifts
          module _ {masses1 : List ℤ} (kg : masses1 ≡ tab (length flags1) (gathered_at flags1 a.fills (part_of9 parts1) masses0 marks1 off low)) where
            eg : masses1 ≡ tab n (gathered_mass S)
            eg =
                turns.masses-gathered F v t.moved ef ek (λ c k h l. kp.part-is c k (in-set h) l)
                (kg ∙ ap (λ (m : ℕ). tab m (gathered_at flags1 a.fills (part_of9 parts1) masses0 marks1 off low)) flags_long)

            pub asks-settling : Settling parts1 masses1 marks1
            asks-settling = settling parts1 w count1 masses1 (ap length eg ∙ length-tab n (gathered_mass S))

            -- pass 7 has settled what was marked
            module _ {parts2 masses2 : List ℤ} {marks2 : List ℕ} (ks : Settled parts1 masses1 marks1 parts2 masses2 marks2) where
              marks-long : length marks1 ≡ n
              marks-long = marks-count w

              pub parts-kept : length parts2 ≡ 9 * n
              parts-kept = ks.parts-there ∙ ap (λ (m : ℕ). 9 * m) marks-long

              pub converted : {k : ℤ} {b : Bool} → k ≡ new_carry S → b ≡ carry_good k → FlumeTurned s g a flags1 parts2 masses2 (set carry0 0 k) marks2 (fair && b)
              converted {k} {b} ec eb = record {
                parts-there = parts-kept;
                turned = subst (λ (c : List ℤ). TurnedTo S n flags1 (part_of9 parts2) masses2 c marks2 (fair && b)) (sym (set_single carry0 k t.carry-room))
                    (turns.converted F v t.moved ef ek (λ c k h l. kp.part-is c k (in-set h) l) ec eg
                    (λ c k h l. ks.part-is c k (subst (λ (m : ℕ). c < m) (sym marks-long) h) l) ks.masses-are ks.marks-are kp.fair-is eb);
              }
