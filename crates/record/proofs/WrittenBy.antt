-- The writer's promise, from what its tests give, and why settings in their ranges fit the record's numbers. Assumes nothing.
use mathlib.Core.Path.{◌≡◌, refl, sym, ap, ◌∙◌}
use mathlib.Core.Bool.{true, ◌&&◌}
use mathlib.Core.List.{List, ◌++◌}
use Prim.Native.Nat.{ℕ, suc, ◌≤◌, ◌<◌}
use native.Mathlib.Omega.{arith}
use lib.Dec.{leb}
use lib.IntN.{ℤ, pos, nat_abs}
use lib.Signed.{le_z}
use lib.ListN.{length, drop}
use lib.Seq.{sets}
use borrow.Author.Tests.{le-leb, lt-leb}
use Rattle.whole.specs.laws.Bools.{and_left, and_right}
use Rattle.whole.specs.laws.Bounds.{abs-below}
use Rattle.whole.specs.laws.Machine.{Within}
use Rattle.whole.specs.laws.Order.{le_z-true}
use Rattle.lattice.specs.Lattice.{d3q19, Lattice}
use Rattle.lattice.specs.Cell.{relaxation_good, gravity_good, edge_good, coordinate_good}
use Rattle.lattice.specs.declared.Settings.{Settings}
use Rattle.lattice.proofs.Ranges.{weak-x, weak-y, weak-z}
use Rattle.grid.specs.declared.Sides.{Sides}
use Rattle.grid.specs.Answer.{Answer, Done}
use Rattle.grid.specs.declared.refusals.Refusal.{Refusal}
use Rattle.grid.specs.Grid.{Grid, sides_good, cells_of, grid_of}
use Rattle.grid.specs.State.{Lent, State, state_of}
use Rattle.grid.specs.Good.{bad_flag, bad_fluid, bad_rule}
use Rattle.grid.specs.Outcome.{accepted, or_refuse, if_none, good_answer, settings_good}
use Rattle.grid.specs.inner.Between.{Sized}
use Rattle.grid.proofs.Accepted.{accepted-done, done-accepted}
use Rattle.pumps.specs.Three.{number_in, head_of, totals_good, three_lengths, three_good}
use Rattle.pumps.proofs.Checked.{carry-three, head-sized}
use Rattle.record.specs.declared.Site.{Site}
use Rattle.record.specs.Layout.{site_good, record_of, record_length}
use Rattle.record.specs.inner.Small.{Small}
use Rattle.record.specs.Writing.{Written, room_test, written_on, room_on, write_answer, written, written_room}
use Rattle.record.specs.Promise.{Wrote}
use Rattle.record.proofs.Answers.{Chain, chain-or, chain-both, chain-then, or-true, or-pass, or-fail}
use Rattle.record.proofs.Assembled.{length-record, front-put}
use Rattle.grid.specs.declared.refusals.Refusal.TheVariants.{BadFlag, BadLayer, BadLength, BadRoom, BadSetting, BadSides, BadState}
use Rattle.std.specs.Prelude.{Ok, Err}

-- ---- settings in their ranges
low : (k : ℕ) (z : ℤ) → (le_z (pos 1) z && le_z z (pos k)) ≡ true → k ≤ 2147483647 → Within z 2147483647
low k z e h =
    let m : nat_abs z ≤ k = abs-below {k = 1} {z = z} (le_z-true (and_left (le_z (pos 1) z) (le_z z (pos k)) e)) (le_z-true (and_right (le_z (pos 1) z) (le_z z (pos k)) e)) in
    record { abs = omega arith }

loose : {z : ℤ} → Within z 1048 → Within z 2147483647
loose w = record { abs = omega (arith, w.abs) }

pub small : (g : Settings) (t : Site) → site_good g t ≡ true → Small g t
unfolding site_good settings_good
small g t e =
    let S = settings_good g in
    let E = edge_good t.edge in
    let X = coordinate_good t.x in
    let Y = coordinate_good t.y in
    let Z = coordinate_good t.z in
    let se = and_left (S && E) X (and_left (S && E && X) Y (and_left (S && E && X && Y) Z e)) in
    let s = and_left S E se in
    let gravity = and_right (relaxation_good g.p) (gravity_good g.gx g.gy g.gz) s in
    record {
      p = low 2037 g.p (and_left (relaxation_good g.p) (gravity_good g.gx g.gy g.gz) s) (omega arith);
      gx = loose (weak-x g.gx g.gy g.gz gravity);
      gy = loose (weak-y g.gx g.gy g.gz gravity);
      gz = loose (weak-z g.gx g.gy g.gz gravity);
      edge = low 1000 t.edge (and_right S E se) (omega arith);
    }

-- ---- over any tests F in a row, and test 12 behind them
pub record WroteOn (answer : Answer) (rec : List ℕ) (long : ℕ) (room : List ℕ) (w : Written) (after : List ℕ) : Type 0 where
  pub answer-so : w ≡ written_on answer long
  pub room-so : after ≡ room_on answer rec long room

module _ (F : Answer → Answer) (chain : Chain F) (rec : List ℕ) (long : ℕ) (room : List ℕ) where
  -- refused by a test, or for want of room: nothing is written
  refused : {w : Written} {r : Refusal} → w ≡ Err r → Err r ≡ F (room_test long room) → WroteOn (F (room_test long room)) rec long room w room
  refused h e =
      record {
        answer-so = h ∙ ap (λ (x : Answer). written_on x long) e;
        room-so = ap (λ (x : Answer). room_on x rec long room) e;
      }

  pub refused-on : {w : Written} {r : Refusal} → w ≡ Err r → Err r ≡ F Done → WroteOn (F (room_test long room)) rec long room w room
  refused-on h e = refused h (e ∙ sym (chain.refuses (sym (ap accepted e)) (room_test long room)))

  pub short_on : (n : ℕ) → n ≡ long → accepted (F Done) ≡ true → length room < n → WroteOn (F (room_test long room)) rec long room (Err (BadRoom n)) room
  short_on n is ok h =
      refused refl
      (ap (λ (p : ℕ). Err (BadRoom p)) is ∙ sym (chain.passes ok (room_test long room) ∙ or-fail (BadRoom long) Done (lt-leb long (length room) (omega arith))))

  pub done_on : (n : ℕ) (after : List ℕ) → n ≡ long → length rec ≡ long → accepted (F Done) ≡ true → n ≤ length room → after ≡ sets room 0 rec
      → WroteOn (F (room_test long room)) rec long room (Ok n) after
  done_on n after is size ok h e =
      let done : F (room_test long room) ≡ Done = chain.passes ok (room_test long room) ∙ or-pass (BadRoom long) Done (le-leb long (length room) (omega arith)) in
      record {
        answer-so = rw done (ap Ok is);
        room-so = rw done (e ∙ front-put room rec (omega arith) ∙ ap (λ (k : ℕ). rec ++ drop k room) size);
      }

-- ---- tests 1 to 6 in a row
pub chain-good : (L : Lattice) (G : Grid) (s : State) → Chain (good_answer L G s)
unfolding good_answer
chain-good L G s =
    let n = G.cells in
    let four = bad_flag G s.flag in
    let five = bad_fluid L.q G s.flag in
    let six = bad_rule L n s in
    chain-then (if_none n BadFlag four) (λ rest. if_none n BadLayer five (if_none (suc n) BadState six rest)) (chain-or (leb n four) (BadFlag four))
    (chain-then (if_none n BadLayer five) (if_none (suc n) BadState six) (chain-or (leb n five) (BadLayer five)) (chain-or (leb (suc n) six) (BadState six)))

-- tests 4 to 6, poured and taken with them
pub chain-three : (s : Sides) (a : Lent) → Chain (three_good s a)
chain-three s a =
    let T = totals_good (number_in a 1) (number_in a 2) in
    chain-then (good_answer d3q19 (grid_of s) (state_of 18 a)) (or_refuse T (BadState (cells_of s))) (chain-good d3q19 (grid_of s) (state_of 18 a)) (chain-or T (BadState (cells_of s)))

module _ (s : Sides) (g : Settings) (t : Site) (a : Lent) where
  abbrev pub fits : Answer → Answer
  fits rest = or_refuse (sides_good s) BadSides (or_refuse (three_lengths (cells_of s) a) BadLength (or_refuse (site_good g t) (BadSetting 0) (three_good s a rest)))

  pub chain_fits : Chain fits
  chain_fits =
      let S = sides_good s in
      let A = three_lengths (cells_of s) a in
      let T = site_good g t in
      let G = three_good s a in
      chain-then (or_refuse S BadSides) (λ rest. or_refuse A BadLength (or_refuse T (BadSetting 0) (G rest))) (chain-or S BadSides)
      (chain-then (or_refuse A BadLength) (λ rest. or_refuse T (BadSetting 0) (G rest)) (chain-or A BadLength)
      (chain-then (or_refuse T (BadSetting 0)) G (chain-or T (BadSetting 0)) (chain-three s a)))

  -- a grid that passed them
  pub record Fit : Type 0 where
    pub sides : sides_good s ≡ true
    pub lengths : Sized (cells_of s) (head_of a)
    pub numbers : length a.carry ≡ 3
    pub site : site_good g t ≡ true
    pub good : good_answer d3q19 (grid_of s) (state_of 18 a) Done ≡ Done
    pub totals : totals_good (number_in a 1) (number_in a 2) ≡ true

  pub fit : accepted (fits Done) ≡ true → Fit
  fit e =
      let S = sides_good s in
      let A = three_lengths (cells_of s) a in
      let T = site_good g t in
      let G = three_good s a in
      let K = good_answer d3q19 (grid_of s) (state_of 18 a) in
      let P = totals_good (number_in a 1) (number_in a 2) in
      let one = chain-both (or_refuse S BadSides) (λ rest. or_refuse A BadLength (or_refuse T (BadSetting 0) (G rest))) (chain-or S BadSides) e in
      let two = chain-both (or_refuse A BadLength) (λ rest. or_refuse T (BadSetting 0) (G rest)) (chain-or A BadLength) one.1 in
      let three = chain-both (or_refuse T (BadSetting 0)) G (chain-or T (BadSetting 0)) two.1 in
      let four = chain-both K (or_refuse P (BadState (cells_of s))) (chain-good d3q19 (grid_of s) (state_of 18 a)) three.1 in
      record {
        sides = or-true S BadSides one.0;
        lengths = head-sized s a (or-true A BadLength two.0);
        numbers = carry-three s a (or-true A BadLength two.0);
        site = or-true T (BadSetting 0) three.0;
        good = accepted-done (K Done) four.0;
        totals = or-true P (BadState (cells_of s)) four.1;
      }

  module _ (room : List ℕ) where
    abbrev last : Answer
    last = room_test (record_length s a) room

    answer-is : write_answer s g t a room ≡ fits last
    unfolding write_answer
    answer-is = refl

    -- refused by a test or for want of room, or written
    wrote : {w : Written} {after : List ℕ} → WroteOn (fits last) (record_of s g t a) (record_length s a) room w after → Wrote s g t a room w after
    unfolding written written_room write_answer
    wrote p = record { answer-is = p.answer-so; room-is = p.room-so }

    pub write-refused : {w : Written} {r : Refusal} → w ≡ Err r → Err r ≡ fits Done → Wrote s g t a room w room
    write-refused h e = wrote (refused-on fits chain_fits (record_of s g t a) (record_length s a) room h e)

    pub write-short : (n : ℕ) → n ≡ record_length s a → accepted (fits Done) ≡ true → length room < n → Wrote s g t a room (Err (BadRoom n)) room
    write-short n is ok h = wrote (short_on fits chain_fits (record_of s g t a) (record_length s a) room n is ok h)

    pub write_done : (n : ℕ) (after : List ℕ) → n ≡ record_length s a → accepted (fits Done) ≡ true → n ≤ length room → after ≡ sets room 0 (record_of s g t a)
        → Wrote s g t a room (Ok n) after
    write_done n after is ok h e =
        wrote (done_on fits chain_fits (record_of s g t a) (record_length s a) room n after is (length-record s g t a (fit ok).lengths.flags) ok h e)

    -- what an accepted write has shown
    pub write-fit : write_answer s g t a room ≡ Done → Fit
    write-fit e = fit (chain-both fits (λ rest. last) chain_fits (done-accepted (fits last) (sym answer-is ∙ e))).0
