-- What the program tells is `told_of`: of a record read into slices of the room that is taken for it, and stepped into others of that room. Assumes nothing.
use mathlib.Core.Path.{◌≡◌, refl, sym, ap, ◌∙◌}
use mathlib.Core.Bool.{Bool, true, false, cond}
use mathlib.Core.List.{List}
use Prim.Native.Nat.{ℕ, ◌*◌, ◌≤◌, ◌<◌}
use borrow.Author.Tests.{leb-true, le-leb, lt-leb, eq-eqb}
use lib.ListN.{length}
use Rattle.grid.specs.Answer.{Answer}
use Rattle.grid.specs.Answer.{Done}
use Rattle.grid.specs.State.{Lent}
use Rattle.grid.specs.Outcome.{accepted, lengths_good}
use Rattle.record.specs.Reading.{sides_in, settings_in, cells_in, read_answer}
use Rattle.record.proofs.Answers.{or-pass}
use Rattle.record.proofs.Shaped.{sound, fitting, shape-accepted, content-accepted}
use Rattle.console.specs.Room.{room_for}
use Rattle.lines.specs.declared.playing.Told.{Told}
use Rattle.counts.specs.Counts.{line_of}
use Rattle.lines.specs.Told.{record_answer, state_before, step_of, state_after, refusal, told_of}
use Rattle.lines.specs.inner.Playing.{line_by, stepped_by, told_by}
use Rattle.lines.proofs.Rooms.{room_whole, fits-room, Roomy, read_is}
use Rattle.lines.proofs.Stepping.{line-is, before-carry, step_is, second_is, after-carry}
use Rattle.grid.specs.declared.refusals.Refusal.TheVariants.{BadEnd}
use Rattle.std.specs.Prelude.{Err}

-- the second set and the marks have that room too
pub record Second (r : List ℕ) (most : ℕ) (b : Lent) (marks : List ℕ) : Type 0 where
  pub flags : length b.flags ≡ room_for r most
  pub parts : length b.parts ≡ 19 * room_for r most
  pub masses : length b.masses ≡ room_for r most
  pub fills : length b.fills ≡ room_for r most
  pub carry : length b.carry ≡ 1
  pub marked : length marks ≡ room_for r most

sized : (n : ℕ) (b : Lent) → length b.flags ≡ n → length b.parts ≡ 19 * n → length b.masses ≡ n → length b.fills ≡ n → length b.carry ≡ 1
    → lengths_good n b ≡ true
unfolding lengths_good
sized n b f p m i c = rw (eq-eqb _ _ f, eq-eqb _ _ p, eq-eqb _ _ m, eq-eqb _ _ i, eq-eqb _ _ c) refl

-- too many bytes
pub told_long : (r : List ℕ) → 65536 < length r → refusal (Err (BadEnd 65536)) ≡ told_of r
unfolding told_of record_answer
told_long r h = rw (lt-leb (length r) 65536 h) refl

module _ (r : List ℕ) (a b : Lent) (marks : List ℕ) (few : length r ≤ 65536) (roomy : Roomy r 862 a) (second : Second r 862 b marks) where
  answer-is : read_answer r a ≡ record_answer r
  unfolding record_answer
  answer-is = read_is r 862 a roomy ∙ sym (or-pass (BadEnd 65536) _ (le-leb (length r) 65536 few))

  accepts : accepted (read_answer r a) ≡ true
      → stepped_by (sides_in r) (settings_in r) (state_before r) b marks ≡ record { read = Done; before = line_of (state_before r); step = step_of r; after = line_of (state_after r) }
  accepts e =
      let s = shape-accepted r a e in
      let k = sound r (length a.parts) (length a.masses) (length a.fills) (length a.carry) s in
      let c = content-accepted r a e in
      let fit = fitting r (length a.parts) (length a.masses) (length a.fills) (length a.carry) s in
      let few-cells : cells_in r ≤ 862 = leb-true (cells_in r) 862 (sym (fits-room r k.first k.sides 862 roomy.parts roomy.masses roomy.fills roomy.carry) ∙ fit) in
      let n = room_whole r k.first k.sides 862 few-cells in
      let lb = sized (cells_in r) b (second.flags ∙ n) (second.parts ∙ ap (λ (x : ℕ). 19 * x) n) (second.masses ∙ n) (second.fills ∙ n) second.carry in
      let lm = second.marked ∙ n in
      λ i. record {
        read = Done;
        before = line-is (state_before r) (before-carry r k c) i;
        step = step_is r k c b marks lb lm i;
        after = (ap line_by (second_is r k c b marks lb lm) ∙ line-is (state_after r) (after-carry r k c)) i;
      }

  pub told_is : told_by r a b marks ≡ told_of r
  unfolding told_by told_of
  told_is =
      go (accepted (read_answer r a)) refl
      ∙ ap (λ (x : Answer). cond (accepted x) (record { read = Done; before = line_of (state_before r); step = step_of r; after = line_of (state_after r) }) (refusal x)) answer-is
    where
      go : (t : Bool) → accepted (read_answer r a) ≡ t
          → cond (accepted (read_answer r a)) (stepped_by (sides_in r) (settings_in r) (state_before r) b marks) (refusal (read_answer r a))
          ≡ cond (accepted (read_answer r a)) (record { read = Done; before = line_of (state_before r); step = step_of r; after = line_of (state_after r) }) (refusal (read_answer r a))
      go true e = ap (λ (x : Told). cond (accepted (read_answer r a)) x (refusal (read_answer r a))) (accepts e)
      go false e = rw e refl
