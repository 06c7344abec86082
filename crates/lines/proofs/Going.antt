-- What the walks of `go` and `play` come to: the lines of a step, and of a record read into slices. Assumes nothing.
use mathlib.Core.Path.{◌≡◌, refl, sym, ap, ◌∙◌}
use mathlib.Core.Bool.{Bool, true, false, not, cond}
use mathlib.Core.List.{List, [], ◌∷◌}
use Prim.Native.Nat.{ℕ}
use borrow.Author.Tests.{not-true, not-false}
use lib.IntN.{ℤ, pos}
use lib.ListN.{get_or}
use mir.Syntax.{w64}
use mir.Val.{to_z, of_z, SFits}
use mir.ValLaws.{to_z-of_z}
use Rattle.lattice.specs.declared.Settings.{Settings}
use Rattle.grid.specs.declared.Sides.{Sides}
use Rattle.grid.specs.Answer.{Answer}
use Rattle.grid.specs.Answer.{Done}
use Rattle.grid.specs.State.{Lent, lent, lent_of}
use Rattle.grid.specs.Outcome.{accepted}
use Rattle.grid.specs.Promise.{Stepped}
use Rattle.grid.proofs.Accepted.{accepted-done}
use Rattle.record.specs.declared.Head.{Head}
use Rattle.record.specs.Reading.{sides_in, settings_in, site_in, state_in, read_answer, read_head, read_flags, read_set}
use Rattle.counts.specs.declared.counting.Line.{Line}
use Rattle.lines.specs.declared.playing.Told.{Told}
use Rattle.counts.specs.Counts.{line_with}
use Rattle.lines.specs.Told.{state_before, refusal}
use Rattle.counts.specs.inner.Totals.{total_by}
use Rattle.lines.specs.inner.Playing.{line_by, stepped_by, told_by}

-- a carry that passed the machine is what it was
pub went : {s : Sides} {g : Settings} {flags fills : List ℕ} {parts masses : List ℤ} (k : ℤ) {b x : Lent} {marks left : List ℕ} {before after : Line} {step : Answer}
    → SFits w64 k → SFits w64 (get_or x.carry 0 (pos 0))
    → before ≡ line_with flags (total_by masses (to_z w64 (of_z w64 k))) (to_z w64 (of_z w64 k))
    → Stepped s g (lent flags parts masses fills (to_z w64 (of_z w64 k) ∷ [])) b marks step x left
    → after ≡ line_with x.flags (total_by x.masses (to_z w64 (of_z w64 (get_or x.carry 0 (pos 0))))) (to_z w64 (of_z w64 (get_or x.carry 0 (pos 0))))
    → ◌≡◌ {A = Told} (record { read = Done; before = before; step = step; after = after }) (stepped_by s g (lent flags parts masses fills (k ∷ [])) b marks)
went {s} {g} {flags} {fills} {parts} {masses} k {b} {x} {marks} {left} {before} {after} {step} fk fx p h q =
    let e = to_z-of_z w64 k fk in
    let a : ℤ → Lent = λ z. lent flags parts masses fills (z ∷ []) in
    let n : after ≡ line_by x = q ∙ ap (λ (z : ℤ). line_with x.flags (total_by x.masses z) z) (to_z-of_z w64 (get_or x.carry 0 (pos 0)) fx) in
    let m : ◌≡◌ {A = Told} (record { read = Done; before = before; step = step; after = after }) (stepped_by s g (a (to_z w64 (of_z w64 k))) b marks) =
    λ i. record { read = Done; before = p i; step = h.answer-is i; after = (n ∙ ap line_by h.second_is) i } in
    m ∙ ap (λ (z : ℤ). stepped_by s g (a z) b marks) e

-- the head's answer is the reader's
head-answer : (r : List ℕ) (a : Lent) → (read_head r a).answer ≡ read_answer r a
unfolding read_head
head-answer r a = go (accepted (read_answer r a)) refl
  where
    go : (t : Bool) → accepted (read_answer r a) ≡ t → (read_head r a).answer ≡ read_answer r a
    go true e = rw e (sym (accepted-done (read_answer r a) e))
    go false e = rw e refl

module _ (r : List ℕ) (a b : Lent) (marks : List ℕ) {h : Head} {t : Bool} (is : h ≡ read_head r a) (told : t ≡ not (accepted h.answer)) where
  answer : h.answer ≡ read_answer r a
  answer = ap (λ (k : Head). k.answer) is ∙ head-answer r a

  -- a refused record
  pub refused-told : {x : Told} → x ≡ refusal h.answer → t ≡ true → x ≡ told_by r a b marks
  unfolding told_by
  refused-told e u =
      let no : accepted (read_answer r a) ≡ false = sym (ap accepted answer) ∙ not-true (accepted h.answer) (sym told ∙ u) in
      e ∙ ap refusal answer ∙ sym (ap (λ (c : Bool). cond c (stepped_by (sides_in r) (settings_in r) (state_before r) b marks) (refusal (read_answer r a))) no)

  -- an accepted one: the set that was read, its flags the record's own
  module _ {own fills : List ℕ} {parts masses carry : List ℤ} (u : t ≡ false) (flags-are : own ≡ read_flags r a)
      (parts_are : parts ≡ (read_set r a).parts) (masses-are : masses ≡ (read_set r a).masses) (fills-are : fills ≡ (read_set r a).fills) (carry-is : carry ≡ (read_set r a).carry) where
    yes : accepted (read_answer r a) ≡ true
    yes = sym (ap accepted answer) ∙ not-false (accepted h.answer) (sym told ∙ u)

    head-is : h ≡ record { answer = Done; sides = sides_in r; settings = settings_in r; site = site_in r }
    unfolding read_head
    head-is = is ∙ rw yes refl

    set_is : lent own parts masses fills (get_or carry 0 (pos 0) ∷ []) ≡ state_before r
    unfolding read_flags read_set lent_of state_in
    set_is =
        (λ i. lent (flags-are i) (parts_are i) (masses-are i) (fills-are i) (get_or (carry-is i) 0 (pos 0) ∷ []))
        ∙ rw yes refl

    pub accepted-told : {x : Told} → x ≡ stepped_by h.sides h.settings (lent own parts masses fills (get_or carry 0 (pos 0) ∷ [])) b marks → x ≡ told_by r a b marks
    unfolding told_by
    accepted-told e =
        e
        ∙ (λ i. stepped_by (head-is i).sides (head-is i).settings (set_is i) b marks)
        ∙ sym (ap (λ (c : Bool). cond c (stepped_by (sides_in r) (settings_in r) (state_before r) b marks) (refusal (read_answer r a))) yes)
