-- A run turn by turn, on any ground: what an accepted step leaves is fit for the next, so that the definition's step after step, which tests each set anew, is
-- the code's, which tests the first one only. Both sets end up with the state reached. Assumes nothing.
use mathlib.Core.Path.{◌≡◌, refl, sym, ap, ◌∙◌, subst}
use mathlib.Core.Bool.{Bool, true, false, not, cond}
use mathlib.Core.List.{List}
use Prim.Native.Nat.{ℕ, suc, ◌+◌, ◌-◌, ◌≤◌, ◌<◌}
use native.Mathlib.Nat.{add-zero}
use native.Mathlib.Omega.{arith}
use lib.ListN.{length, replicate, length-replicate}
use Rattle.grid.specs.Answer.{Answer}
use Rattle.grid.specs.Answer.{Done}
use Rattle.grid.specs.State.{Lent}
use Rattle.grid.specs.Outcome.{accepted, Ran, ran_by}
use Rattle.grid.specs.inner.Halfway.{Alike}
use Rattle.run.specs.inner.Turns.{here, there, Evened}
use Rattle.std.specs.Prelude.{Err}
use Rattle.grid.specs.declared.refusals.Refusal.{Refusal}

-- what a run goes by: how many cells, the definition's step with all its tests, tests 7 and 8 alone, and the next set; Fit says that tests 1 to 6 pass, Sized
-- that the slices are of their lengths
pub record Course : Type 1 where
  pub cells : ℕ
  pub answer : Lent → Answer
  pub move : Lent → Answer
  pub onward : Lent → Lent
  pub Fit : Lent → Type 0
  pub Sized : Lent → Type 0

-- a fit set needs no test but 7 and 8, and what an accepted step leaves is fit again
pub record Lawful (C : Course) : Type 0 where
  pub agrees : (a : Lent) → C.Fit a → C.answer a ≡ C.move a
  pub again : (a : Lent) → C.Fit a → C.move a ≡ Done → C.Fit (C.onward a)
  pub sized : (a : Lent) → C.Fit a → C.Sized a
  pub alike : (a b : Lent) → C.Sized a → C.Sized b → Alike a b

both-kept : (back : Bool) (first second x : Lent) → here back first second ≡ x → there back first second ≡ x → (first ≡ x) × (second ≡ x)
both-kept true first second x p q = (q, p)
both-kept false first second x p q = (p, q)

module _ (C : Course) where
  abbrev pub goes : ℕ → Lent → Ran
  goes k a = ran_by C.answer C.onward k a

  -- ---- what is left of a run after k steps
  pub record Left (steps k : ℕ) (start a : Lent) : Type 0 where
    pub count : (goes steps start).count ≡ k + (goes (steps - k) a).count
    pub stop : (goes steps start).stop ≡ (goes (steps - k) a).stop
    pub reached : (goes steps start).reached ≡ (goes (steps - k) a).reached

  goes_on : (k : ℕ) (a : Lent) → accepted (C.answer a) ≡ true
      → goes (suc k) a ≡ record { count = suc (goes k (C.onward a)).count; stop = (goes k (C.onward a)).stop; reached = (goes k (C.onward a)).reached }
  goes_on k a e = rw (e, ran_by) refl

  goes-stopped : (k : ℕ) (a : Lent) → accepted (C.answer a) ≡ false → goes (suc k) a ≡ record { count = 0; stop = C.answer a; reached = a }
  goes-stopped k a e = rw (e, ran_by) refl

  left-first : (steps : ℕ) (a : Lent) → Left steps 0 a a
  left-first steps a = let z : steps - 0 ≡ steps = omega arith in record { count = rw z (omega arith); stop = rw z refl; reached = rw z refl }

  module _ (steps k : ℕ) (start a : Lent) (h : k < steps) (l : Left steps k start a) where
    less : steps - k ≡ suc (steps - (k + 1))
    less = omega arith

    left-made : accepted (C.answer a) ≡ true → Left steps (k + 1) start (C.onward a)
    left-made e =
        let m : goes (steps - k) a ≡ _ = ap (λ (n : ℕ). goes n a) less ∙ goes_on (steps - (k + 1)) a e in
        record {
          count = l.count ∙ ap (λ (r : Ran). k + r.count) m ∙ omega arith;
          stop = l.stop ∙ ap (λ (r : Ran). r.stop) m;
          reached = l.reached ∙ ap (λ (r : Ran). r.reached) m;
        }

    left-stopped : accepted (C.answer a) ≡ false → (k ≡ (goes steps start).count) × (C.answer a ≡ (goes steps start).stop) × (a ≡ (goes steps start).reached)
    left-stopped e =
        let m : goes (steps - k) a ≡ _ = ap (λ (n : ℕ). goes n a) less ∙ goes-stopped (steps - (k + 1)) a e in
        (sym (l.count ∙ ap (λ (r : Ran). k + r.count) m ∙ add-zero k), sym (l.stop ∙ ap (λ (r : Ran). r.stop) m), sym (l.reached ∙ ap (λ (r : Ran). r.reached) m))

  left-none : (steps k : ℕ) (start a : Lent) → k ≡ steps → Left steps k start a → (k ≡ (goes steps start).count) × (Done ≡ (goes steps start).stop) × (a ≡ (goes steps start).reached)
  left-none steps k start a e l =
      let z : steps - k ≡ 0 = omega arith in
      let m : goes (steps - k) a ≡ goes 0 a = ap (λ (n : ℕ). goes n a) z in
      (sym (l.count ∙ ap (λ (r : Ran). k + r.count) m ∙ add-zero k), sym (l.stop ∙ ap (λ (r : Ran). r.stop) m), sym (l.reached ∙ ap (λ (r : Ran). r.reached) m))

  -- ---- one turn: a step from here to there, and nothing written here
  pub record Passed (back : Bool) (a b : Lent) (answer : Answer) (first second : Lent) (after : List ℕ) : Type 0 where
    pub answer-is : answer ≡ C.move (here back a b)
    pub second_is : there back first second ≡ cond (accepted (C.move (here back a b))) (C.onward (here back a b)) (here back a b)
    pub marks-are : after ≡ replicate C.cells 0
    pub kept : here back first second ≡ here back a b

  -- ---- the loop: `back` tells which set holds the state reached by k accepted steps
  pub record Going (steps : ℕ) (start : Lent) (k : ℕ) (back : Bool) (a b : Lent) (marks : List ℕ) : Type 0 where
    pub most : k ≤ steps
    pub lawful : Lawful C
    pub ready : C.Fit (here back a b)
    pub first : C.Sized a
    pub second : C.Sized b
    pub marked : length marks ≡ C.cells
    pub left : Left steps k start (here back a b)

  -- the definition's count, stop and state, the state in both sets, no mark left
  pub record Ended (steps : ℕ) (start : Lent) (count : ℕ) (answer : Answer) (first second : Lent) (after : List ℕ) : Type 0 where
    pub count-is : count ≡ (goes steps start).count
    pub answer-is : answer ≡ (goes steps start).stop
    pub first-is : first ≡ (goes steps start).reached
    pub second_is : second ≡ (goes steps start).reached
    pub marks-are : after ≡ replicate C.cells 0

  pub going-first : (steps : ℕ) (a b : Lent) (marks : List ℕ) → Lawful C → C.Fit a → C.Sized b → length marks ≡ C.cells → Going steps a 0 false a b marks
  going-first steps a b marks w r z m = record {
    most = omega arith;
    lawful = w;
    ready = r;
    first = w.sized a r;
    second = z;
    marked = m;
    left = left-first steps a;
  }

  -- a turn that is accepted
  made : {steps : ℕ} {start : Lent} {k : ℕ} → k < steps → (x y : Lent) → Lawful C → C.Fit x → Left steps k start x → C.move x ≡ Done → y ≡ cond (accepted (C.move x)) (C.onward x) x
      → (C.Fit y) × (C.Sized y) × (Left steps (k + 1) start y)
  made {steps} {start} {k} h x y w r l e m =
      let n : y ≡ C.onward x = m ∙ ap (λ (t : Answer). cond (accepted t) (C.onward x) x) e in
      let f = w.again x r e in (
        subst (λ (t : Lent). C.Fit t) (sym n) f,
        subst (λ (t : Lent). C.Sized t) (sym n) (w.sized (C.onward x) f),
        subst (λ (t : Lent). Left steps (k + 1) start t) (sym n) (left-made steps k start x h l (ap accepted (w.agrees x r ∙ e))),
      )

  module _ {steps : ℕ} {start : Lent} {k : ℕ} {marks : List ℕ} where
    pub going-alike : (back : Bool) {a b : Lent} → Going steps start k back a b marks → Alike (here back a b) (there back a b)
    going-alike true {a} {b} i = i.lawful.alike b a i.second i.first
    going-alike false {a} {b} i = i.lawful.alike a b i.first i.second

    module _ (h : k < steps) where
      pub going_on : (back : Bool) {a b first second : Lent} {after : List ℕ} {answer : Answer} → answer ≡ Done → Going steps start k back a b marks
          → Passed back a b answer first second after → Going steps start (k + 1) (not back) first second after
      going_on true {a} {b} {first} {second} e i t =
          let m = made h b first i.lawful i.ready i.left (sym t.answer-is ∙ e) t.second_is in
          record {
            most = omega arith;
            lawful = i.lawful;
            ready = m.0;
            first = m.1;
            second = subst (λ (x : Lent). C.Sized x) (sym t.kept) i.second;
            marked = ap length t.marks-are ∙ length-replicate C.cells 0;
            left = m.2;
          }
      going_on false {a} {b} {first} {second} e i t =
          let m = made h a second i.lawful i.ready i.left (sym t.answer-is ∙ e) t.second_is in
          record {
            most = omega arith;
            lawful = i.lawful;
            ready = m.0;
            first = subst (λ (x : Lent). C.Sized x) (sym t.kept) i.first;
            second = m.1;
            marked = ap length t.marks-are ∙ length-replicate C.cells 0;
            left = m.2;
          }

      -- one that is refused: both sets hold what was reached
      pub going-stops : (back : Bool) {a b first second : Lent} {after : List ℕ} {answer : Answer} {refusal : Refusal} → answer ≡ Err refusal → Going steps start k back a b marks
          → Passed back a b answer first second after → Ended steps start k (Err refusal) first second after
      going-stops back {a} {b} {first} {second} {refusal = refusal} q i t =
          let x = here back a b in
          let e : C.move x ≡ Err refusal = sym t.answer-is ∙ q in
          let r = i.lawful.agrees x i.ready in
          let l = left-stopped steps k start x h i.left (ap accepted (r ∙ e)) in
          let w : there back first second ≡ x = t.second_is ∙ ap (λ (t : Answer). cond (accepted t) (C.onward x) x) e in
          let f = both-kept back first second x t.kept w in
          record {
            count-is = l.0;
            answer-is = sym q ∙ t.answer-is ∙ sym r ∙ l.1;
            first-is = f.0 ∙ l.2;
            second_is = f.1 ∙ l.2;
            marks-are = t.marks-are;
          }

    -- all steps are made: both sets hold the last one's state, and the marks are cleared, since a run of no steps has not cleared them
    pub going-ends : (back : Bool) {a b first second : Lent} {after : List ℕ} → steps ≤ k → Going steps start k back a b marks → Evened back a b first second
        → after ≡ replicate (length marks) 0 → Ended steps start k Done first second after
    going-ends back {a} {b} h i t e =
        let l = left-none steps k start (here back a b) (omega (arith, i.most)) i.left in
        record { count-is = l.0; answer-is = l.1; first-is = t.first-is ∙ l.2; second_is = t.second_is ∙ l.2; marks-are = e ∙ ap (λ (n : ℕ). replicate n 0) i.marked }
