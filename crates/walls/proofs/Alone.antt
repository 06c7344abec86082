-- (b) What the other scheme has to do with the answer to a change of the map: nothing, but for an 18. Let `alone` be the answer beside a dry scheme; beside
-- any scheme that passes its tests the answer is `alone`, unless `alone` accepts and the other's water is in the way: then it is 18 at the cell.
-- Assumes nothing.
use mathlib.Core.Path.{◌≡◌, refl, sym, ap, ◌∙◌, subst}
use mathlib.Core.Logic.{◌⊎◌, inl, inr}
use mathlib.Core.Bool.{Bool, true, false, ◌&&◌, ◌||◌, not, cond}
use mathlib.Core.List.{List}
use Prim.Native.Nat.{ℕ, suc}
use lib.Dec.{eqb, ltb}
use Rattle.grid.specs.declared.Sides.{Sides}
use Rattle.grid.specs.Answer.{Answer}
use Rattle.grid.specs.Answer.{Done}
use Rattle.grid.specs.Grid.{cells_of, grid_of}
use Rattle.grid.specs.State.{Lent}
use Rattle.grid.specs.Outcome.{accepted, or_refuse}
use Rattle.grid.proofs.Beside.{any_none}
use Rattle.schemes.specs.Scheme.{own_at, tested}
use Rattle.pumps.specs.Acts.{and_then}
use Rattle.walls.specs.Outcome.{in_way, may_change, placed, clear, wall_answer, alone_answer}
use Rattle.grid.specs.declared.refusals.Refusal.TheVariants.{BadChange, InTheWay, Outside}
use Rattle.std.specs.Prelude.{Err}
use Rattle.std.specs.Prelude.{Ok}

-- every own flag is 0
abbrev pub Dry : Lent → Type 0
Dry d = (c : ℕ) → own_at d.flags c ≡ 0

-- the answer, from the one that is given alone and from whether the other is in the way
abbrev pub unless_way : Answer → Bool → ℕ → Answer
unless_way alone way c = cond (accepted alone && way) (Err (InTheWay c)) alone

-- the chain of tests, by what each says
chain : (t : Answer) (inside may mine theirs : Bool) (c : ℕ)
    → and_then t (or_refuse inside Outside (or_refuse may (BadChange c) (or_refuse (not (mine || theirs)) (InTheWay c) Done)))
    ≡ unless_way (and_then t (or_refuse inside Outside (or_refuse may (BadChange c) (or_refuse (not mine) (InTheWay c) Done)))) theirs c
chain (Err refusal) inside may mine theirs c = refl
chain (Ok _) false may mine theirs c = refl
chain (Ok _) true false mine theirs c = refl
chain (Ok _) true true true theirs c = refl
chain (Ok _) true true false true c = refl
chain (Ok _) true true false false c = refl

pub beside-good : (s : Sides) (map : List ℕ) (a b : Lent) (add : Bool) (c : ℕ) → tested s map b true ≡ Done
    → wall_answer s map a b add c ≡ unless_way (alone_answer s map a add c) (in_way s b.flags add c) c
unfolding wall_answer alone_answer placed clear
beside-good s map a b add c e =
    ap (λ (x : Answer). and_then (tested s map a true) (and_then x (or_refuse (ltb c (cells_of s)) Outside (or_refuse (may_change s map add c) (BadChange c) (or_refuse (not (in_way s a.flags add c || in_way s b.flags add c)) (InTheWay c) Done))))) e
    ∙ chain (tested s map a true) (ltb c (cells_of s)) (may_change s map add c) (in_way s a.flags add c) (in_way s b.flags add c) c

-- a dry scheme is in nobody's way
dry-way : (s : Sides) (d : Lent) → Dry d → (add : Bool) (c : ℕ) → in_way s d.flags add c ≡ false
unfolding in_way
dry-way s d h true c = ap (λ (f : ℕ). not (eqb f 0)) (h c)
dry-way s d h false c = any_none 18 (λ i. eqb (own_at d.flags ((grid_of s).near c (suc i))) 2) (λ i k. ap (λ (f : ℕ). eqb f 2) (h ((grid_of s).near c (suc i))))

no_way : (x : Answer) (c : ℕ) → unless_way x false c ≡ x
no_way (Ok _) c = refl
no_way (Err refusal) c = refl

pub beside-dry : (s : Sides) (map : List ℕ) (a d : Lent) (add : Bool) (c : ℕ) → tested s map d true ≡ Done → Dry d
    → wall_answer s map a d add c ≡ alone_answer s map a add c
beside-dry s map a d add c e h =
    beside-good s map a d add c e
    ∙ ap (λ (w : Bool). unless_way (alone_answer s map a add c) w c) (dry-way s d h add c)
    ∙ no_way (alone_answer s map a add c) c

-- ---- the theorem: b any scheme, d any dry one, both of which pass their tests
abbrev pub Claim : Type 0
Claim =
    (s : Sides) (map : List ℕ) (a b d : Lent) (add : Bool) (c : ℕ) → tested s map b true ≡ Done → tested s map d true ≡ Done → Dry d
    → wall_answer s map a b add c ≡ unless_way (wall_answer s map a d add c) (in_way s b.flags add c) c

pub alone-holds : Claim
alone-holds s map a b d add c g e h =
    beside-good s map a b add c g ∙ ap (λ (x : Answer). unless_way x (in_way s b.flags add c) c) (sym (beside-dry s map a d add c e h))

-- so beside two schemes the answers are the same, or one of them is 18 at the cell
cases : (x : Answer) (u v : Bool) (c : ℕ)
    → (unless_way x u c ≡ unless_way x v c) ⊎ ((unless_way x u c ≡ Err (InTheWay c)) ⊎ (unless_way x v c ≡ Err (InTheWay c)))
cases (Err refusal) u v c = inl refl
cases (Ok _) true v c = inr (inl refl)
cases (Ok _) false true c = inr (inr refl)
cases (Ok _) false false c = inl refl

pub but-for-18 : (s : Sides) (map : List ℕ) (a b d : Lent) (add : Bool) (c : ℕ) → tested s map b true ≡ Done → tested s map d true ≡ Done
    → (wall_answer s map a b add c ≡ wall_answer s map a d add c) ⊎ ((wall_answer s map a b add c ≡ Err (InTheWay c)) ⊎ (wall_answer s map a d add c ≡ Err (InTheWay c)))
but-for-18 s map a b d add c g e =
    subst (λ (x : Answer). (x ≡ wall_answer s map a d add c) ⊎ ((x ≡ Err (InTheWay c)) ⊎ (wall_answer s map a d add c ≡ Err (InTheWay c)))) (sym (beside-good s map a b add c g))
    (subst (λ (x : Answer). (unless_way (alone_answer s map a add c) (in_way s b.flags add c) c ≡ x) ⊎ ((unless_way (alone_answer s map a add c) (in_way s b.flags add c) c ≡ Err (InTheWay c)) ⊎ (x ≡ Err (InTheWay c))))
    (sym (beside-good s map a d add c e)) (cases (alone_answer s map a add c) (in_way s b.flags add c) (in_way s d.flags add c) c))
