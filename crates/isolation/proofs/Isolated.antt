-- (c) Isolation over histories. From two schemes that pass their tests, whatever the two designers do in any order: both schemes go on passing their
-- tests; and what one of them is answered, its scheme and the map follow from its start and from what it sees alone: its own deeds and the accepted
-- changes of the map. So two histories that agree on these give the same answers and states, whatever the other does. The idea: what is seen can be
-- replayed with no other scheme there, and the replay is the history. Assumes nothing.
use mathlib.Core.Path.{◌≡◌, refl, sym, ap, ap₂, ◌∙◌, subst}
use mathlib.Core.Bool.{Bool, true, false}
use mathlib.Core.List.{List, [], ◌∷◌}
use Prim.Native.Nat.{ℕ}
use lib.ListN.{set}
use Rattle.grid.specs.declared.Sides.{Sides}
use Rattle.grid.specs.Answer.{Answer}
use Rattle.grid.specs.Answer.{Done}
use Rattle.grid.specs.State.{Lent}
use Rattle.grid.specs.Outcome.{accepted}
use Rattle.schemes.specs.Scheme.{tested}
use Rattle.schemes.specs.Outcome.{if_done}
use Rattle.walls.specs.Outcome.{wanted, in_way, wall_answer, wall_map, alone_answer}
use Rattle.walls.proofs.Alone.{unless_way, beside-good}
use Rattle.walls.proofs.Kept.{kept-holds}
use Rattle.isolation.specs.Deeds.{Reply, answered, reply}
use Rattle.isolation.specs.History.{does, asks, Turn, mine, theirs, World, Sound, after, reached, told, Seen, changed, seen, map_if, answer_if, replay_told, replay_own, replay_map}
use Rattle.isolation.specs.Claims.{Isolated}
use Rattle.isolation.proofs.Done.{done-kept}
use Rattle.std.specs.Prelude.{Ok, Err}

-- ---- every act keeps both schemes sound

-- the map after a question is the one that its answer says
pub map-told : (s : Sides) (map : List ℕ) (a b : Lent) (add : Bool) (c : ℕ) (x : Answer) → wall_answer s map a b add c ≡ x → wall_map s map a b add c ≡ if_done x (set map c (wanted add)) map
unfolding wall_map
map-told s map a b add c x e = ap (λ (y : Answer). if_done y (set map c (wanted add)) map) e

wall-kept : (s : Sides) (map : List ℕ) (a b : Lent) (add : Bool) (c : ℕ) → tested s map a true ≡ Done → tested s map b true ≡ Done
    → (tested s (wall_map s map a b add c) a true ≡ Done) × (tested s (wall_map s map a b add c) b true ≡ Done)
wall-kept s map a b add c t u = go (wall_answer s map a b add c) refl
  where
    go : (x : Answer) → wall_answer s map a b add c ≡ x → (tested s (wall_map s map a b add c) a true ≡ Done) × (tested s (wall_map s map a b add c) b true ≡ Done)
    go (Ok _) e = let k = kept-holds s map a b add c e in (k.0.checked, k.1.checked)
    go (Err refusal) e =
        let q = map-told s map a b add c (Err refusal) e in
        (subst (λ (m : List ℕ). tested s m a true ≡ Done) (sym q) t, subst (λ (m : List ℕ). tested s m b true ≡ Done) (sym q) u)

pub act-kept : (s : Sides) (t : Turn) (w : World) → Sound s w → Sound s (after s t w)
act-kept s (mine (does d)) w k = record { own = done-kept s w.map w.own d k.own; other = k.other }
act-kept s (mine (asks add c)) w k = let r = wall-kept s w.map w.own w.other add c k.own k.other in record { own = r.0; other = r.1 }
act-kept s (theirs (does d)) w k = record { own = k.own; other = done-kept s w.map w.other d k.other }
act-kept s (theirs (asks add c)) w k = let r = wall-kept s w.map w.other w.own add c k.other k.own in record { own = r.1; other = r.0 }

pub sound-kept : (s : Sides) (h : List Turn) (w : World) → Sound s w → Sound s (reached s h w)
unfolding reached
sound-kept s [] w k = k
sound-kept s (t ∷ h) w k = sound-kept s h (after s t w) (act-kept s t w k)

-- ---- an answer to a question, from whether it was accepted
answer-cases : (x : Answer) (way : Bool) (c : ℕ) → unless_way x way c ≡ answer_if (accepted (unless_way x way c)) x c
answer-cases (Err refusal) way c = refl
answer-cases (Ok _) true c = refl
answer-cases (Ok _) false c = refl

pub answer-is : (s : Sides) (map : List ℕ) (a b : Lent) (add : Bool) (c : ℕ) → tested s map b true ≡ Done
    → wall_answer s map a b add c ≡ answer_if (accepted (wall_answer s map a b add c)) (alone_answer s map a add c) c
answer-is s map a b add c u =
    let e = beside-good s map a b add c u in
    e ∙ answer-cases (alone_answer s map a add c) (in_way s b.flags add c) c ∙ ap (λ (x : Answer). answer_if (accepted x) (alone_answer s map a add c) c) (sym e)

pub map_is : (s : Sides) (map : List ℕ) (a b : Lent) (add : Bool) (c : ℕ) → wall_map s map a b add c ≡ map_if (accepted (wall_answer s map a b add c)) map add c
unfolding wall_map
map_is s map a b add c = go (wall_answer s map a b add c)
  where
    go : (x : Answer) → if_done x (set map c (wanted add)) map ≡ map_if (accepted x) map add c
    go (Ok _) = refl
    go (Err refusal) = refl

-- ---- the history is the replay of what is seen
pub record Replayed (s : Sides) (h : List Turn) (w : World) (e : List Seen) (map : List ℕ) (a : Lent) : Type 0 where
  pub answers : told s h w ≡ replay_told s e map a
  pub own : (reached s h w).own ≡ replay_own s e map a
  pub map_same : (reached s h w).map ≡ replay_map s e map a

pub replayed : (s : Sides) (h : List Turn) (w : World) → Sound s w → Replayed s h w (seen s h w) w.map w.own
unfolding reached told seen replay_told replay_own replay_map
replayed s [] w k = record { answers = refl; own = refl; map_same = refl }
replayed s (mine (does d) ∷ h) w k =
    let r = replayed s h (after s (mine (does d)) w) (act-kept s (mine (does d)) w k) in
    record { answers = ap (λ (l : List Reply). reply s w.map w.own d ∷ l) r.answers; own = r.own; map_same = r.map_same }
replayed s (mine (asks add c) ∷ h) w k =
    let t : Turn = mine (asks add c) in
    let r = replayed s h (after s t w) (act-kept s t w k) in
    let x = wall_answer s w.map w.own w.other add c in
    let q = map_is s w.map w.own w.other add c in
    let v : Replayed s h (after s t w) (seen s h (after s t w)) (map_if (accepted x) w.map add c) w.own
    = subst (λ (m : List ℕ). Replayed s h (after s t w) (seen s h (after s t w)) m w.own) q r in
    record {
      answers = ap₂ (λ (y : Answer) (l : List Reply). answered y ∷ l) (answer-is s w.map w.own w.other add c k.other) v.answers;
      own = v.own;
      map_same = v.map_same;
    }
replayed s (theirs (does d) ∷ h) w k =
    let r = replayed s h (after s (theirs (does d)) w) (act-kept s (theirs (does d)) w k) in
    record { answers = r.answers; own = r.own; map_same = r.map_same }
replayed s (theirs (asks add c) ∷ h) w k =
    unseen s add c h w (replayed s h (after s (theirs (asks add c)) w) (act-kept s (theirs (asks add c)) w k))
  where
    unseen : (s : Sides) (add : Bool) (c : ℕ) (h : List Turn) (w : World)
        → Replayed s h (after s (theirs (asks add c)) w) (seen s h (after s (theirs (asks add c)) w)) (wall_map s w.map w.other w.own add c) w.own
        → Replayed s (theirs (asks add c) ∷ h) w (seen s (theirs (asks add c) ∷ h) w) w.map w.own
    unseen s add c h w r = go (wall_answer s w.map w.other w.own add c) refl
      where
        w' : World
        w' = after s (theirs (asks add c)) w

        go : (x : Answer) → wall_answer s w.map w.other w.own add c ≡ x
            → Replayed s (theirs (asks add c) ∷ h) w (if_done x (changed add c ∷ seen s h w') (seen s h w')) w.map w.own
        go (Ok _) e =
            let v = subst (λ (m : List ℕ). Replayed s h w' (seen s h w') m w.own) (map-told s w.map w.other w.own add c Done e) r in
            record { answers = v.answers; own = v.own; map_same = v.map_same }
        go (Err refusal) e =
            let v = subst (λ (m : List ℕ). Replayed s h w' (seen s h w') m w.own) (map-told s w.map w.other w.own add c (Err refusal) e) r in
            record { answers = v.answers; own = v.own; map_same = v.map_same }

-- ---- the theorem
pub isolated-holds : Isolated
isolated-holds s h k v w sv sw m o e =
    let x = replayed s h v sv in
    let y = replayed s k w sw in
    record {
      answers = x.answers ∙ three (replay_told s) e m o ∙ sym y.answers;
      own = x.own ∙ three (replay_own s) e m o ∙ sym y.own;
      map_same = x.map_same ∙ three (replay_map s) e m o ∙ sym y.map_same;
    }
  where
    three : {A : Type 0} (f : List Seen → List ℕ → Lent → A) {e e' : List Seen} {m m' : List ℕ} {a a' : Lent} → e ≡ e' → m ≡ m' → a ≡ a' → f e m a ≡ f e' m' a'
    three f u v w i = f (u i) (v i) (w i)
