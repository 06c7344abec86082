-- The one exception, over histories: two histories that agree on a scheme's start, on what its designer does and on the changes that the map undergoes at
-- the other's asking give the same answers until a question is accepted in the one and refused with 18 in the other. Assumes nothing.
use mathlib.Core.Path.{◌≡◌, refl, sym, ap, ◌∙◌, subst}
use mathlib.Core.Bool.{Bool, true, false, true≢false}
use mathlib.Core.List.{List, [], ◌∷◌}
use Prim.Native.Nat.{ℕ}
use lib.ListN.{set}
use Rattle.grid.specs.declared.Sides.{Sides}
use Rattle.grid.specs.Answer.{Answer}
use Rattle.grid.specs.Answer.{Done}
use Rattle.grid.specs.State.{Lent}
use Rattle.grid.specs.Outcome.{accepted}
use Rattle.schemes.specs.Outcome.{if_done}
use Rattle.walls.specs.Outcome.{wanted, wall_answer, wall_map, alone_answer}
use Rattle.isolation.specs.Deeds.{Reply, answered, reply, done}
use Rattle.isolation.specs.History.{does, asks, Turn, mine, theirs, World, Sound, after, told, Seen, did, asked, changed, seen, map_if, answer_if, replay_told}
use Rattle.isolation.specs.Courses.{Course, doing, asking, undergoing, course, grants, Until18, end, same, first-18, second-18}
use Rattle.isolation.specs.Claims.{Excepted}
use Rattle.isolation.proofs.Isolated.{act-kept, map-told, map_is, answer-is, replayed}
use Rattle.std.specs.Prelude.{Ok, Err}

-- the replay by course and grants
abbrev answers : Sides → List Course → List Bool → List ℕ → Lent → List Reply
answers s [] f map a = []
answers s (doing e ∷ d) f map a = reply s map a e ∷ answers s d f map (done s map a e)
answers s (asking add c ∷ d) [] map a = []
answers s (asking add c ∷ d) (ok ∷ f) map a = answered (answer_if ok (alone_answer s map a add c) c) ∷ answers s d f (map_if ok map add c) a
answers s (undergoing add c ∷ d) f map a = answers s d f (set map c (wanted add)) a

replay-is : (s : Sides) (e : List Seen) (map : List ℕ) (a : Lent) → replay_told s e map a ≡ answers s (course e) (grants e) map a
unfolding replay_told
replay-is s [] map a = refl
replay-is s (did d ∷ e) map a = ap (λ (l : List Reply). reply s map a d ∷ l) (replay-is s e map (done s map a d))
replay-is s (asked add c ok ∷ e) map a = ap (λ (l : List Reply). answered (answer_if ok (alone_answer s map a add c) c) ∷ l) (replay-is s e (map_if ok map add c) a)
replay-is s (changed add c ∷ e) map a = replay-is s e (set map c (wanted add)) a

-- a grant says whether the answer accepts
abbrev Fair : Sides → List Course → List Bool → List ℕ → Lent → Type 0
Fair s [] f map a = Unit
Fair s (doing e ∷ d) f map a = Fair s d f map (done s map a e)
Fair s (asking add c ∷ d) [] map a = ⊥
Fair s (asking add c ∷ d) (ok ∷ f) map a = (ok ≡ accepted (answer_if ok (alone_answer s map a add c) c)) × Fair s d f (map_if ok map add c) a
Fair s (undergoing add c ∷ d) f map a = Fair s d f (set map c (wanted add)) a

fair : (s : Sides) (h : List Turn) (w : World) → Sound s w → Fair s (course (seen s h w)) (grants (seen s h w)) w.map w.own
unfolding seen
fair s [] w k = tt
fair s (mine (does d) ∷ h) w k = fair s h (after s (mine (does d)) w) (act-kept s (mine (does d)) w k)
fair s (mine (asks add c) ∷ h) w k =
    let r = fair s h (after s (mine (asks add c)) w) (act-kept s (mine (asks add c)) w k) in
    let x = wall_answer s w.map w.own w.other add c in (
      ap accepted (answer-is s w.map w.own w.other add c k.other),
      subst (λ (m : List ℕ). Fair s (course (seen s h (after s (mine (asks add c)) w))) (grants (seen s h (after s (mine (asks add c)) w))) m w.own) (map_is s w.map w.own w.other add c) r,
    )
fair s (theirs (does d) ∷ h) w k = fair s h (after s (theirs (does d)) w) (act-kept s (theirs (does d)) w k)
fair s (theirs (asks add c) ∷ h) w k = unseen s add c h w (fair s h (after s (theirs (asks add c)) w) (act-kept s (theirs (asks add c)) w k))
  where
    unseen : (s : Sides) (add : Bool) (c : ℕ) (h : List Turn) (w : World)
        → Fair s (course (seen s h (after s (theirs (asks add c)) w))) (grants (seen s h (after s (theirs (asks add c)) w))) (wall_map s w.map w.other w.own add c) w.own
        → Fair s (course (seen s (theirs (asks add c) ∷ h) w)) (grants (seen s (theirs (asks add c) ∷ h) w)) w.map w.own
    unseen s add c h w r = go (wall_answer s w.map w.other w.own add c) refl
      where
        l : List Seen
        l = seen s h (after s (theirs (asks add c)) w)

        go : (x : Answer) → wall_answer s w.map w.other w.own add c ≡ x
            → Fair s (course (if_done x (changed add c ∷ l) l)) (grants (if_done x (changed add c ∷ l) l)) w.map w.own
        go (Ok _) e = subst (λ (m : List ℕ). Fair s (course l) (grants l) m w.own) (map-told s w.map w.other w.own add c Done e) r
        go (Err refusal) e = subst (λ (m : List ℕ). Fair s (course l) (grants l) m w.own) (map-told s w.map w.other w.own add c (Err refusal) e) r

-- the same course, whatever was granted
until : (s : Sides) (d : List Course) (f g : List Bool) (map : List ℕ) (a : Lent) → Fair s d f map a → Fair s d g map a → Until18 (answers s d f map a) (answers s d g map a)
until s [] f g map a u v = end
until s (doing e ∷ d) f g map a u v = same (reply s map a e) (until s d f g map (done s map a e) u v)
until s (undergoing add c ∷ d) f g map a u v = until s d f g (set map c (wanted add)) a u v
until s (asking add c ∷ d) [] g map a u v = absurd u
until s (asking add c ∷ d) (i ∷ f) [] map a u v = absurd v
until s (asking add c ∷ d) (true ∷ f) (true ∷ g) map a u v = same (answered (answer_if true (alone_answer s map a add c) c)) (until s d f g (map_if true map add c) a u.1 v.1)
until s (asking add c ∷ d) (false ∷ f) (false ∷ g) map a u v = same (answered (answer_if false (alone_answer s map a add c) c)) (until s d f g map a u.1 v.1)
until s (asking add c ∷ d) (true ∷ f) (false ∷ g) map a u v = withheld (alone_answer s map a add c) u.0
  where
    -- alone accepts, so a refusal is an 18
    withheld : (x : Answer) → true ≡ accepted (answer_if true x c)
        → Until18 (answered (answer_if true x c) ∷ answers s d f (map_if true map add c) a) (answered (answer_if false x c) ∷ answers s d g (map_if false map add c) a)
    withheld (Ok _) e = second-18 c (answers s d f (map_if true map add c) a) (answers s d g (map_if false map add c) a)
    withheld (Err refusal) e = absurd (true≢false e)
until s (asking add c ∷ d) (false ∷ f) (true ∷ g) map a u v = withheld (alone_answer s map a add c) v.0
  where
    withheld : (x : Answer) → true ≡ accepted (answer_if true x c)
        → Until18 (answered (answer_if false x c) ∷ answers s d f (map_if false map add c) a) (answered (answer_if true x c) ∷ answers s d g (map_if true map add c) a)
    withheld (Ok _) e = first-18 c (answers s d f (map_if false map add c) a) (answers s d g (map_if true map add c) a)
    withheld (Err refusal) e = absurd (true≢false e)

pub exception-holds : Excepted
exception-holds s h k v w sv sw m o e =
    let x = (replayed s h v sv).answers ∙ replay-is s (seen s h v) v.map v.own in
    let y = (replayed s k w sw).answers ∙ replay-is s (seen s k w) w.map w.own in
    let f = moved (λ d n a. Fair s d (grants (seen s k w)) n a) (sym e) (sym m) (sym o) (fair s k w sw) in
    let z = until s (course (seen s h v)) (grants (seen s h v)) (grants (seen s k w)) v.map v.own (fair s h v sv) f in
    let t = subst (λ (l : List Reply). Until18 l (answers s (course (seen s h v)) (grants (seen s k w)) v.map v.own)) (sym x) z in
    subst (λ (l : List Reply). Until18 (told s h v) l) (three (λ d n a. answers s d (grants (seen s k w)) n a) e m o ∙ sym y) t
  where
    three : {A : Type 0} (f : List Course → List ℕ → Lent → A) {e e' : List Course} {m m' : List ℕ} {a a' : Lent} → e ≡ e' → m ≡ m' → a ≡ a' → f e m a ≡ f e' m' a'
    three f u v w i = f (u i) (v i) (w i)

    moved : (P : List Course → List ℕ → Lent → Type 0) {e e' : List Course} {m m' : List ℕ} {a a' : Lent} → e ≡ e' → m ≡ m' → a ≡ a' → P e m a → P e' m' a'
    moved P {e} {e'} {m} {m'} {a} {a'} u v w p = subst (P e' m') w (subst (λ (y : List ℕ). P e' y a) v (subst (λ (x : List Course). P x m a) u p))
