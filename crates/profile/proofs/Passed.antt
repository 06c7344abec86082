-- What a list that passed the tests has: good sides, three coordinates, a kind and a depth for each chainage. Assumes nothing.
use mathlib.Core.Path.{◌≡◌, refl, sym, ap, subst}
use mathlib.Core.Bool.{Bool, true, false, not, ◌&&◌, ◌||◌, false≢true}
use mathlib.Core.List.{List}
use Prim.Native.Nat.{ℕ, ◌*◌, ◌≤◌, ◌<◌}
use native.Mathlib.Nat.{zero-add}
use borrow.Author.Tests.{eqb-true, leb-true, leb-false}
use lib.Dec.{eqb, leb}
use lib.IntN.{ℤ}
use lib.ListN.{length}
use Rattle.whole.specs.laws.Bools.{and_left, and_right}
use Rattle.whole.specs.Fold.{first}
use Rattle.whole.specs.laws.Search.{first_passes}
use Rattle.grid.specs.declared.Sides.{Sides}
use Rattle.std.specs.Prelude.{Result, Ok, Err}
use Rattle.grid.specs.Answer.{Answer, Done}
use Rattle.grid.specs.declared.refusals.Refusal.{Refusal}
use Rattle.grid.specs.declared.refusals.Refusal.TheVariants.{BadChainage, BadLength, BadList, BadSetting, BadSides}
use Rattle.grid.specs.Outcome.{accepted}
use Rattle.grid.specs.Grid.{sides_good}
use Rattle.tunnel.specs.Refusal.{or_else}
use Rattle.tunnel.specs.Place.{placing_of, placed_number}
use Rattle.tunnel.specs.declared.Depth.{Depth}
use Rattle.tunnel.specs.Depth.{Reading, reading_number, depth_of, DepthIs, is-refused, is-solid, is-dry, is-deep}
use Rattle.profile.specs.declared.Frame.{Frame}
use Rattle.profile.specs.Profile.{Survey, seen, not_above, far, broken}
use Rattle.profile.specs.Outcome.{list_whole, open_answer, columns_answer, tests_answer, refused_by, and_then}

-- a test that let the rest answer, and the rest
pub passed : (t : Bool) (refusal : Refusal) (rest : Answer) → or_else t (Err refusal) rest ≡ Done → t ≡ true
passed true refusal rest e = refl
passed false refusal rest e = absurd (false≢true (ap accepted e))

pub rested : (t : Bool) (refusal : Refusal) (rest : Answer) → or_else t (Err refusal) rest ≡ Done → rest ≡ Done
rested true refusal rest e = e
rested false refusal rest e = absurd (false≢true (ap accepted e))

-- depth's 1 is that of the sides
sides-by : (s : Sides) (flags fills : List ℕ) → not (eqb (reading_number (depth_of s flags fills 0 0)) 1) ≡ true → sides_good s ≡ true
unfolding depth_of
sides-by s flags fills e = go (sides_good s) refl
  where
    go : (t : Bool) → sides_good s ≡ t → sides_good s ≡ true
    go true p = p
    go false p = absurd (false≢true (simp p at e))

pub record Opened (f : Frame) (flags fills : List ℕ) (m points kinds depths : ℕ) : Type 0 where
  pub sides : sides_good f.sides ≡ true
  pub points-size : points ≡ 3 * m
  pub kinds-size : kinds ≡ m
  pub depths-size : depths ≡ m
  pub few : m ≤ 2000
  pub some : not (eqb m 0) ≡ true
  pub lent : not (eqb (reading_number (depth_of f.sides flags fills 0 0)) 2) ≡ true

pub opened : (f : Frame) (flags fills : List ℕ) (m points kinds depths : ℕ) → open_answer f flags fills m points kinds depths ≡ Done → Opened f flags fills m points kinds depths
unfolding open_answer list_whole
opened f flags fills m points kinds depths e =
    let n = reading_number (depth_of f.sides flags fills 0 0) in
    let whole = eqb points (3 * m) && eqb kinds m && eqb depths m in
    let r = placed_number (placing_of f.sides f.edge f.origin f.origin) in
    let last = or_else (not (eqb r 3)) (Err (BadSetting 0)) Done in
    let long = or_else (leb m 2000) (Err BadList) last in
    let some = or_else (not (eqb m 0)) (Err BadList) long in
    let listed = or_else whole (Err BadLength) some in
    let lent = or_else (not (eqb n 2)) (Err BadLength) listed in
    let e2 = rested (not (eqb n 1)) BadSides lent e in
    let e3 = rested (not (eqb n 2)) BadLength listed e2 in
    let e4 = rested whole BadLength some e3 in
    let e5 = rested (not (eqb m 0)) BadList long e4 in
    let w = passed whole BadLength some e3 in
    let pk = and_left (eqb points (3 * m) && eqb kinds m) (eqb depths m) w in
    record {
      sides = sides-by f.sides flags fills (passed (not (eqb n 1)) BadSides lent e);
      points-size = eqb-true points (3 * m) (and_left (eqb points (3 * m)) (eqb kinds m) pk);
      kinds-size = eqb-true kinds m (and_right (eqb points (3 * m)) (eqb kinds m) pk);
      depths-size = eqb-true depths m (and_right (eqb points (3 * m) && eqb kinds m) (eqb depths m) w);
      few = leb-true m 2000 (passed (leb m 2000) BadList last e5);
      some = passed (not (eqb m 0)) BadList long e4;
      lent = passed (not (eqb n 2)) BadLength listed e2;
    }

-- all tests
then-first : (a rest : Answer) → and_then a rest ≡ Done → a ≡ Done
then-first (Ok _) rest e = refl
then-first (Err refusal) rest e = e

pub tests-opened : (v : Survey) (chainages : List ℤ) (kinds depths : ℕ) → tests_answer v chainages kinds depths ≡ Done
    → Opened v.frame v.flags v.fills (length chainages) (length v.points) kinds depths
unfolding tests_answer
tests-opened v chainages kinds depths e = opened v.frame v.flags v.fills (length chainages) (length v.points) kinds depths (then-first _ _ e)

pub open-refused : (v : Survey) (chainages : List ℤ) (kinds depths : ℕ) {refusal : Refusal}
    → Err refusal ≡ open_answer v.frame v.flags v.fills (length chainages) (length v.points) kinds depths
    → Err refusal ≡ tests_answer v chainages kinds depths
unfolding tests_answer
open-refused v chainages kinds depths e =
    let m = length chainages in
    let up = first m (not_above chainages) in
    let out = first m (far v.frame v.points) in
    ap (λ (a : Answer). and_then a (or_else (leb m up) (Err (BadChainage up)) (or_else (leb m out) (Err (BadSetting out)) (columns_answer v m)))) e

-- the tests of the points
then-rest : (a rest : Answer) → and_then a rest ≡ Done → rest ≡ Done
then-rest (Ok _) rest e = e
then-rest (Err refusal) rest e = absurd (false≢true (ap accepted e))

-- what the code's answer refuses, its reading refuses
abbrev refused_as : Result Depth Refusal → Answer
refused_as (Ok depth) = Done
refused_as (Err refusal) = Err refusal

pub refused-alike : {a : Result Depth Refusal} {w : Reading} → DepthIs a w → refused_by w ≡ refused_as a
refused-alike is-refused = refl
refused-alike is-solid = refl
refused-alike is-dry = refl
refused-alike (is-deep h) = refl

-- a column that fails is refused
is-broken : (w : Reading) → (eqb (reading_number w) 4 || eqb (reading_number w) 6) ≡ true → refused_by w ≡ Done → ⊥
is-broken (Ok shown) b e = false≢true b
is-broken (Err refusal) b e = false≢true (ap accepted e)

sound-by : (v : Survey) (m : ℕ) → (let i = first m (broken v) in or_else (leb m i) (refused_by (seen v i)) Done ≡ Done) → m ≤ first m (broken v)
unfolding broken
sound-by v m e = go (leb m i) refl e
  where
    i : ℕ
    i = first m (broken v)

    go : (t : Bool) → leb m i ≡ t → or_else t (refused_by (seen v i)) Done ≡ Done → m ≤ i
    go true p e = leb-true m i p
    go false p e =
        let h : i < m = leb-false m i p in
        absurd (is-broken (seen v i) (first_passes m 0 (broken v) (subst (λ (n : ℕ). i < n) (sym (zero-add m)) h)) e)

pub record Walked (v : Survey) (chainages : List ℤ) : Type 0 where
  pub up : length chainages ≤ first (length chainages) (not_above chainages)
  pub near : length chainages ≤ first (length chainages) (far v.frame v.points)
  pub sound : length chainages ≤ first (length chainages) (broken v)

pub tests-walked : (v : Survey) (chainages : List ℤ) (kinds depths : ℕ) → tests_answer v chainages kinds depths ≡ Done → Walked v chainages
unfolding tests_answer columns_answer
tests-walked v chainages kinds depths e =
    let m = length chainages in
    let up = first m (not_above chainages) in
    let out = first m (far v.frame v.points) in
    let bad = first m (broken v) in
    let columns = or_else (leb m bad) (refused_by (seen v bad)) Done in
    let placed = or_else (leb m out) (Err (BadSetting out)) columns in
    let e1 = then-rest (open_answer v.frame v.flags v.fills m (length v.points) kinds depths) (or_else (leb m up) (Err (BadChainage up)) placed) e in
    let e2 = rested (leb m up) (BadChainage up) placed e1 in
    let e3 = rested (leb m out) (BadSetting out) columns e2 in
    record {
      up = leb-true m up (passed (leb m up) (BadChainage up) placed e1);
      near = leb-true m out (passed (leb m out) (BadSetting out) columns e2);
      sound = sound-by v m e3;
    }
