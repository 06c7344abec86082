-- The profile's outcome for every input: its tests in their order, its answer, and what the lines hold afterwards. Assumes nothing.
use Rattle.std.specs.Prelude.{◌≡◌, Bool, not, cond, ◌&&◌, List, ℕ, ◌*◌, ◌<◌, eqb, leb, ltb, ℤ, Float, length, get_or, Result, Ok, Err, Option, Some, None}
use Rattle.whole.specs.Fold.{first, tab}
use Rattle.grid.specs.Answer.{Answer, Done, refusal_number, refusal_place}
use Rattle.grid.specs.declared.refusals.Refusal.{Refusal}
use Rattle.grid.specs.declared.refusals.Refusal.TheVariants.{BadChainage, BadLength, BadList, BadSetting, BadSides}
use Rattle.tunnel.specs.Refusal.{or_else}
use Rattle.tunnel.specs.Exact.{Exactly}
use Rattle.tunnel.specs.Place.{placing_of, placed_number}
use Rattle.tunnel.specs.Depth.{Reading, reading_number, zero_float, depth_of}
use Rattle.profile.specs.declared.Frame.{Frame}
use Rattle.profile.specs.Kinds.{line_kind}
use Rattle.profile.specs.Profile.{Survey, seen, depth_at, not_above, far, broken, deepest}

-- ---- the tests

-- 2 of the list and its lines: three coordinates, a kind and a depth for each of m chainages
unfoldable pub list_whole : ℕ → ℕ → ℕ → ℕ → Bool
list_whole m points kinds depths = eqb points (3 * m) && eqb kinds m && eqb depths m

-- 1 and 2 as for depth, whose column (0, 0) tells them, and 2 of the list; 22; 3 of edge and origin, as placing the origin tells it
unfoldable pub open_answer : Frame → List ℕ → List ℕ → ℕ → ℕ → ℕ → ℕ → Answer
open_answer f flags fills m points kinds depths =
    let n = reading_number (depth_of f.sides flags fills 0 0) in
    or_else (not (eqb n 1)) (Err BadSides)
    (or_else (not (eqb n 2)) (Err BadLength)
    (or_else (list_whole m points kinds depths) (Err BadLength)
    (or_else (not (eqb m 0)) (Err BadList)
    (or_else (leb m 2000) (Err BadList)
    (or_else (not (eqb (placed_number (placing_of f.sides f.edge f.origin f.origin)) 3)) (Err (BadSetting 0))
    Done)))))

-- a reading's refusal, if it is one
abbrev pub refused_by : Reading → Answer
refused_by (Ok shown) = Done
refused_by (Err refusal) = Err refusal

-- 4 and 6 as for depth, by list order
unfoldable pub columns_answer : Survey → ℕ → Answer
columns_answer v m =
    let i = first m (broken v) in
    or_else (leb m i) (refused_by (seen v i)) Done

-- an answer that is no refusal lets the next one speak
abbrev pub and_then : Answer → Answer → Answer
and_then (Ok _) rest = rest
and_then (Err refusal) rest = Err refusal

-- all tests: 23 over the whole list, then 3 of a point, each at the first such point
unfoldable pub tests_answer : Survey → List ℤ → ℕ → ℕ → Answer
tests_answer v chainages kinds depths =
    let m = length chainages in
    let up = first m (not_above chainages) in
    let out = first m (far v.frame v.points) in
    and_then (open_answer v.frame v.flags v.fills m (length v.points) kinds depths)
    (or_else (leb m up) (Err (BadChainage up))
    (or_else (leb m out) (Err (BadSetting out))
    (columns_answer v m)))

-- ---- the answer and the lines

-- the deepest point, none if no point is wet; or the refusal
abbrev pub Profiled : Type 0
Profiled = Result (Option ℕ) Refusal

abbrev pub deepest_answer : ℕ → ℕ → Option ℕ
deepest_answer m at = cond (ltb at m) (Some at) None

abbrev pub profiled_by : Answer → Option ℕ → Profiled
profiled_by (Ok _) point = Ok point
profiled_by (Err refusal) point = Err refusal

unfoldable pub profile_answer : Survey → List ℤ → ℕ → ℕ → Profiled
profile_answer v chainages kinds depths =
    profiled_by (tests_answer v chainages kinds depths) (deepest_answer (length chainages) (deepest v (length chainages)))

-- the paper's number and values for each case: number and place are 0 0 if accepted, the values 0 beside a refusal
abbrev pub profiled_number : Profiled → ℕ
profiled_number (Ok point) = 0
profiled_number (Err refusal) = refusal_number refusal

abbrev pub profiled_place : Profiled → ℕ
profiled_place (Ok point) = 0
profiled_place (Err refusal) = refusal_place refusal

-- whether a point is deep: 1 or 0; and the deepest, 0 where none is
abbrev pub wet_of : Profiled → ℕ
wet_of (Ok (Some i)) = 1
wet_of (Ok None) = 0
wet_of (Err refusal) = 0

abbrev pub deepest_of : Profiled → ℕ
deepest_of (Ok (Some i)) = i
deepest_of (Ok None) = 0
deepest_of (Err refusal) = 0

-- what the kinds hold: one for each point; a refusal writes nothing
abbrev pub kinds_by : Answer → Survey → ℕ → List ℕ → List ℕ
kinds_by (Ok _) v m kinds = tab m (λ i. line_kind (seen v i))
kinds_by (Err refusal) v m kinds = kinds

-- what the depths hold: the exact f32 of each point, 0 unless it is deep; a refusal writes nothing
pub record DepthsOf (v : Survey) (m : ℕ) (depths : List Float) : Type 0 where
  pub size : length depths ≡ m
  pub each : (i : ℕ) → i < m → Exactly (get_or depths i zero_float) (depth_at v i) 65536

abbrev pub DepthsBy : Answer → Survey → ℕ → List Float → List Float → Type 0
DepthsBy (Ok _) v m depths after = DepthsOf v m after
DepthsBy (Err refusal) v m depths after = after ≡ depths

pub record Told (v : Survey) (chainages : List ℤ) (kinds : List ℕ) (depths : List Float) (answer : Profiled) (kinds_after : List ℕ) (depths_after : List Float) : Type 0 where
  pub answer-is : answer ≡ profile_answer v chainages (length kinds) (length depths)
  pub kinds-are : kinds_after ≡ kinds_by (tests_answer v chainages (length kinds) (length depths)) v (length chainages) kinds
  pub depths-are : DepthsBy (tests_answer v chainages (length kinds) (length depths)) v (length chainages) depths depths_after

-- names every definition of this file: whoever unfolds this computes with all of them
unfoldable pub open-answer : Unit {0}
unfolding list_whole open_answer columns_answer tests_answer profile_answer
open-answer = tt
