-- From the tests and the written lines to the outcome, and that no second outcome fits. Assumes nothing.
use mathlib.Core.Path.{◌≡◌, refl, sym, ap, ◌∙◌, subst}
use mathlib.Core.List.{List}
use Prim.Native.Nat.{ℕ, ◌<◌, ◌≤◌}
use borrow.Author.Tests.{lt-ltb, le-ltb}
use lib.Dec.{lit<}
use lib.IntN.{ℤ}
use lib.Ieee.{Float}
use lib.ListN.{length, get_or}
use lib.Seq.{ext_get_or}
use Rattle.std.specs.Prelude.{Ok, Err, Option, Some, None}
use Rattle.grid.specs.Answer.{Answer, Done}
use Rattle.grid.specs.declared.refusals.Refusal.{Refusal}
use Rattle.tunnel.specs.Depth.{zero_float}
use Rattle.tunnel.proofs.Floats.{exactly-one}
use Rattle.profile.specs.declared.Frame.{Frame}
use Rattle.profile.specs.Profile.{Survey, survey, depth_at, deepest}
use Rattle.profile.specs.Outcome.{Profiled, tests_answer, deepest_answer, profiled_by, profile_answer, kinds_by, DepthsOf, DepthsBy, Told}
use Rattle.profile.specs.inner.Lines.{Written}

pub told-refused : (v : Survey) (chainages : List ℤ) (kinds : List ℕ) (depths : List Float) (refusal : Refusal) → Err refusal ≡ tests_answer v chainages (length kinds) (length depths)
    → Told v chainages kinds depths (Err refusal) kinds depths
unfolding profile_answer
told-refused v chainages kinds depths refusal e =
    record {
      answer-is = ap (λ (a : Answer). profiled_by a (deepest_answer (length chainages) (deepest v (length chainages)))) e;
      kinds-are = ap (λ (a : Answer). kinds_by a v (length chainages) kinds) e;
      depths-are = subst (λ (a : Answer). DepthsBy a v (length chainages) depths depths) e refl;
    }

pub told-done : (f : Frame) (flags fills : List ℕ) (points chainages : List ℤ) (kinds : List ℕ) (depths : List Float) (at : ℕ) (kinds_after : List ℕ) (depths_after : List Float) (r : Option ℕ)
    → Done ≡ tests_answer (survey f flags fills points) chainages (length kinds) (length depths)
    → Written f flags fills points (length chainages) at kinds_after depths_after
    → r ≡ deepest_answer (length chainages) at
    → Told (survey f flags fills points) chainages kinds depths (Ok r) kinds_after depths_after
unfolding profile_answer
told-done f flags fills points chainages kinds depths at kinds_after depths_after r e w a =
    let v = survey f flags fills points in
    record {
      answer-is =
          ap (λ (o : Option ℕ). Ok o) (a ∙ ap (deepest_answer (length chainages)) w.at-is)
          ∙ ap (λ (b : Answer). profiled_by b (deepest_answer (length chainages) (deepest v (length chainages)))) e;
      kinds-are = w.kinds-are ∙ ap (λ (b : Answer). kinds_by b v (length chainages) kinds) e;
      depths-are = subst (λ (b : Answer). DepthsBy b v (length chainages) depths depths_after) e w.depths-are;
    }

-- ---- no second outcome fits
depths-one : (v : Survey) (m : ℕ) (one other : List Float) → DepthsOf v m one → DepthsOf v m other → one ≡ other
depths-one v m one other h k =
    ext_get_or zero_float one other (h.size ∙ sym k.size)
    (λ j b. let l : j < m = subst (λ (n : ℕ). j < n) h.size b in exactly-one (get_or one j zero_float) (get_or other j zero_float) (depth_at v j) 65536 (lit< tt) (h.each j l) (k.each j l))

pub by_one : (a : Answer) (v : Survey) (m : ℕ) (depths one other : List Float) → DepthsBy a v m depths one → DepthsBy a v m depths other → one ≡ other
by_one (Ok _) v m depths one other h k = depths-one v m one other h k
by_one (Err refusal) v m depths one other h k = h ∙ sym k

-- two outcomes of the same input are the same
pub record Same (r t : Profiled) (kinds kinds' : List ℕ) (depths depths' : List Float) : Type 0 where
  pub answer : r ≡ t
  pub kinds-same : kinds ≡ kinds'
  pub depths-same : depths ≡ depths'

pub told-one : (v : Survey) (chainages : List ℤ) (kinds : List ℕ) (depths : List Float) (r t : Profiled) (k k' : List ℕ) (d d' : List Float)
    → Told v chainages kinds depths r k d → Told v chainages kinds depths t k' d' → Same r t k k' d d'
told-one v chainages kinds depths r t k k' d d' x y =
    record {
      answer = x.answer-is ∙ sym y.answer-is;
      kinds-same = x.kinds-are ∙ sym y.kinds-are;
      depths-same = by_one (tests_answer v chainages (length kinds) (length depths)) v (length chainages) depths d d' x.depths-are y.depths-are;
    }

-- ---- the two answers that are no refusal
pub is-deep : (m at : ℕ) → at < m → Some at ≡ deepest_answer m at
is-deep m at h = simp (lt-ltb at m h)

pub is-dry : (m at : ℕ) → m ≤ at → None ≡ deepest_answer m at
is-dry m at h = simp (le-ltb at m h)
