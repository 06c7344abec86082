-- The lines below i are written, one more, and all. Assumes nothing.
use mathlib.Core.Path.{◌≡◌, sym, ap, ◌∙◌, subst}
use mathlib.Core.List.{List}
use Prim.Native.Nat.{ℕ, ◌+◌, ◌/◌, ◌%◌, ◌<◌}
use native.Mathlib.Nat.{not-suc-le-zero}
use native.Mathlib.Omega.{arith}
use borrow.Author.Count.{below_more}
use lib.Ieee.{Float}
use lib.ListN.{length, get_or, set, length-set}
use lib.Seq.{get_or-set_same, get_or-set_other}
use Rattle.whole.specs.Fold.{tab}
use Rattle.whole.specs.laws.Tab.{upto-more, upto_all}
use Rattle.grid.specs.declared.Sides.{Sides}
use Rattle.std.specs.Prelude.{Result, Ok, Err}
use Rattle.grid.specs.declared.refusals.Refusal.{Refusal}
use Rattle.tunnel.specs.Place.{Placed}
use Rattle.tunnel.specs.Exact.{Exactly}
use Rattle.tunnel.specs.inner.Parts.{Parts}
use Rattle.tunnel.specs.declared.Depth.{Depth}
use Rattle.tunnel.specs.Depth.{Reading, reading_sum, zero_float, told_of, DepthIs}
use Rattle.tunnel.proofs.Cases.{tells}
use Rattle.tunnel.proofs.Fractions.{exactly-number}
use Rattle.tunnel.proofs.Few.{few-depth}
use Rattle.profile.specs.Kinds.{line_for, line_kind}
use Rattle.profile.specs.inner.Lines.{depth_line, LinesTo}
use Rattle.profile.specs.Profile.{Survey, placed_at, column_of, shown_by, seen, depth_at}
use Rattle.profile.specs.Outcome.{DepthsOf}

-- a depth is below 2^24 65,536ths
few-shown : (s : Sides) (flags fills : List ℕ) (p : Placed) → reading_sum (shown_by s flags fills p) < 16777216
unfolding column_of
few-shown s flags fills (Ok c) = few-depth s flags fills (c % s.nx) (c / s.nx % s.ny)
few-shown s flags fills (Err refusal) = omega arith

few-seen : (v : Survey) (i : ℕ) → depth_at v i < 16777216
unfolding depth_at seen
few-seen v i = few-shown v.frame.sides v.flags v.fills (placed_at v.frame v.points i)

-- the kind of the code's depth is that of the reading that it stands for
kind-is : {a : Result Depth Refusal} {w : Reading} → DepthIs a w → depth_line a ≡ line_kind w
kind-is h = ap line_for (tells h).kind-is

-- what the code's depth of point i is
module _ (v : Survey) (i : ℕ) {a : Result Depth Refusal} (h : DepthIs a (seen v i)) where
  pub value-exact : Exactly (told_of a).value (depth_at v i) 65536
  unfolding depth_at
  value-exact = (tells h).value-is

  pub value-parts : Parts (told_of a).value 65536
  value-parts = record { count = depth_at v i; few = few-seen v i; is = value-exact }

-- the number that the value is
pub number-of : (v : Survey) (i : ℕ) {a : Result Depth Refusal} {x : Float} (n : ℕ) → DepthIs a (seen v i) → x ≡ (told_of a).value → Exactly x n 65536 → n ≡ depth_at v i
number-of v i {a} {x} n h e k = exactly-number (told_of a).value n (depth_at v i) 65536 (subst (λ (y : Float). Exactly y n 65536) e k) (value-exact v i h)

pub lines_none : (v : Survey) (m : ℕ) (kinds : List ℕ) (depths : List Float) → length kinds ≡ m → length depths ≡ m → LinesTo v m 0 kinds depths
lines_none v m kinds depths k d =
    record { kinds-size = k; depths-size = d; kind = λ j h. absurd (not-suc-le-zero h); depth = λ j h. absurd (not-suc-le-zero h) }

pub lines_more : (v : Survey) (m i : ℕ) (kinds : List ℕ) (depths : List Float) {a : Result Depth Refusal} {k : ℕ} {x : Float} → i < m → DepthIs a (seen v i) → k ≡ depth_line a → x ≡ (told_of a).value
    → LinesTo v m i kinds depths → LinesTo v m (i + 1) (set kinds i k) (set depths i x)
lines_more v m i kinds depths {a} {k} {x} l h ek ex t =
    let ik : i < length kinds = omega (arith, t.kinds-size) in
    let id : i < length depths = omega (arith, t.depths-size) in
    record {
      kinds-size = length-set kinds i k ∙ t.kinds-size;
      depths-size = length-set depths i x ∙ t.depths-size;
      kind = upto-more 0 (λ j. line_kind (seen v j)) kinds i k ik t.kind (ek ∙ kind-is h);
      depth =
          below_more (λ (j : ℕ). Exactly (get_or (set depths i x) j zero_float) (depth_at v j) 65536) i
          (λ j b. subst (λ (y : Float). Exactly y (depth_at v j) 65536) (sym (get_or-set_other depths i j x zero_float (λ e. omega arith))) (t.depth j b))
          (subst (λ (y : Float). Exactly y (depth_at v i) 65536) (sym (get_or-set_same depths i x zero_float id ∙ ex)) (value-exact v i h));
    }

-- all lines
pub lines-kinds : {v : Survey} {m : ℕ} {kinds : List ℕ} {depths : List Float} → LinesTo v m m kinds depths → kinds ≡ tab m (λ i. line_kind (seen v i))
lines-kinds {v} {m} {kinds} t = upto_all 0 (λ i. line_kind (seen v i)) kinds m t.kinds-size t.kind

pub lines-depths : {v : Survey} {m : ℕ} {kinds : List ℕ} {depths : List Float} → LinesTo v m m kinds depths → DepthsOf v m depths
lines-depths t = record { size = t.depths-size; each = t.depth }
