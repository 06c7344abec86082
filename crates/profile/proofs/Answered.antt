-- The customer's words, proved of every outcome: the deepest point is the deepest and the first among equals; an accepted list has 1 to 2,000 points whose
-- chainages rise, and each of its lines says what placing and depth say. Assumes nothing.
use mathlib.Core.Path.{◌≡◌, refl, sym, ap, ◌∙◌, subst}
use mathlib.Core.Logic.{◌⊎◌, inl, inr}
use mathlib.Core.Bool.{true, false, ◌||◌}
use mathlib.Core.List.{List}
use Prim.Native.Nat.{ℕ, suc, ◌/◌, ◌%◌, ◌≤◌, ◌<◌}
use native.Mathlib.Nat.{zero-add, mod-lt}
use native.Mathlib.Omega.{arith}
use borrow.Author.Tests.{not-true, not-false, eqb-false}
use lib.Dec.{eqb}
use lib.IntN.{ℤ}
use lib.ListN.{length}
use Rattle.whole.specs.Fold.{first}
use Rattle.whole.specs.laws.Search.{first_passes, first-none, before-first}
use Rattle.whole.specs.laws.Order.{le_z-false}
use Rattle.grid.specs.declared.Sides.{Sides}
use Rattle.grid.specs.Answer.{Done}
use Rattle.grid.specs.Grid.{sides_good}
use Rattle.grid.proofs.GoodSides.{good-sides}
use Rattle.std.specs.Prelude.{Ok}
use Rattle.tunnel.specs.Place.{Placed}
use Rattle.tunnel.specs.Depth.{Reading, reading_number, reading_sum, solid, dry, deep, depth_of, measured_of}
use Rattle.tunnel.proofs.Tests.{Reads, reads-solid, reads-dry, reads-deep, measured-reads, measures, lengths, two-means, Finds, finds-none, finds-cell, place-finds}
use Rattle.profile.specs.Profile.{Survey, point_at, placed_at, column_of, shown_by, seen, depth_at, not_above, far, broken, is_deepest, deepest}
use Rattle.profile.specs.Outcome.{tests_answer}
use Rattle.profile.specs.Demands.{Deepest, AllDry, Line, is-outside, is_read, Listed}
use Rattle.profile.proofs.Deepest.{deepest-wet, deepest-most, before-deepest, no-deepest}
use Rattle.profile.proofs.Passed.{tests-opened, tests-walked}

-- ---- the deepest point
pub deepest-is : (v : Survey) (m : ℕ) → deepest v m < m → Deepest v m (deepest v m)
unfolding deepest
deepest-is v m h =
    let i = first m (is_deepest v m) in
    let e : is_deepest v m i ≡ true = first_passes m 0 (is_deepest v m) (subst (λ (n : ℕ). i < n) (sym (zero-add m)) h) in
    record {
      is-point = h;
      wet = deepest-wet v m i e;
      most = deepest-most v m i e;
      first = λ j k.
          let z = subst (λ (a : ℕ). a < i) (sym (zero-add j)) k in
          before-deepest v m i h e j k (ap (is_deepest v m) (sym (zero-add j)) ∙ before-first m 0 (is_deepest v m) j z);
    }

pub none-deepest : (v : Survey) (m : ℕ) → m ≤ deepest v m → AllDry v m
none-deepest v m h = record { dry = no-deepest v m h }

-- ---- an accepted list
read_as : (w : Reading) → Reads w → (w ≡ Ok solid) ⊎ ((w ≡ Ok dry) ⊎ ((0 < reading_sum w) × (w ≡ Ok (deep (reading_sum w)))))
read_as w reads-solid = inl refl
read_as w reads-dry = inr (inl refl)
read_as w (reads-deep h) = inr (inr (h, refl))

-- a cell's column shows what depth answers, and that is no refusal
column-reads : (s : Sides) (flags fills : List ℕ) (c : ℕ) → sides_good s ≡ true → lengths s flags fills 0 0 ≡ true
    → (eqb (reading_number (column_of s flags fills c)) 4 || eqb (reading_number (column_of s flags fills c)) 6) ≡ false → Reads (column_of s flags fills c)
unfolding column_of
column-reads s flags fills c g l e =
    let x = c % s.nx in
    let y = c / s.nx % s.ny in
    let k = good-sides s g in
    let d : depth_of s flags fills x y ≡ measured_of s flags fills x y =
    measures s flags fills x y g l (mod-lt c (omega (arith, k.x.low))) (mod-lt (c / s.nx) (omega (arith, k.y.low))) in
    subst Reads (sym d) (measured-reads s flags fills x y (subst (λ (w : Reading). (eqb (reading_number w) 4 || eqb (reading_number w) 6) ≡ false) d e))

line-by : (v : Survey) (i : ℕ) (p : Placed) → placed_at v.frame v.points i ≡ p → Finds p → sides_good v.frame.sides ≡ true
    → lengths v.frame.sides v.flags v.fills 0 0 ≡ true → broken v i ≡ false → Line v i
unfolding seen broken depth_at
line-by v i p e finds-none g l b = is-outside e
line-by v i p e (finds-cell c) g l b =
    let s = v.frame.sides in
    let shown : seen v i ≡ column_of s v.flags v.fills c = ap (shown_by s v.flags v.fills) e in
    let r = column-reads s v.flags v.fills c g l (subst (λ (w : Reading). (eqb (reading_number w) 4 || eqb (reading_number w) 6) ≡ false) shown b) in
    is_read c e shown (read_as (seen v i) (subst Reads (sym shown) r))

pub listed : (v : Survey) (chainages : List ℤ) (kinds depths : ℕ) → tests_answer v chainages kinds depths ≡ Done → Listed v chainages
unfolding far placed_at
listed v chainages kinds depths e =
    let o = tests-opened v chainages kinds depths e in
    let w = tests-walked v chainages kinds depths e in
    let m = length chainages in
    let s = v.frame.sides in
    let l : lengths s v.flags v.fills 0 0 ≡ true = not-false _ (sym (two-means s v.flags v.fills o.sides) ∙ not-true _ o.lent) in
    record {
      some = let z = eqb-false m 0 (not-true _ o.some) in omega (arith, z);
      most = o.few;
      rise = λ i h. le_z-false (first-none m (not_above chainages) w.up (suc i) h);
      lines = λ i h.
          let f = place-finds s v.frame.edge v.frame.origin (point_at v.points i) o.sides (first-none m (far v.frame v.points) w.near i h) in
          line-by v i (placed_at v.frame v.points i) refl f o.sides l (first-none m (broken v) w.sound i h);
    }
