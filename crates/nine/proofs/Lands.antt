-- Where a part of the flume lands: one of the eight by its end, an idle one at 0, each as stage 4 wants it. Assumes nothing.
use mathlib.Core.Path.{◌≡◌, refl, sym, ap₂, ◌∙◌}
use mathlib.Core.Bool.{Bool, true, false}
use mathlib.Core.List.{List}
use mathlib.Core.Logic.{inr}
use Prim.Native.Nat.{ℕ, suc, ◌+◌, ◌%◌, ◌<◌, ◌≤◌}
use native.Mathlib.Omega.{arith}
use lib.IntN.{ℤ, pos, ◌-ℤ◌}
use lib.Signed.{◌≤ℤ◌}
use lib.ListN.{get_or}
use Rattle.lattice.specs.declared.Flow.{Flow}
use Rattle.lattice.specs.inner.Held.{parts_of, vec}
use Rattle.lattice.specs.Body.{relaxed_dir}
use Rattle.landings.specs.inner.Estimate.{landed}
use Rattle.landings.proofs.Landed.{landed-part}
use Rattle.flume.specs.inner.Spread.{idle, Idle, spread_lattice}
use Rattle.nine.specs.inner.Cells.{Quiet}
use Rattle.nine.specs.inner.Ends.{EndsNine}
use Rattle.nine.proofs.Places.{landed_none, idle-stays}

module _ (v : Flow) (p : ℤ) (f : List ℤ) (e : List ℕ) (quiet : Quiet f) (deep : pos 294912 ≤ℤ v.rho) (ends : EndsNine v p e) where
  pub lands : (k : ℕ) → k < 18 → get_or e k 0 % 4294967296 ≤ 4293918719
      → landed (get_or e k 0) (parts_of f (suc k)) (pos 1024 -ℤ p) ≡ relaxed_dir spread_lattice v.rho (vec v) p (parts_of f) (suc k)
  lands k h low = go (idle (suc k)) refl
    where
      go : (b : Bool) → idle (suc k) ≡ b → landed (get_or e k 0) (parts_of f (suc k)) (pos 1024 -ℤ p) ≡ relaxed_dir spread_lattice v.rho (vec v) p (parts_of f) (suc k)
      go true t =
          let n : Idle (suc k) = record { low = h; none = t } in
          ap₂ (λ (m : ℕ) (x : ℤ). landed m x (pos 1024 -ℤ p)) (ends.none k h t) (quiet.at (suc k) n) ∙ landed_none (pos 1024 -ℤ p)
          ∙ sym (idle-stays v.rho (vec v) p (parts_of f) (suc k) n (quiet.at (suc k) n))
      go false t =
          let s = ends.at k h t in
          landed-part spread_lattice v p (parts_of f) (suc k) (get_or e k 0) s.lack deep s.near (inr (omega (arith, s.small, low)))
