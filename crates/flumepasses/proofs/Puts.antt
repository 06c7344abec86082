-- Pass 1's second set, cell by cell: once cell c's parts are pasted, one more cell holds its moved parts, and those after it are as they were. Assumes nothing.
use mathlib.Core.Path.{◌≡◌, refl, sym, ap, ◌∙◌}
use mathlib.Core.List.{List, []}
use Prim.Native.Nat.{ℕ, zero, suc, ◌+◌, ◌*◌, ◌≤◌, ◌<◌}
use native.Mathlib.Decide.{ℕ_discrete}
use native.Mathlib.Omega.{arith}
use lib.Arith.{lt_of_le-ne}
use lib.IntN.{ℤ, pos}
use lib.ListN.{length, get_or}
use Rattle.whole.specs.Fold.{tab}
use Rattle.whole.specs.laws.Tab.{get_or-tab}
use Rattle.lattice.specs.declared.Settings.{Settings}
use Rattle.grid.specs.State.{Scene, by_flag}
use Rattle.grid.specs.Step.{collided}
use Rattle.grid.specs.inner.Between.{moved_part}
use Rattle.grid.specs.inner.Sight.{sight}
use Rattle.flume.proofs.Flowing.{collided-none}
use Rattle.nine.specs.inner.Cells.{part_of9, pasted9, Quiet}
use Rattle.nine.proofs.Pasted.{pasted-here, pasted-other}
use Rattle.flumearrivals.specs.inner.Seen.{sight9}
use Rattle.flumearrivals.proofs.Nines.{part_none}

by-nothing : (f : ℕ) (x : ℤ) → x ≡ pos 0 → by_flag f (pos 0) x x (pos 0) ≡ pos 0
by-nothing zero x e = refl
by-nothing (suc zero) x e = e
by-nothing (suc (suc zero)) x e = e
by-nothing (suc (suc (suc n))) x e = refl

module _ (flags : List ℕ) (parts : List ℤ) (fills off : List ℕ) (low : ℕ) (g : Settings) where
  abbrev S : Scene
  S = sight9 flags parts [] fills off low g

  -- nothing is moved to an idle place
  quiet : (c : ℕ) → Quiet (tab 19 (moved_part S c))
  unfolding moved_part sight
  quiet c = record { at = λ i n. get_or-tab 19 (moved_part S c) (pos 0) i (omega (arith, n.low)) ∙ by-nothing (get_or flags c 3) (collided S c i) (collided-none _ _ _ _ (part_none parts) c i n) }

  -- the cells after the one that is put stay
  pub put-past : (parts2 after : List ℤ) (c : ℕ) → 9 * c + 9 ≤ length parts2 → after ≡ pasted9 parts2 c (tab 19 (moved_part S c))
      → (j k : ℕ) → c + 1 ≤ j → k < 19 → part_of9 after j k ≡ part_of9 parts2 j k
  put-past parts2 after c h e j k l m = ap (λ (x : List ℤ). part_of9 x j k) e ∙ pasted-other parts2 c (tab 19 (moved_part S c)) h j k (λ p. omega arith) m

  pub put-more : (parts2 after : List ℤ) (c : ℕ) → 9 * c + 9 ≤ length parts2 → after ≡ pasted9 parts2 c (tab 19 (moved_part S c))
      → ((j k : ℕ) → j < c → k < 19 → part_of9 parts2 j k ≡ moved_part S j k) → (j k : ℕ) → j < c + 1 → k < 19 → part_of9 after j k ≡ moved_part S j k
  put-more parts2 after c h e b j k l m = ap (λ (x : List ℤ). part_of9 x j k) e ∙ go (ℕ_discrete j c)
    where
      go : Dec (j ≡ c) → part_of9 (pasted9 parts2 c (tab 19 (moved_part S c))) j k ≡ moved_part S j k
      go (yes p) =
          ap (λ (n : ℕ). part_of9 (pasted9 parts2 c (tab 19 (moved_part S c))) n k) p ∙ pasted-here parts2 c (tab 19 (moved_part S c)) h (quiet c) k m
          ∙ get_or-tab 19 (moved_part S c) (pos 0) k m ∙ ap (λ (n : ℕ). moved_part S n k) (sym p)
      go (no q) = pasted-other parts2 c (tab 19 (moved_part S c)) h j k q m ∙ b j k (lt_of_le-ne (omega arith) q) m
