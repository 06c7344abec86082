-- A loop that stores two elements a turn, the second first: what a turn keeps. Assumes nothing.
use mathlib.Core.Path.{◌≡◌, subst}
use mathlib.Core.List.{List}
use Prim.Native.Nat.{ℕ, ◌+◌, ◌<◌}
use native.Mathlib.Omega.{arith}
use lib.ListN.{length, set, length-set}
use lib.Seq.{set_comm}
use Rattle.whole.specs.laws.Tab.{Upto, upto-more}

module _ {ℓ} {A : Type ℓ} (d : A) (f : ℕ → A) where
  pub upto-pair : (out : List A) (c n : ℕ) (x y : A) → c + 1 < length out → n ≡ c + 2 → Upto d f out c → y ≡ f c → x ≡ f (c + 1) → Upto d f (set (set out (c + 1) x) c y) n
  upto-pair out c n x y h e u p q =
      let first = upto-more d f out c y (omega arith) u p in
      let both = upto-more d f (set out c y) (c + 1) x (omega (arith, length-set out c y)) first q in
      subst (λ (l : List A). Upto d f l n) (set_comm out c (c + 1) y x (λ e. omega arith)) (subst (λ (n : ℕ). Upto d f (set (set out c y) (c + 1) x) n) (omega arith) both)
