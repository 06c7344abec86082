-- Exchange: what one side gains the other loses, since the cut quotient is odd. Assumes nothing.
use mathlib.Core.Path.{◌≡◌, ap, ◌∙◌}
use Prim.Native.Nat.{ℕ, ◌+◌}
use native.Mathlib.Nat.{add_comm}
use lib.IntN.{ℤ, pos, neg_ℤ, ◌*ℤ◌}
use lib.Signed.{quot_z}
use Rattle.whole.specs.laws.Quot.{quot-exchange}
use Rattle.lattice.specs.Cell.{exchange}

pub exchange-back : (a b : ℕ) (d : ℤ) → exchange (b + a) (neg_ℤ d) ≡ neg_ℤ (exchange (a + b) d)
unfolding exchange
exchange-back a b d =
    ap (λ (t : ℕ). quot_z (pos t *ℤ neg_ℤ d) (pos 131072)) (add_comm b a) ∙ quot-exchange (pos (a + b)) d (pos 131072)
