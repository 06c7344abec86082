-- From the promise of pools to the exported call's; and no second number, place or value, and no second content of a lent slice, fits it. Assumes nothing.
use mathlib.Core.Path.{◌≡◌, sym, ap, ◌∙◌}
use Prim.Native.Nat.{ℕ}
use Rattle.grid.specs.declared.Sides.{Sides}
use Rattle.grid.specs.State.{Lent}
use Rattle.pools.specs.Outcome.{Told, Room, told_number, told_place, told_pools, Asked}
use Rattle.hostpools.specs.Pools.{PoolsTold}

pub pools-told : {s : Sides} {a : Lent} {r : Room} {told : Told} {number place pools : ℕ} {after : Room} → Asked s a r told after
    → number ≡ told_number told → place ≡ told_place told → pools ≡ told_pools told → PoolsTold s a r number place pools after
pools-told h n p k = record { number_is = n ∙ ap told_number h.told_is; place_is = p ∙ ap told_place h.told_is; pools-are = k ∙ ap told_pools h.told_is; room-is = h.room-is }

pub pools-unique : (s : Sides) (a : Lent) (r : Room) {n m p q i j : ℕ} {x y : Room} → PoolsTold s a r n p i x → PoolsTold s a r m q j y → (n ≡ m) × (p ≡ q) × (i ≡ j) × (x ≡ y)
pools-unique s a r u v = (u.number_is ∙ sym v.number_is, u.place_is ∙ sym v.place_is, u.pools-are ∙ sym v.pools-are, u.room-is ∙ sym v.room-is)
