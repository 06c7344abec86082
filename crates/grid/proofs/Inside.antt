-- The cells that have all their neighbours: the range that the passes by offsets go over. Assumes nothing.
use mathlib.Core.Path.{◌≡◌, sym, subst}
use mathlib.Core.Bool.{true}
use mathlib.Core.List.{List}
use Prim.Native.Nat.{ℕ, ◌+◌, ◌-◌, ◌*◌, ◌≤◌, ◌<◌}
use native.Mathlib.Nat.{mul-le-mul_left}
use native.Mathlib.Omega.{arith}
use lib.ListN.{length, get_or}
use Rattle.grid.specs.declared.Sides.{Sides}
use Rattle.grid.specs.Grid.{sides_good, cells_of}
use Rattle.grid.specs.inner.Passes.{Inner, low_of, Reaching, Amid, Reach}
use Rattle.grid.proofs.Beside.{Offsets, place-low}
use Rattle.grid.proofs.GoodSides.{good-sides}

-- the first inner cell and the last are two different planes apart
pub room : (s : Sides) → sides_good s ≡ true → low_of s + low_of s ≤ cells_of s
unfolding low_of cells_of
room s e =
    let g = good-sides s e in
    omega (arith, g.x.low, mul-le-mul_left s.nx g.y.low, mul-le-mul_left (s.nx * s.ny) g.z.low)

pub few : (s : Sides) → sides_good s ≡ true → cells_of s ≤ 262144
unfolding cells_of
few s h = (good-sides s h).all

-- the box's offsets reach the cells that are amid
pub reaching : (s : Sides) {off : List ℕ} {low : ℕ} → sides_good s ≡ true → Offsets s off low → Reaching (cells_of s) off low
reaching s {off} {low} e o = record {
  few = few s e;
  room = omega (arith, room s e, o.lowest);
  each = λ c i h k l. place-low o c (record { low = omega (arith, o.lowest); high = omega (arith, o.lowest) }) i l;
}

-- and those are its inner ones
pub amid-inner : {s : Sides} {off : List ℕ} {low n c : ℕ} → Offsets s off low → n ≡ cells_of s → Inner s c → Amid n low c
amid-inner o e g = record { from = omega (arith, o.lowest, g.low); to = omega (arith, o.lowest, e, g.high) }

pub inner-amid : {s : Sides} {off : List ℕ} {low n c : ℕ} → Offsets s off low → n ≡ cells_of s → Amid n low c → Inner s c
inner-amid o e g = record { low = omega (arith, o.lowest, g.from); high = omega (arith, o.lowest, e, g.to) }

-- what `beside` asks, of bytes of that number
pub reach-by : {n : ℕ} {off : List ℕ} {low : ℕ} → Reaching n off low → (c : ℕ) → Amid n low c → (bytes : List ℕ) → length bytes ≡ n → Reach bytes off (c - low)
reach-by {n} {off} {low} r c g bytes e = record { all = λ i h. subst (λ (m : ℕ). c - low + get_or off i 0 < m) (sym e) (r.each c i g.from g.to h) }
