-- `console::room::product` is the product of three bytes, which fits. Assumes nothing.
use Prim.Native.Nat.{ℕ, ◌*◌, ◌≤◌, ◌<◌}
use native.Mathlib.Nat.{mul-le-mul}
use native.Mathlib.Omega.{arith}
use Rattle.console.proofs.room.product.Goals as goal

-- what bytes come to
two : (y z : ℕ) → y < 256 → z < 256 → y * z ≤ 255 * 255
two y z h k =
    let a : y ≤ 255 = omega arith in
    let b : z ≤ 255 = omega arith in
    mul-le-mul a b

three : (x y z : ℕ) → x < 256 → y < 256 → z < 256 → x * (y * z) ≤ 255 * 65025
three x y z h k l =
    let a : x ≤ 255 = omega arith in
    mul-le-mul a (two y z k l)

pub overflow_mul-result : goal.overflow_mul-result
overflow_mul-result c = record { fits = omega (arith, two c.args.y c.args.z (omega arith) (omega arith)) }

pub overflow_mul-result-2 : goal.overflow_mul-result-2
overflow_mul-result-2 c = record { fits = omega (arith, three c.args.x c.args.y c.args.z (omega arith) (omega arith) (omega arith)) }
