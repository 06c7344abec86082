-- `record::given::slices_fit` is test 2 by the four lengths. Assumes nothing.
use mathlib.Core.Path.{refl}
use Prim.Native.Nat.{◌*◌, ◌≤◌}
use native.Mathlib.Nat.{mul-le-mul}
use native.Mathlib.Omega.{arith}
use Rattle.record.proofs.given.slices_fit.Goals as goal

pub overflow_mul-result : goal.overflow_mul-result
overflow_mul-result c =
    let h : c.args.w * c.args.n ≤ 19 * 262144 = mul-le-mul c.requires.w_bound c.requires.n_bound in
    record { fits = omega arith }

pub returns : goal.returns
returns c = refl
