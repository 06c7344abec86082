-- `console::decimal::one_more`: ten times n and the digit is above `most` exactly where n is above a tenth of it, or the digit above what is left.
-- Assumes nothing.
use borrow.Author.Tests.{le-leb, lt-leb}
use Prim.Native.Nat.{◌+◌, ◌-◌, ◌*◌, ◌≤◌, ◌<◌}
use native.Mathlib.Omega.{arith}
use Rattle.console.proofs.decimal.one_more.Goals as goal

pub returns-then-d-lt48 : goal.returns-then-d-lt48
returns-then-d-lt48 c = simp (lt-leb _ _ c.if-d-lt48.true)

pub returns-then-d-gt57 : goal.returns-then-d-gt57
returns-then-d-gt57 c = simp (le-leb _ _ c.if-d-lt48.false, lt-leb _ _ c.if-d-gt57.true)

pub returns-then-most-n : goal.returns-then-most-n
returns-then-most-n c =
    let a = c.args in
    let h : a.most < 10 * a.n + (a.d - 48) = omega arith in
    simp (le-leb 48 a.d (omega arith), le-leb a.d 57 (omega arith), lt-leb (10 * a.n + (a.d - 48)) a.most h)

pub returns-then-most-n-2 : goal.returns-then-most-n-2
returns-then-most-n-2 c =
    let a = c.args in
    let h : a.most < 10 * a.n + (a.d - 48) = omega arith in
    simp (le-leb 48 a.d (omega arith), le-leb a.d 57 (omega arith), lt-leb (10 * a.n + (a.d - 48)) a.most h)

pub returns : goal.returns
returns c =
    let a = c.args in
    let h : 10 * a.n + (a.d - 48) ≤ a.most = omega arith in
    simp (le-leb 48 a.d (omega arith), le-leb a.d 57 (omega arith), le-leb (10 * a.n + (a.d - 48)) a.most h)
