-- `invert::testing::rows` is the test of the rows, from the line behind the header on. Assumes nothing.
use mathlib.Core.Path.{ap, ◌∙◌}
use mathlib.Core.List.{List}
use Prim.Native.Nat.{ℕ, ◌≤◌}
use native.Mathlib.Omega.{arith}
use lib.ListN.{length, length-drop}
use Rattle.heights.specs.Rows.{rows_of}
use Rattle.invert.specs.Outcome.{rows_answer}
use Rattle.invert.proofs.testing.rows.Goals as goal

pub test_rows-requires : goal.test_rows-requires
test_rows-requires c =
    let s = c.args.text.now in
    let e = c.line_at-at.ensures in
    let h : 7 ≤ c.line_at-at.result = omega (arith, length-drop c.line_at-at.result s, ap length e.rest, e.inside, c.requires.text_in_bounds) in
    record { at_in_bounds = e.inside; line_le_at = h; le_n = c.requires.le_nx }

pub returns-in-Ok : goal.returns-in-Ok
returns-in-Ok c =
    let a = c.args in
    ap rows_answer (c.in-Ok.ensures ∙ ap (λ (t : List ℕ). rows_of a.ny a.nx t 7) c.line_at-at.ensures.rest)

pub returns-in-Err : goal.returns-in-Err
returns-in-Err c =
    let a = c.args in
    ap rows_answer (c.in-Err.ensures ∙ ap (λ (t : List ℕ). rows_of a.ny a.nx t 7) c.line_at-at.ensures.rest)
