-- `heights::header::is_key`: each keyword's own letters. Assumes nothing.
use mathlib.Core.Path.{◌≡◌, sym, ap, ◌∙◌}
use mathlib.Core.List.{List}
use Prim.Native.Nat.{ℕ}
use Rattle.heights.specs.declared.header.Key.{Key}
use Rattle.numerals.specs.Text.{alike}
use Rattle.heights.specs.Header.{key_of}
use Rattle.heights.proofs.header.is_key.Goals as goal

by_key : {j k : Key} (w : List ℕ) → k ≡ j → alike w (key_of j) ≡ alike w (key_of k)
by_key w e = ap (λ (k : Key). alike w (key_of k)) (sym e)

pub returns-in-Columns : goal.returns-in-Columns
returns-in-Columns c = c.same_letters.ensures ∙ by_key _ c.in-Columns.is

pub returns-in-Rows : goal.returns-in-Rows
returns-in-Rows c = c.same_letters-in-Rows.ensures ∙ by_key _ c.in-Rows.is

pub returns-in-West : goal.returns-in-West
returns-in-West c = c.same_letters-in-West.ensures ∙ by_key _ c.in-West.is

pub returns-in-South : goal.returns-in-South
returns-in-South c = c.same_letters-in-South.ensures ∙ by_key _ c.in-South.is

pub returns-in-Edge : goal.returns-in-Edge
returns-in-Edge c = c.same_letters-in-Edge.ensures ∙ by_key _ c.in-Edge.is

pub returns-in-Missing : goal.returns-in-Missing
returns-in-Missing c = c.same_letters-in-Missing.ensures ∙ by_key _ c.in-Missing.is
