-- `heights::header::last_of`: the next word, and none behind it. Assumes nothing.
use mathlib.Core.Path.{◌≡◌, sym, ap, ◌∙◌}
use mathlib.Core.List.{List}
use Prim.Native.Nat.{ℕ, ◌-◌}
use native.Mathlib.Omega.{arith}
use lib.ListN.{length, drop}
use Rattle.numerals.specs.Text.{word, after_word}
use Rattle.numerals.specs.Number.{number_of}
use Rattle.heights.specs.Header.{checked}
use Rattle.numerals.proofs.Words.{Found, found}
use Rattle.heights.proofs.Headers.{last_more, last-so}
use Rattle.heights.proofs.header.last_of.Lts as lts
use Rattle.heights.proofs.header.last_of.Reads as reads
use Rattle.heights.proofs.header.last_of.Tie as tie
use Rattle.heights.proofs.header.last_of.Goals as goal

abbrev At-After-next_word-b : Type 0
At-After-next_word-b = lts.After-next_word tie.the-claims reads.Pre reads.Post

abbrev At-After-next_word-c : Type 0
At-After-next_word-c = lts.After-next_word2 tie.the-claims reads.Pre reads.Post

first : (c : At-After-next_word-b) → Found c.args.s.now c.args.at c.next_word-b.result
first c = found c.requires c.next_word-b.ensures

second : (c : At-After-next_word-c) → Found c.args.s.now c.next_word-b.result.to c.next_word-c.result
second c = found (first c.before).inside c.next_word-c.ensures

-- how long the third word of the line is
third : (c : At-After-next_word-c)
    → length (word (after_word (drop c.args.at c.args.s.now))) ≡ c.next_word-c.result.to - c.next_word-c.result.from
third c = ap (λ (t : List ℕ). length (word t)) (sym (first c.before).rest) ∙ (second c).size

pub next_word-c-requires : goal.next_word-c-requires
next_word-c-requires c = (first c.before).inside

pub returns-then-c : goal.returns-then-c
returns-then-c c = last_more _ _ (λ e. omega (arith, e, third c.before.before.before, c.if-c.true))

pub slice_bounds-number_of-count : goal.slice_bounds-number_of-count
slice_bounds-number_of-count c = (first c.before.before.before.before).ordered

pub slice_bounds-number_of-start : goal.slice_bounds-number_of-start
slice_bounds-number_of-start c = (first c.before.before.before.before).ordered

pub slice_bounds-number_of-end : goal.slice_bounds-number_of-end
slice_bounds-number_of-end c = (first c.before.before.before.before).inside

pub returns : goal.returns
returns c =
    let w = c in
    let k = w.args.k in
    c.keep.ensures ∙ ap (checked k) (c.number_of.ensures ∙ ap number_of (first w.before.before.before.before.before.before.before).bytes) ∙ last-so k _ (omega (arith, third w.before.before.before.before.before.before, c.if-c.false))
