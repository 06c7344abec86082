-- `heights::header::entry`: the keyword's line, its first word, and the rest. Assumes nothing.
use mathlib.Core.Path.{◌≡◌, sym, ap, ◌∙◌}
use mathlib.Core.List.{List}
use Prim.Native.Nat.{ℕ}
use borrow.Author.Tests.{not-true, not-false}
use lib.ListN.{drop}
use Rattle.numerals.specs.Text.{alike, word, from_line}
use Rattle.heights.specs.Header.{key_of, line_of, last_of}
use Rattle.numerals.proofs.Words.{Found, found}
use Rattle.heights.proofs.Headers.{entry_other, entry-so}
use Rattle.heights.proofs.header.entry.Lts as lts
use Rattle.heights.proofs.header.entry.Reads as reads
use Rattle.heights.proofs.header.entry.Tie as tie
use Rattle.heights.proofs.header.entry.Goals as goal

abbrev At-After-next_word-a : Type 0
At-After-next_word-a = lts.After-next_word tie.the-claims reads.Pre reads.Post

abbrev At-After-line_at-at : Type 0
At-After-line_at-at = lts.After-line_at tie.the-claims reads.Pre reads.Post

abbrev At-After-is_key : Type 0
At-After-is_key = lts.After-is_key tie.the-claims reads.Pre reads.Post

first : (c : At-After-next_word-a) → Found c.args.s.now c.line_at-at.result c.next_word-a.result
first c = found c.line_at-at.ensures.inside c.next_word-a.ensures

-- the keyword's line
own : (c : At-After-line_at-at) → drop c.line_at-at.result c.args.s.now ≡ from_line (line_of c.args.k) c.args.s.now
own c = c.line_at-at.ensures.rest ∙ ap (λ (n : ℕ). from_line n c.args.s.now) c.line_of.ensures

-- what the test of the keyword says
key : (c : At-After-is_key) → c.is_key.result ≡ alike (word (drop c.line_at-at.result c.args.s.now)) (key_of c.args.k)
key c = c.is_key.ensures ∙ ap (λ (w : List ℕ). alike w (key_of c.args.k)) (first c.before.before).bytes

pub slice_bounds-is_key-count : goal.slice_bounds-is_key-count
slice_bounds-is_key-count c = (first c.before).ordered

pub slice_bounds-is_key-start : goal.slice_bounds-is_key-start
slice_bounds-is_key-start c = (first c.before).ordered

pub slice_bounds-is_key-end : goal.slice_bounds-is_key-end
slice_bounds-is_key-end c = (first c.before).inside

pub returns-then-not-is_key : goal.returns-then-not-is_key
returns-then-not-is_key c = entry_other _ _ _ (own c.before.before.before.before.before) (sym (key c.before.before) ∙ not-true _ c.if-not-is_key.true-raw)

pub last_of-requires : goal.last_of-requires
last_of-requires c = (first c.before.before.before.before).inside

pub returns : goal.returns
returns c =
    let w = c in
    let k = w.args.k in
    c.last_of.ensures ∙ ap (last_of k) (first w.before.before.before.before.before).rest ∙ entry-so k _ _ (own w.before.before.before.before.before.before) (sym (key c.before.before.before) ∙ not-false _ c.if-not-is_key.false-raw)
