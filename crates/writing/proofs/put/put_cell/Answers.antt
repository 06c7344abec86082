use Rattle.std.proofs.Common.{◌≡◌, ℕ, ◌+◌, refl, ap, ◌∙◌, pos, get_or, arith, rules}
use Rattle.std.proofs.Math.Seq.{sets}
use Rattle.record.proofs.Gathered.{cell-turn}
use Rattle.record.specs.Bytes.{gathered, i32_of}
use Rattle.record.specs.Layout.{cell_numbers}
use Rattle.writing.proofs.put.put_cell.Goals as goal

pub loop-k-init : goal.loop-k-init
unfolding gathered
loop-k-init c = refl

pub loop-k-preserved : goal.loop-k-preserved
loop-k-preserved c = let a = c.args in
    search rules ∙ cell-turn a.room.now c.loop-k.room (λ j. get_or a.parts.now (a.from + j) (pos 0)) a.at c.loop-k.k c.loop-k.invariant

pub returns : goal.returns
unfolding cell_numbers
returns c = let a = c.args in
    let e : c.loop-k.k ≡ a.w = omega arith in
    c.loop-k.invariant ∙ ap (λ (k : ℕ). sets a.room.now a.at (gathered k (λ j. i32_of (get_or a.parts.now (a.from + j) (pos 0))))) e
