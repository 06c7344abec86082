use borrow.Author.Rules.{sfits_of}
use mir.Syntax.{w64}
use mir.Facts.{to_z-of_z}
use Rattle.std.proofs.Common.{List, [], ◌∷◌, ◌++◌, ℕ, ℤ, ◌-◌, ◌+◌, ap, sym, ◌∙◌}
use Rattle.spelling.specs.Spelling.{whole_of}
use Rattle.spelling.proofs.Putting.{put_as}
use Rattle.depths.specs.Map.{behind, row_text}
use Rattle.depths.proofs.Texts.{row-begin, row_step, row-none}
use Rattle.depths.proofs.Storing.{under-begin, under-as, under_more, under-end, under-room}
use Rattle.depths.proofs.put.put_row.Invariants.{values}
use Rattle.depths.proofs.put.put_row.Goals as goal

-- the value that is stored, and what stands behind it
abbrev piece : ℕ → ℤ → List ℕ
piece n z = whole_of z ++ behind n ∷ []

pub loop-x-init : goal.loop-x-init
loop-x-init c = let a = c.args in under-as under-begin (sym (row-begin (values a.s a.edge a.flags.now a.fills.now a.y) a.s.nx))

pub put_value-p-requires : goal.put_value-p-requires
put_value-p-requires c =
    let a = c.args in
    let v = values a.s a.edge a.flags.now a.fills.now a.y in
    let n = a.s.nx - (c.loop-x.x + 1) in
    rw (to_z-of_z (sfits_of {w = w64} c.depth-v.type_inv), c.depth-v.ensures)
    (under-room (piece n (v c.loop-x.x)) (row_text v (c.loop-x.x + 1) n) c.loop-x.invariant (row_step v c.loop-x.x a.s.nx c.loop-x-test.true) c.requires.nx_in_bounds)

pub loop-x-preserved : goal.loop-x-preserved
loop-x-preserved c =
    let a = c.args in
    let v = values a.s a.edge a.flags.now a.fills.now a.y in
    under_more c.loop-x.invariant (row_step v c.loop-x.x a.s.nx c.loop-x-test.true)
    (put_as c.put_value-p.ensures (ap (piece (a.s.nx - (c.loop-x.x + 1))) (to_z-of_z (sfits_of {w = w64} c.depth-v.type_inv) ∙ c.depth-v.ensures)))

pub returns : goal.returns
returns c =
    let a = c.args in
    under-end c.loop-x.invariant (row-none (values a.s a.edge a.flags.now a.fills.now a.y) c.loop-x.x a.s.nx c.loop-x-test.false)
