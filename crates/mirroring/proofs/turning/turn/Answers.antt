use Rattle.std.proofs.Common.{refl, ◌+◌, [], arith, rules, add-one}
use Rattle.grid.specs.State.{lent}
use Rattle.mirroring.proofs.Made.{made_more, made_all}
use Rattle.mirroring.proofs.turning.turn.Goals as goal

pub loop-c-preserved : goal.loop-c-preserved
loop-c-preserved c = let a = c.args in
    let l = c.loop-c in
    let second = lent l.flags2 l.parts2 l.masses2 l.fills2 [] in
    made_more a.s a.axis a.dirs.now a.q (lent a.flags.now a.parts.now a.masses.now a.fills.now []) c.requires.first second (a.q + 1) l.c c.cell_in-m.result _ _ _ _
    (add-one a.q) (omega (arith, c.requires.first.flags)) c.cell_in-m.ensures.0 refl (search rules) refl c.fetch.ensures l.invariant

pub returns : goal.returns
returns c = let a = c.args in
    let l = c.loop-c in
    made_all a.s a.axis a.dirs.now a.q (lent a.flags.now a.parts.now a.masses.now a.fills.now []) (lent l.flags2 l.parts2 l.masses2 l.fills2 []) l.c
    (omega (arith, c.requires.first.flags)) l.invariant
