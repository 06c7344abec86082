-- `conversion::birth::visit`: a new interface cell is put, any other left. Assumes nothing.
use mathlib.Core.Path.{◌≡◌, sym, ◌∙◌}
use native.Mathlib.Omega.{arith}
use Rattle.conversion.specs.inner.Born.{newly_born}
use Rattle.conversion.proofs.Newborns.{newborn-reads, newborn-empty, visited-yes, visited-no}
use Rattle.conversion.proofs.birth.visit.Lts as lts
use Rattle.conversion.proofs.birth.visit.Reads as reads
use Rattle.conversion.proofs.birth.visit.Tie as tie
use Rattle.conversion.proofs.birth.visit.Goals as goal

abbrev At-After-is_newborn : Type 0
At-After-is_newborn = lts.After-is_newborn tie.the-claims reads.Pre reads.Post

abbrev At-Start : Type 0
At-Start = lts.Start tie.the-claims reads.Pre reads.Post

abbrev At-Then-is_newborn : Type 0
At-Then-is_newborn = lts.Then1 tie.the-claims reads.Pre reads.Post

abbrev At-After-put_born : Type 0
At-After-put_born = lts.After-put_born tie.the-claims reads.Pre reads.Post

-- the test of the code
reads-newborn : (c : At-After-is_newborn) → let s = c in
    c.is_newborn.result ≡ newly_born s.args.flags.now s.args.flags2.now s.args.c
reads-newborn c =
    let s : At-Start = search in
    c.is_newborn.ensures ∙ newborn-reads s.args.flags.now s.args.flags2.now s.args.c s.requires.1 s.requires.0.count

pub put_born-requires : goal.put_born-requires
put_born-requires c =
    let then1 : At-Then-is_newborn = search in let s : At-Start = search in
    let e = sym (reads-newborn (search)) ∙ then1.if-is_newborn.true in
    (s.requires.0.tested, s.requires.0.tested.around s.args.c s.requires.1 (newborn-empty s.args.flags.now s.args.flags2.now s.args.c e), s.requires.0.fed s.args.c s.requires.1 e, omega (arith, s.requires.1, s.requires.2))

pub returns-then-is_newborn : goal.returns-then-is_newborn
returns-then-is_newborn c = let after-put-born : At-After-put_born = search in let then1 : At-Then-is_newborn = search in visited-yes (sym (reads-newborn (search)) ∙ then1.if-is_newborn.true) after-put-born.put_born.ensures

pub returns : goal.returns
returns c = let start : At-Start = search in visited-no start.args.parts2.now (sym (reads-newborn (search)) ∙ c.if-is_newborn.false)
