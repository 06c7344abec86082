-- `conversion::convert::kind_after` is stage 5's flag. Assumes nothing.
use Rattle.conversion.proofs.Flags.{filled-flag, emptied-flag, born-flag, bared-flag, kept-flag}
use Rattle.conversion.proofs.convert.kind_after.Lts as lts
use Rattle.conversion.proofs.convert.kind_after.Reads as reads
use Rattle.conversion.proofs.convert.kind_after.Goals as goal

abbrev At-Start : Type 0
At-Start = lts.Start reads.Pre reads.Post

abbrev At-Else-f-filled : Type 0
At-Else-f-filled = lts.Else3 reads.Pre reads.Post

abbrev At-Else-m-eq2 : Type 0
At-Else-m-eq2 = lts.Else2 reads.Pre reads.Post

abbrev At-Else-m-eq1 : Type 0
At-Else-m-eq1 = lts.Else1 reads.Pre reads.Post

pub returns-then-m-eq1 : goal.returns-then-m-eq1
returns-then-m-eq1 c =
    let a : At-Start = search in
    filled-flag a.args.f a.args.m a.args.filled a.args.emptied a.requires.1 c.if-m-eq1.true

pub returns-then-m-eq2 : goal.returns-then-m-eq2
returns-then-m-eq2 c =
    let a : At-Start = search in
    emptied-flag a.args.f a.args.m a.args.filled a.args.emptied a.requires.1 c.if-m-eq2.true

pub returns-then-f-filled : goal.returns-then-f-filled
returns-then-f-filled c =
    let a : At-Start = search in
    born-flag a.args.f a.args.m a.args.filled a.args.emptied c.if-f-filled.true

pub returns-then-f-emptied : goal.returns-then-f-emptied
returns-then-f-emptied c =
    let a : At-Start = search in
    bared-flag a.args.f a.args.m a.args.filled a.args.emptied c.if-f-emptied.true

pub returns : goal.returns
returns c =
    let else3 : At-Else-f-filled = search in let else2 : At-Else-m-eq2 = search in let else1 : At-Else-m-eq1 = search in let a : At-Start = search in
    kept-flag a.args.f a.args.m a.args.filled a.args.emptied a.requires.0 else1.if-m-eq1.false else2.if-m-eq2.false else3.if-f-filled.false c.if-f-emptied.false
