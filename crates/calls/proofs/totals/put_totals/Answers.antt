-- `calls::totals::put_totals`: three numbers, the last two another set's. Assumes nothing.
use borrow.Author.Rules.{sfits_of}
use mathlib.Core.Path.{◌≡◌, ◌∙◌}
use mathlib.Core.List.{[], ◌∷◌}
use lib.IntN.{pos}
use lib.ListN.{get_or}
use mir.Syntax.{w64}
use mir.Val.{to_z, of_z}
use mir.Facts.{to_z-of_z}
use Rattle.calls.proofs.ThreePut.{all-put}
use Rattle.calls.proofs.totals.put_totals.Lts as lts
use Rattle.calls.proofs.totals.put_totals.Reads as reads
use Rattle.calls.proofs.totals.put_totals.Goals as goal

abbrev At-After-totals-1 : Type 0
At-After-totals-1 = lts.After-totals reads.Pre reads.Post

abbrev At-Start : Type 0
At-Start = lts.Start reads.Pre reads.Post

pub returns : goal.returns
returns c =
    let after-totals : At-After-totals-1 = search in let w : At-Start = search in
    let poured : to_z w64 (of_z w64 (get_or w.args.from.now 1 (pos 0))) ≡ get_or w.args.from.now 1 (pos 0) = to_z-of_z (sfits_of {w = w64} after-totals.totals-1.given) in
    let taken : to_z w64 (of_z w64 (get_or w.args.from.now 2 (pos 0))) ≡ get_or w.args.from.now 2 (pos 0) = to_z-of_z (sfits_of {w = w64} c.totals-2-1.given) in
    all-put w.args.totals.now _ _ _ w.requires.1 ∙ (λ i. to_z-of_z w.ranges.carry i ∷ poured i ∷ taken i ∷ [])
