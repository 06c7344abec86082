-- `grid::cells::paste` writes nineteen parts from a place on and leaves the rest. Assumes nothing.
use mathlib.Core.Path.{◌≡◌, ◌∙◌}
use Prim.Native.Nat.{◌+◌, ◌-◌}
use native.Mathlib.Omega.{arith}
use borrow.Author.Rules.{rules}
use lib.ListN.{length}
use Rattle.std.proofs.lemmas.Slice.{put_mid-paste}
use Rattle.grid.proofs.Blocks.{pasted-is}
use Rattle.grid.proofs.cells.paste.Goals as goal

pub returns : goal.returns
returns c =
    let a = c.args in
    let n : length a.v ≡ 19 = search rules in
    put_mid-paste a.at (a.at + 19 - a.at) a.out.now _ a.v 19 c.copy_from_slice.ensures.after (omega arith) (omega arith) ∙ pasted-is a.out.now a.at a.v c.requires n
