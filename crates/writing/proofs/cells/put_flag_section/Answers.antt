-- `writing::cells::put_flag_section` writes section 5. Assumes nothing.
use mathlib.Core.Path.{refl}
use lib.ListN.{length}
use Rattle.record.proofs.Gathered.{section-put}
use Rattle.writing.proofs.cells.put_flag_section.Goals as goal

pub returns : goal.returns
returns c =
    let a = c.args in
    let s = a.flags.now in
    section-put a.room.now a.at (length s) (length s) s c.put_count.ensures refl c.put_flags.ensures
