-- `record::number::put_u64` writes eight bytes: the low four, then the high four. Assumes nothing.
use mathlib.Core.Path.{sym, ap, ◌∙◌}
use mathlib.Core.List.{List}
use Prim.Native.Nat.{ℕ, ◌+◌, ◌/◌, ◌%◌}
use lib.Seq.{sets}
use Rattle.record.specs.Bytes.{bytes_of}
use Rattle.record.proofs.Numbers.{length-bytes_of, sets_then, eight-of}
use Rattle.record.proofs.number.put_u64.Goals as goal

pub returns : goal.returns
returns c =
    let a = c.args in
    let low = bytes_of 4 (a.n % 4294967296) in
    let high = bytes_of 4 (a.n / 4294967296) in
    c.put_u32-2.ensures
    ∙ ap (λ (l : List ℕ). sets l (a.at + 4) high) c.put_u32.ensures
    ∙ sets_then a.s.now a.at (a.at + 4) low high (ap (λ (k : ℕ). a.at + k) (length-bytes_of 4 (a.n % 4294967296)))
    ∙ ap (sets a.s.now a.at) (sym (eight-of a.n))
