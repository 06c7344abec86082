-- `record::number::u64_at` is the number of eight bytes: the low four and the high four. Assumes nothing.
use mathlib.Core.Path.{sym, ap₂, ◌∙◌}
use Prim.Native.Nat.{ℕ, ◌+◌, ◌*◌}
use Rattle.record.proofs.Numbers.{eight}
use Rattle.record.proofs.number.u64_at.Goals as goal

pub returns : goal.returns
returns c =
    let a = c.args in
    ap₂ (λ (x y : ℕ). x + 4294967296 * y) c.u32_at-low.ensures c.u32_at-high.ensures ∙ sym (eight a.at a.s.now c.requires)
