-- The other lattice's record is refused with 11 at section 1: a record that the box's reader accepts begins with the count 3, one that the flume's accepts
-- with the count 2. Assumes nothing.
use mathlib.Core.Path.{◌≡◌, sym, ◌∙◌}
use mathlib.Core.List.{List}
use Prim.Native.Nat.{ℕ, ◌≤◌}
use native.Mathlib.Omega.{arith}
use lib.ListN.{length}
use Rattle.grid.specs.Answer.{Done}
use Rattle.grid.specs.State.{Lent}
use Rattle.grid.proofs.Accepted.{done-accepted}
use Rattle.record.specs.Bytes.{u32_at}
use Rattle.record.specs.Reading as box
use Rattle.record.proofs.Answers.{whole-wrong}
use Rattle.record.proofs.Shaped as box-shaped
use Rattle.flumerecord.specs.Reading.{flume_shape, flume_read_answer}
use Rattle.flumerecord.proofs.Shaped as flume-shaped
use Rattle.grid.specs.declared.refusals.Refusal.TheVariants.{BadCount}
use Rattle.std.specs.Prelude.{Err}

-- ---- the claims
abbrev pub BoxRefused : Type 0
BoxRefused = (r : List ℕ) (a b : Lent) → box.read_answer r a ≡ Done → flume_read_answer r b ≡ Err (BadCount 1)

abbrev pub FlumeRefused : Type 0
FlumeRefused = (r : List ℕ) (a b : Lent) → flume_read_answer r a ≡ Done → box.read_answer r b ≡ Err (BadCount 1)

-- any record with another first count, in either reader
pub flume-wrong : (r : List ℕ) (b : Lent) → 4 ≤ length r → (u32_at r 0 ≡ 2 → ⊥) → flume_read_answer r b ≡ Err (BadCount 1)
unfolding flume_read_answer flume_shape
flume-wrong r b h e = whole-wrong r 1 0 2 4 _ h e

pub box-wrong : (r : List ℕ) (b : Lent) → 4 ≤ length r → (u32_at r 0 ≡ 3 → ⊥) → box.read_answer r b ≡ Err (BadCount 1)
unfolding box.read_answer box.shape_answer
box-wrong r b h e = whole-wrong r 1 0 3 4 _ h e

pub box-refused : BoxRefused
box-refused r a b done =
    let s = box-shaped.sound r (length a.parts) (length a.masses) (length a.fills) (length a.carry) (box-shaped.shape-accepted r a (done-accepted _ done)) in
    flume-wrong r b (omega (arith, s.first.inside)) (λ e. let z : ◌≡◌ {A = ℕ} 3 2 = sym s.first.count ∙ e in omega arith)

pub flume-refused : FlumeRefused
flume-refused r a b done =
    let s = flume-shaped.sound r (length a.parts) (length a.masses) (length a.fills) (length a.carry) (flume-shaped.shape-accepted r a (done-accepted _ done)) in
    box-wrong r b (omega (arith, s.first.inside)) (λ e. let z : ◌≡◌ {A = ℕ} 2 3 = sym s.first.count ∙ e in omega arith)
