-- `writing::put::put_mass` writes an interface mass alone. Assumes nothing.
use mathlib.Core.Path.{◌≡◌, refl, sym, ap, ◌∙◌, subst}
use mathlib.Core.Bool.{cond}
use native.Mathlib.Omega.{arith}
use lib.Dec.{eqb}
use lib.IntN.{ℤ}
use lib.ListN.{length}
use mir.Syntax.{w32}
use mir.ValLaws.{to_z-of_z}
use Rattle.record.specs.Bytes.{i32_of}
use Rattle.grid.specs.State.{by_flag}
use lib.Seq.{sets}
use Prim.Native.Nat.{ℕ, zero, suc, ◌+◌, ◌*◌, ◌≤◌}
use mathlib.Core.List.{List, []}
use Rattle.writing.proofs.put.put_mass.Lts as lts
use Rattle.writing.proofs.put.put_mass.Reads as reads
use Rattle.writing.proofs.put.put_mass.Tie as tie
use Rattle.writing.proofs.put.put_mass.Goals as goal

abbrev At-Else-flag-ne1 : Type 0
At-Else-flag-ne1 = lts.Else1 tie.the-claims reads.Pre reads.Post

none : (f : ℕ) (x : List ℕ) → (f ≡ 1 → ⊥) → by_flag f [] x [] [] ≡ []
none zero x h = refl
none (suc zero) x h = absurd (h refl)
none (suc (suc zero)) x h = refl
none (suc (suc (suc f))) x h = refl

is_one : (c : At-Else-flag-ne1) → c.args.flag ≡ 1
is_one c = omega arith

pub returns-then-flag-ne1 : goal.returns-then-flag-ne1
returns-then-flag-ne1 c =
    let a = c.args in
    sym (ap (sets a.room.now a.at) (none a.flag (i32_of a.m) c.if-flag-ne1.true))

pub put_i32-requires : goal.put_i32-requires
put_i32-requires c =
    subst (λ (f : ℕ). c.args.at + 4 * cond (eqb f 1) 1 0 ≤ length c.args.room.now)
    (is_one c.before) c.requires

pub returns : goal.returns
returns c =
    let a = c.args in
    c.put_i32.ensures
    ∙ ap (λ (z : ℤ). sets a.room.now a.at (i32_of z)) (to_z-of_z w32 a.m c.ranges.m)
    ∙ sym (ap (λ (f : ℕ). sets a.room.now a.at (by_flag f [] (i32_of a.m) [] [])) (is_one c.before.before.before.before.before))
