-- `conversion::turning::converted`: passes 2 to 7, one after the other; Converts says what each asks and leaves. Assumes nothing.
use mathlib.Core.Path.{◌≡◌, refl, sym, ap, ◌∙◌}
use mathlib.Core.List.{[], List, ◌∷◌}
use Prim.Native.Nat.{ℕ, ◌*◌, ◌/◌, ◌%◌}
use native.Mathlib.Omega.{arith}
use lib.IntN.{ℤ}
use lib.ListN.{length, set, length-set}
use mir.Syntax.{w64}
use mir.Val.{to_z, of_z}
use mir.Facts.{to_z-of_z}
use Rattle.whole.specs.laws.Bounds.{held}
use Rattle.whole.specs.laws.Bools.{and_left, and_right}
use Rattle.whole.specs.laws.Machine.{Within}
use Rattle.whole.specs.laws.Tab.{length-tab}
use Rattle.lattice.specs.Cell.{carry_good}
use Rattle.grid.specs.Grid.{cells_of}
use Rattle.grid.specs.State.{Lent, lent}
use Rattle.grid.specs.Outcome.{scene_of}
use Rattle.grid.specs.inner.Between.{moved_part, gathered_mass}
use Rattle.conversion.proofs.Converts.{asks-emptying, marks-settled, asks-marked, flags-turned, asks-fertile, parts-born, born-fair, midway, carry-told, carry-within}
use Rattle.conversion.proofs.Handed.{gathered-box, gathering, straying, settling, settled_is}
use Rattle.conversion.proofs.turning.converted.Lts as lts
use Rattle.conversion.proofs.turning.converted.Reads as reads
use Rattle.conversion.proofs.turning.converted.Tie as tie
use Rattle.conversion.proofs.turning.converted.Goals as goal

abbrev At-Start : Type 0
At-Start = lts.Start tie.the-claims reads.Pre reads.Post

abbrev At-After-settle_marks : Type 0
At-After-settle_marks = lts.After-settle_marks tie.the-claims reads.Pre reads.Post

abbrev At-After-new_flags : Type 0
At-After-new_flags = lts.After-new_flags tie.the-claims reads.Pre reads.Post

abbrev At-After-newborn-a : Type 0
At-After-newborn-a = lts.After-newborn tie.the-claims reads.Pre reads.Post

abbrev At-After-gather : Type 0
At-After-gather = lts.After-gather tie.the-claims reads.Pre reads.Post

abbrev At-After-flags2-1 : Type 0
At-After-flags2-1 = lts.After-flags2 tie.the-claims reads.Pre reads.Post

abbrev At-After-parts2-2-1 : Type 0
At-After-parts2-2-1 = lts.After-parts22 tie.the-claims reads.Pre reads.Post

abbrev At-After-parts2-1 : Type 0
At-After-parts2-1 = lts.After-parts2 tie.the-claims reads.Pre reads.Post

abbrev At-After-masses2-2-1 : Type 0
At-After-masses2-2-1 = lts.After-masses22 tie.the-claims reads.Pre reads.Post

abbrev At-After-masses2-1 : Type 0
At-After-masses2-1 = lts.After-masses2 tie.the-claims reads.Pre reads.Post

abbrev At-After-marks-1 : Type 0
At-After-marks-1 = lts.After-marks tie.the-claims reads.Pre reads.Post

abbrev At-After-marks-2-1 : Type 0
At-After-marks-2-1 = lts.After-marks2 tie.the-claims reads.Pre reads.Post

abbrev At-After-settle : Type 0
At-After-settle = lts.After-settle tie.the-claims reads.Pre reads.Post

abbrev At-After-new_carry-k : Type 0
At-After-new_carry-k = lts.After-new_carry tie.the-claims reads.Pre reads.Post

abbrev set-of : At-Start → Lent
set-of t = lent t.args.flags.now t.args.parts.now t.args.masses.now t.args.fills.now t.args.carry.now

-- a number within 10^12 is kept by 64 bits
kept : (z : ℤ) → Within z 1000000000000 → to_z w64 (of_z w64 z) ≡ z
kept z w = (held w64 (record { is = refl; abs = w.abs }) tt).is

-- a list of one, stored to
set_single : (xs : List ℤ) (z : ℤ) → length xs ≡ 1 → set xs 0 z ≡ z ∷ []
set_single [] z e = absurd (omega arith)
set_single (x ∷ []) z e = refl
set_single (x ∷ (y ∷ xs)) z e = absurd (omega arith)

parts-length : (t : At-Start) → length t.args.parts2.now ≡ 19 * cells_of t.args.s
parts-length t = ap length t.requires.0.moved.parts_are ∙ length-tab (19 * cells_of t.args.s) (λ m. moved_part (scene_of t.args.s t.args.g (set-of t)) (m / 19) (m % 19))

pub settle_marks-requires : goal.settle_marks-requires
settle_marks-requires c =
    let t : At-Start = search in
    let a = set-of t in
    let r = t.requires.0.ready in
    let m = t.requires.0.moved in
    asks-emptying t.args.s t.args.g a r m.steady _ m.marks-are

pub new_flags-requires : goal.new_flags-requires
new_flags-requires c =
    let after-settle-marks : At-After-settle_marks = search in let t : At-Start = search in
    let a = set-of t in
    let r = t.requires.0.ready in
    let m = t.requires.0.moved in
    let ek = marks-settled t.args.s t.args.g a r m.steady _ _ m.marks-are after-settle-marks.settle_marks.ensures in
    (asks-marked t.args.s t.args.g a r m.steady _ ek, t.requires.1)

pub newborn-a-requires : goal.newborn-a-requires
newborn-a-requires c =
    let after-new-flags : At-After-new_flags = search in let after-settle-marks : At-After-settle_marks = search in let t : At-Start = search in
    let a = set-of t in
    let r = t.requires.0.ready in
    let m = t.requires.0.moved in
    let ek = marks-settled t.args.s t.args.g a r m.steady _ _ m.marks-are after-settle-marks.settle_marks.ensures in
    let ef = flags-turned t.args.s t.args.g a r m.steady _ _ ek after-new-flags.new_flags.ensures in
    (r.sides, asks-fertile t.args.s t.args.g a r m.steady _ ef, parts-length t ∙ ap (λ (n : ℕ). 19 * n) (sym r.sized.flags))

pub bounds-carry-0 : goal.bounds-carry-0
bounds-carry-0 c = let t : At-Start = search in omega (arith, t.requires.0.ready.sized.carry)

pub new_carry-k-requires : goal.new_carry-k-requires
new_carry-k-requires c =
    let after-newborn : At-After-newborn-a = search in let after-new-flags : At-After-new_flags = search in let after-settle-marks : At-After-settle_marks = search in
    let t : At-Start = search in
    let a = set-of t in
    let r = t.requires.0.ready in
    let m = t.requires.0.moved in
    let ek = marks-settled t.args.s t.args.g a r m.steady _ _ m.marks-are after-settle-marks.settle_marks.ensures in
    let ef = flags-turned t.args.s t.args.g a r m.steady _ _ ek after-new-flags.new_flags.ensures in
    let ep = parts-born t.args.s t.args.g a r m.steady _ ef _ _ m.parts_are _ after-newborn.newborn-a.ensures in
    let w = midway t.args.s t.args.g a r m.steady _ ef _ _ _ ep m.masses-are ek in
    (straying w, rw (kept _ (carry-within t.args.s t.args.g a r m.steady)) (carry-within t.args.s t.args.g a r m.steady))

pub bounds-carry2-0 : goal.bounds-carry2-0
bounds-carry2-0 c = let t : At-Start = search in omega (arith, t.requires.0.carry-room)

pub gather-requires : goal.gather-requires
gather-requires c =
    let after-newborn : At-After-newborn-a = search in let after-new-flags : At-After-new_flags = search in let after-settle-marks : At-After-settle_marks = search in
    let t : At-Start = search in
    let a = set-of t in
    let r = t.requires.0.ready in
    let m = t.requires.0.moved in
    let ek = marks-settled t.args.s t.args.g a r m.steady _ _ m.marks-are after-settle-marks.settle_marks.ensures in
    let ef = flags-turned t.args.s t.args.g a r m.steady _ _ ek after-new-flags.new_flags.ensures in
    let ep = parts-born t.args.s t.args.g a r m.steady _ ef _ _ m.parts_are _ after-newborn.newborn-a.ensures in
    let w = midway t.args.s t.args.g a r m.steady _ ef _ _ _ ep m.masses-are ek in
    gathering w

pub settle-requires : goal.settle-requires
settle-requires c =
    let after-gather : At-After-gather = search in let after-newborn : At-After-newborn-a = search in let after-new-flags : At-After-new_flags = search in
    let after-settle-marks : At-After-settle_marks = search in let t : At-Start = search in
    let a = set-of t in
    let r = t.requires.0.ready in
    let m = t.requires.0.moved in
    let ek = marks-settled t.args.s t.args.g a r m.steady _ _ m.marks-are after-settle-marks.settle_marks.ensures in
    let ef = flags-turned t.args.s t.args.g a r m.steady _ _ ek after-new-flags.new_flags.ensures in
    let ep = parts-born t.args.s t.args.g a r m.steady _ ef _ _ m.parts_are _ after-newborn.newborn-a.ensures in
    let w = midway t.args.s t.args.g a r m.steady _ ef _ _ _ ep m.masses-are ek in
    let em = after-gather.gather.ensures ∙ gathered-box w in
    settling w _ (ap length em ∙ length-tab (cells_of t.args.s) (gathered_mass (scene_of t.args.s t.args.g a)))

pub shape_of-flags2 : goal.shape_of-flags2
shape_of-flags2 c = let after-flags2 : At-After-flags2-1 = search in after-flags2.flags2-1.given

pub shape_of-parts2 : goal.shape_of-parts2
shape_of-parts2 c = let after-parts22 : At-After-parts2-2-1 = search in let after-parts2 : At-After-parts2-1 = search in after-parts22.parts2-2-1.given ∙ after-parts2.parts2-1.given

pub shape_of-masses2 : goal.shape_of-masses2
shape_of-masses2 c = let after-masses22 : At-After-masses2-2-1 = search in let after-masses2 : At-After-masses2-1 = search in after-masses22.masses2-2-1.given ∙ after-masses2.masses2-1.given

pub shape_of-carry2 : goal.shape_of-carry2
shape_of-carry2 c = simp length-set

pub shape_of-marks : goal.shape_of-marks
shape_of-marks c = let after-new-flags : At-After-new_flags = search in let after-marks : At-After-marks-1 = search in let after-marks2 : At-After-marks-2-1 = search in after-marks2.marks-2-1.given ∙ after-marks.marks-1.given

pub returns : goal.returns
returns c =
    let after-settle : At-After-settle = search in let after-gather : At-After-gather = search in let after-new-carry : At-After-new_carry-k = search in
    let after-newborn : At-After-newborn-a = search in let after-new-flags : At-After-new_flags = search in let after-settle-marks : At-After-settle_marks = search in
    let t : At-Start = search in
    let a = set-of t in
    let r = t.requires.0.ready in
    let m = t.requires.0.moved in
    let ek = marks-settled t.args.s t.args.g a r m.steady _ _ m.marks-are after-settle-marks.settle_marks.ensures in
    let ef = flags-turned t.args.s t.args.g a r m.steady _ _ ek after-new-flags.new_flags.ensures in
    let ep = parts-born t.args.s t.args.g a r m.steady _ ef _ _ m.parts_are _ after-newborn.newborn-a.ensures in
    let w = midway t.args.s t.args.g a r m.steady _ ef _ _ _ ep m.masses-are ek in
    let em = after-gather.gather.ensures ∙ gathered-box w in
    let done = settled_is w em after-settle.settle.ensures in
    let carry = to_z-of_z {w = w64} (record { sfits = after-new-carry.new_carry-k.type_inv }) in
    let sum_is_lem = carry-told t.args.s t.args.g a r m.steady _ ef _ _ _ ep m.masses-are ek _ _ (kept _ (carry-within t.args.s t.args.g a r m.steady)) after-new-carry.new_carry-k.ensures in
    record {
      flags-are = ef;
      parts_are = done.0;
      masses-are = done.1;
      carry-is = set_single t.args.carry2.now _ t.requires.0.carry-room ∙ ap (λ (z : ℤ). z ∷ []) (carry ∙ sum_is_lem);
      marks-are = done.2;
      newborn = λ e. born-fair t.args.s t.args.g a r m.steady _ ef _ _ m.parts_are _ after-newborn.newborn-a.ensures (and_left after-newborn.newborn-a.result c.fair_carry.result e);
      carry-fair = λ e. ap carry_good (sym (carry ∙ sum_is_lem)) ∙ sym c.fair_carry.ensures ∙ and_right after-newborn.newborn-a.result c.fair_carry.result e;
    }
