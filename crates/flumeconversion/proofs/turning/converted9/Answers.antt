-- `flumeconversion::turning::converted9`: passes 2 to 7, one after the other; Turns says what each asks and leaves. Assumes nothing.
use mathlib.Core.Path.{◌≡◌, refl, ◌∙◌}
use native.Mathlib.Omega.{arith}
use lib.IntN.{ℤ}
use lib.ListN.{length-set}
use mir.Syntax.{w64}
use mir.Val.{to_z, of_z}
use mir.Facts.{to_z-of_z}
use Rattle.whole.specs.laws.Bounds.{held}
use Rattle.whole.specs.laws.Machine.{Within}
use Rattle.flumeconversion.proofs.Turns.{carry-within, asks-emptying, asks-marked, asks-fertile, parts-long, asks-straying, asks-gathering, carry-told, asks-settling, converted}
use Rattle.flumemarks.proofs.Alike.{idling}
use Rattle.flumeconversion.proofs.turning.converted9.Lts as lts
use Rattle.flumeconversion.proofs.turning.converted9.Reads as reads
use Rattle.flumeconversion.proofs.turning.converted9.Tie as tie
use Rattle.flumeconversion.proofs.turning.converted9.Goals as goal

abbrev At-Start : Type 0
At-Start = lts.Start tie.the-claims reads.Pre reads.Post

abbrev At-After-offsets-off : Type 0
At-After-offsets-off = lts.After-offsets tie.the-claims reads.Pre reads.Post

abbrev At-After-low_of-low : Type 0
At-After-low_of-low = lts.After-low_of tie.the-claims reads.Pre reads.Post

abbrev At-After-settle_marks_by : Type 0
At-After-settle_marks_by = lts.After-settle_marks_by tie.the-claims reads.Pre reads.Post

abbrev At-After-new_flags9 : Type 0
At-After-new_flags9 = lts.After-new_flags9 tie.the-claims reads.Pre reads.Post

abbrev At-After-newborn9-a : Type 0
At-After-newborn9-a = lts.After-newborn9 tie.the-claims reads.Pre reads.Post

abbrev At-After-new_carry9-k : Type 0
At-After-new_carry9-k = lts.After-new_carry9 tie.the-claims reads.Pre reads.Post

abbrev At-After-flags2-1 : Type 0
At-After-flags2-1 = lts.After-flags2 tie.the-claims reads.Pre reads.Post

abbrev At-After-parts2-1 : Type 0
At-After-parts2-1 = lts.After-parts2 tie.the-claims reads.Pre reads.Post

abbrev At-After-parts2-2-1 : Type 0
At-After-parts2-2-1 = lts.After-parts22 tie.the-claims reads.Pre reads.Post

abbrev At-After-masses2-2-1 : Type 0
At-After-masses2-2-1 = lts.After-masses22 tie.the-claims reads.Pre reads.Post

abbrev At-After-masses2-1 : Type 0
At-After-masses2-1 = lts.After-masses2 tie.the-claims reads.Pre reads.Post

abbrev At-After-marks-2-1 : Type 0
At-After-marks-2-1 = lts.After-marks2 tie.the-claims reads.Pre reads.Post

-- a number within 10^12 is kept by 64 bits
kept : (z : ℤ) → Within z 1000000000000 → to_z w64 (of_z w64 z) ≡ z
kept z w = (held w64 (record { is = refl; abs = w.abs }) tt).is

pub offsets-off-requires : goal.offsets-off-requires
offsets-off-requires c = let start : At-Start = search in start.requires.0.ready.sides

pub low_of-low-requires : goal.low_of-low-requires
low_of-low-requires c = let start : At-Start = search in start.requires.0.ready.sides

pub settle_marks_by-requires : goal.settle_marks_by-requires
settle_marks_by-requires c =
    let after-offsets : At-After-offsets-off = search in let l : At-After-low_of-low = search in
    let t : At-Start = search in
    asks-emptying t.requires.0 after-offsets.offsets-off.ensures l.low_of-low.ensures

pub new_flags9-requires : goal.new_flags9-requires
new_flags9-requires c =
    let after-offsets : At-After-offsets-off = search in let m : At-After-settle_marks_by = search in
    let l : At-After-low_of-low = search in
    let t : At-Start = search in
    (asks-marked t.requires.0 after-offsets.offsets-off.ensures l.low_of-low.ensures m.settle_marks_by.ensures, idling t.args.s after-offsets.offsets-off.ensures l.low_of-low.ensures, t.requires.1)

pub newborn9-a-requires : goal.newborn9-a-requires
newborn9-a-requires c =
    let after-offsets : At-After-offsets-off = search in let f : At-After-new_flags9 = search in
    let m : At-After-settle_marks_by = search in
    let l : At-After-low_of-low = search in
    let t : At-Start = search in
    (asks-fertile t.requires.0 after-offsets.offsets-off.ensures l.low_of-low.ensures m.settle_marks_by.ensures f.new_flags9.ensures, parts-long t.requires.0 after-offsets.offsets-off.ensures l.low_of-low.ensures m.settle_marks_by.ensures f.new_flags9.ensures)

pub bounds-carry-0 : goal.bounds-carry-0
bounds-carry-0 c =
    let b : At-After-newborn9-a = search in
    let f : At-After-new_flags9 = search in
    let m : At-After-settle_marks_by = search in
    let l : At-After-low_of-low = search in
    let t : At-Start = search in
    omega (arith, t.requires.0.ready.sized.carry)

pub new_carry9-k-requires : goal.new_carry9-k-requires
new_carry9-k-requires c =
    let after-offsets : At-After-offsets-off = search in let b : At-After-newborn9-a = search in
    let f : At-After-new_flags9 = search in
    let m : At-After-settle_marks_by = search in
    let l : At-After-low_of-low = search in
    let t : At-Start = search in
    (asks-straying t.requires.0 after-offsets.offsets-off.ensures l.low_of-low.ensures m.settle_marks_by.ensures f.new_flags9.ensures b.newborn9-a.ensures, rw (kept _ (carry-within t.requires.0 after-offsets.offsets-off.ensures l.low_of-low.ensures)) (carry-within t.requires.0 after-offsets.offsets-off.ensures l.low_of-low.ensures))

pub bounds-carry2-0 : goal.bounds-carry2-0
bounds-carry2-0 c =
    let k = c in
    let b : At-After-newborn9-a = search in
    let f : At-After-new_flags9 = search in
    let m : At-After-settle_marks_by = search in
    let l : At-After-low_of-low = search in
    let t : At-Start = search in
    omega (arith, t.requires.0.carry-room)

pub gather9-requires : goal.gather9-requires
gather9-requires c =
    let after-offsets : At-After-offsets-off = search in let k : At-After-new_carry9-k = search in
    let b : At-After-newborn9-a = search in
    let f : At-After-new_flags9 = search in
    let m : At-After-settle_marks_by = search in
    let l : At-After-low_of-low = search in
    let t : At-Start = search in
    asks-gathering t.requires.0 after-offsets.offsets-off.ensures l.low_of-low.ensures m.settle_marks_by.ensures f.new_flags9.ensures b.newborn9-a.ensures

pub settle9-requires : goal.settle9-requires
settle9-requires c =
    let q = c in
    let k = q in
    let b = k in
    let f = b in
    let m = f in
    let l = m in
    let t = l in
    asks-settling t.requires.0 l.offsets-off.ensures l.low_of-low.ensures m.settle_marks_by.ensures f.new_flags9.ensures b.newborn9-a.ensures q.gather9.ensures

pub shape_of-flags2 : goal.shape_of-flags2
shape_of-flags2 c = let after-flags2 : At-After-flags2-1 = search in after-flags2.flags2-1.given

pub shape_of-parts2 : goal.shape_of-parts2
shape_of-parts2 c = let after-parts2 : At-After-parts2-1 = search in let after-parts22 : At-After-parts2-2-1 = search in after-parts22.parts2-2-1.given ∙ after-parts2.parts2-1.given

pub shape_of-masses2 : goal.shape_of-masses2
shape_of-masses2 c = let after-masses22 : At-After-masses2-2-1 = search in let after-masses2 : At-After-masses2-1 = search in after-masses22.masses2-2-1.given ∙ after-masses2.masses2-1.given

pub shape_of-carry2 : goal.shape_of-carry2
shape_of-carry2 c = simp length-set

pub shape_of-marks : goal.shape_of-marks
shape_of-marks c = let after-marks2 : At-After-marks-2-1 = search in let after-marks = after-marks2 in after-marks2.marks-2-1.given ∙ after-marks.marks-1.given

pub returns : goal.returns
returns c =
    let z = c in
    let q = z in
    let k = q in
    let b = k in
    let f = b in
    let m = f in
    let l = m in
    let t = l in
    converted t.requires.0 l.offsets-off.ensures l.low_of-low.ensures m.settle_marks_by.ensures f.new_flags9.ensures b.newborn9-a.ensures q.gather9.ensures z.settle9.ensures (to_z-of_z {w = w64} (record { sfits = k.new_carry9-k.type_inv }) ∙ carry-told t.requires.0 l.offsets-off.ensures l.low_of-low.ensures m.settle_marks_by.ensures f.new_flags9.ensures b.newborn9-a.ensures (kept _ (carry-within t.requires.0 l.offsets-off.ensures l.low_of-low.ensures)) k.new_carry9-k.ensures) c.fair_carry.ensures
