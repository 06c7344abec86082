-- `record::section::section` goes through the three tests of a section. Assumes nothing.
use mathlib.Core.Path.{◌≡◌, sym, ◌∙◌}
use Prim.Native.Nat.{◌*◌, ◌≤◌}
use native.Mathlib.Nat.{mul-le-mul}
use native.Mathlib.Omega.{arith}
use Rattle.grid.specs.Answer.{Done}
use Rattle.record.proofs.Answers.{whole-short, whole-wrong, whole-cut, whole-there}
use Rattle.record.proofs.section.section.Goals as goal
use Rattle.std.specs.Prelude.{Ok}

pub returns-then-rec-from : goal.returns-then-rec-from
returns-then-rec-from c =
    let a = c.args in
    sym (whole-short a.rec.now a.number a.from a.n a.size Done (omega arith))

pub returns-then-u32_at-n : goal.returns-then-u32_at-n
returns-then-u32_at-n c =
    let a = c.args in
    sym (whole-wrong a.rec.now a.number a.from a.n a.size Done (omega arith) (λ e. c.if-u32_at-n.true (c.u32_at.ensures ∙ e)))

pub overflow_mul-size : goal.overflow_mul-size
overflow_mul-size c =
    let d = c in
    let h : d.args.size * d.args.n ≤ 8 * 4294967296 = mul-le-mul d.requires.size_bound d.requires.n_bound in
    record { fits = omega arith }

pub overflow_add-from-3 : goal.overflow_add-from-3
overflow_add-from-3 c =
    let d = c in
    let h : d.args.size * d.args.n ≤ 8 * 4294967296 = mul-le-mul d.requires.size_bound d.requires.n_bound in
    record { fits = omega (arith, d.requires.from_bound) }

pub returns-then-rec-from-2 : goal.returns-then-rec-from-2
returns-then-rec-from-2 c =
    let a = c.args in
    let e : c.u32_at.result ≡ a.n = omega arith in
    sym (whole-cut a.rec.now a.number a.from a.n a.size Done (omega arith) (sym c.u32_at.ensures ∙ e) (omega arith))

pub returns : goal.returns
returns c =
    let a = c.args in
    let e : c.u32_at.result ≡ a.n = omega arith in
    sym (whole-there a.rec.now a.number a.from a.n a.size (Ok _) (record { count = sym c.u32_at.ensures ∙ e; inside = omega arith }))
