-- `flumerecord::flags::flags_of`: the span lies within the bytes, and the part begins where it says. Assumes nothing.
use mathlib.Core.Path.{refl, sym, subst, ap, ◌∙◌}
use native.Mathlib.Nat.{add_comm}
use lib.ListN.{length, take, drop}
use Prim.Native.Nat.{◌+◌, ◌-◌}
use Rattle.record.specs.declared.Span.{Span}
use Rattle.flume.specs.Flume.{flume_sides_good, flume_cells}
use Rattle.record.proofs.Spanned.{Inside, span-within}
use Rattle.flumerecord.specs.Reading.{flume_flags_at}
use Rattle.flumerecord.proofs.flags.flags_of.Lts as lts
use Rattle.flumerecord.proofs.flags.flags_of.Reads as reads
use Rattle.flumerecord.proofs.flags.flags_of.Tie as tie
use Rattle.flumerecord.proofs.flags.flags_of.Goals as goal

abbrev At-After-span-p : Type 0
At-After-span-p = lts.After-span tie.the-claims reads.Pre reads.Post

inside : (c : At-After-span-p) → Inside (length c.args.rec.now) c.span-p.result
inside c = let a = c.args in subst (Inside (length a.rec.now)) (sym c.span-p.ensures) (span-within a.rec.now a.h.answer (flume_sides_good a.h.sides) flume_flags_at (flume_cells a.h.sides))

pub slice_bounds-result-count : goal.slice_bounds-result-count
slice_bounds-result-count c = (inside c.before).order

pub slice_bounds-result-start : goal.slice_bounds-result-start
slice_bounds-result-start c = (inside c.before).order

pub slice_bounds-result-end : goal.slice_bounds-result-end
slice_bounds-result-end c = (inside c.before).most

pub returns : goal.returns
returns c =
    let s = c.args.rec in
    let e = c.span-p.ensures in
    record {
      bytes = ap (λ (p : Span). take (p.to - p.from) (drop p.from s.now)) e;
      block = refl;
      place = add_comm c.span-p.result.from s.ref_ptr.1 ∙ ap (λ (p : Span). s.ref_ptr.1 + p.from) e;
    }
