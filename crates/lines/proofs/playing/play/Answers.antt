-- `lines::playing::play` hands a record that was read on, in slices that kept their lengths. Assumes nothing.
use mathlib.Core.Path.{◌∙◌}
use native.Mathlib.Omega.{arith}
use Rattle.record.proofs.Spanned.{handed}
use Rattle.lines.proofs.Going.{refused-told, accepted-told}
use Rattle.lines.proofs.playing.play.Goals as goal

pub returns-then-refused : goal.returns-then-refused
returns-then-refused c = refused-told _ _ _ _ c.read-head.ensures.head-is c.refused.ensures c.refuse.ensures c.if-refused.true

pub go-requires : goal.go-requires
go-requires c = record {
  masses_len_bound = omega arith;
  masses2_len_bound = c.requires.masses2_len_bound;
  carry_len = c.read-head.auto.carry ∙ c.requires.carry_len;
  carry2_len = c.requires.carry2_len;
}

pub shape_of-parts : goal.shape_of-parts
shape_of-parts c = c.read-head.auto.parts

pub shape_of-masses : goal.shape_of-masses
shape_of-masses c = c.read-head.auto.masses

pub shape_of-fills : goal.shape_of-fills
shape_of-fills c = c.read-head.auto.fills

pub shape_of-carry : goal.shape_of-carry
shape_of-carry c = c.read-head.auto.carry

pub returns : goal.returns
returns c =
    let h = c.read-head.ensures in
    accepted-told _ _ _ _ h.head-is c.refused.ensures c.if-refused.false (handed _ _ _ _ h.head-is c.flags_of-own.ensures).flags-are
    h.parts_are h.masses-are h.fills-are h.carry-is c.go.ensures
