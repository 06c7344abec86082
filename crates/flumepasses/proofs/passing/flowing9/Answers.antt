use Rattle.std.proofs.Common.{rules}
use mathlib.Core.Path.{◌≡◌, sym, ap, ◌∙◌, subst}
use mathlib.Core.Bool.{true}
use Prim.Native.Nat.{ℕ, ◌+◌, ◌-◌, ◌*◌, ◌≤◌, ◌<◌}
use native.Mathlib.Nat.{le_refl}
use native.Mathlib.Omega.{arith}
use lib.ListN.{length, get_or, length-set}
use Rattle.std.proofs.lemmas.Option.{MatchOption-at_some, MatchOption-at_none}
use mir.Syntax.{w32}
use mir.Facts.{to_z-of_z}
use Rattle.grid.specs.State.{liquid}
use Rattle.grid.specs.inner.Passes.{Amid}
use Rattle.grid.specs.inner.Sight.{Around}
use Rattle.grid.proofs.Lists.{get_or-there}
use Rattle.passes.proofs.Walked.{Walked, walked-turn, walked-skipped, walked-stopped, walked-moved}
use Rattle.flume.specs.Flume.{flume_cells, flume_grid}
use Rattle.flume.specs.inner.Offsets.{flume_low}
use Rattle.flume.specs.inner.Spread.{spread_lattice, spread_grid}
use Rattle.nine.specs.inner.Cells.{part_of9}
use Rattle.flumegrid.proofs.Offsets.{low-few}
use Rattle.flumearrivals.specs.inner.Seen.{Traders9}
use Rattle.flumeflow.specs.inner.PutAt.{Putting9}
use Rattle.flumepasses.specs.inner.Flowed.{stopped, through}
use Rattle.flumepasses.proofs.Poise.{settings-good, traders, liquid-inner, mirrored, placed, around, immersed}
use Rattle.flumepasses.proofs.Puts.{put-past, put-more}
use Rattle.flumepasses.proofs.passing.flowing9.Goals.{In-loop-c}
use Rattle.flumepasses.proofs.passing.flowing9.Goals as goal

-- ---- inside the loop: the cell, its neighbours, and what a function of one cell asks
module _ (d : In-loop-c) where
  is-cell : d.loop-c.c < flume_cells d.args.s
  is-cell = subst (λ (n : ℕ). d.loop-c.c < n) d.requires.poised.flags d.loop-c-test.true

  -- a liquid cell is inner, and its neighbours lie where the offsets say
  inner-cell : (c : ℕ) → c < flume_cells d.args.s → liquid (get_or d.args.flags.now c 3) ≡ true → Amid (flume_cells d.args.s) (flume_low d.args.s) c
  inner-cell = liquid-inner d.args.s _ _ _ _ _ d.requires.poised

  placed-all : (c : ℕ) → c < flume_cells d.args.s → liquid (get_or d.args.flags.now c 3) ≡ true → (i : ℕ) → i < 19
      → c - d.low_of-low.result + get_or d.offsets-off.result i 0 ≡ (spread_grid (flume_grid d.args.s)).near c i
  placed-all c h l = placed d.args.s d.offsets-off.result d.low_of-low.result d.offsets-off.ensures d.low_of-low.ensures c (inner-cell c h l)

  around-it : liquid (get_or d.args.flags.now d.loop-c.c 3) ≡ true → Around (length d.args.flags.now) d.offsets-off.result d.low_of-low.result d.loop-c.c
  around-it l =
      subst (λ (n : ℕ). Around n d.offsets-off.result d.low_of-low.result d.loop-c.c) (sym d.requires.poised.flags)
      (around d.args.s d.offsets-off.result d.low_of-low.result d.offsets-off.ensures d.low_of-low.ensures d.loop-c.c (inner-cell d.loop-c.c is-cell l))

  all-traders : Traders9 d.args.flags.now d.args.parts.now d.args.masses.now d.args.fills.now
  all-traders = traders d.args.s _ _ _ _ _ d.requires.poised

  putting : Putting9 d.args.flags.now d.args.parts.now d.args.fills.now d.loop-c.parts2 (get_or d.loop-c.marks d.loop-c.c 0) d.offsets-off.result d.sources9-from.result d.low_of-low.result d.loop-c.c d.args.g d.keeping-keep.result
  putting =
      let p = d.requires.poised in
      let low = d.low_of-low in
      record {
        bodied = all-traders.bodied;
        filled = all-traders.fills-good;
        is-cell = d.loop-c-test.true;
        around = around-it;
        mirrored = mirrored d.args.s d.offsets-off.result low.result d.offsets-off.ensures low.ensures (omega (arith, low-few d.args.s p.sides, low.ensures));
        sources = d.sources9-from.ensures;
        marked = λ l e.
            let m : get_or d.args.marks.now d.loop-c.c 0 ≡ 1 = sym (d.loop-c.invariant.4.marks-left d.loop-c.c (le_refl d.loop-c.c)) ∙ e in
            immersed d.args.s d.offsets-off.result low.result d.offsets-off.ensures low.ensures d.loop-c.c (inner-cell d.loop-c.c is-cell l) d.args.flags.now
            (d.requires.marked-fluid d.loop-c.c is-cell l m) (d.requires.marked d.loop-c.c is-cell l m);
        settings = settings-good d.args.s d.args.g p d.requires.level;
        keeps = d.keeping-keep.ensures;
        size = d.loop-c.invariant.1 ∙ d.requires.parts-room ∙ sym p.parts;
      }

pub sources9-from-requires : goal.sources9-from-requires
sources9-from-requires c =
    mirrored c.args.s c.offsets-off.result c.low_of-low.result c.offsets-off.ensures c.low_of-low.ensures (omega (arith, low-few c.args.s c.requires.poised.sides, c.low_of-low.ensures))

pub keeping-keep-requires : goal.keeping-keep-requires
keeping-keep-requires c = settings-good c.args.s c.args.g c.requires.poised c.requires.level

pub put_parts9-requires : goal.put_parts9-requires
put_parts9-requires c = putting (goal.at.put_parts9-requires c).In-loop-c

pub returns-in_default : goal.returns-in_default
returns-in_default c =
    let d = (goal.at.returns-in_default c).In-loop-c in
    let o = c.put_parts9 in
    record {
      went = stopped (is-cell d) (walked-stopped spread_lattice.weight (spread_grid (flume_grid c.args.s)) c.args.g _ _ _ _ c.offsets-off.result c.low_of-low.result _ (placed-all d) _ _ _ _ _ _ c.loop-c.c (is-cell d) c.loop-c.invariant.4
          (MatchOption-at_none _ _ c.in_default.is o.ensures.told));
      parts-kept = o.ensures.kept ∙ c.loop-c.invariant.1 ∙ c.requires.parts-room;
      masses-kept = c.loop-c.invariant.2 ∙ c.requires.masses-room;
      marks-kept = c.loop-c.invariant.3 ∙ c.requires.marks-room;
    }

pub new_mass9-m-requires : goal.new_mass9-m-requires
new_mass9-m-requires c =
    let d = (goal.at.new_mass9-m-requires c).In-loop-c in
    (all-traders d, c.loop-c-test.true, λ f. around-it d (ap liquid f))

pub loop-c-preserved-then-either_liquid : goal.loop-c-preserved-then-either_liquid
loop-c-preserved-then-either_liquid c =
    let a = c.args in
    let off = c.offsets-off.result in
    let low = c.low_of-low.result in
    let l = c.loop-c in
    let put = c.put_parts9 in
    let gained = c.new_mass9-m in
    let mark = c.new_mark-k in
    let parts = MatchOption-at_some _ _ _ c.in-Some.is put.ensures.parts in
    let fits : 9 * l.c + 9 ≤ length l.parts2 = omega (arith, is-cell (goal.at.loop-c-preserved-then-either_liquid c).In-loop-c, l.invariant.1, c.requires.parts-room) in (
      omega arith,
      put.ensures.kept ∙ l.invariant.1,
      simp length-set l.invariant.2,
      simp length-set l.invariant.3,
      walked-turn spread_lattice.weight a.flags.now (part_of9 a.parts.now) a.masses.now a.fills.now off low a.g a.marks.now
          (part_of9 l.parts2) (part_of9 put.new.parts2) l.masses2 l.marks l.fair l.calm l.c l.invariant.4 c.in-Some.o (MatchOption-at_some _ _ _ c.in-Some.is put.ensures.told)
          (put-more a.flags.now a.parts.now a.fills.now off low a.g l.parts2 put.new.parts2 l.c fits parts)
          gained.result _ _ _ _ mark.result _ (get_or-there a.flags.now l.c 0 3 c.loop-c-test.true)
          (omega (arith, c.requires.poised.flags, l.invariant.2, c.requires.masses-room)) (omega (arith, c.requires.poised.flags, l.invariant.3, c.requires.marks-room))
          (gained.ensures a.g) (to_z-of_z {w = w32} (search rules))
          (to_z-of_z {w = w32} (record { sfits = gained.type_inv })) mark.ensures (to_z-of_z {w = w32} (record { sfits = gained.type_inv }))
          (to_z-of_z {w = w32} (search rules)),
      λ j k n m. put-past a.flags.now a.parts.now a.fills.now off low a.g l.parts2 put.new.parts2 l.c fits parts j k n m ∙ l.invariant.5 j k (omega arith) m,
    )

pub loop-c-preserved : goal.loop-c-preserved
loop-c-preserved c =
    let l = c.loop-c in
    let s = c.skip_dry-c.ensures in (
      s.dry.most,
      l.invariant.1,
      s.massless.size ∙ l.invariant.2,
      s.unmarked.size ∙ l.invariant.3,
      walked-skipped spread_lattice.weight c.args.flags.now (part_of9 c.args.parts.now) c.args.masses.now c.args.fills.now c.offsets-off.result c.low_of-low.result c.args.g s l.invariant.4
          (λ j k h m n dry. l.invariant.5 j k h n ∙ c.requires.dried j k (omega (arith, c.requires.poised.flags)) n dry),
      λ j k h m. l.invariant.5 j k (omega (arith, s.onward)) m,
    )

pub returns : goal.returns
returns c =
    let a = c.args in
    let p = c.requires.poised in
    let l = c.loop-c in
    let off = c.offsets-off in
    let low = c.low_of-low in
    let e : l.c ≡ flume_cells a.s = omega (arith, p.flags, l.invariant.0) in
    record {
      went = through
          (walked-moved spread_lattice.weight (spread_grid (flume_grid a.s)) a.g a.flags.now (part_of9 a.parts.now) a.masses.now a.fills.now
          off.result low.result (flume_cells a.s) (λ j h w. placed a.s _ _ off.ensures low.ensures j (liquid-inner a.s _ _ _ _ _ p j h w))
          a.marks.now (part_of9 l.parts2) l.masses2 l.marks l.fair l.calm
          (l.invariant.2 ∙ c.requires.masses-room) (l.invariant.3 ∙ c.requires.marks-room)
          (subst (λ (n : ℕ). Walked spread_lattice.weight a.flags.now (part_of9 a.parts.now) a.masses.now a.fills.now off.result low.result a.g a.marks.now (part_of9 l.parts2) l.masses2 l.marks l.fair l.calm n) e l.invariant.4));
      parts-kept = l.invariant.1 ∙ c.requires.parts-room;
      masses-kept = l.invariant.2 ∙ c.requires.masses-room;
      marks-kept = l.invariant.3 ∙ c.requires.marks-room;
    }
