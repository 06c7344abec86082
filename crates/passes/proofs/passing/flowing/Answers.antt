use mathlib.Core.Path.{◌≡◌, sym, ap, ◌∙◌, subst}
use mathlib.Core.Bool.{true}
use Rattle.std.proofs.Common.{rules}
use Prim.Native.Nat.{ℕ, ◌+◌, ◌*◌, ◌≤◌, ◌<◌}
use native.Mathlib.Nat.{le_refl}
use native.Mathlib.Omega.{arith}
use lib.ListN.{length, get_or, length-set}
use Rattle.std.proofs.lemmas.Option.{MatchOption-at_some, MatchOption-at_none}
use mir.Syntax.{w32}
use mir.Facts.{to_z-of_z}
use Rattle.lattice.specs.Lattice.{d3q19}
use Rattle.grid.specs.State.{part_of, liquid, state_of}
use Rattle.grid.specs.Grid.{cells_of, grid_of, box}
use Rattle.grid.specs.Outcome.{scene_of}
use Rattle.grid.specs.inner.Passes.{Inner}
use Rattle.grid.specs.inner.Sight.{Around}
use Rattle.grid.proofs.Beside.{Offsets}
use Rattle.grid.proofs.Lists.{get_or-there}
use Rattle.passes.specs.inner.Flowed.{stopped, through}
use Rattle.flow.specs.inner.PutAt.{Putting}
use Rattle.flow.specs.inner.Trade.{Traders}
use Rattle.grid.proofs.Inside.{room, few}
use Rattle.flow.proofs.Mirrored.{enclosed, mirrored, around, immersed}
use Rattle.flow.proofs.Poise.{liquid-inner, poised-bodied, poised-mass, poised-fills, placed}
use Rattle.passes.proofs.Walked.{Walked, walked-turn, walked-skipped, walked-stopped, walked-moved, put-more, put-past, moved-list}
use Rattle.passes.proofs.passing.flowing.Goals as goal
use Rattle.passes.proofs.passing.flowing.Goals.{In-loop-c}

-- ---- inside the loop: the offsets, the cell, and what a function of one cell asks
module _ (d : In-loop-c) where
  offs : Offsets d.args.s d.offsets-off.result d.low_of-low.result
  offs = record { table = d.offsets-off.ensures; lowest = d.low_of-low.ensures }

  is-cell : d.loop-c.c < cells_of d.args.s
  is-cell = subst (λ (n : ℕ). d.loop-c.c < n) d.requires.poised.flags d.loop-c-test.true

  small : d.low_of-low.result ≤ 262144
  small = let sides = d.requires.poised.sides in omega (arith, room d.args.s sides, few d.args.s sides, offs.lowest)

  inner : liquid (get_or d.args.flags.now d.loop-c.c 3) ≡ true → Inner d.args.s d.loop-c.c
  unfolding state_of
  inner l = liquid-inner d.args.s d.args.g _ d.requires.poised d.loop-c.c is-cell l

  around-it : liquid (get_or d.args.flags.now d.loop-c.c 3) ≡ true → Around (length d.args.flags.now) d.offsets-off.result d.low_of-low.result d.loop-c.c
  around-it l = subst (λ (n : ℕ). Around n d.offsets-off.result d.low_of-low.result d.loop-c.c) (sym d.requires.poised.flags) (around offs d.loop-c.c (inner l))

  traders : Traders d.args.flags.now d.args.parts.now d.args.masses.now d.args.fills.now
  unfolding state_of
  traders =
      let p = d.requires.poised in
      record {
        bodies = poised-bodied d.args.s d.args.g _ p;
        masses-good = record {
          count = p.masses ∙ sym p.flags;
          low = λ c h f. poised-mass d.args.s d.args.g _ p c (subst (λ (n : ℕ). c < n) p.flags h) f;
        };
        fills-good = poised-fills d.args.s d.args.g _ p;
      }

  putting : Putting d.args.flags.now d.args.parts.now d.args.fills.now d.loop-c.parts2 (get_or d.loop-c.marks d.loop-c.c 0) d.offsets-off.result d.sources-from.result d.low_of-low.result d.loop-c.c d.args.g d.keeping-keep.result
  unfolding state_of grid_of cells_of box
  putting =
      let p = d.requires.poised in
      record {
        bodied = traders.bodies;
        filled = traders.fills-good;
        is-cell = d.loop-c-test.true;
        around = around-it;
        mirrored = mirrored d.args.s d.offsets-off.result d.low_of-low.result offs.table offs.lowest small;
        sources = d.sources-from.ensures;
        marked = λ l e.
            let m : get_or d.args.marks.now d.loop-c.c 0 ≡ 1 = sym (d.loop-c.invariant.4.marks-left d.loop-c.c (le_refl d.loop-c.c)) ∙ e in
            immersed offs d.loop-c.c (inner l) d.args.flags.now (d.requires.marked-fluid d.loop-c.c is-cell l m) (d.requires.marked d.loop-c.c is-cell l m);
        enclosed = λ f. enclosed offs d.loop-c.c (inner (ap liquid f)) d.args.flags.now (λ i t. p.closed d.loop-c.c i is-cell t.some (omega (arith, t.most))) f;
        settings = p.settings;
        keeps = d.keeping-keep.ensures;
        size = d.loop-c.invariant.1 ∙ d.requires.parts-room ∙ sym p.parts;
      }

pub sources-from-requires : goal.sources-from-requires
sources-from-requires c =
    let p = c.requires.poised in
    mirrored c.args.s c.offsets-off.result c.low_of-low.result c.offsets-off.ensures c.low_of-low.ensures
    (omega (arith, room c.args.s p.sides, few c.args.s p.sides, c.low_of-low.ensures))

pub put_parts-requires : goal.put_parts-requires
put_parts-requires c = putting (goal.at.put_parts-requires c).In-loop-c

pub returns-in_default : goal.returns-in_default
unfolding scene_of state_of
returns-in_default c =
    let d = (goal.at.returns-in_default c).In-loop-c in
    let o = c.put_parts in
    record {
      went = stopped (is-cell d) (walked-stopped d3q19.weight (grid_of c.args.s) c.args.g _ _ _ _ c.offsets-off.result c.low_of-low.result _ (placed c.args.s c.args.g _ c.requires.poised (offs d)) _ _ _ _ _ _ c.loop-c.c (is-cell d) c.loop-c.invariant.4
          (MatchOption-at_none _ _ c.in_default.is o.ensures.told));
      parts-kept = o.ensures.kept ∙ c.loop-c.invariant.1 ∙ c.requires.parts-room;
      masses-kept = c.loop-c.invariant.2 ∙ c.requires.masses-room;
      marks-kept = c.loop-c.invariant.3 ∙ c.requires.marks-room;
    }

pub new_mass-m-requires : goal.new_mass-m-requires
new_mass-m-requires c =
    let d = (goal.at.new_mass-m-requires c).In-loop-c in
    (traders d, c.loop-c-test.true, λ f. around-it d (ap liquid f))

pub loop-c-preserved-then-either_liquid : goal.loop-c-preserved-then-either_liquid
loop-c-preserved-then-either_liquid c =
    let l = c.loop-c in
    let put = c.put_parts in
    let gained = c.new_mass-m in
    let mark = c.new_mark-k in
    let parts = MatchOption-at_some _ _ _ c.in-Some.is put.ensures.parts in
    let fits : 19 * l.c + 19 ≤ length l.parts2 = omega (arith, is-cell (goal.at.loop-c-preserved-then-either_liquid c).In-loop-c, l.invariant.1, c.requires.parts-room) in (
      omega arith,
      put.ensures.kept ∙ l.invariant.1,
      simp length-set l.invariant.2,
      simp length-set l.invariant.3,
      walked-turn d3q19.weight c.args.flags.now (part_of c.args.parts.now) c.args.masses.now c.args.fills.now c.offsets-off.result c.low_of-low.result c.args.g c.args.marks.now
          (part_of l.parts2) (part_of put.new.parts2) l.masses2 l.marks l.fair l.calm l.c l.invariant.4 c.in-Some.o (MatchOption-at_some _ _ _ c.in-Some.is put.ensures.told)
          (put-more _ l.parts2 put.new.parts2 l.c fits parts)
          gained.result _ _ _ _ mark.result _ (get_or-there c.args.flags.now l.c 0 3 c.loop-c-test.true)
          (omega (arith, c.requires.poised.flags, l.invariant.2, c.requires.masses-room)) (omega (arith, c.requires.poised.flags, l.invariant.3, c.requires.marks-room))
          (gained.ensures c.args.g) (to_z-of_z {w = w32} (search rules))
          (to_z-of_z {w = w32} (record { sfits = gained.type_inv })) mark.ensures (to_z-of_z {w = w32} (record { sfits = gained.type_inv }))
          (to_z-of_z {w = w32} (search rules)),
      λ j k n. put-past _ l.parts2 put.new.parts2 l.c fits parts j k n ∙ l.invariant.5 j k (omega arith),
    )

pub loop-c-preserved : goal.loop-c-preserved
loop-c-preserved c =
    let l = c.loop-c in
    let s = c.skip_dry-c.ensures in (
      s.dry.most,
      l.invariant.1,
      s.massless.size ∙ l.invariant.2,
      s.unmarked.size ∙ l.invariant.3,
      walked-skipped d3q19.weight c.args.flags.now (part_of c.args.parts.now) c.args.masses.now c.args.fills.now c.offsets-off.result c.low_of-low.result c.args.g s l.invariant.4
          (λ j k h m n dry. l.invariant.5 j k h ∙ c.requires.dried j k (omega (arith, c.requires.flags-room, c.requires.poised.flags)) n dry),
      λ j k h. l.invariant.5 j k (omega (arith, s.onward)),
    )

pub returns : goal.returns
unfolding scene_of state_of
returns c =
    let p = c.requires.poised in
    let l = c.loop-c in
    let o : Offsets c.args.s c.offsets-off.result c.low_of-low.result = record { table = c.offsets-off.ensures; lowest = c.low_of-low.ensures } in
    let e : l.c ≡ cells_of c.args.s = omega (arith, p.flags, l.invariant.0) in
    record {
      went = through (moved-list (l.invariant.1 ∙ c.requires.parts-room)
          (walked-moved d3q19.weight (grid_of c.args.s) c.args.g c.args.flags.now (part_of c.args.parts.now) c.args.masses.now c.args.fills.now
          c.offsets-off.result c.low_of-low.result (cells_of c.args.s) (placed c.args.s c.args.g _ p o)
          c.args.marks.now (part_of l.parts2) l.masses2 l.marks l.fair l.calm
          (l.invariant.2 ∙ c.requires.masses-room) (l.invariant.3 ∙ c.requires.marks-room)
          (subst (λ (n : ℕ). Walked d3q19.weight c.args.flags.now (part_of c.args.parts.now) c.args.masses.now c.args.fills.now c.offsets-off.result c.low_of-low.result c.args.g c.args.marks.now (part_of l.parts2) l.masses2 l.marks l.fair l.calm n) e l.invariant.4)));
      parts-kept = l.invariant.1 ∙ c.requires.parts-room;
      masses-kept = l.invariant.2 ∙ c.requires.masses-room;
      marks-kept = l.invariant.3 ∙ c.requires.marks-room;
    }
