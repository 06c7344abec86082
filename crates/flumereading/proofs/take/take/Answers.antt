-- `flumereading::take::take`: the passes leave the state of the record, and behind them the carry is written. Assumes nothing.
use mathlib.Core.Path.{◌≡◌, sym, ap, ◌∙◌}
use mathlib.Core.List.{List, [], ◌∷◌}
use Prim.Native.Nat.{ℕ, ◌+◌, ◌*◌, ◌-◌, ◌≤◌}
use native.Mathlib.Omega.{arith}
use lib.IntN.{ℤ}
use lib.ListN.{length, take, drop, set}
use mir.Syntax.{w64}
use mir.ValLaws.{to_z-of_z}
use Rattle.grid.specs.State.{lent_of}
use Rattle.flumegrid.proofs.GoodSides.{few}
use Rattle.record.specs.Places.{masses_from, parts_from}
use Rattle.flumerecord.specs.Layout.{flume_counts}
use Rattle.flumerecord.specs.Reading.{flume_sides_in, flume_carry_in, flume_cells_in, flume_flags_in, flume_flag_in, flume_interfaces_in, flume_state_in}
use Rattle.record.proofs.Gathered.{interfaces-most, liquids-most}
use Rattle.flumereading.proofs.Flags.{flags-are, length-flags, interfaces-are, liquids-are}
use Rattle.flumereading.proofs.Taking.{state-parts, parts-taken, masses-taken, fills-taken, weighed}
use Rattle.flumereading.proofs.take.take.Lts as lts
use Rattle.flumereading.proofs.take.take.Reads as reads
use Rattle.flumereading.proofs.take.take.Tie as tie
use Rattle.flumereading.proofs.take.take.Goals as goal

abbrev At-After-slice_known-1 : Type 0
At-After-slice_known-1 = lts.After-slice_known tie.the-claims reads.Pre reads.Post tie.handed_clauses

abbrev At-Start : Type 0
At-Start = lts.Start tie.the-claims reads.Pre reads.Post tie.handed_clauses

abbrev At-After-interface_cells-i : Type 0
At-After-interface_cells-i = lts.After-interface_cells tie.the-claims reads.Pre reads.Post tie.handed_clauses

abbrev At-After-load_parts : Type 0
At-After-load_parts = lts.After-load_parts tie.the-claims reads.Pre reads.Post tie.handed_clauses

abbrev At-After-i64_at-kept : Type 0
At-After-i64_at-kept = lts.After-i64_at tie.the-claims reads.Pre reads.Post tie.handed_clauses

-- the flags as the code has them
module _ (f : At-After-slice_known-1) where
  abbrev d : At-Start
  d = f.before.before

  abbrev r : List ℕ
  r = d.args.rec.now

  is : d.args.n ≡ flume_cells_in r
  is = d.requires.n_value

  abbrev part : List ℕ
  part = take (68 + d.args.n - 68) (drop 68 r)

  there : 68 + flume_cells_in r ≤ length r
  there = omega (arith, d.requires.flume_sound.flags.inside)

  flags-so : part ≡ flume_flags_in r
  flags-so = flags-are r is

  count-so : length part ≡ flume_cells_in r
  count-so = ap length flags-so ∙ length-flags r is there

  small : d.args.n ≤ 262144
  unfolding flume_cells_in
  small = omega (arith, is, few (flume_sides_in r) d.requires.flume_sound.sides)

  masses-from : 68 + d.args.n + 4 ≡ masses_from flume_counts 1 (flume_cells_in r) + 4
  masses-from = omega (arith, is)

-- I, and where the parts begin
module _ (c : At-After-interface_cells-i) where
  abbrev f : At-After-slice_known-1
  f = c.before.before

  interfaces-so : c.interface_cells-i.result ≡ flume_interfaces_in (r f)
  interfaces-so = c.interface_cells-i.ensures ∙ interfaces-are (r f) (is f) (there f)

  few-here : c.interface_cells-i.result ≤ 262144
  few-here = omega (arith, interfaces-so, interfaces-most (flume_cells_in (r f)) (flume_flag_in (r f)), small f, is f)

  parts_from_lem : 68 + (d f).args.n + 8 + 4 * c.interface_cells-i.result ≡ parts_from flume_counts 1 (flume_cells_in (r f)) (flume_interfaces_in (r f)) + 4
  parts_from_lem = omega (arith, is f, interfaces-so)

-- after the first pass
abbrev counted : At-After-load_parts → At-After-interface_cells-i
counted c = c.before.before

parts-so : (c : At-After-load_parts) → c.load_parts.new.parts ≡ state-parts (r (f (counted c)))
parts-so c =
    let i = counted c in
    c.load_parts.ensures ∙ parts-taken (r (f i)) (part (f i)) _ (flags-so (f i)) (count-so (f i)) (parts_from_lem i)

-- the carry
abbrev loaded : At-After-i64_at-kept → At-After-load_parts
loaded c = c.before.before.before.before.before.before.before.before

abbrev first : At-After-i64_at-kept → At-After-slice_known-1
first c = f (counted (loaded c))

-- a list of one, written
one : (l : List ℤ) {x u : ℤ} → length l ≡ 1 → x ≡ u → set l 0 x ≡ (u ∷ [])
one [] h e = absurd (omega arith)
one (a ∷ []) h e = λ i. e i ∷ []
one (a ∷ b ∷ l) h e = absurd (omega arith)

pub overflow_add-end : goal.overflow_add-end
overflow_add-end c = record { fits = omega (arith, small c.before) }

pub slice_bounds-flags-end : goal.slice_bounds-flags-end
slice_bounds-flags-end c = omega (arith, is c.before, there c.before)

pub overflow_add-end-2 : goal.overflow_add-end-2
overflow_add-end-2 c = record { fits = omega (arith, small (f c.before)) }

pub overflow_mul-i : goal.overflow_mul-i
overflow_mul-i c = record { fits = omega (arith, few-here c.before) }

pub overflow_add-end-3 : goal.overflow_add-end-3
overflow_add-end-3 c = record { fits = omega (arith, few-here c.before, small (f c.before)) }

pub load_parts-requires : goal.load_parts-requires
load_parts-requires c =
    let i = c in
    let g = f i.before.before in record { flags_in_bounds = omega (arith, liquids-are (r g) (is g) (there g), parts_from_lem i.before.before, (d g).requires.flume_sound.parts.inside); parts_len = (d g).requires.parts_len ∙ ap (λ (k : ℕ). 9 * k) (is g ∙ sym (count-so g)); rec_len_bound = omega (arith, (d g).requires.flume_sound.end, interfaces-most (flume_cells_in (r g)) (flume_flag_in (r g)), liquids-most (flume_cells_in (r g)) (flume_flag_in (r g)), small g, is g) }

pub overflow_add-end-4 : goal.overflow_add-end-4
overflow_add-end-4 c = let g = f (counted c.before.before) in record { fits = omega (arith, small g) }

pub load_masses-requires : goal.load_masses-requires
load_masses-requires c =
    let l = c in
    let g = f (counted l.before.before.before.before) in
    let p = (d g).requires in record { flags_in_bounds = omega (arith, interfaces-are (r g) (is g) (there g), masses-from g, (d g).requires.flume_sound.masses.inside); parts_len = l.load_parts.auto.parts ∙ p.parts_len ∙ ap (λ (k : ℕ). 9 * k) (is g ∙ sym (count-so g)); masses_len = p.masses_len ∙ is g ∙ sym (count-so g); fills_len = p.fills_len ∙ is g ∙ sym (count-so g); heavy = weighed (r g) (d g).requires.rec_value (part g) _ (flags-so g) (count-so g) (parts-so l.before.before.before.before) }

pub i64_at-kept-requires : goal.i64_at-kept-requires
i64_at-kept-requires c = let g = f (counted c.before.before.before.before.before.before.before.before) in omega (arith, (d g).requires.flume_sound.flags.inside)

pub bounds-carry-0 : goal.bounds-carry-0
bounds-carry-0 c = omega (arith, (d (first c.before)).requires.carry_len)

pub returns : goal.returns
unfolding lent_of flume_state_in flume_carry_in
returns c =
    let i = c in
    let l = loaded i.before in
    let g = first i.before in
    let e = parts-so l in
    let m = i.load_masses.ensures in
    let x = i.i64_at-kept in
    let end = 68 + (d g).args.n + 4 in
    record {
      parts_are = e;
      masses-are = m.masses-are ∙ masses-taken (r g) (part g) _ end (flags-so g) (count-so g) e (masses-from g);
      fills-are = m.fills-are ∙ fills-taken (r g) (part g) _ end (flags-so g) (count-so g) e (masses-from g);
      carry-is =
          one (d g).args.carry.now (d g).requires.carry_len (to_z-of_z w64 x.result (record { sfits = x.type_inv }) ∙ x.ensures);
    }
