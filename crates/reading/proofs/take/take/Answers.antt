-- `reading::take::take`: the passes leave the state of the record, and behind them the three totals are written. Assumes nothing.
use mathlib.Core.Path.{◌≡◌, sym, ap, ◌∙◌, subst}
use mathlib.Core.List.{List, [], ◌∷◌}
use Prim.Native.Nat.{ℕ, ◌+◌, ◌*◌, ◌-◌, ◌≤◌, ◌<◌}
use native.Mathlib.Omega.{arith}
use lib.IntN.{ℤ}
use lib.ListN.{length, take, drop, set, length-set}
use mir.Syntax.{w64}
use mir.Val.{to_z, of_z}
use mir.ValLaws.{to_z-of_z}
use Rattle.grid.specs.Grid.{cells_of}
use Rattle.grid.specs.State.{lent_of}
use Rattle.grid.proofs.GoodSides.{good-sides}
use Rattle.record.specs.Places.{counts, masses_from, parts_from}
use Rattle.record.specs.Reading.{sides_in, totals_in, flags_at, carry_in, poured_in, taken_in, cells_in, flags_in, flag_in, interfaces_in, state_in}
use Rattle.record.proofs.Gathered.{interfaces-most}
use Rattle.record.proofs.FlagPart.{totals-few, flags-are, length-flags, interfaces-are, liquids-are}
use Rattle.reading.proofs.Taking.{state-parts, parts-taken, masses-taken, fills-taken, weighed}
use Rattle.reading.proofs.take.take.Lts as lts
use Rattle.reading.proofs.take.take.Reads as reads
use Rattle.reading.proofs.take.take.Tie as tie
use Rattle.reading.proofs.take.take.Goals as goal

abbrev At-After-flags_at-at : Type 0
At-After-flags_at-at = lts.After-flags_at tie.the-claims reads.Pre reads.Post tie.handed_clauses

abbrev At-Start : Type 0
At-Start = lts.Start tie.the-claims reads.Pre reads.Post tie.handed_clauses

abbrev At-After-interface_cells-i : Type 0
At-After-interface_cells-i = lts.After-interface_cells tie.the-claims reads.Pre reads.Post tie.handed_clauses

abbrev At-After-load_parts : Type 0
At-After-load_parts = lts.After-load_parts tie.the-claims reads.Pre reads.Post tie.handed_clauses

abbrev At-After-i64_at-kept : Type 0
At-After-i64_at-kept = lts.After-i64_at tie.the-claims reads.Pre reads.Post tie.handed_clauses

abbrev At-After-later_in-taken : Type 0
At-After-later_in-taken = lts.After-later_in2 tie.the-claims reads.Pre reads.Post tie.handed_clauses

-- the flags as the code has them
module _ (f : At-After-flags_at-at) where
  abbrev d : At-Start
  d = f.before.before.before

  abbrev r : List ℕ
  r = d.args.rec.now

  is : d.args.n ≡ cells_in r
  is = d.requires.n_value

  abbrev at : ℕ
  at = f.flags_at-at.result

  abbrev part : List ℕ
  part = take (at + d.args.n - at) (drop at r)

  low : at ≤ 100
  low = omega (arith, f.flags_at-at.ensures, totals-few r)

  there : flags_at r + cells_in r ≤ length r
  there = omega (arith, d.requires.sound.flags.inside)

  flags-so : part ≡ flags_in r
  flags-so = flags-are r is f.flags_at-at.ensures

  count-so : length part ≡ cells_in r
  count-so = ap length flags-so ∙ length-flags r is f.flags_at-at.ensures there

  small : d.args.n ≤ 262144
  unfolding cells_in cells_of
  small = omega (arith, is, (good-sides (sides_in r) d.requires.sound.sides).all)

  masses-from : at + d.args.n + 4 ≡ masses_from counts (totals_in r) (cells_in r) + 4
  masses-from = omega (arith, is, f.flags_at-at.ensures)

-- I, and where the parts begin
module _ (c : At-After-interface_cells-i) where
  abbrev f : At-After-flags_at-at
  f = c.before.before

  interfaces-so : c.interface_cells-i.result ≡ interfaces_in (r f)
  interfaces-so = c.interface_cells-i.ensures ∙ interfaces-are (r f) (is f) f.flags_at-at.ensures (there f)

  few : c.interface_cells-i.result ≤ 262144
  unfolding interfaces_in
  few = omega (arith, interfaces-so, interfaces-most (cells_in (r f)) (flag_in (r f)), small f, is f)

  parts_from_lem : at f + (d f).args.n + 8 + 4 * c.interface_cells-i.result ≡ parts_from counts (totals_in (r f)) (cells_in (r f)) (interfaces_in (r f)) + 4
  parts_from_lem = omega (arith, is f, f.flags_at-at.ensures, interfaces-so)

-- after the first pass
abbrev counted : At-After-load_parts → At-After-interface_cells-i
counted c = c.before.before

parts-so : (c : At-After-load_parts) → c.load_parts.new.parts ≡ state-parts (r (f (counted c)))
parts-so c =
    let i = counted c in
    c.load_parts.ensures ∙ parts-taken (r (f i)) (part (f i)) _ (flags-so (f i)) (count-so (f i)) (parts_from_lem i)

-- the three totals
abbrev loaded : At-After-i64_at-kept → At-After-load_parts
loaded c = c.before.before.before.before.before.before.before.before

abbrev first : At-After-i64_at-kept → At-After-flags_at-at
first c = f (counted (loaded c))

held : (c : At-After-later_in-taken) → length (d (first c.before.before)).args.carry.now ≡ 3
held c = (d (first c.before.before)).requires.carry_len

-- a list of three, written
three : (l : List ℤ) {x y z u v w : ℤ} → length l ≡ 3 → x ≡ u → y ≡ v → z ≡ w → set (set (set l 0 x) 1 y) 2 z ≡ (u ∷ v ∷ w ∷ [])
three [] h e g k = absurd (omega arith)
three (a ∷ []) h e g k = absurd (omega arith)
three (a ∷ b ∷ []) h e g k = absurd (omega arith)
three (a ∷ b ∷ c ∷ []) h e g k = λ i. e i ∷ g i ∷ k i ∷ []
three (a ∷ b ∷ c ∷ m ∷ l) h e g k = absurd (omega arith)

pub overflow_add-end : goal.overflow_add-end
overflow_add-end c = record { fits = omega (arith, low c.before, small c.before) }

pub slice_bounds-flags-end : goal.slice_bounds-flags-end
slice_bounds-flags-end c = omega (arith, is c.before, c.flags_at-at.ensures, there c.before)

pub overflow_add-end-2 : goal.overflow_add-end-2
overflow_add-end-2 c = record { fits = omega (arith, low (f c.before), small (f c.before)) }

pub overflow_mul-i : goal.overflow_mul-i
overflow_mul-i c = record { fits = omega (arith, few c.before) }

pub overflow_add-end-3 : goal.overflow_add-end-3
overflow_add-end-3 c = record { fits = omega (arith, few c.before, low (f c.before), small (f c.before)) }

pub load_parts-requires : goal.load_parts-requires
load_parts-requires c =
    let i = c in
    let g = f i.before.before in record { flags_in_bounds = omega (arith, liquids-are (r g) (is g) g.flags_at-at.ensures (there g), parts_from_lem i.before.before, (d g).requires.sound.parts.inside); parts_len = (d g).requires.parts_len ∙ ap (λ (k : ℕ). 19 * k) (is g ∙ sym (count-so g)) }

pub overflow_add-end-4 : goal.overflow_add-end-4
overflow_add-end-4 c = let g = f (counted c.before.before) in record { fits = omega (arith, low g, small g) }

pub load_masses-requires : goal.load_masses-requires
load_masses-requires c =
    let l = c in
    let g = f (counted l.before.before.before.before) in
    let p = (d g).requires in record { flags_in_bounds = omega (arith, interfaces-are (r g) (is g) g.flags_at-at.ensures (there g), masses-from g, (d g).requires.sound.masses.inside); parts_len = l.load_parts.auto.parts ∙ p.parts_len ∙ ap (λ (k : ℕ). 19 * k) (is g ∙ sym (count-so g)); masses_len = p.masses_len ∙ is g ∙ sym (count-so g); fills_len = p.fills_len ∙ is g ∙ sym (count-so g); weighed = weighed (r g) (d g).requires.rec_value (part g) _ (flags-so g) (count-so g) (parts-so l.before.before.before.before) }

pub i64_at-kept-requires : goal.i64_at-kept-requires
i64_at-kept-requires c = let g = f (counted c.before.before.before.before.before.before.before.before) in omega (arith, (d g).requires.sound.flags.inside)

pub later_in-poured-requires : goal.later_in-poured-requires
later_in-poured-requires c = record { rec_in_bounds = (d (first c.before)).requires.sound.totals.inside; i_bound = omega arith }

pub later_in-taken-requires : goal.later_in-taken-requires
later_in-taken-requires c = record { rec_in_bounds = (d (first c.before.before)).requires.sound.totals.inside; i_bound = omega arith }

pub bounds-carry-0 : goal.bounds-carry-0
bounds-carry-0 c = omega (arith, held c.before)

pub bounds-carry-1 : goal.bounds-carry-1
bounds-carry-1 c =
    let l = (d (first c.before.before.before)).args.carry.now in
    subst (λ (m : ℕ). 1 < m) (sym (length-set l 0 (to_z w64 (of_z w64 c.i64_at-kept.result)) ∙ held c.before)) (omega arith)

pub bounds-carry-2 : goal.bounds-carry-2
bounds-carry-2 c =
    let l = (d (first c.before.before.before)).args.carry.now in
    let x = to_z w64 (of_z w64 c.i64_at-kept.result) in
    subst (λ (m : ℕ). 2 < m) (sym (length-set (set l 0 x) 1 (to_z w64 (of_z w64 c.later_in-poured.result)) ∙ length-set l 0 x ∙ held c.before)) (omega arith)

pub returns : goal.returns
unfolding lent_of state_in carry_in poured_in taken_in
returns c =
    let i = c in
    let l = loaded i.before.before.before in
    let g = first i.before.before.before in
    let e = parts-so l in
    let m = i.load_masses.ensures in
    let x = i.i64_at-kept in
    let y = c.later_in-poured in
    let z = c.later_in-taken in
    let end = at g + (d g).args.n + 4 in
    record {
      parts_are = e;
      masses-are = m.masses-are ∙ masses-taken (r g) (part g) _ end (flags-so g) (count-so g) e (masses-from g);
      fills-are = m.fills-are ∙ fills-taken (r g) (part g) _ end (flags-so g) (count-so g) e (masses-from g);
      carry-is =
          three (d g).args.carry.now (d g).requires.carry_len (to_z-of_z w64 x.result (record { sfits = x.type_inv }) ∙ x.ensures)
          (to_z-of_z w64 y.result (record { sfits = y.type_inv }) ∙ y.ensures) (to_z-of_z w64 z.result (record { sfits = z.type_inv }) ∙ z.ensures);
    }
