-- `flumearrivals::streaming::arriving9` is what arrives from one direction, by the neighbour's flag. What is rebuilt fits, since gas and own part are bounded.
-- Assumes nothing.
use mathlib.Core.Path.{◌≡◌, sym, ap, ap₂, ◌∙◌, subst}
use mathlib.Core.Bool.{Bool, ◌||◌}
use Prim.Native.Nat.{ℕ, ◌+◌, ◌*◌, ◌≤◌, ◌<◌}
use native.Mathlib.Omega.{arith}
use lib.IntN.{ℤ, pos, nat_abs}
use lib.Signed.{◌≤ℤ◌, lt_z}
use lib.Dec.{eqb}
use lib.ListN.{get_or}
use mir.Syntax.{w32, w64}
use mir.Val.{to_z, of_z}
use mir.Facts.{to_z-of_z}
use Rattle.whole.specs.laws.Parts.{parts-≤}
use Rattle.whole.specs.laws.Machine.{Val, machine, v32, v64, same, does-fit, reads_as, within_by}
use Rattle.lattice.specs.Lattice.{V3, dot, d3q19, density, momentum}
use Rattle.lattice.specs.Cell.{gas_pair, is_positive}
use Rattle.lattice.specs.inner.Held.{vec}
use Rattle.lattice.proofs.Reading.{inside}
use Rattle.grid.specs.inner.Sight.{Body}
use Rattle.grid.proofs.Lists.{get_or-there}
use Rattle.arrivals.proofs.Arrivals.{arrives-wall, arrives-rebuilt, arrives-liquid}
use Rattle.arrivals.proofs.Leans.{above_zero}
use Rattle.arrivals.proofs.Spans.{gas-body, along-body, tame-body}
use Rattle.flume.specs.inner.Spread.{spread_lattice}
use Rattle.nine.specs.inner.Cells.{part_of9}
use Rattle.nine.proofs.Weighed.{weight-in}
use Rattle.flumearrivals.proofs.Nines.{light9, part-at}
use borrow.Author.Rules.{sfits_of}
use Rattle.flumearrivals.proofs.streaming.arriving9.Lts as lts
use Rattle.flumearrivals.proofs.streaming.arriving9.Reads as reads
use Rattle.flumearrivals.proofs.streaming.arriving9.Tie as tie
use Rattle.flumearrivals.proofs.streaming.arriving9.Goals as goal

abbrev At-Start : Type 0
At-Start = lts.Start tie.the-claims reads.Pre reads.Post

abbrev At-Else-f-gt2 : Type 0
At-Else-f-gt2 = lts.Else1 tie.the-claims reads.Pre reads.Post

abbrev At-After-gas_pair : Type 0
At-After-gas_pair = lts.After-gas_pair tie.the-claims reads.Pre reads.Post

abbrev At-After-weight9 : Type 0
At-After-weight9 = lts.After-weight9 tie.the-claims reads.Pre reads.Post

abbrev At-After-wide : Type 0
At-After-wide = lts.After-wide tie.the-claims reads.Pre reads.Post

abbrev At-After-wide-arg-1 : Type 0
At-After-wide-arg-1 = lts.After-wide-arg tie.the-claims reads.Pre reads.Post

abbrev At-Then-f-gt2 : Type 0
At-Then-f-gt2 = lts.Then1 tie.the-claims reads.Pre reads.Post

abbrev At-Then-f-lean : Type 0
At-Then-f-lean = lts.Then2 tie.the-claims reads.Pre reads.Post

abbrev At-Else-f-lean : Type 0
At-Else-f-lean = lts.Else2 tie.the-claims reads.Pre reads.Post

-- the flag that was read, whatever stands for a missing one
flag : (s : At-Start) → get_or s.args.flags.now s.args.b 0 ≡ get_or s.args.flags.now s.args.b 3
flag s = get_or-there s.args.flags.now s.args.b 0 3 s.requires.is-near

-- what is not above 2 is no wall
no-wall : (c : At-Else-f-gt2) → get_or c.args.flags.now c.args.b 3 ≤ 2
no-wall c = subst (λ (f : ℕ). f ≤ 2) (flag (search)) c.if-f-gt2.false

-- the code's test is stage 1's
tested : (s : At-Start) {l : Bool} → is_positive s.args.lean ≡ l
    → (eqb (get_or s.args.flags.now s.args.b 3) 0 || l) ≡ (eqb (get_or s.args.flags.now s.args.b 0) 0 || lt_z (pos 0) (to_z w32 (of_z w32 s.args.lean)))
tested s n = ap₂ (λ (f : ℕ) (b : Bool). eqb f 0 || b) (sym (flag s)) (sym n ∙ sym (above_zero s.args.lean) ∙ ap (lt_z (pos 0)) (sym (to_z-of_z s.ranges.lean)))

-- the cell's parts, density and momentum
abbrev own : (s : At-Start) → ℕ → ℤ
own s = part_of9 s.args.parts.now s.args.c

abbrev ρ : (s : At-Start) → ℤ
ρ s = density d3q19 (own s)

abbrev j : (s : At-Start) → V3
j s = momentum d3q19 (own s)

body : (s : At-Start) → Body (own s)
body s = s.requires.bodied.bodies.body s.args.c s.requires.is-cell s.requires.is-liquid

-- the own part, as it is stored
own_is : (s : At-Start) → get_or s.args.parts.now (9 * s.args.c + s.args.k) (pos 0) ≡ own s s.args.i
own_is s = sym (part-at s.args.parts.now s.args.c s.args.k s.requires.most) ∙ ap (own s) (sym s.requires.place)

-- d is e·j
along : (s : At-Start) → s.args.d ≡ dot (d3q19.e s.args.i) (j s)
along s = s.requires.along ∙ ap (dot (d3q19.e s.args.i)) s.requires.flows.momentum

gas-same : (w : ℕ) {r r' d d' : ℤ} {m m' : V3} → r ≡ r' → d ≡ d' → m ≡ m' → gas_pair w r d (dot m m) ≡ gas_pair w r' d' (dot m' m')
gas-same w p q o t = gas_pair w (p t) (q t) (dot (o t) (o t))

-- what is rebuilt, and the own part
whole-gas : (c : At-After-gas_pair) →
    let s = c in
    c.gas_pair.result ≡ gas_pair (spread_lattice.weight s.args.i) (ρ s.before.before.before.before.before.before) (dot (d3q19.e s.args.i) (j s.before.before.before.before.before.before)) (dot (j s.before.before.before.before.before.before) (j s.before.before.before.before.before.before))
whole-gas c =
    let after-weight9 : At-After-weight9 = search in let s : At-Start = search in
    c.gas_pair.ensures
    ∙ ap (λ (z : ℤ). gas_pair (nat_abs z) s.args.v.rho (to_z w32 (of_z w32 s.args.d)) (dot (vec s.args.v) (vec s.args.v)))
    (to_z-of_z (sfits_of {w = w64} after-weight9.weight9.type_inv) ∙ after-weight9.weight9.ensures)
    ∙ gas-same (spread_lattice.weight s.args.i) s.requires.flows.density (to_z-of_z s.ranges.d ∙ along s) s.requires.flows.momentum

own-part : (c : At-After-wide) →
    let s = c in
    c.wide.result ≡ own s.before.before.before.before.before.before.before.before s.args.i
own-part c =
    let after-wide-arg : At-After-wide-arg-1 = search in let s : At-Start = search in
    c.wide.ensures ∙ to_z-of_z (sfits_of {w = w32} after-wide-arg.wide-arg-1.given) ∙ own_is s

abbrev gas-read : (c : At-After-gas_pair) → Val c.gas_pair.result
gas-read c =
    let s : At-Start = search in
    same (whole-gas c) (inside (gas-body (own s) (body s) light9 s.args.i s.requires.some s.requires.low))

abbrev part-read : (c : At-After-wide) → Val c.wide.result
part-read c =
    let s : At-Start = search in
    same (own-part c) (inside ((body s).parts s.args.i (omega (arith, s.requires.low))))

pub returns-then-f-gt2 : goal.returns-then-f-gt2
returns-then-f-gt2 c fills off low g e n =
    let then1 : At-Then-f-gt2 = search in let s : At-Start = search in
    to_z-of_z (sfits_of {w = w32} c.result-1.given)
    ∙ own_is s
    ∙ sym (arrives-wall spread_lattice.weight _ (part_of9 s.args.parts.now) fills off low g _ _ _ _ e (subst (λ (f : ℕ). 2 < f) (flag s) then1.if-f-gt2.true))

pub gas_pair-requires : goal.gas_pair-requires
gas_pair-requires c =
    let s : At-Start = search in (
      tame-body (own s) (body s) s.args.v s.requires.flows.density s.requires.flows.momentum,
      subst (λ (z : ℤ). pos 0 ≤ℤ z) (sym (to_z-of_z (sfits_of {w = w64} c.weight9.type_inv) ∙ c.weight9.ensures)) (parts-≤ (omega arith)),
      within_by (v64 (same c.weight9.ensures (inside (weight-in s.args.i s.requires.some s.requires.low)))) tt,
      within_by (v32 (same (along s) (inside (along-body (own s) (body s) s.args.i s.requires.low)))) tt,
    )

pub overflow_sub-result : goal.overflow_sub-result
overflow_sub-result c =
    let g = gas-read (search) in
    let p = part-read c.before in
    does-fit (search machine depth 30 fits 5000) tt

pub overflow_cast-result : goal.overflow_cast-result
overflow_cast-result c =
    let g = gas-read (search) in
    let p = part-read c.before in
    does-fit (search machine depth 30 fits 5000) tt

pub returns-then-f-lean : goal.returns-then-f-lean
returns-then-f-lean c fills off low g e n =
    let then2 : At-Then-f-lean = search in let s : At-Start = search in
    let a = gas-read (search) in
    let p = part-read c.before in
    reads_as (search machine depth 30 fits 5000) tt
    ∙ sym (arrives-rebuilt spread_lattice.weight _ (part_of9 s.args.parts.now) fills off low g _ _ _ _ e (no-wall (search)) (tested s n ∙ then2.if-f-lean.true))

pub returns : goal.returns
returns c fills off low g e n =
    let else2 : At-Else-f-lean = search in let s : At-Start = search in
    to_z-of_z (sfits_of {w = w32} c.result-2-1.given)
    ∙ sym (part-at s.args.parts.now s.args.b s.args.m s.requires.part)
    ∙ sym (arrives-liquid spread_lattice.weight _ (part_of9 s.args.parts.now) fills off low g _ _ _ _ e (no-wall (search)) (tested s n ∙ else2.if-f-lean.false))
