-- `nine::estimate::ends9`: what each axis and the pair of axes asks holds of a steady flow's rates, twice an axis' end brackets it at the flume's weight,
-- and a diagonal's end is the box's. Assumes nothing.
use mathlib.Core.Path.{◌≡◌, refl, sym}
use mathlib.Core.Bool.{true, false, false≢true}
use mathlib.Core.List.{[], ◌∷◌}
use Prim.Native.Nat.{ℕ, suc, ◌*◌, ◌<◌, ◌≤◌, ◌^◌}
use native.Mathlib.Nat.{lt_of_le_of_lt}
use native.Mathlib.Omega.{arith}
use lib.Dec.{ltb→lt}
use lib.IntN.{ℤ, neg_ℤ, nat_abs, ◌+ℤ◌, ◌-ℤ◌}
use lib.ListN.{get_or}
use mir.Syntax.{w32, w64}
use mir.Val.{Fits, to_z, of_z}
use mir.Facts.{to_z-of_z}
use Rattle.whole.specs.laws.Bounds.{abs_neg}
use Rattle.whole.specs.laws.Machine.{v32, v64, same, reads_as}
use Rattle.lattice.proofs.Reading.{inside}
use Rattle.landings.specs.inner.Estimate.{RatesAre, speed, odd, even, energy}
use Rattle.landings.proofs.Dots.{dot1, dot2, dot5, dot6, dot15, dot16, dot17, dot18}
use Rattle.landings.proofs.Each.{each18}
use Rattle.landings.proofs.Rates.{Fair, calm_of, axis-x, axis-z, base-in, joined, turned}
use Rattle.landings.proofs.Ends.{asks-axis, axis-is, asks-crossed, crossed-is, axis-to, axis-fro, diagonal-to, diagonal-fro, near}
use Rattle.flume.specs.inner.Spread.{narrow, idle, spread_lattice}
use Rattle.nine.specs.inner.Ends.{Told}
use Rattle.nine.proofs.Doubled.{near-twice, twice_most}
use Rattle.nine.proofs.Weighed.{along-x, along-z, diagonal}
use Rattle.nine.proofs.estimate.ends9.Lts as lts
use Rattle.nine.proofs.estimate.ends9.Reads as reads
use Rattle.nine.proofs.estimate.ends9.Tie as tie
use Rattle.nine.proofs.estimate.ends9.Goals as goal

abbrev At-After-rates_of-k : Type 0
At-After-rates_of-k = lts.After-rates_of tie.the-claims reads.Pre reads.Post tie.handed_clauses

fair : (s : goal.Start) → Fair s.args.v s.args.p
fair s = record { steady = s.requires.0; good = s.requires.1 }

-- the machine's numbers are the rates
module _ (c : At-After-rates_of-k) where
  abbrev s : goal.Start
  s = c.before

  rates : RatesAre s.args.v s.args.p c.rates_of-k.result
  rates = rw (to_z-of_z s.ranges.p) at c.rates_of-k.ensures

  ex : to_z w32 (of_z w32 s.args.v.x) ≡ s.args.v.x
  ex = reads_as (v32 (inside (calm_of (fair s)).tame.x)) tt

  evx : to_z w64 (of_z w64 c.rates_of-k.result.vx) ≡ speed s.args.p s.args.v.rho s.args.v.x
  evx = reads_as (v64 (same rates.vx (inside (axis-x (fair s)).u-in))) tt

  eox : to_z w64 (of_z w64 c.rates_of-k.result.ox) ≡ odd s.args.p s.args.v.x
  eox = reads_as (v64 (same rates.ox (inside (axis-x (fair s)).o-in))) tt

  ez : to_z w32 (of_z w32 s.args.v.z) ≡ s.args.v.z
  ez = reads_as (v32 (inside (calm_of (fair s)).tame.z)) tt

  evz : to_z w64 (of_z w64 c.rates_of-k.result.vz) ≡ speed s.args.p s.args.v.rho s.args.v.z
  evz = reads_as (v64 (same rates.vz (inside (axis-z (fair s)).u-in))) tt

  eoz : to_z w64 (of_z w64 c.rates_of-k.result.oz) ≡ odd s.args.p s.args.v.z
  eoz = reads_as (v64 (same rates.oz (inside (axis-z (fair s)).o-in))) tt

  eb : to_z w64 (of_z w64 c.rates_of-k.result.base) ≡ even s.args.p s.args.v.rho (energy s.args.p s.args.v)
  eb = reads_as (v64 (same rates.base (inside (base-in (fair s))))) tt

-- twice an end fits
twice-fits : (a : ℕ) → a < 2305843009213693952 → Fits w64 (2 * a)
twice-fits a h =
    let l : 2 * a ≤ 4611686018427387904 = omega (arith, h) in
    record { fits = lt_of_le_of_lt l (ltb→lt 4611686018427387904 (2 ^ 64) tt) }

-- bounds of what the array holds
turned-slow : (d : ℤ) {n : ℕ} → 3 * nat_abs d ≤ n → 3 * nat_abs (neg_ℤ d) ≤ n
turned-slow d h = omega (arith, abs_neg d)

under : {a : ℕ} → a < 2305843009213693952 → a ≤ 2866822637798031360
under h = omega (arith, h)

nothing : 0 ≤ 2866822637798031360
nothing = omega arith

pub rates_of-k-requires : goal.rates_of-k-requires
rates_of-k-requires c = (c.requires.0, rw (to_z-of_z c.ranges.p) c.requires.1)

pub axis-x-requires : goal.axis-x-requires
axis-x-requires c =
    let k = c in
    let g = fair k.before.before.before.before.before.before in
    let asks = asks-axis g (axis-x g) (ex k.before.before.before.before.before) (evx k.before.before.before.before.before) (eox k.before.before.before.before.before) (eb k.before.before.before.before.before) in record { within = asks.0; pos_bound = asks.1 }

pub axis-z-requires : goal.axis-z-requires
axis-z-requires c =
    let k = c in
    let g = fair k.before.before.before.before.before.before.before.before.before.before.before in
    let asks = asks-axis g (axis-z g) (ez k.before.before.before.before.before.before.before.before.before.before) (evz k.before.before.before.before.before.before.before.before.before.before) (eoz k.before.before.before.before.before.before.before.before.before.before) (eb k.before.before.before.before.before.before.before.before.before.before) in record { within = asks.0; pos_bound = asks.1 }

pub crossed-xz-requires : goal.crossed-xz-requires
crossed-xz-requires c =
    let k = c in
    let g = fair k.before.before.before.before.before.before.before.before.before.before.before.before.before.before.before.before.before.before.before in
    let asks = asks-crossed g (axis-x g) (axis-z g) (ex k.before.before.before.before.before.before.before.before.before.before.before.before.before.before.before.before.before.before) (ez k.before.before.before.before.before.before.before.before.before.before.before.before.before.before.before.before.before.before) (evx k.before.before.before.before.before.before.before.before.before.before.before.before.before.before.before.before.before.before) (evz k.before.before.before.before.before.before.before.before.before.before.before.before.before.before.before.before.before.before) (eox k.before.before.before.before.before.before.before.before.before.before.before.before.before.before.before.before.before.before) (eoz k.before.before.before.before.before.before.before.before.before.before.before.before.before.before.before.before.before.before) (eb k.before.before.before.before.before.before.before.before.before.before.before.before.before.before.before.before.before.before) in record { within = asks.0; pos_bound = asks.1.0; pos_bound_2 = asks.1.1 }

pub overflow_mul-result : goal.overflow_mul-result
overflow_mul-result c = twice-fits c.axis-x.result.a c.axis-x.ensures.a.most

pub overflow_mul-result-2 : goal.overflow_mul-result-2
overflow_mul-result-2 c = twice-fits c.axis-x.result.b c.axis-x.ensures.b.most

pub overflow_mul-result-3 : goal.overflow_mul-result-3
overflow_mul-result-3 c = twice-fits c.axis-z.result.a c.axis-z.ensures.a.most

pub overflow_mul-result-4 : goal.overflow_mul-result-4
overflow_mul-result-4 c = twice-fits c.axis-z.result.b c.axis-z.ensures.b.most

pub returns : goal.returns
unfolding narrow idle
returns c =
    let k = c in
    let s = k in
    let v = s.args.v in
    let p = s.args.p in
    let g = fair s.before.before.before.before.before.before.before.before.before.before.before.before.before.before.before.before.before.before.before.before.before.before.before in
    let sx = (axis-x g).slope in
    let rx = axis-is g (axis-x g) (ex k.before.before.before.before.before.before.before.before.before.before.before.before.before.before.before.before.before.before.before.before.before.before) (evx k.before.before.before.before.before.before.before.before.before.before.before.before.before.before.before.before.before.before.before.before.before.before) (eox k.before.before.before.before.before.before.before.before.before.before.before.before.before.before.before.before.before.before.before.before.before.before) (eb k.before.before.before.before.before.before.before.before.before.before.before.before.before.before.before.before.before.before.before.before.before.before) c.axis-x.ensures in
    let sz = (axis-z g).slope in
    let rz = axis-is g (axis-z g) (ez k.before.before.before.before.before.before.before.before.before.before.before.before.before.before.before.before.before.before.before.before.before.before) (evz k.before.before.before.before.before.before.before.before.before.before.before.before.before.before.before.before.before.before.before.before.before.before) (eoz k.before.before.before.before.before.before.before.before.before.before.before.before.before.before.before.before.before.before.before.before.before.before) (eb k.before.before.before.before.before.before.before.before.before.before.before.before.before.before.before.before.before.before.before.before.before.before) c.axis-z.ensures in
    let rxz = crossed-is g (axis-x g) (axis-z g) (ex k.before.before.before.before.before.before.before.before.before.before.before.before.before.before.before.before.before.before.before.before.before.before) (ez k.before.before.before.before.before.before.before.before.before.before.before.before.before.before.before.before.before.before.before.before.before.before) (evx k.before.before.before.before.before.before.before.before.before.before.before.before.before.before.before.before.before.before.before.before.before.before) (evz k.before.before.before.before.before.before.before.before.before.before.before.before.before.before.before.before.before.before.before.before.before.before) (eox k.before.before.before.before.before.before.before.before.before.before.before.before.before.before.before.before.before.before.before.before.before.before) (eoz k.before.before.before.before.before.before.before.before.before.before.before.before.before.before.before.before.before.before.before.before.before.before) (eb k.before.before.before.before.before.before.before.before.before.before.before.before.before.before.before.before.before.before.before.before.before.before) c.crossed-xz.ensures in
    let pxz = joined p v.rho sx sz in
    let mxz = joined p v.rho sx (turned p v.rho sz) in
    let nx = c.axis-x.result in
    let nz = c.axis-z.result in
    let nxz = c.crossed-xz.result in
    record {
      at =
          each18 (λ (i : ℕ). idle (suc i) ≡ false → Told v p (suc i) (get_or (2 * nx.a ∷ 2 * nx.b ∷ 0 ∷ 0 ∷ 2 * nz.a ∷ 2 * nz.b ∷ 0 ∷ 0 ∷ 0 ∷ 0 ∷ 0 ∷ 0 ∷ 0 ∷ 0 ∷ nxz.a ∷ nxz.b ∷ nxz.c ∷ nxz.d ∷ []) i 0))
          (λ u. record { lack = 1048576; small = omega arith; near = near-twice g v.x (axis-to g sx) rx.a 1 (along-x 1 (omega arith) (omega arith)) (dot1 v) })
          (λ u. record { lack = 1048576; small = omega arith; near = near-twice g (neg_ℤ v.x) (axis-fro g sx) rx.b 2 (along-x 2 (omega arith) (omega arith)) (dot2 v) })
          (λ u. absurd (false≢true (sym u)))
          (λ u. absurd (false≢true (sym u)))
          (λ u. record { lack = 1048576; small = omega arith; near = near-twice g v.z (axis-to g sz) rz.a 5 (along-z 5 (omega arith) (omega arith)) (dot5 v) })
          (λ u. record { lack = 1048576; small = omega arith; near = near-twice g (neg_ℤ v.z) (axis-fro g sz) rz.b 6 (along-z 6 (omega arith) (omega arith)) (dot6 v) })
          (λ u. absurd (false≢true (sym u)))
          (λ u. absurd (false≢true (sym u)))
          (λ u. absurd (false≢true (sym u)))
          (λ u. absurd (false≢true (sym u)))
          (λ u. absurd (false≢true (sym u)))
          (λ u. absurd (false≢true (sym u)))
          (λ u. absurd (false≢true (sym u)))
          (λ u. absurd (false≢true (sym u)))
          (λ u. record { lack = 524288; small = omega arith; near = near g spread_lattice 15 1 (v.x +ℤ v.z) (diagonal 15 (omega arith) (omega arith)) (dot15 v) (diagonal-to g pxz) rxz.a })
          (λ u. record { lack = 524288; small = omega arith; near = near g spread_lattice 16 1 (neg_ℤ (v.x +ℤ v.z)) (diagonal 16 (omega arith) (omega arith)) (dot16 v) (diagonal-fro g pxz) rxz.b })
          (λ u. record { lack = 524288; small = omega arith; near = near g spread_lattice 17 1 (v.x -ℤ v.z) (diagonal 17 (omega arith) (omega arith)) (dot17 v) (diagonal-to g mxz) rxz.c })
          (λ u. record { lack = 524288; small = omega arith; near = near g spread_lattice 18 1 (neg_ℤ (v.x -ℤ v.z)) (diagonal 18 (omega arith) (omega arith)) (dot18 v) (diagonal-fro g mxz) rxz.d });
      none =
          each18 (λ (i : ℕ). idle (suc i) ≡ true → get_or (2 * nx.a ∷ 2 * nx.b ∷ 0 ∷ 0 ∷ 2 * nz.a ∷ 2 * nz.b ∷ 0 ∷ 0 ∷ 0 ∷ 0 ∷ 0 ∷ 0 ∷ 0 ∷ 0 ∷ nxz.a ∷ nxz.b ∷ nxz.c ∷ nxz.d ∷ []) i 0 ≡ 0)
          (λ u. absurd (false≢true u)) (λ u. absurd (false≢true u)) (λ u. refl) (λ u. refl) (λ u. absurd (false≢true u)) (λ u. absurd (false≢true u)) (λ u. refl) (λ u. refl) (λ u. refl) (λ u. refl) (λ u. refl) (λ u. refl) (λ u. refl) (λ u. refl) (λ u. absurd (false≢true u)) (λ u. absurd (false≢true u)) (λ u. absurd (false≢true u)) (λ u. absurd (false≢true u));
      most =
          each18 (λ (i : ℕ). get_or (2 * nx.a ∷ 2 * nx.b ∷ 0 ∷ 0 ∷ 2 * nz.a ∷ 2 * nz.b ∷ 0 ∷ 0 ∷ 0 ∷ 0 ∷ 0 ∷ 0 ∷ 0 ∷ 0 ∷ nxz.a ∷ nxz.b ∷ nxz.c ∷ nxz.d ∷ []) i 0 ≤ 2866822637798031360)
          (twice_most g v.x (axis-to g sx) rx.a (calm_of g).x)
          (twice_most g (neg_ℤ v.x) (axis-fro g sx) rx.b (turned-slow v.x (calm_of g).x))
          nothing
          nothing
          (twice_most g v.z (axis-to g sz) rz.a (calm_of g).z)
          (twice_most g (neg_ℤ v.z) (axis-fro g sz) rz.b (turned-slow v.z (calm_of g).z))
          nothing
          nothing
          nothing
          nothing
          nothing
          nothing
          nothing
          nothing
          (under rxz.a.most)
          (under rxz.b.most)
          (under rxz.c.most)
          (under rxz.d.most);
    }
