-- `landings::estimate::ends`: what each axis and each pair of axes asks holds of a steady flow's rates, and each end brackets its direction. Assumes nothing.
use mathlib.Core.Path.{◌≡◌, refl}
use mathlib.Core.List.{[], ◌∷◌}
use Prim.Native.Nat.{ℕ, suc, ◌<◌}
use lib.IntN.{neg_ℤ, ◌+ℤ◌, ◌-ℤ◌}
use lib.ListN.{get_or}
use mir.Syntax.{w32, w64}
use mir.Val.{to_z, of_z}
use mir.Facts.{to_z-of_z}
use Rattle.whole.specs.laws.Machine.{v32, v64, same, reads_as}
use Rattle.lattice.specs.Lattice.{d3q19, open-lattice}
use Rattle.lattice.proofs.Reading.{inside}
use Rattle.landings.specs.inner.Estimate.{RatesAre, Near, speed, odd, even, energy}
use Rattle.landings.proofs.Dots.{dot1, dot2, dot3, dot4, dot5, dot6, dot7, dot8, dot9, dot10, dot11, dot12, dot13, dot14, dot15, dot16, dot17, dot18}
use Rattle.landings.proofs.Each.{each18}
use Rattle.landings.proofs.Rates.{Fair, calm_of, axis-x, axis-y, axis-z, base-in, joined, turned}
use Rattle.landings.proofs.Ends.{asks-axis, axis-is, asks-crossed, crossed-is, axis-to, axis-fro, diagonal-to, diagonal-fro, near}
use Rattle.landings.proofs.estimate.ends.Lts as lts
use Rattle.landings.proofs.estimate.ends.Reads as reads
use Rattle.landings.proofs.estimate.ends.Tie as tie
use Rattle.landings.proofs.estimate.ends.Goals as goal

abbrev At-After-rates_of-k : Type 0
At-After-rates_of-k = lts.After-rates_of tie.the-claims reads.Pre reads.Post tie.handed_clauses

fair : (s : goal.Start) → Fair s.args.v s.args.p
fair s = record { steady = s.requires.0; good = s.requires.1 }

-- the machine's numbers are the rates
module _ (c : At-After-rates_of-k) where
  abbrev s : goal.Start
  s = c.before

  rates : RatesAre s.args.v s.args.p c.rates_of-k.result
  rates = rw (to_z-of_z s.ranges.p) at c.rates_of-k.ensures

  ex : to_z w32 (of_z w32 s.args.v.x) ≡ s.args.v.x
  ex = reads_as (v32 (inside (calm_of (fair s)).tame.x)) tt

  evx : to_z w64 (of_z w64 c.rates_of-k.result.vx) ≡ speed s.args.p s.args.v.rho s.args.v.x
  evx = reads_as (v64 (same rates.vx (inside (axis-x (fair s)).u-in))) tt

  eox : to_z w64 (of_z w64 c.rates_of-k.result.ox) ≡ odd s.args.p s.args.v.x
  eox = reads_as (v64 (same rates.ox (inside (axis-x (fair s)).o-in))) tt

  ey : to_z w32 (of_z w32 s.args.v.y) ≡ s.args.v.y
  ey = reads_as (v32 (inside (calm_of (fair s)).tame.y)) tt

  evy : to_z w64 (of_z w64 c.rates_of-k.result.vy) ≡ speed s.args.p s.args.v.rho s.args.v.y
  evy = reads_as (v64 (same rates.vy (inside (axis-y (fair s)).u-in))) tt

  eoy : to_z w64 (of_z w64 c.rates_of-k.result.oy) ≡ odd s.args.p s.args.v.y
  eoy = reads_as (v64 (same rates.oy (inside (axis-y (fair s)).o-in))) tt

  ez : to_z w32 (of_z w32 s.args.v.z) ≡ s.args.v.z
  ez = reads_as (v32 (inside (calm_of (fair s)).tame.z)) tt

  evz : to_z w64 (of_z w64 c.rates_of-k.result.vz) ≡ speed s.args.p s.args.v.rho s.args.v.z
  evz = reads_as (v64 (same rates.vz (inside (axis-z (fair s)).u-in))) tt

  eoz : to_z w64 (of_z w64 c.rates_of-k.result.oz) ≡ odd s.args.p s.args.v.z
  eoz = reads_as (v64 (same rates.oz (inside (axis-z (fair s)).o-in))) tt

  eb : to_z w64 (of_z w64 c.rates_of-k.result.base) ≡ even s.args.p s.args.v.rho (energy s.args.p s.args.v)
  eb = reads_as (v64 (same rates.base (inside (base-in (fair s))))) tt

pub rates_of-k-requires : goal.rates_of-k-requires
rates_of-k-requires c = (c.requires.0, rw (to_z-of_z c.ranges.p) c.requires.1)

pub axis-x-requires : goal.axis-x-requires
axis-x-requires c =
    let k = c.before.before.before.before.before in
    let g = fair k.before in
    let asks = asks-axis g (axis-x g) (ex k) (evx k) (eox k) (eb k) in record { within = asks.0; pos_bound = asks.1 }

pub axis-y-requires : goal.axis-y-requires
axis-y-requires c =
    let k = c.before.before.before.before.before.before.before.before.before.before in
    let g = fair k.before in
    let asks = asks-axis g (axis-y g) (ey k) (evy k) (eoy k) (eb k) in record { within = asks.0; pos_bound = asks.1 }

pub axis-z-requires : goal.axis-z-requires
axis-z-requires c =
    let k = c.before.before.before.before.before.before.before.before.before.before.before.before.before.before.before in
    let g = fair k.before in
    let asks = asks-axis g (axis-z g) (ez k) (evz k) (eoz k) (eb k) in record { within = asks.0; pos_bound = asks.1 }

pub crossed-xy-requires : goal.crossed-xy-requires
crossed-xy-requires c =
    let k = c.before.before.before.before.before.before.before.before.before.before.before.before.before.before.before.before.before.before.before.before.before.before.before in
    let g = fair k.before in
    let asks = asks-crossed g (axis-x g) (axis-y g) (ex k) (ey k) (evx k) (evy k) (eox k) (eoy k) (eb k) in record { within = asks.0; pos_bound = asks.1.0; pos_bound_2 = asks.1.1 }

pub crossed-yz-requires : goal.crossed-yz-requires
crossed-yz-requires c =
    let k = c.before.before.before.before.before.before.before.before.before.before.before.before.before.before.before.before.before.before.before.before.before.before.before.before.before.before.before.before.before.before.before in
    let g = fair k.before in
    let asks = asks-crossed g (axis-y g) (axis-z g) (ey k) (ez k) (evy k) (evz k) (eoy k) (eoz k) (eb k) in record { within = asks.0; pos_bound = asks.1.0; pos_bound_2 = asks.1.1 }

pub crossed-xz-requires : goal.crossed-xz-requires
crossed-xz-requires c =
    let k = c.before.before.before.before.before.before.before.before.before.before.before.before.before.before.before.before.before.before.before.before.before.before.before.before.before.before.before.before.before.before.before.before.before.before.before.before.before.before.before in
    let g = fair k.before in
    let asks = asks-crossed g (axis-x g) (axis-z g) (ex k) (ez k) (evx k) (evz k) (eox k) (eoz k) (eb k) in record { within = asks.0; pos_bound = asks.1.0; pos_bound_2 = asks.1.1 }

pub returns : goal.returns
unfolding open-lattice
returns c =
    let k = c.before.before.before.before.before.before.before.before.before.before.before.before.before.before.before.before.before.before.before.before.before.before.before.before.before.before.before.before.before.before.before.before.before.before.before.before.before.before.before in
    let s = k.before in
    let v = s.args.v in
    let p = s.args.p in
    let g = fair s in
    let sx = (axis-x g).slope in
    let rx = axis-is g (axis-x g) (ex k) (evx k) (eox k) (eb k) c.axis-x.ensures in
    let sy = (axis-y g).slope in
    let ry = axis-is g (axis-y g) (ey k) (evy k) (eoy k) (eb k) c.axis-y.ensures in
    let sz = (axis-z g).slope in
    let rz = axis-is g (axis-z g) (ez k) (evz k) (eoz k) (eb k) c.axis-z.ensures in
    let rxy = crossed-is g (axis-x g) (axis-y g) (ex k) (ey k) (evx k) (evy k) (eox k) (eoy k) (eb k) c.crossed-xy.ensures in
    let pxy = joined p v.rho sx sy in
    let mxy = joined p v.rho sx (turned p v.rho sy) in
    let ryz = crossed-is g (axis-y g) (axis-z g) (ey k) (ez k) (evy k) (evz k) (eoy k) (eoz k) (eb k) c.crossed-yz.ensures in
    let pyz = joined p v.rho sy sz in
    let myz = joined p v.rho sy (turned p v.rho sz) in
    let rxz = crossed-is g (axis-x g) (axis-z g) (ex k) (ez k) (evx k) (evz k) (eox k) (eoz k) (eb k) c.crossed-xz.ensures in
    let pxz = joined p v.rho sx sz in
    let mxz = joined p v.rho sx (turned p v.rho sz) in
    let nx = c.axis-x.result in
    let ny = c.axis-y.result in
    let nz = c.axis-z.result in
    let nxy = c.crossed-xy.result in
    let nyz = c.crossed-yz.result in
    let nxz = c.crossed-xz.result in
    record {
      at =
          each18 (λ (i : ℕ). Near d3q19 524288 v p (suc i) (get_or (nx.a ∷ nx.b ∷ ny.a ∷ ny.b ∷ nz.a ∷ nz.b ∷ nxy.a ∷ nxy.b ∷ nxy.c ∷ nxy.d ∷ nyz.a ∷ nyz.b ∷ nyz.c ∷ nyz.d ∷ nxz.a ∷ nxz.b ∷ nxz.c ∷ nxz.d ∷ []) i 0))
          (near g d3q19 1 2 v.x refl (dot1 v) (axis-to g sx) rx.a)
          (near g d3q19 2 2 (neg_ℤ v.x) refl (dot2 v) (axis-fro g sx) rx.b)
          (near g d3q19 3 2 v.y refl (dot3 v) (axis-to g sy) ry.a)
          (near g d3q19 4 2 (neg_ℤ v.y) refl (dot4 v) (axis-fro g sy) ry.b)
          (near g d3q19 5 2 v.z refl (dot5 v) (axis-to g sz) rz.a)
          (near g d3q19 6 2 (neg_ℤ v.z) refl (dot6 v) (axis-fro g sz) rz.b)
          (near g d3q19 7 1 (v.x +ℤ v.y) refl (dot7 v) (diagonal-to g pxy) rxy.a)
          (near g d3q19 8 1 (neg_ℤ (v.x +ℤ v.y)) refl (dot8 v) (diagonal-fro g pxy) rxy.b)
          (near g d3q19 9 1 (v.x -ℤ v.y) refl (dot9 v) (diagonal-to g mxy) rxy.c)
          (near g d3q19 10 1 (neg_ℤ (v.x -ℤ v.y)) refl (dot10 v) (diagonal-fro g mxy) rxy.d)
          (near g d3q19 11 1 (v.y +ℤ v.z) refl (dot11 v) (diagonal-to g pyz) ryz.a)
          (near g d3q19 12 1 (neg_ℤ (v.y +ℤ v.z)) refl (dot12 v) (diagonal-fro g pyz) ryz.b)
          (near g d3q19 13 1 (v.y -ℤ v.z) refl (dot13 v) (diagonal-to g myz) ryz.c)
          (near g d3q19 14 1 (neg_ℤ (v.y -ℤ v.z)) refl (dot14 v) (diagonal-fro g myz) ryz.d)
          (near g d3q19 15 1 (v.x +ℤ v.z) refl (dot15 v) (diagonal-to g pxz) rxz.a)
          (near g d3q19 16 1 (neg_ℤ (v.x +ℤ v.z)) refl (dot16 v) (diagonal-fro g pxz) rxz.b)
          (near g d3q19 17 1 (v.x -ℤ v.z) refl (dot17 v) (diagonal-to g mxz) rxz.c)
          (near g d3q19 18 1 (neg_ℤ (v.x -ℤ v.z)) refl (dot18 v) (diagonal-fro g mxz) rxz.d);
      most =
          each18 (λ (i : ℕ). get_or (nx.a ∷ nx.b ∷ ny.a ∷ ny.b ∷ nz.a ∷ nz.b ∷ nxy.a ∷ nxy.b ∷ nxy.c ∷ nxy.d ∷ nyz.a ∷ nyz.b ∷ nyz.c ∷ nyz.d ∷ nxz.a ∷ nxz.b ∷ nxz.c ∷ nxz.d ∷ []) i 0 < 2305843009213693952)
          rx.a.most rx.b.most ry.a.most ry.b.most rz.a.most rz.b.most rxy.a.most rxy.b.most rxy.c.most rxy.d.most ryz.a.most ryz.b.most ryz.c.most ryz.d.most rxz.a.most rxz.b.most rxz.c.most rxz.d.most;
    }
