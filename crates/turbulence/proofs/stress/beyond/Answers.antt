-- `turbulence::stress::beyond`: nine pairs, each by two calls. Assumes nothing.
use mathlib.Core.Path.{◌≡◌, ◌∙◌}
use lib.Dec.{lit<}
use lib.IntN.{ℤ, ◌+ℤ◌, ◌-ℤ◌}
use mir.Syntax.{w32}
use mir.Val.{to_z, of_z}
use Rattle.whole.specs.laws.Machine.{Within, v32, within_by, does-fit, reads_as, as_read}
use Rattle.lattice.specs.Lattice.{d3q19}
use Rattle.lattice.specs.inner.Held.{parts_of, vec, Tame}
use Rattle.lattice.proofs.Reading.{reading, inside}
use Rattle.lattice.proofs.Tame.{steady-tame}
use Rattle.turbulence.specs.Turbulence.{beyond}
use Rattle.turbulence.specs.inner.Post.{Apt, both}
use Rattle.turbulence.proofs.Nines.{x-apt, x-pair, y-apt, y-pair, z-apt, z-pair, xy-apt, xy-pair, yx-apt, yx-pair, yz-apt, yz-pair, zy-apt, zy-pair, xz-apt, xz-pair, zx-apt, zx-pair, entry}
use Rattle.turbulence.proofs.stress.beyond.Lts as lts
use Rattle.turbulence.proofs.stress.beyond.Reads as reads
use Rattle.turbulence.proofs.stress.beyond.Tie as tie
use Rattle.turbulence.proofs.stress.beyond.Goals as goal

abbrev At-Start : Type 0
At-Start = lts.Start tie.the-claims reads.Pre reads.Post

abbrev At-After-slack : Type 0
At-After-slack = lts.After-slack tie.the-claims reads.Pre reads.Post

abbrev At-After-shared_of-k : Type 0
At-After-shared_of-k = lts.After-shared_of tie.the-claims reads.Pre reads.Post

abbrev At-After-slack-2 : Type 0
At-After-slack-2 = lts.After-slack2 tie.the-claims reads.Pre reads.Post

abbrev At-After-slack-3 : Type 0
At-After-slack-3 = lts.After-slack3 tie.the-claims reads.Pre reads.Post

abbrev At-After-slack-4 : Type 0
At-After-slack-4 = lts.After-slack4 tie.the-claims reads.Pre reads.Post

abbrev At-After-slack-5 : Type 0
At-After-slack-5 = lts.After-slack5 tie.the-claims reads.Pre reads.Post

abbrev At-After-slack-6 : Type 0
At-After-slack-6 = lts.After-slack6 tie.the-claims reads.Pre reads.Post

abbrev At-After-slack-7 : Type 0
At-After-slack-7 = lts.After-slack7 tie.the-claims reads.Pre reads.Post

abbrev At-After-slack-8 : Type 0
At-After-slack-8 = lts.After-slack8 tie.the-claims reads.Pre reads.Post

-- a flow that passes the test is tame
tame : (s : At-Start) → Tame s.args.v
tame s = steady-tame s.args.v s.requires.1

-- a number as the machine holds it
abbrev stored : ℤ → ℤ
stored z = to_z w32 (of_z w32 z)

-- from each pair's second call back to the one before, and to what they share
abbrev x-shared : At-After-slack → At-After-shared_of-k
x-shared c = c.before.before.before

abbrev y-x : At-After-slack-2 → At-After-slack
y-x c = c.before.before.before

abbrev y-shared : At-After-slack-2 → At-After-shared_of-k
y-shared c = x-shared (y-x c)

abbrev z-y : At-After-slack-3 → At-After-slack-2
z-y c = c.before.before.before

abbrev z-shared : At-After-slack-3 → At-After-shared_of-k
z-shared c = y-shared (z-y c)

abbrev xy_z : At-After-slack-4 → At-After-slack-3
xy_z c = c.before.before.before.before

abbrev xy-shared : At-After-slack-4 → At-After-shared_of-k
xy-shared c = z-shared (xy_z c)

abbrev yx-xy : At-After-slack-5 → At-After-slack-4
yx-xy c = c.before.before.before.before

abbrev yx-shared : At-After-slack-5 → At-After-shared_of-k
yx-shared c = xy-shared (yx-xy c)

abbrev yz-yx : At-After-slack-6 → At-After-slack-5
yz-yx c = c.before.before.before.before

abbrev yz-shared : At-After-slack-6 → At-After-shared_of-k
yz-shared c = yx-shared (yz-yx c)

abbrev zy-yz : At-After-slack-7 → At-After-slack-6
zy-yz c = c.before.before.before.before

abbrev zy-shared : At-After-slack-7 → At-After-shared_of-k
zy-shared c = yz-shared (zy-yz c)

abbrev xz-zy : At-After-slack-8 → At-After-slack-7
xz-zy c = c.before.before.before.before

abbrev xz-shared : At-After-slack-8 → At-After-shared_of-k
xz-shared c = zy-shared (xz-zy c)

abbrev zx-xz : goal.After-slack-9 → At-After-slack-8
zx-xz c = c.before.before.before.before

abbrev zx-shared : goal.After-slack-9 → At-After-shared_of-k
zx-shared c = xz-shared (zx-xz c)

x-is : (c : At-After-slack)
    → (c.slack.result ≡ both (beyond d3q19 (x-shared c).args.v.rho (vec (x-shared c).args.v) (parts_of (x-shared c).args.f)) 0) × Within c.slack.result 8388608
x-is c =
    let u = x-shared c in
    let t = tame u.before in let x = t.x in let y = t.y in let z = t.z in
    let v = u.args.v in
    let p = c.equilibrium_pair in (
      entry v u.requires.1 u.shared_of-k.result u.shared_of-k.ensures d3q19 u.args.f 0 6 v.x (stored v.x)
          (x-pair v u.requires.1 u.shared_of-k.result u.shared_of-k.ensures) p.ensures.0 p.ensures.1 c.slack.ensures.0 (reads_as (search reading depth 20) tt),
      c.slack.ensures.1,
    )

y-is : (c : At-After-slack-2)
    → (c.slack-2.result ≡ both (beyond d3q19 (y-shared c).args.v.rho (vec (y-shared c).args.v) (parts_of (y-shared c).args.f)) 1) × Within c.slack-2.result 8388608
y-is c =
    let u = y-shared c in
    let t = tame u.before in let x = t.x in let y = t.y in let z = t.z in
    let v = u.args.v in
    let p = c.equilibrium_pair-2 in (
      entry v u.requires.1 u.shared_of-k.result u.shared_of-k.ensures d3q19 u.args.f 1 6 v.y (stored v.y)
          (y-pair v u.requires.1 u.shared_of-k.result u.shared_of-k.ensures) p.ensures.0 p.ensures.1 c.slack-2.ensures.0 (reads_as (search reading depth 20) tt),
      c.slack-2.ensures.1,
    )

z-is : (c : At-After-slack-3)
    → (c.slack-3.result ≡ both (beyond d3q19 (z-shared c).args.v.rho (vec (z-shared c).args.v) (parts_of (z-shared c).args.f)) 2) × Within c.slack-3.result 8388608
z-is c =
    let u = z-shared c in
    let t = tame u.before in let x = t.x in let y = t.y in let z = t.z in
    let v = u.args.v in
    let p = c.equilibrium_pair-3 in (
      entry v u.requires.1 u.shared_of-k.result u.shared_of-k.ensures d3q19 u.args.f 2 6 v.z (stored v.z)
          (z-pair v u.requires.1 u.shared_of-k.result u.shared_of-k.ensures) p.ensures.0 p.ensures.1 c.slack-3.ensures.0 (reads_as (search reading depth 20) tt),
      c.slack-3.ensures.1,
    )

xy-is : (c : At-After-slack-4)
    → (c.slack-4.result ≡ both (beyond d3q19 (xy-shared c).args.v.rho (vec (xy-shared c).args.v) (parts_of (xy-shared c).args.f)) 3) × Within c.slack-4.result 8388608
xy-is c =
    let u = xy-shared c in
    let t = tame u.before in let x = t.x in let y = t.y in let z = t.z in
    let v = u.args.v in
    let p = c.equilibrium_pair-4 in (
      entry v u.requires.1 u.shared_of-k.result u.shared_of-k.ensures d3q19 u.args.f 3 12 (v.x +ℤ v.y) (stored (stored v.x +ℤ stored v.y))
          (xy-pair v u.requires.1 u.shared_of-k.result u.shared_of-k.ensures) p.ensures.0 p.ensures.1 c.slack-4.ensures.0 (reads_as (search reading depth 20) tt),
      c.slack-4.ensures.1,
    )

yx-is : (c : At-After-slack-5)
    → (c.slack-5.result ≡ both (beyond d3q19 (yx-shared c).args.v.rho (vec (yx-shared c).args.v) (parts_of (yx-shared c).args.f)) 4) × Within c.slack-5.result 8388608
yx-is c =
    let u = yx-shared c in
    let t = tame u.before in let x = t.x in let y = t.y in let z = t.z in
    let v = u.args.v in
    let p = c.equilibrium_pair-5 in (
      entry v u.requires.1 u.shared_of-k.result u.shared_of-k.ensures d3q19 u.args.f 4 12 (v.x -ℤ v.y) (stored (stored v.x -ℤ stored v.y))
          (yx-pair v u.requires.1 u.shared_of-k.result u.shared_of-k.ensures) p.ensures.0 p.ensures.1 c.slack-5.ensures.0 (reads_as (search reading depth 20) tt),
      c.slack-5.ensures.1,
    )

yz-is : (c : At-After-slack-6)
    → (c.slack-6.result ≡ both (beyond d3q19 (yz-shared c).args.v.rho (vec (yz-shared c).args.v) (parts_of (yz-shared c).args.f)) 5) × Within c.slack-6.result 8388608
yz-is c =
    let u = yz-shared c in
    let t = tame u.before in let x = t.x in let y = t.y in let z = t.z in
    let v = u.args.v in
    let p = c.equilibrium_pair-6 in (
      entry v u.requires.1 u.shared_of-k.result u.shared_of-k.ensures d3q19 u.args.f 5 12 (v.y +ℤ v.z) (stored (stored v.y +ℤ stored v.z))
          (yz-pair v u.requires.1 u.shared_of-k.result u.shared_of-k.ensures) p.ensures.0 p.ensures.1 c.slack-6.ensures.0 (reads_as (search reading depth 20) tt),
      c.slack-6.ensures.1,
    )

zy-is : (c : At-After-slack-7)
    → (c.slack-7.result ≡ both (beyond d3q19 (zy-shared c).args.v.rho (vec (zy-shared c).args.v) (parts_of (zy-shared c).args.f)) 6) × Within c.slack-7.result 8388608
zy-is c =
    let u = zy-shared c in
    let t = tame u.before in let x = t.x in let y = t.y in let z = t.z in
    let v = u.args.v in
    let p = c.equilibrium_pair-7 in (
      entry v u.requires.1 u.shared_of-k.result u.shared_of-k.ensures d3q19 u.args.f 6 12 (v.y -ℤ v.z) (stored (stored v.y -ℤ stored v.z))
          (zy-pair v u.requires.1 u.shared_of-k.result u.shared_of-k.ensures) p.ensures.0 p.ensures.1 c.slack-7.ensures.0 (reads_as (search reading depth 20) tt),
      c.slack-7.ensures.1,
    )

xz-is : (c : At-After-slack-8)
    → (c.slack-8.result ≡ both (beyond d3q19 (xz-shared c).args.v.rho (vec (xz-shared c).args.v) (parts_of (xz-shared c).args.f)) 7) × Within c.slack-8.result 8388608
xz-is c =
    let u = xz-shared c in
    let t = tame u.before in let x = t.x in let y = t.y in let z = t.z in
    let v = u.args.v in
    let p = c.equilibrium_pair-8 in (
      entry v u.requires.1 u.shared_of-k.result u.shared_of-k.ensures d3q19 u.args.f 7 12 (v.x +ℤ v.z) (stored (stored v.x +ℤ stored v.z))
          (xz-pair v u.requires.1 u.shared_of-k.result u.shared_of-k.ensures) p.ensures.0 p.ensures.1 c.slack-8.ensures.0 (reads_as (search reading depth 20) tt),
      c.slack-8.ensures.1,
    )

zx-is : (c : goal.After-slack-9)
    → (c.slack-9.result ≡ both (beyond d3q19 (zx-shared c).args.v.rho (vec (zx-shared c).args.v) (parts_of (zx-shared c).args.f)) 8) × Within c.slack-9.result 8388608
zx-is c =
    let u = zx-shared c in
    let t = tame u.before in let x = t.x in let y = t.y in let z = t.z in
    let v = u.args.v in
    let p = c.equilibrium_pair-9 in (
      entry v u.requires.1 u.shared_of-k.result u.shared_of-k.ensures d3q19 u.args.f 8 12 (v.x -ℤ v.z) (stored (stored v.x -ℤ stored v.z))
          (zx-pair v u.requires.1 u.shared_of-k.result u.shared_of-k.ensures) p.ensures.0 p.ensures.1 c.slack-9.ensures.0 (reads_as (search reading depth 20) tt),
      c.slack-9.ensures.1,
    )

held : {m z : ℤ} → (m ≡ z) × Within m 8388608 → to_z w32 (of_z w32 m) ≡ z
held q = reads_as (v32 (inside q.1)) tt ∙ q.0

small : {m z : ℤ} → (m ≡ z) × Within m 8388608 → Within (to_z w32 (of_z w32 m)) 8388608
small q = within_by (v32 (inside q.1)) tt

pub equilibrium_pair-requires : goal.equilibrium_pair-requires
equilibrium_pair-requires c =
    let u = c.before.before in
    let t = tame u.before in let x = t.x in let y = t.y in let z = t.z in
    (as_read (λ (z : ℤ). Apt z u.shared_of-k.result) (search reading depth 20) tt (x-apt u.args.v u.requires.1 u.shared_of-k.result u.shared_of-k.ensures), lit< tt)

pub slack-requires : goal.slack-requires
slack-requires c = let u = c.before.before.before in (u.requires.0, lit< tt, within_by (v32 (inside c.equilibrium_pair.ensures.1)) tt)

pub equilibrium_pair-requires-2 : goal.equilibrium_pair-requires-2
equilibrium_pair-requires-2 c =
    let u = x-shared c.before.before in
    let t = tame u.before in let x = t.x in let y = t.y in let z = t.z in
    (as_read (λ (z : ℤ). Apt z u.shared_of-k.result) (search reading depth 20) tt (y-apt u.args.v u.requires.1 u.shared_of-k.result u.shared_of-k.ensures), lit< tt)

pub slack-requires-2 : goal.slack-requires-2
slack-requires-2 c = let u = x-shared c.before.before.before in (u.requires.0, lit< tt, within_by (v32 (inside c.equilibrium_pair-2.ensures.1)) tt)

pub equilibrium_pair-requires-3 : goal.equilibrium_pair-requires-3
equilibrium_pair-requires-3 c =
    let u = y-shared c.before.before in
    let t = tame u.before in let x = t.x in let y = t.y in let z = t.z in
    (as_read (λ (z : ℤ). Apt z u.shared_of-k.result) (search reading depth 20) tt (z-apt u.args.v u.requires.1 u.shared_of-k.result u.shared_of-k.ensures), lit< tt)

pub slack-requires-3 : goal.slack-requires-3
slack-requires-3 c = let u = y-shared c.before.before.before in (u.requires.0, lit< tt, within_by (v32 (inside c.equilibrium_pair-3.ensures.1)) tt)

pub overflow_add-v : goal.overflow_add-v
overflow_add-v c =
    let u = z-shared c.before.before.before in
    let t = tame u.before in let x = t.x in let y = t.y in let z = t.z in
    does-fit (search reading depth 20) tt

pub equilibrium_pair-requires-4 : goal.equilibrium_pair-requires-4
equilibrium_pair-requires-4 c =
    let u = z-shared c.before.before.before in
    let t = tame u.before in let x = t.x in let y = t.y in let z = t.z in
    (as_read (λ (z : ℤ). Apt z u.shared_of-k.result) (search reading depth 20) tt (xy-apt u.args.v u.requires.1 u.shared_of-k.result u.shared_of-k.ensures), lit< tt)

pub slack-requires-4 : goal.slack-requires-4
slack-requires-4 c = let u = z-shared c.before.before.before.before in (u.requires.0, lit< tt, within_by (v32 (inside c.equilibrium_pair-4.ensures.1)) tt)

pub overflow_sub-v : goal.overflow_sub-v
overflow_sub-v c =
    let u = xy-shared c.before.before.before in
    let t = tame u.before in let x = t.x in let y = t.y in let z = t.z in
    does-fit (search reading depth 20) tt

pub equilibrium_pair-requires-5 : goal.equilibrium_pair-requires-5
equilibrium_pair-requires-5 c =
    let u = xy-shared c.before.before.before in
    let t = tame u.before in let x = t.x in let y = t.y in let z = t.z in
    (as_read (λ (z : ℤ). Apt z u.shared_of-k.result) (search reading depth 20) tt (yx-apt u.args.v u.requires.1 u.shared_of-k.result u.shared_of-k.ensures), lit< tt)

pub slack-requires-5 : goal.slack-requires-5
slack-requires-5 c = let u = xy-shared c.before.before.before.before in (u.requires.0, lit< tt, within_by (v32 (inside c.equilibrium_pair-5.ensures.1)) tt)

pub overflow_add-v-2 : goal.overflow_add-v-2
overflow_add-v-2 c =
    let u = yx-shared c.before.before.before in
    let t = tame u.before in let x = t.x in let y = t.y in let z = t.z in
    does-fit (search reading depth 20) tt

pub equilibrium_pair-requires-6 : goal.equilibrium_pair-requires-6
equilibrium_pair-requires-6 c =
    let u = yx-shared c.before.before.before in
    let t = tame u.before in let x = t.x in let y = t.y in let z = t.z in
    (as_read (λ (z : ℤ). Apt z u.shared_of-k.result) (search reading depth 20) tt (yz-apt u.args.v u.requires.1 u.shared_of-k.result u.shared_of-k.ensures), lit< tt)

pub slack-requires-6 : goal.slack-requires-6
slack-requires-6 c = let u = yx-shared c.before.before.before.before in (u.requires.0, lit< tt, within_by (v32 (inside c.equilibrium_pair-6.ensures.1)) tt)

pub overflow_sub-v-2 : goal.overflow_sub-v-2
overflow_sub-v-2 c =
    let u = yz-shared c.before.before.before in
    let t = tame u.before in let x = t.x in let y = t.y in let z = t.z in
    does-fit (search reading depth 20) tt

pub equilibrium_pair-requires-7 : goal.equilibrium_pair-requires-7
equilibrium_pair-requires-7 c =
    let u = yz-shared c.before.before.before in
    let t = tame u.before in let x = t.x in let y = t.y in let z = t.z in
    (as_read (λ (z : ℤ). Apt z u.shared_of-k.result) (search reading depth 20) tt (zy-apt u.args.v u.requires.1 u.shared_of-k.result u.shared_of-k.ensures), lit< tt)

pub slack-requires-7 : goal.slack-requires-7
slack-requires-7 c = let u = yz-shared c.before.before.before.before in (u.requires.0, lit< tt, within_by (v32 (inside c.equilibrium_pair-7.ensures.1)) tt)

pub overflow_add-v-3 : goal.overflow_add-v-3
overflow_add-v-3 c =
    let u = zy-shared c.before.before.before in
    let t = tame u.before in let x = t.x in let y = t.y in let z = t.z in
    does-fit (search reading depth 20) tt

pub equilibrium_pair-requires-8 : goal.equilibrium_pair-requires-8
equilibrium_pair-requires-8 c =
    let u = zy-shared c.before.before.before in
    let t = tame u.before in let x = t.x in let y = t.y in let z = t.z in
    (as_read (λ (z : ℤ). Apt z u.shared_of-k.result) (search reading depth 20) tt (xz-apt u.args.v u.requires.1 u.shared_of-k.result u.shared_of-k.ensures), lit< tt)

pub slack-requires-8 : goal.slack-requires-8
slack-requires-8 c = let u = zy-shared c.before.before.before.before in (u.requires.0, lit< tt, within_by (v32 (inside c.equilibrium_pair-8.ensures.1)) tt)

pub overflow_sub-v-3 : goal.overflow_sub-v-3
overflow_sub-v-3 c =
    let u = xz-shared c.before.before in
    let t = tame u.before in let x = t.x in let y = t.y in let z = t.z in
    does-fit (search reading depth 20) tt

pub equilibrium_pair-requires-9 : goal.equilibrium_pair-requires-9
equilibrium_pair-requires-9 c =
    let u = xz-shared c.before.before in
    let t = tame u.before in let x = t.x in let y = t.y in let z = t.z in
    (as_read (λ (z : ℤ). Apt z u.shared_of-k.result) (search reading depth 20) tt (zx-apt u.args.v u.requires.1 u.shared_of-k.result u.shared_of-k.ensures), lit< tt)

pub slack-requires-9 : goal.slack-requires-9
slack-requires-9 c = let u = xz-shared c.before.before.before in (u.requires.0, lit< tt, within_by (v32 (inside c.equilibrium_pair-9.ensures.1)) tt)

pub returns : goal.returns
returns c =
    let zx = c in
    let xz = zx-xz zx in
    let zy = xz-zy xz in
    let yz = zy-yz zy in
    let yx = yz-yx yz in
    let xy = yx-xy yx in
    let z = xy_z xy in
    let y = z-y z in
    let x = y-x y in (
      record { x = held (x-is x); y = held (y-is y); z = held (z-is z); xy = held (xy-is xy); yx = held (yx-is yx); yz = held (yz-is yz); zy = held (zy-is zy); xz = held (xz-is xz); zx = held (zx-is zx) },
      record { x = small (x-is x); y = small (y-is y); z = small (z-is z); xy = small (xy-is xy); yx = small (yx-is yx); yz = small (yz-is yz); zy = small (zy-is zy); xz = small (xz-is xz); zx = small (zx-is zx) },
    )
