-- `nineturbulence::stress::beyond9`: four pairs, each by two calls, and nothing at the idle ones. Assumes nothing.
use mathlib.Core.Path.{◌≡◌, sym, ◌∙◌}
use native.Mathlib.Omega.{arith}
use lib.Dec.{lit<}
use lib.IntN.{ℤ, pos, ◌+ℤ◌, ◌-ℤ◌}
use mir.Syntax.{w32}
use mir.Val.{to_z, of_z}
use Rattle.whole.specs.laws.Machine.{Within, v32, within_by, does-fit, reads_as, as_read}
use Rattle.lattice.specs.inner.Held.{parts_of, vec, Tame}
use Rattle.lattice.proofs.Reading.{reading, inside}
use Rattle.lattice.proofs.Tame.{steady-tame}
use Rattle.flume.specs.inner.Spread.{spread_lattice}
use Rattle.turbulence.specs.Turbulence.{beyond}
use Rattle.turbulence.specs.inner.Post.{Apt, both}
use Rattle.turbulence.proofs.Nines.{x-apt, z-apt, xz-apt, zx-apt, entry}
use Rattle.nineturbulence.proofs.Fours.{x-pair, z-pair, xz-pair, zx-pair, y-none, xy-none, yx-none, yz-none, zy-none}
use Rattle.nineturbulence.proofs.stress.beyond9.Lts as lts
use Rattle.nineturbulence.proofs.stress.beyond9.Reads as reads
use Rattle.nineturbulence.proofs.stress.beyond9.Tie as tie
use Rattle.nineturbulence.proofs.stress.beyond9.Goals as goal

abbrev At-Start : Type 0
At-Start = lts.Start tie.the-claims reads.Pre reads.Post

abbrev At-After-slack : Type 0
At-After-slack = lts.After-slack tie.the-claims reads.Pre reads.Post

abbrev At-After-shared_of-k : Type 0
At-After-shared_of-k = lts.After-shared_of tie.the-claims reads.Pre reads.Post

abbrev At-After-slack-2 : Type 0
At-After-slack-2 = lts.After-slack2 tie.the-claims reads.Pre reads.Post

abbrev At-After-slack-3 : Type 0
At-After-slack-3 = lts.After-slack3 tie.the-claims reads.Pre reads.Post

-- a flow that passes the test is tame
tame : (s : At-Start) → Tame s.args.v
tame s = steady-tame s.args.v s.requires.1

-- a number as the machine holds it
abbrev stored : ℤ → ℤ
stored z = to_z w32 (of_z w32 z)

-- from each pair's second call back to the one before, and to what they share
abbrev x-shared : At-After-slack → At-After-shared_of-k
x-shared c = c.before.before.before

abbrev z-x : At-After-slack-2 → At-After-slack
z-x c = c.before.before.before

abbrev z-shared : At-After-slack-2 → At-After-shared_of-k
z-shared c = x-shared (z-x c)

abbrev xz-z : At-After-slack-3 → At-After-slack-2
xz-z c = c.before.before.before.before

abbrev xz-shared : At-After-slack-3 → At-After-shared_of-k
xz-shared c = z-shared (xz-z c)

abbrev zx-xz : goal.After-slack-4 → At-After-slack-3
zx-xz c = c.before.before.before.before

abbrev zx-shared : goal.After-slack-4 → At-After-shared_of-k
zx-shared c = xz-shared (zx-xz c)

x-is : (c : At-After-slack)
    → (c.slack.result ≡ both (beyond spread_lattice (x-shared c).args.v.rho (vec (x-shared c).args.v) (parts_of (x-shared c).args.f)) 0) × Within c.slack.result 8388608
x-is c =
    let u = x-shared c in
    let t = tame u.before in let x = t.x in let y = t.y in let z = t.z in
    let v = u.args.v in
    let p = c.equilibrium_pair in (
      entry v u.requires.1 u.shared_of-k.result u.shared_of-k.ensures spread_lattice u.args.f 0 3 v.x (stored v.x)
          (x-pair v u.requires.1 u.shared_of-k.result u.shared_of-k.ensures) p.ensures.0 p.ensures.1 c.slack.ensures.0 (reads_as (search reading depth 20) tt),
      c.slack.ensures.1,
    )

z-is : (c : At-After-slack-2)
    → (c.slack-2.result ≡ both (beyond spread_lattice (z-shared c).args.v.rho (vec (z-shared c).args.v) (parts_of (z-shared c).args.f)) 2) × Within c.slack-2.result 8388608
z-is c =
    let u = z-shared c in
    let t = tame u.before in let x = t.x in let y = t.y in let z = t.z in
    let v = u.args.v in
    let p = c.equilibrium_pair-2 in (
      entry v u.requires.1 u.shared_of-k.result u.shared_of-k.ensures spread_lattice u.args.f 2 3 v.z (stored v.z)
          (z-pair v u.requires.1 u.shared_of-k.result u.shared_of-k.ensures) p.ensures.0 p.ensures.1 c.slack-2.ensures.0 (reads_as (search reading depth 20) tt),
      c.slack-2.ensures.1,
    )

xz-is : (c : At-After-slack-3)
    → (c.slack-3.result ≡ both (beyond spread_lattice (xz-shared c).args.v.rho (vec (xz-shared c).args.v) (parts_of (xz-shared c).args.f)) 7) × Within c.slack-3.result 8388608
xz-is c =
    let u = xz-shared c in
    let t = tame u.before in let x = t.x in let y = t.y in let z = t.z in
    let v = u.args.v in
    let p = c.equilibrium_pair-3 in (
      entry v u.requires.1 u.shared_of-k.result u.shared_of-k.ensures spread_lattice u.args.f 7 12 (v.x +ℤ v.z) (stored (stored v.x +ℤ stored v.z))
          (xz-pair v u.requires.1 u.shared_of-k.result u.shared_of-k.ensures) p.ensures.0 p.ensures.1 c.slack-3.ensures.0 (reads_as (search reading depth 20) tt),
      c.slack-3.ensures.1,
    )

zx-is : (c : goal.After-slack-4)
    → (c.slack-4.result ≡ both (beyond spread_lattice (zx-shared c).args.v.rho (vec (zx-shared c).args.v) (parts_of (zx-shared c).args.f)) 8) × Within c.slack-4.result 8388608
zx-is c =
    let u = zx-shared c in
    let t = tame u.before in let x = t.x in let y = t.y in let z = t.z in
    let v = u.args.v in
    let p = c.equilibrium_pair-4 in (
      entry v u.requires.1 u.shared_of-k.result u.shared_of-k.ensures spread_lattice u.args.f 8 12 (v.x -ℤ v.z) (stored (stored v.x -ℤ stored v.z))
          (zx-pair v u.requires.1 u.shared_of-k.result u.shared_of-k.ensures) p.ensures.0 p.ensures.1 c.slack-4.ensures.0 (reads_as (search reading depth 20) tt),
      c.slack-4.ensures.1,
    )

held : {m z : ℤ} → (m ≡ z) × Within m 8388608 → to_z w32 (of_z w32 m) ≡ z
held q = reads_as (v32 (inside q.1)) tt ∙ q.0

small : {m z : ℤ} → (m ≡ z) × Within m 8388608 → Within (to_z w32 (of_z w32 m)) 8388608
small q = within_by (v32 (inside q.1)) tt

-- nothing
none : Within (pos 0) 8388608
none = record { abs = omega arith }

pub equilibrium_pair-requires : goal.equilibrium_pair-requires
equilibrium_pair-requires c =
    let u = c in
    let t = tame u.before.before.before in let x = t.x in let y = t.y in let z = t.z in
    (as_read (λ (z : ℤ). Apt z u.shared_of-k.result) (search reading depth 20) tt (x-apt u.args.v u.requires.1 u.shared_of-k.result u.shared_of-k.ensures), lit< tt)

pub slack-requires : goal.slack-requires
slack-requires c = let u = c in (u.requires.0, lit< tt, within_by (v32 (inside c.equilibrium_pair.ensures.1)) tt)

pub equilibrium_pair-requires-2 : goal.equilibrium_pair-requires-2
equilibrium_pair-requires-2 c =
    let u = x-shared c.before.before in
    let t = tame u.before in let x = t.x in let y = t.y in let z = t.z in
    (as_read (λ (z : ℤ). Apt z u.shared_of-k.result) (search reading depth 20) tt (z-apt u.args.v u.requires.1 u.shared_of-k.result u.shared_of-k.ensures), lit< tt)

pub slack-requires-2 : goal.slack-requires-2
slack-requires-2 c = let u = x-shared c.before.before.before in (u.requires.0, lit< tt, within_by (v32 (inside c.equilibrium_pair-2.ensures.1)) tt)

pub overflow_add-v : goal.overflow_add-v
overflow_add-v c =
    let u = z-shared c.before.before.before in
    let t = tame u.before in let x = t.x in let y = t.y in let z = t.z in
    does-fit (search reading depth 20) tt

pub equilibrium_pair-requires-3 : goal.equilibrium_pair-requires-3
equilibrium_pair-requires-3 c =
    let u = z-shared c.before.before.before in
    let t = tame u.before in let x = t.x in let y = t.y in let z = t.z in
    (as_read (λ (z : ℤ). Apt z u.shared_of-k.result) (search reading depth 20) tt (xz-apt u.args.v u.requires.1 u.shared_of-k.result u.shared_of-k.ensures), lit< tt)

pub slack-requires-3 : goal.slack-requires-3
slack-requires-3 c = let u = z-shared c.before.before.before.before in (u.requires.0, lit< tt, within_by (v32 (inside c.equilibrium_pair-3.ensures.1)) tt)

pub overflow_sub-v : goal.overflow_sub-v
overflow_sub-v c =
    let u = xz-shared c.before.before in
    let t = tame u.before in let x = t.x in let y = t.y in let z = t.z in
    does-fit (search reading depth 20) tt

pub equilibrium_pair-requires-4 : goal.equilibrium_pair-requires-4
equilibrium_pair-requires-4 c =
    let u = xz-shared c.before.before in
    let t = tame u.before in let x = t.x in let y = t.y in let z = t.z in
    (as_read (λ (z : ℤ). Apt z u.shared_of-k.result) (search reading depth 20) tt (zx-apt u.args.v u.requires.1 u.shared_of-k.result u.shared_of-k.ensures), lit< tt)

pub slack-requires-4 : goal.slack-requires-4
slack-requires-4 c = let u = xz-shared c.before.before.before in (u.requires.0, lit< tt, within_by (v32 (inside c.equilibrium_pair-4.ensures.1)) tt)

pub returns : goal.returns
returns c =
    let xz = zx-xz c in
    let z = xz-z xz in
    let x = z-x z in
    let s = (zx-shared c).before in
    let ρ = s.args.v.rho in
    let j = vec s.args.v in
    let f = s.args.f in
    let q = s.requires.2 in (
      record {
        x = held (x-is x);
        y = sym (y-none ρ j f q);
        z = held (z-is z);
        xy = sym (xy-none ρ j f q);
        yx = sym (yx-none ρ j f q);
        yz = sym (yz-none ρ j f q);
        zy = sym (zy-none ρ j f q);
        xz = held (xz-is xz);
        zx = held (zx-is c);
      },
      record { x = small (x-is x); y = none; z = small (z-is z); xy = none; yx = none; yz = none; zy = none; xz = small (xz-is xz); zx = small (zx-is c) },
    )
