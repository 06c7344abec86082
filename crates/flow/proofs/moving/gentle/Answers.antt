-- `flow::moving::gentle`: the definition's comparison of products that fit. Assumes nothing.
use Rattle.whole.specs.laws.Machine.{same, does-fit}
use Rattle.whole.specs.laws.Tests.{flags, flag-as}
use Rattle.lattice.proofs.Reading.{reading}
use Rattle.lattice.proofs.Tame.{wider}
use Rattle.flow.specs.inner.Gentle.{gentle}
use Rattle.flow.proofs.moving.gentle.Goals as goal

pub speed_squared-requires : goal.speed_squared-requires
speed_squared-requires c = let s : goal.Start = search in (wider s.requires.x, wider s.requires.y, wider s.requires.z)

pub overflow_mul-result : goal.overflow_mul-result
overflow_mul-result c =
    let s : goal.Start = search in
    let x = s.requires.x in
    let y = s.requires.y in
    let z = s.requires.z in
    let q = same c.speed_squared.ensures (search reading depth 20) in
    does-fit (search reading depth 20) tt

pub returns : goal.returns
unfolding gentle
returns c =
    let after-speed-squared : goal.After-speed_squared = search in
    let s : goal.Start = search in
    let r = s.requires.rho in
    let x = s.requires.x in
    let y = s.requires.y in
    let z = s.requires.z in
    let q = same after-speed-squared.speed_squared.ensures (search reading depth 20) in
    let t = same c.times.ensures (search reading depth 20) in
    flag-as (search (reading, flags) depth 20) tt
