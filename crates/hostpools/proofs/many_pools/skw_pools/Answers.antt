-- `hostpools::many_pools::skw_pools`: the answer of pools, told as number, place and how many; the lent slices as they stand. Assumes nothing.
use Rattle.hostpools.proofs.Pools.{pools-told}
use Rattle.hostpools.proofs.many_pools.skw_pools.Goals as goal

pub returns : goal.returns
returns c = pools-told c.pools-a.ensures c.number.ensures c.place.ensures c.pools.ensures
