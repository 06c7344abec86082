use Rattle.std.proofs.Common.{rules}
use Rattle.pools.proofs.Listings.{listed-none, still-listing, may-join, listed_more}
use Rattle.tally.proofs.listing.tally.Goals as goal

pub loop-c-init : goal.loop-c-init
loop-c-init c = listed-none c.empty.ensures

pub join-requires : goal.join-requires
join-requires c = may-join (still-listing c.empty.ensures c.requires) c.loop-c-test.true c.loop-c.invariant

pub loop-c-preserved : goal.loop-c-preserved
loop-c-preserved c = listed_more (still-listing c.empty.ensures c.requires) c.loop-c-test.true c.loop-c.invariant (search rules) c.join.ensures
