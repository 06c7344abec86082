-- `tally::listing::tally`: the cells below c are listed. Assumes nothing.
use Rattle.pools.specs.inner.Listing.{Listed}
use Rattle.tally.proofs.listing.tally.Given as goal

abbrev pub invariant-loop-c : goal.invariant-loop-c
invariant-loop-c l = Listed l.marks l.masses l.n l.c l.initial.counts l.initial.waters l.counts l.waters
