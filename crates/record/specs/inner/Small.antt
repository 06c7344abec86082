-- Settings and site that fit the numbers of a record: what writing them asks. Assumes nothing.
use Rattle.whole.specs.laws.Machine.{Within}
use Rattle.lattice.specs.declared.Settings.{Settings}
use Rattle.record.specs.declared.Site.{Site}

pub record Small (g : Settings) (t : Site) : Type 0 where
  pub p : Within g.p 2147483647
  pub gx : Within g.gx 2147483647
  pub gy : Within g.gy 2147483647
  pub gz : Within g.gz 2147483647
  pub edge : Within t.edge 2147483647
