-- `reading::content::content` tests settings and origin, and then the cells. Assumes nothing.
use mathlib.Core.Path.{◌≡◌, sym, ap₂, ◌∙◌}
use Prim.Native.Nat.{suc}
use borrow.Author.Tests.{not-true, not-false}
use Rattle.lattice.specs.Lattice.{d3q19}
use Rattle.lattice.specs.declared.Settings.{Settings}
use Rattle.grid.specs.Answer.{Done}
use Rattle.grid.specs.Grid.{grid_of}
use Rattle.grid.specs.Good.{bad_fluid, bad_rule}
use Rattle.grid.specs.Outcome.{or_refuse, if_none}
use Rattle.pumps.specs.Three.{totals_good}
use Rattle.record.specs.declared.Site.{Site}
use Rattle.record.specs.Layout.{site_good}
use Rattle.record.specs.Reading.{sides_in, settings_in, site_in, poured_in, taken_in, cells_in, flag_in, state_in, content_answer}
use Rattle.record.proofs.Answers.{or-pass, or-fail}
use Rattle.reading.proofs.content.content.Reads as reads
use Rattle.reading.proofs.content.content.Lts as lts
use Rattle.reading.proofs.content.content.Lts as lts
use Rattle.reading.proofs.content.content.Reads as reads
use Rattle.reading.proofs.content.content.Tie as tie
use Rattle.reading.proofs.content.content.Goals as goal
use Rattle.grid.specs.declared.refusals.Refusal.TheVariants.{BadLayer, BadSetting, BadState}

abbrev At-After-good_site : Type 0
At-After-good_site = lts.After-good_site tie.the-claims reads.Pre reads.Post tie.handed_clauses

-- the test is of the record's own settings and origin
site-is : (c : At-After-good_site) → let r = c.args.rec.now in c.good_site.result ≡ site_good (settings_in r) (site_in r)
site-is c =
    c.good_site.ensures
    ∙ ap₂ (λ (g : Settings) (t : Site). site_good g t) c.settings_in.ensures c.site_in.ensures

pub returns-then-not-good_site : goal.returns-then-not-good_site
unfolding content_answer
returns-then-not-good_site c =
    let r = c.args.rec.now in
    let n = cells_in r in
    let five = if_none n BadLayer (bad_fluid 18 (grid_of (sides_in r)) (flag_in r)) (if_none (suc n) BadState (bad_rule d3q19 n (state_in r)) (or_refuse (totals_good (poured_in r) (taken_in r)) (BadState n) Done)) in
    sym (or-fail (BadSetting 0) five (sym (site-is c.before.before) ∙ not-true _ c.if-not-good_site.true-raw))

pub returns : goal.returns
unfolding content_answer
returns c =
    let r = c.args.rec.now in
    let n = cells_in r in
    let five = if_none n BadLayer (bad_fluid 18 (grid_of (sides_in r)) (flag_in r)) (if_none (suc n) BadState (bad_rule d3q19 n (state_in r)) (or_refuse (totals_good (poured_in r) (taken_in r)) (BadState n) Done)) in
    c.cell_tests.ensures ∙ sym (or-pass (BadSetting 0) five (sym (site-is c.before.before.before) ∙ not-false _ c.if-not-good_site.false-raw))
