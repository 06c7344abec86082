-- `flumereading::content::content` tests settings and origin, and then the cells. Assumes nothing.
use mathlib.Core.Path.{◌≡◌, sym, ap₂, ◌∙◌}
use Prim.Native.Nat.{suc}
use borrow.Author.Tests.{not-true, not-false}
use Rattle.lattice.specs.Lattice.{d2q9}
use Rattle.flume.specs.declared.FlumeSettings.{FlumeSettings}
use Rattle.grid.specs.Answer.{Done}
use Rattle.flume.specs.Flume.{flume_grid}
use Rattle.grid.specs.Good.{bad_fluid, bad_rule}
use Rattle.grid.specs.Outcome.{if_none}
use Rattle.flumerecord.specs.declared.FlumeSite.{FlumeSite}
use Rattle.flumerecord.specs.Layout.{flume_site_good}
use Rattle.flumerecord.specs.Reading.{flume_sides_in, flume_settings_in, flume_site_in, flume_cells_in, flume_flag_in, flume_state_in, flume_content}
use Rattle.record.proofs.Answers.{or-pass, or-fail}
use Rattle.flumereading.proofs.content.content.Lts as lts
use Rattle.flumereading.proofs.content.content.Reads as reads
use Rattle.flumereading.proofs.content.content.Tie as tie
use Rattle.flumereading.proofs.content.content.Goals as goal
use Rattle.grid.specs.declared.refusals.Refusal.TheVariants.{BadLayer, BadSetting, BadState}

abbrev At-After-good_site : Type 0
At-After-good_site = lts.After-good_site tie.the-claims reads.Pre reads.Post tie.handed_clauses

-- the test is of the record's own settings and origin
site-is : (c : At-After-good_site) → let r = c.args.rec.now in c.good_site.result ≡ flume_site_good (flume_settings_in r) (flume_site_in r)
site-is c =
    c.good_site.ensures
    ∙ ap₂ (λ (g : FlumeSettings) (t : FlumeSite). flume_site_good g t) c.settings_in.ensures c.site_in.ensures

pub returns-then-not-good_site : goal.returns-then-not-good_site
unfolding flume_content
returns-then-not-good_site c =
    let r = c.args.rec.now in
    let n = flume_cells_in r in
    let five = if_none n BadLayer (bad_fluid 8 (flume_grid (flume_sides_in r)) (flume_flag_in r)) (if_none (suc n) BadState (bad_rule d2q9 n (flume_state_in r)) Done) in
    sym (or-fail (BadSetting 0) five (sym (site-is c.before.before) ∙ not-true _ c.if-not-good_site.true-raw))

pub returns : goal.returns
unfolding flume_content
returns c =
    let r = c.args.rec.now in
    let n = flume_cells_in r in
    let five = if_none n BadLayer (bad_fluid 8 (flume_grid (flume_sides_in r)) (flume_flag_in r)) (if_none (suc n) BadState (bad_rule d2q9 n (flume_state_in r)) Done) in
    c.cell_tests.ensures ∙ sym (or-pass (BadSetting 0) five (sym (site-is c.before.before.before) ∙ not-false _ c.if-not-good_site.false-raw))
