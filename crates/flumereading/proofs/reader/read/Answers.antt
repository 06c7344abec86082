-- `flumereading::reader::read`: the sections, then the content, and only then the lent slices. Assumes nothing.
use Rattle.std.proofs.Common.{refl, sym, ap, ◌∙◌, ℕ, ◌*◌, length}
use Rattle.flume.specs.Flume.{flume_sides_good, flume_cells}
use Rattle.grid.specs.Outcome.{accepted}
use Rattle.flumerecord.specs.Reading.{flume_cells_in, flume_read_answer}
use Rattle.record.proofs.Answers.{chain-stops, chain-on}
use Rattle.flumerecord.proofs.Shaped.{chain-shape, sound, fitting}
use Rattle.flumereading.proofs.ReadBy.{read-refused, read-accepted, fits}
use Rattle.flumereading.proofs.reader.read.Goals as goal

pub returns-in-Err : goal.returns-in-Err
unfolding flume_read_answer
returns-in-Err c =
    let a = c.args in
    read-refused _ _ _ _ (chain-stops _ (chain-shape a.rec.now (length a.parts.now) (length a.masses.now) (length a.fills.now) (length a.carry.now)) _ c.in-Err.ensures) refl c.refused.ensures

pub sides_in-s-requires : goal.sides_in-s-requires
sides_in-s-requires c = (sound _ _ _ _ _ (ap accepted (sym c.in_default.ensures))).first.inside

pub content-requires-clause-flume_sound : goal.content-requires-clause-flume_sound
content-requires-clause-flume_sound c = sound _ _ _ _ _ (ap accepted (sym c.in_default.ensures))

pub returns-in-Err-content : goal.returns-in-Err-content
unfolding flume_read_answer
returns-in-Err-content c =
    let a = c.args in
    let on = chain-on _ (chain-shape a.rec.now (length a.parts.now) (length a.masses.now) (length a.fills.now) (length a.carry.now)) _ c.in_default.ensures in
    read-refused _ _ _ _ (c.in-Err-content.ensures ∙ sym on) refl c.refused-in-Err-content.ensures

pub cells-requires : goal.cells-requires
cells-requires c = ap flume_sides_good c.sides_in-s.ensures ∙ (sound _ _ _ _ _ (ap accepted (sym c.in_default.ensures))).sides

pub take-requires : goal.take-requires
unfolding flume_cells_in
take-requires c =
    let ok = ap accepted (sym c.in_default.ensures) in
    let is = c.cells.ensures ∙ ap flume_cells c.sides_in-s.ensures in
    let fit = fits _ _ _ _ _ (fitting _ _ _ _ _ ok) in
    record {
      flume_sound = sound _ _ _ _ _ ok;
      rec_value = sym c.in_default-content.ensures;
      n_value = is;
      parts_len = fit.parts ∙ ap (λ (n : ℕ). 9 * n) (sym is);
      masses_len = fit.masses ∙ sym is;
      fills_len = fit.fills ∙ sym is;
      carry_len = fit.carry;
    }

pub settings_in-g-requires : goal.settings_in-g-requires
settings_in-g-requires c = (sound _ _ _ _ _ (ap accepted (sym c.in_default.ensures))).settings.inside

pub site_in-t-requires : goal.site_in-t-requires
site_in-t-requires c = (sound _ _ _ _ _ (ap accepted (sym c.in_default.ensures))).origin.inside

pub returns : goal.returns
unfolding flume_read_answer
returns c =
    let a = c.args in
    let on = chain-on _ (chain-shape a.rec.now (length a.parts.now) (length a.masses.now) (length a.fills.now) (length a.carry.now)) _ c.in_default.ensures in
    read-accepted _ _ _ _ _ _ _ _ _ (ap accepted (on ∙ sym c.in_default-content.ensures)) c.sides_in-s.ensures c.settings_in-g.ensures c.site_in-t.ensures c.take.ensures
