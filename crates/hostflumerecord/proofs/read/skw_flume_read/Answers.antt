-- `hostflumerecord::read::skw_flume_read`: the reader's own promise, its head told number by number and its flags as a span. Assumes nothing.
use Rattle.hostflumerecord.proofs.Told.{read_told}
use Rattle.hostflumerecord.proofs.read.skw_flume_read.Goals as goal

pub returns : goal.returns
returns c =
    let site = c in
    let settings = site in
    let sides = settings in
    let span = sides in
    read_told span.read-h.ensures span.span-f.ensures c.number_of.ensures c.place_of.ensures
    sides.put_sides.ensures settings.put_settings.ensures site.put_site.ensures
