-- `hostrecord::read::skw_read`: the reader's own promise, its head told number by number and its flags as a span. Assumes nothing.
use Rattle.hostrecord.proofs.Told.{read_told}
use Rattle.hostrecord.proofs.read.skw_read.Goals as goal

pub shape_of-parts : goal.shape_of-parts
shape_of-parts c = c.parts-1.given

pub shape_of-masses : goal.shape_of-masses
shape_of-masses c = c.masses-1.given

pub shape_of-fills : goal.shape_of-fills
shape_of-fills c = c.fills-1.given

pub shape_of-carry : goal.shape_of-carry
shape_of-carry c = c.carry-1.given

pub shape_of-words : goal.shape_of-words
shape_of-words c = c.words-1.given

pub shape_of-count : goal.shape_of-count
shape_of-count c = c.count-1.given

pub returns : goal.returns
returns c =
    read_told c.read-h.ensures c.span-f.ensures c.number_of.ensures c.place_of.ensures
    c.put_sides.ensures c.put_settings.ensures c.put_site.ensures
