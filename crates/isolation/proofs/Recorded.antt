-- Demand 2 of a scheme. A record written from its grid reads back as that grid, and parts to the same scheme; and an accepted record, read, parted on the map
-- of its walls, joined and written is what record says of it: with three numbers in section 4 the same bytes. Record's own theorems, and that part and join
-- undo each other. Assumes nothing.
use mathlib.Core.Path.{◌≡◌, ap, ◌∙◌}
use mathlib.Core.Bool.{Bool, true}
use mathlib.Core.List.{List}
use Prim.Native.Nat.{ℕ, suc}
use native.Mathlib.Nat.{le_refl}
use lib.Dec.{leb}
use lib.ListN.{length}
use Rattle.lattice.specs.Lattice.{Lattice, d3q19}
use Rattle.lattice.specs.declared.Settings.{Settings}
use Rattle.grid.specs.declared.Sides.{Sides}
use Rattle.grid.specs.Answer.{Answer}
use Rattle.grid.specs.Answer.{Done}
use Rattle.grid.specs.Grid.{Grid, cells_of, sides_good, grid_of}
use Rattle.grid.specs.State.{Lent, State, state_of}
use Rattle.grid.specs.Outcome.{or_refuse, good_answer}
use Rattle.grid.proofs.Accepted.{passed, none_found, skip}
use Rattle.pumps.specs.Three.{number_in, totals_good, three_lengths, three_answer}
use Rattle.pumps.proofs.Checked.{good-done}
use Rattle.record.specs.declared.Site.{Site}
use Rattle.record.specs.Back.{written_back}
use Rattle.record.specs.Layout.{site_good, record_of, record_length}
use Rattle.record.specs.Reading.{read_answer, read_head}
use Rattle.record.specs.Writing.{write_answer}
use Rattle.record.proofs.Numbers.{Bytes}
use Rattle.record.proofs.ReadBack.{read_back}
use Rattle.record.proofs.SameBytes.{grid_read, same_bytes}
use Rattle.record.proofs.WrittenAgain.{written-again}
use Rattle.schemes.specs.Scheme.{joined, parted}
use Rattle.schemes.proofs.Tests.{tells}
use Rattle.isolation.specs.Claims.{walls_of, Begins, Recorded}
use Rattle.isolation.proofs.Parted.{parts_again, begun-holds}
use Rattle.grid.specs.declared.refusals.Refusal.TheVariants.{BadFlag, BadLayer, BadLength, BadRoom, BadSetting, BadSides, BadState}

pub recorded-holds : Recorded
recorded-holds s g t map a room b e w fits =
    let r = read_back s g t (joined s map a) room b w fits in
    (r.0, r.1, r.2, ap (parted s) r.2 ∙ parts_again s map a (tells s map a true e).0)

-- ---- the other way round

-- r is a record that the reader accepts, x the grid that it reads
abbrev pub Rewritten : Type 0
Rewritten =
    (r : List ℕ) (b : Lent) → Bytes r → read_answer r b ≡ Done
    → (let h = read_head r b in let x = grid_read r b in
    Begins h.sides x × (record_of h.sides h.settings h.site (joined h.sides (walls_of h.sides x) (parted h.sides x)) ≡ written_back r))

-- tests 4 to 6 with another end
good-end : (L : Lattice) (G : Grid) (t : State) (rest : Answer) → good_answer L G t rest ≡ Done → (good_answer L G t Done ≡ Done) × (rest ≡ Done)
unfolding good_answer
good-end L G t rest e =
    let x = none_found G.cells BadFlag _ _ e in
    let y = none_found G.cells BadLayer _ _ x.1 in
    let z = none_found (suc G.cells) BadState _ rest y.1 in
    (skip G.cells BadFlag _ _ x.0 ∙ skip G.cells BadLayer _ _ y.0 ∙ skip (suc G.cells) BadState _ Done z.0, z.1)

-- what the writer accepts, the check accepts
write_checked : (s : Sides) (g : Settings) (t : Site) (a : Lent) (room : List ℕ) → write_answer s g t a room ≡ Done → three_answer s a ≡ Done
unfolding write_answer three_answer
write_checked s g t a room e =
    let rest = or_refuse (leb (record_length s a) (length room)) (BadRoom (record_length s a)) Done in
    let x = passed (sides_good s) BadSides _ e in
    let y = passed (three_lengths (cells_of s) a) BadLength _ x.1 in
    let z = passed (site_good g t) (BadSetting 0) _ y.1 in
    let k = good-end d3q19 (grid_of s) (state_of 18 a) (or_refuse (totals_good (number_in a 1) (number_in a 2)) (BadState (cells_of s)) rest) z.1 in
    let p = passed (totals_good (number_in a 1) (number_in a 2)) (BadState (cells_of s)) rest k.1 in
    rw (x.0, y.0)
    (good-done d3q19 (grid_of s) (state_of 18 a) (or_refuse (totals_good (number_in a 1) (number_in a 2)) (BadState (cells_of s)) Done) k.0
    ∙ ap (λ (b : Bool). or_refuse b (BadState (cells_of s)) Done) p.0)

pub rewritten-holds : Rewritten
rewritten-holds r b bytes done =
    let h = read_head r b in
    let w = written-again r b (written_back r) bytes done (le_refl (length (written_back r))) in
    let k = begun-holds h.sides (grid_read r b) (write_checked h.sides h.settings h.site (grid_read r b) (written_back r) w.0) in
    (k, ap (record_of h.sides h.settings h.site) k.joins ∙ same_bytes r b bytes done)
