-- What the reader hands back loads: the slices that it wrote, with the record's own flags beside them and the index that it made, are a good state and its
-- index. The one idea: the writer accepts what was read, and asks of a grid what loading asks before 14. Assumes nothing.
use mathlib.Core.Path.{◌≡◌, refl, sym, ap, ap₂, ◌∙◌}
use mathlib.Core.Bool.{true}
use mathlib.Core.List.{List}
use Prim.Native.Nat.{ℕ}
use native.Mathlib.Nat.{le_refl}
use lib.Dec.{leb}
use lib.ListN.{length}
use Rattle.grid.specs.declared.Sides.{Sides}
use Rattle.grid.specs.Answer.{Done}
use Rattle.grid.specs.Grid.{cells_of, sides_good}
use Rattle.grid.specs.State.{Lent}
use Rattle.grid.specs.Outcome.{accepted, or_refuse}
use Rattle.grid.proofs.Accepted.{accepted-done, done-accepted, passed}
use Rattle.pumps.specs.Three.{three_lengths}
use Rattle.pumps.proofs.Checked.{then-checked}
use Rattle.record.specs.declared.Head.{Head}
use Rattle.record.specs.Layout.{site_good, record_length}
use Rattle.record.specs.Reading.{sides_in, settings_in, site_in, cells_in}
use Rattle.record.specs.Reading as base
use Rattle.record.specs.Writing.{write_answer}
use Rattle.record.specs.Back.{written_back}
use Rattle.record.proofs.Answers.{chain-both}
use Rattle.record.proofs.Numbers.{Bytes}
use Rattle.record.proofs.SameBytes.{grid_read}
use Rattle.record.proofs.WrittenAgain.{written-again}
use Rattle.index.specs.Outcome.{load_answer}
use Rattle.index.specs.Held.{Held, indexed, Loads}
use Rattle.index.proofs.Answers.{three-through}
use Rattle.index.proofs.Indexed.{good-loads}
use Rattle.intake.specs.Reading.{open_answer, read_answer, read_head, read_flags, read_held}
use Rattle.intake.specs.Demands.{read_grid, ReadKeeps}
use Rattle.intake.proofs.Readings.{chain-open}
use Rattle.grid.specs.declared.refusals.Refusal.TheVariants.{BadLength, BadRoom, BadSetting, BadSides}

-- what the writer's tests say of a grid
loads : (r : List ℕ) (b : Lent) (room : List ℕ) → write_answer (sides_in r) (settings_in r) (site_in r) b room ≡ Done → Loads (sides_in r) (indexed (sides_in r) b)
unfolding write_answer
loads r b room w =
    let s = sides_in r in
    let one = passed (sides_good s) BadSides _ w in
    let two = passed (three_lengths (cells_of s) b) BadLength _ one.1 in
    let three = passed (site_good (settings_in r) (site_in r)) (BadSetting 0) _ two.1 in
    let last = or_refuse (leb (record_length s b) (length room)) (BadRoom (record_length s b)) Done in
    good-loads s b (sym (then-checked s b one.0 two.0) ∙ three-through s b Done last Done (λ e. refl) three.1)

-- of every record that is bytes
pub read_keeps : (r : List ℕ) (a : Held) → Bytes r → ReadKeeps r a
unfolding read_answer read_head read_flags read_held base.read_head indexed cells_in
read_keeps r a bytes done =
    let ok : accepted (read_answer r a) ≡ true = done-accepted (read_answer r a) done in
    let F = open_answer r (length a.set.parts) (length a.set.masses) (length a.set.fills) (length a.set.carry) a.index in
    let both = chain-both F (λ rest. base.read_answer r a.set) (chain-open r _ _ _ _ a.index) ok in
    let head-is : base.read_head r a.set ≡ record { answer = Done; sides = sides_in r; settings = settings_in r; site = site_in r } = rw both.1 refl in
    let sides-are : (read_head r a).sides ≡ sides_in r = rw (ok, both.1) refl in
    let grid-is : read_grid r a ≡ indexed (sides_in r) (grid_read r a.set) = rw ok refl in
    let w = (written-again r a.set (written_back r) bytes (accepted-done (base.read_answer r a.set) both.1) (le_refl (length (written_back r)))).0 in
    ap₂ (λ (s : Sides) (b : Held). load_answer s b.set b.index) sides-are grid-is
    ∙ loads r (grid_read r a.set) (written_back r) (ap (λ (h : Head). write_answer h.sides h.settings h.site (grid_read r a.set) (written_back r)) (sym head-is) ∙ w)
