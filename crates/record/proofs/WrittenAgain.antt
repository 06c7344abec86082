-- An accepted record is accepted by the writer too: given the grid that was read and room for it, the writer writes what the record is written back as
-- and leaves the room past it. The one idea: reader and writer ask the same of a grid. Assumes nothing.
use mathlib.Core.Path.{◌≡◌, refl, sym, ap, ap₂, ◌∙◌, subst}
use mathlib.Core.Bool.{Bool, true, ◌&&◌, cond}
use mathlib.Core.List.{List, ◌++◌}
use Prim.Native.Nat.{ℕ, suc, ◌*◌, ◌≤◌}
use native.Mathlib.Omega.{arith}
use lib.Dec.{eqb}
use lib.ListN.{length, drop}
use borrow.Author.Tests.{eq-eqb, le-leb}
use Rattle.whole.specs.laws.Bools.{and_left}
use Rattle.whole.specs.laws.Tab.{length-tab}
use Rattle.lattice.specs.Lattice.{d3q19}
use Rattle.grid.specs.Answer.{Answer}
use Rattle.grid.specs.Answer.{Done}
use Rattle.grid.specs.Grid.{cells_of, grid_of, box}
use Rattle.grid.specs.Demands.{Same}
use Rattle.grid.specs.Outcome.{accepted, or_refuse, good_answer, lengths_good}
use Rattle.grid.specs.State.{Lent, lent, state_of, lent_of}
use Rattle.grid.proofs.Accepted.{done-accepted, passed, none_found, skip}
use Rattle.grid.proofs.Listed.{same-listed, lengths-listed}
use Rattle.grid.proofs.Same.{bad-rule-same}
use Rattle.pumps.specs.Three.{totals_good, three_lengths, three_good}
use Rattle.record.specs.declared.Head.{Head}
use Rattle.record.specs.Layout.{site_good, record_of, record_length}
use Rattle.record.specs.Reading.{sides_in, settings_in, site_in, flags_at, poured_in, taken_in, cells_in, flags_in, flag_in, state_in, set_in, content_answer, read_answer, read_head, read_flags, read_set}
use Rattle.record.specs.Writing.{write_answer, written_room}
use Rattle.record.specs.Back.{written_back}
use Rattle.record.specs.inner.Passes.{Sound}
use Rattle.record.proofs.Numbers.{Bytes}
use Rattle.record.proofs.Answers.{or-pass}
use Rattle.record.proofs.Assembled.{length-record}
use Rattle.record.proofs.FlagPart.{length-flags}
use Rattle.record.proofs.Shaped.{sound, shape-accepted, content-accepted}
use Rattle.record.proofs.SameBytes.{grid_read, same_bytes}
use Rattle.grid.specs.declared.refusals.Refusal.TheVariants.{BadFlag, BadLayer, BadLength, BadRoom, BadSetting, BadSides, BadState}

-- the claim
abbrev pub Claim : Type 0
Claim =
    (r : List ℕ) (b : Lent) (room : List ℕ) → Bytes r → read_answer r b ≡ Done → length (written_back r) ≤ length room
    → (write_answer (read_head r b).sides (read_head r b).settings (read_head r b).site (grid_read r b) room ≡ Done)
    × (written_room (read_head r b).sides (read_head r b).settings (read_head r b).site (grid_read r b) room ≡ written_back r ++ drop (length (written_back r)) room)

-- the grid read, its flags the caller's own
abbrev taken : List ℕ → Lent
taken r = let l = set_in r in lent (flags_in r) l.parts l.masses l.fills l.carry

module _ (r : List ℕ) (k : Sound r) (content : content_answer r ≡ Done) where
  flags-all : length (flags_in r) ≡ cells_in r
  flags-all = length-flags r {n = cells_in r} {at = flags_at r} refl refl (omega (arith, k.flags.inside))

  same : Same 18 (cells_in r) (state_in r) (state_of 18 (taken r))
  unfolding state_of state_in flag_in
  same = let s = same-listed 18 (cells_in r) (state_in r) in record { flags = λ c h. refl; parts = s.parts; masses = s.masses; fills = s.fills; carries = s.carries }

  lengths-pass : three_lengths (cells_in r) (taken r) ≡ true
  unfolding three_lengths lengths_good lent_of
  lengths-pass =
      let n = cells_in r in
      let l = lent_of 18 n (state_in r) in
      let behind : Bool → Bool = λ x. x && eqb (length l.parts) (19 * n) && eqb (length l.masses) n && eqb (length l.fills) n in
      ap behind (eq-eqb (length (flags_in r)) n flags-all ∙ sym (eq-eqb (length l.flags) n (length-tab n (state_in r).flag)))
      ∙ and_left (behind (eqb (length l.flags) n)) (eqb (length l.carry) 1) (lengths-listed n (state_in r))

  tests : (site_good (settings_in r) (site_in r) ≡ true) × ((rest : Answer) → three_good (sides_in r) (taken r) rest ≡ rest)
  unfolding content_answer good_answer grid_of box cells_in cells_of state_of flag_in d3q19
  tests =
      let n = cells_in r in
      let a = passed (site_good (settings_in r) (site_in r)) (BadSetting 0) _ content in
      let b = none_found n BadLayer _ _ a.1 in
      let d = none_found (suc n) BadState _ _ b.1 in
      let e = passed (totals_good (poured_in r) (taken_in r)) (BadState n) Done d.1 in
      let good : (rest : Answer) → good_answer d3q19 (grid_of (sides_in r)) (state_of 18 (taken r)) rest ≡ rest =
      λ rest. skip n BadFlag _ _ k.tested ∙ skip n BadLayer _ _ b.0 ∙ skip (suc n) BadState _ rest (subst (λ (m : ℕ). suc n ≤ m) (bad-rule-same d3q19 n (state_in r) (state_of 18 (taken r)) same) d.0) in
      (a.0, λ rest. good (or_refuse (totals_good (poured_in r) (taken_in r)) (BadState n) rest) ∙ or-pass (BadState n) rest e.0)

  length-same : record_of (sides_in r) (settings_in r) (site_in r) (taken r) ≡ written_back r → record_length (sides_in r) (taken r) ≡ length (written_back r)
  unfolding cells_in
  length-same e = sym (length-record (sides_in r) (settings_in r) (site_in r) (taken r) flags-all) ∙ ap length e

  accepts : (room : List ℕ) → record_length (sides_in r) (taken r) ≤ length room → write_answer (sides_in r) (settings_in r) (site_in r) (taken r) room ≡ Done
  unfolding write_answer cells_in
  accepts room fits =
      or-pass BadSides _ k.sides ∙ or-pass BadLength _ lengths-pass ∙ or-pass (BadSetting 0) _ tests.0 ∙ tests.1 _ ∙ or-pass (BadRoom (record_length (sides_in r) (taken r))) Done (le-leb (record_length (sides_in r) (taken r)) (length room) fits)

  writes : (room : List ℕ) → record_of (sides_in r) (settings_in r) (site_in r) (taken r) ≡ written_back r → length (written_back r) ≤ length room
      → (write_answer (sides_in r) (settings_in r) (site_in r) (taken r) room ≡ Done)
      × (written_room (sides_in r) (settings_in r) (site_in r) (taken r) room ≡ written_back r ++ drop (length (written_back r)) room)
  unfolding written_room
  writes room e fits =
      let done = accepts room (subst (λ (m : ℕ). m ≤ length room) (sym (length-same e)) fits) in (
        done,
        ap (λ (x : Answer). cond (accepted x) (record_of (sides_in r) (settings_in r) (site_in r) (taken r) ++ drop (record_length (sides_in r) (taken r)) room) room) done
            ∙ ap₂ (λ (l : List ℕ) (m : ℕ). l ++ drop m room) e (length-same e),
      )

pub written-again : Claim
unfolding read_head read_flags read_set
written-again r b room bytes done fits =
    let ok : accepted (read_answer r b) ≡ true = done-accepted (read_answer r b) done in
    let k = sound r (length b.parts) (length b.masses) (length b.fills) (length b.carry) (shape-accepted r b ok) in
    let head-is : read_head r b ≡ record { answer = Done; sides = sides_in r; settings = settings_in r; site = site_in r } = rw ok refl in
    let grid-is : grid_read r b ≡ taken r = rw ok refl in
    let e : record_of (sides_in r) (settings_in r) (site_in r) (taken r) ≡ written_back r
    = sym (ap₂ (λ (h : Head) (a : Lent). record_of h.sides h.settings h.site a) head-is grid-is) ∙ same_bytes r b bytes done in
    let w = writes r k (content-accepted r b ok) room e fits in (
      ap₂ (λ (h : Head) (a : Lent). write_answer h.sides h.settings h.site a room) head-is grid-is ∙ w.0,
      ap₂ (λ (h : Head) (a : Lent). written_room h.sides h.settings h.site a room) head-is grid-is ∙ w.1,
    )
