-- An accepted flume's record is accepted by the writer too: given the set that was read and room for it, the writer writes the same bytes and leaves the
-- room past them. The one idea: reader and writer ask the same of a flume. Assumes nothing.
use mathlib.Core.Path.{◌≡◌, refl, sym, ap, ap₂, ◌∙◌, subst}
use mathlib.Core.Bool.{Bool, true, ◌&&◌, cond}
use mathlib.Core.List.{List, ◌++◌}
use Prim.Native.Nat.{ℕ, suc, ◌*◌, ◌≤◌}
use native.Mathlib.Omega.{arith}
use lib.Dec.{eqb}
use lib.ListN.{length, drop}
use borrow.Author.Tests.{eq-eqb, le-leb}
use Rattle.whole.specs.laws.Tab.{length-tab}
use Rattle.lattice.specs.Lattice.{d2q9}
use Rattle.grid.specs.Answer.{Answer}
use Rattle.grid.specs.Answer.{Done}
use Rattle.grid.specs.Grid.{flume}
use Rattle.grid.specs.Demands.{Same}
use Rattle.grid.specs.Outcome.{accepted, good_answer}
use Rattle.grid.specs.State.{Lent, lent, state_of, lent_of}
use Rattle.grid.proofs.Accepted.{done-accepted, passed, none_found, skip}
use Rattle.grid.proofs.Listed.{same-listed, lengths-fit}
use Rattle.grid.proofs.Same.{bad-rule-same}
use Rattle.flume.specs.Flume.{flume_cells, flume_grid, flume_lengths}
use Rattle.record.proofs.Numbers.{Bytes}
use Rattle.record.proofs.Answers.{or-pass}
use Rattle.record.proofs.FlagPart.{length-part-is}
use Rattle.flumerecord.specs.declared.FlumeHead.{FlumeHead}
use Rattle.flumerecord.specs.Layout.{flume_site_good, flume_record_of, flume_record_length}
use Rattle.flumerecord.specs.Reading.{flume_sides_in, flume_settings_in, flume_site_in, flume_flags_at, flume_cells_in, flume_flags_in, flume_state_in, flume_set_in, flume_content, flume_read_answer, flume_read_head, flume_read_flags, flume_read_set}
use Rattle.flumerecord.specs.Writing.{flume_write_answer, flume_written_room}
use Rattle.flumerecord.specs.inner.Passes.{FlumeSound}
use Rattle.flumerecord.proofs.Assembled.{length-record}
use Rattle.flumerecord.proofs.Shaped.{sound, shape-accepted, content-accepted}
use Rattle.flumerecord.proofs.SameBytes.{grid_read, same_bytes}
use Rattle.grid.specs.declared.refusals.Refusal.TheVariants.{BadFlag, BadLayer, BadLength, BadRoom, BadSetting, BadSides, BadState}

-- the claim
abbrev pub Claim : Type 0
Claim =
    (r : List ℕ) (b : Lent) (room : List ℕ) → Bytes r → flume_read_answer r b ≡ Done → length r ≤ length room
    → (flume_write_answer (flume_read_head r b).sides (flume_read_head r b).settings (flume_read_head r b).site (grid_read r b) room ≡ Done)
    × (flume_written_room (flume_read_head r b).sides (flume_read_head r b).settings (flume_read_head r b).site (grid_read r b) room ≡ r ++ drop (length r) room)

-- the set read, its flags the caller's own
abbrev taken : List ℕ → Lent
taken r = let l = flume_set_in r in lent (flume_flags_in r) l.parts l.masses l.fills l.carry

module _ (r : List ℕ) (k : FlumeSound r) (content : flume_content r ≡ Done) where
  flags-all : length (flume_flags_in r) ≡ flume_cells_in r
  unfolding flume_flags_in
  flags-all = length-part-is r {n = flume_cells_in r} {at = flume_flags_at} refl refl (omega (arith, k.flags.inside))

  same : Same 8 (flume_cells_in r) (flume_state_in r) (state_of 8 (taken r))
  unfolding state_of flume_state_in
  same = let s = same-listed 8 (flume_cells_in r) (flume_state_in r) in record { flags = λ c h. refl; parts = s.parts; masses = s.masses; fills = s.fills; carries = s.carries }

  lengths-pass : flume_lengths (flume_cells_in r) (taken r) ≡ true
  unfolding flume_lengths lent_of
  lengths-pass =
      let n = flume_cells_in r in
      let l = lent_of 8 n (flume_state_in r) in
      let behind : Bool → Bool = λ x. x && eqb (length l.parts) (9 * n) && eqb (length l.masses) n && eqb (length l.fills) n && eqb (length l.carry) 1 in
      ap behind (eq-eqb (length (flume_flags_in r)) n flags-all ∙ sym (eq-eqb (length l.flags) n (length-tab n (flume_state_in r).flag))) ∙ lengths-fit 8 n (flume_state_in r)

  nine-same : Same d2q9.q (flume_cells_in r) (flume_state_in r) (state_of 8 (taken r))
  unfolding d2q9
  nine-same = same

  tests : (flume_site_good (flume_settings_in r) (flume_site_in r) ≡ true) × ((rest : Answer) → good_answer d2q9 (flume_grid (flume_sides_in r)) (state_of 8 (taken r)) rest ≡ rest)
  unfolding flume_content good_answer flume_grid flume flume_cells_in flume_cells state_of d2q9
  tests =
      let n = flume_cells_in r in
      let a = passed (flume_site_good (flume_settings_in r) (flume_site_in r)) (BadSetting 0) _ content in
      let b = none_found n BadLayer _ _ a.1 in
      let d = none_found (suc n) BadState _ _ b.1 in
      (a.0, λ rest. skip n BadFlag _ _ k.tested ∙ skip n BadLayer _ _ b.0 ∙ skip (suc n) BadState _ rest (subst (λ (m : ℕ). suc n ≤ m) (bad-rule-same d2q9 n (flume_state_in r) (state_of 8 (taken r)) nine-same) d.0))

  length-same : flume_record_of (flume_sides_in r) (flume_settings_in r) (flume_site_in r) (taken r) ≡ r → flume_record_length (flume_sides_in r) (taken r) ≡ length r
  unfolding flume_cells_in
  length-same e = sym (length-record (flume_sides_in r) (flume_settings_in r) (flume_site_in r) (taken r) flags-all) ∙ ap length e

  accepts : (room : List ℕ) → flume_record_length (flume_sides_in r) (taken r) ≤ length room → flume_write_answer (flume_sides_in r) (flume_settings_in r) (flume_site_in r) (taken r) room ≡ Done
  unfolding flume_write_answer flume_cells_in
  accepts room fits =
      or-pass BadSides _ k.sides ∙ or-pass BadLength _ lengths-pass ∙ or-pass (BadSetting 0) _ tests.0 ∙ tests.1 _
      ∙ or-pass (BadRoom (flume_record_length (flume_sides_in r) (taken r))) Done (le-leb (flume_record_length (flume_sides_in r) (taken r)) (length room) fits)

  writes : (room : List ℕ) → flume_record_of (flume_sides_in r) (flume_settings_in r) (flume_site_in r) (taken r) ≡ r → length r ≤ length room
      → (flume_write_answer (flume_sides_in r) (flume_settings_in r) (flume_site_in r) (taken r) room ≡ Done)
      × (flume_written_room (flume_sides_in r) (flume_settings_in r) (flume_site_in r) (taken r) room ≡ r ++ drop (length r) room)
  unfolding flume_written_room
  writes room e fits =
      let done = accepts room (subst (λ (m : ℕ). m ≤ length room) (sym (length-same e)) fits) in (
        done,
        ap (λ (x : Answer). cond (accepted x) (flume_record_of (flume_sides_in r) (flume_settings_in r) (flume_site_in r) (taken r) ++ drop (flume_record_length (flume_sides_in r) (taken r)) room) room) done
            ∙ ap₂ (λ (l : List ℕ) (m : ℕ). l ++ drop m room) e (length-same e),
      )

pub written-again : Claim
unfolding flume_read_head flume_read_flags flume_read_set
written-again r b room bytes done fits =
    let ok : accepted (flume_read_answer r b) ≡ true = done-accepted (flume_read_answer r b) done in
    let k = sound r (length b.parts) (length b.masses) (length b.fills) (length b.carry) (shape-accepted r b ok) in
    let head-is : flume_read_head r b ≡ record { answer = Done; sides = flume_sides_in r; settings = flume_settings_in r; site = flume_site_in r } = rw ok refl in
    let grid-is : grid_read r b ≡ taken r = rw ok refl in
    let e : flume_record_of (flume_sides_in r) (flume_settings_in r) (flume_site_in r) (taken r) ≡ r
    = sym (ap₂ (λ (h : FlumeHead) (a : Lent). flume_record_of h.sides h.settings h.site a) head-is grid-is) ∙ same_bytes r b bytes done in
    let w = writes r k (content-accepted r b ok) room e fits in (
      ap₂ (λ (h : FlumeHead) (a : Lent). flume_write_answer h.sides h.settings h.site a room) head-is grid-is ∙ w.0,
      ap₂ (λ (h : FlumeHead) (a : Lent). flume_written_room h.sides h.settings h.site a room) head-is grid-is ∙ w.1,
    )
