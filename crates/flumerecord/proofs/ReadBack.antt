-- What the writer writes from a good flume, the reader reads back as that flume: the same sides, settings and origin, and the same five lists, into any
-- slices of the right lengths. The one idea: the sections before the flags are read number by number, and behind them the law over any lattice and any
-- counts says it. Assumes nothing.
use mathlib.Core.Path.{◌≡◌, refl, sym, ap, ap₂, ◌∙◌, subst}
use mathlib.Core.Bool.{true, false, ◌&&◌}
use mathlib.Core.List.{List, ◌++◌}
use Prim.Native.Nat.{ℕ, suc, ◌*◌, ◌≤◌, ◌<◌}
use native.Mathlib.Nat.{le_trans, le_of_eq}
use native.Mathlib.Omega.{arith}
use lib.IntN.{ℤ, pos, nat_abs}
use lib.ListN.{length}
use borrow.Author.Tests.{leb-true}
use mir.Syntax.{w32, w64}
use mir.Val.{SFits}
use Rattle.whole.specs.laws.Bools.{and_left, and_right}
use Rattle.lattice.specs.Lattice.{d2q9, density}
use Rattle.lattice.specs.Cell.{edge_good, coordinate_good}
use Rattle.grid.specs.Answer.{Done}
use Rattle.grid.specs.Grid.{flume}
use Rattle.grid.specs.State.{Lent, State, state_of, lent_of, by_flag, flag_of}
use Rattle.grid.specs.Good.{bad_flag, bad_fluid, bad_rule, cell_good}
use Rattle.grid.specs.Demands.{Same}
use Rattle.grid.specs.Outcome.{accepted, if_none, good_answer, settings_good}
use Rattle.grid.proofs.Accepted.{done-accepted, skip, none_found, cell-good, sound}
use Rattle.grid.proofs.Same.{bad-rule-same}
use Rattle.flume.specs.declared.FlumeSides.{FlumeSides}
use Rattle.flume.specs.declared.FlumeSettings.{FlumeSettings}
use Rattle.flume.specs.Flume.{flume_sides_good, flume_cells, flume_grid, level_settings}
use Rattle.flumegrid.proofs.GoodSides.{good-sides, few}
use Rattle.record.specs.Bytes.{bytes_of, value, part, u32_at, i32_at, i64_at, join}
use Rattle.record.specs.Places.{settings_from, origin_from, totals_from, cells_from}
use Rattle.record.specs.Layout.{site_good, interfaces, liquids, cell_sections}
use Rattle.record.specs.Reading.{state_read}
use Rattle.record.specs.inner.Passes.{Shaped}
use Rattle.record.proofs.Numbers.{value-bytes_of, back}
use Rattle.record.proofs.Answers.{or-pass}
use Rattle.record.proofs.Standing.{fits_word, fits-long, coordinate-fits}
use Rattle.record.proofs.Rules.{carry-fair}
use Rattle.record.proofs.GridBack as grid
use Rattle.flumerecord.specs.declared.FlumeSite.{FlumeSite}
use Rattle.flumerecord.specs.declared.FlumeHead.{FlumeHead}
use Rattle.flumerecord.specs.Layout.{flume_recorded, flume_counts, flume_site_good, flume_site_bytes, flume_head_bytes, flume_record_of}
use Rattle.flumerecord.specs.Reading.{flume_sides_in, flume_settings_in, flume_site_in, flume_carry_in, flume_flags_at, flume_cells_in, flume_flags_in, flume_flag_in, flume_state_in, flume_slices_fit, flume_content, flume_read_answer, flume_read_head, flume_read_flags, flume_read_set}
use Rattle.flumerecord.specs.Writing.{flume_write_answer}
use Rattle.flumerecord.specs.inner.Passes.{FlumeSound}
use Rattle.flumerecord.proofs.Assembled.{length-head}
use Rattle.flumerecord.proofs.WrittenBy.{Fit, level-small, write-fit}
use Rattle.flumerecord.proofs.Shaped.{shape-passes}
use Rattle.grid.specs.declared.refusals.Refusal.TheVariants.{BadFlag, BadLayer, BadSetting, BadState}

-- the claim
abbrev pub Claim : Type 0
Claim =
    (s : FlumeSides) (g : FlumeSettings) (t : FlumeSite) (a : Lent) (room : List ℕ) (b : Lent) → flume_write_answer s g t a room ≡ Done
    → flume_slices_fit (flume_cells s) (length b.parts) (length b.masses) (length b.fills) (length b.carry) ≡ true
    → (flume_read_head (flume_record_of s g t a) b ≡ record { answer = Done; sides = s; settings = flume_recorded g; site = t })
    × (flume_read_flags (flume_record_of s g t a) b ≡ a.flags)
    × (flume_read_set (flume_record_of s g t a) b ≡ a)

-- test 3 asks for no mode
no_mode : (g : FlumeSettings) (t : FlumeSite) → flume_site_good (flume_recorded g) t ≡ flume_site_good g t
unfolding flume_site_good site_good settings_good
no_mode g t = refl

-- ---- sections 1 to 4: their numbers, whatever follows
module _ (s : FlumeSides) (g : FlumeSettings) (t : FlumeSite) (k : ℤ) (y : List ℕ) where
  abbrev h : List ℕ
  h = flume_head_bytes s g t k ++ y

  counted : (u32_at h 0 ≡ 2) × (u32_at h (settings_from flume_counts) ≡ 4) × (u32_at h (origin_from flume_counts) ≡ 2) × (u32_at h (totals_from flume_counts) ≡ 1)
  unfolding flume_head_bytes flume_site_bytes join bytes_of value
  counted = (refl, refl, refl, refl)

  sides-back : s.nx < 4294967296 → s.nz < 4294967296 → flume_sides_in h ≡ s
  unfolding flume_head_bytes flume_site_bytes join bytes_of flume_sides_in
  sides-back x z =
      let ex : u32_at h 4 ≡ s.nx = value-bytes_of 4 s.nx x in
      let ez : u32_at h 8 ≡ s.nz = value-bytes_of 4 s.nz z in
      ap₂ (λ (u v : ℕ). record { nx = u; nz = v }) ex ez

  settings-back : SFits w32 g.p → SFits w32 g.gx → SFits w32 g.gz → flume_settings_in h ≡ flume_recorded g
  unfolding flume_head_bytes flume_site_bytes join bytes_of flume_settings_in
  settings-back fp fx fz =
      let p : i32_at h 16 ≡ g.p = back w32 4 g.p fp refl in
      let x : i32_at h 20 ≡ g.gx = back w32 4 g.gx fx refl in
      let z : i32_at h 24 ≡ g.gz = back w32 4 g.gz fz refl in
      ap₂ (λ (u v : ℤ). record { p = u; gx = v; gz = i32_at h 24; turbulent = false }) p x
      ∙ ap (λ (w : ℤ). record { p = g.p; gx = g.gx; gz = w; turbulent = false }) z

  site-back : SFits w32 t.edge → SFits w64 t.x → SFits w64 t.z → flume_site_in h ≡ t
  unfolding flume_head_bytes flume_site_bytes join bytes_of flume_site_in
  site-back fe fx fz =
      let e : i32_at h 28 ≡ t.edge = back w32 4 t.edge fe refl in
      let x : i64_at h 36 ≡ t.x = back w64 8 t.x fx refl in
      let z : i64_at h 44 ≡ t.z = back w64 8 t.z fz refl in
      ap₂ (λ (u v : ℤ). record { edge = u; x = v; z = i64_at h 44 }) e x ∙ ap (λ (w : ℤ). record { edge = t.edge; x = t.x; z = w }) z

  carry_back : SFits w64 k → flume_carry_in h ≡ k
  unfolding flume_head_bytes flume_site_bytes join bytes_of flume_carry_in
  carry_back f = back w64 8 k f refl

head-same : {s u : FlumeSides} {g h : FlumeSettings} {t v : FlumeSite} → s ≡ u → g ≡ h → t ≡ v
    → ◌≡◌ {A = FlumeHead} (record { answer = Done; sides = s; settings = g; site = t }) (record { answer = Done; sides = u; settings = h; site = v })
head-same e f k i = record { answer = Done; sides = e i; settings = f i; site = k i }

-- ---- the record of a good flume
module _ (s : FlumeSides) (g : FlumeSettings) (t : FlumeSite) (a : Lent) (fit : Fit s g t a) where
  abbrev S : State
  S = state_of 8 a

  abbrev n : ℕ
  n = flume_cells s

  abbrev rec : List ℕ
  rec = flume_record_of s g t a

  -- the three tests of its state
  tests : (n ≤ bad_flag (flume_grid s) S.flag) × (n ≤ bad_fluid 8 (flume_grid s) S.flag) × (suc n ≤ bad_rule d2q9 n S)
  unfolding good_answer flume_grid flume flume_cells d2q9
  tests =
      let four = none_found (flume_cells s) BadFlag (bad_flag (flume_grid s) S.flag) _ fit.good in
      let five = none_found (flume_cells s) BadLayer (bad_fluid 8 (flume_grid s) S.flag) _ four.1 in
      let six = none_found (suc (flume_cells s)) BadState (bad_rule d2q9 (flume_cells s) S) Done five.1 in
      (four.0, five.0, six.0)

  cells-good : (c : ℕ) → c < n → cell_good d2q9 S c ≡ true
  unfolding flume_grid flume flume_cells
  cells-good c h = cell-good d2q9 (flume_grid s) S tests.2 c h

  massed : (c : ℕ) → c < n → S.mass c ≡ by_flag (S.flag c) (pos 0) (S.mass c) (density d2q9 (S.part c)) (pos 0)
  unfolding flume_grid flume flume_cells
  massed c h = (sound d2q9 (flume_grid s) S Done fit.good).0.massed c h

  -- ---- its head
  coordinates : (coordinate_good t.x ≡ true) × (coordinate_good t.z ≡ true)
  unfolding flume_site_good site_good
  coordinates =
      let A = settings_good (level_settings g) && edge_good t.edge in
      let X = coordinate_good t.x in
      let Y = coordinate_good (pos 0) in
      let Z = coordinate_good t.z in
      let x = and_left (A && X) Y (and_left (A && X && Y) Z fit.site) in
      (and_right A X x, and_right (A && X && Y) Z fit.site)

  sides-so : flume_sides_in rec ≡ s
  unfolding flume_record_of
  sides-so = let k = good-sides s fit.sides in sides-back s g t S.carry _ (omega (arith, k.x.high)) (omega (arith, k.z.high))

  settings-so : flume_settings_in rec ≡ flume_recorded g
  unfolding flume_record_of
  settings-so = let w = level-small g t fit.site in settings-back s g t S.carry _ (fits_word w.p) (fits_word w.gx) (fits_word w.gz)

  site-so : flume_site_in rec ≡ t
  unfolding flume_record_of
  site-so = site-back s g t S.carry _ (fits_word (level-small g t fit.site).edge) (coordinate-fits t.x coordinates.0) (coordinate-fits t.z coordinates.1)

  carry-so : flume_carry_in rec ≡ S.carry
  unfolding flume_record_of
  carry-so = carry_back s g t S.carry _ (fits-long (let h = leb-true (nat_abs S.carry) 1000000000000 (carry-fair d2q9 n S tests.2) in omega arith))

  -- ---- its cells
  abbrev head : List ℕ
  head = flume_head_bytes s g t (state_of 8 a).carry

  long : length head ≡ cells_from flume_counts 1
  long = length-head s g t S.carry

  eight : d2q9.q ≡ 8
  unfolding d2q9
  eight = refl

  cells-so : flume_cells_in rec ≡ n
  unfolding flume_cells_in
  cells-so = ap flume_cells sides-so

  flags-so : flume_flags_in rec ≡ a.flags
  unfolding flume_flags_in flume_record_of
  flags-so = ap (λ (k : ℕ). part k flume_flags_at rec) cells-so ∙ grid.flags-so d2q9 2 4 2 8 1 eight head long n a fit.lengths.flags cells-good massed

  -- the state read, with N and the flags as they were written
  state-so : flume_state_in rec ≡ state_read d2q9 flume_counts 1 n a.flags rec (flume_carry_in rec)
  unfolding flume_state_in
  state-so = ap₂ (λ (m : ℕ) (l : List ℕ). state_read d2q9 flume_counts 1 m l rec (flume_carry_in rec)) cells-so flags-so

  same-so : Same d2q9.q n (flume_state_in rec) S
  unfolding flume_record_of d2q9
  same-so = subst (λ (z : State). Same 8 n z S) (sym state-so) (grid.same-so d2q9 2 4 2 8 1 eight head long n a fit.lengths.flags cells-good massed carry-so)

  lists-so : lent_of 8 n (flume_state_in rec) ≡ a
  unfolding flume_record_of
  lists-so = ap (lent_of 8 n) state-so ∙ grid.lists-so d2q9 2 4 2 8 1 eight head long n a fit.lengths.flags cells-good massed carry-so fit.lengths.parts fit.lengths.masses fit.lengths.fills fit.lengths.carry

  -- ---- the reader's tests
  abbrev Sounds : ℕ → List ℕ → Type 0
  Sounds m l =
      Shaped rec flume_counts 1 m (interfaces m (flag_of l)) (9 * liquids m (flag_of l)) (flume_sides_good (flume_sides_in rec)) (bad_flag (flume_grid (flume_sides_in rec)) (flag_of l))

  small : n ≤ 262144
  small = few s fit.sides

  is-whole : Sounds n a.flags
  unfolding flume_record_of state_of
  is-whole =
      let k = counted s g t S.carry (cell_sections 9 n a.flags S.mass S.part) in
      let size = grid.long-so d2q9 2 4 2 8 1 eight head long n a fit.lengths.flags cells-good massed small (omega arith) in
      record {
        first = record { count = k.0; inside = omega (arith, size) };
        sides = ap flume_sides_good sides-so ∙ fit.sides;
        settings = record { count = k.1; inside = omega (arith, size) };
        origin = record { count = k.2; inside = omega (arith, size) };
        totals = record { count = k.3; inside = omega (arith, size) };
        flags = grid.held-flags d2q9 2 4 2 8 1 eight head long n a fit.lengths.flags cells-good massed small (omega arith);
        tested = le_trans tests.0 (le_of_eq (ap (λ (z : FlumeSides). bad_flag (flume_grid z) (flag_of a.flags)) (sym sides-so)));
        masses = grid.held-masses d2q9 2 4 2 8 1 eight head long n a fit.lengths.flags cells-good massed small (omega arith);
        parts = grid.held-parts d2q9 2 4 2 8 1 eight head long n a fit.lengths.flags cells-good massed small (omega arith);
        end = le_of_eq size;
      }

  is-sound : FlumeSound rec
  is-sound = subst (λ (m : ℕ). Sounds m (flume_flags_in rec)) (sym cells-so) (subst (λ (l : List ℕ). Sounds n l) (sym flags-so) is-whole)

  content-so : flume_content rec ≡ Done
  unfolding flume_content state_of
  content-so =
      let m = flume_cells_in rec in
      let place = bad_fluid 8 (flume_grid (flume_sides_in rec)) (flume_flag_in rec) in
      let rules = bad_rule d2q9 m (flume_state_in rec) in
      let shut : m ≤ place =
      le_trans (le_of_eq cells-so) (le_trans tests.1 (le_of_eq (ap₂ (λ (z : FlumeSides) (o : List ℕ). bad_fluid 8 (flume_grid z) (flag_of o)) (sym sides-so) (sym flags-so)))) in
      let kept : suc m ≤ rules =
      subst (λ (k : ℕ). suc k ≤ bad_rule d2q9 k (flume_state_in rec)) (sym cells-so) (le_trans tests.2 (le_of_eq (sym (bad-rule-same d2q9 n (flume_state_in rec) S same-so)))) in
      or-pass (BadSetting 0) _ (ap₂ flume_site_good settings-so site-so ∙ no_mode g t ∙ fit.site) ∙ skip m BadLayer place (if_none (suc m) BadState rules Done) shut ∙ skip (suc m) BadState rules Done kept

pub read_back : Claim
unfolding flume_read_head flume_read_flags flume_read_set flume_read_answer
read_back s g t a room b done fits =
    let fit = write-fit s g t a room done in
    let r = flume_record_of s g t a in
    let ok : flume_read_answer r b ≡ Done =
    shape-passes r (length b.parts) (length b.masses) (length b.fills) (length b.carry) (flume_content r) (is-sound s g t a fit)
    (ap (λ (n : ℕ). flume_slices_fit n (length b.parts) (length b.masses) (length b.fills) (length b.carry)) (cells-so s g t a fit) ∙ fits)
    ∙ content-so s g t a fit in
    let yes-it : accepted (flume_read_answer r b) ≡ true = done-accepted (flume_read_answer r b) ok in (
      rw yes-it (head-same (sides-so s g t a fit) (settings-so s g t a fit) (site-so s g t a fit)),
      rw yes-it (flags-so s g t a fit),
      rw yes-it (ap (λ (m : ℕ). lent_of 8 m (flume_state_in r)) (cells-so s g t a fit) ∙ lists-so s g t a fit),
    )
