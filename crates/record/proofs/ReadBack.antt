-- What the writer writes from a good grid, the reader reads back as that grid: the same sides, settings and origin, and the same five lists, into any
-- slices of the right lengths. The one idea: the record is its sections one after the other, so each number is read where it was put; that a good
-- state's numbers fit their bytes is what its rules say. Assumes nothing.
use mathlib.Core.Path.{◌≡◌, refl, sym, ap, ap₂, ◌∙◌, subst}
use mathlib.Core.Bool.{Bool, true, false, not, cond, ◌&&◌}
use mathlib.Core.List.{List, [], ◌∷◌, ◌++◌}
use Prim.Native.Nat.{ℕ, suc, ◌+◌, ◌*◌, ◌≤◌, ◌<◌}
use native.Mathlib.Nat.{le_trans, le_of_eq}
use native.Mathlib.Omega.{arith}
use lib.Dec.{eqb, leb}
use lib.IntN.{ℤ, pos, nat_abs}
use lib.ListN.{length, get_or}
use borrow.Author.Tests.{leb-true, eq-eqb, not-false}
use mir.Syntax.{w32, w64}
use mir.Val.{SFits}
use Rattle.whole.specs.laws.Bools.{and_left, and_right}
use Rattle.whole.specs.Fold.{all}
use Rattle.whole.specs.laws.Search.{all-at, first-none}
use Rattle.whole.specs.laws.Tab.{upto_all}
use Rattle.lattice.specs.Lattice.{d3q19, density}
use Rattle.lattice.specs.Cell.{edge_good, coordinate_good, carry_good}
use Rattle.lattice.specs.declared.Settings.{Settings}
use Rattle.grid.specs.declared.Sides.{Sides}
use Rattle.grid.specs.Answer.{Done}
use Rattle.grid.specs.Grid.{cells_of, sides_good, grid_of, box}
use Rattle.grid.specs.Good.{dry_good, interface_good, fluid_good, fill_good, cell_good, bad_flag, bad_fluid, bad_rule}
use Rattle.lattice.specs.Body.{eq_z}
use Rattle.grid.specs.Demands.{Same}
use Rattle.grid.specs.Outcome.{accepted, or_refuse, if_none, good_answer, settings_good}
use Rattle.grid.specs.inner.Sight.{Body}
use Rattle.grid.specs.Step.{fill_for}
use Rattle.grid.specs.State.{Lent, State, state_of, lent_of, by_flag, liquid, flag_of}
use Rattle.grid.proofs.Accepted.{done-accepted, skip, none_found, cell-good, sound}
use Rattle.lattice.proofs.Equal.{eq_z-true}
use Rattle.grid.proofs.Blocks.{blocks-all}
use Rattle.grid.proofs.Listed.{same-lent}
use Rattle.grid.proofs.Prepared.{cell-body, cell-mass, cell-fill}
use Rattle.grid.proofs.Same.{density-same, bad-rule-same}
use Rattle.grid.proofs.GoodSides.{GoodSides, good-sides}
use Rattle.pumps.specs.Three.{number_in, with_totals, total_good, totals_good}
use Rattle.record.specs.declared.Site.{Site}
use Rattle.record.specs.declared.Head.{Head}
use Rattle.record.specs.Bytes.{bytes_of, value, part, u32_at, i32_at, i64_at, join, Held}
use Rattle.record.specs.Places.{past, counts, settings_from, origin_from, totals_from, cells_from, masses_from, parts_from, length_of}
use Rattle.record.specs.Layout.{recorded, site_good, interfaces, liquids, site_bytes, totals_bytes, head_bytes, cells_bytes, record_of, record_length}
use Rattle.record.specs.Reading.{sides_in, settings_in, site_in, totals_in, carry_in, poured_in, taken_in, cells_in, flags_in, flag_in, interfaces_in, liquids_in, slices_fit, content_answer, mass_at, part_at, mass_in, part_in, state_in, read_answer, read_head, read_flags, read_set}
use Rattle.record.specs.Writing.{write_answer}
use Rattle.record.specs.inner.Passes.{Sound}
use Rattle.record.proofs.Numbers.{value-bytes_of, back}
use Rattle.record.proofs.Gathered.{interfaces-most, liquids-most}
use Rattle.record.proofs.Assembled.{length-head, length-record}
use Rattle.record.proofs.Standing.{count-five, flags-back, count-six, count-seven, mass-back, part-back, fits_word, near, fits-long, total-fits, coordinate-fits, part-kinds, mass-kinds, dry-kinds}
use Rattle.record.proofs.WrittenBy.{Fit, small, write-fit}
use Rattle.record.proofs.Answers.{or-pass}
use Rattle.record.proofs.Shaped.{shape-passes}
use Rattle.grid.specs.declared.refusals.Refusal.TheVariants.{BadFlag, BadLayer, BadSetting, BadState}

-- the claim
abbrev pub Claim : Type 0
Claim =
    (s : Sides) (g : Settings) (t : Site) (a : Lent) (room : List ℕ) (b : Lent) → write_answer s g t a room ≡ Done
    → slices_fit (cells_of s) (length b.parts) (length b.masses) (length b.fills) (length b.carry) ≡ true
    → (read_head (record_of s g t a) b ≡ record { answer = Done; sides = s; settings = recorded g; site = t })
    × (read_flags (record_of s g t a) b ≡ a.flags)
    × (read_set (record_of s g t a) b ≡ a)

-- test 3 asks for no mode
no_mode : (g : Settings) (t : Site) → site_good (recorded g) t ≡ site_good g t
unfolding site_good settings_good
no_mode g t = refl

-- ---- sections 1 to 4: their numbers, whatever follows
module _ (s : Sides) (g : Settings) (t : Site) (k p q : ℤ) (y : List ℕ) where
  abbrev h : List ℕ
  h = head_bytes s g t k p q ++ y

  counted : (u32_at h 0 ≡ 3) × (u32_at h (settings_from counts) ≡ 5) × (u32_at h (origin_from counts) ≡ 3) × (u32_at h (totals_from counts) ≡ 3)
  unfolding head_bytes site_bytes totals_bytes join bytes_of value
  counted = (refl, refl, refl, refl)

  three-numbers : totals_in h ≡ 3
  unfolding totals_in
  three-numbers = ap (λ (n : ℕ). cond (leb (totals_from counts + 4) (length h) && eqb n 1) 1 3) counted.3 ∙ go (leb (totals_from counts + 4) (length h))
    where
      go : (b : Bool) → ◌≡◌ {A = ℕ} (cond (b && false) 1 3) 3
      go true = refl
      go false = refl

  sides-back : s.nx < 4294967296 → s.ny < 4294967296 → s.nz < 4294967296 → sides_in h ≡ s
  unfolding head_bytes site_bytes totals_bytes join bytes_of sides_in
  sides-back x y z =
      let ex : u32_at h 4 ≡ s.nx = value-bytes_of 4 s.nx x in
      let ey : u32_at h 8 ≡ s.ny = value-bytes_of 4 s.ny y in
      let ez : u32_at h 12 ≡ s.nz = value-bytes_of 4 s.nz z in
      ap₂ (λ (u v : ℕ). record { nx = u; ny = v; nz = u32_at h 12 }) ex ey ∙ ap (λ (w : ℕ). record { nx = s.nx; ny = s.ny; nz = w }) ez

  settings-back : SFits w32 g.p → SFits w32 g.gx → SFits w32 g.gy → SFits w32 g.gz → settings_in h ≡ recorded g
  unfolding head_bytes site_bytes totals_bytes join bytes_of settings_in
  settings-back fp fx fy fz =
      let p : i32_at h 20 ≡ g.p = back w32 4 g.p fp refl in
      let x : i32_at h 24 ≡ g.gx = back w32 4 g.gx fx refl in
      let y : i32_at h 28 ≡ g.gy = back w32 4 g.gy fy refl in
      let z : i32_at h 32 ≡ g.gz = back w32 4 g.gz fz refl in
      ap₂ (λ (u v : ℤ). record { p = u; gx = v; gy = i32_at h 28; gz = i32_at h 32; turbulent = false }) p x
      ∙ ap₂ (λ (u v : ℤ). record { p = g.p; gx = g.gx; gy = u; gz = v; turbulent = false }) y z

  site-back : SFits w32 t.edge → SFits w64 t.x → SFits w64 t.y → SFits w64 t.z → site_in h ≡ t
  unfolding head_bytes site_bytes totals_bytes join bytes_of site_in
  site-back fe fx fy fz =
      let e : i32_at h 36 ≡ t.edge = back w32 4 t.edge fe refl in
      let x : i64_at h 44 ≡ t.x = back w64 8 t.x fx refl in
      let y : i64_at h 52 ≡ t.y = back w64 8 t.y fy refl in
      let z : i64_at h 60 ≡ t.z = back w64 8 t.z fz refl in
      ap₂ (λ (u v : ℤ). record { edge = u; x = v; y = i64_at h 52; z = i64_at h 60 }) e x ∙ ap₂ (λ (u v : ℤ). record { edge = t.edge; x = t.x; y = u; z = v }) y z

  carry_back : SFits w64 k → carry_in h ≡ k
  unfolding head_bytes site_bytes totals_bytes join bytes_of carry_in
  carry_back f = back w64 8 k f refl

  poured-there : SFits w64 p → i64_at h (past (totals_from counts) 8 1) ≡ p
  unfolding head_bytes site_bytes totals_bytes join bytes_of
  poured-there f = back w64 8 p f refl

  taken-there : SFits w64 q → i64_at h (past (totals_from counts) 8 2) ≡ q
  unfolding head_bytes site_bytes totals_bytes join bytes_of
  taken-there f = back w64 8 q f refl

  poured-back : SFits w64 p → poured_in h ≡ p
  unfolding poured_in
  poured-back f = ap (λ (n : ℕ). cond (eqb n 3) (i64_at h (past (totals_from counts) 8 1)) (pos 0)) three-numbers ∙ poured-there f

  taken_back : SFits w64 q → taken_in h ≡ q
  unfolding taken_in
  taken_back f = ap (λ (n : ℕ). cond (eqb n 3) (i64_at h (past (totals_from counts) 8 2)) (pos 0)) three-numbers ∙ taken-there f

head-same : {s u : Sides} {g h : Settings} {t v : Site} → s ≡ u → g ≡ h → t ≡ v
    → ◌≡◌ {A = Head} (record { answer = Done; sides = s; settings = g; site = t }) (record { answer = Done; sides = u; settings = h; site = v })
head-same {u = u} {h = h} {t = t} e f k =
    ap₂ (λ (x : Sides) (y : Settings). record { answer = Done; sides = x; settings = y; site = t }) e f
    ∙ ap (λ (x : Site). record { answer = Done; sides = u; settings = h; site = x }) k

-- the searches look at the flags alone
flag-in : (r : List ℕ) → bad_flag (grid_of (sides_in r)) (flag_of (flags_in r)) ≡ bad_flag (grid_of (sides_in r)) (flag_in r)
unfolding flag_in
flag-in r = refl

fluid-in : (r : List ℕ) → bad_fluid 18 (grid_of (sides_in r)) (flag_of (flags_in r)) ≡ bad_fluid 18 (grid_of (sides_in r)) (flag_in r)
unfolding flag_in
fluid-in r = refl

-- ---- the record of a good grid
module _ (s : Sides) (g : Settings) (t : Site) (a : Lent) (fit : Fit s g t a) where
  abbrev S : State
  S = state_of 18 a

  abbrev n : ℕ
  n = cells_of s

  abbrev rec : List ℕ
  rec = record_of s g t a

  -- the three tests of its state
  tests : (n ≤ bad_flag (grid_of s) S.flag) × (n ≤ bad_fluid 18 (grid_of s) S.flag) × (suc n ≤ bad_rule d3q19 n S)
  unfolding good_answer grid_of box cells_of d3q19
  tests =
      let four = none_found (cells_of s) BadFlag (bad_flag (grid_of s) S.flag) _ fit.good in
      let five = none_found (cells_of s) BadLayer (bad_fluid 18 (grid_of s) S.flag) _ four.1 in
      let six = none_found (suc (cells_of s)) BadState (bad_rule d3q19 (cells_of s) S) Done five.1 in
      (four.0, five.0, six.0)

  cells-good : (c : ℕ) → c < n → cell_good d3q19 S c ≡ true
  unfolding grid_of box cells_of
  cells-good c h = cell-good d3q19 (grid_of s) S tests.2 c h

  massed : (c : ℕ) → c < n → S.mass c ≡ by_flag (S.flag c) (pos 0) (S.mass c) (density d3q19 (S.part c)) (pos 0)
  unfolding grid_of box cells_of
  massed c h = (sound d3q19 (grid_of s) S Done fit.good).0.massed c h

  carry-good : carry_good S.carry ≡ true
  unfolding bad_rule
  carry-good =
      not-false (carry_good S.carry)
      (sym (ap (λ (b : Bool). cond b (not (carry_good S.carry)) (not (cell_good d3q19 S n))) (eq-eqb n n refl))
      ∙ first-none (suc n) (λ c. cond (eqb c n) (not (carry_good S.carry)) (not (cell_good d3q19 S c))) tests.2 n (omega arith))

  dry-parts : (c k : ℕ) → c < n → k ≤ 18 → liquid (S.flag c) ≡ false → S.part c k ≡ pos 0
  unfolding cell_good dry_good d3q19
  dry-parts c k h l e =
      let D = dry_good d3q19 S c in
      let kinds = by_flag (S.flag c) D (interface_good d3q19 S c) (fluid_good d3q19 S c) D in
      let d = dry-kinds (S.flag c) D (interface_good d3q19 S c) (fluid_good d3q19 S c) e (and_left kinds (fill_good d3q19 S c) (cells-good c h)) in
      eq_z-true (S.part c k) (pos 0)
      (all-at 19 (λ j. eq_z (S.part c j) (pos 0)) (and_right (eq_z (S.mass c) (pos 0)) (all 19 (λ j. eq_z (S.part c j) (pos 0))) d) k (omega arith))

  -- ---- its head
  small-sides : GoodSides s
  small-sides = good-sides s fit.sides

  sites : (edge_good t.edge ≡ true) × (coordinate_good t.x ≡ true) × (coordinate_good t.y ≡ true) × (coordinate_good t.z ≡ true)
  unfolding site_good
  sites =
      let A = settings_good g in
      let E = edge_good t.edge in
      let X = coordinate_good t.x in
      let Y = coordinate_good t.y in
      let Z = coordinate_good t.z in
      let all = fit.site in
      let y = and_left (A && E && X && Y) Z all in
      let x = and_left (A && E && X) Y y in
      (and_right A E (and_left (A && E) X x), and_right (A && E) X x, and_right (A && E && X) Y y, and_right (A && E && X && Y) Z all)

  abbrev poured : ℤ
  poured = number_in a 1

  abbrev taken : ℤ
  taken = number_in a 2

  sides-so : sides_in rec ≡ s
  unfolding record_of
  sides-so =
      sides-back s g t (number_in a 0) poured taken _ (let h = small-sides.x.high in omega arith) (let h = small-sides.y.high in omega arith) (let h = small-sides.z.high in omega arith)

  settings-so : settings_in rec ≡ recorded g
  unfolding record_of
  settings-so = let w = small g t fit.site in settings-back s g t (number_in a 0) poured taken _ (fits_word w.p) (fits_word w.gx) (fits_word w.gy) (fits_word w.gz)

  site-so : site_in rec ≡ t
  unfolding record_of
  site-so =
      site-back s g t (number_in a 0) poured taken _ (fits_word (small g t fit.site).edge) (coordinate-fits t.x sites.1) (coordinate-fits t.y sites.2) (coordinate-fits t.z sites.3)

  carry-so : carry_in rec ≡ S.carry
  unfolding record_of state_of
  carry-so = carry_back s g t (number_in a 0) poured taken _ (fits-long (let h = leb-true (nat_abs S.carry) 1000000000000 carry-good in omega arith))

  poured-so : poured_in rec ≡ poured
  unfolding record_of
  poured-so = poured-back s g t (number_in a 0) poured taken _ (total-fits poured (and_left (total_good poured) (total_good taken) fit.totals))

  taken-so : taken_in rec ≡ taken
  unfolding record_of
  taken-so = taken_back s g t (number_in a 0) poured taken _ (total-fits taken (and_right (total_good poured) (total_good taken) fit.totals))

  totals-so : totals_in rec ≡ 3
  unfolding record_of
  totals-so = three-numbers s g t (number_in a 0) poured taken _

  abbrev head : List ℕ
  head = head_bytes s g t (number_in a 0) poured taken

  head-long : length head ≡ cells_from counts 3
  head-long = length-head s g t (number_in a 0) poured taken

  -- ---- its cells
  cells-so : cells_in rec ≡ n
  unfolding cells_in
  cells-so = ap cells_of sides-so

  flags-so : flags_in rec ≡ a.flags
  unfolding flags_in record_of
  flags-so = ap₂ (λ (k j : ℕ). part k (cells_from counts j + 4) rec) cells-so totals-so ∙ flags-back counts 3 head head-long n a.flags S.mass S.part fit.lengths.flags

  interfaces-so : interfaces_in rec ≡ interfaces n (flag_of a.flags)
  unfolding interfaces_in flag_in
  interfaces-so = ap₂ (λ (k : ℕ) (l : List ℕ). interfaces k (flag_of l)) cells-so flags-so

  liquids-so : liquids_in rec ≡ liquids n (flag_of a.flags)
  unfolding liquids_in flag_in
  liquids-so = ap₂ (λ (k : ℕ) (l : List ℕ). liquids k (flag_of l)) cells-so flags-so

  body : (c : ℕ) → c < n → liquid (S.flag c) ≡ true → Body (S.part c)
  body c h l = cell-body n S cells-good c h l

  part-so : (c k : ℕ) → c < n → k ≤ 18 → part_in rec c k ≡ S.part c k
  unfolding part_in part_at flag_in record_of state_of
  part-so c k h l =
      let from : ℕ → ℕ → ℕ → List ℕ → ℤ = λ j m i o. i32_at rec (parts_from counts j m i + 4 + 4 * (19 * liquids c (flag_of o) + k)) in
      let at : ℕ → ℕ → List ℕ → ℤ = from 3 in
      ap (λ (j : ℕ). by_flag (flag_of (flags_in rec) c) (pos 0) (from j (cells_in rec) (interfaces_in rec) (flags_in rec)) (from j (cells_in rec) (interfaces_in rec) (flags_in rec)) (pos 0)) totals-so
      ∙ ap₂ (λ (m i : ℕ). by_flag (flag_of (flags_in rec) c) (pos 0) (at m i (flags_in rec)) (at m i (flags_in rec)) (pos 0)) cells-so interfaces-so
      ∙ ap (λ (o : List ℕ). by_flag (flag_of o c) (pos 0) (at n (interfaces n (flag_of a.flags)) o) (at n (interfaces n (flag_of a.flags)) o) (pos 0)) flags-so
      ∙ part-kinds (flag_of a.flags c) (at n (interfaces n (flag_of a.flags)) a.flags) (S.part c k)
      (λ e. part-back counts 3 head head-long n a.flags S.mass S.part fit.lengths.flags c k h (omega arith) e (near 1179648 ((body c h e).parts k l) (omega arith)))
      (λ e. dry-parts c k h l e)

  density-so : (c : ℕ) → c < n → density d3q19 (part_in rec c) ≡ density d3q19 (S.part c)
  unfolding d3q19
  density-so c h = density-same d3q19 (part_in rec c) (S.part c) (λ k l. part-so c k h l)

  mass-so : (c : ℕ) → c < n → mass_in rec c ≡ S.mass c
  unfolding mass_in mass_at flag_in record_of state_of
  mass-so c h =
      let from : ℕ → ℕ → List ℕ → ℤ = λ j m o. i32_at rec (masses_from counts j m + 4 + 4 * interfaces c (flag_of o)) in
      let at : ℕ → List ℕ → ℤ = from 3 in
      ap (λ (j : ℕ). by_flag (flag_of (flags_in rec) c) (pos 0) (from j (cells_in rec) (flags_in rec)) (density d3q19 (part_in rec c)) (pos 0)) totals-so
      ∙ ap₂ (λ (m : ℕ) (ρ : ℤ). by_flag (flag_of (flags_in rec) c) (pos 0) (at m (flags_in rec)) ρ (pos 0)) cells-so (density-so c h)
      ∙ ap (λ (o : List ℕ). by_flag (flag_of o c) (pos 0) (at n o) (density d3q19 (S.part c)) (pos 0)) flags-so
      ∙ mass-kinds (flag_of a.flags c) (at n a.flags) (S.mass c) (density d3q19 (S.part c))
      (λ e. mass-back counts 3 head head-long n a.flags S.mass S.part fit.lengths.flags c h e (near 2359296 (cell-mass n S cells-good c h e) (omega arith)))
      ∙ sym (massed c h)

  fill-so : (c : ℕ) → c < n → (state_in rec).fill c ≡ S.fill c
  unfolding state_in flag_in state_of
  fill-so c h =
      ap₂ (λ (m ρ : ℤ). fill_for (flag_of (flags_in rec) c) m ρ) (mass-so c h) (density-so c h)
      ∙ ap (λ (o : List ℕ). fill_for (flag_of o c) (S.mass c) (density d3q19 (S.part c))) flags-so
      ∙ sym (cell-fill n S cells-good c h)

  flag-so : (c : ℕ) → flag_in rec c ≡ S.flag c
  unfolding flag_in state_of
  flag-so c = ap (λ (o : List ℕ). flag_of o c) flags-so

  same-state : Same 18 n (state_in rec) S
  unfolding state_in
  same-state = record { flags = λ c h. flag-so c; parts = λ c k h l. part-so c k h l; masses = λ c h. mass-so c h; fills = λ c h. fill-so c h; carries = carry-so }

  lattice-same : Same d3q19.q n (state_in rec) S
  unfolding d3q19
  lattice-same = same-state

  -- the five lists
  numbers : (l : List ℤ) → length l ≡ 3 → (get_or l 0 (pos 0) ∷ get_or l 1 (pos 0) ∷ get_or l 2 (pos 0) ∷ []) ≡ l
  numbers [] e = absurd (omega arith)
  numbers (x ∷ []) e = absurd (omega arith)
  numbers (x ∷ y ∷ []) e = absurd (omega arith)
  numbers (x ∷ y ∷ z ∷ []) e = refl
  numbers (x ∷ y ∷ z ∷ w ∷ l) e = absurd (omega arith)

  lists-so : with_totals (lent_of 18 n (state_in rec)) (poured_in rec) (taken_in rec) ≡ a
  unfolding lent_of state_in state_of
  lists-so =
      let L = fit.lengths in
      let flags = sym (upto_all 3 (flag_in rec) a.flags n L.flags (λ c h. sym (flag-so c))) in
      let parts = sym (blocks-all (part_in rec) a.parts n L.parts (λ c k h l. sym (part-so c k h (omega arith)))) in
      let masses = sym (upto_all (pos 0) (mass_in rec) a.masses n L.masses (λ c h. sym (mass-so c h))) in
      let fills = sym (upto_all 0 (state_in rec).fill a.fills n L.fills (λ c h. sym (fill-so c h))) in
      let carry = ap (λ (z : ℤ). z ∷ poured_in rec ∷ taken_in rec ∷ []) carry-so ∙ ap₂ (λ (p q : ℤ). number_in a 0 ∷ p ∷ q ∷ []) poured-so taken-so ∙ numbers a.carry fit.numbers in
      same-lent flags parts masses fills carry

  -- ---- the reader's tests
  long-so : length rec ≡ length_of counts 3 n (interfaces n (flag_of a.flags)) (19 * liquids n (flag_of a.flags))
  unfolding record_length state_of
  long-so = length-record s g t a fit.lengths.flags

  few : n ≤ 262144
  unfolding cells_of
  few = small-sides.all

  few-interfaces : interfaces n (flag_of a.flags) ≤ n
  few-interfaces = interfaces-most n (flag_of a.flags)

  few-liquids : liquids n (flag_of a.flags) ≤ n
  few-liquids = liquids-most n (flag_of a.flags)

  is-sound : Sound rec
  unfolding record_of state_of
  is-sound =
      let k = counted s g t (number_in a 0) poured taken (cells_bytes n a.flags S.mass S.part) in
      let I = interfaces n (flag_of a.flags) in
      let L = liquids n (flag_of a.flags) in
      let e = long-so in
      let l = fit.lengths.flags in
      record {
        first = record { count = k.0; inside = omega arith };
        sides = ap sides_good sides-so ∙ fit.sides;
        settings = record { count = k.1; inside = omega arith };
        origin = record { count = k.2; inside = omega arith };
        totals = subst (λ (j : ℕ). Held rec (totals_from counts) j 8) (sym totals-so) (record { count = k.3; inside = omega arith });
        flags =
            subst (λ (j : ℕ). Held rec (cells_from counts j) (cells_in rec) 1) (sym totals-so)
            (subst (λ (m : ℕ). Held rec (cells_from counts 3) m 1) (sym cells-so)
            (record { count = count-five counts 3 head head-long n a.flags S.mass S.part l (omega (arith, few)); inside = omega arith }));
        tested =
            subst (λ (m : ℕ). m ≤ bad_flag (grid_of (sides_in rec)) (flag_in rec)) (sym cells-so)
            (le_trans tests.0 (le_of_eq (ap₂ (λ (z : Sides) (o : List ℕ). bad_flag (grid_of z) (flag_of o)) (sym sides-so) (sym flags-so) ∙ same_flags)));
        masses =
            subst (λ (j : ℕ). Held rec (masses_from counts j (cells_in rec)) (interfaces_in rec) 4) (sym totals-so)
            (subst (λ (m : ℕ). Held rec (masses_from counts 3 m) (interfaces_in rec) 4) (sym cells-so)
            (subst (λ (i : ℕ). Held rec (masses_from counts 3 n) i 4) (sym interfaces-so)
            (record { count = count-six counts 3 head head-long n a.flags S.mass S.part l (omega (arith, few, few-interfaces)); inside = omega arith })));
        parts =
            subst (λ (j : ℕ). Held rec (parts_from counts j (cells_in rec) (interfaces_in rec)) (19 * liquids_in rec) 4) (sym totals-so)
            (subst (λ (m : ℕ). Held rec (parts_from counts 3 m (interfaces_in rec)) (19 * liquids_in rec) 4) (sym cells-so)
            (subst (λ (i : ℕ). Held rec (parts_from counts 3 n i) (19 * liquids_in rec) 4) (sym interfaces-so)
            (subst (λ (w : ℕ). Held rec (parts_from counts 3 n I) (19 * w) 4) (sym liquids-so)
            (record { count = count-seven counts 3 head head-long n a.flags S.mass S.part l (omega (arith, few, few-liquids)); inside = omega arith }))));
        end = le_of_eq (e ∙ sym (ap₂ (λ (i w : ℕ). length_of counts (totals_in rec) (cells_in rec) i (19 * w)) interfaces-so liquids-so ∙ ap₂ (λ (j m : ℕ). length_of counts j m I (19 * L)) totals-so cells-so));
      }
    where
      same_flags : bad_flag (grid_of (sides_in rec)) (flag_of (flags_in rec)) ≡ bad_flag (grid_of (sides_in rec)) (flag_in rec)
      same_flags = flag-in rec

  content-so : content_answer rec ≡ Done
  unfolding content_answer state_of
  content-so =
      let m = cells_in rec in
      let place = bad_fluid 18 (grid_of (sides_in rec)) (flag_in rec) in
      let rules = bad_rule d3q19 m (state_in rec) in
      let shut : m ≤ place =
      le_trans (le_of_eq cells-so) (le_trans tests.1 (le_of_eq (ap₂ (λ (z : Sides) (o : List ℕ). bad_fluid 18 (grid_of z) (flag_of o)) (sym sides-so) (sym flags-so) ∙ fluid-in rec))) in
      let kept : suc m ≤ rules =
      subst (λ (k : ℕ). suc k ≤ bad_rule d3q19 k (state_in rec)) (sym cells-so) (le_trans tests.2 (le_of_eq (sym (bad-rule-same d3q19 n (state_in rec) S same)))) in
      let totals = totals_good (poured_in rec) (taken_in rec) in
      let last = or_refuse totals (BadState m) Done in
      or-pass (BadSetting 0) _ (ap₂ site_good settings-so site-so ∙ no_mode g t ∙ fit.site) ∙ skip m BadLayer place (if_none (suc m) BadState rules last) shut ∙ skip (suc m) BadState rules last kept
      ∙ or-pass (BadState m) Done (ap₂ totals_good poured-so taken-so ∙ fit.totals)
    where
      same : Same d3q19.q n (state_in rec) S
      same = lattice-same

pub read_back : Claim
unfolding read_head read_flags read_set read_answer
read_back s g t a room b done fits =
    let fit = write-fit s g t a room done in
    let r = record_of s g t a in
    let ok : read_answer r b ≡ Done =
    shape-passes r (length b.parts) (length b.masses) (length b.fills) (length b.carry) (content_answer r) (is-sound s g t a fit)
    (ap (λ (n : ℕ). slices_fit n (length b.parts) (length b.masses) (length b.fills) (length b.carry)) (cells-so s g t a fit) ∙ fits)
    ∙ content-so s g t a fit in
    let yes-it : accepted (read_answer r b) ≡ true = done-accepted (read_answer r b) ok in (
      rw yes-it (head-same (sides-so s g t a fit) (settings-so s g t a fit) (site-so s g t a fit)),
      rw yes-it (flags-so s g t a fit),
      rw yes-it (ap (λ (m : ℕ). with_totals (lent_of 18 m (state_in r)) (poured_in r) (taken_in r)) (cells-so s g t a fit) ∙ lists-so s g t a fit),
    )
