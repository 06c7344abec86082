-- From where stage 6 begins: what its passes ask holds, and what they leave is the step's. Assumes nothing.
use mathlib.Core.Path.{◌≡◌, refl, sym, ap, ap₂, ◌∙◌, subst}
use mathlib.Core.Bool.{Bool, true, false, ◌&&◌, ◌||◌, not, cond, false≢true}
use mathlib.Core.List.{List, [], ◌∷◌}
use Prim.Native.Nat.{ℕ, zero, suc, ◌+◌, ◌-◌, ◌*◌, ◌/◌, ◌%◌, ◌≤◌, ◌<◌}
use native.Mathlib.Decide.{dec_lt}
use native.Mathlib.Nat.{mod-lt, div-add-mod, le_of_suc-le-suc, not-suc-le-zero}
use native.Mathlib.Omega.{arith}
use lib.IntN.{ℤ, pos, neg_ℤ, ◌+ℤ◌, ◌*ℤ◌, +ℤ_idr}
use lib.Signed.{◌≤ℤ◌, le_z}
use lib.Dec.{eqb}
use lib.ListN.{length, get_or, replicate}
use Rattle.whole.specs.laws.Bools.{and_left}
use Rattle.whole.specs.Fold.{tab, Dir}
use Rattle.whole.specs.laws.Machine.{Within}
use Rattle.whole.specs.laws.Order.{lt_z-true, of<, le_z-true}
use Rattle.whole.specs.laws.Parts.{≤-parts, parts-≤}
use Rattle.whole.specs.laws.Ring.{quotes}
use Rattle.whole.specs.laws.Tab.{length-tab, get_or-tab, tab-cong}
use Rattle.lattice.specs.Lattice.{d3q19}
use Rattle.lattice.specs.Cell.{over, under, dense}
use Rattle.lattice.specs.declared.Settings.{Settings}
use Rattle.lattice.proofs.Paired.{paired19}
use Rattle.grid.specs.declared.Sides.{Sides}
use Rattle.grid.specs.Grid.{cells_of, sides_good}
use Rattle.grid.specs.State.{Lent, Scene, by_flag, liquid, state_of, part_of}
use Rattle.grid.specs.Step.{traded_mass, streamed_density, collided, filled, emptied, beside_filled, beside_emptied, new_flag, flag_after, converted, received, base_mass, new_mass, new_part}
use Rattle.grid.specs.Outcome.{scene_of}
use Rattle.grid.specs.inner.Between.{moved_mass, born_part, gathered_mass}
use Rattle.grid.specs.inner.Passes.{Amid, low_of, offset_of}
use Rattle.grid.specs.inner.Sight.{Around}
use Rattle.excess.specs.inner.Gifts.{density_at, gathered_at, Filled, Parts, RoomOf, Weighed, Giving, Gathering, Straying}
use Rattle.conversion.specs.inner.Settled.{settled_mass, settled_part, Settling, Settled}
use Rattle.conversion.proofs.Amounts.{taker-unmarked, inner-cell, moved-mass-in, streamed-density-in, new-dense}
use Rattle.conversion.proofs.Given.{Midway, flag_is, mark-is, mass-is, part-is, none_is, filled_is, converted-interface, marked-converted, born-is, density-is, taker-inner, there_back, gathered-is}
use Rattle.conversion.proofs.Impacts.{collided-rest, collided-at}
use Rattle.conversion.proofs.Field.{Field, scene_in, field_of}

-- past its end a list has nothing
get_d_past : (xs : List ℕ) (j d : ℕ) → length xs ≤ j → get_or xs j d ≡ d
get_d_past [] j d h = refl
get_d_past (x ∷ xs) zero d h = absurd (not-suc-le-zero h)
get_d_past (x ∷ xs) (suc j) d h = get_d_past xs j d (le_of_suc-le-suc h)

dense-up : (ρ : ℤ) → dense ρ ≡ true → pos 0 ≤ℤ ρ
unfolding dense
dense-up ρ e = parts-≤ (omega (arith, ≤-parts (le_z-true {a = pos 294912} {b = ρ} (and_left (le_z (pos 294912) ρ) (le_z ρ (pos 1179648)) e))))

opp-low : (i : ℕ) → Dir 18 i → d3q19.opp i < 19
unfolding d3q19
opp-low i d = omega (arith, (paired19.dir i d).most)

-- ---- by cases on flags and tests alone

-- conversion takes the excess out of the mass
mass-cases : (f : ℕ) (ov un bf be : Bool) (m ρ x : ℤ)
    → cond (not (by_flag f false ov false false || by_flag f false un false false))
    (by_flag f (pos 0) m ρ (pos 0) +ℤ cond (eqb (flag_after f bf (by_flag f false ov false false) (by_flag f false un false false) be) 1) x (pos 0))
    (cond (by_flag f false ov false false) ρ (pos 0))
    ≡ by_flag f (pos 0) (cond (by_flag f false ov false false) ρ (cond (by_flag f false un false false) (pos 0) m)) ρ (pos 0)
    +ℤ cond (eqb (flag_after f bf (by_flag f false ov false false) (by_flag f false un false false) be) 1) x (pos 0)
mass-cases zero ov un bf be m ρ x = refl
mass-cases (suc zero) true un bf be m ρ x = sym (+ℤ_idr ρ)
mass-cases (suc zero) false true bf be m ρ x = refl
mass-cases (suc zero) false false bf be m ρ x = refl
mass-cases (suc (suc zero)) ov un bf be m ρ x = refl
mass-cases (suc (suc (suc n))) ov un bf be m ρ x = refl

-- only an emptied cell loses its parts
part-cases : (f : ℕ) (ov un : Bool) (b x : ℤ) → (by_flag f false ov false false ≡ true → by_flag f false un false false ≡ false)
    → cond (not (by_flag f false ov false false || by_flag f false un false false)) (by_flag f b x x (pos 0)) (cond (by_flag f false ov false false) (by_flag f b x x (pos 0)) (pos 0))
    ≡ by_flag f b (cond (by_flag f false un false false) (pos 0) x) x (pos 0)
part-cases zero ov un b x h = refl
part-cases (suc zero) true true b x h = absurd (false≢true (sym (h refl)))
part-cases (suc zero) true false b x h = refl
part-cases (suc zero) false true b x h = refl
part-cases (suc zero) false false b x h = refl
part-cases (suc (suc zero)) ov un b x h = refl
part-cases (suc (suc (suc n))) ov un b x h = refl

-- a mass above a density that is not negative is not below its negative
never_both : (m ρ : ℤ) → pos 0 ≤ℤ ρ → over m ρ ≡ true → under m ρ ≡ true → ⊥
unfolding over under
never_both m ρ h p q =
    omega (
      arith,
      ≤-parts h,
      of< (m ∷ ρ ∷ []) (search quotes depth 20) (search quotes depth 20) (lt_z-true {a = pos 1001 *ℤ ρ} {b = pos 1000 *ℤ m} p),
      of< (m ∷ ρ ∷ []) (search quotes depth 20) (search quotes depth 20) (lt_z-true {a = pos 1000 *ℤ m} {b = neg_ℤ ρ} q),
    )

one-or-other : (f : ℕ) (m ρ : ℤ) (b : Bool) → (f ≡ 1 → pos 0 ≤ℤ ρ) → by_flag f false (over m ρ) false false ≡ true → by_flag f false (under m ρ && b) false false ≡ false
one-or-other zero m ρ b h e = refl
one-or-other (suc zero) m ρ b h e = go (under m ρ) refl
  where
    go : (u : Bool) → under m ρ ≡ u → (under m ρ && b) ≡ false
    go true q = absurd (never_both m ρ (h refl) e q)
    go false q = ap (λ (x : Bool). x && b) q
one-or-other (suc (suc zero)) m ρ b h e = refl
one-or-other (suc (suc (suc n))) m ρ b h e = refl

module _ (S : Scene) (c : ℕ) where
  settled-mass : cond (not (converted S c)) (gathered_mass S c) (cond (filled S c) (streamed_density S c) (pos 0)) ≡ new_mass S c
  unfolding gathered_mass moved_mass new_mass base_mass new_flag filled emptied
  settled-mass =
      mass-cases (S.old.flag c) (over (traded_mass S c) (streamed_density S c)) (under (traded_mass S c) (streamed_density S c) && not (beside_filled S c)) (beside_filled S c) (beside_emptied S c)
      (traded_mass S c) (streamed_density S c) (received S c)

  settled-part : (k : ℕ) → (filled S c ≡ true → emptied S c ≡ false)
      → cond (not (converted S c)) (born_part S c k) (cond (filled S c) (born_part S c k) (pos 0)) ≡ new_part S c k
  unfolding born_part new_part filled emptied
  settled-part k h =
      part-cases (S.old.flag c) (over (traded_mass S c) (streamed_density S c)) (under (traded_mass S c) (streamed_density S c) && not (beside_filled S c)) _ (collided S c k) h

module _ {F : Field} {flags fills : List ℕ} {part : ℕ → ℕ → ℤ} {masses : List ℤ} {marks : List ℕ} (w : Midway F flags fills part masses marks) where
  abbrev S : Scene
  S = scene_in F

  -- ---- lengths
  pub flags-count : length flags ≡ F.cells
  flags-count = ap length w.flags-are ∙ length-tab F.cells _

  pub marks-count : length marks ≡ F.cells
  marks-count = ap length w.marks-are ∙ length-tab F.cells _

  pub masses-count : length masses ≡ F.cells
  masses-count = ap length w.masses-are ∙ length-tab F.cells _

  pub cell : {c : ℕ} → c < length flags → c < F.cells
  cell {c} h = subst (λ (n : ℕ). c < n) flags-count h

  -- ---- cells that convert and cells that take are inner
  pub around : (c : ℕ) → Amid F.cells F.low c → c < F.cells → Around (length flags) F.off F.low c
  around c n h =
      subst (λ (m : ℕ). Around m F.off F.low c) (sym flags-count)
      (record {
        is-cell = h;
        from = n.from;
        each = λ i k. subst (λ (m : ℕ). m < F.cells) (sym (w.stands.place c i n k)) (w.stands.near-low c i n k);
        self = w.stands.place c 0 n (omega arith) ∙ w.stands.self c;
      })

  pub giver-inner : (c : ℕ) → c < F.cells → (get_or marks c 0 ≡ 0 → ⊥) → Amid F.cells F.low c
  giver-inner c h m = inner-cell F w.stands c h (λ f. omega (arith, converted-interface w c (marked-converted w c h m)))

  pub taker-cell : (c : ℕ) → c < F.cells → get_or flags c 0 ≡ 1 → Amid F.cells F.low c
  taker-cell c h f = inner-cell F w.stands c h (taker-inner w c (sym (flag_is w c h) ∙ f))

  -- ---- a marked cell's amounts
  module _ (c : ℕ) (h : c < F.cells) (m : get_or marks c 0 ≡ 0 → ⊥) where
    t : converted S c ≡ true
    t = marked-converted w c h m

    wet : liquid (get_or F.flags c 3) ≡ true
    wet = ap liquid (converted-interface w c t)

    part-kept : (k : ℕ) → k ≤ 18 → part c k ≡ collided S c k
    part-kept k l = part-is w c k h l ∙ born-is w c h t k

    parts-of : {Room : ℕ → Type 0} → Room c → Parts Room part c
    parts-of room = record {
      there = room;
      rest = subst (λ (z : ℤ). Within z 1073741824) (sym (part-kept 0 (omega arith)))
          (collided-rest F w.stands w.steady c h wet);
      at = λ k z l. subst (λ (x : ℤ). Within x 33554432) (sym (part-kept k (omega arith))) (collided-at F w.stands w.steady c h wet k z l);
    }

    weighed-of : {Room : ℕ → Type 0} → Room c → Weighed Room part masses c
    weighed-of room = record {
      there = omega (arith, masses-count);
      parts_in = parts-of room;
      mass-in = subst (λ (z : ℤ). Within z 44826624) (sym (mass-is w c h)) (moved-mass-in F w.stands w.steady c h);
      density-in = subst (λ (z : ℤ). Within z 1179648) (sym (density-is w c h t)) (streamed-density-in F w.stands w.steady c h wet);
    }

  fills_of : Filled fills
  fills_of j = go (dec_lt j F.cells)
    where
      same : get_or fills j 0 ≡ get_or F.fills j 0
      same = ap (λ (l : List ℕ). get_or l j 0) w.fills-are

      go : Dec (j < F.cells) → get_or fills j 0 ≤ 65536
      go (yes h) = omega (arith, same, w.stands.fill j h)
      go (no n) = omega (arith, same, get_d_past F.fills j 0 (omega (arith, w.stands.fills-count)))

  -- ---- what the passes ask
  -- there and back again
  pub returning : (c i : ℕ) → c < F.cells → get_or flags c 0 ≡ 1 → Dir 18 i → (get_or marks (c - F.low + get_or F.off i 0) 0 ≡ 0 → ⊥)
      → c - F.low + get_or F.off i 0 - F.low + get_or F.off (d3q19.opp i) 0 ≡ c
  returning c i h f d m =
      let l : i < 19 = omega (arith, d.most) in
      let p = w.stands.place c i (taker-cell c h f) l in
      let b = F.grid.near c i in
      let n : Amid F.cells F.low b = giver-inner b (w.stands.near-low c i (taker-cell c h f) l) (λ e. m (ap (λ (j : ℕ). get_or marks j 0) p ∙ e)) in
      ap (λ (j : ℕ). j - F.low + get_or F.off (d3q19.opp i) 0) p
      ∙ w.stands.place b (d3q19.opp i) n (opp-low i d)
      ∙ there_back w c i h (sym (flag_is w c h) ∙ f) d

  -- what the passes that gather, stray and settle ask; Room says that a list holds a cell's part
  module _ {Room : ℕ → Type 0} (room : (c : ℕ) → c < F.cells → Room c) where
    pub giving : Giving flags fills Room part masses marks F.off F.low
    giving = record {
      masses-there = masses-count ∙ sym flags-count;
      marks-there = marks-count ∙ sym flags-count;
      giver = λ c h m. record {
        around = around c (giver-inner c (cell h) m) (cell h);
        fills-there = ap length w.fills-are ∙ w.stands.fills-count ∙ sym flags-count;
        fills-in = fills_of;
        weighed = weighed-of c (cell h) m (room c (cell h));
      };
      taker = λ c h f. around c (taker-cell c (cell h) f) (cell h);
      apart = λ c h f. mark-is w c (cell h) ∙ taker-unmarked S c (sym (flag_is w c (cell h)) ∙ f);
      returns = λ c i h f d m. returning c i (cell h) f d m;
    }

    pub weighed : (c : ℕ) → c < length flags → (get_or marks c 0 ≡ 0 → ⊥) → Weighed Room part masses c
    weighed c h m = weighed-of c (cell h) m (room c (cell h))

    pub countable : (c : ℕ) → c < length marks → (get_or marks c 0 ≡ 0 → ⊥) → Parts Room part c
    countable c h m = let k = subst (λ (n : ℕ). c < n) marks-count h in parts-of c k m (room c k)

  -- ---- what pass 7 leaves
  pub mass-after : (masses' : List ℤ) → masses' ≡ tab F.cells (gathered_mass S) → (c : ℕ) → c < F.cells → settled_mass part masses' marks c ≡ new_mass S c
  unfolding settled_mass
  mass-after masses' e c h =
      (λ i. cond (none_is w c h i) (gathered i) (cond (filled_is w c h i) (density_at part c) (pos 0)))
      ∙ by (converted S c) refl ∙ settled-mass S c
    where
      gathered : get_or masses' c (pos 0) ≡ gathered_mass S c
      gathered = ap (λ (l : List ℤ). get_or l c (pos 0)) e ∙ get_or-tab F.cells (gathered_mass S) (pos 0) c h

      by : (b : Bool) → converted S c ≡ b
          → cond (not (converted S c)) (gathered_mass S c) (cond (filled S c) (density_at part c) (pos 0)) ≡ cond (not (converted S c)) (gathered_mass S c) (cond (filled S c) (streamed_density S c) (pos 0))
      by true t = ap (λ (z : ℤ). cond (not (converted S c)) (gathered_mass S c) (cond (filled S c) z (pos 0))) (density-is w c h t)
      by false t = ap₂ (λ (x : Bool) (y : ℤ). cond (not x) (gathered_mass S c) y) t refl ∙ sym (ap (λ (x : Bool). cond (not x) (gathered_mass S c) (cond (filled S c) (streamed_density S c) (pos 0))) t)

  -- no cell is both filled and emptied: its density is positive
  one_way : (c : ℕ) → c < F.cells → filled S c ≡ true → emptied S c ≡ false
  unfolding filled emptied
  one_way c h e =
      one-or-other (get_or F.flags c 3) (traded_mass S c) (streamed_density S c) (not (beside_filled S c)) (λ f. dense-up (streamed_density S c) (new-dense F w.stands w.steady c h (ap liquid f))) e

  pub part-after : (c k : ℕ) → c < F.cells → k ≤ 18 → settled_part part marks c k ≡ new_part S c k
  unfolding settled_part
  part-after c k h l =
      (λ i. cond (none_is w c h i) (part-is w c k h l i) (cond (filled_is w c h i) (part-is w c k h l i) (pos 0)))
      ∙ settled-part S c k (one_way c h)

-- ---- in the box's list
pub record Listed (s : Sides) (g : Settings) (a : Lent) (flags fills : List ℕ) (parts masses : List ℤ) (marks : List ℕ) : Type 0 where
  pub midway : Midway (field_of s g a) flags fills (part_of parts) masses marks
  pub sides : sides_good s ≡ true
  pub count : length parts ≡ 19 * cells_of s

module _ {s : Sides} {g : Settings} {a : Lent} {flags fills : List ℕ} {parts masses : List ℤ} {marks : List ℕ} (v : Listed s g a flags fills parts masses marks) where
  abbrev w : Midway (field_of s g a) flags fills (part_of parts) masses marks
  w = v.midway

  abbrev scene : Scene
  scene = scene_of s g a

  room : (c : ℕ) → c < cells_of s → RoomOf parts c
  room c h = omega (arith, v.count)

  pub gathering : Gathering s flags fills parts masses marks
  gathering = record {
    sides = v.sides;
    count = flags-count w;
    giving = giving w room;
    taken = λ c h f. subst (λ (z : ℤ). Within z 44826624) (sym (mass-is w c (cell w h))) (moved-mass-in (field_of s g a) w.stands w.steady c (cell w h));
  }

  pub straying : Straying s flags parts masses marks
  straying = record {
    sides = v.sides;
    count = flags-count w;
    marks-there = marks-count w ∙ sym (flags-count w);
    around = λ c h m. around w c (giver-inner w c (cell w h) m) (cell w h);
    weighed = weighed w room;
  }

  -- the gifts gathered, in the step's own scene
  pub gathered-box : tab (cells_of s) (gathered_at flags fills (part_of parts) masses marks (tab 19 (offset_of s)) (low_of s)) ≡ tab (cells_of s) (gathered_mass scene)
  unfolding scene_of state_of
  gathered-box = gathered-is w

  -- after the gifts are gathered
  pub settling : (masses' : List ℤ) → length masses' ≡ cells_of s → Settling parts masses' marks
  settling masses' e = record {
    few = subst (λ (n : ℕ). n ≤ 262144) (sym (marks-count w)) w.stands.few;
    parts-there = v.count ∙ ap (λ (n : ℕ). 19 * n) (sym (marks-count w));
    masses-there = e ∙ sym (marks-count w);
    each = countable w room;
  }

  parts-after : tab (19 * cells_of s) (λ m. settled_part (part_of parts) marks (m / 19) (m % 19)) ≡ tab (19 * cells_of s) (λ m. new_part scene (m / 19) (m % 19))
  unfolding scene_of state_of
  parts-after =
      tab-cong (19 * cells_of s) (λ m. settled_part (part_of parts) marks (m / 19) (m % 19)) (λ m. new_part scene (m / 19) (m % 19)) (pos 0)
      (λ m h. let r : m % 19 < 19 = mod-lt m (omega arith) in part-after w (m / 19) (m % 19) (omega (arith, div-add-mod m 19)) (omega arith))

  -- masses, parts and marks of the next state
  pub settled_is : {masses' parts'' masses'' : List ℤ} {marks'' : List ℕ} → masses' ≡ tab (cells_of s) (gathered_mass scene) → Settled parts masses' marks parts'' masses'' marks''
      → (parts'' ≡ tab (19 * cells_of s) (λ m. new_part scene (m / 19) (m % 19))) × (masses'' ≡ tab (cells_of s) (new_mass scene)) × (marks'' ≡ replicate (cells_of s) 0)
  unfolding scene_of state_of
  settled_is {masses'} e r = (
    r.parts_are ∙ ap (λ (n : ℕ). tab (19 * n) (λ m. settled_part (part_of parts) marks (m / 19) (m % 19))) (marks-count w) ∙ parts-after,
    r.masses-are ∙ ap (λ (n : ℕ). tab n (settled_mass (part_of parts) masses' marks)) (marks-count w) ∙ tab-cong (cells_of s) (settled_mass (part_of parts) masses' marks) (new_mass scene) (pos 0) (mass-after w masses' e),
    r.marks-are ∙ ap (λ (n : ℕ). replicate n 0) (marks-count w),
  )
