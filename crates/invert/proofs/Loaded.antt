-- What the reader accepts, loading accepts: every flag is 0 or 3, outer cells are 3, and all else is 0. Assumes nothing.
use mathlib.Core.Path.{◌≡◌, refl, sym, ap, ◌∙◌, subst}
use mathlib.Core.Logic.{◌⊎◌, inl, inr, ⊎_elim}
use mathlib.Core.Bool.{Bool, true, false, ◌&&◌, ◌||◌, not, cond}
use mathlib.Core.List.{List}
use Prim.Native.Nat.{ℕ, zero, suc, ◌+◌, ◌*◌, ◌/◌, ◌%◌, ◌^◌, ◌≤◌, ◌<◌}
use native.Mathlib.Nat.{le_of_eq}
use native.Mathlib.Omega.{arith}
use borrow.Author.Tests.{eq-eqb}
use lib.Dec.{eqb, ltb}
use lib.IntN.{ℤ, pos}
use lib.ListN.{length, get_or, replicate, length-replicate, get_or-eq_default}
use Rattle.whole.specs.laws.Bools.{and-true}
use Rattle.whole.specs.laws.Order.{≤-or}
use Rattle.whole.specs.Fold.{total, all, count, tab}
use Rattle.whole.specs.laws.Search.{first-all}
use Rattle.whole.specs.laws.Tab.{length-tab, get_or-tab}
use Rattle.lattice.specs.Lattice.{Lattice, density, d3q19}
use Rattle.lattice.specs.Cell.{carry_good}
use Rattle.lattice.specs.Body.{eq_z}
use Rattle.grid.specs.declared.Sides.{Sides}
use Rattle.grid.specs.Answer.{Answer}
use Rattle.grid.specs.Answer.{Done}
use Rattle.grid.specs.Grid.{cells_of, sides_good, grid_of, box}
use Rattle.grid.specs.State.{State, Lent, state_of, liquid, by_flag}
use Rattle.grid.specs.Step.{fill_for}
use Rattle.grid.specs.Good.{dry_good, interface_good, fluid_good, fill_good, cell_good, bad_rule}
use Rattle.grid.specs.Outcome.{or_refuse, good_answer}
use Rattle.grid.proofs.Accepted.{pass-good}
use Rattle.pumps.specs.Three.{number_in, totals_good, three_lengths, three_good, three_answer}
use Rattle.index.specs.Index.{Index, words_of, interface, word_of, surface_cells, index_sized, index_true}
use Rattle.index.specs.Outcome.{true_answer, load_answer}
use Rattle.numerals.specs.Text.{from_line}
use Rattle.solids.specs.Invert.{value_at, solid_at, invert_flag, invert_flags}
use Rattle.invert.specs.Outcome.{count_of, read_head, lengths_of, dry, dry_index, set_by}
use Rattle.invert.specs.Demands.{Loads, Loadable}
use Rattle.invert.proofs.Tested.{head-taken}
use Rattle.invert.proofs.Filled.{set-made, index-made}
use Rattle.grid.specs.declared.refusals.Refusal.TheVariants.{BadIndex, BadState}

-- ---- zeros
abbrev noughts : ℕ → List ℕ
noughts n = replicate n 0

zero-at : (n c : ℕ) → ◌≡◌ {A = ℕ} (get_or (noughts n) c 0) 0
zero-at zero c = refl
zero-at (suc n) zero = refl
zero-at (suc n) (suc c) = zero-at n c

zero-at_z : (n c : ℕ) → get_or (replicate n (pos 0)) c (pos 0) ≡ pos 0
zero-at_z zero c = refl
zero-at_z (suc n) zero = refl
zero-at_z (suc n) (suc c) = zero-at_z n c

all_so : (n : ℕ) (f : ℕ → Bool) → ((a : ℕ) → f a ≡ true) → all n f ≡ true
unfolding all
all_so zero f h = refl
all_so (suc n) f h = and-true (all n f) (f n) (all_so n f h) (h n)

total-none : (n : ℕ) (f : ℕ → ℕ) → ((a : ℕ) → f a ≡ 0) → total n f ≡ 0
unfolding total
total-none zero f h = refl
total-none (suc n) f h = omega (arith, total-none n f h, h n)

count_none : (n : ℕ) (f : ℕ → Bool) → ((a : ℕ) → f a ≡ false) → count n f ≡ 0
unfolding count
count_none zero f h = refl
count_none (suc n) f h = omega (arith, count_none n f h, ap {B = ℕ} (λ (b : Bool). cond b 1 0) (h n))

-- ---- a flag is empty or wall
abbrev Still : ℕ → Type 0
Still f = (f ≡ 0) ⊎ (f ≡ 3)

by-still : (P : ℕ → Type 0) {f : ℕ} → Still f → P 0 → P 3 → P f
by-still P s p q = ⊎_elim (λ e. subst P (sym e) p) (λ e. subst P (sym e) q) s

cond-still : (b : Bool) → Still (cond b 3 0)
cond-still true = inr refl
cond-still false = inl refl

module _ (s : Sides) (edge : ℕ) (t : List ℕ) where
  flag-in : (c : ℕ) → c < cells_of s → get_or (invert_flags s edge t) c 3 ≡ invert_flag s edge t c
  unfolding invert_flags
  flag-in c h = get_or-tab (cells_of s) (invert_flag s edge t) 3 c h

  one-still : (c : ℕ) → Still (invert_flag s edge t c)
  unfolding invert_flag
  one-still c = cond-still ((grid_of s).outer c || solid_at (value_at t s.ny (c % s.nx) (c / s.nx % s.ny)) edge (c / (s.nx * s.ny)))

  still : (c : ℕ) → Still (get_or (invert_flags s edge t) c 3)
  unfolding invert_flags
  still c =
      ⊎_elim (λ h. inr (get_or-eq_default (invert_flags s edge t) 3 (omega (arith, length-tab (cells_of s) (invert_flag s edge t), h))))
      (λ h. subst Still (sym (flag-in c h)) (one-still c)) (≤-or (cells_of s) c)

  outer-wall : (c : ℕ) → (grid_of s).outer c ≡ true → invert_flag s edge t c ≡ 3
  unfolding invert_flag
  outer-wall c o = ap (λ (b : Bool). cond (b || solid_at (value_at t s.ny (c % s.nx) (c / s.nx % s.ny)) edge (c / (s.nx * s.ny))) 3 0) o

-- ---- a dry cell is good
dry-cell : (L : Lattice) (u : State) (c : ℕ) → Still (u.flag c) → u.mass c ≡ pos 0 → ((k : ℕ) → u.part c k ≡ pos 0) → u.fill c ≡ 0 → cell_good L u c ≡ true
unfolding cell_good dry_good fill_good fill_for
dry-cell L u c f m p i =
    let dry : dry_good L u c ≡ true = and-true (eq_z (u.mass c) (pos 0)) (all (suc L.q) (λ k. eq_z (u.part c k) (pos 0))) (ap (λ (z : ℤ). eq_z z (pos 0)) m) (all_so (suc L.q) (λ k. eq_z (u.part c k) (pos 0)) (λ k. ap (λ (z : ℤ). eq_z z (pos 0)) (p k))) in
    let good : (dry_good L u c && eqb (u.fill c) 0) ≡ true = and-true (dry_good L u c) (eqb (u.fill c) 0) dry (eq-eqb (u.fill c) 0 i) in
    by-still (λ g. (by_flag g (dry_good L u c) (interface_good L u c) (fluid_good L u c) (dry_good L u c) && eqb (u.fill c) (fill_for g (u.mass c) (density L (u.part c)))) ≡ true) f good good

-- ---- the set and the index
module _ (s : Sides) (g : sides_good s ≡ true) (edge : ℕ) (t : List ℕ) where
  abbrev A : Lent
  A = dry (cells_of s) (invert_flags s edge t)

  rule : suc (cells_of s) ≤ bad_rule d3q19 (cells_of s) (state_of 18 A)
  unfolding bad_rule dry state_of
  rule = le_of_eq (sym (first-all (suc (cells_of s)) (λ c. cond (eqb c (cells_of s)) (not (carry_good (pos 0))) (not (cell_good d3q19 (state_of 18 A) c))) (λ c h. go c (eqb c (cells_of s)))))
    where
      go : (c : ℕ) (b : Bool) → cond b (not (carry_good (pos 0))) (not (cell_good d3q19 (state_of 18 A) c)) ≡ false
      go c true = refl
      go c false = ap not (dry-cell d3q19 (state_of 18 A) c (still s edge t c) (zero-at_z (cells_of s) c) (λ k. zero-at_z (19 * cells_of s) (19 * c + k)) (zero-at (cells_of s) c))

  good : (rest : Answer) → good_answer d3q19 (grid_of s) (state_of 18 A) rest ≡ rest
  unfolding dry state_of grid_of box cells_of
  good rest =
      pass-good d3q19 (grid_of s) (state_of 18 A) rest
      (λ c h. by-still (λ f. f < 4) (still s edge t c) (omega arith) (omega arith))
      (λ c h o. flag-in s edge t c h ∙ outer-wall s edge t c o)
      (λ c i h a b two nought. by-still (λ f. f ≡ 2 → ⊥) (still s edge t c) (λ e. omega arith) (λ e. omega arith) two)
      rule

  lengths : three_lengths (cells_of s) A ≡ true
  unfolding three_lengths dry invert_flags
  lengths =
      let k = cells_of s in
      let four = and-true (eqb (length (tab k (invert_flag s edge t))) k) (eqb (length (replicate (19 * k) (pos 0))) (19 * k)) (eq-eqb _ _ (length-tab k (invert_flag s edge t))) (eq-eqb _ _ (length-replicate (19 * k) (pos 0))) in
      let m = and-true _ (eqb (length (replicate k (pos 0))) k) four (eq-eqb _ _ (length-replicate k (pos 0))) in
      and-true _ (eqb (length (noughts k)) k) m (eq-eqb _ _ (length-replicate {A = ℕ} k 0))

  sized : index_sized (cells_of s) (dry_index (cells_of s)) ≡ true
  unfolding index_sized dry_index
  sized = and-true (eqb (length (noughts (words_of (cells_of s)))) (words_of (cells_of s))) true (eq-eqb _ _ (length-replicate {A = ℕ} (words_of (cells_of s)) 0)) refl

  no-interface : (c : ℕ) → interface (invert_flags s edge t) c ≡ false
  no-interface c = by-still (λ f. eqb f 1 ≡ false) (still s edge t c) refl refl

  word_none : (k : ℕ) → word_of (cells_of s) (invert_flags s edge t) k ≡ 0
  unfolding word_of
  word_none k =
      total-none 64 (λ b. cond (ltb (64 * k + b) (cells_of s) && interface (invert_flags s edge t) (64 * k + b)) (2 ^ b) 0)
      (λ b. ap (λ (v : Bool). cond (ltb (64 * k + b) (cells_of s) && v) (2 ^ b) 0) (no-interface (64 * k + b)) ∙ off (ltb (64 * k + b) (cells_of s)) (2 ^ b))
    where
      off : (v : Bool) (m : ℕ) → cond (v && false) m 0 ≡ 0
      off true m = refl
      off false m = refl

  true-index : index_true (cells_of s) (invert_flags s edge t) (dry_index (cells_of s)) ≡ true
  unfolding index_true dry_index surface_cells
  true-index =
      and-true (all (words_of (cells_of s)) (λ k. eqb (get_or (noughts (words_of (cells_of s))) k 0) (word_of (cells_of s) (invert_flags s edge t) k))) (eqb 0 (count (cells_of s) (interface (invert_flags s edge t))))
      (all_so (words_of (cells_of s)) (λ k. eqb (get_or (noughts (words_of (cells_of s))) k 0) (word_of (cells_of s) (invert_flags s edge t) k)) (λ k. eq-eqb _ _ (zero-at (words_of (cells_of s)) k ∙ sym (word_none k))))
      (eq-eqb _ _ (sym (count_none (cells_of s) (interface (invert_flags s edge t)) no-interface)))

  three : (rest : Answer) → three_good s A rest ≡ rest
  unfolding dry
  three rest = good (or_refuse (totals_good (number_in A 1) (number_in A 2)) (BadState (cells_of s)) rest)

  pub dry-loads : Loads s A (dry_index (cells_of s))
  unfolding three_answer load_answer true_answer dry
  dry-loads =
      record {
        checks = simp (g, lengths) (three Done);
        loads = simp (g, and-true (three_lengths (cells_of s) A) (index_sized (cells_of s) (dry_index (cells_of s))) lengths sized) (three (or_refuse (index_true (cells_of s) (invert_flags s edge t) (dry_index (cells_of s))) BadIndex Done) ∙ simp true-index);
        without-water = λ c. by-still (λ f. liquid f ≡ false) (still s edge t c) refl refl;
      }

-- ---- the demand
pub loadable : Loadable
loadable text nz oz g a x e =
    let h = read_head text nz oz g (lengths_of a x) in
    let k = head-taken text nz oz g (lengths_of a x) h refl e in
    subst (λ (y : Index). Loads h.sides (set_by h text a) y) (index-made h x e)
    (subst (λ (b : Lent). Loads h.sides b (dry_index (cells_of h.sides))) (set-made h text a e)
    (dry-loads h.sides k.sides (count_of h.site.edge) (from_line 6 text)))
