-- A set of cells that keep test 6's rules is read back from the record that it was written to, over any lattice and any counts: its flags, parts, masses
-- and fills. The one idea: each number is read where it was put, and a good state's numbers fit their bytes. Assumes nothing.
use mathlib.Core.Path.{◌≡◌, refl, sym, ap, ap₂, ◌∙◌, subst}
use mathlib.Core.Bool.{true}
use mathlib.Core.List.{List, [], ◌∷◌, ◌++◌}
use Prim.Native.Nat.{ℕ, suc, ◌+◌, ◌*◌, ◌/◌, ◌%◌, ◌≤◌, ◌<◌}
use native.Mathlib.Nat.{div-add-mod, mod-lt, div-lt_iff_lt-mul, mul_comm, mul-le-mul}
use native.Mathlib.Omega.{arith}
use lib.IntN.{ℤ, pos}
use lib.ListN.{length, get_or, length-append}
use Rattle.whole.specs.Fold.{tab}
use Rattle.whole.specs.laws.Tab.{upto_all}
use Rattle.lattice.specs.Lattice.{Lattice, density}
use Rattle.grid.specs.State.{Lent, State, state_of, lent_of, by_flag, flag_of}
use Rattle.grid.specs.Step.{fill_for}
use Rattle.grid.specs.Good.{cell_good}
use Rattle.grid.specs.Demands.{Same}
use Rattle.grid.proofs.Listed.{same-lent}
use Rattle.grid.proofs.Same.{density-same}
use Rattle.record.specs.declared.Counts.{Counts}
use Rattle.record.specs.Bytes.{part, Held}
use Rattle.record.specs.Places.{cells_from, masses_from, parts_from, length_of}
use Rattle.record.specs.Layout.{interfaces, liquids, cell_sections}
use Rattle.record.specs.Reading.{mass_read, part_read, parts_read, masses_read, state_read}
use Rattle.record.proofs.Gathered.{interfaces-most, liquids-most}
use Rattle.record.proofs.Assembled.{length-cells}
use Rattle.record.proofs.Standing.{count-five, flags-back, count-six, count-seven, mass-back, part-back, near, part-kinds, mass-kinds}
use Rattle.record.proofs.Rules.{part_small, mass-small, fill-so, dry-part}

-- w parts a cell, laid out by cell, are their table
pub laid_out : (w : ℕ) (f : ℕ → ℕ → ℤ) (l : List ℤ) (n : ℕ) → 0 < w → length l ≡ w * n → ((c j : ℕ) → c < n → j < w → get_or l (w * c + j) (pos 0) ≡ f c j) → l ≡ tab (w * n) (λ m. f (m / w) (m % w))
laid_out w f l n h e at = upto_all (pos 0) (λ m. f (m / w) (m % w)) l (w * n) e each
  where
    each : (m : ℕ) → m < w * n → get_or l m (pos 0) ≡ f (m / w) (m % w)
    each m k =
        ap (λ (i : ℕ). get_or l i (pos 0)) (sym (div-add-mod m w))
        ∙ at (m / w) (m % w) ((div-lt_iff_lt-mul h).1 (subst (λ (z : ℕ). m < z) (mul_comm w n) k)) (mod-lt m h)

module _ (L : Lattice) (x y z q k : ℕ) (lq : L.q ≡ q) where
  abbrev pub K : Counts
  K = record { sides = x; settings = y; origin = z; parts = suc q }

  module _ (hd : List ℕ) (hl : length hd ≡ cells_from K k) (n : ℕ) (a : Lent) (lf : length a.flags ≡ n)
      (good : (c : ℕ) → c < n → cell_good L (state_of q a) c ≡ true)
      (massed : (c : ℕ) → c < n → (state_of q a).mass c ≡ by_flag ((state_of q a).flag c) (pos 0) ((state_of q a).mass c) (density L ((state_of q a).part c)) (pos 0)) where
    abbrev S : State
    S = state_of q a

    abbrev r : List ℕ
    r = hd ++ cell_sections (suc q) n a.flags (state_of q a).mass (state_of q a).part

    abbrev F : ℕ → ℕ
    F = flag_of a.flags

    abbrev I : ℕ
    I = interfaces n (flag_of a.flags)

    abbrev M : ℕ
    M = suc q * liquids n (flag_of a.flags)

    pub flags-so : part n (cells_from K k + 4) r ≡ a.flags
    flags-so = flags-back K k hd hl n a.flags S.mass S.part lf

    pub part-so : (c j : ℕ) → c < n → j ≤ q → parts_read L K k n a.flags r c j ≡ S.part c j
    unfolding state_of
    part-so c j h l =
        let lj : j ≤ L.q = subst (λ (m : ℕ). j ≤ m) (sym lq) l in
        part-kinds (F c) (part_read K k n F r I c j) (S.part c j)
        (λ e. part-back K k hd hl n a.flags S.mass S.part lf c j h (omega arith) e (near 1179648 (part_small L n S c (good c h) e j lj) (omega arith)))
        (λ e. dry-part L n S c (good c h) e j lj)

    pub density-so : (c : ℕ) → c < n → density L (parts_read L K k n a.flags r c) ≡ density L (S.part c)
    density-so c h = density-same L (parts_read L K k n a.flags r c) (S.part c) (λ j l. part-so c j h (subst (λ (m : ℕ). j ≤ m) lq l))

    pub mass-so : (c : ℕ) → c < n → masses_read L K k n a.flags r c ≡ S.mass c
    unfolding state_of
    mass-so c h =
        ap (λ (ρ : ℤ). by_flag (F c) (pos 0) (mass_read K k n F r c) ρ (pos 0)) (density-so c h)
        ∙ mass-kinds (F c) (mass_read K k n F r c) (S.mass c) (density L (S.part c))
        (λ e. mass-back K k hd hl n a.flags S.mass S.part lf c h e (near 2359296 (mass-small L n S c (good c h) e) (omega arith)))
        ∙ sym (massed c h)

    pub fills-so : (c : ℕ) → c < n → fill_for (F c) (masses_read L K k n a.flags r c) (density L (parts_read L K k n a.flags r c)) ≡ S.fill c
    unfolding state_of
    fills-so c h = ap₂ (λ (m ρ : ℤ). fill_for (F c) m ρ) (mass-so c h) (density-so c h) ∙ sym (fill-so L n S c (good c h))

    -- the state read is the state
    pub same-so : {carry : ℤ} → carry ≡ S.carry → Same q n (state_read L K k n a.flags r carry) S
    unfolding state_of
    same-so e = record { flags = λ c h. refl; parts = λ c j h l. part-so c j h l; masses = mass-so; fills = fills-so; carries = e }

    -- and its lists are the set's
    pub lists-so : {carry : ℤ} → carry ≡ S.carry → length a.parts ≡ suc q * n → length a.masses ≡ n → length a.fills ≡ n → length a.carry ≡ 1
        → lent_of q n (state_read L K k n a.flags r carry) ≡ a
    unfolding lent_of state_of
    lists-so {carry} e lp lm ll lc =
        let flags = sym (upto_all 3 F a.flags n lf (λ c h. refl)) in
        let parts = sym (laid_out (suc q) (parts_read L K k n a.flags r) a.parts n (omega arith) lp (λ c j h l. sym (part-so c j h (omega arith)))) in
        let masses = sym (upto_all (pos 0) (masses_read L K k n a.flags r) a.masses n lm (λ c h. sym (mass-so c h))) in
        let fills = sym (upto_all 0 (state_read L K k n a.flags r carry).fill a.fills n ll (λ c h. sym (fills-so c h))) in
        same-lent flags parts masses fills (ap (λ (y : ℤ). y ∷ []) e ∙ one a.carry lc)
      where
        one : (l : List ℤ) → length l ≡ 1 → (get_or l 0 (pos 0) ∷ []) ≡ l
        one [] p = absurd (omega arith)
        one (v ∷ []) p = refl
        one (v ∷ u ∷ l) p = absurd (omega arith)

    -- ---- its sections are there
    module _ (few : n ≤ 262144) (qs : q ≤ 18) where
      pub long-so : length r ≡ length_of K k n I M
      long-so = length-append hd (cell_sections (suc q) n a.flags S.mass S.part) ∙ ap (λ (i : ℕ). i + length (cell_sections (suc q) n a.flags S.mass S.part)) hl ∙ length-cells K k n a.flags S.mass S.part lf

      pub held-flags : Held r (cells_from K k) n 1
      held-flags = record { count = count-five K k hd hl n a.flags S.mass S.part lf (omega arith); inside = omega (arith, long-so) }

      pub held-masses : Held r (masses_from K k n) I 4
      held-masses = record { count = count-six K k hd hl n a.flags S.mass S.part lf (omega (arith, interfaces-most n F)); inside = omega (arith, long-so) }

      pub held-parts : Held r (parts_from K k n I) M 4
      held-parts = record { count = count-seven K k hd hl n a.flags S.mass S.part lf small; inside = omega (arith, long-so) }
        where
          small : suc q * liquids n F < 4294967296
          small =
              let w : suc q ≤ 19 = omega arith in
              let l : liquids n F ≤ 262144 = omega (arith, liquids-most n F) in
              let m : suc q * liquids n F ≤ 19 * 262144 = mul-le-mul w l in
              omega arith
