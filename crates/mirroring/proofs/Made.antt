-- The pass over all cells: what the second set holds after the first c cells, what one cell more adds, and that in the end it is the reflected set; over any
-- number of parts a cell. Assumes nothing.
use mathlib.Core.Path.{◌≡◌, refl, sym, ap, ◌∙◌, subst}
use mathlib.Core.List.{List, []}
use Prim.Native.Nat.{ℕ, suc, ◌+◌, ◌*◌, ◌/◌, ◌%◌, ◌≤◌, ◌<◌}
use native.Mathlib.Decide.{ℕ_discrete}
use native.Mathlib.Nat.{mul-le-mul_left, mul-suc, mul_comm, mod-lt, div-lt_iff_lt-mul, div-add-mod, zero-lt-suc}
use native.Mathlib.Omega.{arith}
use lib.Arith.{lt_of_le-ne}
use lib.IntN.{ℤ, pos}
use lib.ListN.{get_or, set, length-set}
use Rattle.whole.specs.laws.Tab.{Upto, upto-more, upto_all}
use Rattle.grid.specs.declared.Sides.{Sides}
use Rattle.grid.specs.Grid.{cells_of}
use Rattle.grid.specs.State.{Lent, lent, state_of, lent_of}
use Rattle.grid.proofs.Listed.{same-lent}
use Rattle.grid.proofs.Lists.{get_or-there}
use Rattle.mirror.specs.Mirror.{mirrored, mirrored_set}
use Rattle.mirroring.specs.Turned.{turned_set}
use Rattle.mirroring.specs.inner.Between.{cell_in, table_mirror, Celled, Fetched}
use Rattle.mirroring.proofs.Reflected.{cell-low}

-- ---- places among the parts of so many cells of w parts
pub part-inside : (w j k c : ℕ) → j < c → k < w → w * j + k < w * c
part-inside w j k c h l = let g : w * suc j ≤ w * c = mul-le-mul_left w h in omega (arith, mul-suc w j)

-- ---- the cells
module _ (s : Sides) (axis : ℕ) (dirs : List ℕ) (q : ℕ) (a : Lent) where
  abbrev flag_in : ℕ → ℕ
  flag_in c = get_or a.flags (cell_in s axis c) 3

  abbrev mass_in : ℕ → ℤ
  mass_in c = get_or a.masses (cell_in s axis c) (pos 0)

  abbrev fill_in : ℕ → ℕ
  fill_in c = get_or a.fills (cell_in s axis c) 0

  abbrev part_in : ℕ → ℕ → ℤ
  part_in c k = get_or a.parts (suc q * cell_in s axis c + get_or dirs k 0) (pos 0)

  -- the first c cells are made, and the lengths are those of n cells
  pub record Made (n : ℕ) (d : Lent) (c : ℕ) : Type 0 where
    pub sized : Celled q n d
    pub flags : Upto 0 flag_in d.flags c
    pub masses : Upto (pos 0) mass_in d.masses c
    pub fills : Upto 0 fill_in d.fills c
    pub parts : (j k : ℕ) → j < c → k < suc q → get_or d.parts (suc q * j + k) (pos 0) ≡ part_in j k

  -- what is fetched for cell c from its reflected cell m
  abbrev FetchedFor : ℕ → ℕ → ℕ → List ℤ → List ℤ → Type 0
  FetchedFor w c m old new = Fetched w (w * c) (λ k. get_or a.parts (w * m + get_or dirs k 0) (pos 0)) old new

  module _ (first : Celled q (cells_of s) a) where
    pub made_more : (d : Lent) (w c m f : ℕ) (x : ℤ) (y : ℕ) (p : List ℤ) → w ≡ suc q → c < cells_of s → m ≡ cell_in s axis c
        → f ≡ get_or a.flags m 0 → x ≡ get_or a.masses m (pos 0) → y ≡ get_or a.fills m 0 → FetchedFor w c m d.parts p → Made (cells_of s) d c
        → Made (cells_of s) (lent (set d.flags c f) p (set d.masses c x) (set d.fills c y) []) (c + 1)
    made_more d w c m f x y p ew h e ef ex ey t b =
        let z = b.sized in
        record {
          sized = record {
            flags = length-set d.flags c f ∙ z.flags;
            parts = t.size ∙ z.parts;
            masses = length-set d.masses c x ∙ z.masses;
            fills = length-set d.fills c y ∙ z.fills;
          };
          flags = upto-more 0 flag_in d.flags c f (omega (arith, z.flags)) b.flags (ef ∙ ap (λ (i : ℕ). get_or a.flags i 0) e ∙ get_or-there a.flags (cell_in s axis c) 0 3 (omega (arith, cell-low s axis c h, first.flags)));
          masses = upto-more (pos 0) mass_in d.masses c x (omega (arith, z.masses)) b.masses (ex ∙ ap (λ (i : ℕ). get_or a.masses i (pos 0)) e);
          fills = upto-more 0 fill_in d.fills c y (omega (arith, z.fills)) b.fills (ey ∙ ap (λ (i : ℕ). get_or a.fills i 0) e);
          parts = λ j k l i. go j k l i (ℕ_discrete j c);
        }
      where
        g : FetchedFor (suc q) c m d.parts p
        g = subst (λ (v : ℕ). FetchedFor v c m d.parts p) ew t

        go : (j k : ℕ) → j < c + 1 → k < suc q → Dec (j ≡ c) → get_or p (suc q * j + k) (pos 0) ≡ part_in j k
        go j k l i (yes o) =
            ap (λ (v : ℕ). get_or p (suc q * v + k) (pos 0)) o ∙ g.here k i
            ∙ ap (λ (v : ℕ). get_or a.parts (suc q * v + get_or dirs k 0) (pos 0)) e ∙ ap (λ (v : ℕ). part_in v k) (sym o)
        go j k l i (no o) =
            let r : j < c = lt_of_le-ne (omega arith) o in
            g.before (suc q * j + k) (part-inside (suc q) j k c r i) ∙ b.parts j k r i

  -- all of them
  pub made_all : (d : Lent) (c : ℕ) → c ≡ cells_of s → Made (cells_of s) d c
      → lent d.flags d.parts d.masses d.fills [] ≡ turned_set (table_mirror s axis dirs) q (cells_of s) (lent a.flags a.parts a.masses a.fills [])
  unfolding turned_set mirrored_set mirrored lent_of state_of
  made_all d c e b =
      let z = b.sized in
      let n = cells_of s in
      same-lent (upto_all 0 flag_in d.flags n z.flags (subst (λ (k : ℕ). Upto 0 flag_in d.flags k) e b.flags))
      (upto_all (pos 0) (λ m. part_in (m / suc q) (m % suc q)) d.parts (suc q * n) z.parts at)
      (upto_all (pos 0) mass_in d.masses n z.masses (subst (λ (k : ℕ). Upto (pos 0) mass_in d.masses k) e b.masses))
      (upto_all 0 fill_in d.fills n z.fills (subst (λ (k : ℕ). Upto 0 fill_in d.fills k) e b.fills))
      refl
    where
      at : (m : ℕ) → m < suc q * cells_of s → get_or d.parts m (pos 0) ≡ part_in (m / suc q) (m % suc q)
      at m h =
          ap (λ (i : ℕ). get_or d.parts i (pos 0)) (sym (div-add-mod m (suc q)))
          ∙ b.parts (m / suc q) (m % suc q) (subst (λ (k : ℕ). m / suc q < k) (sym e) ((div-lt_iff_lt-mul (zero-lt-suc q)).1 (subst (λ (k : ℕ). m < k) (mul_comm (suc q) (cells_of s)) h))) (mod-lt m (zero-lt-suc q))
