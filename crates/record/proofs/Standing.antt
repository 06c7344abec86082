-- What stands where in a record over any counts: sections 5 to 7 are read where they were put, whatever stands before them; and numbers in their ranges
-- fit their bytes. The one idea: the record is its sections one after the other. Assumes nothing.
use mathlib.Core.Path.{◌≡◌, refl, sym, ap, ap₂, ◌∙◌}
use mathlib.Core.Bool.{Bool, true, false, ◌&&◌, false≢true}
use mathlib.Core.List.{List, [], ◌∷◌, ◌++◌, append_assoc, append-nil}
use mathlib.Core.Logic.{◌⊎◌, inl, inr}
use Prim.Native.Nat.{ℕ, zero, suc, ◌+◌, ◌*◌, ◌≤◌, ◌<◌}
use native.Mathlib.Nat.{eq-or-lt_of_le, le_of_suc-le-suc, not-suc-le-zero}
use native.Mathlib.Omega.{arith}
use lib.Dec.{leb}
use lib.IntN.{ℤ, pos, negsuc, nat_abs}
use lib.Signed.{le_z}
use lib.ListN.{length, take, length-append}
use lib.Seq.{take_at, drop_at}
use borrow.Author.Tests.{leb-true}
use mir.Syntax.{w32, w64}
use mir.Val.{SFits, to_z, of_z}
use Rattle.whole.specs.laws.Bools.{and_left, and_right}
use Rattle.whole.specs.laws.Bounds.{fits-abs, abs-below}
use Rattle.whole.specs.laws.Machine.{Within}
use Rattle.whole.specs.laws.Order.{le_z-true}
use Rattle.lattice.specs.Cell.{coordinate_good}
use Rattle.lattice.proofs.Ranges.{between}
use Rattle.grid.specs.State.{by_flag, liquid, flag_of}
use Rattle.pumps.specs.Three.{total_good}
use Rattle.record.specs.declared.Counts.{Counts}
use Rattle.record.specs.Bytes.{value, part, u32_at, i32_at, u32_of, i32_of, join, gathered}
use Rattle.record.specs.Places.{cells_from, masses_from, parts_from}
use Rattle.record.specs.Layout.{section, interfaces, liquids, mass_bytes, cell_numbers, part_numbers, cell_sections}
use Rattle.record.proofs.Numbers.{value-bytes_of, back, length-bytes_of}
use Rattle.record.proofs.Gathered.{length-masses, length-parts, length_some}
use Rattle.record.proofs.Assembled.{length-section}

-- ---- what stands where
look : (p b q r : List ℕ) (at k : ℕ) → r ≡ p ++ (b ++ q) → length p ≡ at → length b ≡ k → part k at r ≡ b
look p b q r at k e l m =
    ap (part k at) e ∙ ap (take k) (drop_at p (b ++ q) at l) ∙ take_at b q k m

-- what a cell gave stands behind what the cells before it gave
record Split (whole before here : List ℕ) : Type 0 where
  rest : List ℕ
  is : whole ≡ before ++ (here ++ rest)

split : (n c : ℕ) (f : ℕ → List ℕ) (z : List ℕ) → c < n → Split (gathered n f ++ z) (gathered c f) (f c)
unfolding gathered
split zero c f z h = absurd (not-suc-le-zero h)
split (suc n) c f z h = go (eq-or-lt_of_le (le_of_suc-le-suc h)) (λ k. split n c f (f n ++ z) k)
  where
    go : (c ≡ n) ⊎ (c < n) → (c < n → Split (gathered n f ++ (f n ++ z)) (gathered c f) (f c)) → Split ((gathered n f ++ f n) ++ z) (gathered c f) (f c)
    go (inl e) r = record { rest = z; is = append_assoc (gathered n f) (f n) z ∙ ap (λ (k : ℕ). gathered k f ++ (f k ++ z)) (sym e) }
    go (inr k) r = let w = r k in record { rest = w.rest; is = append_assoc (gathered n f) (f n) z ∙ w.is }

-- ---- sections 5 to 7
module _ (K : Counts) (k : ℕ) (hd : List ℕ) (hl : length hd ≡ cells_from K k) (n : ℕ) (flags : List ℕ) (mass : ℕ → ℤ) (p : ℕ → ℕ → ℤ) (ln : length flags ≡ n) where
  abbrev w : ℕ
  w = K.parts

  abbrev F : ℕ → ℕ
  F = flag_of flags

  abbrev I : ℕ
  I = interfaces n (flag_of flags)

  abbrev L : ℕ
  L = liquids n (flag_of flags)

  abbrev five : List ℕ
  five = section n (flags ∷ [])

  abbrev six : List ℕ
  six = section I (mass_bytes n F mass ∷ [])

  abbrev seven : List ℕ
  seven = section (w * L) (part_numbers w n F p ∷ [])

  abbrev r : List ℕ
  r = hd ++ cell_sections w n flags mass p

  -- where each section begins, and its numbers
  to-six : length (hd ++ five) ≡ masses_from K k n
  to-six = length-append hd five ∙ omega (arith, hl, length-section n flags)

  to-seven : length ((hd ++ five) ++ six) ≡ parts_from K k n I
  to-seven = length-append (hd ++ five) six ∙ omega (arith, to-six, length-section I (mass_bytes n F mass), length-masses n F mass)

  behind-count : (q : List ℕ) (m at : ℕ) → length q ≡ at → length (q ++ u32_of m) ≡ at + 4
  behind-count q m at e = length-append q (u32_of m) ∙ ap₂ (λ (i j : ℕ). i + j) e (length-bytes_of 4 m)

  number : (q z : List ℕ) (m at : ℕ) → r ≡ q ++ (u32_of m ++ z) → length q ≡ at → m < 4294967296 → u32_at r at ≡ m
  number q z m at e l h = ap value (look q (u32_of m) z r at 4 e l (length-bytes_of 4 m)) ∙ value-bytes_of 4 m h

  pub count-five : n < 4294967296 → u32_at r (cells_from K k) ≡ n
  unfolding cell_sections join
  count-five h = number hd _ n (cells_from K k) (ap (λ (l : List ℕ). hd ++ l) (append_assoc (u32_of n) (flags ++ []) _)) hl h

  pub flags-back : part n (cells_from K k + 4) r ≡ flags
  unfolding cell_sections join
  flags-back = look (hd ++ u32_of n) flags (six ++ (seven ++ [])) r (cells_from K k + 4) n (simp (append_assoc, append-nil)) (behind-count hd n (cells_from K k) hl) ln

  pub count-six : I < 4294967296 → u32_at r (masses_from K k n) ≡ I
  unfolding cell_sections join
  count-six h =
      number (hd ++ five) _ I (masses_from K k n)
      (sym (append_assoc hd five _) ∙ ap (λ (l : List ℕ). (hd ++ five) ++ l) (append_assoc (u32_of I) (mass_bytes n F mass ++ []) _)) to-six h

  pub count-seven : w * L < 4294967296 → u32_at r (parts_from K k n I) ≡ w * L
  unfolding cell_sections join
  count-seven h = number ((hd ++ five) ++ six) ((part_numbers w n F p ++ []) ++ []) (w * L) (parts_from K k n I) (simp append_assoc) to-seven h

  pub mass-back : (c : ℕ) → c < n → F c ≡ 1 → SFits w32 (mass c) → i32_at r (masses_from K k n + 4 + 4 * interfaces c F) ≡ mass c
  unfolding cell_sections join mass_bytes
  mass-back c h one fits =
      let f : ℕ → List ℕ = λ a. by_flag (F a) [] (i32_of (mass a)) [] [] in
      let z = seven ++ [] in
      let u = split n c f z h in
      let here : f c ≡ i32_of (mass c) = ap (λ (q : ℕ). by_flag q [] (i32_of (mass c)) [] []) one in
      let front = (hd ++ five) ++ u32_of I in
      let is : r ≡ (front ++ gathered c f) ++ (f c ++ u.rest) =
      region f z ∙ ap (λ (l : List ℕ). front ++ l) u.is ∙ sym (append_assoc front (gathered c f) (f c ++ u.rest)) in
      let long : length (front ++ gathered c f) ≡ masses_from K k n + 4 + 4 * interfaces c F =
      length-append front (gathered c f) ∙ ap₂ (λ (i j : ℕ). i + j) (behind-count (hd ++ five) I (masses_from K k n) to-six) (length-masses c F mass) in
      ap (λ (l : List ℕ). to_z w32 (value l)) (look (front ++ gathered c f) (f c) u.rest r (masses_from K k n + 4 + 4 * interfaces c F) 4 is long (ap length here ∙ length-bytes_of 4 (of_z w32 (mass c))) ∙ here)
      ∙ back w32 4 (mass c) fits refl
    where
      region : (f : ℕ → List ℕ) (z : List ℕ) → hd ++ (five ++ ((u32_of I ++ (gathered n f ++ [])) ++ z)) ≡ ((hd ++ five) ++ u32_of I) ++ (gathered n f ++ z)
      region f z = simp (append_assoc, append-nil)

  pub part-back : (c j : ℕ) → c < n → j < w → liquid (F c) ≡ true → SFits w32 (p c j) → i32_at r (parts_from K k n I + 4 + 4 * (w * liquids c F + j)) ≡ p c j
  unfolding cell_sections join part_numbers cell_numbers
  part-back c j h l wet fits =
      let f : ℕ → List ℕ = λ a. by_flag (F a) [] (cell_numbers w (p a)) (cell_numbers w (p a)) [] in
      let e : ℕ → List ℕ = λ i. i32_of (p c i) in
      let u = split n c f [] h in
      let here : f c ≡ gathered w e = by-liquid-list (F c) (cell_numbers w (p c)) wet in
      let v = split w j e u.rest l in
      let front = ((hd ++ five) ++ six) ++ u32_of (w * L) in
      let is : r ≡ ((front ++ gathered c f) ++ gathered j e) ++ (e j ++ v.rest) =
      region f
      ∙ ap (λ (q : List ℕ). front ++ q) (u.is ∙ ap (λ (q : List ℕ). gathered c f ++ (q ++ u.rest)) here ∙ ap (λ (q : List ℕ). gathered c f ++ q) v.is)
      ∙ sym (append_assoc front (gathered c f) (gathered j e ++ (e j ++ v.rest)))
      ∙ sym (append_assoc (front ++ gathered c f) (gathered j e) (e j ++ v.rest)) in
      let long : length ((front ++ gathered c f) ++ gathered j e) ≡ parts_from K k n I + 4 + 4 * (w * liquids c F + j) =
      length-append (front ++ gathered c f) (gathered j e)
      ∙ omega (arith, length-append front (gathered c f), behind-count ((hd ++ five) ++ six) (w * L) (parts_from K k n I) to-seven, length-parts w c F p, length_some j (p c)) in
      ap (λ (q : List ℕ). to_z w32 (value q)) (look ((front ++ gathered c f) ++ gathered j e) (e j) v.rest r (parts_from K k n I + 4 + 4 * (w * liquids c F + j)) 4 is long (length-bytes_of 4 (of_z w32 (p c j))))
      ∙ back w32 4 (p c j) fits refl
    where
      by-liquid-list : (f : ℕ) (x : List ℕ) → liquid f ≡ true → by_flag f [] x x [] ≡ x
      by-liquid-list zero x q = absurd (false≢true q)
      by-liquid-list (suc zero) x q = refl
      by-liquid-list (suc (suc zero)) x q = refl
      by-liquid-list (suc (suc (suc f))) x q = absurd (false≢true q)

      region : (f : ℕ → List ℕ) → hd ++ (five ++ (six ++ ((u32_of (w * L) ++ (gathered n f ++ [])) ++ []))) ≡ (((hd ++ five) ++ six) ++ u32_of (w * L)) ++ (gathered n f ++ [])
      region f = simp (append_assoc, append-nil)

-- ---- numbers of a good grid fit their bytes
pub fits_word : {z : ℤ} → Within z 2147483647 → SFits w32 z
fits_word {z} w = fits-abs {w = w32} {z = z} (let h = w.abs in omega arith)

pub near : {z : ℤ} (k : ℕ) → Within z k → k ≤ 2147483647 → SFits w32 z
near {z} k w h = fits_word (record { abs = omega (arith, w.abs) })

pub fits-long : {z : ℤ} → nat_abs z ≤ 1000000000000000 → SFits w64 z
fits-long {z} h = fits-abs {w = w64} {z = z} (omega arith)

pub total-fits : (z : ℤ) → total_good z ≡ true → SFits w64 z
total-fits z e =
    fits-long (abs-below {k = 0} {z = z} (le_z-true (and_left (le_z (pos 0) z) (le_z z (pos 1000000000000000)) e)) (le_z-true (and_right (le_z (pos 0) z) (le_z z (pos 1000000000000000)) e)))

pub coordinate-fits : (x : ℤ) → coordinate_good x ≡ true → SFits w64 x
coordinate-fits x e =
    let l = le_z (negsuc 9999999999) x in
    let u = le_z x (pos 10000000000) in
    let b : leb (nat_abs x) 10000000000 ≡ true = sym (between 9999999999 x) ∙ ap₂ (λ (p q : Bool). p && q) (and_right l u e) (and_left l u e) in
    fits-long (let h = leb-true (nat_abs x) 10000000000 b in omega arith)

-- by kinds
pub part-kinds : (f : ℕ) (x z : ℤ) → (liquid f ≡ true → x ≡ z) → (liquid f ≡ false → z ≡ pos 0) → by_flag f (pos 0) x x (pos 0) ≡ z
part-kinds zero x z w d = sym (d refl)
part-kinds (suc zero) x z w d = w refl
part-kinds (suc (suc zero)) x z w d = w refl
part-kinds (suc (suc (suc f))) x z w d = sym (d refl)

pub mass-kinds : (f : ℕ) (x m ρ : ℤ) → (f ≡ 1 → x ≡ m) → by_flag f (pos 0) x ρ (pos 0) ≡ by_flag f (pos 0) m ρ (pos 0)
mass-kinds zero x m ρ e = refl
mass-kinds (suc zero) x m ρ e = e refl
mass-kinds (suc (suc zero)) x m ρ e = refl
mass-kinds (suc (suc (suc f))) x m ρ e = refl

pub dry-kinds : (f : ℕ) (d i l : Bool) → liquid f ≡ false → by_flag f d i l d ≡ true → d ≡ true
dry-kinds zero d i l e h = h
dry-kinds (suc zero) d i l e h = absurd (false≢true (sym e))
dry-kinds (suc (suc zero)) d i l e h = absurd (false≢true (sym e))
dry-kinds (suc (suc (suc f))) d i l e h = h
