-- The sections by cell number, and their lengths: 4I bytes of masses, 4wL of w parts a cell. The one idea: what is gathered up to a cell is as long as the
-- count of cells before it says, so that a cell's numbers stand where the count says.
-- Use: `length-masses n flag mass` is `length (mass_bytes n flag mass) ≡ 4 * interfaces n flag`. Assumes nothing.
use mathlib.Core.Path.{◌≡◌, refl, sym, ap, ap₂, ◌∙◌}
use mathlib.Core.Bool.{Bool, cond}
use mathlib.Core.List.{List, [], ◌∷◌, ◌++◌, append-nil}
use Prim.Native.Nat.{ℕ, zero, suc, ◌+◌, ◌*◌, ◌≤◌, ◌<◌}
use native.Mathlib.Nat.{le_of_lt}
use native.Mathlib.Numerals.{add-one}
use native.Mathlib.Omega.{arith}
use lib.IntN.{ℤ}
use lib.Dec.{eqb}
use borrow.Author.Tests.{ne_eqb}
use lib.ListN.{length, get_or, set, take, length-append}
use lib.Seq.{sets, take-suc, length-take-le}
use mir.Syntax.{w32}
use mir.Val.{of_z}
use Rattle.whole.specs.Fold.{count}
use Rattle.grid.specs.State.{by_flag, liquid, flag_of}
use Rattle.grid.proofs.Lists.{get_or-there}
use Rattle.record.specs.Bytes.{gathered, join, u32_of, i32_of}
use Rattle.record.specs.Layout.{section, interfaces, liquids, mass_bytes, cell_numbers, part_numbers}
use Rattle.record.proofs.Numbers.{length-bytes_of, sets_then, then-put}
use Rattle.whole.specs.laws.Counts.{count-le, count_most}

-- ---- counts

-- one cell more, as a loop over the flags counts it
count-more : (flags : List ℕ) (g : ℕ → Bool) (c : ℕ) → c < length flags
    → count c (λ a. g (flag_of flags a)) + cond (g (get_or flags c 0)) 1 0 ≡ count (c + 1) (λ a. g (flag_of flags a))
unfolding count
count-more flags g c h =
    ap (λ (f : ℕ). count c (λ a. g (flag_of flags a)) + cond (g f) 1 0) (get_or-there flags c 0 3 h)
    ∙ ap (λ (k : ℕ). count k (λ a. g (flag_of flags a))) (sym (add-one c))

pub interfaces-more : (flags : List ℕ) (c : ℕ) → c < length flags
    → interfaces c (flag_of flags) + cond (eqb (get_or flags c 0) 1) 1 0 ≡ interfaces (c + 1) (flag_of flags)
unfolding interfaces
interfaces-more flags c h = count-more flags (λ f. eqb f 1) c h

pub liquids-more : (flags : List ℕ) (c : ℕ) → c < length flags
    → liquids c (flag_of flags) + cond (liquid (get_or flags c 0)) 1 0 ≡ liquids (c + 1) (flag_of flags)
unfolding liquids
liquids-more flags c h = count-more flags (λ f. liquid f) c h

pub interfaces-most : (n : ℕ) (flag : ℕ → ℕ) → interfaces n flag ≤ n
unfolding interfaces
interfaces-most n flag = count_most n (λ c. eqb (flag c) 1)

pub liquids-most : (n : ℕ) (flag : ℕ → ℕ) → liquids n flag ≤ n
unfolding liquids
liquids-most n flag = count_most n (λ c. liquid (flag c))

pub interfaces-le : (m n : ℕ) (flag : ℕ → ℕ) → m ≤ n → interfaces m flag ≤ interfaces n flag
unfolding interfaces
interfaces-le m n flag h = count-le (λ c. eqb (flag c) 1) m n h

pub liquids-le : (m n : ℕ) (flag : ℕ → ℕ) → m ≤ n → liquids m flag ≤ liquids n flag
unfolding liquids
liquids-le m n flag h = count-le (λ c. liquid (flag c)) m n h

-- ---- lengths
pub length-gathered : (k n : ℕ) (f : ℕ → List ℕ) (g : ℕ → Bool) → ((c : ℕ) → length (f c) ≡ k * cond (g c) 1 0) → length (gathered n f) ≡ k * count n g
unfolding gathered count
length-gathered k zero f g h = omega arith
length-gathered k (suc n) f g h = length-append (gathered n f) (f n) ∙ omega (arith, length-gathered k n f g h, h n)

length-mass : (f : ℕ) (z : ℤ) → length (by_flag f [] (i32_of z) [] []) ≡ 4 * cond (eqb f 1) 1 0
length-mass zero z = refl
length-mass (suc zero) z = length-bytes_of 4 (of_z w32 z)
length-mass (suc (suc zero)) z = refl
length-mass (suc (suc (suc f))) z = sym (ap (λ (b : Bool). 4 * cond b 1 0) (ne_eqb (suc (suc (suc f))) 1 (λ e. omega arith)))

pub length-masses : (n : ℕ) (flag : ℕ → ℕ) (mass : ℕ → ℤ) → length (mass_bytes n flag mass) ≡ 4 * interfaces n flag
unfolding mass_bytes interfaces
length-masses n flag mass =
    length-gathered 4 n (λ c. by_flag (flag c) [] (i32_of (mass c)) [] []) (λ c. eqb (flag c) 1) (λ c. length-mass (flag c) (mass c))

pub length_some : (n : ℕ) (part : ℕ → ℤ) → length (gathered n (λ k. i32_of (part k))) ≡ 4 * n
unfolding gathered
length_some zero part = refl
length_some (suc n) part =
    length-append (gathered n (λ k. i32_of (part k))) (i32_of (part n)) ∙ omega (arith, length_some n part, length-bytes_of 4 (of_z w32 (part n)))

pub length-cell : (w : ℕ) (part : ℕ → ℤ) → length (cell_numbers w part) ≡ 4 * w
unfolding cell_numbers
length-cell w part = length_some w part

length-liquid : (w f : ℕ) (part : ℕ → ℤ) → length (by_flag f [] (cell_numbers w part) (cell_numbers w part) []) ≡ 4 * w * cond (liquid f) 1 0
length-liquid w zero part = omega arith
length-liquid w (suc zero) part = length-cell w part ∙ omega arith
length-liquid w (suc (suc zero)) part = length-cell w part ∙ omega arith
length-liquid w (suc (suc (suc f))) part = omega arith

pub length-parts : (w n : ℕ) (flag : ℕ → ℕ) (part : ℕ → ℕ → ℤ) → length (part_numbers w n flag part) ≡ 4 * w * liquids n flag
unfolding part_numbers liquids
length-parts w n flag part =
    length-gathered (4 * w) n (λ c. by_flag (flag c) [] (cell_numbers w (part c)) (cell_numbers w (part c)) []) (λ c. liquid (flag c))
    (λ c. length-liquid w (flag c) (part c))

-- ---- what a writer's turn does: the numbers of one cell more, at the place that the count says
gather-turn : (l room : List ℕ) (from at n : ℕ) (f : ℕ → List ℕ) (x : List ℕ) → room ≡ sets l from (gathered n f) → from + length (gathered n f) ≡ at → x ≡ f n
    → sets room at x ≡ sets l from (gathered (n + 1) f)
unfolding gathered
gather-turn l room from at n f x r e g =
    ap₂ (λ (o b : List ℕ). sets o at b) r g
    ∙ sets_then l from at (gathered n f) (f n) e
    ∙ ap (λ (k : ℕ). sets l from (gathered k f)) (sym (add-one n))

pub mass-turn : (l room flags : List ℕ) (mass : ℕ → ℤ) (from at c : ℕ) → c < length flags → at ≡ from + 4 * interfaces c (flag_of flags)
    → room ≡ sets l from (mass_bytes c (flag_of flags) mass)
    → sets room at (by_flag (get_or flags c 0) [] (i32_of (mass c)) [] []) ≡ sets l from (mass_bytes (c + 1) (flag_of flags) mass)
unfolding mass_bytes
mass-turn l room flags mass from at c h e r =
    gather-turn l room from at c (λ a. by_flag (flag_of flags a) [] (i32_of (mass a)) [] []) (by_flag (get_or flags c 0) [] (i32_of (mass c)) [] []) r
    (omega (arith, length-masses c (flag_of flags) mass))
    (ap (λ (f : ℕ). by_flag f [] (i32_of (mass c)) [] []) (get_or-there flags c 0 3 h))

pub cell-turn : (l room : List ℕ) (part : ℕ → ℤ) (at k : ℕ) → room ≡ sets l at (gathered k (λ j. i32_of (part j)))
    → sets room (at + 4 * k) (i32_of (part k)) ≡ sets l at (gathered (k + 1) (λ j. i32_of (part j)))
cell-turn l room part at k r =
    gather-turn l room at (at + 4 * k) k (λ j. i32_of (part j)) (i32_of (part k)) r (ap (λ (m : ℕ). at + m) (length_some k part)) refl

pub part-turn : (w : ℕ) (l room flags : List ℕ) (part : ℕ → ℕ → ℤ) (from at c : ℕ) → c < length flags → at ≡ from + 4 * w * liquids c (flag_of flags)
    → room ≡ sets l from (part_numbers w c (flag_of flags) part)
    → sets room at (by_flag (get_or flags c 0) [] (cell_numbers w (part c)) (cell_numbers w (part c)) []) ≡ sets l from (part_numbers w (c + 1) (flag_of flags) part)
unfolding part_numbers
part-turn w l room flags part from at c h e r =
    gather-turn l room from at c (λ a. by_flag (flag_of flags a) [] (cell_numbers w (part a)) (cell_numbers w (part a)) [])
    (by_flag (get_or flags c 0) [] (cell_numbers w (part c)) (cell_numbers w (part c)) []) r
    (ap (λ (k : ℕ). from + k) (length-parts w c (flag_of flags) part) ∙ sym e)
    (ap (λ (f : ℕ). by_flag f [] (cell_numbers w (part c)) (cell_numbers w (part c)) []) (get_or-there flags c 0 3 h))

-- the same where the numbers are bytes
pub copy-turn : (l bs : List ℕ) (at c : ℕ) → c < length bs → set (sets l at (take c bs)) (at + c) (get_or bs c 0) ≡ sets l at (take (c + 1) bs)
copy-turn l bs at c h =
    sets_then l at (at + c) (take c bs) (get_or bs c 0 ∷ []) (ap (λ (k : ℕ). at + k) (length-take-le c bs (le_of_lt h)))
    ∙ ap (sets l at) (sym (take-suc bs c 0 h) ∙ ap (λ (k : ℕ). take k bs) (sym (add-one c)))

-- a section of one run: the count, and the run behind it
pub section-put : (l : List ℕ) (at n m : ℕ) (x : List ℕ) {r q : List ℕ} → r ≡ sets l at (u32_of m) → m ≡ n → q ≡ sets r (at + 4) x → q ≡ sets l at (section n (x ∷ []))
unfolding join
section-put l at n m x {r} e k f =
    then-put l at (at + 4) (u32_of n) x (e ∙ ap (λ (i : ℕ). sets l at (u32_of i)) k) f (ap (λ (i : ℕ). at + i) (length-bytes_of 4 n))
    ∙ ap (λ (y : List ℕ). sets l at (u32_of n ++ y)) (sym (append-nil x))
