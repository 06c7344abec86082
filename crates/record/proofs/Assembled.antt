-- The length of a record is 108 + N + 4I + 76L, and sections written one after the other are the record; of sections 5 to 7 this is said over any
-- counts. Assumes nothing.
use mathlib.Core.Path.{◌≡◌, refl, sym, ap, ap₂, ◌∙◌}
use mathlib.Core.List.{List, [], ◌∷◌, ◌++◌, append_assoc, append-nil}
use Prim.Native.Nat.{ℕ, ◌+◌, ◌*◌, ◌≤◌}
use native.Mathlib.Omega.{arith}
use lib.IntN.{ℤ}
use lib.ListN.{length, drop, length-append}
use lib.Seq.{sets, sets-eq}
use Rattle.lattice.specs.declared.Settings.{Settings}
use Rattle.grid.specs.declared.Sides.{Sides}
use Rattle.grid.specs.Grid.{cells_of}
use Rattle.grid.specs.State.{Lent, state_of, flag_of}
use Rattle.pumps.specs.Three.{number_in}
use Rattle.record.specs.declared.Site.{Site}
use Rattle.record.specs.declared.Counts.{Counts}
use Rattle.record.specs.Bytes.{bytes_of, join, u32_of}
use Rattle.record.specs.Places.{past, counts, cells_from, length_of}
use Rattle.record.specs.Layout.{section, interfaces, liquids, mass_bytes, part_numbers, cell_sections, site_bytes, totals_bytes, head_bytes, cells_bytes, record_of, record_length}
use Rattle.record.proofs.Numbers.{length-bytes_of, then-put}
use Rattle.record.proofs.Gathered.{length-masses, length-parts}

-- the claim
abbrev pub Length : Type 0
Length = (s : Sides) (g : Settings) (t : Site) (a : Lent) → length a.flags ≡ cells_of s → length (record_of s g t a) ≡ record_length s a

-- ---- a section, and the three that go by cell number
pub length-section : (n : ℕ) (x : List ℕ) → length (section n (x ∷ [])) ≡ 4 + length x
unfolding join
length-section n x =
    length-append (u32_of n) (x ++ []) ∙ ap₂ (λ (i j : ℕ). i + j) (length-bytes_of 4 n) (ap length (append-nil x))

pub length-cells : (K : Counts) (k n : ℕ) (flags : List ℕ) (mass : ℕ → ℤ) (part : ℕ → ℕ → ℤ) → length flags ≡ n
    → cells_from K k + length (cell_sections K.parts n flags mass part) ≡ length_of K k n (interfaces n (flag_of flags)) (K.parts * liquids n (flag_of flags))
unfolding cell_sections join
length-cells K k n flags mass part e =
    let w = K.parts in
    let f = flag_of flags in
    let five = section n (flags ∷ []) in
    let six = section (interfaces n f) (mass_bytes n f mass ∷ []) in
    let seven = section (w * liquids n f) (part_numbers w n f part ∷ []) in
    omega (
      arith,
      length-append five (six ++ (seven ++ [])),
      length-append six (seven ++ []),
      length-append seven [],
      length-section n flags,
      length-section (interfaces n f) (mass_bytes n f mass),
      length-section (w * liquids n f) (part_numbers w n f part),
      length-masses n f mass,
      length-parts w n f part,
    )

pub length-head : (s : Sides) (g : Settings) (t : Site) (carry poured taken : ℤ) → length (head_bytes s g t carry poured taken) ≡ cells_from counts 3
unfolding head_bytes site_bytes totals_bytes join bytes_of
length-head s g t carry poured taken = refl

pub length-record : Length
unfolding record_of record_length state_of
length-record s g t a e =
    let h = state_of 18 a in
    length-append (head_bytes s g t (number_in a 0) (number_in a 1) (number_in a 2)) (cells_bytes (cells_of s) a.flags h.mass h.part)
    ∙ ap (λ (i : ℕ). i + length (cells_bytes (cells_of s) a.flags h.mass h.part)) (length-head s g t (number_in a 0) (number_in a 1) (number_in a 2))
    ∙ length-cells counts 3 (cells_of s) a.flags h.mass h.part e

-- ---- what the writer's calls leave, one after the other
pub cells-put : (from w : ℕ) (l flags : List ℕ) (mass : ℕ → ℤ) (part : ℕ → ℕ → ℤ) (n at : ℕ) {r q o : List ℕ} → length flags ≡ n
    → at ≡ past (from + 4 + n) 4 (interfaces n (flag_of flags))
    → r ≡ sets l from (section n (flags ∷ []))
    → q ≡ sets r (from + 4 + n) (section (interfaces n (flag_of flags)) (mass_bytes n (flag_of flags) mass ∷ []))
    → o ≡ sets q at (section (w * liquids n (flag_of flags)) (part_numbers w n (flag_of flags) part ∷ []))
    → o ≡ sets l from (cell_sections w n flags mass part)
unfolding cell_sections join
cells-put from w l flags mass part n at e h x y z =
    let f = flag_of flags in
    let five = section n (flags ∷ []) in
    let six = section (interfaces n f) (mass_bytes n f mass ∷ []) in
    let seven = section (w * liquids n f) (part_numbers w n f part ∷ []) in
    then-put l from at (five ++ six) seven
    (then-put l from (from + 4 + n) five six x y (omega (arith, length-section n flags)))
    z
    (omega (arith, length-append five six, length-section n flags, length-section (interfaces n f) (mass_bytes n f mass), length-masses n f mass))
    ∙ ap (sets l from) (append_assoc five six seven ∙ ap (λ (t : List ℕ). five ++ (six ++ t)) (sym (append-nil seven)))

-- written from the front, the record stands before what the room held past it
pub front-put : (l x : List ℕ) → length x ≤ length l → sets l 0 x ≡ x ++ drop (length x) l
front-put l x h =
    let z : 0 + length x ≡ length x = omega arith in
    sets-eq x l 0 (omega arith) ∙ ap (λ (k : ℕ). x ++ drop k l) z
