-- Numbers as bytes, over any width: reading undoes writing and writing undoes reading, unsigned and in two's complement. `back` and `again` are the two
-- claims; the rest says what the code's single steps read and write.
-- Use: `back w32 4 z f refl` is `to_z w32 (value (bytes_of 4 (of_z w32 z))) ≡ z`, from `f : SFits w32 z`. Assumes nothing.
use mathlib.Core.Path.{◌≡◌, refl, sym, ap, ap₂, ◌∙◌, subst}
use mathlib.Core.List.{List, [], ◌∷◌, ◌++◌}
use Prim.Native.Nat.{ℕ, zero, suc, ◌+◌, ◌*◌, ◌/◌, ◌%◌, ◌^◌, ◌-◌, ◌≤◌, ◌<◌}
use native.Mathlib.Nat.{pow-succ', add-zero, zero-add, suc-add, mul_assoc, mul-add, add_assoc}
use native.Mathlib.Omega.{arith}
use lib.IntN.{ℤ}
use lib.ListN.{length, get_or, take, drop, set, length-drop}
use lib.Seq.{drop-cons, take-add, drop-drop, length-take-le, sets}
use lib.Signed.{mag}
use mir.Syntax.{Width}
use mir.Val.{bits, hbits, SFits, to_z, of_z}
use mir.ValLaws.{to_z-of_z, of_z-to_z, of_z_fits}
use Rattle.record.specs.Bytes.{value, bytes_of, part}

-- ---- the two undo each other
pub length-bytes_of : (k n : ℕ) → length (bytes_of k n) ≡ k
unfolding bytes_of
length-bytes_of zero n = refl
length-bytes_of (suc k) n = ap suc (length-bytes_of k (n / 256))

pub value-bytes_of : (k n : ℕ) → n < 256 ^ k → value (bytes_of k n) ≡ n
unfolding value bytes_of
value-bytes_of zero n h = omega arith
value-bytes_of (suc k) n h =
    let l : n / 256 < 256 ^ k = omega (arith, pow-succ' 256 k) in
    ap (λ (x : ℕ). n % 256 + 256 * x) (value-bytes_of k (n / 256) l) ∙ omega arith

-- each is below 256
abbrev pub Bytes : List ℕ → Type 0
Bytes bs = (i : ℕ) → get_or bs i 0 < 256

pub value-below : (bs : List ℕ) → Bytes bs → value bs < 256 ^ length bs
unfolding value
value-below [] h = omega arith
value-below (b ∷ bs) h = let l = value-below bs (λ i. h (suc i)) in omega (arith, h 0, pow-succ' 256 (length bs))

pub bytes_of-value : (bs : List ℕ) → Bytes bs → bytes_of (length bs) (value bs) ≡ bs
unfolding value bytes_of
bytes_of-value [] h = refl
bytes_of-value (b ∷ bs) h =
    let l : b < 256 = h 0 in
    let m : (b + 256 * value bs) % 256 ≡ b = omega arith in
    let d : (b + 256 * value bs) / 256 ≡ value bs = omega arith in
    ap₂ (λ (x : ℕ) (y : List ℕ). x ∷ y) m (ap (bytes_of (length bs)) d ∙ bytes_of-value bs (λ i. h (suc i)))

-- two's complement of k bytes: what is written is read back, and what was read is written again
pub back : (w : Width) (k : ℕ) (z : ℤ) → SFits w z → 2 ^ bits w ≡ 256 ^ k → to_z w (value (bytes_of k (of_z w z))) ≡ z
back w k z f e = ap (to_z w) (value-bytes_of k (of_z w z) (subst (λ (m : ℕ). of_z w z < m) e (of_z_fits w z f).fits)) ∙ to_z-of_z w z f

pub again : (w : Width) (k : ℕ) (bs : List ℕ) → length bs ≡ k → Bytes bs → 2 ^ bits w ≡ 256 ^ k → bytes_of k (of_z w (to_z w (value bs))) ≡ bs
again w k bs l h e =
    let f : value bs < 2 ^ bits w = subst (λ (m : ℕ). value bs < m) (ap (λ (m : ℕ). 256 ^ m) l ∙ sym e) (value-below bs h) in
    ap (bytes_of k) (of_z-to_z w (value bs) (record { fits = f })) ∙ ap (λ (m : ℕ). bytes_of m (value bs)) (sym l) ∙ bytes_of-value bs h

-- ---- more than one number
pub value-append : (a b : List ℕ) → value (a ++ b) ≡ value a + 256 ^ length a * value b
unfolding value
value-append [] b = omega arith
value-append (x ∷ a) b = ap (λ (n : ℕ). x + 256 * n) (value-append a b) ∙ simp (pow-succ', mul_assoc, mul-add, add_assoc)

pub sets-append : {A : Type 0} (l : List A) (i : ℕ) (a b : List A) → sets l i (a ++ b) ≡ sets (sets l i a) (i + length a) b
sets-append l i [] b = ap (λ (k : ℕ). sets l k b) (sym (add-zero i))
sets-append l i (x ∷ a) b =
    sets-append (set l i x) (suc i) a b
    ∙ ap (λ (k : ℕ). sets (sets (set l i x) (suc i) a) k b) (let e : suc i + length a ≡ i + suc (length a) = omega arith in e)

-- the same with the place given
pub sets_then : {A : Type 0} (l : List A) (i j : ℕ) (a b : List A) → i + length a ≡ j → sets (sets l i a) j b ≡ sets l i (a ++ b)
sets_then l i j a b e = ap (λ (k : ℕ). sets (sets l i a) k b) (sym e) ∙ sym (sets-append l i a b)

-- a second writing that begins where the first one ends
pub then-put : (l : List ℕ) (i j : ℕ) (a b : List ℕ) {r q : List ℕ} → r ≡ sets l i a → q ≡ sets r j b → i + length a ≡ j → q ≡ sets l i (a ++ b)
then-put l i j a b e f h = f ∙ ap (λ (o : List ℕ). sets o j b) e ∙ sets_then l i j a b h

-- the same of a signed number that passed a call: what the machine made of it is the number itself
pub then-signed : (k : ℕ) (v w : Width) (l : List ℕ) (i j : ℕ) (a : List ℕ) (z : ℤ) {r q : List ℕ} → r ≡ sets l i a
    → q ≡ sets r j (bytes_of k (of_z w (to_z v (of_z v z)))) → mag z < 2 ^ hbits v → i + length a ≡ j → q ≡ sets l i (a ++ bytes_of k (of_z w z))
then-signed k v w l i j a z {r} e f m h =
    then-put l i j a (bytes_of k (of_z w z)) e (f ∙ ap (λ (y : ℤ). sets r j (bytes_of k (of_z w y))) (to_z-of_z v z (record { sfits = m }))) h

-- ---- what the code reads: four bytes, and eight as twice four
one : (k i : ℕ) (s : List ℕ) → i < length s → part (suc k) i s ≡ get_or s i 0 ∷ part k (suc i) s
one k i s h = rw (drop-cons s i 0 h)

pub four : (i : ℕ) (s : List ℕ) → i + 4 ≤ length s
    → value (part 4 i s) ≡ get_or s i 0 + 256 * (get_or s (i + 1) 0 + 256 * (get_or s (i + 2) 0 + 256 * get_or s (i + 3) 0))
unfolding value
four i s h =
    let a : i + 1 ≡ suc i = omega arith in
    let b : i + 2 ≡ suc (suc i) = omega arith in
    let c : i + 3 ≡ suc (suc (suc i)) = omega arith in
    ap value
    (one 3 i s (omega arith)
    ∙ ap (◌∷◌ (get_or s i 0))
    (one 2 (suc i) s (omega arith)
    ∙ ap (◌∷◌ (get_or s (suc i) 0))
    (one 1 (suc (suc i)) s (omega arith) ∙ ap (◌∷◌ (get_or s (suc (suc i)) 0)) (one 0 (suc (suc (suc i))) s (omega arith)))))
    ∙ simp (a, b, c, add-zero)

pub eight : (i : ℕ) (s : List ℕ) → i + 8 ≤ length s → value (part 8 i s) ≡ value (part 4 i s) + 4294967296 * value (part 4 (i + 4) s)
eight i s h =
    let l : length (part 4 i s) ≡ 4 = length-take-le 4 (drop i s) (omega (arith, length-drop i s)) in
    ap value (take-add 4 4 (drop i s) ∙ ap (λ (r : List ℕ). part 4 i s ++ take 4 r) (drop-drop 4 i s))
    ∙ value-append (part 4 i s) (part 4 (i + 4) s)
    ∙ ap (λ (n : ℕ). value (part 4 i s) + 256 ^ n * value (part 4 (i + 4) s)) l

-- ---- what the code writes: eight bytes as twice four
bytes_of-append : (k m a b : ℕ) → a < 256 ^ k → bytes_of (k + m) (a + 256 ^ k * b) ≡ bytes_of k a ++ bytes_of m b
unfolding bytes_of
bytes_of-append zero m a b h = let e : a + 1 * b ≡ b = omega arith in rw (zero-add m) (ap (bytes_of m) e)
bytes_of-append (suc k) m a b h =
    let p : 256 ^ suc k * b ≡ 256 * (256 ^ k * b) = ap (λ (x : ℕ). x * b) (pow-succ' 256 k) ∙ mul_assoc 256 (256 ^ k) b in
    let q : a < 256 * 256 ^ k = subst (λ (x : ℕ). a < x) (pow-succ' 256 k) h in
    let l : (a + 256 ^ suc k * b) % 256 ≡ a % 256 = omega arith in
    let u : (a + 256 ^ suc k * b) / 256 ≡ a / 256 + 256 ^ k * b = omega arith in
    rw (suc-add k m)
    (ap₂ (λ (x : ℕ) (y : List ℕ). x ∷ y) l (ap (bytes_of (k + m)) u ∙ bytes_of-append k m (a / 256) b (omega arith)))

pub eight-of : (n : ℕ) → bytes_of 8 n ≡ bytes_of 4 (n % 4294967296) ++ bytes_of 4 (n / 4294967296)
eight-of n =
    let e : n ≡ n % 4294967296 + 4294967296 * (n / 4294967296) = omega arith in
    ap (bytes_of 8) e ∙ bytes_of-append 4 4 (n % 4294967296) (n / 4294967296) (omega arith)
