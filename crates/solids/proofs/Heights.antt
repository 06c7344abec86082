-- Heights and walls: the code's comparison, the walls of a column, of a row and of the layer. Assumes nothing.
use mathlib.Core.Path.{◌≡◌, refl, sym, ap, ap₂, ◌∙◌, subst}
use mathlib.Core.Bool.{Bool, true, false, not, ◌||◌}
use mathlib.Core.List.{List, [], ◌∷◌, ◌++◌, append_assoc}
use Prim.Native.Nat.{ℕ, zero, suc, ◌+◌, ◌-◌, ◌*◌, ◌≤◌, ◌<◌}
use native.Mathlib.Nat.{mul-le-mul}
use native.Mathlib.Omega.{arith}
use lib.IntN.{ℤ, pos, ◌*ℤ◌}
use lib.ListN.{length, take, drop, get_or, set, length-append, take-append-drop, drop_of_length-le}
use lib.Seq.{sets, get_or-drop, drop-drop, take_all, take-take, take_at, drop_at}
use lib.Signed.{quot_z, lt_z, nat_abs-le}
use mir.Syntax.{w64}
use mir.Val.{SFits}
use Rattle.whole.specs.laws.Bounds.{abs-mul, abs-quot, fits-abs}
use Rattle.whole.specs.Fold.{first_from}
use Rattle.whole.specs.laws.Search.{first-is, first-all}
use Rattle.numerals.specs.declared.text.Span.{Span}
use Rattle.numerals.specs.Text.{word, after_word, next_line}
use Rattle.numerals.specs.inner.Places.{Next}
use Rattle.numerals.specs.Number.{number_of}
use Rattle.heights.specs.Header.{is_no_data}
use Rattle.solids.specs.Invert.{or_zero, solid_at}
use Rattle.solids.specs.inner.Walls.{height_of, row_heights, layer_of}
use Rattle.record.proofs.Numbers.{sets_then}
use Rattle.record.proofs.Gathered.{copy-turn}
use Rattle.numerals.proofs.Words.{Found}
use Rattle.heights.proofs.Stores.{set-sets}

-- ---- one cell
pub centre-small : (edge z : ℕ) → edge ≤ 1000 → z ≤ 128 → (2 * z + 1) * edge ≤ 257000
centre-small edge z h g = let a : 2 * z + 1 ≤ 257 = omega arith in mul-le-mul a h

pub twice-fits : (z : ℤ) → SFits w64 z → SFits w64 (pos 2 *ℤ quot_z z (pos 1000))
twice-fits z f = fits-abs (omega (arith, abs-mul (pos 2) (quot_z z (pos 1000)), abs-quot z (pos 1000), nat_abs-le z f.sfits))

pub solid-none : (v : ℤ) (edge z : ℕ) → is_no_data v ≡ true → true ≡ solid_at v edge z
unfolding solid_at
solid-none v edge z e = ap (λ (b : Bool). b || lt_z (pos ((2 * z + 1) * edge)) (pos 2 *ℤ quot_z v (pos 1000))) (sym e)

pub solid-by : (v : ℤ) (edge z : ℕ) → is_no_data v ≡ false → lt_z (pos ((2 * z + 1) * edge)) (pos 2 *ℤ quot_z v (pos 1000)) ≡ solid_at v edge z
unfolding solid_at
solid-by v edge z e = ap (λ (b : Bool). b || lt_z (pos ((2 * z + 1) * edge)) (pos 2 *ℤ quot_z v (pos 1000))) (sym e)

-- ---- a column, from the lowest cell up
pub record Rising (v : ℤ) (edge nz z : ℕ) : Type 0 where
  pub few : z ≤ nz
  pub walls : (k : ℕ) → k < z → not (solid_at v edge k) ≡ false

pub rise-stop : {v : ℤ} {edge nz z : ℕ} → Rising v edge nz z → z < nz → solid_at v edge z ≡ false → z ≡ height_of edge nz v
unfolding height_of
rise-stop {v} {edge} {nz} {z} r h e = sym (first-is nz (λ k. not (solid_at v edge k)) z h r.walls (ap not e))

pub rise-end : {v : ℤ} {edge nz z : ℕ} → Rising v edge nz z → nz ≤ z → nz ≡ height_of edge nz v
unfolding height_of
rise-end {v} {edge} {nz} {z} r h = sym (first-all nz (λ k. not (solid_at v edge k)) (λ k l. r.walls k (omega arith)))

first-le : (n i : ℕ) (f : ℕ → Bool) → first_from n i f ≤ i + n
unfolding first_from
first-le zero i f = omega arith
first-le (suc n) i f = go (f i) (first-le n (suc i) f)
  where
    go : (b : Bool) → first_from n (suc i) f ≤ suc i + n → elim b [ true ↦ i | false ↦ first_from n (suc i) f ] ≤ i + suc n
    go true h = omega arith
    go false h = omega arith

pub height-le : (edge nz : ℕ) (v : ℤ) → height_of edge nz v ≤ nz
unfolding height_of
height-le edge nz v = omega (arith, first-le nz 0 (λ z. not (solid_at v edge z)))

-- ---- a row
pub length-row : (edge nz n : ℕ) (t : List ℕ) → length (row_heights edge nz n t) ≡ n
unfolding row_heights
length-row edge nz zero t = refl
length-row edge nz (suc n) t = ap suc (length-row edge nz n (after_word t))

pub record Laying (s : List ℕ) (at : ℕ) (before after : List ℕ) (base n edge nz p i : ℕ) : Type 0 where
  pub few : i ≤ n
  pub inside : p ≤ length s
  pub left : row_heights edge nz (n - i) (drop p s) ≡ drop i (row_heights edge nz n (drop at s))
  pub done : after ≡ sets before base (take i (row_heights edge nz n (drop at s)))

pub lay-more : {s : List ℕ} {at : ℕ} {before after : List ℕ} {base n edge nz p i k : ℕ} {w : Span} → Laying s at before after base n edge nz p i → i < n → Found s p w
    → k ≡ height_of edge nz (or_zero (number_of (take (w.to - w.from) (drop w.from s)))) → Laying s at before (set after (base + i) k) base n edge nz w.to (i + 1)
unfolding row_heights
lay-more {s} {at} {before} {after} {base} {n} {edge} {nz} {p} {i} {k} {w} r h f e =
    let R = row_heights edge nz n (drop at s) in
    let m : n - i ≡ suc (n - (i + 1)) = omega arith in
    let v : k ≡ height_of edge nz (or_zero (number_of (word (drop p s)))) = e ∙ ap (λ (b : List ℕ). height_of edge nz (or_zero (number_of b))) f.bytes in
    let c : height_of edge nz (or_zero (number_of (word (drop p s)))) ∷ row_heights edge nz (n - (i + 1)) (after_word (drop p s)) ≡ drop i R = sym (ap (λ (x : ℕ). row_heights edge nz x (drop p s)) m) ∙ r.left in
    let g : k ≡ get_or R i 0 = v ∙ ap (λ (l : List ℕ). get_or l 0 0) c ∙ get_or-drop i R 0 0 ∙ ap (λ (x : ℕ). get_or R x 0) (let z : i + 0 ≡ i = omega arith in z) in
    record {
      few = omega arith;
      inside = f.inside;
      left = ap (row_heights edge nz (n - (i + 1))) f.rest ∙ ap (λ (l : List ℕ). drop 1 l) c ∙ drop-drop 1 i R;
      done =
          ap₂ (λ (l : List ℕ) (x : ℕ). set l (base + i) x) r.done g
          ∙ copy-turn before R base i (omega (arith, length-row edge nz n (drop at s)));
    }

pub lay-end : {s : List ℕ} {at : ℕ} {before after : List ℕ} {base n edge nz p i : ℕ} → Laying s at before after base n edge nz p i → n ≤ i
    → after ≡ sets before base (row_heights edge nz n (drop at s))
lay-end {s} {at} {before} {after} {base} {n} {edge} {nz} {p} {i} r h =
    r.done ∙ ap (sets before base) (take_all i (row_heights edge nz n (drop at s)) (omega (arith, length-row edge nz n (drop at s))))

-- ---- the layer, from the highest row down
pub length-layer : (edge nz n m : ℕ) (t : List ℕ) → length (layer_of edge nz n m t) ≡ m * n
unfolding layer_of
length-layer edge nz n zero t = omega arith
length-layer edge nz n (suc m) t =
    length-append (layer_of edge nz n m (next_line t)) (row_heights edge nz n t)
    ∙ omega (arith, length-layer edge nz n m (next_line t), length-row edge nz n t)

-- two runs of stores, the second before the first
sets-swap : (l : List ℕ) (q p : ℕ) (D R : List ℕ) → p + length R ≤ q → sets (sets l q D) p R ≡ sets (sets l p R) q D
sets-swap l q p D [] h = refl
sets-swap l q p D (r ∷ R) h =
    ap (λ (x : List ℕ). sets x (suc p) R) (set-sets l q p r D (omega arith)) ∙ sets-swap (set l p r) q (suc p) D R (omega arith)

pub record Stacking (s : List ℕ) (at : ℕ) (before after : List ℕ) (n m edge nz p i : ℕ) : Type 0 where
  pub few : i ≤ m
  pub inside : p ≤ length s
  pub left : take (i * n) (layer_of edge nz n m (drop at s)) ≡ layer_of edge nz n i (drop p s)
  pub done : after ≡ sets before (i * n) (drop (i * n) (layer_of edge nz n m (drop at s)))

pub stack-begin : (s : List ℕ) (at : ℕ) (flags : List ℕ) (n m edge nz : ℕ) → at ≤ length s → Stacking s at flags flags n m edge nz at m
stack-begin s at flags n m edge nz h =
    let L = layer_of edge nz n m (drop at s) in
    let l = length-layer edge nz n m (drop at s) in
    record {
      few = omega arith;
      inside = h;
      left = take_all (m * n) L (omega (arith, l));
      done = sym (ap (sets flags (m * n)) (drop_of_length-le L {i = m * n} (omega (arith, l))));
    }

stack-one : {s : List ℕ} {at : ℕ} {before mid after : List ℕ} {n m edge nz p j q : ℕ} → Stacking s at before mid n m edge nz p (suc j)
    → after ≡ sets mid (j * n) (row_heights edge nz n (drop p s)) → Next s p q → Stacking s at before after n m edge nz q j
unfolding layer_of
stack-one {s} {at} {before} {mid} {after} {n} {m} {edge} {nz} {p} {j} {q} r e x =
    let L = layer_of edge nz n m (drop at s) in
    let A = layer_of edge nz n j (next_line (drop p s)) in
    let R = row_heights edge nz n (drop p s) in
    let D = drop (suc j * n) L in
    let a : length A ≡ j * n = length-layer edge nz n j (next_line (drop p s)) in
    let b : length R ≡ n = length-row edge nz n (drop p s) in
    let t : take (suc j * n) L ≡ A ++ R = r.left in
    let c : j * n ≤ suc j * n = omega arith in
    let w : L ≡ A ++ (R ++ D) = sym (take-append-drop (suc j * n) L) ∙ ap (λ (y : List ℕ). y ++ D) t ∙ append_assoc A R D in
    let d : drop (j * n) L ≡ R ++ D = ap (drop (j * n)) w ∙ drop_at A (R ++ D) (j * n) a in
    record {
      few = omega (arith, r.few);
      inside = x.inside;
      left = sym (take-take (j * n) (suc j * n) L c) ∙ ap (take (j * n)) t ∙ take_at A R (j * n) a ∙ ap (layer_of edge nz n j) (sym x.rest);
      done =
          e
          ∙ ap (λ (y : List ℕ). sets y (j * n) R) r.done
          ∙ sets-swap before (suc j * n) (j * n) D R (omega (arith, b))
          ∙ sets_then before (j * n) (suc j * n) R D (omega (arith, b))
          ∙ sym (ap (sets before (j * n)) d);
    }

pub stack-more : {s : List ℕ} {at : ℕ} {before mid after : List ℕ} {n m edge nz p q : ℕ} (i : ℕ) → 0 < i → Stacking s at before mid n m edge nz p i
    → after ≡ sets mid ((i - 1) * n) (row_heights edge nz n (drop p s)) → Next s p q → Stacking s at before after n m edge nz q (i - 1)
stack-more zero h r e x = absurd (omega arith)
stack-more {s} {at} {before} {mid} {after} {n} {m} {edge} {nz} {p} {q} (suc j) h r e x =
    let k : j ≡ suc j - 1 = omega arith in
    subst (λ (y : ℕ). Stacking s at before after n m edge nz q y) k
    (stack-one r (e ∙ ap (λ (y : ℕ). sets mid (y * n) (row_heights edge nz n (drop p s))) (sym k)) x)

pub stack-end : {s : List ℕ} {at : ℕ} {before after : List ℕ} {n m edge nz p : ℕ} (i : ℕ) → i ≤ 0 → Stacking s at before after n m edge nz p i
    → after ≡ sets before 0 (layer_of edge nz n m (drop at s))
stack-end {s} {at} {before} {after} {n} {m} {edge} {nz} zero h r =
    r.done ∙ ap (λ (y : ℕ). sets before y (drop y (layer_of edge nz n m (drop at s)))) (let e : 0 * n ≡ 0 = omega arith in e)
stack-end (suc j) h r = absurd (omega arith)
