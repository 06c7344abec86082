-- The lent slices after the reader: as they were beside a refusal, the invert's walls and zeros beside an accepted text. Assumes nothing.
use mathlib.Core.Path.{◌≡◌, sym, ap, ap₂, ◌∙◌}
use mathlib.Core.Bool.{Bool, true, false}
use mathlib.Core.List.{List}
use Prim.Native.Nat.{ℕ}
use lib.IntN.{ℤ, pos}
use lib.ListN.{length, drop, replicate}
use Rattle.lattice.specs.declared.Settings.{Settings}
use Rattle.grid.specs.Grid.{cells_of}
use Rattle.grid.specs.State.{Lent, lent}
use Rattle.grid.specs.Outcome.{accepted}
use Rattle.record.specs.declared.Head.{Head}
use Rattle.index.specs.Index.{Index, index}
use Rattle.numerals.specs.Text.{from_line}
use Rattle.solids.specs.Invert.{invert_flags}
use Rattle.invert.specs.Outcome.{count_of, read_head, lengths_of, dry, dry_index, set_by, index_by, Inverted}
use Rattle.invert.proofs.Tested.{Fit}

set-kept : (h : Head) (text : List ℕ) (a : Lent) → accepted h.answer ≡ false → a ≡ set_by h text a
unfolding set_by
set-kept h text a e = simp e

index_kept : (h : Head) (x : Index) → accepted h.answer ≡ false → x ≡ index_by h x
unfolding index_by
index_kept h x e = simp e

pub set-made : (h : Head) (text : List ℕ) (a : Lent) → accepted h.answer ≡ true
    → dry (cells_of h.sides) (invert_flags h.sides (count_of h.site.edge) (from_line 6 text)) ≡ set_by h text a
unfolding set_by
set-made h text a e = simp e

pub index-made : (h : Head) (x : Index) → accepted h.answer ≡ true → dry_index (cells_of h.sides) ≡ index_by h x
unfolding index_by
index-made h x e = simp e

zeros : {n m : ℕ} {l : List ℕ} → l ≡ replicate n 0 → n ≡ m → l ≡ replicate m 0
zeros p q = p ∙ ap (λ (k : ℕ). replicate k 0) q

zeros_z : {n m : ℕ} {l : List ℤ} → l ≡ replicate n (pos 0) → n ≡ m → l ≡ replicate m (pos 0)
zeros_z p q = p ∙ ap (λ (k : ℕ). replicate k (pos 0)) q

lent_by : {f f' : List ℕ} {p p' m m' : List ℤ} {i i' : List ℕ} {c c' : List ℤ} → f ≡ f' → p ≡ p' → m ≡ m' → i ≡ i' → c ≡ c' → lent f p m i c ≡ lent f' p' m' i' c'
lent_by a b c d e = λ j. lent (a j) (b j) (c j) (d j) (e j)

module _ (text : List ℕ) (nz : ℕ) (oz : ℤ) (g : Settings) (a : Lent) (x : Index) (h : Head) (is : h ≡ read_head text nz oz g (lengths_of a x)) where
  so : (b : Bool) → accepted h.answer ≡ b → accepted (read_head text nz oz g (lengths_of a x)).answer ≡ b
  so b e = sym (ap (λ (k : Head). accepted k.answer) is) ∙ e

  pub read-refused : accepted h.answer ≡ false → Inverted text nz oz g a x h a x
  read-refused e =
      record {
        head-is = is;
        set_is = set-kept (read_head text nz oz g (lengths_of a x)) text a (so false e);
        index_is = index_kept (read_head text nz oz g (lengths_of a x)) x (so false e);
      }

  pub read-accepted : accepted h.answer ≡ true → Fit (cells_of h.sides) (lengths_of a x) → {flags : List ℕ} {parts masses : List ℤ} {fills : List ℕ} {carry : List ℤ} {words count : List ℕ} {edge : ℕ} (at : ℕ)
      → drop at text ≡ from_line 6 text → edge ≡ count_of h.site.edge → flags ≡ invert_flags h.sides edge (drop at text)
      → parts ≡ replicate (length a.parts) (pos 0) → masses ≡ replicate (length a.masses) (pos 0) → fills ≡ replicate (length a.fills) 0 → carry ≡ replicate (length a.carry) (pos 0)
      → words ≡ replicate (length x.words) 0 → count ≡ replicate (length x.count) 0
      → Inverted text nz oz g a x h (lent flags parts masses fills carry) (index words count)
  unfolding dry dry_index
  read-accepted e f at line edge flags parts masses fills carry words count =
      record {
        head-is = is;
        set_is =
            lent_by (flags ∙ ap₂ (λ (n : ℕ) (t : List ℕ). invert_flags h.sides n t) edge line) (zeros_z parts f.parts) (zeros_z masses f.masses) (zeros fills f.fills) (zeros_z carry f.carry)
            ∙ set-made h text a e
            ∙ ap (λ (k : Head). set_by k text a) is;
        index_is = ap₂ index (zeros words f.words) (zeros count f.count) ∙ index-made h x e ∙ ap (λ (k : Head). index_by k x) is;
      }
