-- Sums over pairs of neighbours: each pair of inner neighbours is met from either side, so that what is given and what is received add up to the same.
-- No sum is shifted: an indicator of the neighbour and an exchange of the sums do it. Assumes nothing.
use mathlib.Core.Path.{◌≡◌, refl, sym, ap, ap₂, ◌∙◌}
use mathlib.Core.Bool.{Bool, true, false}
use Prim.Native.Nat.{ℕ, suc, ◌≤◌, ◌<◌}
use native.Mathlib.Decide.{ℕ_discrete}
use lib.IntN.{ℤ, pos, ◌+ℤ◌}
use Rattle.whole.specs.Fold.{sum, dirs, Dir}
use Rattle.whole.specs.laws.Search.{as-dir}
use Rattle.whole.specs.laws.Sums.{sum-cong, sum-zero, sum-swap, sum-only, sum-table, only, only_at, only-off}
use Rattle.lattice.specs.Lattice.{Lattice}
use Rattle.lattice.proofs.Paired.{Paired, dirs-opp}
use Rattle.grid.specs.Grid.{Grid}
use Rattle.grid.proofs.Laid.{Laid}

module _ (L : Lattice) (G : Grid) where
  -- nothing but between inner cells
  pub record Inside (F : ℕ → ℕ → ℤ) : Type 0 where
    pub off : (c i : ℕ) → c < G.cells → Dir L.q i → G.outer c ≡ true → F c i ≡ pos 0
    pub far : (c i : ℕ) → c < G.cells → Dir L.q i → G.outer (G.near c i) ≡ true → F c i ≡ pos 0

module _ (L : Lattice) (G : Grid) (p : Paired L) (l : Laid L G) (F H : ℕ → ℕ → ℤ) (f : Inside L G F) (h : Inside L G H)
    (same : (c i : ℕ) → c < G.cells → Dir L.q i → G.outer c ≡ false → G.outer (G.near c i) ≡ false → H c i ≡ F (G.near c i) (L.opp i)) where
  -- one direction: H seen from c is F seen from its neighbour
  cell : (i : ℕ) → Dir L.q i → (c d : ℕ) → c < G.cells → d < G.cells → Dec (d ≡ G.near c i) → Dec (c ≡ G.near d (L.opp i)) → (b e : Bool)
      → G.outer c ≡ b → G.outer d ≡ e → only (G.near c i) (H c i) d ≡ only (G.near d (L.opp i)) (F d (L.opp i)) c
  cell i t c d hc hd (yes u) (yes v) false false b e =
      ap (only (G.near c i) (H c i)) u ∙ only_at (G.near c i) (H c i) ∙ same c i hc t b (sym (ap G.outer u) ∙ e)
      ∙ ap (λ (x : ℕ). F x (L.opp i)) (sym u) ∙ sym (ap (only (G.near d (L.opp i)) (F d (L.opp i))) v ∙ only_at (G.near d (L.opp i)) (F d (L.opp i)))
  cell i t c d hc hd (yes u) (yes v) true e b k =
      ap (only (G.near c i) (H c i)) u ∙ only_at (G.near c i) (H c i) ∙ h.off c i hc t b
      ∙ sym (ap (only (G.near d (L.opp i)) (F d (L.opp i))) v ∙ only_at (G.near d (L.opp i)) (F d (L.opp i))
      ∙ f.far d (L.opp i) hd (p.dir i t) (sym (ap G.outer v) ∙ b))
  cell i t c d hc hd (yes u) (yes v) false true b k =
      ap (only (G.near c i) (H c i)) u ∙ only_at (G.near c i) (H c i) ∙ h.far c i hc t (sym (ap G.outer u) ∙ k)
      ∙ sym (ap (only (G.near d (L.opp i)) (F d (L.opp i))) v ∙ only_at (G.near d (L.opp i)) (F d (L.opp i)) ∙ f.off d (L.opp i) hd (p.dir i t) k)
  cell i t c d hc hd (yes u) (no v) false e b k =
      absurd (v (sym (ap (λ (x : ℕ). G.near x (L.opp i)) u ∙ l.back c i hc b t)))
  cell i t c d hc hd (yes u) (no v) true e b k =
      ap (only (G.near c i) (H c i)) u ∙ only_at (G.near c i) (H c i) ∙ h.off c i hc t b ∙ sym (only-off (G.near d (L.opp i)) c (F d (L.opp i)) v)
  cell i t c d hc hd (no u) (yes v) b false e k =
      absurd (u (sym (ap₂ (λ (x j : ℕ). G.near x j) v (sym (p.twice i t)) ∙ l.back d (L.opp i) hd k (p.dir i t))))
  cell i t c d hc hd (no u) (yes v) b true e k =
      only-off (G.near c i) d (H c i) u
      ∙ sym (ap (only (G.near d (L.opp i)) (F d (L.opp i))) v ∙ only_at (G.near d (L.opp i)) (F d (L.opp i)) ∙ f.off d (L.opp i) hd (p.dir i t) k)
  cell i t c d hc hd (no u) (no v) b e j k = only-off (G.near c i) d (H c i) u ∙ sym (only-off (G.near d (L.opp i)) c (F d (L.opp i)) v)

  -- a row: the neighbour is a cell, or nothing is there
  row : (X : ℕ → ℕ → ℤ) → Inside L G X → (i : ℕ) → Dir L.q i → (c : ℕ) → c < G.cells → (b : Bool) → G.outer c ≡ b
      → sum G.cells (only (G.near c i) (X c i)) ≡ X c i
  row X w i t c hc false e = sum-only G.cells (G.near c i) (X c i) (l.cell c i hc e t)
  row X w i t c hc true e =
      ap (λ (x : ℤ). sum G.cells (only (G.near c i) x)) (w.off c i hc t e)
      ∙ sum-zero G.cells (only (G.near c i) (pos 0)) (λ d k. zero-only (G.near c i) d (ℕ_discrete d (G.near c i))) ∙ sym (w.off c i hc t e)
    where
      zero-only : (a d : ℕ) → Dec (d ≡ a) → only a (pos 0) d ≡ pos 0
      zero-only a d (yes u) = ap (only a (pos 0)) u ∙ only_at a (pos 0)
      zero-only a d (no u) = only-off a d (pos 0) u

  one_way : (i : ℕ) → Dir L.q i → sum G.cells (λ c. H c i) ≡ sum G.cells (λ d. F d (L.opp i))
  one_way i t =
      sum-table G.cells G.cells (λ c. H c i) (λ d. F d (L.opp i)) (λ c d. only (G.near c i) (H c i) d)
      (λ c hc. row H h i t c hc (G.outer c) refl)
      (λ d hd. sum-cong G.cells (λ c. only (G.near c i) (H c i) d) (only (G.near d (L.opp i)) (F d (L.opp i)))
      (λ c hc. cell i t c d hc hd (ℕ_discrete d (G.near c i)) (ℕ_discrete c (G.near d (L.opp i))) (G.outer c) (G.outer d) refl refl)
      ∙ row F f (L.opp i) (p.dir i t) d hd (G.outer d) refl)

  pub both_ways : sum G.cells (λ c. dirs L.q (H c)) ≡ sum G.cells (λ c. dirs L.q (F c))
  both_ways =
      sum-swap G.cells L.q (λ c a. H c (suc a))
      ∙ sum-cong L.q (λ a. sum G.cells (λ c. H c (suc a))) (λ a. sum G.cells (λ d. F d (L.opp (suc a)))) (λ a k. one_way (suc a) (as-dir k))
      ∙ sum-swap L.q G.cells (λ a d. F d (L.opp (suc a)))
      ∙ sum-cong G.cells (λ d. dirs L.q (λ i. F d (L.opp i))) (λ d. dirs L.q (F d)) (λ d k. dirs-opp L p (F d))
