-- Collision by pairs: what the eighteen share is in range, opposite directions differ in the sign of e·j alone, and the code's forms are the
-- definition's. Assumes nothing.
use mathlib.Core.Path.{◌≡◌, sym, ◌∙◌, ap, ap₂, subst}
use mathlib.Core.Bool.{true}
use mathlib.Core.List.{List, [], ◌∷◌}
use Prim.Native.Nat.{ℕ, ◌+◌, ◌%◌, ◌<◌}
use native.Mathlib.Omega.{arith}
use lib.IntN.{ℤ, pos, negsuc, neg_ℤ, ◌+ℤ◌, ◌-ℤ◌, ◌*ℤ◌}
use lib.Signed.{◌≤ℤ◌, quot_z}
use lib.ListN.{get_or}
use Rattle.whole.specs.Fold.{tab}
use Rattle.whole.specs.laws.Tab.{get_or-tab}
use Rattle.whole.specs.laws.Bounds.{abs-above, abs-mul}
use Rattle.whole.specs.laws.Ring.{ring-by, quotes}
use Rattle.whole.specs.laws.Order.{*ℤ-mono}
use Rattle.whole.specs.laws.Machine.{Within, within_by}
use Rattle.lattice.specs.declared.Flow.{Flow}
use Rattle.lattice.specs.Lattice.{dot, Lattice, d3q19}
use Rattle.lattice.specs.Cell.{quad, relaxed, relaxation_good}
use Rattle.lattice.specs.inner.Held.{parts_of, vec, Tame}
use Rattle.lattice.specs.Body.{relaxed_dir}
use Rattle.lattice.proofs.Ranges.{relaxation-in}
use Rattle.lattice.proofs.Reading.{reading}
use Rattle.lattice.proofs.Table.{dot-opposite, dot-in}
use Rattle.landings.specs.declared.pairs.Common.{Common}
use Rattle.landings.specs.declared.pairs.Pair.{Pair}
use Rattle.landings.specs.inner.Pairs.{CommonIs, Ready, grown, Paired}

pub ready : (v : Flow) (p : ℤ) (k : Common) → Tame v → relaxation_good p ≡ true → CommonIs v p k → Ready k
ready v p k t e is =
    let hr = t.rho in
    let hx = t.x in
    let hy = t.y in
    let hz = t.z in
    record {
      base = subst (λ (z : ℤ). Within z 4174708211712) (sym is.base) (within_by (search reading depth 20) tt);
      six = subst (λ (z : ℤ). Within z 7077888) (sym is.six) (within_by (search reading depth 20) tt);
      seventy = subst (λ (z : ℤ). Within z 84934656) (sym is.seventy) (within_by (search reading depth 20) tt);
      deep = rw (is.seventy, abs-mul (negsuc 71) v.rho) (omega (arith, abs-above t.low));
      low = subst (λ (z : ℤ). pos 21743271936 ≤ℤ z) (sym is.den) (*ℤ-mono 73728 t.low);
      den = subst (λ (z : ℤ). Within z 86973087744) (sym is.den) (within_by (search reading depth 20) tt);
      p = subst (λ (z : ℤ). Within z 2037) (sym is.p) (relaxation-in p e);
    }

-- ---- the code's form of a collision in direction i, with e·j read from the array d
abbrev pub formed : Lattice → List ℤ → List ℤ → Common → ℕ → ℤ
formed L f d k i = grown (parts_of f i) (pos (L.weight i)) (k.base +ℤ pos 9 *ℤ get_or d i (pos 0) *ℤ get_or d i (pos 0) -ℤ k.six *ℤ get_or d i (pos 0)) k

-- of the opposite direction, by the pair's e·j
pub turned : (g w : ℤ) (b s x : ℤ) (k : Common) → grown g w (b +ℤ pos 9 *ℤ x *ℤ x +ℤ s *ℤ x) k ≡ grown g w (b +ℤ pos 9 *ℤ neg_ℤ x *ℤ neg_ℤ x -ℤ s *ℤ neg_ℤ x) k
turned g w b s x k =
    ap (λ (q : ℤ). grown g w q k) (even b s x)
  where
    even : (b s x : ℤ) → b +ℤ pos 9 *ℤ x *ℤ x +ℤ s *ℤ x ≡ b +ℤ pos 9 *ℤ neg_ℤ x *ℤ neg_ℤ x -ℤ s *ℤ neg_ℤ x
    even b s x = ring-by (b ∷ s ∷ x ∷ []) (search quotes depth 20) (search quotes depth 20) tt

-- the array of every e·j: each entry, its range, and the opposite direction's
module _ (v : Flow) (t : Tame v) (d : List ℤ) (e : d ≡ tab 19 (λ k. dot (d3q19.e k) (vec v))) where
  pub dot-is : (i : ℕ) → i < 19 → get_or d i (pos 0) ≡ dot (d3q19.e i) (vec v)
  dot-is i h = ap (λ (l : List ℤ). get_or l i (pos 0)) e ∙ get_or-tab 19 (λ k. dot (d3q19.e k) (vec v)) (pos 0) i h

  pub dot-bound : (i : ℕ) → i < 19 → Within (get_or d i (pos 0)) 1179648
  dot-bound i h = subst (λ (z : ℤ). Within z 1179648) (sym (dot-is i h)) (dot-in i h (vec v) t.x t.y t.z)

  pub dot-turned : (i : ℕ) → i % 2 ≡ 1 → i + 1 < 19 → get_or d (i + 1) (pos 0) ≡ neg_ℤ (get_or d i (pos 0))
  dot-turned i o h = dot-is (i + 1) h ∙ dot-opposite i o (omega arith) (vec v) ∙ ap neg_ℤ (sym (dot-is i (omega arith)))

-- a pair that the divider works out is both of the code's forms
pub pair_formed : (L : Lattice) (f d : List ℤ) (k : Common) (i : ℕ) {r : Pair} → Paired (parts_of f i) (parts_of f (i + 1)) (pos (L.weight i)) (get_or d i (pos 0)) k r
    → L.weight (i + 1) ≡ L.weight i → get_or d (i + 1) (pos 0) ≡ neg_ℤ (get_or d i (pos 0)) → (r.a ≡ formed L f d k i) × (r.b ≡ formed L f d k (i + 1))
pair_formed L f d k i p w o = (
  p.a,
  p.b ∙ turned (parts_of f (i + 1)) (pos (L.weight i)) k.base k.six (get_or d i (pos 0)) k
      ∙ ap₂ (λ (n : ℕ) (y : ℤ). grown (parts_of f (i + 1)) (pos n) (k.base +ℤ pos 9 *ℤ y *ℤ y -ℤ k.six *ℤ y) k) (sym w) (sym o),
)

-- the definition's, for what the code shares
module _ (L : Lattice) (v : Flow) (p : ℤ) (k : Common) (is : CommonIs v p k) (f d : List ℤ) (i : ℕ) (e : get_or d i (pos 0) ≡ dot (L.e i) (vec v)) where
  numerator : (p w r q f x : ℤ)
      → p *ℤ (w *ℤ (pos 2 *ℤ (r *ℤ r) -ℤ pos 3 *ℤ q +ℤ pos 9 *ℤ x *ℤ x -ℤ negsuc 5 *ℤ r *ℤ x) +ℤ negsuc 71 *ℤ r *ℤ f)
      ≡ p *ℤ (w *ℤ (pos 2 *ℤ (r *ℤ r) +ℤ pos 6 *ℤ (r *ℤ x) +ℤ pos 9 *ℤ (x *ℤ x) -ℤ pos 3 *ℤ q) -ℤ pos 72 *ℤ (r *ℤ f))
  numerator p w r q f x = ring-by (p ∷ w ∷ r ∷ q ∷ f ∷ x ∷ []) (search quotes depth 20) (search quotes depth 20) tt

  pub formed-is : formed L f d k i ≡ relaxed_dir L v.rho (vec v) p (parts_of f) i
  unfolding relaxed_dir relaxed quad
  formed-is =
      rw (is.base, is.six, is.seventy, is.den, is.p, e)
      (ap (λ (n : ℤ). parts_of f i +ℤ quot_z n (pos 73728 *ℤ v.rho)) (numerator p (pos (L.weight i)) v.rho (dot (vec v) (vec v)) (parts_of f i) (dot (L.e i) (vec v))))
