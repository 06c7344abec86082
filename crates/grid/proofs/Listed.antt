-- A state tabulated as a lent set, and read back, is the same on the grid's cells; and the set's slices are of their exact lengths. Equal lists make
-- an equal set. Assumes nothing.
use mathlib.Core.Path.{◌≡◌, refl, sym, ap, ap₂, ◌∙◌, subst}
use mathlib.Core.Bool.{Bool, true, ◌&&◌}
use mathlib.Core.List.{[], ◌∷◌}
use Prim.Native.Nat.{ℕ, suc, ◌+◌, ◌*◌, ◌/◌, ◌%◌, ◌≤◌, ◌<◌}
use native.Mathlib.Nat.{mul_comm}
use native.Mathlib.Omega.{arith}
use lib.Arith.{digits_lt, digits_div, digits_mod}
use lib.IntN.{ℤ, pos}
use lib.ListN.{get_or}
use borrow.Author.Tests.{eq-eqb}
use Rattle.whole.specs.Fold.{tab}
use Rattle.whole.specs.laws.Tab.{length-tab, get_or-tab}
use Rattle.grid.specs.State.{Lent, lent, State, state_of, lent_of}
use Rattle.grid.specs.Outcome.{lengths_fit, lengths_good}
use Rattle.grid.specs.Demands.{Same}

-- equal lists make an equal set
pub same-lent : {a b : Lent} → a.flags ≡ b.flags → a.parts ≡ b.parts → a.masses ≡ b.masses → a.fills ≡ b.fills → a.carry ≡ b.carry → a ≡ b
same-lent f p m l c i = lent (f i) (p i) (m i) (l i) (c i)

-- part k of cell c stands at (q + 1)c + k
module _ (q n c k : ℕ) (hc : c < n) (hk : k ≤ q) where
  at : suc q * c + k ≡ c * suc q + k
  at = ap (λ (t : ℕ). t + k) (mul_comm (suc q) c)

  below : suc q * c + k < suc q * n
  below =
      let h : c * suc q + k < n * suc q = digits_lt hc (omega arith) in
      subst (λ (m : ℕ). suc q * c + k < m) (mul_comm n (suc q)) (subst (λ (m : ℕ). m < n * suc q) (sym at) h)

  pub cell-of : (suc q * c + k) / suc q ≡ c
  cell-of = ap (λ (t : ℕ). t / suc q) at ∙ digits_div c {m = suc q} {r = k} (omega arith)

  pub part_of : (suc q * c + k) % suc q ≡ k
  part_of = ap (λ (t : ℕ). t % suc q) at ∙ digits_mod c {m = suc q} {r = k} (omega arith)

  pub part-at : (f : ℕ → ℕ → ℤ) → get_or (tab (suc q * n) (λ m. f (m / suc q) (m % suc q))) (suc q * c + k) (pos 0) ≡ f c k
  part-at f = get_or-tab (suc q * n) (λ m. f (m / suc q) (m % suc q)) (pos 0) (suc q * c + k) below ∙ ap₂ f cell-of part_of

pub same-listed : (q n : ℕ) (s : State) → Same q n s (state_of q (lent_of q n s))
unfolding state_of lent_of
same-listed q n s = record {
  flags = λ c h. sym (get_or-tab n s.flag 3 c h);
  parts = λ c k h l. sym (part-at q n c k h l s.part);
  masses = λ c h. sym (get_or-tab n s.mass (pos 0) c h);
  fills = λ c h. sym (get_or-tab n s.fill 0 c h);
  carries = refl;
}

pub lengths-fit : (q n : ℕ) (s : State) → lengths_fit (suc q) n (lent_of q n s) ≡ true
unfolding lent_of
lengths-fit q n s =
    five (eq-eqb _ _ (length-tab n s.flag)) (eq-eqb _ _ (length-tab (suc q * n) (λ m. s.part (m / suc q) (m % suc q)))) (eq-eqb _ _ (length-tab n s.mass))
    (eq-eqb _ _ (length-tab n s.fill)) refl
  where
    five : {a b c d e : Bool} → a ≡ true → b ≡ true → c ≡ true → d ≡ true → e ≡ true → (a && b && c && d && e) ≡ true
    five u v w x y i = u i && v i && w i && x i && y i

pub lengths-listed : (n : ℕ) (s : State) → lengths_good n (lent_of 18 n s) ≡ true
unfolding lengths_good
lengths-listed n s = lengths-fit 18 n s
