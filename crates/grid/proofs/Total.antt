-- Total: masses and carry add up to the same before and after a step; the carry's change is what strayed. For any lattice with paired directions, any
-- grid laid on it, and any relaxation of each cell. The idea: before conversion a cell has its old mass and what flowed in over its directions, and what
-- flows in at one end flows out at the other; conversion splits that into the base mass, gifts and what strays, and each gift is received. Assumes nothing.
use mathlib.Core.Path.{◌≡◌, refl, sym, ap, ap₂, ◌∙◌, subst}
use mathlib.Core.Bool.{Bool, true, false, ◌&&◌, ◌||◌, not, cond, false≢true}
use mathlib.Core.List.{[], ◌∷◌}
use Prim.Native.Nat.{ℕ, zero, suc, ◌+◌, ◌≤◌, ◌<◌}
use lib.IntN.{ℤ, pos, neg_ℤ, ◌+ℤ◌, ◌-ℤ◌, ◌*ℤ◌, +ℤ_assoc, +ℤ_comm, +ℤ_idl, +ℤ_idr}
use lib.Dec.{eqb}
use Rattle.whole.specs.Fold.{sum, dirs, any_dir, Dir}
use Rattle.whole.specs.laws.Ring.{ring-by, quotes, neg-sub, self-neg, back-sub}
use Rattle.whole.specs.laws.Search.{as-dir, any-hit, any_where}
use Rattle.whole.specs.laws.Sums.{sum-add, sum-neg, sum-cong, sum-zero, sum_first}
use Rattle.lattice.specs.Lattice.{Lattice, density}
use Rattle.lattice.specs.Cell.{over, under, exchange, is_positive, share}
use Rattle.lattice.proofs.Paired.{Paired, dirs-opp}
use Rattle.lattice.proofs.Shares.{shares-total, share-none, positive-sum}
use Rattle.lattice.proofs.ExchangeBack.{exchange-back}
use Rattle.grid.specs.State.{State, Scene, by_flag}
use Rattle.grid.specs.Step.{old_density, leans_to, rebuilds, rebuilt_part, arrives, streamed, difference, traded, traded_mass, streamed_density, filled, emptied, beside_filled, new_flag, base_mass, target, lean_weight, share_weight, any_target, excess, gift, to_carry, received, new_mass, new_carry}
use Rattle.grid.specs.inner.Between.{moved_mass}
use Rattle.grid.specs.Demands.{Walled, Closed, strayed}
use Rattle.grid.proofs.Laid.{Laid}
use Rattle.grid.proofs.Closed.{wall-stays}
use Rattle.grid.proofs.Pairs.{Inside, both_ways}

-- a fluid cell's mass is its density; wall and empty cells have none
abbrev pub Massed : Lattice → ℕ → State → Type 0
Massed L n s = (c : ℕ) → c < n → s.mass c ≡ by_flag (s.flag c) (pos 0) (s.mass c) (density L (s.part c)) (pos 0)

abbrev pub Claim : Type 0
Claim =
    (S : Scene) → Paired S.lat → Laid S.lat S.grid → Walled S.grid S.old.flag → Closed S.lat.q S.grid S.old.flag → Massed S.lat S.grid.cells S.old
    → sum S.grid.cells (new_mass S) +ℤ new_carry S ≡ sum S.grid.cells S.old.mass +ℤ S.old.carry

abbrev pub CarryClaim : Type 0
CarryClaim = (S : Scene) → new_carry S ≡ S.old.carry +ℤ strayed S

-- ---- by cases on flags and tests alone

-- what a cell has before conversion, given to the carry, its neighbours and itself
base-excess : (f : ℕ) (ov un : Bool) (m ρ : ℤ)
    → by_flag f (pos 0) (cond (by_flag f false ov false false) ρ (cond (by_flag f false un false false) (pos 0) m)) ρ (pos 0)
    +ℤ cond (by_flag f false ov false false) (m -ℤ ρ) (cond (by_flag f false un false false) m (pos 0)) ≡ by_flag f (pos 0) m ρ (pos 0)
base-excess zero ov un m ρ = refl
base-excess (suc zero) true un m ρ = back-sub ρ m
base-excess (suc zero) false true m ρ = +ℤ_idl m
base-excess (suc zero) false false m ρ = +ℤ_idr m
base-excess (suc (suc zero)) ov un m ρ = +ℤ_idr ρ
base-excess (suc (suc (suc n))) ov un m ρ = refl

given : (fi em t : Bool) (x g : ℤ) → (t ≡ true → g ≡ x)
    → cond ((fi || em) && t) g (pos 0) +ℤ cond ((fi || em) && not t) x (pos 0) ≡ cond (fi || em) x (pos 0)
given true em true x g h = +ℤ_idr g ∙ h refl
given true em false x g h = +ℤ_idl x
given false true true x g h = +ℤ_idr g ∙ h refl
given false true false x g h = +ℤ_idl x
given false false t x g h = refl

only-converted : (fi em : Bool) (a b : ℤ) → cond (fi || em) (cond fi a (cond em b (pos 0))) (pos 0) ≡ cond fi a (cond em b (pos 0))
only-converted true em a b = refl
only-converted false true a b = refl
only-converted false false a b = refl

cond-none : (b : Bool) (x : ℤ) → b ≡ false → cond b x (pos 0) ≡ pos 0
cond-none true x e = absurd (false≢true (sym e))
cond-none false x e = refl

cond-zero : (b : Bool) (x : ℤ) → x ≡ pos 0 → cond b x (pos 0) ≡ pos 0
cond-zero true x e = e
cond-zero false x e = refl

cond-dirs : (q : ℕ) (b : Bool) (f : ℕ → ℤ) → cond b (dirs q f) (pos 0) ≡ dirs q (λ i. cond b (f i) (pos 0))
cond-dirs q true f = refl
cond-dirs q false f = sym (sum-zero q (λ a. pos 0) (λ a k. refl))

wall-flag : (f : ℕ) (a b c d : ℤ) → f ≡ 3 → by_flag f a b c d ≡ d
wall-flag f a b c d e = rw e refl

module _ (S : Scene) where
  abbrev n : ℕ
  n = S.grid.cells

  abbrev q : ℕ
  q = S.lat.q

  abbrev flag : ℕ → ℕ
  flag c = S.old.flag c

  -- ---- a wall converts nothing

  wall-filled : (c : ℕ) → flag c ≡ 3 → filled S c ≡ false
  unfolding filled
  wall-filled c e = rw e refl

  wall-emptied : (c : ℕ) → flag c ≡ 3 → emptied S c ≡ false
  unfolding emptied
  wall-emptied c e = rw e refl

  -- ---- gifts

  some-weight : (c : ℕ) → any_target S c ≡ true → any_dir q (λ k. is_positive (share_weight S c k)) ≡ true
  unfolding share_weight any_target
  some-weight c h = go (is_positive (dirs q (lean_weight S c))) refl
    where
      go : (b : Bool) → is_positive (dirs q (lean_weight S c)) ≡ b → any_dir q (λ k. is_positive (cond (is_positive (dirs q (lean_weight S c))) (lean_weight S c k) (cond (target S c k) (pos 1) (pos 0)))) ≡ true
      go true e =
          subst (λ (b : Bool). any_dir q (λ k. is_positive (cond b (lean_weight S c k) (cond (target S c k) (pos 1) (pos 0)))) ≡ true) (sym e) (positive-sum q (λ a. lean_weight S c (suc a)) e)
      go false e =
          subst (λ (b : Bool). any_dir q (λ k. is_positive (cond b (lean_weight S c k) (cond (target S c k) (pos 1) (pos 0)))) ≡ true) (sym e)
          (let w = any_where q (λ a. target S c (suc a)) h in
          any-hit q (λ a. is_positive (cond (target S c (suc a)) (pos 1) (pos 0))) w.0 w.1 (ap (λ (b : Bool). is_positive (cond b (pos 1) (pos 0))) w.2))

  no-weight : (c k : ℕ) → target S c k ≡ false → share_weight S c k ≡ pos 0
  unfolding share_weight lean_weight
  no-weight c k e = go (is_positive (dirs q (lean_weight S c)))
    where
      go : (b : Bool) → cond b (lean_weight S c k) (cond (target S c k) (pos 1) (pos 0)) ≡ pos 0
      go true = cond-none (target S c k) _ e
      go false = cond-none (target S c k) (pos 1) e

  -- nothing to a cell that is no target
  gift-none : (c k : ℕ) → target S c k ≡ false → gift S c k ≡ pos 0
  unfolding gift
  gift-none c k e = go (filled S c || emptied S c) (any_target S c) refl
    where
      go : (b t : Bool) → any_target S c ≡ t → cond (b && t) (share q (excess S c) (share_weight S c) k) (pos 0) ≡ pos 0
      go true true h = share-none q (excess S c) (share_weight S c) k (some-weight c h) (no-weight c k e)
      go true false h = refl
      go false t h = refl

  gift-still : (c k : ℕ) → flag c ≡ 3 → gift S c k ≡ pos 0
  unfolding gift
  gift-still c k e = rw (wall-filled c e, wall-emptied c e) refl

  -- all that a cell gives is its excess
  all-given : (c : ℕ) → dirs q (gift S c) +ℤ to_carry S c ≡ excess S c
  unfolding gift to_carry excess
  all-given c =
      ap (λ (t : ℤ). t +ℤ to_carry S c) (sym (cond-dirs q ((filled S c || emptied S c) && any_target S c) (share q (excess S c) (share_weight S c))))
      ∙ given (filled S c) (emptied S c) (any_target S c) (excess S c) (dirs q (share q (excess S c) (share_weight S c)))
      (λ h. shares-total q (excess S c) (share_weight S c) (some-weight c h))
      ∙ only-converted (filled S c) (emptied S c) (traded_mass S c -ℤ streamed_density S c) (traded_mass S c)

  base-moved : (c : ℕ) → base_mass S c +ℤ excess S c ≡ moved_mass S c
  unfolding base_mass excess filled emptied moved_mass
  base-moved c =
      base-excess (flag c) (over (traded_mass S c) (streamed_density S c)) (under (traded_mass S c) (streamed_density S c) && not (beside_filled S c)) (traded_mass S c) (streamed_density S c)

module _ (S : Scene) (p : Paired S.lat) (l : Laid S.lat S.grid) (w : Walled S.grid S.old.flag) where
  -- what is given is received
  gets : ℕ → ℕ → ℤ
  gets c i = cond (eqb (new_flag S c) 1) (gift S (S.grid.near c i) (S.lat.opp i)) (pos 0)

  far-wall : (c i : ℕ) → c < S.grid.cells → Dir S.lat.q i → S.grid.outer c ≡ false → S.grid.outer (S.grid.near c i) ≡ true → S.old.flag (S.grid.near c i) ≡ 3
  far-wall c i h d e o = w (S.grid.near c i) (l.cell c i h e d) o

  gift-within : Inside S.lat S.grid (gift S)
  unfolding target
  gift-within = record {
    off = λ c i h d o. gift-still S c i (w c h o);
    far = λ c i h d o. far c i h d o (S.grid.outer c) refl;
  }
    where
      far : (c i : ℕ) → c < S.grid.cells → Dir S.lat.q i → S.grid.outer (S.grid.near c i) ≡ true → (b : Bool) → S.grid.outer c ≡ b → gift S c i ≡ pos 0
      far c i h d o true e = gift-still S c i (w c h e)
      far c i h d o false e = gift-none S c i (ap (λ (x : ℕ). eqb x 1) (wall-stays S (S.grid.near c i) (far-wall c i h d e o)))

  gets-within : Inside S.lat S.grid gets
  unfolding gets
  gets-within = record {
    off = λ c i h d o. still c i h o;
    far = λ c i h d o. far c i h d o (S.grid.outer c) refl;
  }
    where
      still : (c i : ℕ) → c < S.grid.cells → S.grid.outer c ≡ true → gets c i ≡ pos 0
      still c i h o = cond-none (eqb (new_flag S c) 1) _ (ap (λ (x : ℕ). eqb x 1) (wall-stays S c (w c h o)))

      far : (c i : ℕ) → c < S.grid.cells → Dir S.lat.q i → S.grid.outer (S.grid.near c i) ≡ true → (b : Bool) → S.grid.outer c ≡ b → gets c i ≡ pos 0
      far c i h d o true e = still c i h e
      far c i h d o false e = cond-zero (eqb (new_flag S c) 1) _ (gift-still S (S.grid.near c i) (S.lat.opp i) (far-wall c i h d e o))

  given_back : (c i : ℕ) → c < S.grid.cells → Dir S.lat.q i → S.grid.outer c ≡ false → S.grid.outer (S.grid.near c i) ≡ false
      → gets c i ≡ gift S (S.grid.near c i) (S.lat.opp i)
  unfolding gets target
  given_back c i h d e o = go (eqb (new_flag S c) 1) refl
    where
      go : (b : Bool) → eqb (new_flag S c) 1 ≡ b → cond b (gift S (S.grid.near c i) (S.lat.opp i)) (pos 0) ≡ gift S (S.grid.near c i) (S.lat.opp i)
      go true g = refl
      go false g = sym (gift-none S (S.grid.near c i) (S.lat.opp i) (ap (λ (x : ℕ). eqb (new_flag S x) 1) (l.back c i h e d) ∙ g))

  pub received-given : sum S.grid.cells (λ c. cond (eqb (new_flag S c) 1) (received S c) (pos 0)) ≡ sum S.grid.cells (λ c. dirs S.lat.q (gift S c))
  unfolding received gets
  received-given =
      sum-cong S.grid.cells (λ c. cond (eqb (new_flag S c) 1) (received S c) (pos 0)) (λ c. dirs S.lat.q (gets c))
      (λ c h. cond-dirs S.lat.q (eqb (new_flag S c) 1) (λ i. gift S (S.grid.near c i) (S.lat.opp i)))
      ∙ both_ways S.lat S.grid p l (gift S) gets gift-within gets-within given_back

-- ---- streaming and exchange

-- what crosses from the neighbour in direction i into c
unfoldable pub pair-flow : (f g : ℕ) (x d : ℤ) → ℤ
pair-flow f g x d = by_flag f (pos 0) (by_flag g (pos 0) x d (pos 0)) (by_flag g (pos 0) d d (pos 0)) (pos 0)

pair-neg : (f g : ℕ) (x y d e : ℤ) → y ≡ neg_ℤ x → e ≡ neg_ℤ d → neg_ℤ (pair-flow f g x d) ≡ pair-flow g f y e
unfolding pair-flow
pair-neg zero zero x y d e u v = refl
pair-neg zero (suc zero) x y d e u v = refl
pair-neg zero (suc (suc zero)) x y d e u v = refl
pair-neg zero (suc (suc (suc n))) x y d e u v = refl
pair-neg (suc zero) zero x y d e u v = refl
pair-neg (suc zero) (suc zero) x y d e u v = sym u
pair-neg (suc zero) (suc (suc zero)) x y d e u v = sym v
pair-neg (suc zero) (suc (suc (suc n))) x y d e u v = refl
pair-neg (suc (suc zero)) zero x y d e u v = refl
pair-neg (suc (suc zero)) (suc zero) x y d e u v = sym v
pair-neg (suc (suc zero)) (suc (suc zero)) x y d e u v = sym v
pair-neg (suc (suc zero)) (suc (suc (suc n))) x y d e u v = refl
pair-neg (suc (suc (suc m))) zero x y d e u v = refl
pair-neg (suc (suc (suc m))) (suc zero) x y d e u v = refl
pair-neg (suc (suc (suc m))) (suc (suc zero)) x y d e u v = refl
pair-neg (suc (suc (suc m))) (suc (suc (suc n))) x y d e u v = refl

pair-wall : (f : ℕ) (x d : ℤ) → pair-flow f 3 x d ≡ pos 0
unfolding pair-flow
pair-wall zero x d = refl
pair-wall (suc zero) x d = refl
pair-wall (suc (suc zero)) x d = refl
pair-wall (suc (suc (suc n))) x d = refl

-- what arrives at a fluid cell from a neighbour that is not empty
arrives-fluid : (g : ℕ) (b : Bool) (r a own d : ℤ) → (g ≡ 0 → ⊥) → b ≡ false → a ≡ own +ℤ d
    → cond b r (by_flag g (pos 0) a a own) ≡ own +ℤ by_flag g (pos 0) d d (pos 0)
arrives-fluid g true r a own d z e h = absurd (false≢true (sym e))
arrives-fluid zero false r a own d z e h = absurd (z refl)
arrives-fluid (suc zero) false r a own d z e h = h
arrives-fluid (suc (suc zero)) false r a own d z e h = h
arrives-fluid (suc (suc (suc n))) false r a own d z e h = sym (+ℤ_idr own)

not-rebuilt : (g : ℕ) (b : Bool) → b ≡ false → (g ≡ 0 → ⊥) → by_flag g true b b false ≡ false
not-rebuilt zero b e z = absurd (z refl)
not-rebuilt (suc zero) b e z = e
not-rebuilt (suc (suc zero)) b e z = e
not-rebuilt (suc (suc (suc n))) b e z = refl

module _ (S : Scene) where
  unfoldable pub flow : ℕ → ℕ → ℤ
  flow c i =
      pair-flow (S.old.flag c) (S.old.flag (S.grid.near c i)) (exchange (S.old.fill c + S.old.fill (S.grid.near c i)) (difference S c i)) (difference S c i)

  -- what streams into a fluid cell is never rebuilt: it leans to no neighbour, and has no empty one
  pub fluid-kept : (c i : ℕ) → S.old.flag c ≡ 2 → (S.old.flag (S.grid.near c i) ≡ 0 → ⊥) → rebuilds S c i ≡ false
  unfolding rebuilds leans_to
  fluid-kept c i e z = not-rebuilt (S.old.flag (S.grid.near c i)) (leans_to S c i) (rw e refl) z

  arrives-one : (c i : ℕ) → (S.old.flag (S.grid.near c i) ≡ 0 → ⊥) → rebuilds S c i ≡ false
      → arrives S c i (S.lat.opp i) ≡ S.old.part c i +ℤ by_flag (S.old.flag (S.grid.near c i)) (pos 0) (difference S c i) (difference S c i) (pos 0)
  unfolding arrives difference
  arrives-one c i z e =
      arrives-fluid (S.old.flag (S.grid.near c i)) (rebuilds S c i) (rebuilt_part S c i) (S.old.part (S.grid.near c i) (S.lat.opp i)) (S.old.part c i)
      (S.old.part (S.grid.near c i) (S.lat.opp i) -ℤ S.old.part c i) z e (sym (back-sub (S.old.part c i) (S.old.part (S.grid.near c i) (S.lat.opp i))))

module _ (S : Scene) (p : Paired S.lat) (l : Laid S.lat S.grid) (w : Walled S.grid S.old.flag) where
  flow-within : Inside S.lat S.grid (flow S)
  unfolding flow pair-flow
  flow-within = record {
    off = λ c i h d o. off c i (w c h o);
    far = λ c i h d o. far c i h d o (S.grid.outer c) refl;
  }
    where
      off : (c i : ℕ) → S.old.flag c ≡ 3 → flow S c i ≡ pos 0
      off c i e = wall-flag (S.old.flag c) _ _ _ (pos 0) e

      far : (c i : ℕ) → c < S.grid.cells → Dir S.lat.q i → S.grid.outer (S.grid.near c i) ≡ true → (b : Bool) → S.grid.outer c ≡ b → flow S c i ≡ pos 0
      far c i h d o true e = off c i (w c h e)
      far c i h d o false e =
          subst (λ (g : ℕ). pair-flow (S.old.flag c) g (exchange (S.old.fill c + S.old.fill (S.grid.near c i)) (difference S c i)) (difference S c i) ≡ pos 0)
          (sym (far-wall S p l w c i h d e o)) (pair-wall (S.old.flag c) (exchange (S.old.fill c + S.old.fill (S.grid.near c i)) (difference S c i)) (difference S c i))

  neg-within : Inside S.lat S.grid (λ c i. neg_ℤ (flow S c i))
  neg-within = record {
    off = λ c i h d o. ap neg_ℤ (flow-within.off c i h d o);
    far = λ c i h d o. ap neg_ℤ (flow-within.far c i h d o);
  }

  turned : (c i : ℕ) → c < S.grid.cells → Dir S.lat.q i → S.grid.outer c ≡ false → difference S (S.grid.near c i) (S.lat.opp i) ≡ neg_ℤ (difference S c i)
  unfolding difference
  turned c i h d e =
      ap₂ (λ (x k : ℕ). S.old.part x k -ℤ S.old.part (S.grid.near c i) (S.lat.opp i)) (l.back c i h e d) (p.twice i d)
      ∙ sym (neg-sub (S.old.part (S.grid.near c i) (S.lat.opp i)) (S.old.part c i))

  flow-back : (c i : ℕ) → c < S.grid.cells → Dir S.lat.q i → S.grid.outer c ≡ false → S.grid.outer (S.grid.near c i) ≡ false
      → neg_ℤ (flow S c i) ≡ flow S (S.grid.near c i) (S.lat.opp i)
  unfolding flow
  flow-back c i h d e o =
      pair-neg (S.old.flag c) (S.old.flag (S.grid.near c i)) _ _ _ _
      (ap (λ (t : ℤ). exchange (S.old.fill (S.grid.near c i) + S.old.fill c) t) (turned c i h d e)
      ∙ exchange-back (S.old.fill c) (S.old.fill (S.grid.near c i)) (difference S c i))
      (turned c i h d e)
      ∙ ap (λ (x : ℕ). pair-flow (S.old.flag (S.grid.near c i)) (S.old.flag x) (exchange (S.old.fill (S.grid.near c i) + S.old.fill x) (difference S (S.grid.near c i) (S.lat.opp i)))
      (difference S (S.grid.near c i) (S.lat.opp i))) (sym (l.back c i h e d))

  pub no_flow : sum S.grid.cells (λ c. dirs S.lat.q (flow S c)) ≡ pos 0
  no_flow =
      self-neg (sum S.grid.cells (λ c. dirs S.lat.q (flow S c)))
      (sym (sum-neg S.grid.cells (λ c. dirs S.lat.q (flow S c)))
      ∙ sum-cong S.grid.cells (λ c. neg_ℤ (dirs S.lat.q (flow S c))) (λ c. dirs S.lat.q (λ i. neg_ℤ (flow S c i))) (λ c h. sym (sum-neg S.lat.q (λ a. flow S c (suc a))))
      ∙ both_ways S.lat S.grid p l (flow S) (λ c i. neg_ℤ (flow S c i)) flow-within neg-within flow-back)

  -- a fluid cell's new density
  fluid-density : Closed S.lat.q S.grid S.old.flag → (c : ℕ) → c < S.grid.cells → S.old.flag c ≡ 2
      → streamed_density S c ≡ old_density S c +ℤ dirs S.lat.q (λ i. by_flag (S.old.flag (S.grid.near c i)) (pos 0) (difference S c i) (difference S c i) (pos 0))
  unfolding streamed_density old_density density streamed
  fluid-density cl c h e =
      sum_first S.lat.q (streamed S c)
      ∙ ap (λ (t : ℤ). S.old.part c 0 +ℤ t) (arrived ∙ sum-add S.lat.q (λ a. S.old.part c (suc a)) (λ a. by_flag (S.old.flag (S.grid.near c (suc a))) (pos 0) (difference S c (suc a)) (difference S c (suc a)) (pos 0)))
      ∙ sym (+ℤ_assoc (S.old.part c 0) (dirs S.lat.q (S.old.part c)) (dirs S.lat.q (λ i. by_flag (S.old.flag (S.grid.near c i)) (pos 0) (difference S c i) (difference S c i) (pos 0))))
      ∙ ap (λ (t : ℤ). t +ℤ dirs S.lat.q (λ i. by_flag (S.old.flag (S.grid.near c i)) (pos 0) (difference S c i) (difference S c i) (pos 0))) (sym (sum_first S.lat.q (S.old.part c)))
    where
      one : (i : ℕ) → Dir S.lat.q i → arrives S c i (S.lat.opp i) ≡ S.old.part c i +ℤ by_flag (S.old.flag (S.grid.near c i)) (pos 0) (difference S c i) (difference S c i) (pos 0)
      one i d = arrives-one S c i (λ z. cl c i h d.some d.most e z) (fluid-kept S c i e (λ z. cl c i h d.some d.most e z))

      arrived : dirs S.lat.q (λ k. arrives S c (S.lat.opp k) k) ≡ dirs S.lat.q (λ i. S.old.part c i +ℤ by_flag (S.old.flag (S.grid.near c i)) (pos 0) (difference S c i) (difference S c i) (pos 0))
      arrived =
          sum-cong S.lat.q (λ a. arrives S c (S.lat.opp (suc a)) (suc a)) (λ a. arrives S c (S.lat.opp (suc a)) (S.lat.opp (S.lat.opp (suc a))))
          (λ a k. ap (arrives S c (S.lat.opp (suc a))) (sym (p.twice (suc a) (as-dir k))))
          ∙ dirs-opp S.lat p (λ i. arrives S c i (S.lat.opp i))
          ∙ sum-cong S.lat.q (λ a. arrives S c (suc a) (S.lat.opp (suc a))) (λ a. S.old.part c (suc a) +ℤ by_flag (S.old.flag (S.grid.near c (suc a))) (pos 0) (difference S c (suc a)) (difference S c (suc a)) (pos 0))
          (λ a k. one (suc a) (as-dir k))

  -- the mass before conversion is the old mass and what flowed in
  pub moved-flow : Closed S.lat.q S.grid S.old.flag
      → ((c : ℕ) → c < S.grid.cells → S.old.mass c ≡ by_flag (S.old.flag c) (pos 0) (S.old.mass c) (old_density S c) (pos 0))
      → (c : ℕ) → c < S.grid.cells → moved_mass S c ≡ S.old.mass c +ℤ dirs S.lat.q (flow S c)
  unfolding moved_mass flow pair-flow traded_mass traded
  moved-flow cl m c h = go (S.old.flag c) refl
    where
      bring : (f : ℕ) → S.old.flag c ≡ f → moved_mass S c ≡ by_flag f (pos 0) (traded_mass S c) (streamed_density S c) (pos 0)
      bring f e = ap (λ (k : ℕ). by_flag k (pos 0) (traded_mass S c) (streamed_density S c) (pos 0)) e

      had : (f : ℕ) → S.old.flag c ≡ f → S.old.mass c ≡ by_flag f (pos 0) (S.old.mass c) (old_density S c) (pos 0)
      had f e = m c h ∙ ap (λ (k : ℕ). by_flag k (pos 0) (S.old.mass c) (old_density S c) (pos 0)) e

      ran : (f : ℕ) → S.old.flag c ≡ f → (i : ℕ)
          → flow S c i ≡ pair-flow f (S.old.flag (S.grid.near c i)) (exchange (S.old.fill c + S.old.fill (S.grid.near c i)) (difference S c i)) (difference S c i)
      ran f e i =
          ap (λ (k : ℕ). pair-flow k (S.old.flag (S.grid.near c i)) (exchange (S.old.fill c + S.old.fill (S.grid.near c i)) (difference S c i)) (difference S c i)) e

      go : (f : ℕ) → S.old.flag c ≡ f → moved_mass S c ≡ S.old.mass c +ℤ dirs S.lat.q (flow S c)
      go zero e = bring zero e ∙ sym (ap₂ (λ (x y : ℤ). x +ℤ y) (had zero e) (sum-zero S.lat.q (λ a. flow S c (suc a)) (λ a k. ran zero e (suc a))))
      go (suc zero) e =
          bring 1 e ∙ ap (λ (t : ℤ). S.old.mass c +ℤ t) (sym (sum-cong S.lat.q (λ a. flow S c (suc a)) (λ a. traded S c (suc a)) (λ a k. ran 1 e (suc a))))
      go (suc (suc zero)) e =
          bring 2 e ∙ fluid-density cl c h e
          ∙ ap₂ (λ (x y : ℤ). x +ℤ y) (sym (had 2 e))
          (sym (sum-cong S.lat.q (λ a. flow S c (suc a))
          (λ a. by_flag (S.old.flag (S.grid.near c (suc a))) (pos 0) (difference S c (suc a)) (difference S c (suc a)) (pos 0)) (λ a k. ran 2 e (suc a))))
      go (suc (suc (suc r))) e =
          bring (suc (suc (suc r))) e
          ∙ sym (ap₂ (λ (x y : ℤ). x +ℤ y) (had (suc (suc (suc r))) e) (sum-zero S.lat.q (λ a. flow S c (suc a)) (λ a k. ran (suc (suc (suc r))) e (suc a))))

  exact-total : Closed S.lat.q S.grid S.old.flag → Massed S.lat S.grid.cells S.old
      → sum S.grid.cells (new_mass S) +ℤ new_carry S ≡ sum S.grid.cells S.old.mass +ℤ S.old.carry
  unfolding new_mass new_carry old_density
  exact-total cl m =
      ap (λ (t : ℤ). t +ℤ (k +ℤ sum n (to_carry S)))
      (sum-add n (base_mass S) (λ c. cond (eqb (new_flag S c) 1) (received S c) (pos 0)) ∙ ap (λ (t : ℤ). sum n (base_mass S) +ℤ t) (received-given S p l w))
      ∙ gather (sum n (base_mass S)) (sum n (λ c. dirs S.lat.q (gift S c))) k (sum n (to_carry S))
      ∙ ap (λ (t : ℤ). t +ℤ k)
      (ap (λ (t : ℤ). sum n (base_mass S) +ℤ t) (sym (sum-add n (λ c. dirs S.lat.q (gift S c)) (to_carry S)))
      ∙ sym (sum-add n (base_mass S) (λ c. dirs S.lat.q (gift S c) +ℤ to_carry S c))
      ∙ sum-cong n (λ c. base_mass S c +ℤ (dirs S.lat.q (gift S c) +ℤ to_carry S c)) (λ c. S.old.mass c +ℤ dirs S.lat.q (flow S c))
      (λ c h. ap (λ (t : ℤ). base_mass S c +ℤ t) (all-given S c) ∙ base-moved S c ∙ moved-flow cl m c h)
      ∙ sum-add n S.old.mass (λ c. dirs S.lat.q (flow S c))
      ∙ ap (λ (t : ℤ). sum n S.old.mass +ℤ t) no_flow ∙ +ℤ_idr (sum n S.old.mass))
    where
      n : ℕ
      n = S.grid.cells

      k : ℤ
      k = S.old.carry

      gather : (a b k t : ℤ) → (a +ℤ b) +ℤ (k +ℤ t) ≡ (a +ℤ (b +ℤ t)) +ℤ k
      gather a b k t = ring-by (a ∷ b ∷ k ∷ t ∷ []) (search quotes depth 20) (search quotes depth 20) tt

pub total-holds : Claim
total-holds S p l w cl m = exact-total S p l w cl m

pub carry-holds : CarryClaim
unfolding new_carry to_carry strayed any_target target
carry-holds S = refl
