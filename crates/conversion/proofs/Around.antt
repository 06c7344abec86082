-- Pass 3 from mark to mark. What turns a cell is the mark on it, or the marks beside it; so each cell has its new flag already, or is as it was and no mark that
-- was passed turns it. Opposite neighbours lie opposite: a mark's neighbours are the cells that have the mark beside them. Assumes nothing.
use mathlib.Core.Path.{◌≡◌, refl, sym, ap, ◌∙◌, subst}
use mathlib.Core.Bool.{Bool, true, false, ◌&&◌, ◌||◌, cond, false≢true}
use mathlib.Core.List.{List}
use mathlib.Core.Logic.{◌⊎◌, inl, inr, ⊎_elim}
use Prim.Native.Nat.{ℕ, zero, suc, ◌+◌, ◌-◌, ◌≤◌, ◌<◌}
use native.Mathlib.Omega.{arith}
use native.Mathlib.Decide.{ℕ_discrete}
use lib.Dec.{leb, ltb, eqb}
use lib.ListN.{length, get_or, set}
use lib.Seq.{get_or-set_same, get_or-set_other}
use borrow.Author.Tests.{eqb-true, eq-eqb, ne_eqb, le-leb, lt-ltb}
use Rattle.whole.specs.laws.Bools.{and_left, and_right, and-true, or_right, never, cond_yes, cond_no}
use Rattle.whole.specs.Fold.{tab, any, any_dir, Dir}
use Rattle.whole.specs.laws.Search.{as-dir, any-dir, any_where}
use Rattle.whole.specs.laws.Tab.{length-tab, get_or-tab, upto_all}
use Rattle.lattice.specs.Lattice.{pair_opp}
use Rattle.grid.specs.inner.Passes.{Amid, beside_at, turned_at, turned_by, MarkedBy}
use Rattle.arrivals.proofs.Arrivals.{opposite-some, opposite-most}
use Rattle.conversion.specs.inner.Flags.{Enclosed, turned_around}
use Rattle.conversion.proofs.Flags.{marked, wall-after, filled-flag, emptied-flag, born-flag, bared-flag, kept-flag}

-- ---- one mark: its own cell is written first, then the neighbours that the directions 1 to k lead to
written : (xs : List ℕ) (c x b : ℕ) → c < length xs → get_or (set xs c x) b 0 ≡ cond (eqb b c) x (get_or xs b 0)
written xs c x b h = by (ℕ_discrete b c)
  where
    by : Dec (b ≡ c) → get_or (set xs c x) b 0 ≡ cond (eqb b c) x (get_or xs b 0)
    by (yes p) = ap (λ (j : ℕ). get_or (set xs c x) j 0) p ∙ get_or-set_same xs c x 0 h ∙ sym (cond_yes x (get_or xs b 0) (eq-eqb b c p))
    by (no n) = get_or-set_other xs c b x 0 n ∙ sym (cond_no x (get_or xs b 0) (ne_eqb b c n))

module _ (flags off : List ℕ) (low c kind : ℕ) where
  abbrev near_before : ℕ → ℕ → Bool
  near_before k b = any k (λ a. eqb (c - low + get_or off (suc a) 0) b)

  -- cell b, whose flag was x
  abbrev pub partly : ℕ → ℕ → ℕ → ℕ
  partly k x b = cond (eqb (get_or flags b 0) kind && near_before k b) 1 x

  pub partly-first : (x b : ℕ) → x ≡ partly 0 x b
  unfolding any
  partly-first x b = by (eqb (get_or flags b 0) kind)
    where
      by : (t : Bool) → x ≡ cond (t && false) 1 x
      by true = refl
      by false = refl

  pub partly-all : (next out : List ℕ) → length out ≡ length flags → length next ≡ length flags → c < length flags
      → ((b : ℕ) → get_or out b 0 ≡ partly 18 (get_or (set next c (2 - kind)) b 0) b) → out ≡ tab (length flags) (turned_around flags next off low c kind)
  unfolding turned_around
  partly-all next out e n h f =
      upto_all 0 (turned_around flags next off low c kind) out (length flags) e
      (λ b k. f b ∙ ap (λ (x : ℕ). partly 18 x b) (written next c (2 - kind) b (omega (arith, n))))

  -- direction i
  module _ (i : ℕ) (h : 0 < i) where
    abbrev at : ℕ
    at = c - low + get_or off i 0

    more : (x b : ℕ) → partly (i + 1 - 1) x b ≡ cond (eqb (get_or flags b 0) kind && (near_before (i - 1) b || eqb at b)) 1 x
    unfolding any
    more x b =
        let e : i + 1 - 1 ≡ suc (i - 1) = omega arith in
        let f : suc (i - 1) ≡ i = omega arith in
        ap (λ (k : ℕ). partly k x b) e ∙ ap (λ (j : ℕ). cond (eqb (get_or flags b 0) kind && (near_before (i - 1) b || eqb (c - low + get_or off j 0) b)) 1 x) f

    -- it does not lead to b, or b is of another kind
    elsewhere : (x b : ℕ) → (at ≡ b → get_or flags b 0 ≡ kind → ⊥) → partly (i - 1) x b ≡ partly (i + 1 - 1) x b
    elsewhere x b f =
        ap (λ (t : Bool). cond t 1 x)
        (sym (same (eqb (get_or flags b 0) kind) (near_before (i - 1) b) (eqb at b) (λ t. ne_eqb at b (λ p. f p (eqb-true (get_or flags b 0) kind t))))) ∙ sym (more x b)
      where
        same : (x y z : Bool) → (x ≡ true → z ≡ false) → (x && (y || z)) ≡ (x && y)
        same true true z g = refl
        same true false z g = g refl
        same false y z g = refl

    pub partly-write : (out : List ℕ) (x b : ℕ) → at < length out → get_or flags at 0 ≡ kind → get_or out b 0 ≡ partly (i - 1) x b → get_or (set out at 1) b 0 ≡ partly (i + 1 - 1) x b
    partly-write out x b l f g = by (ℕ_discrete b at)
      where
        by : Dec (b ≡ at) → get_or (set out at 1) b 0 ≡ partly (i + 1 - 1) x b
        by (yes p) =
            ap (λ (j : ℕ). get_or (set out at 1) j 0) p ∙ get_or-set_same out at 1 0 l
            ∙ sym (cond_yes 1 x (and-true (eqb (get_or flags b 0) kind) (near_before (i - 1) b || eqb at b)
            (eq-eqb (get_or flags b 0) kind (ap (λ (j : ℕ). get_or flags j 0) p ∙ f)) (or_right (near_before (i - 1) b) (eqb at b) (eq-eqb at b (sym p)))))
            ∙ sym (more x b)
        by (no n) = get_or-set_other out at b 1 0 n ∙ g ∙ elsewhere x b (λ p q. n (sym p))

    pub partly-keep : (x b : ℕ) → (get_or flags at 0 ≡ kind → ⊥) → partly (i - 1) x b ≡ partly (i + 1 - 1) x b
    partly-keep x b f = elsewhere x b (λ p q. f (ap (λ (j : ℕ). get_or flags j 0) p ∙ q))

-- ---- from mark to mark

-- a mark m turns neighbours of a kind: a filled cell empty ones, an emptied cell fluid ones
abbrev pub Turns : ℕ → ℕ → Type 0
Turns m kind = ((m ≡ 1) × (kind ≡ 0)) ⊎ ((m ≡ 2) × (kind ≡ 2))

-- and no others
one-kind : {m kind other : ℕ} → Turns m kind → Turns m other → other ≡ kind
one-kind (inl t) (inl u) = u.1 ∙ sym t.1
one-kind (inl t) (inr u) = absurd (omega (arith, t.0, u.0))
one-kind (inr t) (inl u) = absurd (omega (arith, t.0, u.0))
one-kind (inr t) (inr u) = u.1 ∙ sym t.1

module _ (flags marks off : List ℕ) (low : ℕ) where
  abbrev flag : ℕ → ℕ
  flag b = get_or flags b 0

  abbrev mark : ℕ → ℕ
  mark b = get_or marks b 0

  abbrev near : ℕ → ℕ → ℕ
  near b i = b - low + get_or off i 0

  abbrev turned : ℕ → ℕ
  turned b = turned_by flags marks off low b

  -- no mark before c turns cell b
  pub record Still (c b : ℕ) : Type 0 where
    pub own : b < c → (mark b ≡ 1 → ⊥) × (mark b ≡ 2 → ⊥)
    pub beside : (i : ℕ) → Dir 18 i → near b i < c → Turns (mark (near b i)) (flag b) → ⊥

  pub record Underway (next : List ℕ) (c : ℕ) : Type 0 where
    pub to : c ≤ length flags
    pub size : length next ≡ length flags
    pub each : (b : ℕ) → b < length flags → (get_or next b 0 ≡ turned b) ⊎ ((get_or next b 0 ≡ flag b) × Still c b)

  -- nor does the one on c
  still-more : (c b : ℕ) → Still c b → (b ≡ c → (mark b ≡ 1 → ⊥) × (mark b ≡ 2 → ⊥)) → ((i : ℕ) → Dir 18 i → near b i ≡ c → Turns (mark (near b i)) (flag b) → ⊥)
      → Still (c + 1) b
  still-more c b s f g = record { own = λ h. here h (ℕ_discrete b c); beside = λ i d h. there i d h (ℕ_discrete (near b i) c) }
    where
      here : b < c + 1 → Dec (b ≡ c) → (mark b ≡ 1 → ⊥) × (mark b ≡ 2 → ⊥)
      here h (yes e) = f e
      here h (no n) = s.own (omega arith)

      there : (i : ℕ) → Dir 18 i → near b i < c + 1 → Dec (near b i ≡ c) → Turns (mark (near b i)) (flag b) → ⊥
      there i d h (yes e) = g i d e
      there i d h (no n) = s.beside i d (omega arith)

  -- a cell whose mark is neither turns nothing
  pub underway-skip : (next : List ℕ) (c : ℕ) → Underway next c → c < length flags → (mark c ≡ 1 → ⊥) → (mark c ≡ 2 → ⊥) → Underway next (c + 1)
  underway-skip next c r h f g = record {
    to = omega arith;
    size = r.size;
    each = λ b k. ⊎_elim (λ e. inl e) (λ e. inr (
      e.0,
      still-more c b e.1
          (λ p. (λ q. f (sym (ap mark p) ∙ q), λ q. g (sym (ap mark p) ∙ q)))
          (λ i d p t. ⊎_elim (λ x. f (sym (ap mark p) ∙ x.0)) (λ x. g (sym (ap mark p) ∙ x.0)) t),
    )) (r.each b k);
  }

  module _ (w : MarkedBy flags marks off low) (x : Enclosed flags off low) where
    -- there and back
    back : (b c a : ℕ) → a < 18 → low ≤ b → low ≤ c → near c (suc a) ≡ b → near b (pair_opp (suc a)) ≡ c
    back b c a h l m e = omega (arith, x.mirrored.pair (suc a) (omega arith), e)

    other_way : (a : ℕ) → a < 18 → Dir 18 (pair_opp (suc a))
    other_way a h = let l : pair_opp (suc a) < 19 = opposite-most a h in record { some = opposite-some a; most = omega arith }

    -- a wall stays; any other cell is in the range
    at-wall : (b : ℕ) → flag b ≡ 3 → turned b ≡ flag b
    at-wall b e = either (leb low b && ltb (b + low) (length flags))
      where
        either : (t : Bool) → cond t (turned_at flags marks off low b) (flag b) ≡ flag b
        either true = sym (wall-after (flag b) (beside_at marks off (b - low) 1) (eqb (mark b) 1) (eqb (mark b) 2) (beside_at marks off (b - low) 2) e)
        either false = refl

    in-range : (b : ℕ) → Amid (length flags) low b → turned b ≡ turned_at flags marks off low b
    in-range b g =
        cond_yes (turned_at flags marks off low b) (flag b) (and-true (leb low b) (ltb (b + low) (length flags)) (le-leb low b g.from) (lt-ltb (b + low) (length flags) g.to))

    -- a cell that no mark turns stays
    stays : (c b : ℕ) → length flags ≤ c → b < length flags → Still c b → flag b ≡ turned b
    unfolding beside_at
    stays c b n h s = by (ℕ_discrete (flag b) 3)
      where
        quiet : Amid (length flags) low b → (m kind : ℕ) → Turns m kind → (eqb (flag b) kind && beside_at marks off (b - low) m) ≡ false
        quiet g m kind t =
            never (eqb (flag b) kind && beside_at marks off (b - low) m)
            (λ e.
            let f : flag b ≡ kind = eqb-true (flag b) kind (and_left (eqb (flag b) kind) (beside_at marks off (b - low) m) e) in
            let p = any_where 18 (λ a. eqb (mark (near b (suc a))) m) (and_right (eqb (flag b) kind) (beside_at marks off (b - low) m) e) in
            let l : near b (suc p.0) < length flags = w.reaching.each b (suc p.0) g.from g.to (omega (arith, p.1)) in
            let q : mark (near b (suc p.0)) ≡ m = eqb-true (mark (near b (suc p.0))) m p.2 in
            s.beside (suc p.0) (as-dir p.1) (omega arith) (subst (λ (k : ℕ). Turns k (flag b)) (sym q) (subst (λ (k : ℕ). Turns m k) (sym f) t)))

        by : Dec (flag b ≡ 3) → flag b ≡ turned b
        by (yes e) = sym (at-wall b e)
        by (no f) =
            let g = x.inner b h f in
            let own = s.own (omega arith) in
            kept-flag (flag b) (mark b) (beside_at marks off (b - low) 1) (beside_at marks off (b - low) 2) (w.flagged b h) own.0 own.1 (quiet g 1 0 (inl (refl, refl))) (quiet g 2 2 (inr (refl, refl)))
            ∙ sym (in-range b g)

    -- the last mark is passed
    pub underway-all : (next : List ℕ) (c : ℕ) → Underway next c → length flags ≤ c → next ≡ tab (length flags) (turned_by flags marks off low)
    underway-all next c r n =
        upto_all 0 (turned_by flags marks off low) next (length flags) r.size (λ b h. ⊎_elim (λ e. e) (λ e. e.0 ∙ stays c b n h e.1) (r.each b h))

    -- a mark at c
    module _ (c m kind : ℕ) (h : c < length flags) (e : mark c ≡ m) (t : Turns m kind) where
      interface : flag c ≡ 1
      interface = marked (flag c) (mark c) (w.only c h) (λ z. ⊎_elim (λ u. absurd (omega (arith, u.0))) (λ u. absurd (omega (arith, u.0))) t)

      -- its cell has all its neighbours
      pub around : Amid (length flags) low c
      around = x.inner c h (λ z. absurd (omega (arith, interface)))

      -- its cell turns
      own_turn : 2 - kind ≡ turned c
      own_turn = by t ∙ sym (in-range c around)
        where
          by : Turns m kind → 2 - kind ≡ turned_at flags marks off low c
          by (inl u) = ap (λ (k : ℕ). 2 - k) u.1 ∙ filled-flag (flag c) (mark c) (beside_at marks off (c - low) 1) (beside_at marks off (c - low) 2) (w.only c h) (e ∙ u.0)
          by (inr u) = ap (λ (k : ℕ). 2 - k) u.1 ∙ emptied-flag (flag c) (mark c) (beside_at marks off (c - low) 1) (beside_at marks off (c - low) 2) (w.only c h) (e ∙ u.0)

      -- a neighbour of the kind that turns with it is interface
      beside-turn : (b a : ℕ) → b < length flags → a < 18 → near c (suc a) ≡ b → flag b ≡ kind → 1 ≡ turned b
      unfolding beside_at
      beside-turn b a k l p f = by t ∙ sym (in-range b g)
        where
          g : Amid (length flags) low b
          g = x.inner b k (λ z. ⊎_elim (λ u. absurd (omega (arith, u.1))) (λ u. absurd (omega (arith, u.1))) t)

          seen : beside_at marks off (b - low) m ≡ true
          seen =
              any-dir 18 (λ i. eqb (mark (near b i)) m) (pair_opp (suc a)) (other_way a l)
              (eq-eqb (mark (near b (pair_opp (suc a)))) m (ap mark (back b c a l g.from around.from p) ∙ e))

          both : (j n : ℕ) → m ≡ n → kind ≡ j → (eqb (flag b) j && beside_at marks off (b - low) n) ≡ true
          both j n q r = and-true (eqb (flag b) j) (beside_at marks off (b - low) n) (eq-eqb (flag b) j (f ∙ r)) (subst (λ (k : ℕ). beside_at marks off (b - low) k ≡ true) q seen)

          by : Turns m kind → 1 ≡ turned_at flags marks off low b
          by (inl u) = born-flag (flag b) (mark b) (beside_at marks off (b - low) 1) (beside_at marks off (b - low) 2) (both 0 1 u.0 u.1)
          by (inr u) = bared-flag (flag b) (mark b) (beside_at marks off (b - low) 1) (beside_at marks off (b - low) 2) (both 2 2 u.0 u.1)

      pub underway-mark : (next after : List ℕ) → Underway next c → after ≡ tab (length flags) (turned_around flags next off low c kind) → Underway after (c + 1)
      unfolding turned_around
      underway-mark next after r v = record {
        to = omega arith;
        size = ap length v ∙ length-tab (length flags) (turned_around flags next off low c kind);
        each = λ b k. by b k (eqb (flag b) kind && any_dir 18 (λ i. eqb (near c i) b)) refl (ℕ_discrete b c) (r.each b k);
      }
        where
          value : (b : ℕ) → b < length flags → get_or after b 0 ≡ turned_around flags next off low c kind b
          value b k = ap (λ (l : List ℕ). get_or l b 0) v ∙ get_or-tab (length flags) (turned_around flags next off low c kind) 0 b k

          by : (b : ℕ) → b < length flags → (u : Bool) → (eqb (flag b) kind && any_dir 18 (λ i. eqb (near c i) b)) ≡ u → Dec (b ≡ c)
              → (get_or next b 0 ≡ turned b) ⊎ ((get_or next b 0 ≡ flag b) × Still c b) → (get_or after b 0 ≡ turned b) ⊎ ((get_or after b 0 ≡ flag b) × Still (c + 1) b)
          by b k true q d s =
              let p = any_where 18 (λ a. eqb (near c (suc a)) b) (and_right (eqb (flag b) kind) (any_dir 18 (λ i. eqb (near c i) b)) q) in
              inl (value b k ∙ cond_yes 1 (cond (eqb b c) (2 - kind) (get_or next b 0)) q
              ∙ beside-turn b p.0 k p.1 (eqb-true (near c (suc p.0)) b p.2) (eqb-true (flag b) kind (and_left (eqb (flag b) kind) (any_dir 18 (λ i. eqb (near c i) b)) q)))
          by b k false q (yes d) s =
              inl (value b k ∙ cond_no 1 (cond (eqb b c) (2 - kind) (get_or next b 0)) q ∙ cond_yes (2 - kind) (get_or next b 0) (eq-eqb b c d) ∙ own_turn ∙ ap turned (sym d))
          by b k false q (no d) s =
              ⊎_elim (λ z. inl (kept ∙ z)) (λ z. inr (kept ∙ z.0, still-more c b z.1 (λ p. absurd (d p)) passed)) s
            where
              kept : get_or after b 0 ≡ get_or next b 0
              kept = value b k ∙ cond_no 1 (cond (eqb b c) (2 - kind) (get_or next b 0)) q ∙ cond_no (2 - kind) (get_or next b 0) (ne_eqb b c d)

              passed : (i : ℕ) → Dir 18 i → near b i ≡ c → Turns (mark (near b i)) (flag b) → ⊥
              passed zero o p u = omega (arith, o.some)
              passed (suc a) o p u =
                  let l : a < 18 = o.most in
                  let f : flag b ≡ kind = one-kind t (subst (λ (k : ℕ). Turns k (flag b)) (ap mark p ∙ e) u) in
                  let g : Amid (length flags) low b = x.inner b k (λ z. ⊎_elim (λ v. absurd (omega (arith, v.1))) (λ v. absurd (omega (arith, v.1))) t) in
                  false≢true (sym q ∙ and-true (eqb (flag b) kind) (any_dir 18 (λ i. eqb (near c i) b)) (eq-eqb (flag b) kind f)
                  (any-dir 18 (λ i. eqb (near c i) b) (pair_opp (suc a)) (other_way a l) (eq-eqb (near c (pair_opp (suc a))) b (back c b a l around.from g.from p))))
