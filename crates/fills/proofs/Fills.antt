-- The pass over the fills: every fill by its flag first, then those of interface cells, from one to the next. Assumes nothing.
use mathlib.Core.Path.{◌≡◌, ap, ap₂, ◌∙◌}
use mathlib.Core.Bool.{Bool, true, ◌&&◌}
use mathlib.Core.List.{List}
use Prim.Native.Nat.{ℕ, ◌+◌, ◌<◌, ◌≤◌}
use native.Mathlib.Omega.{arith}
use lib.Dec.{leb, ltb}
use lib.IntN.{ℤ}
use lib.ListN.{length, get_or, set}
use borrow.Author.Tests.{le-leb, lt-ltb}
use Rattle.whole.specs.laws.Bools.{and-true, cond_yes}
use Rattle.whole.specs.Fold.{tab, all}
use Rattle.whole.specs.laws.Tab.{length-tab, get_or-tab}
use Rattle.grid.proofs.Ranges.{Ranged, over-gap, ranged-first, ranged-more, ranged-keep, ranged-all}
use Rattle.fills.specs.inner.Filled.{fill_at, plain_at, fair_at, Refilled}
use Rattle.whole.specs.laws.Search.{all_none, all_more, all_past}
use Rattle.fills.proofs.Weighed.{fill-elsewhere, fair-elsewhere}

module _ (flags : List ℕ) (part : ℕ → ℕ → ℤ) (masses : List ℤ) (plain : List ℕ) where
  -- the first c cells have their fills and their masses are tested; the others have what their flag says
  abbrev pub Passed : List ℕ → Bool → ℕ → Type 0
  Passed fills fair c = Ranged 0 (fill_at flags part masses) plain 0 (length flags) fills c × (fair ≡ all c (fair_at flags masses))

  pub passed_none : Passed plain true 0
  passed_none = (ranged-first 0 (fill_at flags part masses) plain 0 (length flags) (omega arith), all_none (fair_at flags masses))

  module _ (is : plain ≡ tab (length flags) (plain_at flags)) (fills : List ℕ) (fair : Bool) where
    long : length plain ≡ length flags
    long = ap length is ∙ length-tab (length flags) (plain_at flags)

    pub passed-interface : (c x : ℕ) (b : Bool) → c < length flags → x ≡ fill_at flags part masses c → b ≡ fair_at flags masses c → Passed fills fair c → Passed (set fills c x) (fair && b) (c + 1)
    passed-interface c x b h e t p = (
      ranged-more 0 (fill_at flags part masses) plain 0 (length flags) fills c x p.0 h (omega (arith, long)) e,
      ap₂ ◌&&◌ p.1 t ∙ all_more c (fair_at flags masses),
    )

    pub passed-other : (c : ℕ) → c < length flags → (get_or flags c 0 ≡ 1 → ⊥) → Passed fills fair c → Passed fills fair (c + 1)
    passed-other c h n p = (
      ranged-keep 0 (fill_at flags part masses) plain 0 (length flags) fills c p.0 h
          (ap (λ (l : List ℕ). get_or l c 0) is ∙ get_or-tab (length flags) (plain_at flags) 0 c h ∙ fill-elsewhere flags part masses c h n),
      all_past c (fair_at flags masses) p.1 (fair-elsewhere flags part masses c h n),
    )

    pub passed-gap : (a b : ℕ) → a ≤ b → b ≤ length flags → ((j : ℕ) → a ≤ j → j < b → get_or flags j 0 ≡ 1 → ⊥) → Passed fills fair a → Passed fills fair b
    passed-gap a b h k none = over-gap (Passed fills fair) a b h (λ j l m. passed-other j (omega arith) (none j l m))

    pub refilled : (c : ℕ) → length flags ≤ c → Passed fills fair c → Refilled flags part masses fills fair
    refilled c h p =
        record {
          fills-are = ranged-all 0 (fill_at flags part masses) plain 0 (length flags) fills c (length flags) (fill_at flags part masses) p.0 h long
              (λ j k. cond_yes (fill_at flags part masses j) (get_or plain j 0) (and-true (leb 0 j) (ltb j (length flags)) (le-leb 0 j (omega arith)) (lt-ltb j (length flags) k)));
          fair-is = p.1 ∙ ap (λ (n : ℕ). all n (fair_at flags masses)) end;
        }
      where
        end : c ≡ length flags
        end = omega (arith, p.0.to)
