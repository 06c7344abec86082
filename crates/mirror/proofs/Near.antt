-- What an inner cell of a reflected state sees of its neighbours: flags, fills and parts are those of the reflected cell's neighbours in the reflected
-- directions; and so the normal is the reflected normal. Assumes nothing.
use mathlib.Core.Path.{◌≡◌, sym, ap, ap₂, ◌∙◌}
use mathlib.Core.Bool.{Bool, true, false}
use Prim.Native.Nat.{ℕ, ◌≤◌, ◌<◌}
use lib.IntN.{ℤ, pos, ◌-ℤ◌, +ℤ_invr}
use Rattle.whole.specs.laws.Ring.{neg-sub}
use Rattle.whole.specs.Fold.{Dir}
use Rattle.lattice.specs.Lattice.{V3, dot, Lattice}
use Rattle.grid.specs.Grid.{Grid}
use Rattle.grid.specs.State.{State, Scene, by_flag}
use Rattle.grid.specs.Step.{seen, normal}
use Rattle.grid.specs.Demands.{scene}
use Rattle.grid.proofs.Laid.{Laid}
use Rattle.mirror.specs.Mirror.{turn, reflect, Mirror, Ends, lacks, has, Reflection, Reflects}
use Rattle.mirror.proofs.Together.{ap₃}
use Rattle.mirror.proofs.Turned.{turn-zero, dot-across}

-- what lies at minus one less what lies at plus one, on an axis
ends-turn : (q : ℕ) (π : ℕ → ℕ) (b : Bool) (p m : ℕ) → Ends q π b p m → (f k : ℕ → ℤ) → ((i : ℕ) → Dir q i → f i ≡ k (π i)) → f m -ℤ f p ≡ turn b (k m -ℤ k p)
unfolding turn
ends-turn q π b p m (lacks e) f k r =
    ap (λ (i : ℕ). f m -ℤ f i) e ∙ +ℤ_invr (f m) ∙ sym (ap (turn b) (ap (λ (i : ℕ). k m -ℤ k i) e ∙ +ℤ_invr (k m)) ∙ turn-zero b)
ends-turn q π true p m (has dp dm ep em) f k r = ap₂ (λ (x y : ℤ). x -ℤ y) (r m dm ∙ ap k em) (r p dp ∙ ap k ep) ∙ sym (neg-sub (k m) (k p))
ends-turn q π false p m (has dp dm ep em) f k r = ap₂ (λ (x y : ℤ). x -ℤ y) (r m dm ∙ ap k em) (r p dp ∙ ap k ep)

module _ (L : Lattice) (G : Grid) (M : Mirror) (laid : Laid L G) (m : Reflection L G M)
    (s t : State) (same : Reflects M L.q G.cells s t) (c : ℕ) (h : c < G.cells) (o : G.outer c ≡ false) where
  abbrev q : ℕ
  q = L.q

  abbrev μ : ℕ → ℕ
  μ c = M.cell c

  abbrev π : ℕ → ℕ
  π k = M.dir k

  -- the neighbour in a direction, as the reflected cell has it in the reflected direction
  pub near-flag : (i : ℕ) → Dir q i → t.flag (G.near c i) ≡ s.flag (G.near (μ c) (π i))
  near-flag i d = same.flags (G.near c i) (laid.cell c i h o d) ∙ ap s.flag (sym (m.near c i h o d))

  pub near-fill : (i : ℕ) → Dir q i → t.fill (G.near c i) ≡ s.fill (G.near (μ c) (π i))
  near-fill i d = same.fills (G.near c i) (laid.cell c i h o d) ∙ ap s.fill (sym (m.near c i h o d))

  pub near-part : (i k : ℕ) → Dir q i → k ≤ q → t.part (G.near c i) k ≡ s.part (G.near (μ c) (π i)) (π k)
  near-part i k d l = same.parts (G.near c i) k (laid.cell c i h o d) l ∙ ap (λ (n : ℕ). s.part n (π k)) (sym (m.near c i h o d))

  -- ---- the normal, which stages 1 and 6 read
  module _ (g g' : V3) (p p' : ℕ → ℤ) where
    abbrev S : Scene
    S = scene L G s g p

    abbrev R : Scene
    R = scene L G t g' p'

    -- the fill seen in a direction; at a wall it is the cell's own
    pub seen_alike : (i : ℕ) → Dir q i → seen R c (G.near c i) ≡ seen S (μ c) (G.near (μ c) (π i))
    unfolding seen
    seen_alike i d = ap₃ (λ (f φ ψ : ℕ). by_flag f (pos φ) (pos φ) (pos φ) (pos ψ)) (near-flag i d) (near-fill i d) (same.fills c h)

    axis : (b : Bool) (p m : ℕ) → Ends q M.dir b p m
        → seen R c (G.near c m) -ℤ seen R c (G.near c p) ≡ turn b (seen S (μ c) (G.near (μ c) m) -ℤ seen S (μ c) (G.near (μ c) p))
    axis b p m e = ends-turn q M.dir b p m e (λ i. seen R c (G.near c i)) (λ i. seen S (μ c) (G.near (μ c) i)) seen_alike

    pub normal-turned : normal R c ≡ reflect M.axes (normal S (μ c))
    unfolding normal reflect
    normal-turned j = record {
      x = axis M.axes.x L.xp L.xm m.turns.x-ends j;
      y = axis M.axes.y L.yp L.ym m.turns.y-ends j;
      z = axis M.axes.z L.zp L.zm m.turns.z-ends j;
    }

    -- n·e is that of the reflected direction
    pub normal-along : (i : ℕ) → Dir q i → dot (normal R c) (L.e i) ≡ dot (normal S (μ c)) (L.e (π i))
    normal-along i d =
        ap (λ (v : V3). dot v (L.e i)) normal-turned ∙ dot-across M.axes (normal S (μ c)) (L.e i) ∙ ap (dot (normal S (μ c))) (sym (m.turns.e i d))
