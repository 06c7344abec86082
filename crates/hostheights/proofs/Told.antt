-- From the reader's own promise to the exported call's: number and place of the answer, and the head's numbers one by one. Assumes nothing.
use mathlib.Core.Path.{◌≡◌, ap, ◌∙◌, subst}
use mathlib.Core.List.{List}
use Prim.Native.Nat.{ℕ}
use lib.IntN.{ℤ}
use Rattle.lattice.specs.declared.Settings.{Settings}
use Rattle.grid.specs.State.{Lent}
use Rattle.grid.specs.Outcome.{number_of, place_of}
use Rattle.record.specs.declared.Head.{Head}
use Rattle.index.specs.Index.{Index}
use Rattle.invert.specs.Outcome.{Inverted}
use Rattle.hostheights.specs.Invert.{InvertTold}

pub invert-told : {text : List ℕ} {nz : ℕ} {oz z : ℤ} {g k : Settings} {a b : Lent} {x y : Index} {h : Head} {number place nx ny : ℕ} {edge ox oy : ℤ}
    → z ≡ oz → k ≡ g → Inverted text nz z k a x h b y → number ≡ number_of h.answer → place ≡ place_of h.answer
    → nx ≡ h.sides.nx → ny ≡ h.sides.ny → edge ≡ h.site.edge → ox ≡ h.site.x → oy ≡ h.site.y
    → InvertTold text nz oz g a x number place nx ny edge ox oy b y
invert-told {text} {nz} {oz} {z} {g} {k} {a} {b} {x} {y} {h} {number} {place} {nx} {ny} {edge} {ox} {oy} p q i n l ex ey ee eox eoy =
    subst (λ (w : ℤ). InvertTold text nz w g a x number place nx ny edge ox oy b y) p
    (subst (λ (w : Settings). InvertTold text nz z w a x number place nx ny edge ox oy b y) q
    (record {
      number_is = n ∙ ap (λ (w : Head). number_of w.answer) i.head-is;
      place_is = l ∙ ap (λ (w : Head). place_of w.answer) i.head-is;
      nx-is = ex ∙ ap (λ (w : Head). w.sides.nx) i.head-is;
      ny-is = ey ∙ ap (λ (w : Head). w.sides.ny) i.head-is;
      edge-is = ee ∙ ap (λ (w : Head). w.site.edge) i.head-is;
      ox-is = eox ∙ ap (λ (w : Head). w.site.x) i.head-is;
      oy-is = eoy ∙ ap (λ (w : Head). w.site.y) i.head-is;
      set_is = i.set_is;
      index_is = i.index_is;
    }))
