-- The figures of two designers stand in the table: walls has computed each answer. Assumes nothing.
use mathlib.Core.Path.{◌≡◌, sym, subst}
use mathlib.Core.List.{List, [], ◌∷◌}
use lib.Dec.{T}
use Rattle.grid.specs.Answer.{Answer}
use Rattle.grid.specs.State.{Lent}
use Rattle.walls.specs.Figures.{scheme_b, scheme_dry, Whoever}
use Rattle.walls.proofs.Figures.{figures-hold}
use Rattle.figures.specs.Table.{Figure, same_z, hold}
use Rattle.figures.specs.Designers.{told_as, whoever_figures, designer_figures}
use Rattle.figures.proofs.Lakes.{more}

-- an answer that is the one said
module _ {a b : Answer} (e : a ≡ b) (s : T (same_z (told_as b) (told_as b))) where
  by : T (same_z (told_as a) (told_as b))
  by = subst (λ (x : Answer). T (same_z (told_as x) (told_as b))) (sym e) s

-- figure by figure
data Each : List Figure → Type 0 where
  none : Each []
  also : {f : Figure} {fs : List Figure} → T (same_z f.worked f.said) → Each fs → Each (f ∷ fs)

each-hold : (fs : List Figure) → Each fs → T (hold fs)
each-hold [] none = tt
each-hold (f ∷ fs) (also s e) = more f fs s (each-hold fs e)

whoever : (x : Lent) → Whoever x → (rest : List Figure) → Each rest → Each (whoever_figures x rest)
whoever x w rest e = also (by w.wall-21 tt) (also (by w.wall-22 tt) (also (by w.wall-45 tt) (also (by w.out-0 tt) (also (by w.out-23 tt) e))))

pub designers-hold : T (hold designer_figures)
designers-hold =
    each-hold designer_figures
    (whoever scheme_b figures-hold.beside-B _
    (also (by figures-hold.B-wall-23 tt)
    (also (by figures-hold.B-out-22 tt)
    (whoever scheme_dry figures-hold.beside-dry _
    (also (by figures-hold.dry-wall-23 tt)
    (also (by figures-hold.dry-out-22 tt)
    (also (by figures-hold.own-flag-3 tt)
    (also (by figures-hold.own-flag-1 tt) none))))))))
