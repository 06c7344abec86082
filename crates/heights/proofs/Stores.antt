-- One byte stored before those that stand further on changes places with them. Assumes nothing.
use mathlib.Core.Path.{◌≡◌, refl, ap, ◌∙◌}
use mathlib.Core.List.{List, [], ◌∷◌}
use Prim.Native.Nat.{ℕ, suc, ◌<◌}
use native.Mathlib.Omega.{arith}
use lib.ListN.{set}
use lib.Seq.{sets, set_comm}

pub set-sets : (l : List ℕ) (p i d : ℕ) (vs : List ℕ) → i < p → set (sets l p vs) i d ≡ sets (set l i d) p vs
set-sets l p i d [] h = refl
set-sets l p i d (v ∷ vs) h =
    set-sets (set l p v) (suc p) i d vs (omega arith)
    ∙ ap (λ (x : List ℕ). sets x (suc p) vs) (set_comm l p i v d (λ e. omega arith))
