-- Unique: no second number, place or value, and no second content of a lent slice, fits what an exported call promises. Assumes nothing.
use mathlib.Core.Path.{◌≡◌, sym, ap, ◌∙◌}
use mathlib.Core.List.{List}
use Prim.Native.Nat.{ℕ}
use lib.Dec.{lit<}
use lib.IntN.{ℤ}
use lib.Ieee.{Float}
use lib.ListN.{length}
use Rattle.grid.specs.declared.Sides.{Sides}
use Rattle.tunnel.specs.declared.Point.{Point}
use Rattle.std.specs.Prelude.{Result}
use Rattle.grid.specs.declared.refusals.Refusal.{Refusal}
use Rattle.tunnel.specs.Point.{WholePoint, point_values}
use Rattle.tunnel.specs.Depth.{Reading, Told}
use Rattle.tunnel.proofs.Floats.{exactly-one}
use Rattle.tunnel.proofs.Unique.{told-one}
use Rattle.profile.specs.Profile.{Survey}
use Rattle.profile.specs.Outcome.{tests_answer}
use Rattle.profile.proofs.Telling.{by_one}
use Rattle.hosttunnel.specs.Promise.{PlaceTold, PointTold, DepthTold, ProfileTold}

pub place-unique : (s : Sides) (edge : ℤ) (origin point : Point) {n m p q i j : ℕ} → PlaceTold s edge origin point n p i → PlaceTold s edge origin point m q j
    → (n ≡ m) × (p ≡ q) × (i ≡ j)
place-unique s edge origin point x y = (x.number_is ∙ sym y.number_is, x.place_is ∙ sym y.place_is, x.cell-is ∙ sym y.cell-is)

-- four `f32` whose values are given exactly
pub point-unique : {w : Result WholePoint Refusal} {n m p q : ℕ} {a a' b b' c c' f f' : Float} → PointTold w n p a b c f → PointTold w m q a' b' c' f'
    → (n ≡ m) × (p ≡ q) × (a ≡ a') × (b ≡ b') × (c ≡ c') × (f ≡ f')
point-unique {w = w} x y =
    (x.number_is ∙ sym y.number_is, x.place_is ∙ sym y.place_is, exactly-one _ _ (point_values w).x 2 (lit< tt) x.x-is y.x-is, exactly-one _ _ (point_values w).y 2 (lit< tt) x.y-is y.y-is, exactly-one _ _ (point_values w).z 2 (lit< tt) x.z-is y.z-is, exactly-one _ _ (point_values w).fill 65536 (lit< tt) x.fill_is y.fill_is)

pub depth-unique : {w : Reading} {n m p q i j : ℕ} {d e : Float} → DepthTold w n p i d → DepthTold w m q j e → (n ≡ m) × (p ≡ q) × (i ≡ j) × (d ≡ e)
depth-unique x y =
    let e = told-one x y in
    (ap (λ (t : Told). t.number) e, ap (λ (t : Told). t.place) e, ap (λ (t : Told). t.kind) e, ap (λ (t : Told). t.value) e)

-- every `f32` of the lines
pub profile-unique : (v : Survey) (chainages : List ℤ) (kinds : List ℕ) (depths : List Float) {n m p q w u i j : ℕ} {k l : List ℕ} {d e : List Float}
    → ProfileTold v chainages kinds depths n p w i k d → ProfileTold v chainages kinds depths m q u j l e
    → (n ≡ m) × (p ≡ q) × (w ≡ u) × (i ≡ j) × (k ≡ l) × (d ≡ e)
profile-unique v chainages kinds depths {d = d} {e = e} x y =
    (x.number_is ∙ sym y.number_is, x.place_is ∙ sym y.place_is, x.wet-is ∙ sym y.wet-is, x.deepest-is ∙ sym y.deepest-is, x.kinds-are ∙ sym y.kinds-are, by_one (tests_answer v chainages (length kinds) (length depths)) v (length chainages) depths d e x.depths-are y.depths-are)
