-- Demand 3 of each scheme, over any history of both: masses + carry + taken − poured of the grid that a scheme makes with the map never change by one unit,
-- whatever the two designers do. Assumes nothing.
use mathlib.Core.Path.{◌≡◌, refl, ap, ◌∙◌}
use mathlib.Core.Bool.{Bool}
use mathlib.Core.List.{List, [], ◌∷◌}
use Prim.Native.Nat.{ℕ}
use lib.IntN.{ℤ, ◌+ℤ◌, ◌-ℤ◌}
use Rattle.grid.specs.declared.Sides.{Sides}
use Rattle.grid.specs.Answer.{Answer}
use Rattle.grid.specs.Answer.{Done}
use Rattle.grid.specs.State.{Lent}
use Rattle.grid.specs.Demands.{water_of}
use Rattle.pumps.specs.Three.{number_in}
use Rattle.pumps.specs.Demands.{balance}
use Rattle.schemes.specs.Scheme.{joined}
use Rattle.walls.specs.Outcome.{wall_answer, wall_map}
use Rattle.walls.proofs.Kept.{kept-holds}
use Rattle.isolation.specs.History.{does, asks, Turn, mine, theirs, World, Sound, after, reached}
use Rattle.isolation.specs.Claims.{Balanced, Conserved}
use Rattle.isolation.proofs.Done.{done-balance}
use Rattle.isolation.proofs.Isolated.{act-kept, sound-kept, map-told}
use Rattle.std.specs.Prelude.{Ok, Err}

-- the map has no part in the balance but by the water
from-water : (s : Sides) (map map' : List ℕ) (x : Lent) → water_of s (joined s map' x) ≡ water_of s (joined s map x) → balance s (joined s map' x) ≡ balance s (joined s map x)
unfolding balance joined
from-water s map map' x e = ap (λ (w : ℤ). w +ℤ number_in x 2 -ℤ number_in x 1) e

wall-balance : (s : Sides) (map : List ℕ) (a b : Lent) (add : Bool) (c : ℕ)
    → (balance s (joined s (wall_map s map a b add c) a) ≡ balance s (joined s map a)) × (balance s (joined s (wall_map s map a b add c) b) ≡ balance s (joined s map b))
wall-balance s map a b add c = go (wall_answer s map a b add c) refl
  where
    go : (x : Answer) → wall_answer s map a b add c ≡ x
        → (balance s (joined s (wall_map s map a b add c) a) ≡ balance s (joined s map a)) × (balance s (joined s (wall_map s map a b add c) b) ≡ balance s (joined s map b))
    go (Ok _) e =
        let k = kept-holds s map a b add c e in
        (from-water s map (wall_map s map a b add c) a k.0.water-is, from-water s map (wall_map s map a b add c) b k.1.water-is)
    go (Err refusal) e =
        let q = map-told s map a b add c (Err refusal) e in
        (ap (λ (m : List ℕ). balance s (joined s m a)) q, ap (λ (m : List ℕ). balance s (joined s m b)) q)

turn-balance : (s : Sides) (t : Turn) (w : World) → Sound s w → Balanced s (after s t w) w
turn-balance s (mine (does d)) w k = record { own = done-balance s w.map w.own d k.own; other = refl }
turn-balance s (mine (asks add c)) w k = let r = wall-balance s w.map w.own w.other add c in record { own = r.0; other = r.1 }
turn-balance s (theirs (does d)) w k = record { own = refl; other = done-balance s w.map w.other d k.other }
turn-balance s (theirs (asks add c)) w k = let r = wall-balance s w.map w.other w.own add c in record { own = r.1; other = r.0 }

balanced : (s : Sides) (h : List Turn) (w : World) → Sound s w → Balanced s (reached s h w) w
unfolding reached
balanced s [] w k = record { own = refl; other = refl }
balanced s (t ∷ h) w k =
    let r = balanced s h (after s t w) (act-kept s t w k) in
    let q = turn-balance s t w k in
    record { own = r.own ∙ q.own; other = r.other ∙ q.other }

pub conserved-holds : Conserved
conserved-holds s h w k = (sound-kept s h w k, balanced s h w k)
