-- The figures of P10: roots and own p by p and T; case U, and case T once more, through a whole step in both modes. Assumes nothing.
use Rattle.std.specs.Prelude.{Bool, true, false, List, [], ◌∷◌, map, ℕ, ℤ, pos, negsuc}
use Rattle.lattice.specs.declared.Settings.{Settings}
use Rattle.turbulence.specs.Root.{root}
use Rattle.turbulence.specs.Turbulence.{under, own}
use Rattle.grid.specs.State.{Lent}
use Rattle.grid.specs.Outcome.{number_of, place_of, step_answer, step_second}
use Rattle.figures.specs.Cases.{sides, single, fallen, case_t, marks}
use Rattle.figures.specs.Table.{Figure, flat}

-- case U: case T's grid at p 2037 without gravity, with parts 1 and 2 at x, 5 and 6 at z
abbrev strained : ℤ → ℤ → Lent
strained x z =
    single
    (pos 196608
    ∷ x ∷ x ∷ pos 32768 ∷ pos 32768 ∷ z ∷ z
    ∷ pos 16384 ∷ pos 16384 ∷ pos 16384 ∷ pos 16384
    ∷ pos 16384 ∷ pos 16384 ∷ pos 16384 ∷ pos 16384
    ∷ pos 16384 ∷ pos 16384 ∷ pos 16384 ∷ pos 16384
    ∷ [])

abbrev case_u : Lent
case_u = strained (pos 33768) (pos 31768)

abbrev quick : Bool → Settings
quick turbulent = record { p = pos 2037; gx = pos 0; gy = pos 0; gz = pos 0; turbulent = turbulent }

-- case T's settings in the turbulent mode
abbrev falling_own : Settings
falling_own = record { p = pos 1024; gx = pos 0; gy = pos 0; gz = negsuc 1023; turbulent = true }

-- a step is accepted, and its second set
abbrev steps : Settings → Lent → Lent → Figure
steps g a said = record {
  worked = pos (number_of (step_answer sides g a a marks)) ∷ pos (place_of (step_answer sides g a a marks)) ∷ flat (step_second sides g a a marks);
  said = pos 0 ∷ pos 0 ∷ flat said;
}

-- of p and T: both roots and own p
abbrev rooted : ℕ → ℕ → ℕ → ℕ → ℕ → Figure
rooted p t first second mine =
    record { worked = map pos (root t ∷ root (under p (root t)) ∷ own p t ∷ []); said = map pos (first ∷ second ∷ mine ∷ []) }

abbrev pub turbulent_figures : List Figure
turbulent_figures =
    rooted 2037 0 0 140800 2037
    ∷ rooted 2037 360 18 178673 2037
    ∷ rooted 2037 361 19 180544 2036
    ∷ rooted 2037 8000000 2828 1385929 2021
    ∷ rooted 2037 347892350976 589824 19912262 1810
    ∷ rooted 1900 1000000 1000 2042932 1898
    ∷ rooted 1024 8000000 2828 13125512 1024
    ∷ rooted 1024 347892350976 589824 16492170 1002
    ∷ rooted 1 662000000000000 25729360 26201679 1
    ∷ rooted 2037 662000000000000 25729360 131511362 1110
    -- case U: parts 1 and 2 become 31,795, parts 5 and 6 33,741; in the plain mode 31,779 and 33,757
    ∷ steps (quick true) case_u (strained (pos 31795) (pos 33741))
    ∷ steps (quick false) case_u (strained (pos 31779) (pos 33757))
    -- case T is the same in both modes
    ∷ steps falling_own case_t (single fallen)
    ∷ []
