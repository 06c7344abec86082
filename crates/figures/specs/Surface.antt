-- The grid of the index's figures, 5×5×5 with the interface cells 31 and 93, and the words of it and of case T. Assumes nothing.
use Rattle.std.specs.Prelude.{cond, List, [], ◌∷◌, ℕ, ◌+◌, ◌^◌, pos, replicate, set}
use Rattle.std.proofs.lemmas.List.Edits.{sets}
use Rattle.whole.specs.Fold.{tab}
use Rattle.grid.specs.declared.Sides.{Sides}
use Rattle.grid.specs.Grid.{grid_of}
use Rattle.grid.specs.State.{Lent, lent}
use Rattle.figures.specs.Cases.{rest}

-- case T's one word
abbrev pub words_t : List ℕ
words_t = 8192 ∷ []

abbrev pub cube : Sides
cube = record { nx = 5; ny = 5; nz = 5 }

-- wall outside, empty inside but for two interface cells with case T's parts and mass
abbrev pub two : Lent
two =
    lent (set (set (tab 125 (λ c. cond ((grid_of cube).outer c) 3 0)) 31 1) 93 1)
    (sets (sets (replicate 2375 (pos 0)) 589 rest) 1767 rest)
    (set (set (replicate 125 (pos 0)) 31 (pos 294912)) 93 (pos 294912))
    (set (set (replicate 125 0) 31 32768) 93 32768)
    (pos 0 ∷ pos 0 ∷ pos 0 ∷ [])

abbrev pub words_two : List ℕ
words_two = 2147483648 ∷ 536870912 ∷ []

-- the same with bit 61 of word 1 set too, which is no cell
abbrev pub past : List ℕ
past = 2147483648 ∷ (536870912 + 2 ^ 61) ∷ []
