-- A lent set with its index, as the calls have it, and what it is for one to load. Assumes nothing.
use Rattle.std.specs.Prelude.{◌≡◌}
use Rattle.grid.specs.declared.Sides.{Sides}
use Rattle.grid.specs.Answer.{Done}
use Rattle.grid.specs.Grid.{cells_of}
use Rattle.grid.specs.State.{Lent}
use Rattle.index.specs.Index.{Index, index_of}
use Rattle.index.specs.Outcome.{load_answer}

pub record Held : Type 0 where
  pub set : Lent
  pub index : Index

abbrev pub held : Lent → Index → Held
held set index = record { set = set; index = index }

-- a set with the index that its flags make
unfoldable pub indexed : Sides → Lent → Held
indexed s a = held a (index_of (cells_of s) a.flags)

-- a set that loading accepts with its index
abbrev pub Loads : Sides → Held → Type 0
Loads s a = load_answer s a.set a.index ≡ Done

-- names every definition of this file: whoever unfolds this computes with all of them
unfoldable pub open-held : Unit {0}
unfolding indexed
open-held = tt
