-- What is demanded of the reader of an invert beyond its outcome: what it accepts, loading accepts, and no cell is liquid. Assumes nothing.
use Rattle.std.specs.Prelude.{◌≡◌, true, false, List, ℕ, ℤ, get_or}
use Rattle.lattice.specs.declared.Settings.{Settings}
use Rattle.grid.specs.declared.Sides.{Sides}
use Rattle.grid.specs.Answer.{Done}
use Rattle.grid.specs.State.{Lent, liquid}
use Rattle.grid.specs.Outcome.{accepted}
use Rattle.pumps.specs.Three.{three_answer}
use Rattle.index.specs.Index.{Index}
use Rattle.index.specs.Outcome.{load_answer}
use Rattle.invert.specs.Outcome.{read_head, lengths_of, set_by, index_by}

-- the check and loading accept the set b and the index y of this grid, and none of its cells is liquid
pub record Loads (s : Sides) (b : Lent) (y : Index) : Type 0 where
  pub checks : three_answer s b ≡ Done
  pub loads : load_answer s b y ≡ Done
  pub without-water : (c : ℕ) → liquid (get_or b.flags c 3) ≡ false

-- whatever text, host's numbers, set and index: if the reader accepts, loading accepts what it leaves
abbrev pub Loadable : Type 0
Loadable =
    (text : List ℕ) (nz : ℕ) (oz : ℤ) (g : Settings) (a : Lent) (x : Index) → let h = read_head text nz oz g (lengths_of a x) in
    accepted h.answer ≡ true → Loads h.sides (set_by h text a) (index_by h x)
