-- What the reader of an invert promises a host, for every input: number and place of its outcome, the values that the host did not give, and every lent slice. Assumes nothing.
use Rattle.std.specs.Prelude.{◌≡◌, List, ℕ, ℤ}
use Rattle.lattice.specs.declared.Settings.{Settings}
use Rattle.grid.specs.State.{Lent}
use Rattle.grid.specs.Outcome.{number_of, place_of}
use Rattle.record.specs.declared.Head.{Head}
use Rattle.index.specs.Index.{Index}
use Rattle.invert.specs.Outcome.{read_head, lengths_of, set_by, index_by}

-- the reader's head, lent set a and index x
abbrev pub head_of : List ℕ → ℕ → ℤ → Settings → Lent → Index → Head
head_of text nz oz g a x = read_head text nz oz g (lengths_of a x)

pub record InvertTold (text : List ℕ) (nz : ℕ) (oz : ℤ) (g : Settings) (a : Lent) (x : Index) (number place nx ny : ℕ) (edge ox oy : ℤ) (b : Lent) (y : Index) : Type 0 where
  pub number_is : number ≡ number_of (head_of text nz oz g a x).answer
  pub place_is : place ≡ place_of (head_of text nz oz g a x).answer
  pub nx-is : nx ≡ (head_of text nz oz g a x).sides.nx
  pub ny-is : ny ≡ (head_of text nz oz g a x).sides.ny
  pub edge-is : edge ≡ (head_of text nz oz g a x).site.edge
  pub ox-is : ox ≡ (head_of text nz oz g a x).site.x
  pub oy-is : oy ≡ (head_of text nz oz g a x).site.y
  pub set_is : b ≡ set_by (head_of text nz oz g a x) text a
  pub index_is : y ≡ index_by (head_of text nz oz g a x) x
