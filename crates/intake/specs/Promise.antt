-- What the reader promises of its answer and of every lent slice, refused or not: each equals the outcome's definition. Assumes nothing.
use Rattle.std.specs.Prelude.{◌≡◌, List, ℕ, ℤ}
use Rattle.record.specs.declared.Head.{Head}
use Rattle.index.specs.Index.{Index}
use Rattle.index.specs.Held.{Held}
use Rattle.intake.specs.Reading.{read_head, read_held}

-- its answer with sides, settings and origin, the four slices, and the index
pub record Read (r : List ℕ) (a : Held) (head : Head) (parts masses : List ℤ) (fills : List ℕ) (carry : List ℤ) (index : Index) : Type 0 where
  pub head-is : head ≡ read_head r a
  pub parts_are : parts ≡ (read_held r a).set.parts
  pub masses-are : masses ≡ (read_held r a).set.masses
  pub fills-are : fills ≡ (read_held r a).set.fills
  pub carry-is : carry ≡ (read_held r a).set.carry
  pub index_is : index ≡ (read_held r a).index
