-- What the inner functions of pour and take ask and tell. Assumes nothing.
use Rattle.std.specs.Prelude.{◌≡◌, Bool, cond, List, ℕ, ◌+◌, ◌*◌, ◌≤◌, ◌<◌, ℤ, pos, ◌+ℤ◌, length, get_or, set, Option, Some, None, Ok, Err}
use Rattle.whole.specs.laws.Machine.{Within}
use Rattle.lattice.specs.Lattice.{d3q19, density}
use Rattle.lattice.specs.Cell.{fill_of}
use Rattle.grid.specs.State.{part_of}
use Rattle.grid.specs.inner.Fill.{Weighty}
use Rattle.pumps.specs.declared.effect.Change.{Change}
use Rattle.pumps.specs.Acts.{Acted, act_good, moved_of, mass_of}
use Rattle.grid.specs.declared.refusals.Refusal.TheVariants.{BadAmount}

-- the numbers of an act
abbrev pub change_of : Bool → ℤ → ℤ → ℤ → Change
change_of pour amount mass total =
    record { moved = moved_of pour amount mass; mass = mass_of pour mass (moved_of pour amount mass); total = total +ℤ moved_of pour amount mass }

-- they are told exactly where test 16 passes
pub record EffectIs (pour : Bool) (amount mass total : ℤ) (r : Option Change) : Type 0 where
  pub told : r ≡ cond (act_good pour amount mass total) (Some (change_of pour amount mass total)) None

pub record Working (parts masses : List ℤ) (fills : List ℕ) (carry : List ℤ) (c k : ℕ) : Type 0 where
  pub parts-size : 19 * c + 19 ≤ length parts
  pub weighty : Weighty (part_of parts c)
  pub in-masses : c < length masses
  pub in-fills : c < length fills
  pub in-carry : k < length carry
  pub mass : Within (get_or masses c (pos 0)) 2359296
  pub total : Within (get_or carry k (pos 0)) 1000000000000000

abbrev pub move_or : Bool → ℤ → Acted
move_or good moved = cond good (Ok moved) (Err BadAmount)

pub record Worked (pour : Bool) (c : ℕ) (amount : ℤ) (k : ℕ) (parts masses : List ℤ) (fills : List ℕ) (carry : List ℤ) (answer : Acted) (masses' : List ℤ) (fills' : List ℕ) (carry' : List ℤ) : Type 0 where
  pub answer-is : (let m = get_or masses c (pos 0) in answer ≡ move_or (act_good pour amount m (get_or carry k (pos 0))) (moved_of pour amount m))
  pub masses-are : (let m = get_or masses c (pos 0) in
      masses' ≡ cond (act_good pour amount m (get_or carry k (pos 0))) (set masses c (mass_of pour m (moved_of pour amount m))) masses)
  pub fills-are : (let m = get_or masses c (pos 0) in
      fills' ≡ cond (act_good pour amount m (get_or carry k (pos 0))) (set fills c (fill_of (mass_of pour m (moved_of pour amount m)) (density d3q19 (part_of parts c)))) fills)
  pub carry-is : (let m = get_or masses c (pos 0) in
      carry' ≡ cond (act_good pour amount m (get_or carry k (pos 0))) (set carry k (get_or carry k (pos 0) +ℤ moved_of pour amount m)) carry)
