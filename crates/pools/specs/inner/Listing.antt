-- What the list of the pools holds on the way: entries emptied, a cell joined to its pool, and the cells below c listed. Assumes nothing.
use Rattle.std.specs.Prelude.{◌≡◌, cond, List, ℕ, suc, ◌+◌, ◌-◌, ◌≤◌, ◌<◌, ℤ, pos, nat_abs, ◌+ℤ◌, eqb, length, get_or, set}
use Rattle.whole.specs.Fold.{sum, count}
use Rattle.whole.specs.laws.Machine.{Within}

-- entries below k hold 0, those from n on are as they were
pub record Emptied (n k : ℕ) (counts : List ℕ) (waters : List ℤ) (counts' : List ℕ) (waters' : List ℤ) : Type 0 where
  pub counts-size : length counts' ≡ length counts
  pub waters-size : length waters' ≡ length waters
  pub cells : (j : ℕ) → j < k → get_or counts' j 0 ≡ 0
  pub water : (j : ℕ) → j < k → get_or waters' j (pos 0) ≡ pos 0
  pub cells_rest : (j : ℕ) → n ≤ j → get_or counts' j 0 ≡ get_or counts j 0
  pub water-rest : (j : ℕ) → n ≤ j → get_or waters' j (pos 0) ≡ get_or waters j (pos 0)

-- a mark that is set has an entry, with room for one cell more
pub record Entry (counts : List ℕ) (waters : List ℤ) (k : ℕ) : Type 0 where
  pub counted : k < length counts
  pub weighed : k < length waters
  pub cells : get_or counts k 0 < 4294967295
  pub water : Within (get_or waters k (pos 0)) 1000000000000

pub record Joining (counts : List ℕ) (waters : List ℤ) (m : ℕ) : Type 0 where
  pub entry : (m ≡ 0 → ⊥) → Entry counts waters (m - 1)

pub record Joined (counts : List ℕ) (waters : List ℤ) (m : ℕ) (mass : ℤ) (counts' : List ℕ) (waters' : List ℤ) : Type 0 where
  pub counts-are : counts' ≡ cond (eqb m 0) counts (set counts (m - 1) (get_or counts (m - 1) 0 + 1))
  pub waters-are : waters' ≡ cond (eqb m 0) waters (set waters (m - 1) (get_or waters (m - 1) (pos 0) +ℤ mass))

-- what is asked: no mark above n, room for n pools, masses in their range
pub record Listing (marks : List ℕ) (masses : List ℤ) (n : ℕ) (counts : List ℕ) (waters : List ℤ) : Type 0 where
  pub room : n ≤ length counts
  pub as_many : length counts ≡ length waters
  pub marks-low : (c : ℕ) → c < length marks → get_or marks c 0 ≤ n
  pub masses-size : length masses ≡ length marks
  pub few : length marks ≤ 262144
  pub masses-in : (c : ℕ) → c < length marks → nat_abs (get_or masses c (pos 0)) ≤ 2359296

-- the cells below c are listed
pub record Listed (marks : List ℕ) (masses : List ℤ) (n c : ℕ) (counts : List ℕ) (waters : List ℤ) (counts' : List ℕ) (waters' : List ℤ) : Type 0 where
  pub counts-size : length counts' ≡ length counts
  pub waters-size : length waters' ≡ length waters
  pub cells : (k : ℕ) → k < n → get_or counts' k 0 ≡ count c (λ j. eqb (get_or marks j 0) (suc k))
  pub water : (k : ℕ) → k < n → get_or waters' k (pos 0) ≡ sum c (λ j. cond (eqb (get_or marks j 0) (suc k)) (get_or masses j (pos 0)) (pos 0))
  pub cells_rest : (k : ℕ) → n ≤ k → get_or counts' k 0 ≡ get_or counts k 0
  pub water-rest : (k : ℕ) → n ≤ k → get_or waters' k (pos 0) ≡ get_or waters k (pos 0)
