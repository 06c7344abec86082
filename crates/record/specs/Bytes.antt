-- Numbers as bytes, little-endian: reading them at a place, and writing them. Assumes nothing.
use Rattle.std.specs.Prelude.{ℕ, zero, suc, ◌+◌, ◌*◌, ◌/◌, ◌%◌, ◌≤◌, ◌≡◌, List, [], ◌∷◌, ◌++◌, ℤ, length, take, drop}
use Rattle.std.specs.Int.{w32, w64}
use Rattle.std.proofs.Common.{to_z, of_z}

-- the number that bytes stand for, the lowest first, and the k lowest bytes of a number
unfoldable pub value : List ℕ → ℕ
value [] = 0
value (b ∷ bs) = b + 256 * value bs

unfoldable pub bytes_of : ℕ → ℕ → List ℕ
bytes_of zero n = []
bytes_of (suc k) n = n % 256 ∷ bytes_of k (n / 256)

-- the k bytes from `at` on
abbrev pub part : ℕ → ℕ → List ℕ → List ℕ
part k at s = take k (drop at s)

-- u32, and i32 and i64 in two's complement, at a place
abbrev pub u32_at : List ℕ → ℕ → ℕ
u32_at s at = value (part 4 at s)

abbrev pub i32_at : List ℕ → ℕ → ℤ
i32_at s at = to_z w32 (value (part 4 at s))

abbrev pub i64_at : List ℕ → ℕ → ℤ
i64_at s at = to_z w64 (value (part 8 at s))

-- and their bytes
abbrev pub u32_of : ℕ → List ℕ
u32_of n = bytes_of 4 n

abbrev pub i32_of : ℤ → List ℕ
i32_of z = bytes_of 4 (of_z w32 z)

abbrev pub i64_of : ℤ → List ℕ
i64_of z = bytes_of 8 (of_z w64 z)

-- lists of bytes, one after the other: those of a list, and those of 0, 1, .., n − 1
unfoldable pub join : List (List ℕ) → List ℕ
join [] = []
join (b ∷ bs) = b ++ join bs

unfoldable pub gathered : ℕ → (ℕ → List ℕ) → List ℕ
gathered zero f = []
gathered (suc n) f = gathered n f ++ f n

-- a section of n numbers is there: its count, and its bytes
pub record Held (r : List ℕ) (from n size : ℕ) : Type 0 where
  pub count : u32_at r from ≡ n
  pub inside : from + 4 + size * n ≤ length r

-- names every definition of this file: whoever unfolds this computes with all of them
unfoldable pub open-bytes : Unit {0}
unfolding value bytes_of join gathered
open-bytes = tt
