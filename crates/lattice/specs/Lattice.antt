-- Lattices with paired opposite directions: document 01's D3Q19 in its order, and document 02's D2Q9. Assumes nothing.
use Rattle.std.specs.Prelude.{ℕ, zero, suc, ◌%◌, cond, List, [], ◌∷◌, ℤ, pos, negsuc, ◌+ℤ◌, ◌*ℤ◌, eqb, get_or}
use Rattle.whole.specs.Fold.{sum, dirs}

-- a vector; the flume's y is 0
pub record V3 : Type 0 where
  pub x : ℤ
  pub y : ℤ
  pub z : ℤ

abbrev pub dot : V3 → V3 → ℤ
dot a b = a.x *ℤ b.x +ℤ a.y *ℤ b.y +ℤ a.z *ℤ b.z

-- directions 1 to q, and 0 for rest; xp is the direction of plus x, xm of minus x, and so on, 0 where the lattice lacks the axis
pub record Lattice : Type 0 where
  pub q : ℕ
  pub weight : ℕ → ℕ
  pub e : ℕ → V3
  pub opp : ℕ → ℕ
  pub xp : ℕ
  pub xm : ℕ
  pub yp : ℕ
  pub ym : ℕ
  pub zp : ℕ
  pub zm : ℕ

-- density ρ: the sum of a cell's parts
unfoldable pub density : Lattice → (ℕ → ℤ) → ℤ
density L f = sum (suc L.q) f

-- momentum j: the sum of part times direction
unfoldable pub momentum : Lattice → (ℕ → ℤ) → V3
momentum L f = record {
  x = dirs L.q (λ k. f k *ℤ (L.e k).x);
  y = dirs L.q (λ k. f k *ℤ (L.e k).y);
  z = dirs L.q (λ k. f k *ℤ (L.e k).z);
}

-- the opposite of odd k is k + 1
abbrev pub pair_opp : ℕ → ℕ
pair_opp zero = 0
pair_opp (suc a) = cond (eqb (a % 2) 0) (suc (suc a)) a

-- a row of the table of directions: weight in 36ths, and the vector
pub record Row : Type 0 where
  pub weight : ℕ
  pub e : V3

abbrev row : ℕ → ℤ → ℤ → ℤ → Row
row w x y z = record { weight = w; e = record { x = x; y = y; z = z } }

abbrev m : ℤ
m = negsuc 0

abbrev o : ℤ
o = pos 0

abbrev p : ℤ
p = pos 1

-- directions 0 to 18, as document 01 lists them
unfoldable pub rows19 : List Row
rows19 =
    row 12 o o o
    ∷ row 2 p o o ∷ row 2 m o o ∷ row 2 o p o ∷ row 2 o m o ∷ row 2 o o p ∷ row 2 o o m
    ∷ row 1 p p o ∷ row 1 m m o ∷ row 1 p m o ∷ row 1 m p o
    ∷ row 1 o p p ∷ row 1 o m m ∷ row 1 o p m ∷ row 1 o m p
    ∷ row 1 p o p ∷ row 1 m o m ∷ row 1 p o m ∷ row 1 m o p
    ∷ []

-- the flume's directions 1 to 8 are 1, 2, 5, 6, 15 to 18 of those, without y
unfoldable pub rows9 : List Row
rows9 =
    row 16 o o o
    ∷ row 4 p o o ∷ row 4 m o o ∷ row 4 o o p ∷ row 4 o o m
    ∷ row 1 p o p ∷ row 1 m o m ∷ row 1 p o m ∷ row 1 m o p
    ∷ []

abbrev none : Row
none = row 0 o o o

unfoldable pub d3q19 : Lattice
d3q19 = record {
  q = 18;
  weight = λ k. (get_or rows19 k none).weight;
  e = λ k. (get_or rows19 k none).e;
  opp = pair_opp;
  xp = 1;
  xm = 2;
  yp = 3;
  ym = 4;
  zp = 5;
  zm = 6;
}

unfoldable pub d2q9 : Lattice
d2q9 = record {
  q = 8;
  weight = λ k. (get_or rows9 k none).weight;
  e = λ k. (get_or rows9 k none).e;
  opp = pair_opp;
  xp = 1;
  xm = 2;
  yp = 0;
  ym = 0;
  zp = 3;
  zm = 4;
}

-- names every definition of this file: whoever unfolds this computes with all of them
unfoldable pub open-lattice : Unit {0}
unfolding density momentum rows19 rows9 d3q19 d2q9
open-lattice = tt
