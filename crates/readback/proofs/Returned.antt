-- The demands hold: what is spelled is read, and the reader accepts every text that the writer writes. Assumes nothing.
use Rattle.std.proofs.Common.{Result, Ok}
use mathlib.Core.Path.{◌≡◌, refl, ap, ◌∙◌}
use mathlib.Core.Bool.{Bool, true, false, cond, ◌&&◌}
use mathlib.Core.List.{List}
use Prim.Native.Nat.{ℕ, zero, suc, ◌*◌, ◌/◌, ◌≤◌, ◌<◌}
use native.Mathlib.Nat.{mul-le-mul_left}
use native.Mathlib.Omega.{arith}
use borrow.Author.Tests.{leb-true}
use lib.IntN.{ℤ, pos, negsuc, nat_abs}
use lib.ListN.{length, drop}
use lib.Seq.{take_at}
use lib.Signed.{le_z}
use Rattle.whole.specs.laws.Bools.{and_left, and_right}
use Rattle.whole.specs.Fold.{all, total}
use Rattle.whole.specs.laws.Sums.{total-le}
use Rattle.lattice.specs.Cell.{edge_good, coordinate_good}
use Rattle.lattice.specs.declared.Settings.{Settings}
use Rattle.grid.specs.declared.Sides.{Sides}
use Rattle.grid.specs.Answer.{Answer}
use Rattle.grid.specs.Answer.{Done}
use Rattle.grid.specs.State.{Lent}
use Rattle.grid.proofs.GoodSides.{good-sides}
use Rattle.tunnel.specs.Depth.{is_wall, open_fill}
use Rattle.tunnel.proofs.Columns.{open-le}
use Rattle.numerals.specs.Text.{from_line}
use Rattle.heights.specs.declared.header.Frame.{Frame}
use Rattle.heights.specs.Header.{header_of}
use Rattle.heights.specs.Rows.{rows_of}
use Rattle.invert.specs.declared.testing.Lengths.{Lengths}
use Rattle.invert.specs.Outcome.{given_answer, rows_answer, grid_answer, told_head, head_by, read_head}
use Rattle.depths.specs.declared.Corner.{Corner}
use Rattle.depths.specs.inner.Asks.{Measured}
use Rattle.depths.specs.Map.{header_text, depth_at, rows_text, map_text}
use Rattle.depths.specs.Outcome.{map_of, corner_good, map_answer, map_written, map_room}
use Rattle.depths.proofs.Measuring.{none-bad}
use Rattle.depths.proofs.WrittenBy.{Fit, fit-measured, write-fit}
use Rattle.readback.specs.Demands.{MetresBack, WholeBack, text_in, sides_with, site_with, ReadBack, Accepted}
use Rattle.readback.proofs.Spelled.{metres-spell, whole-spell}
use Rattle.readback.proofs.HeaderBack.{Written, frame_of, header-back, rows_back}
use Rattle.readback.proofs.RowsBack.{Small, rows-good}

pub metres-back : MetresBack
metres-back = metres-spell

pub whole_back : WholeBack
whole_back = whole-spell

-- ---- what the writer is given can be spelled and read
-- a depth is -9999, or at most 128,000
depth-cases : (b : Bool) (n : ℕ) → n < 1000000000000 → Small (cond b (negsuc 9998) (pos n))
depth-cases true n h = omega arith
depth-cases false n h = h

depth_small : (s : Sides) (edge : ℕ) (flags fills : List ℕ) → Measured s edge flags fills → (x y : ℕ) → x < s.nx → y < s.ny → Small (depth_at s edge flags fills x y)
unfolding depth_at
depth_small s edge flags fills m x y h k =
    let n = total s.nz (open_fill s flags fills x y) in
    let l : n ≤ s.nz * 65536 = total-le s.nz (open_fill s flags fills x y) 65536 (λ z j. open-le s flags fills x y z (none-bad m h k) j) in
    let p : n * edge ≤ n * 1000 = mul-le-mul_left n m.short in
    depth-cases (all s.nz (is_wall s flags x y)) (n * edge / 65536) (omega (arith, (good-sides s m.good).z.high))

pub within : (z : ℤ) → coordinate_good z ≡ true → nat_abs z ≤ 10000000000
within (pos n) e = leb-true n 10000000000 (and_right (le_z (negsuc 9999999999) (pos n)) (le_z (pos n) (pos 10000000000)) e)
within (negsuc n) e = omega (arith, leb-true n 9999999999 (and_left (le_z (negsuc 9999999999) (negsuc n)) (le_z (negsuc n) (pos 10000000000)) e))

near : (z : ℤ) → coordinate_good z ≡ true → nat_abs z < 1000000000000000
near z e = omega (arith, within z e)

module _ (s : Sides) (t : Corner) (a : Lent) (room : List ℕ) (done : map_answer s t a room ≡ Done) where
  fits : Fit s t a
  fits = write-fit s t a room done

  measured : Measured s (nat_abs t.edge) a.flags a.fills
  measured = fit-measured s t a fits

  written : Written (frame_of s t)
  unfolding corner_good
  written =
      let g = good-sides s measured.good in
      let e = fits.corner in
      let ex = and_left (edge_good t.edge && coordinate_good t.x) (coordinate_good t.y) e in
      record {
        nx = omega (arith, g.x.high);
        ny = omega (arith, g.y.high);
        x = near t.x (and_right (edge_good t.edge) (coordinate_good t.x) ex);
        y = near t.y (and_right (edge_good t.edge && coordinate_good t.x) (coordinate_good t.y) e);
        edge = omega (arith, measured.short);
      }

  abbrev rows : List ℕ
  rows = rows_text (depth_at s (nat_abs t.edge) a.flags a.fills) s.nx s.ny

  map_is : map_of s t a ≡ header_text s t rows
  unfolding map_text
  map_is = refl

  text-is : text_in s t a room ≡ map_of s t a
  unfolding map_written map_room
  text-is = rw done (take_at (map_of s t a) (drop (length (map_of s t a)) room) (length (map_of s t a)) refl)

  -- the header, and the rows behind it
  header_read : header_of (map_of s t a) ≡ Ok (frame_of s t)
  header_read = ap header_of map_is ∙ header-back s t written rows

  rows-read : rows_of s.ny s.nx (from_line 6 (map_of s t a)) 7 ≡ Ok tt
  rows-read =
      ap (λ (l : List ℕ). rows_of s.ny s.nx (from_line 6 l) 7) map_is
      ∙ ap (λ (l : List ℕ). rows_of s.ny s.nx l 7) (rows_back s t written rows)
      ∙ some s.nx refl
    where
      some : (n : ℕ) → s.nx ≡ n → rows_of s.ny n (rows_text (depth_at s (nat_abs t.edge) a.flags a.fills) n s.ny) 7 ≡ Ok tt
      some zero e = absurd (omega (arith, (good-sides s measured.good).x.low))
      some (suc n) e = rows-good (depth_at s (nat_abs t.edge) a.flags a.fills) n s.ny 7 (λ x y h k. depth_small s (nat_abs t.edge) a.flags a.fills measured x y (omega arith) k)

  module _ (nz : ℕ) (oz : ℤ) (g : Settings) (l : Lengths) where
    answer-is : grid_answer (map_of s t a) (sides_with s nz) g (site_with t oz) l ≡ given_answer (sides_with s nz) g (site_with t oz) l Done
    unfolding grid_answer
    answer-is = ap (λ r. given_answer (sides_with s nz) g (site_with t oz) l (rows_answer r)) rows-read

    read_is : read_head (text_in s t a room) nz oz g l ≡ told_head (given_answer (sides_with s nz) g (site_with t oz) l Done) (sides_with s nz) g (site_with t oz)
    unfolding read_head
    read_is =
        ap (λ (x : List ℕ). read_head x nz oz g l) text-is
        ∙ ap (λ (h : Result Frame ℕ). head_by h (map_of s t a) nz oz g l) header_read
        ∙ ap (λ (x : Answer). told_head x (sides_with s nz) g (site_with t oz)) answer-is

pub read_back : ReadBack
read_back s t a room done nz oz g l = read_is s t a room done nz oz g l

pub accepts : Accepted
unfolding given_answer
accepts s t a room done oz g l good fit =
    read_back s t a room done s.nz oz g l
    ∙ rw ((measured s t a room done).good, fit, good) refl
