-- Storing a text piece by piece: what is stored, and what is left of it, are the whole. Assumes nothing.
use mathlib.Core.Path.{◌≡◌, refl, sym, ap, ◌∙◌, subst}
use mathlib.Core.List.{List, [], ◌++◌, append_assoc, append-nil}
use Prim.Native.Nat.{ℕ, ◌+◌, ◌≤◌}
use native.Mathlib.Omega.{arith}
use lib.IntN.{ℤ}
use lib.ListN.{length, length-append}
use Rattle.spelling.specs.Spelling.{metres_of}
use Rattle.spelling.specs.inner.Put.{Put}
use Rattle.spelling.proofs.Putting.{put-none, put-long, put_as, put_then}
use Rattle.depths.specs.Map.{line_text}
use Rattle.depths.proofs.Texts.{line-then}

pub record Under (whole room : List ℕ) (at : ℕ) (rest after : List ℕ) (r : ℕ) : Type 0 where
  pub front : List ℕ
  pub put : Put room at front after r
  pub adds : front ++ rest ≡ whole

pub under-begin : {whole room : List ℕ} {at : ℕ} → Under whole room at whole room at
under-begin {whole} {room} {at} = record { front = []; put = put-none room at; adds = refl }

pub under_more : {whole room rest after a left next : List ℕ} {at r q : ℕ} → Under whole room at rest after r → rest ≡ a ++ left → Put after r a next q → Under whole room at left next q
under_more {a = a} {left = left} u e p = record {
  front = u.front ++ a;
  put = put_then u.put p;
  adds = append_assoc u.front a left ∙ ap (λ (l : List ℕ). u.front ++ l) (sym e) ∙ u.adds;
}

pub under-end : {whole room rest after : List ℕ} {at r : ℕ} → Under whole room at rest after r → rest ≡ [] → Put room at whole after r
under-end u e = put_as u.put (sym (append-nil u.front) ∙ ap (λ (l : List ℕ). u.front ++ l) (sym e) ∙ u.adds)

pub under-long : {whole room rest after : List ℕ} {at r : ℕ} → Under whole room at rest after r → length after ≡ length room
under-long u = put-long u.put

-- room for the next piece
pub under-room : {whole room rest after : List ℕ} {at r : ℕ} (a left : List ℕ) → Under whole room at rest after r → rest ≡ a ++ left → at + length whole ≤ length room → r + length a ≤ length after
under-room {whole} {room} {rest} {after} {at} {r} a left u e h =
    omega (arith, u.put.end, put-long u.put, length-append u.front rest, ap length u.adds, ap length e, length-append a left)

-- the next line
line-split : (key w rest : List ℕ) → line_text key w rest ≡ line_text key w [] ++ rest
line-split key w rest = sym (line-then key w [] rest)

pub line-more : {whole room after next : List ℕ} {at r q : ℕ} (key w rest : List ℕ) → Under whole room at (line_text key w rest) after r → Put after r (line_text key w []) next q → Under whole room at rest next q
line-more key w rest u p = under_more u (line-split key w rest) p

pub line-room : {whole room after : List ℕ} {at r : ℕ} (key w rest : List ℕ) → Under whole room at (line_text key w rest) after r → at + length whole ≤ length room → r + length (line_text key w []) ≤ length after
line-room key w rest u h = under-room (line_text key w []) rest u (line-split key w rest) h

pub under-as : {whole room rest left after : List ℕ} {at r : ℕ} → Under whole room at rest after r → rest ≡ left → Under whole room at left after r
under-as {whole} {room} {after = after} {at = at} {r = r} u e = subst (λ (l : List ℕ). Under whole room at l after r) e u

pub metres-room : {whole room after : List ℕ} {at r : ℕ} {x z : ℤ} (key rest : List ℕ) → Under whole room at (line_text key (metres_of z) rest) after r → at + length whole ≤ length room → x ≡ z
    → r + length (line_text key (metres_of x) []) ≤ length after
metres-room {after = after} {r = r} {x = x} {z = z} key rest u h e =
    subst (λ (y : ℤ). r + length (line_text key (metres_of y) []) ≤ length after) (sym e) (line-room key (metres_of z) rest u h)
