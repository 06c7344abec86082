-- Tests that are joined: what `a && b`, `a || b` and `cond` say of their parts. `T b` and `b ≡ true` are the two ways in which the prover hands a
-- test over; each law stands in the form in which it is asked for.
-- Use: `and_right (ltb x 4) (eqb x 3) e` is `eqb x 3 ≡ true`, from `e : (ltb x 4 && eqb x 3) ≡ true`. Assumes nothing.
use Rattle.std.specs.Prelude.{◌≡◌, refl, ◌⊎◌, Bool, true, false, ◌&&◌, ◌||◌, not, cond, T}
use Rattle.std.proofs.Common.{sym, ◌∙◌, subst, inl, inr}
use Rattle.std.proofs.lemmas.Bool.{false≢true}

-- ---- as equations
pub and_left : (a b : Bool) → (a && b) ≡ true → a ≡ true
and_left true b e = refl
and_left false b e = e

pub and_right : (a b : Bool) → (a && b) ≡ true → b ≡ true
and_right true b e = e
and_right false b e = absurd (false≢true e)

pub and-true : (a b : Bool) → a ≡ true → b ≡ true → (a && b) ≡ true
and-true true b e k = k
and-true false b e k = e

pub and_yes : (a b : Bool) → b ≡ true → (a && b) ≡ a
and_yes true b e = e
and_yes false b e = refl

pub or_left : (a b : Bool) → a ≡ true → (a || b) ≡ true
or_left true b e = refl
or_left false b e = absurd (false≢true e)

pub or_right : (a b : Bool) → b ≡ true → (a || b) ≡ true
or_right true b e = refl
or_right false b e = e

pub or_cases : (a b : Bool) → (a || b) ≡ true → (a ≡ true) ⊎ (b ≡ true)
or_cases true b e = inl refl
or_cases false b e = inr e

pub or-false : (a b : Bool) → (a || b) ≡ false → (a ≡ false) × (b ≡ false)
or-false true b e = absurd (false≢true (sym e))
or-false false b e = (refl, e)

-- `not a || b` is: where a, there b
pub where-then : (a b : Bool) → (not a || b) ≡ true → a ≡ true → b ≡ true
where-then true b e t = e
where-then false b e t = absurd (false≢true t)

-- a test that can only fail
pub never : (b : Bool) → (b ≡ true → ⊥) → b ≡ false
never true h = absurd (h refl)
never false h = refl

-- ---- as truths
pub T-left : (a b : Bool) → T (a && b) → T a
T-left true b t = tt
T-left false b t = t

pub T-right : (a b : Bool) → T (a && b) → T b
T-right true b t = t
T-right false b t = absurd t

pub T_true : (t : Bool) → T t → t ≡ true
T_true true h = refl
T_true false h = absurd h

pub true-T : {t : Bool} → t ≡ true → T t
true-T e = subst T (sym e) tt

-- ---- the choice
module _ {ℓ} {A : Type ℓ} where
  pub cond_yes : {b : Bool} (x y : A) → b ≡ true → cond b x y ≡ x
  cond_yes x y e = rw e refl

  pub cond_no : {b : Bool} (x y : A) → b ≡ false → cond b x y ≡ y
  cond_no x y e = rw e refl
