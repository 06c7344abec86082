-- The figures of the pools hold: each is computed from a guess at the cells' lowest cells, which passes the test by which a guess is right. Assumes nothing.
use mathlib.Core.Path.{◌≡◌, refl, sym, ◌∙◌, subst}
use mathlib.Core.Bool.{Bool, true, false, ◌&&◌, ◌||◌, cond}
use mathlib.Core.List.{List, [], ◌∷◌, ◌++◌}
use Prim.Native.Nat.{ℕ}
use lib.Dec.{T, eqb}
use lib.IntN.{ℤ}
use Rattle.whole.specs.laws.Bools.{T_true}
use Rattle.whole.specs.Fold.{open-fold}
use Rattle.lattice.specs.Lattice.{open-lattice}
use Rattle.lattice.specs.Cell.{open-cell}
use Rattle.grid.specs.Answer.{Answer, Done}
use Rattle.grid.specs.Grid.{sides_good, grid_of, open-grid}
use Rattle.grid.specs.State.{open-state, flag_of}
use Rattle.grid.specs.Step.{open_step}
use Rattle.grid.specs.Good.{open-good}
use Rattle.grid.specs.Outcome.{accepted, open-outcome}
use Rattle.pumps.specs.Three.{three_good, open-three}
use Rattle.pools.specs.Outcome as pools
use Rattle.pools.specs.Outcome.{tested}
use Rattle.pools.proofs.Tested.{lengths, then-tested}
use Rattle.pools.proofs.Guessed.{Right, guessed, guess-right, told_guess, room_guess, open-guess}
use Rattle.figures.specs.Lakes.{lake_sides, lake, space, told_list, asked, two_pools, no_room, one_pool, pool_figures}
use Rattle.figures.specs.Table.{Figure, same_z, hold}
use Rattle.std.specs.Prelude.{Ok, Err}

-- the lowest cells: each its own, and with 22 between them 21
abbrev low : Bool → ℕ → ℕ
low between c = cond (between && (eqb c 22 || eqb c 42)) 21 c

is-done : (a : Answer) → T (accepted a) → a ≡ Done
is-done (Ok _) t = refl
is-done (Err refusal) t = absurd t

-- a figure before others
pub more : (f : Figure) (fs : List Figure) → T (same_z f.worked f.said) → T (hold fs) → T (hold (f ∷ fs))
more f fs s t = go (same_z f.worked f.said) s
  where
    go : (b : Bool) → T b → T (b && hold fs)
    go true u = t
    go false u = u

-- ---- the tests, computed
good-two : T (accepted (three_good lake_sides (lake false) Done))
unfolding open-fold open-lattice open-cell open-grid open-state open_step open-good open-outcome
good-two = tt

good-one : T (accepted (three_good lake_sides (lake true) Done))
unfolding open-fold open-lattice open-cell open-grid open-state open_step open-good open-outcome
good-one = tt

sides-pass : T (sides_good lake_sides)
unfolding open-grid
sides-pass = tt

fits-two : T (lengths lake_sides (lake false) (space 3))
unfolding open-fold open-grid open-three
fits-two = tt

fits-short : T (lengths lake_sides (lake false) (space 1))
unfolding open-fold open-grid open-three
fits-short = tt

fits_one : T (lengths lake_sides (lake true) (space 1))
unfolding open-fold open-grid open-three
fits_one = tt

guess-two : T (guessed 18 (grid_of lake_sides) (flag_of (lake false).flags) (low false))
unfolding open-fold open-lattice open-grid open-state open-guess
guess-two = tt

guess-one : T (guessed 18 (grid_of lake_sides) (flag_of (lake true).flags) (low true))
unfolding open-fold open-lattice open-grid open-state open-guess
guess-one = tt

-- ---- what the guess gives, computed
told-two : T (same_z (told_list (told_guess lake_sides (lake false) (space 3) (low false)) (room_guess lake_sides (lake false) (space 3) (low false))) two_pools)
unfolding open-fold open-lattice open-grid open-state open-guess told_guess room_guess
told-two = tt

told-short : T (same_z (told_list (told_guess lake_sides (lake false) (space 1) (low false)) (room_guess lake_sides (lake false) (space 1) (low false))) no_room)
unfolding open-fold open-lattice open-grid open-state open-guess told_guess room_guess
told-short = tt

told-one : T (same_z (told_list (told_guess lake_sides (lake true) (space 1) (low true)) (room_guess lake_sides (lake true) (space 1) (low true))) one_pool)
unfolding open-fold open-lattice open-grid open-state open-guess told_guess room_guess
told-one = tt

-- ---- and so is the outcome
module _ (between : Bool) (n : ℕ) (said : List ℤ) where
  by-guess : T (accepted (three_good lake_sides (lake between) Done)) → T (lengths lake_sides (lake between) (space n)) → T (guessed 18 (grid_of lake_sides) (flag_of (lake between).flags) (low between))
      → T (same_z (told_list (told_guess lake_sides (lake between) (space n) (low between)) (room_guess lake_sides (lake between) (space n) (low between))) said)
      → T (same_z (told_list (pools.pools_answer lake_sides (lake between) (space n)) (pools.pools_room lake_sides (lake between) (space n))) said)
  by-guess p l g t =
      let done : tested lake_sides (lake between) (space n) ≡ Done = sym (then-tested lake_sides (lake between) (space n) (T_true _ sides-pass) (T_true _ l)) ∙ is-done _ p in
      let r : Right lake_sides (lake between) (space n) (low between) = guess-right lake_sides (lake between) (space n) (low between) done (T_true _ g) in
      subst (λ (xs : List ℤ). T (same_z xs said)) (sym (λ i. told_list (r.told_is i) (r.room-is i))) t

pub lakes-hold : T (hold pool_figures)
lakes-hold =
    more (asked false 3 two_pools) (asked false 1 no_room ∷ asked true 1 one_pool ∷ []) (by-guess false 3 two_pools good-two fits-two guess-two told-two)
    (more (asked false 1 no_room) (asked true 1 one_pool ∷ []) (by-guess false 1 no_room good-two fits-short guess-two told-short)
    (more (asked true 1 one_pool) [] (by-guess true 1 one_pool good-one fits_one guess-one told-one) tt))

-- one table after another
pub hold-both : (xs ys : List Figure) → T (hold xs) → T (hold ys) → T (hold (xs ++ ys))
hold-both [] ys s t = t
hold-both (f ∷ xs) ys s t = go (same_z f.worked f.said) s (λ u. hold-both xs ys u t)
  where
    go : (b : Bool) → T (b && hold xs) → (T (hold xs) → T (hold (xs ++ ys))) → T (b && hold (xs ++ ys))
    go true s r = r s
    go false s r = s
