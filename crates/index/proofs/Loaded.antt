-- Of a loaded set both questions answer as a full walk of its flags. Assumes nothing.
use mathlib.Core.Path.{◌≡◌, refl, sym, ap, ◌∙◌}
use mathlib.Core.Bool.{true, ◌&&◌}
use Prim.Native.Nat.{ℕ, ◌+◌, ◌-◌, ◌<◌}
use native.Mathlib.Omega.{arith}
use lib.ListN.{get_or}
use Rattle.whole.specs.laws.Bools.{and_right}
use Rattle.whole.specs.laws.Search.{first_cong}
use Rattle.lattice.specs.Lattice.{d3q19}
use Rattle.grid.specs.declared.Sides.{Sides}
use Rattle.grid.specs.Answer.{Done}
use Rattle.grid.specs.Grid.{cells_of, sides_good, grid_of}
use Rattle.grid.specs.State.{Lent, state_of}
use Rattle.grid.specs.Outcome.{or_refuse}
use Rattle.grid.proofs.Accepted.{passed, sound}
use Rattle.pumps.specs.Three.{number_in, totals_good, three_lengths}
use Rattle.index.specs.Index.{Index, words_of, interface, word_of, surface_cells, index_of, index_sized, index_true, is_set, how_many, next_from}
use Rattle.index.specs.Outcome.{true_answer, load_answer, told}
use Rattle.index.specs.inner.Laid.{Room}
use Rattle.index.specs.Walked.{AsWalked}
use Rattle.index.proofs.Flagged.{room_of, true-words, true-index, as-flags, same_number}
use Rattle.index.proofs.Answers.{next-asked, count-told}
use Rattle.grid.proofs.Inside.{few as few-cells}
use Rattle.grid.specs.declared.refusals.Refusal.TheVariants.{BadIndex, BadLength, BadSides, BadState}

module _ (s : Sides) (a : Lent) (x : Index) (loaded : load_answer s a x ≡ Done) where
  abbrev n : ℕ
  n = cells_of s

  -- what the tests left
  record Passed : Type 0 where
    pub sides : sides_good s ≡ true
    pub lengths : (three_lengths n a && index_sized n x) ≡ true
    pub true-now : index_true n a.flags x ≡ true

  pass : Passed
  unfolding load_answer true_answer
  pass =
      let one = passed (sides_good s) BadSides _ loaded in
      let two = passed (three_lengths n a && index_sized n x) BadLength _ one.1 in
      let six = sound d3q19 (grid_of s) (state_of 18 a) (or_refuse (totals_good (number_in a 1) (number_in a 2)) (BadState n) (true_answer n a.flags x Done)) two.1 in
      let last = passed (totals_good (number_in a 1) (number_in a 2)) (BadState n) (true_answer n a.flags x Done) six.1 in
      record { sides = one.0; lengths = two.0; true-now = (passed (index_true n a.flags x) BadIndex Done last.1).0 }

  room : Room n x
  room = room_of n x (few-cells s pass.sides) (and_right (three_lengths n a) (index_sized n x) pass.lengths)

  -- the index is the one that the flags make
  pub loaded-index : x ≡ index_of n a.flags
  loaded-index = true-index n a.flags x room pass.true-now

  word-is : (k : ℕ) → k < words_of n → get_or x.words k 0 ≡ word_of n a.flags k
  word-is = true-words n a.flags x pass.true-now

  pub same : (c : ℕ) → c < n → is_set x.words c ≡ interface a.flags c
  same = as-flags n a.flags x.words word-is

  pub number : how_many n x.words ≡ surface_cells n a.flags
  number = same_number n a.flags x.words word-is

  pub as-walked : AsWalked s a x
  unfolding index_of next_from
  as-walked = record {
    cells = sym (count-told s x.words pass.sides n refl (words_of n) refl room.words (surface_cells n a.flags) (sym number));
    stored = ap (λ (y : Index). y.count) loaded-index;
    next = λ start h.
        next-asked s x.words start pass.sides room.words h
        ∙ ap (told n start) (first_cong (n - start) start (is_set x.words) (interface a.flags) (λ k l. same (start + k) (omega arith)));
  }
