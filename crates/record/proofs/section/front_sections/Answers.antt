-- `record::section::front_sections`: sections 2 to 5 with the grid record's counts. Assumes nothing.
use mathlib.Core.Path.{sym, ap, ◌∙◌, subst}
use Prim.Native.Nat.{ℕ, ◌≤◌}
use native.Mathlib.Omega.{arith}
use Rattle.grid.specs.Answer.{Done}
use Rattle.record.specs.Places.{counts}
use Rattle.record.specs.Reading.{fronts_on}
use Rattle.record.proofs.FlagPart.{totals-few}
use Rattle.record.proofs.section.front_sections.Goals as goal

pub sections_behind-requires : goal.sections_behind-requires
sections_behind-requires c =
    let d = c in
    record { sides_bound = omega arith; settings_bound = omega arith; origin_bound = omega arith; k_bound = subst (λ (k : ℕ). k ≤ 3) (sym c.totals_in.ensures) (totals-few d.args.rec.now); n_bound = d.requires }

pub returns : goal.returns
returns c =
    let a = c.args in
    c.sections_behind.ensures ∙ ap (λ (k : ℕ). fronts_on a.rec.now counts k a.n Done) c.totals_in.ensures
