use Rattle.std.proofs.Common.{◌≡◌, sym, ap, ap₂, ◌∙◌, subst, List, ℕ, ◌+◌, ◌*◌, ◌<◌, ℤ, pos, ◌≤ℤ◌, length, get_or, w32, arith, rules}
use mir.Val.{to_z, of_z}
use Rattle.whole.specs.Fold.{count}
use Rattle.whole.specs.laws.Tab.{Upto, upto_zero, upto-more, upto_all}
use Rattle.lattice.specs.Lattice.{d3q19, density}
use Rattle.grid.specs.State.{by_flag, flag_of}
use Rattle.grid.specs.Step.{fill_for}
use Rattle.grid.proofs.Lists.{get_or-there}
use Rattle.record.specs.Bytes.{i32_at}
use Rattle.record.specs.Layout.{interfaces}
use Rattle.record.specs.inner.Passes.{mass_loaded, fill_loaded, loaded_mass, loaded_fill}
use Rattle.record.proofs.Gathered.{interfaces-more, interfaces-le}
use Rattle.record.proofs.ByFlag.{by-twice, fill-twice}
use Rattle.reading.proofs.weigh.load_masses.Goals as goal

abbrev ρ-of : List ℤ → ℕ → ℤ
ρ-of parts c = density d3q19 (λ k. get_or parts (19 * c + k) (pos 0))

-- what is stored is this cell's
mass-here : (rec flags : List ℕ) (from at c : ℕ) (parts : List ℤ) → c < length flags → at ≡ from + 4 * interfaces c (flag_of flags)
    → by_flag (get_or flags c 0) (pos 0) (i32_at rec at) (by_flag (get_or flags c 0) (pos 0) (ρ-of parts c) (ρ-of parts c) (pos 0)) (pos 0) ≡ loaded_mass rec flags from parts c
unfolding mass_loaded
mass-here rec flags from at c parts h e =
    by-twice (get_or flags c 0) (pos 0) (i32_at rec at) (ρ-of parts c)
    ∙ ap₂ (λ (f i : ℕ). by_flag f (pos 0) (i32_at rec i) (ρ-of parts c) (pos 0)) (get_or-there flags c 0 3 h) e

fill_here : (rec flags : List ℕ) (from c : ℕ) (parts : List ℤ) → c < length flags
    → fill_for (get_or flags c 0) (loaded_mass rec flags from parts c) (by_flag (get_or flags c 0) (pos 0) (ρ-of parts c) (ρ-of parts c) (pos 0)) ≡ loaded_fill rec flags from parts c
unfolding fill_loaded
fill_here rec flags from c parts h =
    fill-twice (get_or flags c 0) (loaded_mass rec flags from parts c) (ρ-of parts c)
    ∙ ap (λ (f : ℕ). fill_for f (loaded_mass rec flags from parts c) (ρ-of parts c)) (get_or-there flags c 0 3 h)

pub loop-c-init : goal.loop-c-init
unfolding interfaces count
loop-c-init c = let a = c.args in (
  omega arith,
  upto_zero (pos 0) (loaded_mass a.rec.now a.flags.now a.from a.parts.now) a.masses.now,
  upto_zero 0 (loaded_fill a.rec.now a.flags.now a.from a.parts.now) a.fills.now,
)

pub cell_mass-m-requires : goal.cell_mass-m-requires
cell_mass-m-requires c = let s = c.args.flags.now in
    let k = c.loop-c.c in
    omega (arith, interfaces-more s k c.loop-c-test.true, interfaces-le (k + 1) (length s) (flag_of s) (omega arith), c.loop-c.invariant.0)

pub cell_fill-requires : goal.cell_fill-requires
cell_fill-requires c =
    λ e.
    let s = c.args.flags.now in
    let k = c.loop-c.c in
    let h = c.loop-c-test.true in
    let p = ρ-of c.args.parts.now k in
    let z = sym (ap (λ (f : ℕ). by_flag f (pos 0) p p (pos 0)) e) in
    let ρ : to_z w32 (of_z w32 c.cell_density-rho.result) ≡ by_flag (get_or s k 0) (pos 0) p p (pos 0) = search rules in
    subst (λ (x : ℤ). pos 294912 ≤ℤ x) (z ∙ sym ρ) (c.requires.weighed.heavy k h (sym (get_or-there s k 0 3 h) ∙ e))

pub overflow_add-at : goal.overflow_add-at
overflow_add-at c = let s = c.args.flags.now in
    let k = c.loop-c.c in
    omega (arith, c.one_interface.ensures, interfaces-more s k c.loop-c-test.true, interfaces-le (k + 1) (length s) (flag_of s) (omega arith), c.loop-c.invariant.0)

pub loop-c-preserved : goal.loop-c-preserved
loop-c-preserved c = let a = c.args in
    let r = a.rec.now in
    let s = a.flags.now in
    let ps = a.parts.now in
    let k = c.loop-c.c in
    let h = c.loop-c-test.true in
    let (at, masses, fills) = c.loop-c.invariant in
    let ρ : to_z w32 (of_z w32 c.cell_density-rho.result) ≡ by_flag (get_or s k 0) (pos 0) (ρ-of ps k) (ρ-of ps k) (pos 0) = search rules in
    let m : to_z w32 (of_z w32 c.cell_mass-m.result) ≡ by_flag (get_or s k 0) (pos 0) (i32_at r c.loop-c.at) (to_z w32 (of_z w32 c.cell_density-rho.result)) (pos 0) = search rules in
    let mass-now = m ∙ ap (λ (z : ℤ). by_flag (get_or s k 0) (pos 0) (i32_at r c.loop-c.at) z (pos 0)) ρ ∙ mass-here r s a.from c.loop-c.at k ps h at in
    let fill-now = c.cell_fill.ensures ∙ ap₂ (λ (x y : ℤ). fill_for (get_or s k 0) x y) mass-now ρ ∙ fill_here r s a.from k ps h in (
      omega (arith, c.one_interface.ensures, interfaces-more s k h),
      upto-more (pos 0) (loaded_mass r s a.from ps) c.loop-c.masses k _ (omega (arith, c.requires.masses_len)) masses mass-now,
      upto-more 0 (loaded_fill r s a.from ps) c.loop-c.fills k _ (omega (arith, c.requires.fills_len)) fills fill-now,
    )

pub returns : goal.returns
returns c = let a = c.args in
    let s = a.flags.now in
    let (at, masses, fills) = c.loop-c.invariant in
    let e : c.loop-c.c ≡ length s = omega arith in
    let mass = loaded_mass a.rec.now s a.from a.parts.now in
    let fill = loaded_fill a.rec.now s a.from a.parts.now in
    record {
      masses-are = upto_all (pos 0) mass c.loop-c.masses (length s) (omega (arith, c.requires.masses_len)) (subst (λ (n : ℕ). Upto (pos 0) mass c.loop-c.masses n) e masses);
      fills-are = upto_all 0 fill c.loop-c.fills (length s) (omega (arith, c.requires.fills_len)) (subst (λ (n : ℕ). Upto 0 fill c.loop-c.fills n) e fills);
    }
