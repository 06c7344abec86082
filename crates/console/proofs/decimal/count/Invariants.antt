-- `console::decimal::count`: what is left spells, after what was read, what the whole text spells. Assumes nothing.
use Rattle.console.proofs.Decimals.{Reading}
use Rattle.console.proofs.decimal.count.Given as goal

abbrev pub invariant-loop-d : goal.invariant-loop-d
invariant-loop-d l = Reading l.text l.most l.n l.d-index
