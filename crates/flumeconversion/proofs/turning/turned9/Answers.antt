-- `flumeconversion::turning::turned9`: flags and carry are copied; where nothing converts that is the next state, else passes 2 to 7 make it. Assumes nothing.
use Rattle.flumeconversion.proofs.Turns.{calm-turned, turning-on}
use Rattle.flumeconversion.proofs.turning.turned9.Goals as goal

pub returns-then-calm : goal.returns-then-calm
returns-then-calm c = calm-turned c.requires c.if-calm.true c.copy.ensures c.copy-2.ensures

pub converted9-requires : goal.converted9-requires
converted9-requires c = (turning-on c.requires c.copy.ensures c.copy-2.ensures, c.copy.ensures)
