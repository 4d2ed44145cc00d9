-- The older keys are below all of the row, so below a key that is above some of it.
use Rattle.ttrpc_table.proofs.Parts.{newer}
use Rattle.ttrpc_table.proofs.goes_to_row.Goals as goal

pub returns-then-i-gt0-clause-yes : goal.returns-then-i-gt0-clause-yes
returns-then-i-gt0-clause-yes g c = λ is. newer _ c.args.keys.now.items c.args.key c.args.i c.requires.rise c.requires.place c.if-i-gt0.true
