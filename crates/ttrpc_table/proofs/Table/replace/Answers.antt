-- To put a value under a key that is there is to write it in its place.
use Rattle.ttrpc_table.proofs.Parts.{replaced}
use Rattle.ttrpc_table.proofs.Table.replace.Goals as goal

pub returns-in-Some-clause-entries : goal.returns-in-Some-clause-entries
returns-in-Some-clause-entries g c = rw c.replace.ensures.after (replaced c.args.key c.args.value c.args.self.now c.requires c.in-Some.slot.now c.in-Some.ensures.value)
