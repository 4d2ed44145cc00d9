use Rattle.std.proofs.Common.{rules}
use Rattle.std.specs.Int.{w32, w64}
use Rattle.std.proofs.lemmas.Int.{to_z-of_z}
use Rattle.ttrpc_well_known.proofs.messages.Duration.to_std.Goals as goal

pub returns-clause-err : goal.returns-clause-err
returns-clause-err c =
    let s = to_z-of_z w64 c.args.self.now.seconds (search rules) in
    let n = to_z-of_z w32 c.args.self.now.nanos (search rules) in
    simp (s, n) at c.whole.ensures.err
