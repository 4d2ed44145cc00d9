use Rattle.std.proofs.Common.{rules}
use Rattle.std.specs.Int.{w32, w64}
use Rattle.std.proofs.lemmas.Int.{to_z-of_z}
use Rattle.std.proofs.lemmas.Result.{err_from_is_err_and}
use Rattle.ttrpc_well_known.proofs.messages.Timestamp.to_system_time.Goals as goal

pub returns-in_err-span-clause-err : goal.returns-in_err-span-clause-err
returns-in_err-span-clause-err c =
    let p = err_from_is_err_and c.from_residual.result c.from_residual.ensures.1 in
    let s = to_z-of_z w64 c.args.self.now.seconds (search rules) in
    let n = to_z-of_z w32 c.args.self.now.nanos (search rules) in
    rw p.1 (simp (s, n) at c.in_err-span.ensures.err)
