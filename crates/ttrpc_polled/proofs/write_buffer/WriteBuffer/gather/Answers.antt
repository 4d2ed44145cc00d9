use Rattle.std.proofs.Common.{◌≡◌, sym, ◌∙◌}
use Rattle.ttrpc_polled.proofs.Gathering.{still_some}
use Rattle.ttrpc_polled.proofs.write_buffer.WriteBuffer.gather.Goals as goal

pub returns-clause-some : goal.returns-clause-some
returns-clause-some g c some none =
    let taken = c.take_loans.ensures.gathers in
    still_some c.args.self.now.kept taken.0 c.take_loans.new.self.kept some taken.2 (sym c.let_go.ensures ∙ none)
