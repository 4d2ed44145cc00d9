use Rattle.ttrpc_server.proofs.Words.{rules, ℕ, subst}
use Rattle.ttrpc_server.specs.Streaming.{SendsEnd}
use Rattle.ttrpc_server.proofs.Concluding.{ends_so}
use Rattle.ttrpc_server.proofs.server.ServerCore.end_stream.Goals as goal

pub returns-clause-ended : goal.returns-clause-ended
returns-clause-ended g c =
    let out = g.O.OutboundTransform in
    let old = c.args.self.now in
    let mid = c.conclude.new.self in
    let found = c.in_ok-stream_id.ensures.ok in
    let sends = subst (λ (k : ℕ). SendsEnd out old.connection.outbox k c.args.end.now mid.connection.outbox) found.3 c.in_ok-conclude.ensures.ok in
    ends_so out old mid c.end_stream.new.self c.args.id c.args.end.now found.0 (search rules) (search rules) found.1 found.2 sends c.conclude.ensures.same c.end_stream.ensures.ended c.end_stream.ensures.same
