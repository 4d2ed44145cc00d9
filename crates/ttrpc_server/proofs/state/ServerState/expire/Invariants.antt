use Rattle.ttrpc_server.proofs.Words.{◌≡◌}
use Rattle.ttrpc_server.proofs.Expiring.{SoFar}
use Rattle.ttrpc_server.specs.contracts.state.ServerState.{the_view}
use Rattle.ttrpc_server.proofs.state.ServerState.expire.Given as goal

-- those that are listed stay so
abbrev pub invariant-loop-place : goal.invariant-loop-place
invariant-loop-place g l = record {
  so_far : SoFar g.O.OutboundTransform l.fn.self l.fn.outbox l.now l.place (the_view l.self-inside) l.self-inside.index l.self-inside.expiry l.outbox;
  listed : l.self-inside.expiry.due ≡ l.initial.self-inside.expiry.due;
}
